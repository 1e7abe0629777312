use Rattle.division.proofs.Weights.{remainder_is}
use Rattle.division.proofs.many.Division.remainder.Goals as goal

pub returns : goal.returns
returns g c = remainder_is _ _ _ _ _ c.args.self.now.weighed.0 c.exact.ensures
