use Rattle.division.proofs.Weights.{whole_is}
use Rattle.division.proofs.many.Division.whole_part.Goals as goal

pub returns : goal.returns
returns g c = whole_is _ _ _ _ _ c.args.self.now.weighed.0 c.exact.ensures
