use Rattle.std.proofs.Common.{refl}
use Rattle.explanation.specs.Names.{row_at}
use Rattle.explanation.specs.Agreement.{entry_at, agree}
use Rattle.explanation.proofs.reason.limits_are_those_judged_by.Goals as goal

pub returns : goal.returns
unfolding row_at entry_at agree
returns c = (refl, refl, refl, refl)
