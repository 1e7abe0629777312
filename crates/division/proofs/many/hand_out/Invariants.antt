use Rattle.std.proofs.Common.{◌≡◌, map, take}
use Rattle.division.specs.Records.{handed}
use Rattle.division.specs.Division.{divided}
use Rattle.division.proofs.many.hand_out.Given as goal

abbrev pub invariant-loop-i : goal.invariant-loop-i
invariant-loop-i g l =
    l.records ≡ handed g.T.Weighted.given l.initial.records (take l.i (divided l.cents (map g.T.Weighted.weighs l.initial.records)))
