use Rattle.std.proofs.Common.{◌≡◌, take}
use Rattle.division.specs.Records.{handed}
use Rattle.division.specs.Cuts.{topped}
use Rattle.division.proofs.few.hand_out.Given as goal

abbrev pub invariant-loop-i : goal.invariant-loop-i
invariant-loop-i g l =
    l.records ≡ handed g.T.Weighted.given l.initial.records (take l.i (topped l.bound l.parts))
