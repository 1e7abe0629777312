use Rattle.std.proofs.Common.{◌≡◌, map, take}
use Rattle.division.specs.Records.{handed}
use Rattle.division.specs.Division.{divided}
use Rattle.division.proofs.dividing.take_nothing.Given as goal

abbrev pub invariant-loop-record : goal.invariant-loop-record
invariant-loop-record g l =
    l.record-items ≡ handed g.T.Weighted.given l.initial.record-items (take l.record-index (divided 0 (map g.T.Weighted.weighs l.initial.record-items)))
