use Rattle.std.proofs.Common.{◌≡◌, ◌+◌, ◌*◌, ◌≤◌, drop}
use Rattle.dayfile.specs.Bytes.{weighed}
use Rattle.explanation.proofs.bytes.check_of.Given as goal

-- what is left gives the sum, and the sum fits
abbrev pub invariant-loop-i : goal.invariant-loop-i
invariant-loop-i l =
    (l.sum + weighed l.i (drop l.i l.judged) ≡ weighed 0 l.judged)
    × (l.sum ≤ l.i * 129540)
