use Rattle.std.proofs.Common.{◌≡◌, ◌+◌, drop}
use Rattle.explanation.specs.Shares.{used_rule}
use Rattle.explanation.proofs.owners.broken_by_one.Given as goal

-- what is left gives the answer
abbrev pub invariant-loop-i : goal.invariant-loop-i
invariant-loop-i l = used_rule (l.i + 1) l.least l.limit (drop l.i l.owners) ≡ used_rule 1 0 l.limit l.owners
