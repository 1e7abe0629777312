use Rattle.std.proofs.Common.{◌≡◌, ◌+◌, ◌*◌, ◌^◌, ◌≤◌, drop}
use Rattle.dayfile.specs.Owners.{placed, parts_of}
use Rattle.dayfile.proofs.owners.whole.Given as goal

-- what is left gives the answer, and the sum fits
abbrev pub invariant-loop-owner : goal.invariant-loop-owner
invariant-loop-owner l =
    (placed l.least l.limit (drop l.owner-index l.owners) ≡ placed 0 l.limit l.owners)
    × (l.sum + parts_of (drop l.owner-index l.owners) ≡ parts_of l.owners)
    × (l.sum ≤ l.owner-index * 2 ^ 32)
