use Rattle.std.proofs.Common.{◌≡◌, ℕ, ◌+◌, ◌<◌, map, get_or}
use Rattle.division.specs.Division.{whole_part}
use Rattle.division.specs.Cuts.{part}
use Rattle.division.proofs.Tallies.{tally}
use Rattle.division.proofs.few.note_parts.Given as goal

abbrev pub invariant-loop-i : goal.invariant-loop-i
invariant-loop-i g l =
    (tally (whole_part l.cents (map g.T.Weighted.weighs l.records)) l.i + l.left ≡ l.cents)
    × ((k : ℕ) → k < l.i → get_or l.parts k (record { whole = 0; key = 0 }) ≡ part l.cents (map g.T.Weighted.weighs l.records) k)
