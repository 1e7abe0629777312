use Rattle.std.proofs.Common.{◌≡◌, ℕ, ◌+◌, ◌≤◌, length, get_or, take, sum}
use Rattle.dayfile.specs.Bytes.{weighed}
use Rattle.dayfile.proofs.layout.add_row.Given as goal

abbrev pub invariant-loop-k : goal.invariant-loop-k
invariant-loop-k l =
    (length l.once ≡ 16)
    × (length l.often ≡ 16)
    × ((j : ℕ) → l.k ≤ j → get_or l.once j 0 ≡ get_or l.initial.once j 0)
    × (sum l.once ≡ sum l.initial.once + sum (take l.k l.row))
    × (weighed 0 l.once ≡ weighed 0 l.initial.once + weighed 0 (take l.k l.row))
    × (sum l.often ≡ sum l.initial.often + sum (take l.k l.initial.once))
