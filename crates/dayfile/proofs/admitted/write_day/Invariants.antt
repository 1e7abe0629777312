use Rattle.std.proofs.Common.{◌≡◌, ◌*◌, ◌≤◌, ◌++◌, take, drop}
use Rattle.dayfile.specs.Files.{blocks}
use Rattle.dayfile.proofs.admitted.write_day.Given as goal

abbrev pub invariant-loop-k : goal.invariant-loop-k
invariant-loop-k l =
    (goal.iterator-loop-k).can_next l.block-iterator
    × (goal.iterator-loop-k).is_finite l.block-iterator
    × (l.out ≡ take (512 * l.k) l.day.file.now ++ drop (512 * l.k) l.initial.out)
    × (l.block-iterator.day ≡ l.day)
    × (l.block-iterator.next ≡ l.k)
    × (l.k ≤ blocks l.day.file.now)
