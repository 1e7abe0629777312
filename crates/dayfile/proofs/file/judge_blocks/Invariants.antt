use Rattle.std.proofs.Common.{◌≡◌, ◌-◌, ◌≤◌}
use Rattle.dayfile.specs.Kinds.{told}
use Rattle.dayfile.specs.Files.{blocks_fault, standing, blocks}
use Rattle.dayfile.proofs.file.judge_blocks.Given as goal

abbrev pub invariant-loop-k : goal.invariant-loop-k
invariant-loop-k l =
    (blocks_fault l.file l.k (blocks l.file - l.k) ≡ blocks_fault l.file 0 (blocks l.file))
    × (told l.before ≡ standing l.file l.k)
    × (l.before.participants ≤ l.k)
    × (l.before.resources ≤ l.k)
