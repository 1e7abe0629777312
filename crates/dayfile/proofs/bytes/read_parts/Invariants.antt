use Rattle.std.proofs.Common.{◌≡◌, length, take}
use Rattle.dayfile.specs.Bytes.{each}
use Rattle.dayfile.proofs.bytes.read_parts.Given as goal

abbrev pub invariant-loop-i : goal.invariant-loop-i
invariant-loop-i g l =
    record {
      front : take l.i l.part-items ≡ each g.T.Part.from g.T.Part.WIDTH l.i l.bytes;
      long : length l.part-items ≡ g.row.N;
    }
