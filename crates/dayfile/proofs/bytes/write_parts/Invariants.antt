use Rattle.std.proofs.Common.{◌≡◌, ◌+◌, ◌*◌, take, drop}
use Rattle.std.specs.List.{flat_map, AllByRecursion}
use Rattle.dayfile.specs.Bytes.{laid}
use Rattle.dayfile.proofs.bytes.write_parts.Given as goal

-- what is left to write gives what is to be written
abbrev pub invariant-loop-i : goal.invariant-loop-i
invariant-loop-i g l =
    record {
      left : laid l.block (l.at + l.i * g.T.Part.WIDTH) (flat_map g.T.Part.bytes (drop l.i l.parts)) ≡ laid l.initial.block l.at (flat_map g.T.Part.bytes l.parts);
      sound : AllByRecursion g.T.Part.fits (take l.i l.parts);
    }
