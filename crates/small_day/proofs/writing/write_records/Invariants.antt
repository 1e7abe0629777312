use Rattle.std.proofs.Common.{◌≡◌, ◌*◌, ◌≤◌, length, take}
use Rattle.std.specs.List.{flat_map}
use Rattle.dayfile.specs.Records.{encode}
use Rattle.small_day.specs.Writing.{FirstWritten}
use Rattle.small_day.proofs.writing.write_records.Given as goal

-- the records before this one are written, and their blocks fit
abbrev pub invariant-loop-k : goal.invariant-loop-k
invariant-loop-k l =
    FirstWritten l.k l.records l.initial.out l.out × (length (flat_map encode (take l.k l.records)) ≡ 512 * l.k) × (512 * l.k ≤ length l.initial.out)
