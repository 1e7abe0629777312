-- Records written one after the other.
use Rattle.std.specs.Prelude.{◌≡◌, ℕ, ◌-◌, ◌*◌, ◌<◌, List, ◌++◌, length, take, drop, Some, None, Ok, Err, Option, Result, slice_get, option_and_then}
use Rattle.std.specs.List.{flat_map}
use Rattle.dayfile.specs.declared.fault.Fault.{Fault}
use Rattle.dayfile.specs.declared.record.Record.{Record}
use Rattle.dayfile.specs.Records.{encode}
use Rattle.dayfile.specs.Writing.{unwritten}

-- why record k is not written behind the blocks of those before it, in so much room
abbrev pub refusal_at : List Record → ℕ → ℕ → Option Fault
refusal_at rs room k = option_and_then (λ r. unwritten r (room - 512 * k)) (slice_get rs k)

-- the first k records are written: none is refused, the buffer begins with their blocks, and the rest stays
abbrev pub FirstWritten : ℕ → List Record → List ℕ → List ℕ → Type 0
FirstWritten k rs was after =
    ((i : ℕ) → i < k → refusal_at rs (length was) i ≡ None) × (after ≡ flat_map encode (take k rs) ++ drop (512 * k) was)

-- RECORDS WRITTEN: all of them; or those before the first that is refused, for whose reason the call is refused
abbrev pub WritesRecords : List Record → List ℕ → Result (Unit {0}) Fault → List ℕ → Type 0
WritesRecords rs was (Ok _) after = FirstWritten (length rs) rs was after
WritesRecords rs was (Err f) after = (k : ℕ) × (k < length rs) × (refusal_at rs (length was) k ≡ Some f) × FirstWritten k rs was after
