-- The admitted day: its records, and the built-in one.
use Rattle.std.specs.Prelude.{ℕ, zero, suc, ◌+◌, cond, List, [], ◌∷◌, ◌++◌, length, drop, replicate, Some, None, Option, Result, nat_lt}
use Rattle.std.specs.List.{flat_map}
use Rattle.dayfile.specs.declared.fault.Fault.{Fault}
use Rattle.dayfile.specs.declared.fault.Fault.TheVariants.{Room}
use Rattle.dayfile.specs.declared.record.Record.{Record}
use Rattle.dayfile.specs.declared.record.Record.TheVariants.{Day, Participant}
use Rattle.dayfile.specs.Records.{record_of, encode}
use Rattle.dayfile.specs.Files.{block, blocks}
use Rattle.dayfile.specs.Writing.{Done}

-- the records of n blocks of a file from block k on
unfoldable pub records_from : List ℕ → ℕ → ℕ → List Record
records_from f k zero = []
records_from f k (suc n) = record_of (block f k) ∷ records_from f (k + 1) n

-- THE RECORDS of a file, block by block
abbrev pub records : List ℕ → List Record
records f = records_from f 0 (blocks f)

-- record k of a file, if there is one
abbrev pub record_at : List ℕ → ℕ → Option Record
record_at f k = cond (nat_lt k (blocks f)) (Some (record_of (block f k))) None

-- A DAY WRITTEN: the buffer begins with the joined blocks of its records, and the rest stays
abbrev pub WritesDay : List ℕ → List ℕ → Result (Unit {0}) Fault → List ℕ → Type 0
WritesDay f was answer after =
    Done (cond (nat_lt (length was) (length f)) (Some Room) None) was (flat_map encode (records f) ++ drop (length f) was) answer after

-- the built-in day: one day and one participant, every field least
abbrev pub built_in : List Record
built_in =
    Day (record { date = 1; version = 1; participants = 1; resources = 0 })
    ∷ Participant (record { number = 1; loads = replicate 8 (record { day_ahead = 0; real_time = 0; deviation = 0 }); network_load = 0; scr_weight = 0 })
    ∷ []
