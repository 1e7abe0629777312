-- The records of a day, and the blocks that write them.
use Rattle.std.specs.Prelude.{◌≡◌, ℕ, ◌<◌, cond, List, ◌∷◌, ◌++◌, take, drop, ℤ, ◌==◌, Result, MatchResult, codes, decimal, slice_index}
use Rattle.std.specs.Int.{w32}
use Rattle.std.proofs.Common.{to_z, of_z}
use Rattle.std.specs.List.{flat_map}
use Rattle.dayfile.specs.declared.record.Record.{Record}
use Rattle.dayfile.specs.declared.record.Record.TheVariants.{Day, Participant, Resource, RealTime}
use Rattle.dayfile.specs.declared.record.DayRecord.{DayRecord}
use Rattle.dayfile.specs.declared.record.ParticipantRecord.{ParticipantRecord}
use Rattle.dayfile.specs.declared.record.ResourceRecord.{ResourceRecord}
use Rattle.dayfile.specs.declared.record.RealTimeRecord.{RealTimeRecord}
use Rattle.dayfile.specs.declared.record.Load.{Load}
use Rattle.dayfile.specs.declared.record.Owner.{Owner}
use Rattle.dayfile.specs.declared.record.RealTimeHour.{RealTimeHour}
use Rattle.dayfile.specs.declared.record.Flag.{Flag}
use Rattle.dayfile.specs.declared.record.Flag.TheVariants.{Economic, Lscpr, Var, Scr}
use Rattle.dayfile.specs.declared.record.Event.{Event}
use Rattle.dayfile.specs.declared.record.Event.TheVariants.{Off, PoolRun, SelfRun, Trip, IsoRestart, OwnRestart}
use Rattle.dayfile.specs.declared.record.UnknownNumber.{UnknownNumber}
use Rattle.dayfile.specs.Bytes.{digits, value, weighed, zeros, each}

-- the numbers of flags and events
abbrev pub flag_number : Flag → ℕ
flag_number Economic = 0
flag_number Lscpr = 1
flag_number Var = 2
flag_number Scr = 3

abbrev pub flag_named : ℕ → Flag
flag_named n = cond (n == 0) Economic (cond (n == 1) Lscpr (cond (n == 2) Var Scr))

-- a number read as a flag: the flag that has it, or that no flag has it
abbrev pub FlagNumbered : ℕ → Result Flag UnknownNumber → Type 0
FlagNumbered n r = MatchResult r (λ f. flag_number f ≡ n) (λ e. (e.0 ≡ n) × (3 < n))

abbrev pub event_number : Event → ℕ
event_number Off = 0
event_number PoolRun = 1
event_number SelfRun = 2
event_number Trip = 3
event_number IsoRestart = 4
event_number OwnRestart = 5

abbrev pub event_named : ℕ → Event
event_named n =
    cond (n == 0) Off (cond (n == 1) PoolRun (cond (n == 2) SelfRun (cond (n == 3) Trip (cond (n == 4) IsoRestart OwnRestart))))

-- how a number that none has is shown
abbrev pub unknown_text : ℕ → List ℕ
unknown_text n = codes "the number " ++ decimal n ++ codes " is unknown"

-- a number read as an event, likewise
abbrev pub EventNumbered : ℕ → Result Event UnknownNumber → Type 0
EventNumbered n r = MatchResult r (λ v. event_number v ≡ n) (λ e. (e.0 ≡ n) × (5 < n))

-- what a block holds: its bytes, and how it is read at the front of bytes
abbrev pub byte_bytes : ℕ → List ℕ
byte_bytes n = digits 1 n

abbrev pub byte_from : List ℕ → ℕ
byte_from bs = value 0 1 bs

abbrev pub half_bytes : ℕ → List ℕ
half_bytes n = digits 2 n

abbrev pub half_from : List ℕ → ℕ
half_from bs = value 0 2 bs

abbrev pub word_bytes : ℕ → List ℕ
word_bytes n = digits 4 n

abbrev pub word_from : List ℕ → ℕ
word_from bs = value 0 4 bs

abbrev pub signed_bytes : ℤ → List ℕ
signed_bytes z = digits 4 (of_z w32 z)

abbrev pub signed_from : List ℕ → ℤ
signed_from bs = to_z w32 (value 0 4 bs)

abbrev pub flag_bytes : Flag → List ℕ
flag_bytes f = digits 1 (flag_number f)

abbrev pub flag_from : List ℕ → Flag
flag_from bs = flag_named (value 0 1 bs)

abbrev pub event_bytes : Event → List ℕ
event_bytes e = digits 1 (event_number e)

abbrev pub event_from : List ℕ → Event
event_from bs = event_named (value 0 1 bs)

abbrev pub load_bytes : Load → List ℕ
load_bytes l = digits 4 l.day_ahead ++ (digits 4 l.real_time ++ digits 4 l.deviation)

abbrev pub load_from : List ℕ → Load
load_from bs = record { day_ahead = value 0 4 bs; real_time = value 4 4 bs; deviation = value 8 4 bs }

abbrev pub owner_bytes : Owner → List ℕ
owner_bytes o = digits 2 o.place ++ digits 4 o.parts

abbrev pub owner_from : List ℕ → Owner
owner_from bs = record { place = value 0 2 bs; parts = value 2 4 bs }

abbrev pub hour_bytes : RealTimeHour → List ℕ
hour_bytes h = digits 4 h.dispatch_kwh ++ (digits 4 h.metered_kwh ++ signed_bytes h.lmp)

abbrev pub hour_from : List ℕ → RealTimeHour
hour_from bs = record { dispatch_kwh = value 0 4 bs; metered_kwh = value 4 4 bs; lmp = to_z w32 (value 8 4 bs) }

-- the n bytes of a block from a place on
abbrev pub part : ℕ → ℕ → List ℕ → List ℕ
part at n block = take n (drop at block)

-- the record that a block of each kind says
abbrev pub day_from : List ℕ → DayRecord
day_from head = record { date = value 0 4 head; version = value 4 2 head; participants = slice_index head 6; resources = slice_index head 7 }

abbrev pub day_of : List ℕ → DayRecord
day_of b = day_from (part 4 8 b)

abbrev pub participant_of : List ℕ → ParticipantRecord
participant_of b =
    record {
      number = value 0 4 (part 4 4 b);
      loads = each load_from 12 8 (part 8 96 b);
      network_load = value 0 4 (part 104 8 b);
      scr_weight = value 4 4 (part 104 8 b);
    }

abbrev pub resource_of : List ℕ → ResourceRecord
resource_of b =
    record {
      region = slice_index b 1;
      minimum_run_hours = slice_index b 2;
      minimum_down_hours = slice_index b 3;
      number = value 0 4 (part 4 4 b);
      start_up_cents = value 0 4 (part 8 8 b);
      no_load_cents = value 4 4 (part 8 8 b);
      prices = each signed_from 4 24 (part 16 96 b);
      hours_on_line = slice_index (part 112 8 b) 0;
      owner_count = slice_index (part 112 8 b) 1;
      self_scheduled = value 4 4 (part 112 8 b);
      owners = each owner_from 6 8 (part 120 48 b);
      cleared_kwh = each word_from 4 24 (part 168 96 b);
      lmps = each signed_from 4 24 (part 264 96 b);
      flags = each flag_from 1 24 (part 360 24 b);
    }

abbrev pub real_time_of : List ℕ → RealTimeRecord
real_time_of b =
    record {
      number = value 0 4 (part 4 4 b);
      economic_minimum_kwh = value 0 4 (part 8 4 b);
      hours = each hour_from 12 24 (part 12 288 b);
      events = each event_from 1 24 (part 300 24 b);
      flags = each flag_from 1 24 (part 324 24 b);
    }

-- THE RECORD of a block, by the letter that it begins with: D, P, G, and R otherwise
abbrev pub record_of : List ℕ → Record
record_of b =
    cond (slice_index b 0 == 68) (Day (day_of b))
    (cond (slice_index b 0 == 80) (Participant (participant_of b))
    (cond (slice_index b 0 == 71) (Resource (resource_of b)) (RealTime (real_time_of b))))

abbrev pub kind_of : Record → ℕ
kind_of (Day d) = 68
kind_of (Participant p) = 80
kind_of (Resource g) = 71
kind_of (RealTime r) = 82

-- the first 508 bytes of a block, field by field
abbrev pub day_body : DayRecord → List ℕ
day_body d =
    68 ∷ (zeros 3 ++ (digits 4 d.date ++ (digits 2 d.version ++ (digits 1 d.participants ++ (digits 1 d.resources ++ zeros 496)))))

abbrev pub participant_body : ParticipantRecord → List ℕ
participant_body p =
    80 ∷ (zeros 3 ++ (digits 4 p.number ++ (flat_map load_bytes p.loads ++ (digits 4 p.network_load ++ (digits 4 p.scr_weight ++ zeros 396)))))

abbrev pub resource_body : ResourceRecord → List ℕ
resource_body g =
    71 ∷ (digits 1 g.region ++ (digits 1 g.minimum_run_hours ++ (digits 1 g.minimum_down_hours ++ (digits 4 g.number
    ++ (digits 4 g.start_up_cents ++ (digits 4 g.no_load_cents ++ (flat_map signed_bytes g.prices
    ++ (digits 1 g.hours_on_line ++ (digits 1 g.owner_count ++ (zeros 2 ++ (digits 4 g.self_scheduled ++ (flat_map owner_bytes g.owners
    ++ (flat_map word_bytes g.cleared_kwh ++ (flat_map signed_bytes g.lmps ++ (flat_map flag_bytes g.flags ++ zeros 124)))))))))))))))

abbrev pub real_time_body : RealTimeRecord → List ℕ
real_time_body r =
    82 ∷ (zeros 3 ++ (digits 4 r.number ++ (digits 4 r.economic_minimum_kwh ++ (flat_map hour_bytes r.hours
    ++ (flat_map event_bytes r.events ++ (flat_map flag_bytes r.flags ++ zeros 160))))))

abbrev pub body : Record → List ℕ
body (Day d) = day_body d
body (Participant p) = participant_body p
body (Resource g) = resource_body g
body (RealTime r) = real_time_body r

-- the check of a block is the sum over its first 508 bytes
abbrev pub sealed : List ℕ → List ℕ
sealed bs = bs ++ digits 4 (weighed 0 bs)

-- THE BLOCK of a record
unfoldable pub encode : Record → List ℕ
encode r = sealed (body r)
