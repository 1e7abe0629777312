-- Writing records as blocks.
use Rattle.std.specs.Prelude.{◌≡◌, ℕ, ◌^◌, ◌<◌, ◌≤◌, Bool, true, cond, List, ◌++◌, length, drop, Some, None, Ok, Err, Option, Result, FitsSigned, nat_lt}
use Rattle.std.specs.Int.{w32}
use Rattle.std.specs.List.{AllByRecursion}
use Rattle.dayfile.specs.declared.fault.Fault.{Fault}
use Rattle.dayfile.specs.declared.fault.Fault.TheVariants.{RecordField, RecordOwners, Room}
use Rattle.dayfile.specs.declared.record.Record.{Record}
use Rattle.dayfile.specs.declared.record.Record.TheVariants.{Day, Participant, Resource, RealTime}
use Rattle.dayfile.specs.declared.record.Load.{Load}
use Rattle.dayfile.specs.declared.record.Owner.{Owner}
use Rattle.dayfile.specs.declared.record.RealTimeHour.{RealTimeHour}
use Rattle.dayfile.specs.Layout.{first_fault, table_for, Faulty}
use Rattle.dayfile.specs.Owners.{Owned, owners_kept}
use Rattle.dayfile.specs.Keeping.{Keeps}
use Rattle.dayfile.specs.Rules.{JustWhere}
use Rattle.dayfile.specs.Records.{body, encode, kind_of}

-- what any value of a record's type is: its numbers fit their widths, its rows have their lengths
abbrev pub LoadFits : Load → Type 0
LoadFits l = (l.day_ahead < 2 ^ 32) × (l.real_time < 2 ^ 32) × (l.deviation < 2 ^ 32)

abbrev pub OwnerFits : Owner → Type 0
OwnerFits o = (o.place < 2 ^ 16) × (o.parts < 2 ^ 32)

abbrev pub HourFits : RealTimeHour → Type 0
HourFits h = (h.dispatch_kwh < 2 ^ 32) × (h.metered_kwh < 2 ^ 32) × FitsSigned w32 h.lmp

abbrev pub Fitting : Record → Type 0
Fitting (Day d) = (d.date < 2 ^ 32) × (d.version < 2 ^ 16) × (d.participants < 256) × (d.resources < 256)
Fitting (Participant p) =
    (p.number < 2 ^ 32) × (length p.loads ≡ 8) × AllByRecursion LoadFits p.loads × (p.network_load < 2 ^ 32) × (p.scr_weight < 2 ^ 32)
Fitting (Resource g) =
    (g.region < 256) × (g.minimum_run_hours < 256) × (g.minimum_down_hours < 256) × (g.number < 2 ^ 32)
    × (g.start_up_cents < 2 ^ 32) × (g.no_load_cents < 2 ^ 32)
    × (length g.prices ≡ 24) × AllByRecursion (FitsSigned w32) g.prices
    × (g.hours_on_line < 256) × (g.owner_count < 256) × (g.self_scheduled < 2 ^ 32)
    × (length g.owners ≡ 8) × AllByRecursion OwnerFits g.owners
    × (length g.cleared_kwh ≡ 24) × AllByRecursion (λ n. n < 2 ^ 32) g.cleared_kwh
    × (length g.lmps ≡ 24) × AllByRecursion (FitsSigned w32) g.lmps
    × (length g.flags ≡ 24)
Fitting (RealTime r) =
    (r.number < 2 ^ 32) × (r.economic_minimum_kwh < 2 ^ 32)
    × (length r.hours ≡ 24) × AllByRecursion HourFits r.hours
    × (length r.events ≡ 24) × (length r.flags ≡ 24)

-- a record's owners keep their rules, places lying below a limit
abbrev pub record_owned : ℕ → Record → Bool
record_owned limit (Day d) = true
record_owned limit (Participant p) = true
record_owned limit (Resource g) = owners_kept limit g.owner_count g.owners
record_owned limit (RealTime r) = true

-- why a record is not written into so much room: its first faulty field, its owners, or the room
abbrev pub unwritten : Record → ℕ → Option Fault
unwritten r room =
    elim (first_fault (table_for (kind_of r)) (body r)) [
      | Some p ↦ Some (RecordField p)
      | None ↦ cond (record_owned 48 r) (cond (nat_lt room 512) (Some Room) None) (Some RecordOwners)
    ]

-- a call that may be refused: refused, it leaves all as it was
abbrev pub Done : {S : Type 0} → Option Fault → S → S → Result (Unit {0}) Fault → S → Type 0
Done (Some f) was done answer after = (answer ≡ Err f) × (after ≡ was)
Done None was done answer after = (answer ≡ Ok tt) × (after ≡ done)

-- A RECORD WRITTEN: the buffer begins with its block, and the rest stays
abbrev pub Writes : Record → List ℕ → Result (Unit {0}) Fault → List ℕ → Type 0
Writes r was answer after = Done (unwritten r (length was)) was (encode r ++ drop 512 was) answer after

-- a record's owners keep their rules, the places lying below 48; only a Resource has owners
abbrev pub SharedOut : Record → Type 0
SharedOut (Day d) = Unit {0}
SharedOut (Participant p) = Unit {0}
SharedOut (Resource g) = Owned 48 g.owner_count g.owners
SharedOut (RealTime r) = Unit {0}

-- A RECORD IS WRITTEN just where it keeps its limits and there is room for a block; it is refused for its first faulty field,
-- for its owners where no field is faulty, and for the room where it keeps its limits
pub record WrittenOnly (r : Record) (room : ℕ) (answer : Result (Unit {0}) Fault) : Type 0 where
  pub written : JustWhere (answer ≡ Ok tt) (Keeps 48 r × (512 ≤ room))
  pub field : (p : ℕ) → JustWhere (answer ≡ Err (RecordField p)) (Faulty (table_for (kind_of r)) (body r) p × ((q : ℕ) → q < p → Faulty (table_for (kind_of r)) (body r) q → ⊥))
  pub owners : JustWhere (answer ≡ Err RecordOwners) (((p : ℕ) → Faulty (table_for (kind_of r)) (body r) p → ⊥) × (SharedOut r → ⊥))
  pub short : JustWhere (answer ≡ Err Room) (Keeps 48 r × (room < 512))
