-- A well-formed day: the records that an accepted file encodes.
use Rattle.std.specs.Prelude.{◌≡◌, ℕ, List, [], ◌∷◌, ◌++◌, map, length, Some, None, Ok, Option, Result}
use Rattle.std.specs.List.{flat_map, AllByRecursion}
use Rattle.dayfile.specs.declared.fault.Fault.{Fault}
use Rattle.dayfile.specs.declared.record.Record.{Record}
use Rattle.dayfile.specs.declared.record.Record.TheVariants.{Day, Participant, Resource, RealTime}
use Rattle.dayfile.specs.declared.record.DayRecord.{DayRecord}
use Rattle.dayfile.specs.declared.record.ParticipantRecord.{ParticipantRecord}
use Rattle.dayfile.specs.declared.record.ResourceRecord.{ResourceRecord}
use Rattle.dayfile.specs.declared.record.RealTimeRecord.{RealTimeRecord}
use Rattle.dayfile.specs.Owners.{Rises}
use Rattle.dayfile.specs.Records.{encode}
use Rattle.dayfile.specs.Keeping.{DayKept, ParticipantKept, ResourceKept, RealTimeKept}
use Rattle.dayfile.specs.Rules.{JustWhere}
use Rattle.dayfile.specs.Days.{records}

-- a Resource, with its real-time record if it has one
abbrev pub Generator : Type 0
Generator = ResourceRecord × Option RealTimeRecord

abbrev pub generator_records : Generator → List Record
generator_records g = Resource g.0 ∷ elim g.1 [ None ↦ [] | Some r ↦ RealTime r ∷ [] ]

-- the real-time record keeps its limits and bears the Resource's number
abbrev pub OwnRealTimeKept : Generator → Type 0
OwnRealTimeKept g = elim g.1 [ None ↦ Unit {0} | Some r ↦ RealTimeKept r × (r.number ≡ g.0.number) ]

-- the records in the order of the file
abbrev pub day_records : DayRecord → List ParticipantRecord → List Generator → List Record
day_records d ps gs = Day d ∷ (map Participant ps ++ flat_map generator_records gs)

-- A WELL-FORMED DAY: a day record, participants with rising numbers, Resources with rising numbers, each with an optional
-- real-time record of its number, all within their limits, owners among the participants, and the counts that the day tells
pub record WellFormed (d : DayRecord) (ps : List ParticipantRecord) (gs : List Generator) : Type 0 where
  pub day : DayKept d
  pub participants : AllByRecursion ParticipantKept ps
  pub participants_rise : Rises (map (λ p. p.number) ps)
  pub resources : AllByRecursion (λ g. ResourceKept (length ps) g.0) gs
  pub resources_rise : Rises (map (λ g. g.0.number) gs)
  pub real_time : AllByRecursion OwnRealTimeKept gs
  pub participants_counted : d.participants ≡ length ps
  pub resources_counted : d.resources ≡ length gs

-- a file is the joined blocks of a well-formed day
abbrev pub Encodes : List ℕ → DayRecord → List ParticipantRecord → List Generator → Type 0
Encodes f d ps gs = WellFormed d ps gs × (flat_map encode (day_records d ps gs) ≡ f)

-- a file is the joined blocks of some well-formed day, and its records are that day's
abbrev pub Formed : List ℕ → Type 0
Formed f =
    (d : DayRecord) × ((ps : List ParticipantRecord) × ((gs : List Generator) × (Encodes f d ps gs × (records f ≡ day_records d ps gs))))

-- A FILE IS ACCEPTED just where it is the joined blocks of some well-formed day, and its records are that day's
pub record WellFormedOnly (f : List ℕ) (answer : Result (Unit {0}) Fault) : Type 0 where
  pub accepted : JustWhere (answer ≡ Ok tt) ((d : DayRecord) × ((ps : List ParticipantRecord) × ((gs : List Generator) × Encodes f d ps gs)))
  pub shown : (d : DayRecord) (ps : List ParticipantRecord) (gs : List Generator) → Encodes f d ps gs → records f ≡ day_records d ps gs
