-- What it is for a record to keep its limits, field by field.
use Rattle.std.specs.Prelude.{◌≡◌, ℕ, ◌^◌, ◌<◌, ◌≤◌, List, length, ℤ, pos, neg_ℤ, ◌≤ℤ◌, ◌≢◌}
use Rattle.std.specs.List.{AllByRecursion}
use Rattle.dayfile.specs.declared.record.Record.{Record}
use Rattle.dayfile.specs.declared.record.Record.TheVariants.{Day, Participant, Resource, RealTime}
use Rattle.dayfile.specs.declared.record.DayRecord.{DayRecord}
use Rattle.dayfile.specs.declared.record.ParticipantRecord.{ParticipantRecord}
use Rattle.dayfile.specs.declared.record.ResourceRecord.{ResourceRecord}
use Rattle.dayfile.specs.declared.record.RealTimeRecord.{RealTimeRecord}
use Rattle.dayfile.specs.declared.record.Load.{Load}
use Rattle.dayfile.specs.declared.record.RealTimeHour.{RealTimeHour}
use Rattle.dayfile.specs.declared.record.Flag.TheVariants.{Scr}
use Rattle.dayfile.specs.Owners.{Owned}

-- a number from one limit to another
abbrev pub Between : ℕ → ℕ → ℕ → Type 0
Between least most n = (least ≤ n) × (n ≤ most)

-- the number of a participant or of a Resource
abbrev pub Number : ℕ → Type 0
Number n = Between 1 999999 n

-- an offer's price or an LMP, in cents per MWh: from -200000 to 200000
abbrev pub Price : ℤ → Type 0
Price z = (neg_ℤ (pos 200000) ≤ℤ z) × (z ≤ℤ pos 200000)

-- a Resource's energy in one hour, in kWh
abbrev pub Energy : ℕ → Type 0
Energy n = n ≤ 2000000

-- so many in a row, each of which keeps a limit
abbrev pub Row : {A : Type 0} → ℕ → (A → Type 0) → List A → Type 0
Row n P xs = (length xs ≡ n) × AllByRecursion P xs

pub record DayKept (d : DayRecord) : Type 0 where
  pub date : Between 1 60000 d.date
  pub version : Between 1 999 d.version
  pub participants : Between 1 48 d.participants
  pub resources : d.resources ≤ 24

-- a participant's loads in one region
pub record LoadKept (l : Load) : Type 0 where
  pub day_ahead : l.day_ahead ≤ 10000000
  pub real_time : l.real_time ≤ 10000000
  pub deviation : l.deviation ≤ 10000000

pub record ParticipantKept (p : ParticipantRecord) : Type 0 where
  pub number : Number p.number
  pub loads : Row 8 LoadKept p.loads  -- one for each region
  pub network_load : p.network_load ≤ 10000000
  pub scr_weight : p.scr_weight ≤ 10000000

-- a Resource whose owners are among the first `limit` participants
pub record ResourceKept (limit : ℕ) (g : ResourceRecord) : Type 0 where
  pub region : Between 1 8 g.region
  pub minimum_run : g.minimum_run_hours ≤ 24
  pub minimum_down : g.minimum_down_hours ≤ 24
  pub number : Number g.number
  pub start_up : g.start_up_cents ≤ 100000000
  pub no_load : g.no_load_cents ≤ 10000000
  pub prices : Row 24 Price g.prices  -- one for each hour, and so below
  pub on_line : g.hours_on_line ≤ 255
  pub owner_count : Between 1 8 g.owner_count
  pub self_scheduled : g.self_scheduled < 2 ^ 24  -- one bit for each hour
  pub slots : length g.owners ≡ 8
  pub owners : Owned limit g.owner_count g.owners
  pub cleared : Row 24 Energy g.cleared_kwh
  pub lmps : Row 24 Price g.lmps
  pub flags : Row 24 (λ f. f ≢ Scr) g.flags  -- Scr is for real time only

-- a Resource's real-time figures of one hour
pub record HourKept (h : RealTimeHour) : Type 0 where
  pub dispatch : Energy h.dispatch_kwh
  pub metered : Energy h.metered_kwh
  pub lmp : Price h.lmp

pub record RealTimeKept (r : RealTimeRecord) : Type 0 where
  pub number : Number r.number
  pub economic_minimum : Energy r.economic_minimum_kwh
  pub hours : Row 24 HourKept r.hours
  pub events : length r.events ≡ 24  -- any of the six
  pub flags : length r.flags ≡ 24  -- any of the four

-- A RECORD KEEPS ITS LIMITS, owners lying among the first `limit` participants
abbrev pub Keeps : ℕ → Record → Type 0
Keeps limit (Day d) = DayKept d
Keeps limit (Participant p) = ParticipantKept p
Keeps limit (Resource g) = ResourceKept limit g
Keeps limit (RealTime r) = RealTimeKept r
