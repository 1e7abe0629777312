-- The Resources of a day, each with its real-time record if it has one.
use Rattle.std.specs.Prelude.{ℕ, ◌+◌, ◌<◌, Bool, true, false, cond, List, [], ◌∷◌, drop, Some, None, Option, ◌==◌}
use Rattle.dayfile.specs.declared.block.Block.{Block}
use Rattle.dayfile.specs.declared.block.Block.TheVariants.{Day as DayBlock, Participant as ParticipantBlock, Resource as ResourceBlock, RealTime as RealTimeBlock}
use Rattle.dayfile.specs.declared.record.Record.{Record}
use Rattle.dayfile.specs.declared.record.Record.TheVariants.{Day, Participant, Resource, RealTime}
use Rattle.dayfile.specs.declared.record.ResourceRecord.{ResourceRecord}
use Rattle.dayfile.specs.declared.record.RealTimeRecord.{RealTimeRecord}
use Rattle.dayfile.specs.Keeping.{ResourceKept, RealTimeKept}
use Rattle.dayfile.specs.Days.{records}

-- A RESOURCE OF A DAY: its block's number, its record, and its real-time record, if it has one
pub record ResourceDay : Type 0 where
  pub block : ℕ
  pub resource : ResourceRecord
  pub real_time : Option RealTimeRecord

-- the real-time record at the front of records, if one stands there
abbrev pub real_time_first : List Record → Option RealTimeRecord
real_time_first [] = None
real_time_first (Day d ∷ rs) = None
real_time_first (Participant p ∷ rs) = None
real_time_first (Resource g ∷ rs) = None
real_time_first (RealTime r ∷ rs) = Some r

-- the Resource at the front of records, of which the first is block k, if one stands there
abbrev pub resource_first : ℕ → List Record → Option ResourceDay
resource_first k [] = None
resource_first k (Day d ∷ rs) = None
resource_first k (Participant p ∷ rs) = None
resource_first k (Resource g ∷ rs) = Some (record { block = k; resource = g; real_time = real_time_first rs })
resource_first k (RealTime r ∷ rs) = None

-- whether a block's parts are those of a Resource
abbrev pub of_resource : Block → Bool
of_resource (DayBlock head) = false
of_resource (ParticipantBlock number loads weights) = false
of_resource (ResourceBlock region run down number fees prices status owners cleared lmps flags) = true
of_resource (RealTimeBlock number minimum hours events flags) = false

-- one more in front, if there is one
abbrev pub in_front : {A : Type 0} → Option A → List A → List A
in_front None xs = xs
in_front (Some x) xs = x ∷ xs

-- the Resources among records of which the first is block k
unfoldable pub resources_from : ℕ → List Record → List ResourceDay
resources_from k [] = []
resources_from k (r ∷ rs) = in_front (resource_first k (r ∷ rs)) (resources_from (k + 1) rs)

-- THE RESOURCES of a file, in its order
abbrev pub resources_of : List ℕ → List ResourceDay
resources_of f = resources_from 0 (records f)

-- those from block k on
abbrev pub resources_behind : ℕ → List ℕ → List ResourceDay
resources_behind k f = resources_from k (drop k (records f))

-- the first Resource of a number
unfoldable pub numbered : ℕ → List ResourceDay → Option ResourceDay
numbered n [] = None
numbered n (x ∷ xs) = cond (x.resource.number == n) (Some x) (numbered n xs)

abbrev pub OwnRealTimeKept : Option RealTimeRecord → Type 0
OwnRealTimeKept None = Unit {0}
OwnRealTimeKept (Some r) = RealTimeKept r

-- a Resource and its real-time record keep their limits, owners lying among the first `limit` participants
pub record Kept (limit : ℕ) (x : ResourceDay) : Type 0 where
  pub resource : ResourceKept limit x.resource
  pub real_time : OwnRealTimeKept x.real_time

-- a Resource of an admitted day: it keeps its limits, and its block is one of at most 128
pub record Admitted (x : ResourceDay) : Type 0 where
  pub kept : Kept 48 x
  pub block_few : x.block < 128
