-- The fields of each kind of block, by name, with what each may hold.
use Rattle.std.specs.Prelude.{ℕ, ◌+◌, ◌-◌, ◌*◌, ◌/◌, ◌%◌, Bool, true, cond, ◌&&◌, ◌||◌, List, [], ◌∷◌, Some, None, Option, ◌==◌, nat_le, nat_lt}
use Rattle.explanation.specs.declared.finding.NamedField.{NamedField}
use Rattle.explanation.specs.declared.finding.FieldName.{FieldName}
use Rattle.explanation.specs.declared.finding.FieldName.TheVariants.{Date, Version, ParticipantCount, ResourceCount, Participant, DayAheadLoad, RealTimeLoad, Deviation, NetworkLoad, ScrWeight, Region, MinimumRunTime, MinimumDownTime, Resource, StartUpFee, NoLoadFee, Price, HoursOnLine, OwnerCount, SelfScheduledHours, ClearedKwh, DayAheadLmp, DayAheadFlag, EconomicMinimum, DispatchPoint, MeteredKwh, RealTimeLmp, Event, RealTimeFlag}
use Rattle.explanation.specs.declared.table.Content.{Content}
use Rattle.explanation.specs.declared.table.Content.TheVariants.{Unnamed, Whole, Signed}
use Rattle.explanation.specs.declared.table.Row.{Row}

-- count fields of one name, the first at start, each stride bytes after the last
abbrev pub fields : ℕ → ℕ → ℕ → ℕ → Content → Row
fields start stride count width content = record { start = start; stride = stride; count = count; width = width; content = content }

-- a field that stands once, and fields that stand in each hour or region
abbrev pub once : ℕ → ℕ → FieldName → ℕ → ℕ → Row
once start width name least most = fields start width 1 width (Whole name least most)

abbrev pub each_of : ℕ → ℕ → ℕ → ℕ → FieldName → ℕ → Row
each_of count start stride width name most = fields start stride count width (Whole name 0 most)

abbrev pub priced : ℕ → ℕ → FieldName → Row
priced start stride name = fields start stride 24 4 (Signed name 200000)

abbrev pub unnamed : ℕ → ℕ → Row
unnamed start count = fields start 1 count 1 Unnamed

abbrev pub day_rows : List Row
day_rows =
    unnamed 1 3
    ∷ once 4 4 Date 1 60000
    ∷ once 8 2 Version 1 999
    ∷ once 10 1 ParticipantCount 1 48
    ∷ once 11 1 ResourceCount 0 24
    ∷ unnamed 12 496 ∷ []

abbrev pub participant_rows : List Row
participant_rows =
    unnamed 1 3
    ∷ once 4 4 Participant 1 999999
    ∷ each_of 8 8 12 4 DayAheadLoad 10000000
    ∷ each_of 8 12 12 4 RealTimeLoad 10000000
    ∷ each_of 8 16 12 4 Deviation 10000000
    ∷ once 104 4 NetworkLoad 0 10000000
    ∷ once 108 4 ScrWeight 0 10000000
    ∷ unnamed 112 396 ∷ []

abbrev pub resource_rows : List Row
resource_rows =
    once 1 1 Region 1 8
    ∷ once 2 1 MinimumRunTime 0 24
    ∷ once 3 1 MinimumDownTime 0 24
    ∷ once 4 4 Resource 1 999999
    ∷ once 8 4 StartUpFee 0 100000000
    ∷ once 12 4 NoLoadFee 0 10000000
    ∷ priced 16 4 Price
    ∷ once 112 1 HoursOnLine 0 255
    ∷ once 113 1 OwnerCount 1 8
    ∷ unnamed 114 2
    ∷ once 116 4 SelfScheduledHours 0 16777215
    ∷ each_of 24 168 4 4 ClearedKwh 2000000
    ∷ priced 264 4 DayAheadLmp
    ∷ each_of 24 360 1 1 DayAheadFlag 2
    ∷ unnamed 384 124 ∷ []

abbrev pub real_time_rows : List Row
real_time_rows =
    unnamed 1 3
    ∷ once 4 4 Resource 1 999999
    ∷ once 8 4 EconomicMinimum 0 2000000
    ∷ each_of 24 12 12 4 DispatchPoint 2000000
    ∷ each_of 24 16 12 4 MeteredKwh 2000000
    ∷ priced 20 12 RealTimeLmp
    ∷ each_of 24 300 1 1 Event 5
    ∷ each_of 24 324 1 1 RealTimeFlag 3
    ∷ unnamed 348 160 ∷ []

-- the fields of a block that begins with a letter: D, P, G, and R otherwise
abbrev pub rows_for : ℕ → List Row
rows_for kind = cond (kind == 68) day_rows (cond (kind == 80) participant_rows (cond (kind == 71) resource_rows real_time_rows))

-- whether one of the fields starts at a byte
abbrev pub starts : Row → ℕ → Bool
starts r p = nat_le r.start p && (nat_lt p (r.start + r.count * r.stride) && (p - r.start) % r.stride == 0)

-- the row of the field that starts at a byte, if one does
unfoldable pub row_at : List Row → ℕ → Option Row
row_at [] p = None
row_at (r ∷ rs) p = cond (starts r p) (Some r) (row_at rs p)

-- the field that starts at a byte: hours and regions count from 1
abbrev pub named : Row → FieldName → ℕ → NamedField
named r name p = record { name = name; rank = (p - r.start) / r.stride + 1; byte = p; width = r.width }

-- fields of one, two or four bytes, within a block
abbrev pub steady : Row → Bool
steady r = (r.width == 1 || (r.width == 2 || r.width == 4)) && (nat_lt 0 r.stride && nat_le (r.start + r.count * r.stride) 508)

abbrev pub all_steady : List Row → Bool
all_steady [] = true
all_steady (r ∷ rs) = steady r && all_steady rs
