-- What is shown: places in lines; events, fields and pools in words.
use Rattle.std.specs.Prelude.{ℕ, ◌-◌, cond, ◌&&◌, ◌++◌, List, [], codes, decimal, ◌==◌, nat_lt}
use Rattle.dayfile.specs.declared.fault.Place.{Place}
use Rattle.dayfile.specs.declared.fault.Place.TheVariants.{Nowhere, Block, Field, Byte, Hour, Pool, Row}
use Rattle.dayfile.specs.declared.record.Event.{Event}
use Rattle.dayfile.specs.declared.record.Event.TheVariants.{Off, PoolRun, SelfRun, Trip, IsoRestart, OwnRestart}
use Rattle.explanation.specs.declared.finding.FieldName.{FieldName}
use Rattle.explanation.specs.declared.finding.FieldName.TheVariants.{Date, Version, ParticipantCount, ResourceCount, Participant, DayAheadLoad, RealTimeLoad, Deviation, NetworkLoad, ScrWeight, Region, MinimumRunTime, MinimumDownTime, Resource, StartUpFee, NoLoadFee, Price, HoursOnLine, OwnerCount, SelfScheduledHours, ClearedKwh, DayAheadLmp, DayAheadFlag, EconomicMinimum, DispatchPoint, MeteredKwh, RealTimeLmp, Event as EventOf, RealTimeFlag}

-- a name and a number, and the end of a line
abbrev pub line : List ℕ → ℕ → List ℕ
line name n = name ++ (decimal n ++ codes "\n")

-- a line for each number of a place
abbrev pub place_text : Place → List ℕ
place_text Nowhere = []
place_text (Block k) = line (codes "block ") k
place_text (Field k p) = line (codes "block ") k ++ line (codes "byte ") p
place_text (Byte p) = line (codes "byte ") p
place_text (Hour k h) = line (codes "block ") k ++ line (codes "hour ") h
place_text (Pool p) = line (codes "pool ") p
place_text (Row r) = line (codes "row ") r

abbrev pub event_text : Event → List ℕ
event_text Off = codes "off"
event_text PoolRun = codes "a run for the pool"
event_text SelfRun = codes "a run for itself"
event_text Trip = codes "a trip"
event_text IsoRestart = codes "a restart for the ISO"
event_text OwnRestart = codes "a restart on its own"

abbrev pub field_text : FieldName → List ℕ
field_text Date = codes "date"
field_text Version = codes "version"
field_text ParticipantCount = codes "count of participants"
field_text ResourceCount = codes "count of Resources"
field_text Participant = codes "participant"
field_text DayAheadLoad = codes "day-ahead load"
field_text RealTimeLoad = codes "real-time load"
field_text Deviation = codes "deviation"
field_text NetworkLoad = codes "network load"
field_text ScrWeight = codes "SCR weight"
field_text Region = codes "region"
field_text MinimumRunTime = codes "Minimum Run Time"
field_text MinimumDownTime = codes "minimum down time"
field_text Resource = codes "Resource"
field_text StartUpFee = codes "Start-Up Fee"
field_text NoLoadFee = codes "No-Load Fee"
field_text Price = codes "price"
field_text HoursOnLine = codes "hours on line at midnight"
field_text OwnerCount = codes "count of owners"
field_text SelfScheduledHours = codes "Self-Scheduled hours"
field_text ClearedKwh = codes "cleared kWh"
field_text DayAheadLmp = codes "day-ahead LMP"
field_text DayAheadFlag = codes "day-ahead flag"
field_text EconomicMinimum = codes "Economic Minimum"
field_text DispatchPoint = codes "Desired Dispatch Point"
field_text MeteredKwh = codes "metered kWh"
field_text RealTimeLmp = codes "real-time LMP"
field_text EventOf = codes "event"
field_text RealTimeFlag = codes "real-time flag"

-- a pool, from 1: the five of a market's hours, then those for the eight regions of each market
abbrev pub pool_text : ℕ → List ℕ
pool_text p =
    cond (p == 1) (codes "day-ahead economic")
    (cond (p == 2) (codes "day-ahead VAR")
    (cond (p == 3) (codes "real-time economic")
    (cond (p == 4) (codes "real-time SCR")
    (cond (p == 5) (codes "real-time VAR")
    (cond (nat_lt 5 p && nat_lt p 14) (codes "day-ahead LSCPR in region " ++ decimal (p - 5))
    (cond (nat_lt 13 p && nat_lt p 22) (codes "real-time LSCPR in region " ++ decimal (p - 13))
    (codes "no pool")))))))
