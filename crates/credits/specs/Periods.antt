-- The real-time credit read off the events: no commitment is carried from hour to hour here.
use Rattle.std.specs.Prelude.{◌≡◌, ℕ, zero, suc, ◌+◌, ◌-◌, ◌<◌, ◌≤◌, Bool, true, false, cond, not, ◌&&◌, ℤ, pos, ◌+ℤ◌, Some, None, Option, nat_lt}
use Rattle.dayfile.specs.declared.record.ResourceRecord.{ResourceRecord}
use Rattle.dayfile.specs.declared.record.RealTimeRecord.{RealTimeRecord}
use Rattle.dayfile.specs.declared.record.Event.{Event}
use Rattle.dayfile.specs.declared.record.Event.TheVariants.{Off, PoolRun, SelfRun, Trip, IsoRestart, OwnRestart}
use Rattle.dayfile.specs.Rules.{JustWhere}
use Rattle.credits.specs.Sums.{net}
use Rattle.credits.specs.Spells.{streak, Spell}
use Rattle.credits.specs.Commitments.{cut_fee}
use Rattle.credits.specs.RealTime.{event, opening_fee, real_time_hour, eligible, forbidden_hour, real_time_millicents}

abbrev pub is_off : Event → Bool
is_off e = elim e [ Off ↦ true | PoolRun ↦ false | SelfRun ↦ false | Trip ↦ false | IsoRestart ↦ false | OwnRestart ↦ false ]

abbrev pub is_pool_run : Event → Bool
is_pool_run e = elim e [ Off ↦ false | PoolRun ↦ true | SelfRun ↦ false | Trip ↦ false | IsoRestart ↦ false | OwnRestart ↦ false ]

abbrev pub is_trip : Event → Bool
is_trip e = elim e [ Off ↦ false | PoolRun ↦ false | SelfRun ↦ false | Trip ↦ true | IsoRestart ↦ false | OwnRestart ↦ false ]

-- WHAT ONE MEETS going back from hour h over events of a sort; None is the day's start
unfoldable pub met : (Event → Bool) → RealTimeRecord → ℕ → Option Event
met over r zero = None
met over r (suc h) = cond (over (event r h)) (met over r h) (Some (event r h))

-- the unit is tripped before hour h: going back over the hours off, one meets a trip
abbrev pub tripped_at : Option Event → Bool
tripped_at None = false
tripped_at (Some e) = is_trip e

abbrev pub tripped_before : RealTimeRecord → ℕ → Bool
tripped_before r h = tripped_at (met is_off r h)

-- the unit is on line before hour h: at midnight, or since the hour before is neither off nor a trip
abbrev pub on_line_before : ResourceRecord → RealTimeRecord → ℕ → Bool
on_line_before g r zero = nat_lt 0 g.hours_on_line
on_line_before g r (suc h) =
    elim (event r h) [ Off ↦ false | PoolRun ↦ true | SelfRun ↦ true | Trip ↦ false | IsoRestart ↦ true | OwnRestart ↦ true ]

-- AN EVENT THAT ITS HISTORY FORBIDS: a pool run of a unit that is tripped, a trip of one that is not on line, a restart of one that
-- is not tripped
abbrev pub forbidden_by : Event → Bool → Bool → Bool
forbidden_by e tripped on_line =
    elim e [ Off ↦ false | PoolRun ↦ tripped | SelfRun ↦ false | Trip ↦ not on_line | IsoRestart ↦ not tripped | OwnRestart ↦ not tripped ]

abbrev pub forbidden : ResourceRecord → RealTimeRecord → ℕ → Bool
forbidden g r h = forbidden_by (event r h) (tripped_before r h) (on_line_before g r h)

-- AN HOUR RUN FOR THE POOL: a restart for the ISO; or a pool run such that, going back over the pool runs before it, one meets a
-- restart for the ISO, an hour off, a run of its own schedule or the day's start, and not a restart of its own
abbrev pub begins_a_period : Option Event → Bool
begins_a_period None = true
begins_a_period (Some e) = elim e [ Off ↦ true | PoolRun ↦ true | SelfRun ↦ true | Trip ↦ false | IsoRestart ↦ true | OwnRestart ↦ false ]

abbrev pub pool_hour_by : Event → Bool → Bool
pool_hour_by e begun =
    elim e [ Off ↦ false | PoolRun ↦ begun | SelfRun ↦ false | Trip ↦ false | IsoRestart ↦ true | OwnRestart ↦ false ]

abbrev pub pool_hour : RealTimeRecord → ℕ → Bool
pool_hour r h = pool_hour_by (event r h) (begins_a_period (met is_pool_run r h))

-- the sum of hours' amounts over n hours from an hour on
unfoldable pub span : (ℕ → ℤ) → ℕ → ℕ → ℤ
span f first zero = pos 0
span f first (suc n) = span f first n +ℤ f (first + n)

-- the fee of a period of n hours from an hour on: the Start-Up Fee where the unit was not on line before it and nothing cleared in
-- its first hour, cut where a trip follows below the Minimum Run Time
abbrev pub full_fee : ResourceRecord → RealTimeRecord → ℕ → ℕ
full_fee g r first = cond (on_line_before g r first) 0 (opening_fee g first)

abbrev pub period_fee : ResourceRecord → RealTimeRecord → ℕ → ℕ → ℕ
period_fee g r first n = cond (is_trip (event r (first + n))) (cut_fee g.minimum_run_hours n (full_fee g r first)) (full_fee g r first)

-- what a period adds to the credit: its fee, and its hours' amounts less their value
abbrev pub period_credit : ResourceRecord → RealTimeRecord → ℕ → ℕ → ℤ
period_credit g r first n = pos (period_fee g r first n) +ℤ span (real_time_hour g r) first n

-- a period ends before hour h: the hour before is run for the pool, and hour h, or the day's end, is not
abbrev pub pool_streak : RealTimeRecord → ℕ → ℕ
pool_streak r h = streak (pool_hour r) h

abbrev pub period_ends : RealTimeRecord → ℕ → Bool
period_ends r h = nat_lt 0 (pool_streak r h) && not (pool_hour r h)

abbrev pub ended_credit : ResourceRecord → RealTimeRecord → ℕ → ℤ
ended_credit g r h = cond (period_ends r h) (period_credit g r (h - pool_streak r h) (pool_streak r h)) (pos 0)

-- THE CREDIT BY PERIODS: the sum over the periods, each counted where it ends, at the latest with the day
abbrev pub credit_by_periods : ResourceRecord → RealTimeRecord → ℤ
credit_by_periods g r = net (ended_credit g r) 25

-- an hour is the first of which a test is true
pub record First (test : ℕ → Bool) (h : ℕ) : Type 0 where
  pub here : test h ≡ true
  pub not_before : (k : ℕ) → k < h → test k ≡ false

-- THE REAL-TIME CREDIT BY PERIODS
pub record RealTimeByPeriods (g : ResourceRecord) (r : RealTimeRecord) : Type 0 where
  -- a day is stopped at an hour just where its event is the first that its history forbids
  pub stopped : (h : ℕ) → h < 24 → JustWhere (forbidden_hour g r 24 ≡ Some (h + 1)) (First (forbidden g r) h)
  pub allowed : JustWhere (forbidden_hour g r 24 ≡ None) ((h : ℕ) → h < 24 → forbidden g r h ≡ false)
  -- where it is not, the hours run for the pool are eligible, and no others
  pub eligible_hours : forbidden_hour g r 24 ≡ None → (h : ℕ) → h < 24 → eligible g r h ≡ pool_hour r h
  -- a period that is counted is a spell of hours run for the pool, and every such spell is counted, where it ends
  pub counted : (h : ℕ) → h ≤ 24 → period_ends r h ≡ true → Spell (pool_hour r) (h - pool_streak r h) (pool_streak r h)
  pub every : (first n : ℕ) → Spell (pool_hour r) first n → (period_ends r (first + n) ≡ true) × (pool_streak r (first + n) ≡ n)
  -- and the credit is the sum over the periods
  pub credit : forbidden_hour g r 24 ≡ None → real_time_millicents g r ≡ credit_by_periods g r
