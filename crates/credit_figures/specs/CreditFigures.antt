-- The joint list of worked figures of credits.
use Rattle.std.specs.Prelude.{◌≡◌, ℕ, ◌+◌, ◌-◌, Bool, true, false, List, [], ◌∷◌, ◌++◌, map, length, replicate, ℤ, pos, negsuc, None}
use Rattle.std.specs.List.{range_with_len, flat_map}
use Rattle.dayfile.specs.Records.{encode}
use Rattle.dayfile.specs.declared.record.Flag.TheVariants.{Economic, Lscpr, Var, Scr}
use Rattle.credits.specs.Sums.{total}
use Rattle.credits.specs.Cents.{cents, millicents}
use Rattle.credits.specs.declared.pool.Market.TheVariants.{DayAhead, RealTime as InRealTime}
use Rattle.credits.specs.Pools.{pool_of}
use Rattle.credits.specs.DayAhead.{start_fee, day_ahead_hour, qualifies, day_ahead_millicents, day_ahead_cents}
use Rattle.credits.specs.Commitments.{cut_fee}
use Rattle.credits.specs.RealTime.{opening_fee, eligible, fee_brought, paid_kwh, real_time_hour, real_time_millicents, real_time_cents}
use Rattle.credits.specs.Periods.{credit_by_periods}
use Rattle.credits.specs.Grids.{cell}
use Rattle.credits.specs.Crediting.{participants_of, credit_of, pool_cost}
use Rattle.figures.specs.SmallDay.{small_resource, small_day}
use Rattle.credit_figures.specs.CreditDays.{self_scheduling, tripping, tripping_day, starting, three_hours, metered}

-- a figure: a number or numbers that are worked out and what they come to, or a test that passes or fails
pub data Figure : Type 0 where
  is : ℕ → ℕ → Figure
  comes_to : ℤ → ℤ → Figure
  are : List ℕ → List ℕ → Figure
  passes : Bool → Figure
  fails : Bool → Figure

abbrev pub AllHold : List Figure → Type 0
AllHold [] = Unit {0}
AllHold (is a b ∷ fs) = (a ≡ b) × AllHold fs
AllHold (are a b ∷ fs) = (a ≡ b) × AllHold fs
AllHold (comes_to a b ∷ fs) = (a ≡ b) × AllHold fs
AllHold (passes t ∷ fs) = (t ≡ true) × AllHold fs
AllHold (fails t ∷ fs) = (t ≡ false) × AllHold fs

-- half a cent is a cent, and less is none; below 0 is none
abbrev rounding_figures : List Figure
rounding_figures = is (cents (pos 499)) 0 ∷ is (cents (pos 500)) 1 ∷ is (cents (pos 1499)) 1 ∷ is (cents (negsuc 599)) 0 ∷ []

-- Self-Scheduled hours, bit by bit, against a run time of 4: hours 5 to 7 fail, 1 and 2 with two hours on line at midnight pass,
-- and so do 23 and 24; against a down time of 3: a gap of 2 hours fails, one of 3 passes
abbrev self_schedule_figures : List Figure
self_schedule_figures =
    fails (qualifies (self_scheduling 4 0 0 112) 24)
    ∷ passes (qualifies (self_scheduling 4 0 2 3) 24)
    ∷ fails (qualifies (self_scheduling 4 0 1 3) 24)
    ∷ passes (qualifies (self_scheduling 4 0 0 12582912) 24)
    ∷ fails (qualifies (self_scheduling 0 3 0 9) 24)
    ∷ passes (qualifies (self_scheduling 0 3 0 17) 24)
    ∷ []

-- a fee of 10000 cut at 3 of 7 hours; not cut at 7
abbrev fee_figures : List Figure
fee_figures = is (cut_fee 7 3 (millicents 10000)) 4285714 ∷ is (cut_fee 7 7 (millicents 10000)) 10000000 ∷ []

-- the small day: the credit in millicents, its hours' cents, the grid's cells, the participants' credits and the pools' costs
abbrev small_file : List ℕ
small_file = flat_map encode small_day

abbrev nothing_but : List ℕ → List ℕ
nothing_but ns = ns ++ replicate (21 - length ns) 0

abbrev small_cell : ℕ → ℕ → ℕ
small_cell h p = cell (record { block = 4; resource = small_resource; real_time = None }) h p

abbrev small_credits : ℕ → List ℕ
small_credits i = map (credit_of small_file i) (range_with_len 1 21)

abbrev credit_figures : List Figure
credit_figures =
    comes_to (day_ahead_millicents small_resource) (pos 87000000)
    ∷ are (day_ahead_cents small_resource) (replicate 9 0 ++ (58000 ∷ 29000 ∷ replicate 13 0))
    ∷ is (small_cell 9 1) 58000 ∷ is (small_cell 10 6) 29000 ∷ is (small_cell 9 6) 0
    ∷ are (participants_of small_file) (101 ∷ 102 ∷ 103 ∷ [])
    ∷ are (small_credits 0) (nothing_but (34800 ∷ 0 ∷ 0 ∷ 0 ∷ 0 ∷ 17400 ∷ []))
    ∷ are (small_credits 1) (nothing_but (23200 ∷ 0 ∷ 0 ∷ 0 ∷ 0 ∷ 11600 ∷ []))
    ∷ are (small_credits 2) (nothing_but [])
    ∷ is (pool_cost small_file 1) 58000 ∷ is (pool_cost small_file 6) 29000
    ∷ []

-- a day with a trip below the Minimum Run Time and a restart: both fees, the second cut by nothing; the eligible hours 1, 2, 3, 6 and
-- 7, each at the Economic Minimum; the credit, hour by hour and period by period
abbrev real_time_credit_figures : List Figure
real_time_credit_figures =
    is (total (fee_brought tripping tripping_day) 25) (4285714 + 10000000)
    ∷ passes (eligible tripping tripping_day 2) ∷ fails (eligible tripping tripping_day 3) ∷ passes (eligible tripping tripping_day 6)
    ∷ fails (eligible tripping tripping_day 7)
    ∷ is (paid_kwh tripping_day 0) 1000
    ∷ comes_to (real_time_hour tripping tripping_day 0) (negsuc 1999999)
    ∷ comes_to (real_time_millicents tripping tripping_day) (pos 4285714)
    ∷ comes_to (credit_by_periods tripping tripping_day) (pos 4285714)
    ∷ are (real_time_cents tripping tripping_day) (858 ∷ 857 ∷ 857 ∷ 0 ∷ 0 ∷ 857 ∷ 857 ∷ replicate 17 0)
    ∷ []

-- the pools of each flag: economic, LSCPR in regions 1 and 8, voltage support, and SCR in real time
abbrev pool_figures : List Figure
pool_figures =
    are (pool_of DayAhead Economic 3 ∷ pool_of DayAhead Lscpr 1 ∷ pool_of DayAhead Lscpr 8 ∷ pool_of DayAhead Var 3 ∷ []) (1 ∷ 6 ∷ 13 ∷ 2 ∷ [])
    ∷ are (pool_of InRealTime Economic 3 ∷ pool_of InRealTime Lscpr 1 ∷ pool_of InRealTime Lscpr 8 ∷ pool_of InRealTime Var 3 ∷ pool_of InRealTime Scr 3 ∷ []) (3 ∷ 14 ∷ 21 ∷ 5 ∷ 4 ∷ [])
    ∷ []

-- starts: hour 1 of a unit that is off line at midnight, not of one on line; not behind a Self-Scheduled hour; behind an hour in
-- which the unit does not run. An hour's 1000 kWh cost 3000000 millicents and 10000 for No-Load, and are worth 2000000
abbrev start_figures : List Figure
start_figures =
    are (map (start_fee (starting 0)) (0 ∷ 3 ∷ 5 ∷ [])) (500 ∷ 0 ∷ 500 ∷ [])
    ∷ are (map (start_fee (starting 1)) (0 ∷ 3 ∷ 5 ∷ [])) (0 ∷ 0 ∷ 500 ∷ [])
    ∷ comes_to (day_ahead_hour (starting 0) 0) (pos 1510000)
    ∷ comes_to (day_ahead_hour (starting 1) 0) (pos 1010000)
    ∷ comes_to (day_ahead_hour (starting 0) 2) (pos 0)
    ∷ []

-- a real-time hour in which 1000 kWh cleared: what is made beyond them is paid and valued, with no No-Load Fee and no Start-Up Fee;
-- where less is metered than the Dispatch Point says, the metered kWh are paid; hours without kWh share alike
abbrev beyond_figures : List Figure
beyond_figures =
    comes_to (real_time_hour (starting 0) (three_hours (metered 1200 1500 (pos 2500))) 0) (negsuc 649999)
    ∷ is (opening_fee (starting 0) 0) 0 ∷ is (opening_fee (starting 0) 1) 500000
    ∷ is (paid_kwh (three_hours (metered 1200 900 (pos 0))) 0) 900
    ∷ comes_to (real_time_hour (starting 0) (three_hours (metered 1200 900 (pos 2500))) 1) (pos 460000)
    ∷ are (real_time_cents tripping (three_hours (metered 0 0 (pos 0)))) (4334 ∷ 4333 ∷ 4333 ∷ replicate 21 0)
    ∷ []

abbrev pub figures : List Figure
figures =
    rounding_figures
    ++ (self_schedule_figures
    ++ (fee_figures
    ++ (pool_figures
    ++ (start_figures
    ++ (beyond_figures
    ++ (credit_figures
    ++ real_time_credit_figures))))))

-- THE WORKED FIGURES OF CREDITS HOLD
abbrev pub FiguresHold : Type 0
FiguresHold = AllHold figures
