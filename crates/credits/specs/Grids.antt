-- A Resource's cents hour by hour and pool by pool.
use Rattle.std.specs.Prelude.{◌≡◌, ℕ, ◌+◌, ◌-◌, ◌<◌, ◌≤◌, cond, List, [], map, length, get_or, replicate, Some, None, Option, ◌==◌, slice_index, slice_index_or}
use Rattle.std.specs.List.{range_with_len}
use Rattle.dayfile.specs.declared.record.Flag.{Flag}
use Rattle.dayfile.specs.declared.record.Flag.TheVariants.{Economic}
use Rattle.credits.specs.Resources.{ResourceDay}
use Rattle.credits.specs.declared.pool.Market.{Market}
use Rattle.credits.specs.declared.pool.Market.TheVariants.{DayAhead, RealTime}
use Rattle.credits.specs.declared.amounts.PoolAmounts.{PoolAmounts}
use Rattle.credits.specs.declared.grid.Grid.{Grid}
use Rattle.credits.specs.declared.hourly.HourlyCents.{HourlyCents}
use Rattle.credits.specs.Pools.{pool_of}
use Rattle.credits.specs.DayAhead.{day_ahead_cents}
use Rattle.credits.specs.RealTime.{forbidden_hour, real_time_cents}

-- a Resource's cents in each hour of a market; without a real-time record there are none in real time
abbrev pub market_cents : Market → ResourceDay → List ℕ
market_cents DayAhead x = day_ahead_cents x.resource
market_cents RealTime x = elim x.real_time [ None ↦ replicate 24 0 | Some r ↦ real_time_cents x.resource r ]

-- and the flag of an hour
abbrev pub market_flag : Market → ResourceDay → ℕ → Flag
market_flag DayAhead x h = slice_index_or x.resource.flags h Economic
market_flag RealTime x h = elim x.real_time [ None ↦ Economic | Some r ↦ get_or r.flags h Economic ]

-- the pool of an hour of a market
abbrev pub market_pool : Market → ResourceDay → ℕ → ℕ
market_pool m x h = pool_of m (market_flag m x h) x.resource.region

-- what an hour of a market brings into a pool
abbrev pub entered : Market → ResourceDay → ℕ → ℕ → ℕ
entered m x h p = cond (p == market_pool m x h) (slice_index (market_cents m x) h) 0

-- A CELL of the grid: the cents of an hour, from 0, in a pool, from 1
unfoldable pub cell : ResourceDay → ℕ → ℕ → ℕ
cell x h p = entered DayAhead x h p + entered RealTime x h p

-- amounts for the pools 1 to 21
abbrev pub by_pool : (ℕ → ℕ) → PoolAmounts
by_pool f = record { cents = map f (range_with_len 1 21) }

-- THE GRID
abbrev pub grid_of : ResourceDay → Grid
grid_of x = record { hours = map (λ h. by_pool (cell x h)) (range_with_len 0 24) }

-- the first hour of a Resource's real-time day, told from 1, whose event may not follow
abbrev pub stopped : ResourceDay → Option ℕ
stopped x = elim x.real_time [ None ↦ None | Some r ↦ forbidden_hour x.resource r 24 ]

-- a Resource's cents are those of both markets
pub record Allotted (x : ResourceDay) (c : HourlyCents) : Type 0 where
  pub day_ahead : c.day_ahead.cents ≡ market_cents DayAhead x
  pub real_time : c.real_time.cents ≡ market_cents RealTime x

-- the amounts of a row that has none
abbrev pub no_amounts : PoolAmounts
no_amounts = record { cents = [] }

-- the amount of a place, or of an hour, in a pool
abbrev pub amount : List PoolAmounts → ℕ → ℕ → ℕ
amount rows i p = slice_index (get_or rows i no_amounts).cents (p - 1)

-- each of n rows has an amount for each pool
pub record Wide (n : ℕ) (rows : List PoolAmounts) : Type 0 where
  pub rows_long : length rows ≡ n
  pub row_long : (i : ℕ) → i < n → length (get_or rows i no_amounts).cents ≡ 21

-- no amount is above a limit
abbrev pub Below : ℕ → List PoolAmounts → Type 0
Below most rows = (i p : ℕ) → amount rows i p ≤ most
