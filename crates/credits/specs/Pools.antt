-- The pools in which costs collect, 1 to 21.
use Rattle.std.specs.Prelude.{ℕ, ◌+◌}
use Rattle.dayfile.specs.declared.record.Flag.{Flag}
use Rattle.dayfile.specs.declared.record.Flag.TheVariants.{Economic, Lscpr, Var, Scr}
use Rattle.credits.specs.declared.pool.Market.{Market}
use Rattle.credits.specs.declared.pool.Market.TheVariants.{DayAhead, RealTime}

-- THE POOL of an hour, by its market, its flag and the Resource's region
-- (no admitted day has Scr day-ahead; it is named so that every flag has a pool)
abbrev pub pool_of : Market → Flag → ℕ → ℕ
pool_of DayAhead Economic region = 1
pool_of DayAhead Lscpr region = 5 + region
pool_of DayAhead Var region = 2
pool_of DayAhead Scr region = 1
pool_of RealTime Economic region = 3
pool_of RealTime Lscpr region = 13 + region
pool_of RealTime Var region = 5
pool_of RealTime Scr region = 4
