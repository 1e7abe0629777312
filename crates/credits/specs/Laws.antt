-- What adds up in the credits of a day.
use Rattle.std.specs.Prelude.{◌≡◌, ℕ, ◌+◌, ◌≤◌, List, length, Some, None, sum, Option, slice_index}
use Rattle.std.specs.List.{AllByRecursion}
use Rattle.dayfile.specs.declared.record.ResourceRecord.{ResourceRecord}
use Rattle.dayfile.specs.declared.record.RealTimeRecord.{RealTimeRecord}
use Rattle.credits.specs.declared.pool.Market.{Market}
use Rattle.credits.specs.declared.pool.Market.TheVariants.{DayAhead, RealTime}
use Rattle.credits.specs.Sums.{total}
use Rattle.credits.specs.Allotments.{claimed}
use Rattle.credits.specs.DayAhead.{day_ahead_millicents, day_ahead_shares, DayAheadByBlocks}
use Rattle.credits.specs.RealTime.{real_time_millicents, real_time_shares}
use Rattle.credits.specs.Periods.{RealTimeByPeriods}
use Rattle.credits.specs.Resources.{ResourceDay, resources_of}
use Rattle.credits.specs.Grids.{market_cents, cell}
use Rattle.credits.specs.Owning.{owner_places, owner_parts, owned_cents}
use Rattle.credits.specs.Crediting.{participants_of, credit_of, pool_cost}

-- a Resource's owners among n participants share any cents without rest
abbrev pub SharedWhole : ℕ → ResourceDay → Type 0
SharedWhole n x = (cents : ℕ) → total (λ i. owned_cents i (owner_places x.resource) (owner_parts x.resource) cents) n ≡ cents

-- THE CREDITS OF A DAY ADD UP: in each pool the participants' credits are its cost, which is what all Resources bring into it;
-- nothing is credited to a place that is no participant's
pub record CreditsAddUp (f : List ℕ) : Type 0 where
  pub pools : (p : ℕ) → total (λ i. credit_of f i p) (length (participants_of f)) ≡ pool_cost f p
  pub beyond : (i p : ℕ) → length (participants_of f) ≤ i → credit_of f i p ≡ 0
  pub owners : AllByRecursion (SharedWhole (length (participants_of f))) (resources_of f)

-- no pool of an accepted day costs more than a sheet holds
abbrev pub CostsWithin : List ℕ → Type 0
CostsWithin f = (p : ℕ) → 1 ≤ p → p ≤ 21 → pool_cost f p ≤ 10000000000

-- a Resource's credit in cents in a market; without a real-time record there is none in real time
abbrev pub market_credit : Market → ResourceDay → ℕ
market_credit DayAhead x = claimed (day_ahead_millicents x.resource) (day_ahead_shares x.resource)
market_credit RealTime x =
    elim x.real_time [ None ↦ 0 | Some r ↦ claimed (real_time_millicents x.resource r) (real_time_shares x.resource r) ]

-- A RESOURCE'S HOURS ADD UP: in each market the hours' cents are its credit, and all cells of the grid both markets' credits;
-- without a real-time record every hour has 0 cents in real time
pub record HoursAddUp (x : ResourceDay) : Type 0 where
  pub markets : (m : Market) → sum (market_cents m x) ≡ market_credit m x
  pub grid : total (λ h. total (λ j. cell x h (j + 1)) 21) 24 ≡ market_credit DayAhead x + market_credit RealTime x
  pub without : x.real_time ≡ None → (h : ℕ) → slice_index (market_cents RealTime x) h ≡ 0

-- a real-time record's credit goes by periods
abbrev pub ByPeriods : ResourceRecord → Option RealTimeRecord → Type 0
ByPeriods g None = Unit {0}
ByPeriods g (Some r) = RealTimeByPeriods g r

-- THE LAWS OF A RESOURCE'S CREDITS: its hours add up; day-ahead they hang on the blocks of Self-Scheduled hours and the gaps
-- between them; in real time they are the sum over the periods that are read off the events
pub record LawfulCredits (x : ResourceDay) : Type 0 where
  pub hours : HoursAddUp x
  pub blocks : DayAheadByBlocks x.resource
  pub periods : ByPeriods x.resource x.real_time
