-- The credits of a day.
use Rattle.std.specs.Prelude.{ℕ, zero, suc, ◌+◌, cond, List, [], ◌∷◌, map, length, replicate, Some, None, sum_by, Option, Result, nat_lt, slice_index}
use Rattle.std.specs.List.{range_with_len}
use Rattle.dayfile.specs.declared.fault.Fault.{Fault}
use Rattle.dayfile.specs.declared.fault.Fault.TheVariants.{Event, PoolCost, NoResource, GridEvent}
use Rattle.dayfile.specs.declared.record.Record.{Record}
use Rattle.dayfile.specs.declared.record.Record.TheVariants.{Day, Participant, Resource, RealTime}
use Rattle.dayfile.specs.Days.{records}
use Rattle.dayfile.specs.Files.{or_else}
use Rattle.dayfile.specs.Writing.{Done}
use Rattle.credits.specs.declared.amounts.PoolAmounts.{PoolAmounts}
use Rattle.credits.specs.declared.grid.Grid.{Grid}
use Rattle.credits.specs.declared.credits.Credits.{Credits}
use Rattle.credits.specs.Sums.{total}
use Rattle.credits.specs.Resources.{ResourceDay, resources_of, numbered}
use Rattle.credits.specs.Grids.{cell, by_pool, grid_of, stopped, amount}
use Rattle.credits.specs.Owning.{owner_places, owner_parts, owned_cents}

-- the numbers of the participants, by place
unfoldable pub participants_in : List Record → List ℕ
participants_in [] = []
participants_in (Day d ∷ rs) = participants_in rs
participants_in (Participant p ∷ rs) = p.number ∷ participants_in rs
participants_in (Resource g ∷ rs) = participants_in rs
participants_in (RealTime r ∷ rs) = participants_in rs

abbrev pub participants_of : List ℕ → List ℕ
participants_of f = participants_in (records f)

-- a Resource's credit to a place in a pool: of each hour's cents there, the place's share
unfoldable pub resource_credit : ℕ → ℕ → ResourceDay → ℕ
resource_credit i p x = total (λ h. owned_cents i (owner_places x.resource) (owner_parts x.resource) (cell x h p)) 24

-- what a Resource brings into a pool over the day, which is its part of the pool's cost
unfoldable pub resource_cost : ℕ → ResourceDay → ℕ
resource_cost p x = total (λ h. cell x h p) 24

-- THE CREDIT of a place in a pool, and THE COST of a pool
unfoldable pub credit_of : List ℕ → ℕ → ℕ → ℕ
credit_of f i p = sum_by (resource_credit i p) (resources_of f)

unfoldable pub pool_cost : List ℕ → ℕ → ℕ
pool_cost f p = sum_by (resource_cost p) (resources_of f)

-- THE CREDITS of a day: the participants by place, and each one's credit in each pool; lines past the count are 0
abbrev pub credits_of : List ℕ → Credits
credits_of f =
    record {
      count = length (participants_of f);
      participants = map (λ i. slice_index (participants_of f) i) (range_with_len 0 48);
      amounts = map (λ i. by_pool (credit_of f i)) (range_with_len 0 48);
    }

-- no participants, and nothing credited
abbrev pub no_credits : Credits
no_credits = record { count = 0; participants = replicate 48 0; amounts = replicate 48 (record { cents = replicate 21 0 }) }

-- the first event that may not follow those before it: the block of the real-time record, and the hour
abbrev pub event_fault : ResourceDay → Option Fault
event_fault x = elim (stopped x) [ None ↦ None | Some h ↦ Some (Event (x.block + 1) h) ]

unfoldable pub first_event_fault : List ResourceDay → Option Fault
first_event_fault [] = None
first_event_fault (x ∷ xs) = or_else (event_fault x) (first_event_fault xs)

-- the first of the pools 1 to n that costs more than a sheet holds
unfoldable pub cost_fault : (ℕ → ℕ) → ℕ → Option Fault
cost_fault cost zero = None
cost_fault cost (suc p) = or_else (cost_fault cost p) (cond (nat_lt 10000000000 (cost (p + 1))) (Some (PoolCost (p + 1))) None)

-- WHY A DAY IS NOT CREDITED: an event first, then a pool's cost
abbrev pub credit_fault : List ℕ → Option Fault
credit_fault f = or_else (first_event_fault (resources_of f)) (cost_fault (pool_cost f) 21)

-- CREDITING A DAY
abbrev pub CreditsDay : List ℕ → Credits → Result (Unit {0}) Fault → Credits → Type 0
CreditsDay f was answer after = Done (credit_fault f) was (credits_of f) answer after

-- why a found Resource has no grid
abbrev pub grid_fault : ResourceDay → Option Fault
grid_fault x = elim (stopped x) [ None ↦ None | Some h ↦ Some GridEvent ]

-- THE HOURLY ALLOCATION of the Resource of a number
abbrev pub Allocates : List ℕ → ℕ → Grid → Result (Unit {0}) Fault → Grid → Type 0
Allocates f n was answer after =
    elim (numbered n (resources_of f)) [
      | None ↦ Done (Some NoResource) was was answer after
      | Some x ↦ Done (grid_fault x) was (grid_of x) answer after
    ]

-- the sum of a pool's amounts over all places
abbrev pub column : List PoolAmounts → ℕ → ℕ
column rows p = total (λ i. amount rows i p) 48
