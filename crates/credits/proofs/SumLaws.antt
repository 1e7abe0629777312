-- The credits of a day add up, and so do a Resource's hours.
use Rattle.std.proofs.Common.{◌≡◌, ℕ, ◌+◌, ◌-◌, ◌<◌, ◌≤◌, cond, eqb, List, [], ◌∷◌, length, get_or, ℤ, Some, None, sum_by, sum, Option, sym, refl, ◌∙◌, subst, arith}
use Rattle.std.specs.List.{AllByRecursion}
use Rattle.std.proofs.lemmas.List.FromFn.{length-map-range_with_len}
use Rattle.std.proofs.ByRecursion.{All-map, All-weaker}
use Rattle.std.proofs.lemmas.List.{length-map}
use Rattle.std.proofs.lemmas.List.Sums.{sum_by-cons}
use Rattle.std.proofs.lemmas.Bool.{eq-eqb, ne_eqb, cond-false}
use Rattle.dayfile.specs.declared.record.ResourceRecord.{ResourceRecord}
use Rattle.dayfile.specs.declared.record.RealTimeRecord.{RealTimeRecord}
use Rattle.dayfile.specs.declared.record.Flag.{Flag}
use Rattle.dayfile.specs.declared.record.Flag.TheVariants.{Economic, Lscpr, Var, Scr}
use Rattle.dayfile.specs.WellFormed.{Formed}
use Rattle.division.specs.Division.{divided}
use Rattle.division.proofs.FairLaws.{divided_fair, length_divided}
use Rattle.credits.specs.declared.share.HourShare.{HourShare}
use Rattle.credits.specs.declared.pool.Market.{Market}
use Rattle.credits.specs.declared.pool.Market.TheVariants.{DayAhead, RealTime}
use Rattle.credits.specs.Sums.{total}
use Rattle.credits.specs.Allotments.{even, weight, weights, claimed, allotted}
use Rattle.credits.specs.DayAhead.{day_ahead_millicents, day_ahead_share, day_ahead_shares, day_ahead_cents}
use Rattle.credits.specs.RealTime.{real_time_millicents, real_time_share, real_time_shares, real_time_cents}
use Rattle.credits.specs.Pools.{pool_of}
use Rattle.credits.specs.Resources.{ResourceDay, OwnRealTimeKept, Kept, resources_of}
use Rattle.credits.specs.Grids.{market_cents, market_flag, market_pool, entered, cell}
use Rattle.credits.specs.Owning.{owner_places, owner_parts, owners_of, got, owned_cents}
use Rattle.credits.specs.Crediting.{participants_of, resource_credit, resource_cost, credit_of, pool_cost}
use Rattle.credits.specs.Laws.{SharedWhole, CreditsAddUp, market_credit, HoursAddUp, ByPeriods, LawfulCredits}
use Rattle.credits.proofs.Allots.{divisible}
use Rattle.credits.proofs.Blocks.{by_blocks}
use Rattle.credits.proofs.Days.{resources_kept}
use Rattle.credits.proofs.PeriodLaws.{real_time_by_periods}
use Rattle.credits.proofs.Rows.{zeros_at}
use Rattle.credits.proofs.Sharing.{divided_whole}
use Rattle.credits.proofs.Totals.{total_same, total_zero, total_add, total_swap, total_sum_by, total_one, total_list}

-- shares that go to places below n are what all places below n get, and a place from n on gets nothing
pub got_total : (n : ℕ) (ps ss : List ℕ) → AllByRecursion (λ p. p < n) ps → length ss ≡ length ps → total (λ i. got i ps ss) n ≡ sum ss
unfolding got
got_total n [] [] a e = total_zero (λ i. 0) n (λ i _. refl)
got_total n [] (s ∷ ss) a e = absurd (omega arith)
got_total n (p ∷ ps) [] a e = absurd (omega arith)
got_total n (p ∷ ps) (s ∷ ss) a e =
    omega (
      arith,
      total_add (λ i. cond (eqb p i) s 0) (λ i. got i ps ss) n,
      total_one (eqb p) s p n a.0 (eq-eqb p p refl) (λ j ne. ne_eqb p j (λ q. ne (sym q))),
      got_total n ps ss a.1 (omega arith),
      sum_by-cons (λ x. x) s ss,
    )

pub got_beyond : (n i : ℕ) (ps ss : List ℕ) → AllByRecursion (λ p. p < n) ps → n ≤ i → got i ps ss ≡ 0
unfolding got
got_beyond n i [] ss a l = refl
got_beyond n i (p ∷ ps) [] a l = refl
got_beyond n i (p ∷ ps) (s ∷ ss) a l =
    omega (arith, cond-false (eqb p i) s 0 (ne_eqb p i (λ e. omega (arith, a.0))), got_beyond n i ps ss a.1 l)

-- a Resource whose owners lie among n participants
module _ (n : ℕ) (x : ResourceDay) (k : Kept n x) where
  places_below : AllByRecursion (λ p. p < n) (owner_places x.resource)
  places_below = All-map (λ p. p < n) (λ o. o.place) (owners_of x.resource) k.resource.owners.below

  pub owners_whole : SharedWhole n x
  unfolding owned_cents
  owners_whole c =
      let os = owners_of x.resource in
      let parts = owner_parts x.resource in
      got_total n (owner_places x.resource) (divided c parts) places_below
      (length_divided c parts ∙ length-map os (λ o. o.parts) ∙ sym (length-map os (λ o. o.place)))
      ∙ divided_whole c parts (omega (arith, k.resource.owners.whole))

  pub credit_whole : (p : ℕ) → total (λ i. resource_credit i p x) n ≡ resource_cost p x
  unfolding resource_credit resource_cost
  credit_whole p =
      let owned : ℕ → ℕ → ℕ = λ i h. owned_cents i (owner_places x.resource) (owner_parts x.resource) (cell x h p) in
      total_swap owned n 24 ∙ total_same (λ h. total (λ i. owned i h) n) (λ h. cell x h p) 24 (λ h _. owners_whole (cell x h p))

  pub credit_beyond : (i p : ℕ) → n ≤ i → resource_credit i p x ≡ 0
  unfolding resource_credit owned_cents
  credit_beyond i p l =
      total_zero (λ h. owned_cents i (owner_places x.resource) (owner_parts x.resource) (cell x h p)) 24
      (λ h _. got_beyond n i (owner_places x.resource) (divided (cell x h p) (owner_parts x.resource)) places_below l)

sum_by_zero : {X : Type 0} (f : X → ℕ) (xs : List X) → AllByRecursion (λ x. f x ≡ 0) xs → sum_by f xs ≡ 0
sum_by_zero f [] a = refl
sum_by_zero f (x ∷ xs) a = omega (arith, sum_by-cons f x xs, a.0, sum_by_zero f xs a.1)

-- THE CREDITS OF A DAY ADD UP, over any n places among which the owners lie
pub pool_whole : (f : List ℕ) (n p : ℕ) → AllByRecursion (Kept n) (resources_of f) → total (λ i. credit_of f i p) n ≡ pool_cost f p
unfolding credit_of pool_cost
pool_whole f n p a = total_sum_by (λ i. resource_credit i p) n (resource_cost p) (Kept n) (λ x k. credit_whole n x k p) (resources_of f) a

pub credits_add_up : (f : List ℕ) → Formed f → CreditsAddUp f
unfolding credit_of
credits_add_up f w =
    let n = length (participants_of f) in
    let kept = resources_kept f w in
    record {
      pools = λ p. pool_whole f n p kept;
      beyond = λ i p l. sum_by_zero (resource_credit i p) (resources_of f) (All-weaker (Kept n) (λ x. resource_credit i p x ≡ 0) (λ x k. credit_beyond n x k i p l) (resources_of f) kept);
      owners = All-weaker (Kept n) (SharedWhole n) (owners_whole n) (resources_of f) kept;
    }

-- a credit's hours add up to its cents
pub allotted_whole : (m : ℤ) (hours : List HourShare) → sum (allotted m hours) ≡ claimed m hours
unfolding allotted
allotted_whole m hours = (divided_fair (claimed m hours) (weights hours) (divisible m hours)).whole

pub length_allotted : (m : ℤ) (hours : List HourShare) → length (allotted m hours) ≡ length hours
unfolding allotted
length_allotted m hours = length_divided (claimed m hours) (weights hours) ∙ length-map hours (weight (even hours))

-- the hours of a market: 24, which add up to its credit
record MarketHours (m : Market) (x : ResourceDay) : Type 0 where
  long : length (market_cents m x) ≡ 24
  whole : sum (market_cents m x) ≡ market_credit m x

real_time_hours : (block : ℕ) (g : ResourceRecord) (o : Option RealTimeRecord) → MarketHours RealTime (record { block = block; resource = g; real_time = o })
unfolding real_time_cents
real_time_hours block g None = record { long = refl; whole = refl }
real_time_hours block g (Some r) =
    record {
      long = length_allotted (real_time_millicents g r) (real_time_shares g r) ∙ length-map-range_with_len (real_time_share g r) 0 24;
      whole = allotted_whole (real_time_millicents g r) (real_time_shares g r);
    }

market_hours : (m : Market) (x : ResourceDay) → MarketHours m x
unfolding day_ahead_cents
market_hours DayAhead x =
    record {
      long = length_allotted (day_ahead_millicents x.resource) (day_ahead_shares x.resource) ∙ length-map-range_with_len (day_ahead_share x.resource) 0 24;
      whole = allotted_whole (day_ahead_millicents x.resource) (day_ahead_shares x.resource);
    }
market_hours RealTime x = real_time_hours x.block x.resource x.real_time

-- each hour enters one of the 21 pools
pub pools_within : (m : Market) (f : Flag) (r : ℕ) → 1 ≤ r → r ≤ 8 → (1 ≤ pool_of m f r) × (pool_of m f r ≤ 21)
pools_within DayAhead Economic r l h = (omega arith, omega arith)
pools_within DayAhead Lscpr r l h = (omega arith, omega arith)
pools_within DayAhead Var r l h = (omega arith, omega arith)
pools_within DayAhead Scr r l h = (omega arith, omega arith)
pools_within RealTime Economic r l h = (omega arith, omega arith)
pools_within RealTime Lscpr r l h = (omega arith, omega arith)
pools_within RealTime Var r l h = (omega arith, omega arith)
pools_within RealTime Scr r l h = (omega arith, omega arith)

-- A RESOURCE'S HOURS ADD UP
module _ (n : ℕ) (x : ResourceDay) (k : Kept n x) where
  entered_whole : (m : Market) (h : ℕ) → total (λ j. entered m x h (j + 1)) 21 ≡ get_or (market_cents m x) h 0
  entered_whole m h =
      let q = market_pool m x h in
      let within = pools_within m (market_flag m x h) x.resource.region k.resource.region.0 k.resource.region.1 in
      total_one (λ j. eqb (j + 1) q) (get_or (market_cents m x) h 0) (q - 1) 21 (omega (arith, within)) (eq-eqb (q - 1 + 1) q (omega (arith, within)))
      (λ j ne. ne_eqb (j + 1) q (λ e. ne (omega (arith, within))))

  market_whole : (m : Market) → total (λ h. total (λ j. entered m x h (j + 1)) 21) 24 ≡ market_credit m x
  market_whole m =
      let hours = market_hours m x in
      total_same (λ h. total (λ j. entered m x h (j + 1)) 21) (λ h. get_or (market_cents m x) h 0) 24 (λ h _. entered_whole m h)
      ∙ total_list (market_cents m x) 24 hours.long ∙ hours.whole

  pub hours_add_up : HoursAddUp x
  unfolding cell
  hours_add_up =
      let sums : ℕ → Market → ℕ = λ h m. total (λ j. entered m x h (j + 1)) 21 in
      record {
        markets = λ m. (market_hours m x).whole;
        grid =
            total_same (λ h. total (λ j. cell x h (j + 1)) 21) (λ h. sums h DayAhead + sums h RealTime) 24
            (λ h _. total_add (λ j. entered DayAhead x h (j + 1)) (λ j. entered RealTime x h (j + 1)) 21)
            ∙ omega (arith, total_add (λ h. sums h DayAhead) (λ h. sums h RealTime) 24, market_whole DayAhead, market_whole RealTime);
        without = λ e h.
            subst (λ (o : Option RealTimeRecord). get_or (market_cents RealTime (record { block = x.block; resource = x.resource; real_time = o })) h 0 ≡ 0) (sym e) (zeros_at 24 h);
      }

-- THE LAWS OF EACH RESOURCE'S CREDITS
periods_of : (g : ResourceRecord) (o : Option RealTimeRecord) → OwnRealTimeKept o → ByPeriods g o
periods_of g None k = tt
periods_of g (Some r) k = real_time_by_periods g r k.events

pub day_lawful : (f : List ℕ) → Formed f → AllByRecursion LawfulCredits (resources_of f)
day_lawful f w =
    let n = length (participants_of f) in
    All-weaker (Kept n) LawfulCredits
    (λ x k. record { hours = hours_add_up n x k; blocks = by_blocks x.resource; periods = periods_of x.resource x.real_time k.real_time })
    (resources_of f) (resources_kept f w)
