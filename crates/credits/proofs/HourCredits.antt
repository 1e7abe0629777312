-- An hour's cents of both markets, credited to the owners' places.
use Rattle.std.proofs.Common.{◌≡◌, ℕ, zero, suc, ◌+◌, ◌<◌, ◌≤◌, Bool, true, false, cond, eqb, ◌⊎◌, List, [], ◌∷◌, map, length, get_or, take, sum, sym, refl, ap, ◌∙◌, subst, inl, inr, arith}
use Rattle.std.specs.List.{AllByRecursion}
use Rattle.std.proofs.ByRecursion.{All-map}
use Rattle.std.proofs.lemmas.List.{length-map, length-take}
use Rattle.std.proofs.lemmas.Bool.{eqb-true}
use Rattle.dayfile.specs.declared.record.Owner.{Owner}
use Rattle.dayfile.specs.declared.record.ResourceRecord.{ResourceRecord}
use Rattle.dayfile.specs.declared.record.Flag.{Flag}
use Rattle.dayfile.specs.declared.record.Flag.TheVariants.{Economic, Lscpr, Var, Scr}
use Rattle.dayfile.specs.Keeping.{ResourceKept}
use Rattle.credits.specs.declared.owner.OwnerShare.{OwnerShare}
use Rattle.credits.specs.declared.pool.Market.{Market}
use Rattle.credits.specs.declared.pool.Market.TheVariants.{DayAhead, RealTime}
use Rattle.credits.specs.Pools.{pool_of}
use Rattle.credits.specs.Resources.{ResourceDay, Kept}
use Rattle.credits.specs.Grids.{market_cents, market_flag, market_pool, cell}
use Rattle.credits.specs.Owning.{owner_places, owner_parts, owned_cents, of_owner}
use Rattle.credits.proofs.Sharing.{owned_nothing}

-- the two markets enter different pools
day_ahead_pool : (f : Flag) (r : ℕ) → 1 ≤ r → r ≤ 8 → (pool_of DayAhead f r ≤ 2) ⊎ ((6 ≤ pool_of DayAhead f r) × (pool_of DayAhead f r ≤ 13))
day_ahead_pool Economic r l h = inl (omega arith)
day_ahead_pool Lscpr r l h = inr (omega arith, omega arith)
day_ahead_pool Var r l h = inl (omega arith)
day_ahead_pool Scr r l h = inl (omega arith)

real_time_pool : (f : Flag) (r : ℕ) → 1 ≤ r → ((3 ≤ pool_of RealTime f r) × (pool_of RealTime f r ≤ 5)) ⊎ (14 ≤ pool_of RealTime f r)
real_time_pool Economic r l = inl (omega arith, omega arith)
real_time_pool Lscpr r l = inr (omega arith)
real_time_pool Var r l = inl (omega arith, omega arith)
real_time_pool Scr r l = inl (omega arith, omega arith)

pub pools_apart : (f g : Flag) (r : ℕ) → 1 ≤ r → r ≤ 8 → pool_of DayAhead f r ≡ pool_of RealTime g r → ⊥
pools_apart f g r l h e =
    elim (day_ahead_pool f r l h) [
      | inl a ↦ elim (real_time_pool g r l) [ inl b ↦ omega arith | inr b ↦ omega arith ]
      | inr a ↦ elim (real_time_pool g r l) [ inl b ↦ omega arith | inr b ↦ omega arith ]
    ]

-- of two amounts at most one enters, so that a function of their sum is the sum of it of each
one_enters : (F : ℕ → ℕ) → F 0 ≡ 0 → (t u : Bool) (a b : ℕ) → (t ≡ true → u ≡ true → ⊥) → cond t (F a) 0 + cond u (F b) 0 ≡ F (cond t a 0 + cond u b 0)
one_enters F z true true a b h = absurd (h refl refl)
one_enters F z true false a b h = let e : a ≡ a + 0 = omega arith in omega (arith, ap F e)
one_enters F z false true a b h = let e : b ≡ 0 + b = omega arith in omega (arith, ap F e)
one_enters F z false false a b h = sym z

-- what a place gets of an hour's cents of a market in a pool
abbrev pub market_owned : Market → ResourceDay → ℕ → ℕ → ℕ → ℕ
market_owned m x h i p =
    cond (eqb p (market_pool m x h)) (owned_cents i (owner_places x.resource) (owner_parts x.resource) (get_or (market_cents m x) h 0)) 0

-- and of the cell of both markets
pub cell_owned : (x : ResourceDay) (h i p : ℕ) → Kept 48 x
    → market_owned DayAhead x h i p + market_owned RealTime x h i p ≡ owned_cents i (owner_places x.resource) (owner_parts x.resource) (cell x h p)
unfolding cell
cell_owned x h i p k =
    let ps = owner_places x.resource in
    let qs = owner_parts x.resource in
    let d = market_pool DayAhead x h in
    let r = market_pool RealTime x h in
    one_enters (owned_cents i ps qs) (owned_nothing i ps qs 0 refl) (eqb p d) (eqb p r) (get_or (market_cents DayAhead x) h 0) (get_or (market_cents RealTime x) h 0)
    (λ s t.
    pools_apart (market_flag DayAhead x h) (market_flag RealTime x h) x.resource.region k.resource.region.0 k.resource.region.1
    (sym (eqb-true p d s) ∙ eqb-true p r t))

-- cents shared out under names of their own are those of a market
pub market_entry : (m : Market) (x : ResourceDay) (h i p pool cents : ℕ) (places parts : List ℕ) (a b : ℕ) → pool ≡ market_pool m x h
    → cents ≡ get_or (market_cents m x) h 0 → places ≡ owner_places x.resource → parts ≡ owner_parts x.resource
    → b ≡ a + cond (eqb p pool) (owned_cents i places parts cents) 0 → b ≡ a + market_owned m x h i p
market_entry m x h i p pool cents places parts a b s t u v e = cc

-- the slots in use are the owners
pub first_owners : {X : Type 0} (f : OwnerShare → X) (g : Owner → X) → ((o : Owner) → f (of_owner o) ≡ g o)
    → (n : ℕ) (os : List Owner) → map f (take n (map of_owner os)) ≡ map g (take n os)
first_owners f g h zero os = refl
first_owners f g h (suc n) [] = refl
first_owners f g h (suc n) (o ∷ os) = ap (λ y. y ∷ map f (take n (map of_owner os))) (h o) ∙ ap (λ ys. g o ∷ ys) (first_owners f g h n os)

-- owners at a Resource's places with its parts are as dividing asks
all_unmap : {X Y : Type 0} (P : Y → Type 0) (f : X → Y) (xs : List X) → AllByRecursion P (map f xs) → AllByRecursion (λ x. P (f x)) xs
all_unmap P f [] a = tt
all_unmap P f (x ∷ xs) a = (a.0, all_unmap P f xs a.1)

pub owners_fit : (g : ResourceRecord) (xs : List OwnerShare) → ResourceKept 48 g → map (λ o. o.place) xs ≡ owner_places g → map (λ o. o.parts) xs ≡ owner_parts g
    → (length xs ≤ 8) × ((AllByRecursion (λ o. o.place < 48) xs) × (sum (map (λ o. o.parts) xs) ≡ 1000000))
owners_fit g xs k e f =
    let os = take g.owner_count g.owners in (
      omega (arith, length-map xs (λ o. o.place), ap length e, length-map os (λ o. o.place), length-take g.owner_count g.owners, k.owner_count),
      (
        all_unmap (λ n. n < 48) (λ o. o.place) xs (subst (AllByRecursion (λ n. n < 48)) (sym e) (All-map (λ n. n < 48) (λ o. o.place) os k.owners.below)),
        ap sum f ∙ k.owners.whole,
      ),
    )
