-- The owners' rules: the turns of the loops over owners, and the rules as facts.
use Rattle.std.proofs.Common.{◌≡◌, ℕ, ◌+◌, ◌^◌, ◌<◌, ◌≤◌, min, Bool, true, false, ◌&&◌, eqb, ltb, leb, ◌⊎◌, List, [], ◌∷◌, map, length, get_or, take, drop, sum, sym, refl, ap, ◌∙◌, subst, inl, inr, le_refl, arith}
use Rattle.std.specs.List.{AllByRecursion, list_all}
use Rattle.std.proofs.lemmas.List.{at_drop_more, take-append-drop}
use Rattle.std.proofs.ByRecursion.{All-append, All-weaker}
use Rattle.std.proofs.lemmas.List.Sums.{sum-map, sum_by-cons}
use Rattle.std.proofs.lemmas.Bool.{and_parts, eqb-true, ltb-true, leb-true, and_left, and_right, and_from, eq-eqb, lt-ltb, le-ltb, le-leb, lt-leb}
use Rattle.dayfile.specs.declared.record.Owner.{Owner}
use Rattle.dayfile.specs.Owners.{Rises, Owned, placed, parts_of, vacant, owners_kept}
use Rattle.dayfile.specs.Writing.{OwnerFits}
use Rattle.dayfile.proofs.Cuts.{take_min, drop_min}

abbrev pub no_owner : Owner
no_owner = record { place = 0; parts = 0 }

passes : (t u : Bool) → t ≡ true → (t && u) ≡ u
passes t u e = ap (λ x. x && u) e

pub vacant_all : (os : List Owner) → list_all (λ (o : Owner). eqb o.place 0 && eqb o.parts 0) os ≡ vacant os
unfolding vacant
vacant_all [] = refl
vacant_all (o ∷ os) = ap (λ b. (eqb o.place 0 && eqb o.parts 0) && b) (vacant_all os)

module _ (os : List Owner) (i : ℕ) (h : i < length os) where
  abbrev owner : Owner
  owner = get_or os i no_owner

  placed_step : (least limit : ℕ) → placed least limit (drop i os)
      ≡ (leb least owner.place && (ltb owner.place limit && ltb 0 owner.parts)) && placed (owner.place + 1) limit (drop (i + 1) os)
  unfolding placed
  placed_step least limit = at_drop_more (placed least limit) os i no_owner h

  pub placed_more : (least limit : ℕ) → least ≤ owner.place → owner.place < limit → (owner.parts ≡ 0 → ⊥)
      → placed least limit (drop i os) ≡ placed (owner.place + 1) limit (drop (i + 1) os)
  placed_more least limit a b c =
      let d : 0 < owner.parts = omega arith in
      placed_step least limit ∙ passes _ _ (and_from _ _ (le-leb _ _ a) (and_from _ _ (lt-ltb _ _ b) (lt-ltb _ _ d)))

  pub placed_not : (least limit : ℕ) → (owner.place < least) ⊎ ((limit ≤ owner.place) ⊎ (owner.parts ≡ 0)) → placed least limit (drop i os) ≡ false
  placed_not least limit (inl a) = placed_step least limit ∙ and_left _ _ (and_left _ _ (lt-leb _ _ a))
  placed_not least limit (inr (inl b)) = placed_step least limit ∙ and_left _ _ (and_right _ _ (and_left _ _ (le-ltb _ _ b)))
  placed_not least limit (inr (inr c)) =
      let d : owner.parts ≤ 0 = omega arith in
      placed_step least limit ∙ and_left _ (placed (owner.place + 1) limit (drop (i + 1) os)) (and_right (leb least owner.place) _ (and_right (ltb owner.place limit) _ (le-ltb _ _ d)))

  pub parts_more : parts_of (drop i os) ≡ owner.parts + parts_of (drop (i + 1) os)
  unfolding parts_of
  parts_more = at_drop_more parts_of os i no_owner h

-- what the two halves of the slots say together
pub kept_by_halves : (limit count n : ℕ) (os used rest : List Owner) → n ≡ min count (length os) → used ≡ take n os → rest ≡ drop n os
    → ((placed 0 limit used && eqb (parts_of used) 1000000) && vacant rest) ≡ owners_kept limit count os
kept_by_halves limit count n os used rest e f g =
    let u : used ≡ take count os = f ∙ ap (λ k. take k os) e ∙ take_min count os in
    let v : rest ≡ drop count os = g ∙ ap (λ k. drop k os) e ∙ drop_min count os in
    ap (λ us. (placed 0 limit us && eqb (parts_of us) 1000000) && vacant rest) u
    ∙ ap (λ vs. (placed 0 limit (take count os) && eqb (parts_of (take count os)) 1000000) && vacant vs) v

-- THE RULES as a test and as facts say the same
-- the first owner's place is at least so much
abbrev Starts : ℕ → List Owner → Type 0
Starts least [] = Unit {0}
Starts least (o ∷ os) = least ≤ o.place

record Placed (least limit : ℕ) (os : List Owner) : Type 0 where
  starts : Starts least os
  rising : Rises (map (λ o. o.place) os)
  below : AllByRecursion (λ o. o.place < limit) os
  above : AllByRecursion (λ o. 0 < o.parts) os

-- one owner more in front
rises_more : (o : Owner) (os : List Owner) → Starts (o.place + 1) os → Rises (map (λ o. o.place) os) → Rises (map (λ o. o.place) (o ∷ os))
rises_more o [] s r = tt
rises_more o (p ∷ os) s r = (omega arith, r)

rises_less : (o : Owner) (os : List Owner) → Rises (map (λ o. o.place) (o ∷ os)) → Starts (o.place + 1) os × Rises (map (λ o. o.place) os)
rises_less o [] r = (tt, tt)
rises_less o (p ∷ os) r = (omega (arith, r.0), r.1)

placed_true : (least limit : ℕ) (os : List Owner) → placed least limit os ≡ true → Placed least limit os
unfolding placed
placed_true least limit [] e = record { starts = tt; rising = tt; below = tt; above = tt }
placed_true least limit (o ∷ os) e =
    let p = and_parts (leb least o.place && (ltb o.place limit && ltb 0 o.parts)) (placed (o.place + 1) limit os) e in
    let q = and_parts (leb least o.place) (ltb o.place limit && ltb 0 o.parts) p.0 in
    let r = and_parts (ltb o.place limit) (ltb 0 o.parts) q.1 in
    let ih = placed_true (o.place + 1) limit os p.1 in
    record {
      starts = leb-true _ _ q.0;
      rising = rises_more o os ih.starts ih.rising;
      below = (ltb-true _ _ r.0, ih.below);
      above = (ltb-true _ _ r.1, ih.above);
    }

true_placed : (least limit : ℕ) (os : List Owner) → Placed least limit os → placed least limit os ≡ true
unfolding placed
true_placed least limit [] p = refl
true_placed least limit (o ∷ os) p =
    let r = rises_less o os p.rising in
    and_from _ _ (and_from _ _ (le-leb _ _ p.starts) (and_from _ _ (lt-ltb _ _ p.below.0) (lt-ltb _ _ p.above.0)))
    (true_placed (o.place + 1) limit os (record { starts = r.0; rising = r.1; below = p.below.1; above = p.above.1 }))

parts_sum : (os : List Owner) → parts_of os ≡ sum (map (λ o. o.parts) os)
unfolding parts_of
parts_sum [] = refl
parts_sum (o ∷ os) =
    ap (λ n. o.parts + n) (parts_sum os ∙ sum-map (λ o. o.parts) os) ∙ sym (sum_by-cons (λ o. o.parts) o os) ∙ sym (sum-map (λ o. o.parts) (o ∷ os))

vacant_true : (os : List Owner) → vacant os ≡ true → AllByRecursion (λ o. (o.place ≡ 0) × (o.parts ≡ 0)) os
unfolding vacant
vacant_true [] e = tt
vacant_true (o ∷ os) e =
    let p = and_parts (eqb o.place 0 && eqb o.parts 0) (vacant os) e in
    let q = and_parts (eqb o.place 0) (eqb o.parts 0) p.0 in
    ((eqb-true _ _ q.0, eqb-true _ _ q.1), vacant_true os p.1)

true_vacant : (os : List Owner) → AllByRecursion (λ o. (o.place ≡ 0) × (o.parts ≡ 0)) os → vacant os ≡ true
unfolding vacant
true_vacant [] a = refl
true_vacant (o ∷ os) a = and_from _ _ (and_from _ _ (eq-eqb _ _ a.0.0) (eq-eqb _ _ a.0.1)) (true_vacant os a.1)

starts_none : (os : List Owner) → Starts 0 os
starts_none [] = tt
starts_none (o ∷ os) = omega arith

-- the owners' numbers are small
parts_le : (m : ℕ) (os : List Owner) → parts_of os ≤ m → AllByRecursion (λ o. o.parts ≤ m) os
unfolding parts_of
parts_le m [] l = tt
parts_le m (o ∷ os) l = (omega arith, parts_le m os (omega arith))

used_fit : (os : List Owner) → AllByRecursion (λ o. o.place < 2 ^ 16) os → AllByRecursion (λ o. o.parts ≤ 1000000) os → AllByRecursion OwnerFits os
used_fit [] p q = tt
used_fit (o ∷ os) p q = ((p.0, omega (arith, q.0)), used_fit os p.1 q.1)

unused_fit : (os : List Owner) → AllByRecursion (λ o. (o.place ≡ 0) × (o.parts ≡ 0)) os → AllByRecursion OwnerFits os
unused_fit os a = All-weaker (λ o. (o.place ≡ 0) × (o.parts ≡ 0)) OwnerFits (λ o e. (omega (arith, e.0), omega (arith, e.1))) os a

pub owned_fits : (limit count : ℕ) (os : List Owner) → limit ≤ 2 ^ 16 → Owned limit count os → AllByRecursion OwnerFits os
owned_fits limit count os l o =
    let used = take count os in
    let places = All-weaker (λ o. o.place < limit) (λ o. o.place < 2 ^ 16) (λ o h. omega (arith, h)) used o.below in
    let parts = parts_le 1000000 used (subst (λ n. n ≤ 1000000) (sym (parts_sum used ∙ o.whole)) (le_refl 1000000)) in
    subst (AllByRecursion OwnerFits) (take-append-drop count os) (All-append OwnerFits used (drop count os) (used_fit used places parts) (unused_fit (drop count os) o.unused))

pub kept_owned : (limit count : ℕ) (os : List Owner) → owners_kept limit count os ≡ true → Owned limit count os
kept_owned limit count os e =
    let p = and_parts (placed 0 limit (take count os) && eqb (parts_of (take count os)) 1000000) (vacant (drop count os)) e in
    let q = and_parts (placed 0 limit (take count os)) (eqb (parts_of (take count os)) 1000000) p.0 in
    let r = placed_true 0 limit (take count os) q.0 in
    record {
      rising = r.rising;
      below = r.below;
      above = r.above;
      whole = sym (parts_sum (take count os)) ∙ eqb-true _ _ q.1;
      unused = vacant_true (drop count os) p.1;
    }

pub owned_kept : (limit count : ℕ) (os : List Owner) → Owned limit count os → owners_kept limit count os ≡ true
owned_kept limit count os o =
    and_from _ _
    (and_from _ _
    (true_placed 0 limit (take count os) (record { starts = starts_none (take count os); rising = o.rising; below = o.below; above = o.above }))
    (eq-eqb _ _ (parts_sum (take count os) ∙ o.whole)))
    (true_vacant (drop count os) o.unused)
