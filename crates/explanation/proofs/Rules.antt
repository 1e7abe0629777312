-- The rule that owners break: the turns of the loops over slots.
use Rattle.std.proofs.Common.{◌≡◌, ℕ, zero, suc, ◌+◌, ◌-◌, ◌<◌, ◌≤◌, min, Bool, true, false, cond, not, ◌&&◌, ◌||◌, eqb, ltb, leb, List, [], ◌∷◌, length, get_or, take, drop, fold, sum_by, Some, None, Option, sym, refl, ap, ◌∙◌, inl, inr, add-zero, arith}
use Rattle.std.specs.Option.{option_or}
use Rattle.std.specs.Bool.{then_some}
use Rattle.std.specs.List.{position, position_or_len}
use Rattle.std.proofs.lemmas.List.Quantifiers.{position-Some}
use Rattle.std.proofs.lemmas.List.{at_drop_more}
use Rattle.std.proofs.lemmas.Bool.{eq-eqb, ne_eqb, lt-ltb, le-ltb, le-leb, lt-leb, ltb-false, not_from_true, not_from_false, cases_Bool, cond-true, cond-false}
use Rattle.dayfile.specs.declared.record.Owner.{Owner}
use Rattle.dayfile.specs.Owners.{parts_of}
use Rattle.explanation.specs.declared.finding.OwnersRule.{OwnersRule}
use Rattle.explanation.specs.declared.finding.OwnersRule.TheVariants.{Rising, Below, Parts, Unused}
use Rattle.explanation.specs.Shares.{used_rule, sum_rule, in_use, unused_rule, owners_rule}
use Rattle.dayfile.proofs.Cuts.{take_min, drop_min}
use Rattle.explanation.proofs.Follows.{none_where}

abbrev pub no_owner : Owner
no_owner = record { place = 0; parts = 0 }

module _ (os : List Owner) (j : ℕ) (h : j < length os) where
  abbrev owner : Owner
  owner = get_or os j no_owner

  abbrev rest : List Owner
  rest = drop (j + 1) os

  module _ (i least limit : ℕ) where
    abbrev next : Option OwnersRule
    next = used_rule (i + 1) (owner.place + 1) limit rest

    abbrev by_parts : Option OwnersRule
    by_parts = cond (eqb owner.parts 0) (Some (Parts i)) next

    abbrev by_limit : Option OwnersRule
    by_limit = cond (leb limit owner.place) (Some (Below i owner.place limit)) by_parts

    step : used_rule i least limit (drop j os) ≡ cond (ltb owner.place least) (Some (Rising i owner.place (least - 1))) by_limit
    unfolding used_rule
    step = at_drop_more (used_rule i least limit) os j no_owner h

    pub used_rising : owner.place < least → used_rule i least limit (drop j os) ≡ Some (Rising i owner.place (least - 1))
    used_rising a = step ∙ cond-true (ltb owner.place least) (Some (Rising i owner.place (least - 1))) by_limit (lt-ltb owner.place least a)

    high : least ≤ owner.place → used_rule i least limit (drop j os) ≡ by_limit
    high a = step ∙ cond-false (ltb owner.place least) (Some (Rising i owner.place (least - 1))) by_limit (le-ltb owner.place least a)

    pub used_below : least ≤ owner.place → limit ≤ owner.place → used_rule i least limit (drop j os) ≡ Some (Below i owner.place limit)
    used_below a b = high a ∙ cond-true (leb limit owner.place) (Some (Below i owner.place limit)) by_parts (le-leb limit owner.place b)

    placed : least ≤ owner.place → owner.place < limit → used_rule i least limit (drop j os) ≡ by_parts
    placed a b = high a ∙ cond-false (leb limit owner.place) (Some (Below i owner.place limit)) by_parts (lt-leb limit owner.place b)

    pub used_parts : least ≤ owner.place → owner.place < limit → owner.parts ≡ 0 → used_rule i least limit (drop j os) ≡ Some (Parts i)
    used_parts a b c = placed a b ∙ cond-true (eqb owner.parts 0) (Some (Parts i)) next (eq-eqb owner.parts 0 c)

    pub used_more : least ≤ owner.place → owner.place < limit → (owner.parts ≡ 0 → ⊥)
        → used_rule i least limit (drop j os) ≡ used_rule (i + 1) (owner.place + 1) limit rest
    used_more a b c = placed a b ∙ cond-false (eqb owner.parts 0) (Some (Parts i)) next (ne_eqb owner.parts 0 c)

-- the sum of all parts
parts_from : (os : List Owner) (n : ℕ) → fold (λ a o. a + o.parts) n os ≡ n + parts_of os
unfolding parts_of
parts_from [] n = sym (add-zero n)
parts_from (o ∷ os) n = let e = parts_from os (n + o.parts) in omega (arith, e)

pub parts_sum : (os : List Owner) → sum_by (λ o. o.parts) os ≡ parts_of os
parts_sum os = let e = parts_from os 0 in omega (arith, e)

pub unless : {A : Type 0} (b : Bool) (x : A) → then_some (not b) x ≡ cond b None (Some x)
unless true x = refl
unless false x = refl

unused_step : (i : ℕ) (o : Owner) (os : List Owner) → unused_rule i (o ∷ os) ≡ cond (in_use o) (Some (Unused i o.place o.parts)) (unused_rule (i + 1) os)
unfolding unused_rule
unused_step i o os = go (eqb o.place 0) (eqb o.parts 0)
  where
    go : (x y : Bool) → cond (x && y) (unused_rule (i + 1) os) (Some (Unused i o.place o.parts)) ≡ cond (not x || not y) (Some (Unused i o.place o.parts)) (unused_rule (i + 1) os)
    go true true = refl
    go true false = refl
    go false y = refl

unused_all : (i : ℕ) (os : List Owner) → length os ≤ position_or_len in_use os → unused_rule i os ≡ None
unfolding unused_rule
unused_all i [] l = refl
unused_all i (o ∷ os) l =
    elim (cases_Bool (in_use o)) [
      | inl a ↦ (let e = cond-false (not (in_use o)) (1 + position_or_len in_use os) 0 (not_from_true (in_use o) a) in absurd (omega (arith, e, l)))
      | inr a ↦
          (let e = cond-true (not (in_use o)) (1 + position_or_len in_use os) 0 (not_from_false (in_use o) a) in
          unused_step i o os
          ∙ cond-false (in_use o) (Some (Unused i o.place o.parts)) (unused_rule (i + 1) os) a
          ∙ unused_all (i + 1) os (omega (arith, e, l)))
    ]

pub unused_none : (i : ℕ) (os : List Owner) → position in_use os ≡ None → unused_rule i os ≡ None
unused_none i os h =
    let n = position_or_len in_use os in
    unused_all i os (ltb-false n (length os) (none_where (ltb n (length os)) n h))

unused_at : (i k : ℕ) (os : List Owner) → k < length os → in_use (get_or os k no_owner) ≡ true
    → ((j : ℕ) → j < k → in_use (get_or os j no_owner) ≡ false)
    → unused_rule i os ≡ Some (Unused (i + k) (get_or os k no_owner).place (get_or os k no_owner).parts)
unused_at i k [] l h before = absurd (omega arith)
unused_at i zero (o ∷ os) l h before =
    unused_step i o os
    ∙ cond-true (in_use o) (Some (Unused i o.place o.parts)) (unused_rule (i + 1) os) h
    ∙ ap (λ n. Some (Unused n o.place o.parts)) (sym (add-zero i))
unused_at i (suc k) (o ∷ os) l h before =
    let e : i + 1 + k ≡ i + suc k = omega arith in
    unused_step i o os
    ∙ cond-false (in_use o) (Some (Unused i o.place o.parts)) (unused_rule (i + 1) os) (before 0 (omega arith))
    ∙ unused_at (i + 1) k os (omega arith) h (λ j m. before (suc j) (omega arith))
    ∙ ap (λ n. Some (Unused n (get_or os k no_owner).place (get_or os k no_owner).parts)) e

pub unused_first : (i k : ℕ) (os : List Owner) → position in_use os ≡ Some k
    → unused_rule i os ≡ Some (Unused (i + k) (get_or os k no_owner).place (get_or os k no_owner).parts)
unused_first i k os h = let p = position-Some in_use os k no_owner h in unused_at i k os p.0 p.1 p.2

-- the rules over the slots, cut where the used ones end
pub rule_by_halves : (limit count n : ℕ) (os used rest : List Owner) → n ≡ min count (length os) → used ≡ take n os → rest ≡ drop n os
    → option_or (option_or (used_rule 1 0 limit used) (sum_rule used)) (unused_rule (count + 1) rest) ≡ owners_rule limit count os
rule_by_halves limit count n os used rest e f g =
    let u : used ≡ take count os = f ∙ ap (λ k. take k os) e ∙ take_min count os in
    let v : rest ≡ drop count os = g ∙ ap (λ k. drop k os) e ∙ drop_min count os in
    ap (λ us. option_or (option_or (used_rule 1 0 limit us) (sum_rule us)) (unused_rule (count + 1) rest)) u
    ∙ ap (λ vs. option_or (option_or (used_rule 1 0 limit (take count os)) (sum_rule (take count os))) (unused_rule (count + 1) vs)) v
