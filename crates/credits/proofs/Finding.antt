-- The first Resource of a number.
use Rattle.std.proofs.Common.{◌≡◌, ℕ, zero, suc, ◌<◌, eqb, List, [], ◌∷◌, length, Some, None, Option, sym, refl, ap, ◌∙◌, arith}
use Rattle.std.specs.Prelude.{MatchOption}
use Rattle.std.specs.List.{AllWithin, HoldsAt}
use Rattle.std.proofs.lemmas.Bool.{cond-true, cond-false, eq-eqb, ne_eqb}
use Rattle.credits.specs.Resources.{ResourceDay, numbered}

module _ (n : ℕ) where
  abbrev pub Named : ResourceDay → Type 0
  Named x = x.resource.number ≡ n

  abbrev pub Other : ResourceDay → Type 0
  Other x = x.resource.number ≡ n → ⊥

  numbered_first : (x : ResourceDay) (xs : List ResourceDay) → Named x → numbered n (x ∷ xs) ≡ Some x
  unfolding numbered
  numbered_first x xs e = cond-true (eqb x.resource.number n) (Some x) (numbered n xs) (eq-eqb x.resource.number n e)

  numbered_later : (x : ResourceDay) (xs : List ResourceDay) → Other x → numbered n (x ∷ xs) ≡ numbered n xs
  unfolding numbered
  numbered_later x xs e = cond-false (eqb x.resource.number n) (Some x) (numbered n xs) (ne_eqb x.resource.number n e)

  found_at : (x : ResourceDay) (i : ℕ) (xs : List ResourceDay) → Named x → i < length xs → HoldsAt (λ y. y ≡ x) xs i → AllWithin Other xs 0 i → numbered n xs ≡ Some x
  found_at x i [] e l at before = absurd (omega arith)
  found_at x zero (y ∷ ys) e l at before = let s = at x in numbered_first y ys (ap (λ z. z.resource.number) s ∙ e) ∙ ap Some s
  found_at x (suc i) (y ∷ ys) e l at before =
      numbered_later y ys (before 0 x (omega arith) (omega arith)) ∙ found_at x i ys e (omega arith) (λ d. at d) (λ k d a b. before (suc k) d (omega arith) (omega arith))

  found_none : (xs : List ResourceDay) → AllWithin Other xs 0 (length xs) → numbered n xs ≡ None
  unfolding numbered
  found_none [] w = refl
  found_none (y ∷ ys) w = numbered_later y ys (w 0 y (omega arith) (omega arith)) ∙ found_none ys (λ k d a b. w (suc k) d (omega arith) (omega arith))

  -- what `find` tells
  pub found : (xs : List ResourceDay) (r : Option ResourceDay)
      → MatchOption r (AllWithin Other xs 0 (length xs)) (λ x. Named x × (i : ℕ) × (i < length xs) × HoldsAt (λ y. y ≡ x) xs i × AllWithin Other xs 0 i) → r ≡ numbered n xs
  found xs None w = sym (found_none xs w)
  found xs (Some x) w = sym (found_at x w.1 xs w.0 w.2 w.3 w.4)
