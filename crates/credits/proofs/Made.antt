-- An array made by a function of the index, or of each element of another.
use Rattle.std.proofs.Common.{◌≡◌, ℕ, zero, suc, ◌+◌, ◌<◌, ◌≤◌, List, map, length, get_or, sym, ap, ◌∙◌, subst, inl, inr, arith}
use Rattle.std.specs.List.{range_with_len}
use Rattle.std.specs.Fn.{Called, Mut}
use Rattle.std.specs.Array.{IsFromFnResult, IsFromFnResultFrom, IsMapOf, MapsFrom}
use Rattle.std.proofs.lemmas.Bool.{cases_eq}
use Rattle.std.proofs.lemmas.List.{ext_get_or, length-map, get_or-map}
use Rattle.std.proofs.lemmas.List.FromFn.{fill_by_all}

-- a closure that stays as it is, and gives h of the index
module _ {F B : Type 0} (g : Mut F (ℕ × Unit {0}) B) (h : ℕ → B) (f : F) (gives : (i : ℕ) (y : B) (q : F) → Called g f (i, tt) y q → (q ≡ f) × (y ≡ h i)) where
  made_at : (ys : List B) (d : B) (i n : ℕ) → IsFromFnResultFrom g f ys i n → (k : ℕ) → i ≤ k → k < i + n → get_or ys k d ≡ h k
  made_at ys d i zero w k l m = absurd (omega arith)
  made_at ys d i (suc n) w k l m =
      let s = gives i w.1 w.0 w.3 in
      elim (cases_eq k i) [
        | inl e ↦ ap (λ j. get_or ys j d) e ∙ w.2.1 d ∙ s.1 ∙ ap h (sym e)
        | inr ne ↦ made_at ys d (i + 1) n (subst (λ p. IsFromFnResultFrom g p ys (i + 1) n) s.0 w.4) k (omega arith) (omega arith)
      ]

  pub made : (d : B) (ys : List B) (n : ℕ) → IsFromFnResult g f ys n → ys ≡ map h (range_with_len 0 n)
  made d ys n w = fill_by_all h ys n d w.long (λ k l. made_at ys d 0 n w.each k (omega arith) (omega arith))

-- a closure that stays as it is, and gives h of the element
module _ {F A B : Type 0} (g : Mut F (A × Unit {0}) B) (h : A → B) (f : F) (gives : (x : A) (y : B) (q : F) → Called g f (x, tt) y q → (q ≡ f) × (y ≡ h x)) where
  mapped_at : (xs : List A) (ys : List B) (d : A) (e : B) (i n : ℕ) → MapsFrom g f xs ys i n → (k : ℕ) → i ≤ k → k < i + n → get_or ys k e ≡ h (get_or xs k d)
  mapped_at xs ys d e i zero w k l m = absurd (omega arith)
  mapped_at xs ys d e i (suc n) w k l m =
      let s = gives w.1 w.2 w.0 w.5 in
      elim (cases_eq k i) [
        | inl q ↦ ap (λ j. get_or ys j e) q ∙ w.4.1 e ∙ s.1 ∙ sym (ap h (ap (λ j. get_or xs j d) q ∙ w.3.1 d))
        | inr ne ↦ mapped_at xs ys d e (i + 1) n (subst (λ p. MapsFrom g p xs ys (i + 1) n) s.0 w.6) k (omega arith) (omega arith)
      ]

  pub mapped : (d : A) (e : B) (xs : List A) (ys : List B) (n : ℕ) → length xs ≡ n → IsMapOf g f xs ys n → ys ≡ map h xs
  mapped d e xs ys n long w =
      ext_get_or e ys (map h xs) (w.long ∙ sym long ∙ sym (length-map xs h))
      (λ k l. mapped_at xs ys d e 0 n w.each k (omega arith) (omega (arith, w.long)) ∙ sym (get_or-map h xs k d e (omega (arith, w.long, long))))
