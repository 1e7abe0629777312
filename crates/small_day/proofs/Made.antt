-- An array that a closure makes of each index.
use Rattle.std.proofs.Common.{◌≡◌, ℕ, zero, suc, ◌+◌, ◌<◌, ◌≤◌, List, slice_index_or, Some, sym, ap, ◌∙◌, subst, inl, inr, arith}
use Rattle.std.specs.List.{slice_get}
use Rattle.std.specs.Fn.{Called, Mut}
use Rattle.std.specs.Array.{IsFromFnResult, IsFromFnResultFrom}
use Rattle.std.proofs.lemmas.Bool.{cases_eq}
use Rattle.std.proofs.lemmas.Option.{slice_get-get_or}

-- a closure that stays as it is, and gives h of the index
module _ {F B : Type 0} (g : Mut F (ℕ × Unit {0}) B) (h : ℕ → B) (f : F) (gives : (i : ℕ) (y : B) (q : F) → Called g f (i, tt) y q → (q ≡ f) × (y ≡ h i)) (ys : List B) where
  made_from : (d : B) (i n : ℕ) → IsFromFnResultFrom g f ys i n → (k : ℕ) → i ≤ k → k < i + n → slice_index_or ys k d ≡ h k
  made_from d i zero w k l m = absurd (omega arith)
  made_from d i (suc n) w k l m =
      let s = gives i w.1 w.0 w.3 in
      elim (cases_eq k i) [
        | inl e ↦ ap (λ j. slice_index_or ys j d) e ∙ w.2.1 d ∙ s.1 ∙ ap h (sym e)
        | inr ne ↦ made_from d (i + 1) n (subst (λ p. IsFromFnResultFrom g p ys (i + 1) n) s.0 w.4) k (omega arith) (omega arith)
      ]

  pub made_at : (n : ℕ) → IsFromFnResult g f ys n → (k : ℕ) → k < n → slice_get ys k ≡ Some (h k)
  made_at n w k l =
      slice_get-get_or ys k (h k) (omega (arith, w.long)) ∙ ap Some (made_from (h k) 0 n w.each k (omega arith) (omega arith))
