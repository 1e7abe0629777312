-- Parts of a list and of what is left of it.
use Rattle.std.proofs.Common.{◌≡◌, ℕ, ◌+◌, ◌-◌, min, List, length, take, drop, sym, ap, ◌∙◌, inl, inr, arith}
use Rattle.std.proofs.lemmas.List.{take_rest, drop-drop, take_all, drop_all}
use Rattle.std.proofs.lemmas.Bool.{cases_lt}

-- a part of what follows the first h is a part of the whole
pub part_of_rest : (xs : List ℕ) (h i n : ℕ) → take n (drop i (take (length xs - h) (drop h xs))) ≡ take n (drop (h + i) xs)
part_of_rest xs h i n = simp (take_rest, drop-drop)

-- a place past the end is the end
pub take_min : {A : Type 0} (n : ℕ) (xs : List A) → take (min n (length xs)) xs ≡ take n xs
take_min n xs =
    elim (cases_lt n (length xs)) [
      | inl l ↦ ap (λ k. take k xs) (omega arith)
      | inr g ↦ take_all (min n (length xs)) xs (omega arith) ∙ sym (take_all n xs g)
    ]

pub drop_min : {A : Type 0} (n : ℕ) (xs : List A) → drop (min n (length xs)) xs ≡ drop n xs
drop_min n xs =
    elim (cases_lt n (length xs)) [
      | inl l ↦ ap (λ k. drop k xs) (omega arith)
      | inr g ↦ drop_all (min n (length xs)) xs (omega arith) ∙ sym (drop_all n xs g)
    ]
