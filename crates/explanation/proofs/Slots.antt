-- The owners of a block, slot by slot.
use Rattle.std.proofs.Common.{◌≡◌, ℕ, zero, suc, ◌+◌, ◌*◌, ◌<◌, ◌≤◌, List, [], ◌∷◌, get_or, map, take, drop, sym, refl, ap, ◌∙◌, subst, inl, inr, add-zero, arith}
use Rattle.std.specs.List.{range_with_len}
use Rattle.std.specs.Fn.{Called, Mut}
use Rattle.std.specs.Array.{IsFromFnResult, IsFromFnResultFrom}
use Rattle.std.proofs.lemmas.Bool.{cases_eq}
use Rattle.std.proofs.lemmas.List.FromFn.{fill_by_all}
use Rattle.std.proofs.lemmas.List.{drop-drop, drop-take, get_or-take, get_or-drop}
use Rattle.dayfile.specs.declared.record.Owner.{Owner}
use Rattle.dayfile.specs.Bytes.{value, each}
use Rattle.dayfile.specs.Records.{part, owner_from}
use Rattle.dayfile.proofs.Numbers.{value_drop, value_take}

pub same_owner : (p p' q q' : ℕ) → p ≡ p' → q ≡ q' → ◌≡◌ {A = Owner} (record { place = p; parts = q }) (record { place = p'; parts = q' })
same_owner p p' q q' e f = ap (λ (x : ℕ). record { place = x; parts = q }) e ∙ ap (λ (y : ℕ). record { place = p'; parts = y }) f

pub owner_there : (at : ℕ) (b : List ℕ) (p q : ℕ) → p ≡ value at 2 b → q ≡ value (at + 2) 4 b → ◌≡◌ {A = Owner} (record { place = p; parts = q }) (owner_from (drop at b))
owner_there at b p q e f =
    same_owner p (value 0 2 (drop at b)) q (value 2 4 (drop at b))
    (e ∙ sym (value_drop at 0 2 b ∙ ap (λ k. value k 2 b) (add-zero at))) (f ∙ sym (value_drop at 2 4 b))

front : (n : ℕ) (bs : List ℕ) → 6 ≤ n → owner_from (take n bs) ≡ owner_from bs
front n bs h =
    same_owner (value 0 2 (take n bs)) (value 0 2 bs) (value 2 4 (take n bs)) (value 2 4 bs)
    (value_take n 0 2 bs (omega arith)) (value_take n 2 4 bs (omega arith))

-- slots are read alike in their part of the block and in the whole
whole : (n : ℕ) (bs : List ℕ) → each owner_from 6 n (take (6 * n) bs) ≡ each owner_from 6 n bs
unfolding each
whole zero bs = refl
whole (suc n) bs =
    let m : 6 * suc n ≡ 6 + 6 * n = omega arith in
    ap (λ k. owner_from (take k bs) ∷ each owner_from 6 n (drop 6 (take k bs))) m
    ∙ ap (λ o. o ∷ each owner_from 6 n (drop 6 (take (6 + 6 * n) bs))) (front (6 + 6 * n) bs (omega arith))
    ∙ ap (λ ys. owner_from bs ∷ each owner_from 6 n ys) (drop-take 6 (6 * n) bs)
    ∙ ap (λ os. owner_from bs ∷ os) (whole n (drop 6 bs))

-- the owners of n slots from a place on
abbrev slots : ℕ → ℕ → List ℕ → List Owner
slots zero at b = []
slots (suc n) at b = owner_from (drop at b) ∷ slots n (at + 6) b

each_slot : (n at : ℕ) (b : List ℕ) → each owner_from 6 n (drop at b) ≡ slots n at b
unfolding each
each_slot zero at b = refl
each_slot (suc n) at b =
    ap (λ ys. owner_from (drop at b) ∷ each owner_from 6 n ys) (drop-drop 6 at b) ∙ ap (λ os. owner_from (drop at b) ∷ os) (each_slot n (at + 6) b)

pub eight : (b : List ℕ) → map (λ i. owner_from (drop (120 + 6 * i) b)) (range_with_len 0 8) ≡ each owner_from 6 8 (part 120 48 b)
eight b = sym (whole 8 (drop 120 b) ∙ each_slot 8 120 b)

-- calls that change nothing, of which each gives f of its index
module _ {F B : Type 0} (g : Mut F (ℕ × Unit {0}) B) (calls : F) (f : ℕ → B) (d : B)
    (one : (i : ℕ) (y : B) (q : F) → Called g calls (i, tt) y q → (y ≡ f i) × (q ≡ calls)) where
  made_at : (ys : List B) (n i k : ℕ) → IsFromFnResultFrom g calls ys i n → i ≤ k → k < i + n → get_or ys k d ≡ f k
  made_at ys zero i k m l h = absurd (omega arith)
  made_at ys (suc n) i k m l h =
      let s = one i m.1 m.0 m.3 in
      elim (cases_eq k i) [
        | inl e ↦ ap (λ j. get_or ys j d) e ∙ m.2.1 d ∙ s.0 ∙ ap f (sym e)
        | inr ne ↦ made_at ys n (i + 1) k (subst (λ p. IsFromFnResultFrom g p ys (i + 1) n) s.1 m.4) (omega arith) (omega arith)
      ]

  pub made_by : (ys : List B) (n : ℕ) → IsFromFnResult g calls ys n → ys ≡ map f (range_with_len 0 n)
  made_by ys n made = fill_by_all f ys n d made.long (λ k l. made_at ys n 0 k made.each (omega arith) (omega arith))

-- the count of owners is byte 113
pub count_there : (b : List ℕ) → get_or (part 112 8 b) 1 0 ≡ get_or b 113 0
count_there b = get_or-take 8 (drop 112 b) 1 0 (omega arith) ∙ get_or-drop 112 b 1 0
