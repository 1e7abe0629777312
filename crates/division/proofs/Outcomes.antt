-- What dividing promises follows from its answer and the records after it.
use Rattle.std.proofs.Common.{◌≡◌, ℕ, ◌<◌, Bool, true, false, cond, eqb, ltb, List, map, Some, None, sum, Option, sym, refl, ap, ◌∙◌, subst, arith}
use Rattle.std.proofs.lemmas.List.{length-map}
use Rattle.std.proofs.lemmas.Bool.{and_left, and_right, le-ltb, ne_eqb}
use Rattle.division.specs.Records.{Lawful, handed}
use Rattle.division.specs.Division.{indivisible, divided, after_dividing}
use Rattle.division.specs.Fairness.{Fair}
use Rattle.division.proofs.FairLaws.{divided_fair, length_divided}
use Rattle.division.proofs.Handing.{handed_holds, handed_keeps}

pub record Outcome {S : Type 0} (weighs holds : S → ℕ) (given : S → ℕ → S) (c : ℕ) (xs : List S) (r : Option (Unit {0})) (ys : List S) : Type 0 where
  pub answer : r ≡ cond (indivisible c (map weighs xs)) None (Some tt)
  pub untouched : r ≡ None → ys ≡ xs
  pub shares : r ≡ Some tt → map holds ys ≡ divided c (map weighs xs)
  pub fair : r ≡ Some tt → Fair c (map weighs xs) (map holds ys)
  pub only : r ≡ Some tt → ys ≡ handed given xs (map holds ys)
  pub weights : map weighs ys ≡ map weighs xs

never : (r : Option (Unit {0})) → r ≡ Some tt → r ≡ None → ⊥
never r p q = let z : ◌≡◌ {A = ℕ} 0 1 = cc in omega arith

pub outcome : {S : Type 0} (weighs holds : S → ℕ) (given : S → ℕ → S) → Lawful weighs holds given → (c : ℕ) (xs : List S) (r : Option (Unit {0})) (ys : List S)
    → r ≡ cond (indivisible c (map weighs xs)) None (Some tt) → ys ≡ after_dividing weighs given c xs → Outcome weighs holds given c xs r ys
outcome weighs holds given laws c xs r ys a e = go (indivisible c (map weighs xs)) refl
  where
    go : (t : Bool) → indivisible c (map weighs xs) ≡ t → Outcome weighs holds given c xs r ys
    go true t =
        let none : r ≡ None = a ∙ ap (λ b. cond b None (Some tt)) t in
        let same : ys ≡ xs = e ∙ ap (λ b. cond b xs (handed given xs (divided c (map weighs xs)))) t in
        record {
          answer = a;
          untouched = λ _. same;
          shares = λ s. absurd (never r s none);
          fair = λ s. absurd (never r s none);
          only = λ s. absurd (never r s none);
          weights = ap (map weighs) same;
        }
    go false t =
        let ws = map weighs xs in
        let some : r ≡ Some tt = a ∙ ap (λ b. cond b None (Some tt)) t in
        let taken : ys ≡ handed given xs (divided c ws) = e ∙ ap (λ b. cond b xs (handed given xs (divided c ws))) t in
        let held : map holds ys ≡ divided c ws =
        ap (map holds) taken ∙ handed_holds holds given laws.holding xs (divided c ws) (length_divided c ws ∙ length-map xs weighs) in
        record {
          answer = a;
          untouched = λ n. absurd (never r some n);
          shares = λ _. held;
          fair = λ _. subst (Fair c ws) (sym held) (divided_fair c ws t);
          only = λ _. taken ∙ ap (handed given xs) (sym held);
          weights = ap (map weighs) taken ∙ handed_keeps weighs given laws.weighing xs (divided c ws);
        }

-- 0 cents are always divided
pub nothing_divides : (c : ℕ) (ws : List ℕ) → c ≡ 0 → indivisible c ws ≡ false
nothing_divides c ws e = and_left (ltb 0 c) (eqb (sum ws) 0) (le-ltb 0 c (omega arith))

-- cents over some weight are divided
pub some_divides : (c : ℕ) (ws : List ℕ) → 0 < sum ws → indivisible c ws ≡ false
some_divides c ws h = and_right (ltb 0 c) (eqb (sum ws) 0) (ne_eqb (sum ws) 0 (λ e. omega arith))

-- records that took the shares of the division are those after it
pub shares_taken : {S : Type 0} (weighs : S → ℕ) (given : S → ℕ → S) (c : ℕ) (xs ys : List S) (shares : List ℕ) → indivisible c (map weighs xs) ≡ false
    → ys ≡ handed given xs shares → shares ≡ divided c (map weighs xs) → ◌≡◌ {A = Option (Unit {0})} (Some tt) (cond (indivisible c (map weighs xs)) None (Some tt)) × (ys ≡ after_dividing weighs given c xs)
shares_taken weighs given c xs ys shares t e s = (
  sym (ap (λ b. cond b None (Some tt)) t),
  e ∙ ap (handed given xs) s ∙ sym (ap (λ b. cond b xs (handed given xs (divided c (map weighs xs)))) t),
)
