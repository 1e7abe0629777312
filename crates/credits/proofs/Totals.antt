-- Sums over the first hours, places or pools.
use Rattle.std.proofs.Common.{◌≡◌, ℕ, zero, suc, ◌+◌, ◌<◌, Bool, true, false, cond, List, [], ◌∷◌, length, get_or, sum_by, sum, sym, refl, ap, ◌∙◌, inl, inr, add-one, arith}
use Rattle.std.specs.List.{AllByRecursion}
use Rattle.std.proofs.lemmas.List.Sums.{sum_by-cons}
use Rattle.std.proofs.lemmas.Bool.{cases_eq, cond-true, cond-false}
use Rattle.division.proofs.Tallies.{tally, sum_tally}
use Rattle.credits.specs.Sums.{total}

pub total_more : (f : ℕ → ℕ) (n : ℕ) → total f (n + 1) ≡ total f n + f n
unfolding total
total_more f n = ap (total f) (add-one n)

pub total_same : (f g : ℕ → ℕ) (n : ℕ) → ((k : ℕ) → k < n → f k ≡ g k) → total f n ≡ total g n
unfolding total
total_same f g zero e = refl
total_same f g (suc n) e = omega (arith, total_same f g n (λ k l. e k (omega arith)), e n (omega arith))

pub total_zero : (f : ℕ → ℕ) (n : ℕ) → ((k : ℕ) → k < n → f k ≡ 0) → total f n ≡ 0
unfolding total
total_zero f zero e = refl
total_zero f (suc n) e = omega (arith, total_zero f n (λ k l. e k (omega arith)), e n (omega arith))

pub total_add : (f g : ℕ → ℕ) (n : ℕ) → total (λ k. f k + g k) n ≡ total f n + total g n
unfolding total
total_add f g zero = refl
total_add f g (suc n) = omega (arith, total_add f g n)

-- sums of sums in the other order
pub total_swap : (f : ℕ → ℕ → ℕ) (m n : ℕ) → total (λ i. total (f i) n) m ≡ total (λ j. total (λ i. f i j) m) n
unfolding total
total_swap f m zero = total_zero (λ i. 0) m (λ i _. refl)
total_swap f m (suc n) = omega (arith, total_add (λ i. total (f i) n) (λ i. f i n) m, total_swap f m n)

pub total_sum_by : {X : Type 0} (f : ℕ → X → ℕ) (n : ℕ) (g : X → ℕ) (P : X → Type 0) → ((x : X) → P x → total (λ i. f i x) n ≡ g x)
    → (xs : List X) → AllByRecursion P xs → total (λ i. sum_by (f i) xs) n ≡ sum_by g xs
total_sum_by f n g P h [] a = total_zero (λ i. 0) n (λ i _. refl)
total_sum_by f n g P h (x ∷ xs) a =
    total_same (λ i. sum_by (f i) (x ∷ xs)) (λ i. f i x + sum_by (f i) xs) n (λ i _. sum_by-cons (f i) x xs)
    ∙ omega (arith, total_add (λ i. f i x) (λ i. sum_by (f i) xs) n, h x a.0, total_sum_by f n g P h xs a.1, sum_by-cons g x xs)

-- an amount that stands at one place only is the sum
pub total_one : (test : ℕ → Bool) (amount k n : ℕ) → k < n → test k ≡ true → ((j : ℕ) → (j ≡ k → ⊥) → test j ≡ false) → total (λ j. cond (test j) amount 0) n ≡ amount
unfolding total
total_one test amount k zero l t h = absurd (omega arith)
total_one test amount k (suc n) l t h =
    elim (cases_eq n k) [
      | inl e ↦
          omega (
            arith,
            cond-true (test n) amount 0 (ap test e ∙ t),
            total_zero (λ j. cond (test j) amount 0) n (λ j lj. cond-false (test j) amount 0 (h j (λ q. omega arith))),
          )
      | inr ne ↦ omega (arith, cond-false (test n) amount 0 (h n ne), total_one test amount k n (omega arith) t h)
    ]

-- a list's sum by place
total_tally : (f : ℕ → ℕ) (n : ℕ) → total f n ≡ tally f n
unfolding total
total_tally f zero = refl
total_tally f (suc n) = ap (λ t. t + f n) (total_tally f n)

pub total_list : (xs : List ℕ) (n : ℕ) → length xs ≡ n → total (λ k. get_or xs k 0) n ≡ sum xs
total_list xs n e = total_tally (λ k. get_or xs k 0) n ∙ ap (tally (λ k. get_or xs k 0)) (sym e) ∙ sym (sum_tally xs)
