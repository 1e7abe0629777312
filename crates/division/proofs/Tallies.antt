-- Sums over places: f 0 + f 1 + .. + f (n - 1).
use Rattle.std.proofs.Common.{◌≡◌, ℕ, zero, suc, ◌+◌, ◌*◌, ◌<◌, ◌≤◌, List, [], ◌∷◌, ◌++◌, length, get_or, take, sum_by, sum, sym, refl, ap, ◌∙◌, subst, inl, inr, mul-zero, mul-add, add-one, arith}
use Rattle.std.specs.List.{range_with_len}
use Rattle.std.proofs.lemmas.List.{take_all}
use Rattle.std.proofs.lemmas.List.Sums.{sum_by_push, sum_by_more}
use Rattle.std.proofs.lemmas.Bool.{cases_eq}

abbrev pub tally : (ℕ → ℕ) → ℕ → ℕ
tally f zero = 0
tally f (suc n) = tally f n + f n

pub tally_more : (f : ℕ → ℕ) (n : ℕ) → tally f (n + 1) ≡ tally f n + f n
tally_more f n = ap (tally f) (add-one n)

-- a sum over the places below n
counting_push : (a n : ℕ) → range_with_len a (suc n) ≡ range_with_len a n ++ (a + n) ∷ []
counting_push a zero = let e : a ≡ a + 0 = omega arith in ap (λ x. x ∷ []) e
counting_push a (suc n) =
    let e : (a + 1) + n ≡ a + suc n = omega arith in
    ap (λ xs. a ∷ xs) (counting_push (a + 1) n ∙ ap (λ x. range_with_len (a + 1) n ++ x ∷ []) e)

pub places_tally : (f : ℕ → ℕ) (n : ℕ) → sum_by f (range_with_len 0 n) ≡ tally f n
places_tally f zero = refl
places_tally f (suc n) =
    let e : 0 + n ≡ n = omega arith in
    ap (sum_by f) (counting_push 0 n) ∙ sum_by_push f (range_with_len 0 n) (0 + n)
    ∙ ap (λ m. sum_by f (range_with_len 0 n) + f m) e ∙ ap (λ m. m + f n) (places_tally f n)

-- the sum of a list's front
pub front_tally : {X : Type 0} (f : X → ℕ) (xs : List X) (d : X) (i : ℕ) → i ≤ length xs → sum_by f (take i xs) ≡ tally (λ k. f (get_or xs k d)) i
front_tally f xs d zero h = refl
front_tally f xs d (suc i) h =
    ap (λ n. sum_by f (take n xs)) (sym (add-one i)) ∙ sum_by_more f xs i d (omega arith)
    ∙ ap (λ n. n + f (get_or xs i d)) (front_tally f xs d i (omega arith))

pub sum_tally : (xs : List ℕ) → sum xs ≡ tally (λ k. get_or xs k 0) (length xs)
sum_tally xs =
    ap sum (sym (take_all (length xs) xs (omega arith))) ∙ front_tally (λ x. x) xs 0 (length xs) (omega arith)

-- two sums, place by place
pub tally_same : (f g : ℕ → ℕ) (n : ℕ) → ((k : ℕ) → k < n → f k ≡ g k) → tally f n ≡ tally g n
tally_same f g zero e = refl
tally_same f g (suc n) e = omega (arith, tally_same f g n (λ k l. e k (omega arith)), e n (omega arith))

pub tally_le : (f g : ℕ → ℕ) (n : ℕ) → ((k : ℕ) → k < n → f k ≤ g k) → tally f n ≤ tally g n
tally_le f g zero e = omega arith
tally_le f g (suc n) e = omega (arith, tally_le f g n (λ k l. e k (omega arith)), e n (omega arith))

pub tally_less : (f g : ℕ → ℕ) (n i : ℕ) → ((k : ℕ) → k < n → f k ≤ g k) → i < n → f i < g i → tally f n < tally g n
tally_less f g zero i e l h = absurd (omega arith)
tally_less f g (suc n) i e l h =
    elim (cases_eq i n) [
      | inl s ↦ (let p : f n < g n = subst (λ k. f k < g k) s h in omega (arith, tally_le f g n (λ k l. e k (omega arith))))
      | inr s ↦ omega (arith, tally_less f g n i (λ k l. e k (omega arith)) (omega arith) h, e n (omega arith))
    ]

pub tally_part : (f : ℕ → ℕ) (n k : ℕ) → k < n → f k ≤ tally f n
tally_part f zero k l = absurd (omega arith)
tally_part f (suc n) k l =
    elim (cases_eq k n) [
      | inl e ↦ subst (λ (m : ℕ). f m ≤ tally f n + f n) (sym e) (omega arith)
      | inr ne ↦ omega (arith, tally_part f n k (omega arith))
    ]

pub tally_front : (f : ℕ → ℕ) (i n : ℕ) → i ≤ n → tally f i ≤ tally f n
tally_front f i zero l = let e : i ≡ 0 = omega arith in subst (λ m. tally f m ≤ 0) (sym e) (omega arith)
tally_front f i (suc n) l =
    elim (cases_eq i (suc n)) [
      | inl e ↦ subst (λ (m : ℕ). tally f m ≤ tally f n + f n) (sym e) (omega arith)
      | inr ne ↦ omega (arith, tally_front f i n (omega arith))
    ]

pub tally_zero : (f : ℕ → ℕ) (n : ℕ) → ((k : ℕ) → k < n → f k ≡ 0) → tally f n ≡ 0
tally_zero f zero e = refl
tally_zero f (suc n) e = omega (arith, tally_zero f n (λ k l. e k (omega arith)), e n (omega arith))

-- sums of sums, and of multiples
pub tally_add : (f g : ℕ → ℕ) (n : ℕ) → tally (λ k. f k + g k) n ≡ tally f n + tally g n
tally_add f g zero = refl
tally_add f g (suc n) = omega (arith, tally_add f g n)

pub tally_times : (a : ℕ) (f : ℕ → ℕ) (n : ℕ) → tally (λ k. a * f k) n ≡ a * tally f n
tally_times a f zero = sym (mul-zero a)
tally_times a f (suc n) = omega (arith, tally_times a f n, mul-add a (tally f n) (f n))
