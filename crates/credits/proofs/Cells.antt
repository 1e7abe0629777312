-- Amounts by pool, of which one is added to, and the cells of a grid.
use Rattle.std.proofs.Common.{◌≡◌, ℕ, zero, suc, ◌+◌, ◌-◌, ◌<◌, ◌≤◌, cond, eqb, List, [], ◌∷◌, map, length, get_or, set, sym, refl, ap, ◌∙◌, inl, inr, add-zero, arith}
use Rattle.std.specs.List.{range_with_len, AllByRecursion}
use Rattle.std.proofs.lemmas.List.{ext_get_or, length-set, get_or-set_same, get_or-set_other}
use Rattle.std.proofs.lemmas.List.FromFn.{length-map-range_with_len, get_or-map-range_with_len}
use Rattle.std.proofs.lemmas.Bool.{cases_eq, cond-true, cond-false, eq-eqb, ne_eqb}

-- a list of small numbers has none that is large, at any place
pub get_or_small : (most : ℕ) (xs : List ℕ) (i : ℕ) → AllByRecursion (λ n. n ≤ most) xs → get_or xs i 0 ≤ most
get_or_small most [] i h = omega arith
get_or_small most (x ∷ xs) zero h = h.0
get_or_small most (x ∷ xs) (suc i) h = get_or_small most xs i h.1

-- an amount for each of n pools, of which 1 is the first
module _ (n : ℕ) (f : ℕ → ℕ) (p : ℕ) (from_one : 1 ≤ p) (up_to_lem : p ≤ n) where
  pub get_or_pool : get_or (map f (range_with_len 1 n)) (p - 1) 0 ≡ f p
  get_or_pool = get_or-map-range_with_len f 1 n (p - 1) p 0 (omega arith) (omega arith)

  -- cents added to a pool
  pub pool_added : (c : ℕ) → set (map f (range_with_len 1 n)) (p - 1) (get_or (map f (range_with_len 1 n)) (p - 1) 0 + c) ≡ map (λ q. f q + cond (eqb q p) c 0) (range_with_len 1 n)
  pool_added c =
      ext_get_or 0 (set xs (p - 1) v) (map g (range_with_len 1 n)) (long ∙ sym (length-map-range_with_len g 1 n))
      (λ k l. at k (omega (arith, long)) ∙ sym (get_or-map-range_with_len g 1 n k (1 + k) 0 (omega (arith, long)) refl))
    where
      xs : List ℕ
      xs = map f (range_with_len 1 n)

      v : ℕ
      v = get_or (map f (range_with_len 1 n)) (p - 1) 0 + c

      g : ℕ → ℕ
      g q = f q + cond (eqb q p) c 0

      long : length (set xs (p - 1) v) ≡ n
      long = length-set xs (p - 1) v ∙ length-map-range_with_len f 1 n

      at : (k : ℕ) → k < n → get_or (set xs (p - 1) v) k 0 ≡ g (1 + k)
      at k l =
          elim (cases_eq k (p - 1)) [
            | inl e ↦ (
                let q : 1 + k ≡ p = omega arith in
                ap (λ i. get_or (set xs (p - 1) v) i 0) e
                ∙ get_or-set_same xs (p - 1) v 0 (omega (arith, length-map-range_with_len f 1 n))
                ∙ ap (λ i. i + c) get_or_pool
                ∙ sym (ap (λ i. f i + c) q)
                ∙ ap (λ i. f (1 + k) + i) (sym (cond-true (eqb (1 + k) p) c 0 (eq-eqb (1 + k) p q))))
            | inr e ↦ (
                get_or-set_other xs (p - 1) k v 0 e
                ∙ get_or-map-range_with_len f 1 n k (1 + k) 0 l refl
                ∙ sym (add-zero (f (1 + k)))
                ∙ ap (λ i. f (1 + k) + i) (sym (cond-false (eqb (1 + k) p) c 0 (ne_eqb (1 + k) p (λ q. e (omega arith))))))
          ]

  pub pool_added_to : (c : ℕ) (xs ys : List ℕ) → xs ≡ map f (range_with_len 1 n) → ys ≡ set xs (p - 1) (get_or xs (p - 1) 0 + c) → ys ≡ map (λ q. f q + cond (eqb q p) c 0) (range_with_len 1 n)
  pool_added_to c xs ys e a = a ∙ ap (λ zs. set zs (p - 1) (get_or zs (p - 1) 0 + c)) e ∙ pool_added c
