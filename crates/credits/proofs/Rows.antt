-- Rows of amounts, to which cents are added place by place.
use Rattle.std.proofs.Common.{◌≡◌, ℕ, zero, suc, ◌+◌, ◌-◌, ◌<◌, ◌≤◌, cond, eqb, ◌≢◌, List, length, get_or, set, replicate, sym, refl, ap, ◌∙◌, subst, inl, inr, arith}
use Rattle.std.proofs.lemmas.List.{length-set, get_or-set_same, get_or-set_other, get_or_past, get_or-replicate}
use Rattle.std.proofs.lemmas.Bool.{cases_eq, cases_lt}
use Rattle.std.proofs.lemmas.Bool.Decides.{nat_tests}
use Rattle.credits.specs.declared.amounts.PoolAmounts.{PoolAmounts}
use Rattle.credits.specs.Grids.{no_amounts, amount, Wide, Below}

-- cents are added to a pool of row k
module _ (rows : List PoolAmounts) (k pool cents : ℕ) (row : PoolAmounts) (w : Wide 48 rows) (l : k < 48) (one : 1 ≤ pool) (most : pool ≤ 21)
    (long : length row.cents ≡ 21)
    (e : row.cents ≡ set (get_or rows k no_amounts).cents (pool - 1) (get_or (get_or rows k no_amounts).cents (pool - 1) 0 + cents)) where
  row_at : get_or (set rows k row) k no_amounts ≡ row
  row_at = get_or-set_same rows k row no_amounts (omega (arith, w.rows_long))

  pub wide_added : Wide 48 (set rows k row)
  wide_added =
      record {
        rows_long = length-set rows k row ∙ w.rows_long;
        row_long = λ i li.
            elim (cases_eq i k) [
              | inl s ↦ subst (λ (m : ℕ). length (get_or (set rows k row) m no_amounts).cents ≡ 21) (sym s) (ap (λ r. length r.cents) row_at ∙ long)
              | inr ne ↦ ap (λ r. length r.cents) (get_or-set_other rows k i row no_amounts ne) ∙ w.row_long i li
            ];
      }

  amount_here : (p : ℕ) → 1 ≤ p → amount (set rows k row) k p ≡ amount rows k p + cond (eqb p pool) cents 0
  amount_here p h =
      let now = (get_or rows k no_amounts).cents in
      let at : amount (set rows k row) k p ≡ get_or (set now (pool - 1) (get_or now (pool - 1) 0 + cents)) (p - 1) 0 =
      ap (λ r. get_or r.cents (p - 1) 0) row_at ∙ ap (λ c. get_or c (p - 1) 0) e in
      elim (cases_eq p pool) [
        | inl s ↦
            (let same : amount (set rows k row) k pool ≡ amount rows k pool + cents =
            subst (λ (m : ℕ). amount (set rows k row) k m ≡ get_or (set now (pool - 1) (get_or now (pool - 1) 0 + cents)) (m - 1) 0) s at
            ∙ get_or-set_same now (pool - 1) (get_or now (pool - 1) 0 + cents) 0 (omega (arith, w.row_long k l)) in
            subst (λ (m : ℕ). amount (set rows k row) k m ≡ amount rows k m + cond (eqb m pool) cents 0) (sym s) (grind (arith, nat_tests)))
        | inr ne ↦
            (let other : p - 1 ≢ pool - 1 = λ q. ne (omega arith) in
            let same : amount (set rows k row) k p ≡ amount rows k p = at ∙ get_or-set_other now (pool - 1) (p - 1) (get_or now (pool - 1) 0 + cents) 0 other in
            grind (arith, nat_tests))
      ]

  -- the amount at the row and the pool has grown by the cents, and no other has changed
  pub amount_added : (i p : ℕ) → 1 ≤ p → amount (set rows k row) i p ≡ amount rows i p + cond (eqb p pool) (cond (eqb k i) cents 0) 0
  amount_added i p h =
      elim (cases_eq i k) [
        | inl s ↦
            subst (λ (m : ℕ). amount (set rows k row) m p ≡ amount rows m p + cond (eqb p pool) (cond (eqb k m) cents 0) 0) (sym s)
            (let here = amount_here p h in grind (arith, nat_tests))
        | inr ne ↦
            (let same : amount (set rows k row) i p ≡ amount rows i p = ap (λ r. get_or r.cents (p - 1) 0) (get_or-set_other rows k i row no_amounts ne) in
            let apart : k ≢ i = λ q. ne (sym q) in
            grind (arith, nat_tests))
      ]

-- zeros, at their places and past them
pub zeros_at : (n k : ℕ) → ◌≡◌ {A = ℕ} (get_or (replicate n 0) k 0) 0
zeros_at zero k = refl
zeros_at (suc n) zero = refl
zeros_at (suc n) (suc k) = zeros_at n k

-- no amount is above a limit if none of the 48 places and 21 pools is
pub below_from : (most : ℕ) (rows : List PoolAmounts) → Wide 48 rows → ((i p : ℕ) → i < 48 → 1 ≤ p → p ≤ 21 → amount rows i p ≤ most) → Below most rows
below_from most rows w h i p =
    elim (cases_lt i 48) [
      | inr past ↦ omega (arith, ap (λ r. get_or r.cents (p - 1) 0) (get_or_past rows i no_amounts (omega (arith, w.rows_long))))
      | inl l ↦
          elim (cases_lt p 22) [
            | inr past ↦ omega (arith, get_or_past (get_or rows i no_amounts).cents (p - 1) 0 (omega (arith, w.row_long i l)))
            | inl few ↦
                elim (cases_eq p 0) [
                  | inl z ↦ subst (λ (m : ℕ). amount rows i m ≤ most) (sym z) (h i 1 l (omega arith) (omega arith))
                  | inr some ↦ h i p l (omega arith) (omega arith)
                ]
          ]
    ]

-- 48 rows of nothing
pub rows_none : (row : PoolAmounts) → row.cents ≡ replicate 21 0 → Wide 48 (replicate 48 row) × Below 0 (replicate 48 row)
rows_none row e =
    let at : (i : ℕ) → i < 48 → (get_or (replicate 48 row) i no_amounts).cents ≡ replicate 21 0 = λ i l. ap (λ r. r.cents) (get_or-replicate 48 i row no_amounts l) ∙ e in
    let wide : Wide 48 (replicate 48 row) = record { rows_long = refl; row_long = λ i l. ap length (at i l) } in
    (wide, below_from 0 (replicate 48 row) wide (λ i p l _ _. omega (arith, ap (λ c. get_or c (p - 1) 0) (at i l), zeros_at 21 (p - 1))))
