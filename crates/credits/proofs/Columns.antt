-- The sum of a pool's amounts over all rows.
use Rattle.std.proofs.Common.{◌≡◌, ℕ, zero, suc, ◌-◌, ◌*◌, ◌≤◌, cond, ltb, List, map, length, get_or, sum_by, sym, ◌∙◌, suc-mul, arith}
use Rattle.std.proofs.lemmas.Bool.{cond-true, lt-ltb}
use Rattle.std.proofs.lemmas.List.{length-map, get_or-map}
use Rattle.std.proofs.lemmas.List.Sums.{sum-map}
use Rattle.credits.specs.declared.amounts.PoolAmounts.{PoolAmounts}
use Rattle.credits.specs.Sums.{total}
use Rattle.credits.specs.Grids.{no_amounts, amount, Below}
use Rattle.credits.specs.Crediting.{column}
use Rattle.credits.proofs.Totals.{total_same, total_list}

-- a row's amount in a pool, as it is told
abbrev pub in_pool : ℕ → PoolAmounts → ℕ
in_pool pool row = cond (ltb 0 pool) (get_or row.cents (pool - 1) 0) 0

pub column_sum : (rows : List PoolAmounts) (pool : ℕ) → 1 ≤ pool → length rows ≡ 48 → sum_by (in_pool pool) rows ≡ column rows pool
column_sum rows pool one long =
    sym (sum-map (in_pool pool) rows)
    ∙ sym (total_list (map (in_pool pool) rows) 48 (length-map rows (in_pool pool) ∙ long))
    ∙ total_same (λ i. get_or (map (in_pool pool) rows) i 0) (λ i. amount rows i pool) 48
    (λ i l.
    get_or-map (in_pool pool) rows i no_amounts 0 (omega (arith, long))
    ∙ cond-true (ltb 0 pool) (get_or (get_or rows i no_amounts).cents (pool - 1) 0) 0 (lt-ltb 0 pool one))

total_few : (f : ℕ → ℕ) (most n : ℕ) → ((k : ℕ) → f k ≤ most) → total f n ≤ n * most
unfolding total
total_few f most zero h = omega arith
total_few f most (suc n) h = omega (arith, suc-mul n most, total_few f most n h, h n)

pub column_few : (rows : List PoolAmounts) (pool : ℕ) → Below 1000000000000000 rows → column rows pool ≤ 48000000000000000
column_few rows pool h = omega (arith, total_few (λ i. amount rows i pool) 1000000000000000 48 (λ i. h i pool))
