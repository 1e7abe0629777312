-- What crediting a day answers and leaves follows from its parts.
use Rattle.std.proofs.Common.{◌≡◌, ℕ, ◌+◌, ◌-◌, ◌<◌, ◌≤◌, List, map, length, get_or, Some, None, Ok, Err, Option, Result, sym, refl, ap, ◌∙◌, subst, arith}
use Rattle.std.specs.List.{range_with_len, AllByRecursion}
use Rattle.std.proofs.lemmas.List.FromFn.{get_or-map-range_with_len, length-map-range_with_len, fill_by_all}
use Rattle.std.proofs.lemmas.List.{ext_get_or}
use Rattle.dayfile.specs.declared.fault.Fault.{Fault}
use Rattle.dayfile.specs.Files.{or_else}
use Rattle.credits.specs.declared.amounts.PoolAmounts.{PoolAmounts}
use Rattle.credits.specs.declared.credits.Credits.{Credits}
use Rattle.credits.specs.Resources.{Kept, resources_of}
use Rattle.credits.specs.Grids.{no_amounts, amount, by_pool, Wide}
use Rattle.dayfile.specs.Writing.{Done}
use Rattle.credits.specs.Crediting.{credit_of, pool_cost, credits_of, participants_of, first_event_fault, cost_fault, credit_fault, CreditsDay, column}
use Rattle.credits.proofs.Costs.{costs_same}
use Rattle.credits.proofs.SumLaws.{pool_whole}
use Rattle.credits.proofs.Totals.{total_same}

-- a row by its amounts
by_pool_from : (row : PoolAmounts) (f : ℕ → ℕ) → length row.cents ≡ 21 → ((p : ℕ) → 1 ≤ p → p ≤ 21 → get_or row.cents (p - 1) 0 ≡ f p) → row ≡ by_pool f
by_pool_from row f n h =
    ap (λ c. record { cents = c })
    (ext_get_or 0 row.cents (map f (range_with_len 1 21)) (n ∙ sym (length-map-range_with_len f 1 21))
    (λ i l.
    let e : i + 1 - 1 ≡ i = omega arith in
    ap (λ k. get_or row.cents k 0) (sym e) ∙ h (i + 1) (omega arith) (omega arith) ∙ sym (get_or-map-range_with_len f 1 21 i (i + 1) 0 (omega arith) (omega arith))))

-- rows that hold a day's credits
module _ (f : List ℕ) (rows : List PoolAmounts) (w : Wide 48 rows) (h : (i p : ℕ) → i < 48 → 1 ≤ p → p ≤ 21 → amount rows i p ≡ credit_of f i p) where
  pub rows_credited : rows ≡ map (λ i. by_pool (credit_of f i)) (range_with_len 0 48)
  rows_credited =
      fill_by_all (λ i. by_pool (credit_of f i)) rows 48 no_amounts w.rows_long
      (λ i l. by_pool_from (get_or rows i no_amounts) (credit_of f i) (w.row_long i l) (λ p one most. h i p l one most))

  pub credits_same : (count : ℕ) (numbers : List ℕ) → count ≡ length (participants_of f) → numbers ≡ map (λ i. get_or (participants_of f) i 0) (range_with_len 0 48)
      → ◌≡◌ {A = Credits} (record { count = count; participants = numbers; amounts = rows }) (credits_of f)
  credits_same count numbers c n = let r = rows_credited in cc

  -- their columns are the pools' costs
  pub columns_cost : AllByRecursion (Kept 48) (resources_of f) → cost_fault (column rows) 21 ≡ cost_fault (pool_cost f) 21
  columns_cost kept =
      costs_same (column rows) (pool_cost f) 21
      (λ p one most. total_same (λ i. amount rows i p) (λ i. credit_of f i p) 48 (λ i l. h i p l one most) ∙ pool_whole f 48 p kept)

-- why a day is not credited
pub by_event : (f : List ℕ) (x : Fault) → first_event_fault (resources_of f) ≡ Some x → credit_fault f ≡ Some x
by_event f x e = ap (λ o. or_else o (cost_fault (pool_cost f) 21)) e

pub by_cost : (f : List ℕ) (o : Option Fault) → first_event_fault (resources_of f) ≡ None → cost_fault (pool_cost f) 21 ≡ o → credit_fault f ≡ o
by_cost f o e c = ap (λ a. or_else a (cost_fault (pool_cost f) 21)) e ∙ c

pub day_refused : (f : List ℕ) (was : Credits) (x : Fault) (answer : Result (Unit {0}) Fault) → credit_fault f ≡ Some x → answer ≡ Err x → CreditsDay f was answer was
day_refused f was x answer e a = subst (λ o. Done o was (credits_of f) answer was) (sym e) (a, refl)

pub day_credited : (f : List ℕ) (was after : Credits) → credit_fault f ≡ None → after ≡ credits_of f → CreditsDay f was (Ok tt) after
day_credited f was after e a = subst (λ o. Done o was (credits_of f) (Ok tt) after) (sym e) (refl, a)
