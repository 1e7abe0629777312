-- The first pool that costs too much.
use Rattle.std.proofs.Common.{◌≡◌, ℕ, zero, suc, ◌+◌, ◌<◌, ◌≤◌, cond, ltb, Some, None, Option, sym, refl, ap, ◌∙◌, subst, inl, inr, arith}
use Rattle.std.proofs.lemmas.Bool.{cases_eq, le-ltb, lt-ltb, ltb-false, cond-true, cond-false, cond_both}
use Rattle.dayfile.specs.declared.fault.Fault.{Fault}
use Rattle.dayfile.specs.declared.fault.Fault.TheVariants.{PoolCost}
use Rattle.dayfile.specs.Files.{or_else}
use Rattle.credits.specs.Crediting.{cost_fault}

-- no pool costs too much
pub costs_fit : (cost : ℕ → ℕ) (n : ℕ) → ((p : ℕ) → 1 ≤ p → p ≤ n → cost p ≤ 10000000000) → cost_fault cost n ≡ None
unfolding cost_fault
costs_fit cost zero h = refl
costs_fit cost (suc n) h =
    ap (λ o. or_else o (cond (ltb 10000000000 (cost (n + 1))) (Some (PoolCost (n + 1))) None)) (costs_fit cost n (λ p l k. h p l (omega arith)))
    ∙ cond-false (ltb 10000000000 (cost (n + 1))) (Some (PoolCost (n + 1))) None (le-ltb 10000000000 (cost (n + 1)) (h (n + 1) (omega arith) (omega arith)))

-- pool q does, and none before it
pub first_dear : (cost : ℕ → ℕ) (q n : ℕ) → 1 ≤ q → q ≤ n → ((p : ℕ) → 1 ≤ p → p < q → cost p ≤ 10000000000) → 10000000000 < cost q → cost_fault cost n ≡ Some (PoolCost q)
unfolding cost_fault
first_dear cost q zero l k h dear = absurd (omega arith)
first_dear cost q (suc n) l k h dear =
    elim (cases_eq q (n + 1)) [
      | inl e ↦
          ap (λ o. or_else o (cond (ltb 10000000000 (cost (n + 1))) (Some (PoolCost (n + 1))) None)) (costs_fit cost n (λ p a b. h p a (omega arith)))
          ∙ ap (λ m. cond (ltb 10000000000 (cost m)) (Some (PoolCost m)) None) (sym e)
          ∙ cond-true (ltb 10000000000 (cost q)) (Some (PoolCost q)) None (lt-ltb 10000000000 (cost q) dear)
      | inr ne ↦ ap (λ o. or_else o (cond (ltb 10000000000 (cost (n + 1))) (Some (PoolCost (n + 1))) None)) (first_dear cost q n l (omega arith) h dear)
    ]

-- where no fault is told, no pool costs too much
or_none : (a b : Option Fault) → or_else a b ≡ None → (a ≡ None) × (b ≡ None)
or_none None b e = (refl, e)
or_none (Some x) b e = let z : ◌≡◌ {A = ℕ} 0 1 = cc in absurd (omega arith)

pub none_dear : (cost : ℕ → ℕ) (n : ℕ) → cost_fault cost n ≡ None → (p : ℕ) → 1 ≤ p → p ≤ n → cost p ≤ 10000000000
unfolding cost_fault
none_dear cost zero e p l k = absurd (omega arith)
none_dear cost (suc n) e p l k =
    let dear : Option Fault = cond (ltb 10000000000 (cost (n + 1))) (Some (PoolCost (n + 1))) None in
    let parts = or_none (cost_fault cost n) dear e in
    elim (cases_eq p (n + 1)) [
      | inr ne ↦ none_dear cost n parts.0 p l (omega arith)
      | inl s ↦
          subst (λ m. cost m ≤ 10000000000) (sym s)
          (cond_both (ltb 10000000000 (cost (n + 1))) (Some (PoolCost (n + 1))) None (λ o. o ≡ None → cost (n + 1) ≤ 10000000000)
          (λ _ q. let z : ◌≡◌ {A = ℕ} 0 1 = cc in absurd (omega arith)) (λ t _. ltb-false 10000000000 (cost (n + 1)) t) parts.1)
    ]

-- equal costs have the same fault
pub costs_same : (cost other : ℕ → ℕ) (n : ℕ) → ((p : ℕ) → 1 ≤ p → p ≤ n → cost p ≡ other p) → cost_fault cost n ≡ cost_fault other n
unfolding cost_fault
costs_same cost other zero h = refl
costs_same cost other (suc n) h =
    ap (λ o. or_else o (cond (ltb 10000000000 (cost (n + 1))) (Some (PoolCost (n + 1))) None)) (costs_same cost other n (λ p l k. h p l (omega arith)))
    ∙ ap (λ m. or_else (cost_fault other n) (cond (ltb 10000000000 m) (Some (PoolCost (n + 1))) None)) (h (n + 1) (omega arith) (omega arith))
