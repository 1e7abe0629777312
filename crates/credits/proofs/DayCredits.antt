-- The credits of a day, Resource by Resource.
use Rattle.std.proofs.Common.{◌≡◌, ℕ, ◌+◌, ◌-◌, ◌*◌, ◌<◌, ◌≤◌, List, [], ◌∷◌, length, Some, None, Ok, Err, sum_by, Option, sym, refl, ap, ◌∙◌, arith}
use Rattle.std.proofs.lemmas.List.Sums.{sum_by-cons}
use Rattle.dayfile.specs.declared.fault.Fault.{Fault}
use Rattle.dayfile.specs.Files.{or_else}
use Rattle.credits.specs.declared.amounts.PoolAmounts.{PoolAmounts}
use Rattle.credits.specs.Resources.{ResourceDay, resources_of}
use Rattle.credits.specs.Grids.{amount, Below}
use Rattle.dayfile.specs.Files.{answer as refused_by}
use Rattle.credits.specs.Crediting.{resource_credit, credit_of, event_fault, first_event_fault}

-- the answer that a fault gives tells the fault
pub refused_none : (o : Option Fault) → refused_by o ≡ Ok tt → o ≡ None
refused_none None e = refl
refused_none (Some x) e = let z : ◌≡◌ {A = ℕ} 0 1 = cc in absurd (omega arith)

pub refused_some : (o : Option Fault) (x : Fault) → refused_by o ≡ Err x → o ≡ Some x
refused_some None x e = let z : ◌≡◌ {A = ℕ} 0 1 = cc in absurd (omega arith)
refused_some (Some y) x e = cc

-- WHAT IS CREDITED SO FAR: all but the Resources that are left, so that those bring the rest and have the first fault
pub record CreditedTo (f : List ℕ) (left : List ResourceDay) (rows : List PoolAmounts) : Type 0 where
  pub few : length left ≤ 128
  pub below : Below ((128 - length left) * 4800000000000) rows
  pub fault : first_event_fault left ≡ first_event_fault (resources_of f)
  pub credits : (i p : ℕ) → i < 48 → 1 ≤ p → p ≤ 21 → amount rows i p + sum_by (resource_credit i p) left ≡ credit_of f i p

module _ (f : List ℕ) (rows : List PoolAmounts) where
  -- none is credited
  pub credited_none : length (resources_of f) ≤ 128 → Below 0 rows → CreditedTo f (resources_of f) rows
  unfolding credit_of
  credited_none n b = record { few = n; below = λ i p. omega (arith, b i p); fault = refl; credits = λ i p _ _ _. omega (arith, b i p) }

  module _ (x : ResourceDay) (xs : List ResourceDay) (c : CreditedTo f (x ∷ xs) rows) where
    -- one more is credited
    pub credited_more : (after : List PoolAmounts) → event_fault x ≡ None → ((most : ℕ) → Below most rows → Below (most + 4800000000000) after)
        → ((i p : ℕ) → i < 48 → 1 ≤ p → p ≤ 21 → amount after i p ≡ amount rows i p + resource_credit i p x) → CreditedTo f xs after
    unfolding first_event_fault
    credited_more after n grown added =
        record {
          few = omega (arith, c.few);
          below = λ i p. omega (arith, c.few, grown ((128 - length (x ∷ xs)) * 4800000000000) c.below i p);
          fault = sym (ap (λ o. or_else o (first_event_fault xs)) n) ∙ c.fault;
          credits = λ i p li one most. omega (arith, sum_by-cons (resource_credit i p) x xs, added i p li one most, c.credits i p li one most);
        }

    -- or it has an event that may not follow
    pub credited_stop : (y : Fault) → event_fault x ≡ Some y → first_event_fault (resources_of f) ≡ Some y
    unfolding first_event_fault
    credited_stop y n = sym c.fault ∙ ap (λ o. or_else o (first_event_fault xs)) n

    -- what is credited leaves room for one more
    pub credited_few : Below 609600000000000 rows
    credited_few i p = omega (arith, c.few, c.below i p)

  -- none is left
  pub credited_all : CreditedTo f [] rows → (first_event_fault (resources_of f) ≡ None) × ((i p : ℕ) → i < 48 → 1 ≤ p → p ≤ 21 → amount rows i p ≡ credit_of f i p)
  unfolding first_event_fault
  credited_all c = (sym c.fault, λ i p li one most. omega (arith, c.credits i p li one most))
