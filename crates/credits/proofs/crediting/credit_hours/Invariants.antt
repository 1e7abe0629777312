use Rattle.std.proofs.Common.{◌≡◌, ℕ, ◌+◌, ◌*◌, ◌<◌, ◌≤◌, map}
use Rattle.credits.specs.Sums.{total}
use Rattle.credits.specs.Grids.{cell, amount, Below}
use Rattle.credits.specs.Owning.{owner_places, owner_parts, owned_cents}
use Rattle.credits.proofs.crediting.credit_hours.Given as goal

abbrev pub invariant-loop-hour : goal.invariant-loop-hour
invariant-loop-hour l =
    (map (λ o. o.place) l.owners ≡ owner_places l.unit.resource)
    × (map (λ o. o.parts) l.owners ≡ owner_parts l.unit.resource)
    × ((most : ℕ) → Below most l.initial.amounts.rows → Below (most + l.hour * 200000000000) l.amounts.rows)
    × ((i p : ℕ) → i < 48 → 1 ≤ p → p ≤ 21 → amount l.amounts.rows i p
    ≡ amount l.initial.amounts.rows i p + total (λ h. owned_cents i (owner_places l.unit.resource) (owner_parts l.unit.resource) (cell l.unit h p)) l.hour)
