use Rattle.std.proofs.Common.{◌≡◌, ℕ, ◌+◌, ◌<◌, ◌≤◌, true, cond, eqb, map, Some, None, ap, ◌∙◌, arith}
use Rattle.credits.specs.Grids.{amount}
use Rattle.credits.specs.Owning.{owned_cents}
use Rattle.credits.proofs.Rows.{below_from}
use Rattle.credits.proofs.Sharing.{parts_divide, owned_within, owned_nothing, add_few, add_none, same_places, same_parts, booked_owned, held_within}
use Rattle.credits.proofs.owners.share_out.Goals as goal

pub book-requires-clause-small : goal.book-requires-clause-small
book-requires-clause-small c =
    let d = c.divide.ensures.answer ∙ ap (λ b. cond b None (Some tt)) (parts_divide (λ o. o.parts) c.args.cents c.args.owners.now c.requires.owners.1.1) in (
      λ i p. omega (arith, c.requires.small.0 i p),
      held_within c.args.cents c.args.owners.now c.divide.new.records c.requires.owners.1.0 c.requires.owners.1.1
          (c.divide.ensures.only d) (c.divide.ensures.shares d) 100000000000 c.requires.small.1,
    )

pub returns-then-cents-gt0 : goal.returns-then-cents-gt0
returns-then-cents-gt0 c =
    let cents = c.args.cents in
    let pool = c.args.pool.number in
    let xs = c.args.owners.now in
    let ys = c.divide.new.records in
    let before = c.args.amounts.now.rows in
    let after = c.book.new.amounts.rows in
    let below = c.requires.owners.1.0 in
    let whole = c.requires.owners.1.1 in
    let d = c.divide.ensures.answer ∙ ap (λ b. cond b None (Some tt)) (parts_divide (λ o. o.parts) cents xs whole) in
    let only = c.divide.ensures.only d in
    let held = c.divide.ensures.shares d in
    let places = map (λ o. o.place) xs in
    let parts = map (λ o. o.parts) xs in
    let entry : (i p : ℕ) → i < 48 → 1 ≤ p → p ≤ 21 → amount after i p ≡ amount before i p + cond (eqb p pool) (owned_cents i places parts cents) 0 = λ i p l one most.
    c.book.ensures i p l one most ∙ ap (λ n. amount before i p + cond (eqb p pool) n 0) (booked_owned cents xs ys below whole only held i) in
    record {
      grown = λ most b.
          below_from (most + 100000000000) after c.book.new.amounts.wide
          (λ i p l one few.
          omega (arith, add_few (eqb p pool) true (amount before i p) (amount after i p) (owned_cents i places parts cents) most (entry i p l one few) (b i p), owned_within i places parts cents (omega arith), c.requires.small.1));
      booked = entry;
      same_places = same_places cents xs ys below whole only held;
      same_parts = same_parts cents xs ys below whole only held;
    }

pub returns-else-cents-gt0-clause-booked : goal.returns-else-cents-gt0-clause-booked
returns-else-cents-gt0-clause-booked c =
    λ i p _ _ _. add_none (eqb p c.args.pool.number) (amount c.args.amounts.now.rows i p) _ (owned_nothing i _ _ c.args.cents (omega arith))
