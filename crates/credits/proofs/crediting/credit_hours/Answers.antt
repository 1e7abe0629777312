use Rattle.std.proofs.Common.{◌≡◌, ◌+◌, map, get_or, take, refl, ap, ◌∙◌, subst, arith, rules}
use Rattle.credits.specs.declared.pool.Market.TheVariants.{DayAhead, RealTime}
use Rattle.credits.specs.Sums.{total}
use Rattle.credits.specs.Resources.{ResourceDay, Kept}
use Rattle.credits.specs.Grids.{cell, amount}
use Rattle.credits.specs.Owning.{owner_places, owner_parts, owned_cents, of_owner}
use Rattle.credits.specs.Crediting.{resource_credit}
use Rattle.credits.proofs.Made.{mapped}
use Rattle.credits.proofs.Sharing.{no_owner, no_share}
use Rattle.credits.proofs.Totals.{total_more}
use Rattle.credits.proofs.HourCredits.{cell_owned, market_entry, first_owners, owners_fit}
use Rattle.credits.proofs.crediting.credit_hours.Goals as goal

pub loop-hour-init : goal.loop-hour-init
unfolding total
loop-hour-init c =
    let g = c.unit.inside.resource in
    let is = ap (λ (x : ResourceDay). x.resource) c.unit.view_is in
    let slots = mapped _ of_owner _ (λ x y q k. search rules) no_owner no_share g.owners c.map-slots.result 8 c.unit.invariant.kept.resource.slots c.map-slots.ensures.items in
    let taken = ap (λ n. take n c.map-slots.result) c.from.ensures ∙ ap (take g.owner_count) slots in (
      ap (map (λ o. o.place)) taken ∙ first_owners (λ o. o.place) (λ o. o.place) (λ o. refl) g.owner_count g.owners ∙ ap owner_places is,
      ap (map (λ o. o.parts)) taken ∙ first_owners (λ o. o.parts) (λ o. o.parts) (λ o. refl) g.owner_count g.owners ∙ ap owner_parts is,
      λ most b i p. omega (arith, b i p),
      λ i p _ _ _. omega arith,
    )

pub share_out-requires : goal.share_out-requires
share_out-requires c =
    record {
      owners = owners_fit c.args.unit.now.resource c.loop-hour.owners (subst (Kept 48) c.unit.view_is c.unit.invariant.kept).resource c.loop-hour.invariant.0 c.loop-hour.invariant.1;
      small = (
        λ i p. omega (arith, c.loop-hour.invariant.2 100000000000000000 c.requires.below i p),
        c.args.cents.now.day_ahead.small c.loop-hour.hour,
      );
    }

pub share_out-requires-in-loop-hour : goal.share_out-requires-in-loop-hour
share_out-requires-in-loop-hour c =
    let before = c.loop-hour.invariant in
    let first = c.share_out.ensures in
    record {
      owners = owners_fit c.args.unit.now.resource c.share_out.new.owners (subst (Kept 48) c.unit.view_is c.unit.invariant.kept).resource (first.same_places ∙ before.0) (first.same_parts ∙ before.1);
      small = (
        λ i p. omega (arith, first.grown _ (before.2 100000000000000000 c.requires.below) i p),
        c.args.cents.now.real_time.small c.loop-hour.hour,
      );
    }

pub loop-hour-preserved : goal.loop-hour-preserved
loop-hour-preserved c =
    let x = c.args.unit.now in
    let h = c.loop-hour.hour in
    let before = c.loop-hour.invariant in
    let first = c.share_out.ensures in
    let second = c.share_out-in-loop-hour.ensures in (
      second.same_places ∙ first.same_places ∙ before.0,
      second.same_parts ∙ first.same_parts ∙ before.1,
      λ most b i p. omega (arith, second.grown _ (first.grown _ (before.2 most b)) i p),
      λ i p l one most.
          let d = market_entry DayAhead x h i p _ _ _ _ _ _ c.pool.ensures (ap (λ xs. get_or xs h 0) c.requires.allotted.day_ahead) before.0 before.1 (first.booked i p l one most) in
          let r = market_entry RealTime x h i p _ _ _ _ _ _ c.pool-in-loop-hour.ensures (ap (λ xs. get_or xs h 0) c.requires.allotted.real_time) (first.same_places ∙ before.0) (first.same_parts ∙ before.1) (second.booked i p l one most) in
          omega (arith, d, r, before.3 i p l one most, cell_owned x h i p (subst (Kept 48) c.unit.view_is c.unit.invariant.kept), total_more (λ k. owned_cents i (owner_places x.resource) (owner_parts x.resource) (cell x k p)) h),
    )

pub returns : goal.returns
unfolding resource_credit
returns c =
    let done : c.loop-hour.hour ≡ 24 = omega arith in
    record {
      grown = λ most b i p. omega (arith, c.loop-hour.invariant.2 most b i p);
      credited = λ i p l one most.
          c.loop-hour.invariant.3 i p l one most
          ∙ ap (λ n. amount c.args.amounts.now.rows i p + total (λ k. owned_cents i (owner_places c.args.unit.now.resource) (owner_parts c.args.unit.now.resource) (cell c.args.unit.now k p)) n) done;
    }
