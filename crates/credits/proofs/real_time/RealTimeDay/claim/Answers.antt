use Rattle.std.proofs.Common.{◌≡◌, ◌+◌, ◌-◌, ◌≤◌, Some, map, get_or, set, pos, ◌+ℤ◌, sym, refl, ap, ◌∙◌, subst, arith, w64, SFits, to_z, of_z, rules}
use Rattle.std.specs.List.{AllByRecursion, range_with_len}
use Rattle.std.proofs.lemmas.List.{length-set}
use Rattle.std.proofs.lemmas.List.FromFn.{fill_by_all}
use Rattle.std.proofs.lemmas.List.Edits.{fill_by_more}
use Rattle.std.proofs.lemmas.Result.{err_from_is_err_and}
use Rattle.std.proofs.lemmas.Int.{ints, to_z-of_z}
use Rattle.dayfile.specs.declared.record.Event.TheVariants.{Off}
use Rattle.credits.specs.Allotments.{shared_kwh}
use Rattle.credits.specs.Commitments.{closing}
use Rattle.credits.specs.RealTime.{forbidden_hour, eligible, figures, real_time_share}
use Rattle.credits.specs.Walks.{Stands}
use Rattle.credits.proofs.Allots.{no_share, few_shared, all_light}
use Rattle.credits.proofs.Limits.{figures_kept}
use Rattle.credits.proofs.Passing.{stands_first, none_forbidden_yet, allowed_next, forbidden_here, forbidden_stays, closing_small, day_summed}
use Rattle.credits.proofs.real_time.RealTimeDay.claim.Goals as goal

pub loop-hour-init : goal.loop-hour-init
loop-hour-init c =
    let g = c.args.self.now.resource.now in
    let r = c.args.self.now.real_time.now in
    (subst (Stands g r 0) (sym c.at_midnight-walk.ensures) (stands_first g r c.args.self.now.resource_kept.on_line), none_forbidden_yet g r, refl, λ k l. absurd (omega arith))

pub returns-in_err-share : goal.returns-in_err-share
returns-in_err-share c =
    let g = c.args.self.now.resource.now in
    let r = c.args.self.now.real_time.now in
    let h = c.loop-hour.hour in
    let e : h + 1 + (24 - (h + 1)) ≡ 24 = omega arith in
    let here = c.in_err-share.ensures in
    let p = err_from_is_err_and c.from_residual.result c.from_residual.ensures.1 in
    rw (p.1, p.2) (
    ap (forbidden_hour g r) (sym e) ∙ forbidden_stays g r (h + 1) (24 - (h + 1)) (h + 1) (forbidden_here g r h c.loop-hour.invariant.1 here.0)
    ∙ ap Some (sym here.1))

pub loop-hour-preserved : goal.loop-hour-preserved
loop-hour-preserved c =
    let g = c.args.self.now.resource.now in
    let r = c.args.self.now.real_time.now in
    let h = c.loop-hour.hour in
    let hours = c.loop-hour.share-items in
    let p = c.in_ok-share.ensures in (
      p.1,
      allowed_next g r h _ c.loop-hour.invariant.1 p.1.at,
      length-set hours h _ ∙ c.loop-hour.invariant.2,
      λ k l. ap (λ x. get_or (set hours h x) k no_share) p.0
          ∙ fill_by_more (real_time_share g r) hours h no_share (omega (arith, c.loop-hour.invariant.2)) c.loop-hour.invariant.3 k l,
    )

-- the whole day passed
stands : (c : goal.After-credit) → Stands c.args.self.now.resource.now c.args.self.now.real_time.now 24 c.loop-hour.walk
stands c =
    let e : c.loop-hour.hour ≡ 24 = omega arith in
    subst (λ n. Stands c.args.self.now.resource.now c.args.self.now.real_time.now n c.loop-hour.walk) e c.loop-hour.invariant.0

shares : (c : goal.After-credit) → c.loop-hour.share-items ≡ map (real_time_share c.args.self.now.resource.now c.args.self.now.real_time.now) (range_with_len 0 24)
shares c =
    fill_by_all (real_time_share c.args.self.now.resource.now c.args.self.now.real_time.now) c.loop-hour.share-items 24 no_share c.loop-hour-test.array_long
    (λ k l. c.loop-hour.invariant.3 k (omega arith))

credit : (c : goal.After-credit) → to_z w64 (of_z w64 c.credit.result) ≡ pos (c.loop-hour.walk.fees + closing 0 c.loop-hour.walk.commitment Off) +ℤ c.loop-hour.walk.net
credit c = let fits : SFits w64 c.credit.result = search rules in to_z-of_z w64 c.credit.result fits ∙ c.credit.ensures

pub invariant_of-result : goal.invariant_of-result
invariant_of-result c =
    let g = c.args.self.now.resource.now in
    let r = c.args.self.now.real_time.now in
    let m = credit c in
    let small = closing_small 279 0 c.loop-hour.walk.commitment Off (stands c).light in
    let few = (stands c).few in
    let hi = (stands c).below in
    record {
      few = omega (arith, ints, m);
      light =
          subst (AllByRecursion (λ x. shared_kwh x ≤ 2000000)) (sym (shares c))
          (all_light (real_time_share g r) (λ h l. few_shared (eligible g r h) (figures r h).metered_kwh 2000000 (figures_kept c.args.self.now.real_time_kept h l).metered));
    }

pub returns : goal.returns
returns c =
    let g = c.args.self.now.resource.now in
    let r = c.args.self.now.real_time.now in
    let e : c.loop-hour.hour ≡ 24 = omega arith in
    record {
      allowed = ap (forbidden_hour g r) (sym e) ∙ c.loop-hour.invariant.1;
      sum = credit c.before ∙ sym (day_summed g r c.loop-hour.walk c.args.self.now.real_time_kept.events (stands c.before));
      shares = shares c.before;
    }
