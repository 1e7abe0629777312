use Rattle.std.proofs.Common.{◌≡◌, ◌+◌, cond, pos, Some, sym, ap, ◌∙◌, subst, arith}
use Rattle.std.proofs.lemmas.Result.{err_from_is_err_and}
use Rattle.std.specs.Bool.{then_some}
use Rattle.std.proofs.lemmas.Int.{ints}
use Rattle.credits.specs.declared.forbidden.ForbiddenEvent.{ForbiddenEvent}
use Rattle.credits.specs.declared.walk.Walk.{Walk}
use Rattle.credits.specs.Commitments.{moved, in_period}
use Rattle.credits.specs.RealTime.{event, figures, opening_fee, real_time_hour}
use Rattle.credits.specs.Walks.{Stands}
use Rattle.credits.proofs.Passing.{advances_none, advances_some, stopped_here, refused_with, eligible_here, stands_next, same_walk}
use Rattle.credits.proofs.walk.Walk.pass.Goals as goal

pub returns-in_err-ok_or : goal.returns-in_err-ok_or
returns-in_err-ok_or c =
    let w = c.args.self.now in
    let event = event c.args.day.now.real_time.now c.args.hour in
    let none = c.in_err-ok_or.ensures.ok_part in
    let n = advances_none _ _ w c.advance.new.self _ none c.advance.ensures in
    let p = err_from_is_err_and c.from_residual.result c.from_residual.ensures.1 in
    let told = refused_with c.advance.result _ c.in_err-ok_or.field-0.0 none c.in_err-ok_or.ensures.value in
    rw (p.1, p.2) (
      stopped_here c.args.day.now.resource.now c.args.day.now.real_time.now c.args.hour w c.requires.so_far
          (ap (λ o. moved o w.commitment event) (sym c.fee_unless_cleared-opening.ensures.value) ∙ n),
      ap (λ (e : ForbiddenEvent). e.hour) told,
    )

pub overflow_add-self : goal.overflow_add-self
overflow_add-self c =
    let p = advances_some _ _ c.args.self.now c.advance.new.self _ c.in_ok-ok_or.ensures.ok_part c.advance.ensures in
    let n : c.advance.new.self.net ≡ c.args.self.now.net = ap (λ (x : Walk). x.net) p.1.1 in
    let l = c.requires.hour in
    let lo = c.requires.so_far.above in
    let hi = c.requires.so_far.below in
    let m = c.amount_of.ensures.small in
    omega (arith, ints)

pub returns : goal.returns
returns c =
    let g = c.args.day.now.resource.now in
    let r = c.args.day.now.real_time.now in
    let h = c.args.hour in
    let w = c.args.self.now in
    let a = c.advance.new.self in
    let e = event r h in
    let p = advances_some _ _ w a _ c.in_ok-ok_or.ensures.ok_part c.advance.ensures in
    let s = p.0 in
    let at : a.commitment ≡ s = ap (λ (x : Walk). x.commitment) p.1.1 in
    let n : c.advance.new.self.net ≡ c.args.self.now.net = ap (λ (x : Walk). x.net) p.1.1 in
    let o : moved (opening_fee g h) w.commitment e ≡ Some s =
    ap (λ x. moved x w.commitment e) (sym c.fee_unless_cleared-opening.ensures.value) ∙ p.1.0 in
    let st = c.requires.so_far in
    let l = c.requires.hour in
    let lo = c.requires.so_far.above in
    let hi = c.requires.so_far.below in
    let m = c.amount_of.ensures.small in
    let next = stands_next g r h w st s c.amount_of.result
    (omega (arith, c.fee_unless_cleared-opening.ensures.value, c.fee_unless_cleared-opening.ensures.small, c.args.day.now.resource_kept.start_up)) o
    (c.amount_of.ensures.value ∙ ap (λ x. cond (in_period x) (real_time_hour g r h) (pos 0)) at) m.0 m.1 in (
      ap (λ k. record { kwh = k; cents = 0 })
          (c.then_some.ensures ∙ ap (λ b. then_some b (figures r h).metered_kwh) (c.is_in_period.ensures ∙ ap in_period at ∙ sym (eligible_here g r h w st s o))),
      subst (Stands g r (h + 1)) (sym (same_walk _ _ at (ap (λ (x : Walk). x.fees) p.1.1) (omega (arith, ints)))) next,
    )
