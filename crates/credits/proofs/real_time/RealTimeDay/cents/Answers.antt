use Rattle.std.proofs.Common.{ap, ◌∙◌}
use Rattle.std.proofs.lemmas.Result.{err_from_is_err_and}
use Rattle.credits.specs.Allotments.{allotted}
use Rattle.credits.specs.RealTime.{real_time_millicents, real_time_cents}
use Rattle.credits.proofs.real_time.RealTimeDay.cents.Goals as goal

pub returns-in_err-claim : goal.returns-in_err-claim
returns-in_err-claim c =
    let p = err_from_is_err_and c.from_residual.result c.from_residual.ensures.1 in rw (p.1, p.2) c.in_err-claim.ensures

pub returns : goal.returns
unfolding real_time_cents
returns c =
    let s = c.in_ok-claim.ensures in (
      s.allowed,
      c.allot.ensures ∙ ap (λ m. allotted m c.in_ok-claim.field-0.hours) s.sum
          ∙ ap (allotted (real_time_millicents c.args.self.now.resource.now c.args.self.now.real_time.now)) s.shares,
    )
