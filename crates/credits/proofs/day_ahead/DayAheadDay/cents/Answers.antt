use Rattle.std.proofs.Common.{ap, ◌∙◌}
use Rattle.credits.specs.Allotments.{allotted}
use Rattle.credits.specs.DayAhead.{day_ahead_millicents, day_ahead_cents}
use Rattle.credits.proofs.day_ahead.DayAheadDay.cents.Goals as goal

pub returns : goal.returns
unfolding day_ahead_cents
returns c =
    c.allot.ensures ∙ ap (λ m. allotted m c.claim.result.hours) c.claim.ensures.amount
    ∙ ap (allotted (day_ahead_millicents c.args.self.now.resource.now)) c.claim.ensures.hours
