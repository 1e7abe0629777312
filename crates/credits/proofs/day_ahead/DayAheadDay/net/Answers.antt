use Rattle.std.proofs.Common.{◌*◌, ◌+ℤ◌, sym, ap, ◌∙◌, arith}
use Rattle.std.proofs.lemmas.Int.{ints}
use Rattle.credits.specs.Sums.{net}
use Rattle.credits.specs.DayAhead.{day_ahead_hour}
use Rattle.credits.proofs.Worths.{running_back, running_within, net_none, net_more}
use Rattle.credits.proofs.day_ahead.DayAheadDay.net.Goals as goal

pub loop-hour-init : goal.loop-hour-init
loop-hour-init c = (net_none (day_ahead_hour c.args.self.now.resource.now), (omega (arith, ints), omega (arith, ints)))

pub loop-hour-preserved : goal.loop-hour-preserved
loop-hour-preserved c =
    let f = day_ahead_hour c.args.self.now.resource.now in
    let h = c.loop-hour.hour in
    let x = c.amount-sum.result in
    let within = running_within (1000000000000 * h) 1000000000000 _ x (omega arith) c.loop-hour.invariant.1 c.amount-sum.ensures.small in (
      running_back (1000000000000 * h) 1000000000000 _ x (omega arith) c.loop-hour.invariant.1 c.amount-sum.ensures.small
          ∙ ap (λ z. z +ℤ x) c.loop-hour.invariant.0 ∙ ap (λ z. net f h +ℤ z) c.amount-sum.ensures.value ∙ sym (net_more f h),
      (omega (arith, ints), omega (arith, ints)),
    )
