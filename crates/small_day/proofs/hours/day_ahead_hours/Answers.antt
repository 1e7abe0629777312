use Rattle.std.proofs.Common.{rules}
use Rattle.small_day.specs.Hours.{hour_of}
use Rattle.small_day.proofs.Made.{made_at}
use Rattle.small_day.proofs.hours.day_ahead_hours.Goals as goal

pub returns : goal.returns
returns c = made_at _ (hour_of c.args.resource.now) _ (λ i y q k. search rules) c.from_fn.result 24 c.from_fn.ensures.items
