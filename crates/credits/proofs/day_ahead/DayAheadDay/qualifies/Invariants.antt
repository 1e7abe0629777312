use Rattle.std.proofs.Common.{◌≡◌, true}
use Rattle.credits.specs.Spells.{streak}
use Rattle.credits.specs.DayAhead.{self_scheduled, not_self_scheduled, qualifies}
use Rattle.credits.proofs.day_ahead.DayAheadDay.qualifies.Given as goal

abbrev pub invariant-loop-hour : goal.invariant-loop-hour
invariant-loop-hour l =
    (l.block ≡ streak (self_scheduled l.self.resource.now) l.hour)
    × (l.gap ≡ streak (not_self_scheduled l.self.resource.now) l.hour)
    × (qualifies l.self.resource.now l.hour ≡ true)
