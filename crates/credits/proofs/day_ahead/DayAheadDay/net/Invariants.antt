use Rattle.std.proofs.Common.{◌≡◌, ◌*◌}
use Rattle.credits.specs.Sums.{net}
use Rattle.credits.specs.DayAhead.{day_ahead_hour}
use Rattle.credits.proofs.Worths.{Within}
use Rattle.credits.proofs.day_ahead.DayAheadDay.net.Given as goal

abbrev pub invariant-loop-hour : goal.invariant-loop-hour
invariant-loop-hour l = (l.sum ≡ net (day_ahead_hour l.self.resource.now) l.hour) × Within (1000000000000 * l.hour) l.sum
