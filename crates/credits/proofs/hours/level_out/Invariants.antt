use Rattle.std.proofs.Common.{◌≡◌, ◌++◌, map, take, drop}
use Rattle.credits.specs.Allotments.{level}
use Rattle.credits.proofs.hours.level_out.Given as goal

abbrev pub invariant-loop-hour : goal.invariant-loop-hour
invariant-loop-hour l = l.hours ≡ map level (take l.hour-index l.initial.hours) ++ drop l.hour-index l.initial.hours
