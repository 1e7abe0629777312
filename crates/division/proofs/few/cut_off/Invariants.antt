use Rattle.std.proofs.Common.{◌-◌, ◌<◌, ◌≤◌}
use Rattle.division.specs.Cuts.{keys, reached}
use Rattle.division.proofs.few.cut_off.Given as goal

-- more than `left` keys reach the low end, and fewer reach the high one
abbrev pub invariant-loop-left : goal.invariant-loop-left
invariant-loop-left l = (l.left < reached l.low (keys l.parts)) × (reached l.high (keys l.parts) < l.left) × (l.low ≤ l.high) × (l.high ≤ l.above)

abbrev pub decreases-loop-left : goal.decreases-loop-left
decreases-loop-left l = l.high - l.low
