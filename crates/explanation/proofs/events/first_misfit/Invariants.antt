use Rattle.std.proofs.Common.{◌≡◌, ℕ, ◌<◌, true}
use Rattle.explanation.specs.Misfits.{may_follow_at, status_behind}
use Rattle.explanation.proofs.events.first_misfit.Given as goal

-- so far each event may follow
abbrev pub invariant-loop-k : goal.invariant-loop-k
invariant-loop-k l =
    (l.before ≡ status_behind l.hours_on_line l.events l.k)
    × ((j : ℕ) → j < l.k → may_follow_at l.hours_on_line l.events j ≡ true)
