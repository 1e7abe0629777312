use Rattle.std.proofs.Common.{ℕ, ◌<◌, ◌≤◌}
use Rattle.credits.specs.Crediting.{column}
use Rattle.credits.proofs.crediting.check_costs.Given as goal

abbrev pub invariant-loop-number : goal.invariant-loop-number
invariant-loop-number l = (p : ℕ) → 1 ≤ p → p < l.number → column l.amounts.rows p ≤ 10000000000
