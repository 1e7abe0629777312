use Rattle.std.proofs.Common.{sym, ap, arith}
use Rattle.dayfile.specs.Files.{answer as refused_by}
use Rattle.credits.specs.Crediting.{column}
use Rattle.credits.proofs.Costs.{costs_fit, first_dear}
use Rattle.credits.proofs.crediting.check_costs.Goals as goal

pub returns : goal.returns
returns c = sym (ap refused_by (costs_fit (column c.args.amounts.now.rows) 21 (λ p l h. c.loop-number.invariant p l (omega arith))))

pub returns-then-pool_total-gt-DEAREST_POOL : goal.returns-then-pool_total-gt-DEAREST_POOL
returns-then-pool_total-gt-DEAREST_POOL c =
    sym (ap refused_by (first_dear (column c.args.amounts.now.rows) c.loop-number.number 21 c.loop-number.auto.number c.loop-number-test.true c.loop-number.invariant
    (omega (arith, c.pool_total.ensures, c.if-pool_total-gt-DEAREST_POOL.true))))
