use Rattle.credits.specs.Resources.{resources_behind}
use Rattle.credits.proofs.DayCredits.{CreditedTo}
use Rattle.credits.proofs.crediting.credit_resources.Given as goal

abbrev pub invariant-loop-unit : goal.invariant-loop-unit
invariant-loop-unit l = CreditedTo l.day.file.now (resources_behind l.unit-iterator.block l.unit-iterator.day.now.file.now) l.amounts.rows
