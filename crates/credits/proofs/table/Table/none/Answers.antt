use Rattle.credits.proofs.Rows.{rows_none}
use Rattle.credits.proofs.table.Table.none.Goals as goal

pub invariant_of-result : goal.invariant_of-result
invariant_of-result c = record { wide = (rows_none c.none.result c.none.ensures).0 }

pub returns : goal.returns
returns c = (rows_none c.none.result c.none.ensures).1
