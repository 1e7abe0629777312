use Rattle.std.proofs.Common.{◌≡◌, drop}
use Rattle.explanation.specs.Names.{row_at}
use Rattle.explanation.proofs.table.row_at.Given as goal

-- what is left gives the answer
abbrev pub invariant-loop-row : goal.invariant-loop-row
invariant-loop-row l = row_at (drop l.row-index l.rows) l.byte ≡ row_at l.rows l.byte
