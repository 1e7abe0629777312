use Rattle.std.proofs.Common.{◌-◌, length}
use Rattle.dayfile.proofs.Columns.{Columns}
use Rattle.dayfile.proofs.layout.check_of.Given as goal

abbrev pub invariant-loop-row : goal.invariant-loop-row
invariant-loop-row l = Columns l.once l.often l.block (31 - length l.yielded)
