use Rattle.std.proofs.Common.{◌≡◌, true, drop}
use Rattle.dayfile.specs.Layout.{first_fault, earlier, all_sized}
use Rattle.dayfile.proofs.layout.field_fault.Given as goal

abbrev pub invariant-loop-entry : goal.invariant-loop-entry
invariant-loop-entry l =
    (earlier l.first (first_fault (drop l.entry-index l.table) l.block) ≡ first_fault l.table l.block)
    × (all_sized (drop l.entry-index l.table) ≡ true)
