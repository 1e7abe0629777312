use Rattle.std.proofs.Common.{◌≡◌, is_some}
use Rattle.dayfile.specs.Layout.{fault_from}
use Rattle.dayfile.proofs.layout.Entry.all_pass.Given as goal

abbrev pub invariant-loop-i : goal.invariant-loop-i
invariant-loop-i g l = l.bad ≡ is_some (fault_from l.self l.i l.self.start l.block)
