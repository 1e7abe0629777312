use Rattle.std.proofs.Common.{◌≡◌, ◌+◌, ◌-◌, ◌*◌}
use Rattle.dayfile.specs.Layout.{fault_from, entry_fault}
use Rattle.dayfile.proofs.layout.Entry.fault.Given as goal

abbrev pub invariant-loop-i : goal.invariant-loop-i
invariant-loop-i l = fault_from l.self (l.self.count - l.i) (l.self.start + l.i * l.self.stride) l.block ≡ entry_fault l.self l.block
