use Rattle.std.proofs.Common.{◌≡◌, ◌+◌, ◌*◌, take, sum}
use Rattle.dayfile.specs.Bytes.{weighed}
use Rattle.dayfile.proofs.layout.columns_sum.Given as goal

abbrev pub invariant-loop-k : goal.invariant-loop-k
invariant-loop-k l = l.total ≡ weighed 0 (take l.k l.once) + 16 * sum (take l.k l.often)
