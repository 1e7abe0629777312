use Rattle.std.proofs.Common.{arith, rules}
use Rattle.dayfile.proofs.Numbers.{number_two}
use Rattle.dayfile.proofs.bytes.half_at.Goals as goal

pub returns : goal.returns
returns c = omega (arith, number_two c.bytes_at.result (search rules))
