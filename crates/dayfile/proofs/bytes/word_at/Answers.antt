use Rattle.std.proofs.Common.{arith, rules}
use Rattle.dayfile.proofs.Numbers.{number_four}
use Rattle.dayfile.proofs.bytes.word_at.Goals as goal

pub returns : goal.returns
returns c = omega (arith, number_four c.bytes_at.result (search rules))
