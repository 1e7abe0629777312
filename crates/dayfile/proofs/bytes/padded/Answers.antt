use Rattle.dayfile.proofs.Numbers.{number_over}
use Rattle.dayfile.proofs.bytes.padded.Goals as goal

pub returns : goal.returns
returns g c = number_over g.row.N c.args.bytes.now c.copy_from_slice.new.self c.copy_from_slice.ensures.after
