use Rattle.dayfile.proofs.Numbers.{value_drop}
use Rattle.dayfile.proofs.parts.LoadPart.read.Goals as goal

pub returns : goal.returns
returns c =
    let p = value_drop c.args.at 4 4 c.args.block.now in
    let q = value_drop c.args.at 8 4 c.args.block.now in
    cc
