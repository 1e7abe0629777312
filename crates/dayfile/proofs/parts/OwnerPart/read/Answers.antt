use Rattle.dayfile.proofs.Numbers.{value_drop}
use Rattle.dayfile.proofs.parts.OwnerPart.read.Goals as goal

pub returns : goal.returns
returns c =
    let p = value_drop c.args.at 2 4 c.args.block.now in
    cc
