use Rattle.explanation.proofs.Slots.{owner_there}
use Rattle.explanation.proofs.owners.owner_at.Goals as goal

pub returns : goal.returns
returns c = owner_there c.args.at c.args.block.now c.half_at.result c.word_at.result c.half_at.ensures c.word_at.ensures
