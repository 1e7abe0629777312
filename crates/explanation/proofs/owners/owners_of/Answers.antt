use Rattle.std.proofs.Common.{◌+◌, ◌*◌, drop, ◌∙◌, rules}
use Rattle.dayfile.specs.Records.{owner_from}
use Rattle.explanation.proofs.Rules.{no_owner}
use Rattle.explanation.proofs.Slots.{eight, made_by}
use Rattle.explanation.proofs.owners.owners_of.Goals as goal

pub returns : goal.returns
returns c =
    made_by _ _ (λ i. owner_from (drop (120 + 6 * i) c.args.block.now)) no_owner (λ i y q k. search rules) c.from_fn.result 8 c.from_fn.ensures.items
    ∙ eight c.args.block.now
