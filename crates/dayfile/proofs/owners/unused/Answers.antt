use Rattle.std.proofs.Common.{◌&&◌, eqb, ◌∙◌, rules}
use Rattle.std.proofs.lemmas.Iterator.{YieldsList-from_slice}
use Rattle.std.proofs.lemmas.Iterator.Search.{all_from_yields_List}
use borrow.Author.Tests.{tests}
use Rattle.dayfile.specs.declared.record.Owner.{Owner}
use Rattle.dayfile.proofs.OwnerRules.{vacant_all}
use Rattle.dayfile.proofs.owners.unused.Goals as goal

pub returns : goal.returns
returns c =
    all_from_yields_List (λ (o : Owner). eqb o.place 0 && eqb o.parts 0) _ _ c.all.result c.all.ensures.ran (YieldsList-from_slice c.args.slots.now cc) (λ x b q k. search (rules, tests))
    ∙ vacant_all c.args.slots.now
