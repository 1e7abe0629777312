use Rattle.std.proofs.Common.{◌≡◌, ◌∙◌, ap, cond, eqb, None, Some, sum_by, rules}
use Rattle.explanation.specs.declared.finding.OwnersRule.TheVariants.{Sum}
use Rattle.explanation.proofs.Rules.{parts_sum, unless}
use Rattle.explanation.proofs.owners.broken_by_sum.Goals as goal

pub returns : goal.returns
returns c =
    let m : c.sum-parts.result ≡ sum_by (λ o. o.parts) c.args.owners.now = search rules in
    let n = m ∙ parts_sum c.args.owners.now in
    c.then_some.ensures ∙ unless (eqb c.sum-parts.result 1000000) (Sum c.sum-parts.result) ∙ ap (λ p. cond (eqb p 1000000) None (Some (Sum p))) n
