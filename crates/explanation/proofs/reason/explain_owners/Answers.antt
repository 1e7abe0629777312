use Rattle.std.proofs.Common.{◌≡◌, sym, ap, ◌∙◌, rules}
use Rattle.dayfile.specs.Records.{resource_of}
use Rattle.explanation.specs.Findings.{by_rule}
use Rattle.explanation.specs.Shares.{owners_rule}
use Rattle.explanation.proofs.Slots.{count_there}
use Rattle.explanation.proofs.reason.explain_owners.Goals as goal

pub returns : goal.returns
returns c =
    let n = c.from.ensures ∙ c.byte_at.ensures ∙ sym (count_there c.args.block.now) in
    let m : c.map_or.result ≡ by_rule c.broken_rule.result = search rules in
    m ∙ ap by_rule (c.broken_rule.ensures
    ∙ ap (λ k. owners_rule c.args.participants k c.owners_of.result) n
    ∙ ap (owners_rule c.args.participants (resource_of c.args.block.now).owner_count) c.owners_of.ensures)
