use Rattle.std.proofs.Common.{◌+◌, sym, ◌∙◌}
use Rattle.explanation.proofs.Rules.{unused_first, unused_none}
use Rattle.explanation.proofs.owners.broken_by_unused.Goals as goal

pub returns-in_err-first : goal.returns-in_err-first
returns-in_err-first c =
    c.from_residual.ensures ∙ sym (unused_none (c.args.used + 1) c.args.slots.now (sym c.first_in_use.ensures ∙ c.in_err-first.was))

pub returns : goal.returns
returns c = sym (unused_first (c.args.used + 1) c.in_ok-first.first c.args.slots.now (sym c.first_in_use.ensures ∙ c.in_ok-first.was))
