use Rattle.std.proofs.Common.{◌+◌, drop, sym, ap, ◌∙◌, arith}
use Rattle.std.proofs.lemmas.List.{at_drop_all}
use Rattle.explanation.specs.Shares.{used_rule}
use Rattle.explanation.proofs.Rules.{used_rising, used_below, used_parts, used_more}
use Rattle.explanation.proofs.owners.broken_by_one.Goals as goal

pub returns-then-at-least : goal.returns-then-at-least
returns-then-at-least c =
    let e = c.from-at.ensures in
    sym (used_rising c.args.owners.now c.loop-i.i c.loop-i-test.true (c.loop-i.i + 1) c.loop-i.least c.args.limit (omega (arith, e, c.if-at-least.true)))
    ∙ c.loop-i.invariant

pub returns-then-at-limit : goal.returns-then-at-limit
returns-then-at-limit c =
    let e = c.from-at.ensures in
    sym (used_below c.args.owners.now c.loop-i.i c.loop-i-test.true (c.loop-i.i + 1) c.loop-i.least c.args.limit (omega (arith, e, c.if-at-least.false)) (omega (arith, e, c.if-at-limit.true)))
    ∙ c.loop-i.invariant

pub returns-then-parts-eq0 : goal.returns-then-parts-eq0
returns-then-parts-eq0 c =
    let e = c.from-at.ensures in
    sym (used_parts c.args.owners.now c.loop-i.i c.loop-i-test.true (c.loop-i.i + 1) c.loop-i.least c.args.limit (omega (arith, e, c.if-at-least.false)) (omega (arith, e, c.if-at-limit.false)) c.if-parts-eq0.true)
    ∙ c.loop-i.invariant

pub loop-i-preserved : goal.loop-i-preserved
loop-i-preserved c =
    let e = c.from-at.ensures in
    ap (λ p. used_rule (c.loop-i.i + 1 + 1) (p + 1) c.args.limit (drop (c.loop-i.i + 1) c.args.owners.now)) e
    ∙ sym (used_more c.args.owners.now c.loop-i.i c.loop-i-test.true (c.loop-i.i + 1) c.loop-i.least c.args.limit (omega (arith, e, c.if-at-least.false)) (omega (arith, e, c.if-at-limit.false)) c.if-parts-eq0.false)
    ∙ c.loop-i.invariant

pub returns : goal.returns
unfolding used_rule
returns c =
    sym (at_drop_all (used_rule (c.loop-i.i + 1) c.loop-i.least c.args.limit) c.args.owners.now c.loop-i.i c.loop-i-test.false)
    ∙ c.loop-i.invariant
