use Rattle.std.proofs.Common.{◌≡◌, ◌+◌, ◌^◌, ◌<◌, false, ◌&&◌, eqb, get_or, drop, sym, ap, ◌∙◌, inl, inr, arith, rules}
use Rattle.std.proofs.lemmas.List.{at_drop_all}
use Rattle.std.proofs.lemmas.Bool.{and_left}
use Rattle.dayfile.specs.Owners.{placed, parts_of}
use Rattle.dayfile.proofs.OwnerRules.{no_owner, placed_more, placed_not, parts_more}
use Rattle.dayfile.proofs.owners.whole.Goals as goal
use Rattle.dayfile.proofs.owners.whole.Goals.{then-place-least-via-then-place-least, then-place-least-via-else-place-least+then-place-limit, then-place-least-via-else-place-least+else-place-limit+then-owner-eq0}

pub returns-then-place-least : goal.returns-then-place-least
returns-then-place-least c =
    let e = c.from-place.ensures in
    let no : placed c.loop-owner.least c.args.limit (drop c.loop-owner.owner-index c.args.owners.now) ≡ false =
    elim c.then-place-least.branch [
      | then-place-least-via-then-place-least w ↦ placed_not c.args.owners.now c.loop-owner.owner-index c.loop-owner-test.true c.loop-owner.least c.args.limit (inl (omega (arith, e, w.if-place-least.true)))
      | then-place-least-via-else-place-least+then-place-limit w ↦ placed_not c.args.owners.now c.loop-owner.owner-index c.loop-owner-test.true c.loop-owner.least c.args.limit (inr (inl (omega (arith, e, w.if-place-limit.true))))
      | then-place-least-via-else-place-least+else-place-limit+then-owner-eq0 w ↦ placed_not c.args.owners.now c.loop-owner.owner-index c.loop-owner-test.true c.loop-owner.least c.args.limit (inr (inr w.if-owner-eq0.true))
    ] in
    sym (and_left _ _ (sym c.loop-owner.invariant.0 ∙ no))

pub loop-owner-preserved : goal.loop-owner-preserved
loop-owner-preserved c =
    let os = c.args.owners.now in
    let i = c.loop-owner.owner-index in
    let l = c.loop-owner-test.true in
    let e = c.from-place.ensures in
    let n : (get_or c.args.owners.now c.loop-owner.owner-index no_owner).parts < 2 ^ 32 = search rules in
    let p = parts_more os i l in (
      ap (λ p. placed (p + 1) c.args.limit (drop (i + 1) os)) e ∙ sym (placed_more os i l c.loop-owner.least c.args.limit (omega (arith, e, c.if-place-least.false)) (omega (arith, e, c.if-place-limit.false)) c.if-owner-eq0.false) ∙ c.loop-owner.invariant.0,
      omega (arith, p, c.loop-owner.invariant.1),
      omega (arith, n, c.loop-owner.invariant.2),
    )

pub returns : goal.returns
unfolding placed parts_of
returns c =
    let os = c.args.owners.now in
    let i = c.loop-owner.owner-index in
    let l = c.loop-owner-test.false in
    let s = at_drop_all parts_of os i l in
    ap (λ n. eqb n 1000000) (omega (arith, s, c.loop-owner.invariant.1))
    ∙ ap (λ t. t && eqb (parts_of os) 1000000) (sym (at_drop_all (placed c.loop-owner.least c.args.limit) os i l) ∙ c.loop-owner.invariant.0)
