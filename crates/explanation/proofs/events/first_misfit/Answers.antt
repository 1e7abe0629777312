use Rattle.std.proofs.Common.{◌+◌, sym, ap, ◌∙◌, arith}
use Rattle.std.proofs.lemmas.Option.{cond_some}
use Rattle.explanation.specs.Misfits.{may_follow, behind, event, status_behind, may_follow_at}
use Rattle.explanation.proofs.Follows.{status_next, none_where, one_more}
use Rattle.explanation.proofs.events.first_misfit.Goals as goal

pub loop-k-init : goal.loop-k-init
unfolding status_behind
loop-k-init c = (c.at_midnight-before.ensures, λ j l. absurd (omega arith))

pub returns-in_default : goal.returns-in_default
returns-in_default c =
    let k = c.loop-k.k in
    let e = event c.args.events.now k in
    let s = c.loop-k.invariant.0 in
    let n = none_where (may_follow e c.loop-k.before) (behind (k + 1) e c.loop-k.before) (sym c.after.ensures ∙ c.in_default.is) in
    (k, omega arith, ap (λ b. record { hour = k + 1; event = e; before = b }) s, ap (may_follow e) (sym s) ∙ n, c.loop-k.invariant.1)

pub loop-k-preserved : goal.loop-k-preserved
loop-k-preserved c =
    let k = c.loop-k.k in
    let e = event c.args.events.now k in
    let s = c.loop-k.invariant.0 in
    let t = cond_some (may_follow e c.loop-k.before) (behind (k + 1) e c.loop-k.before) c.in-Some.next (sym c.after.ensures ∙ c.in-Some.is) in (
      sym t.1 ∙ ap (behind (k + 1) e) s ∙ sym (status_next c.args.hours_on_line c.args.events.now k),
      one_more (may_follow_at c.args.hours_on_line c.args.events.now) k c.loop-k.invariant.1 (ap (may_follow e) (sym s) ∙ t.0),
    )
