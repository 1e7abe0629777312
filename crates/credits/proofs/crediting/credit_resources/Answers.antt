use Rattle.std.proofs.Common.{◌≡◌, Err, sym, ap, ◌∙◌, subst, arith}
use Rattle.std.proofs.lemmas.Result.{err_from_is_err_and, MatchResult-from_err}
use Rattle.dayfile.specs.declared.day.AdmittedDay.{AdmittedDay}
use Rattle.dayfile.specs.Files.{answer as refused_by}
use Rattle.credits.specs.declared.resources.ResourceIter.{ResourceIter}
use Rattle.credits.specs.Resources.{resources_of, resources_behind}
use Rattle.credits.proofs.Days.{day_resources}
use Rattle.credits.proofs.DayCredits.{CreditedTo, refused_none, refused_some, credited_none, credited_more, credited_stop, credited_few, credited_all}
use Rattle.credits.proofs.crediting.credit_resources.Goals as goal

pub loop-unit-init : goal.loop-unit-init
loop-unit-init c =
    let f = c.args.day.now.file.now in
    let s = c.resources-unit-items.result in
    let all : resources_behind c.into_iter-unit-iterator.result.block c.into_iter-unit-iterator.result.day.now.file.now ≡ resources_of f =
    ap (λ (t : ResourceIter). resources_behind t.block t.day.now.file.now) c.into_iter-unit-iterator.ensures.into_iter_gives
    ∙ ap (λ b. resources_behind b s.day.now.file.now) c.resources-unit-items.ensures.0 ∙ ap (λ (d : AdmittedDay). resources_behind 0 d.file.now) c.resources-unit-items.ensures.1 in
    subst (λ xs. CreditedTo f xs c.args.amounts.now.rows) (sym all) (credited_none f c.args.amounts.now.rows (day_resources c.args.day.now) c.requires)

pub loop-unit-preserved : goal.loop-unit-preserved
loop-unit-preserved c =
    let f = c.args.day.now.file.now in
    let rows = c.loop-unit.amounts.rows in
    let before = subst (λ xs. CreditedTo f xs rows) c.in-Some.ensures.steps c.loop-unit.invariant in
    credited_more f rows c.in-Some.unit _ before c.credit_resource.new.amounts.rows
    (refused_none _ (sym c.credit_resource.ensures.answer ∙ c.in_ok-credit_resource.was)) c.credit_resource.ensures.grown c.in_ok-credit_resource.ensures.credited

pub returns-in_err-credit_resource : goal.returns-in_err-credit_resource
returns-in_err-credit_resource c =
    let f = c.args.day.now.file.now in
    let rows = c.loop-unit.amounts.rows in
    let before = subst (λ xs. CreditedTo f xs rows) c.in-Some.ensures.steps c.loop-unit.invariant in
    let p = err_from_is_err_and c.from_residual.result c.from_residual.ensures.1 in
    let stop = credited_stop f rows c.in-Some.unit _ before _ (refused_some _ _ (sym c.credit_resource.ensures.answer ∙ c.in_err-credit_resource.was)) in
    record {
      answer = p.1 ∙ ap Err p.2 ∙ sym (ap refused_by stop);
      below = λ i p. omega (arith, c.credit_resource.ensures.grown 609600000000000 (credited_few f rows c.in-Some.unit _ before) i p);
      credited = MatchResult-from_err _ _ _ c.from_residual.ensures.0 (λ _. tt);
    }

pub returns-clause-answer : goal.returns-clause-answer
returns-clause-answer c =
    let f = c.args.day.now.file.now in
    let rows = c.loop-unit.amounts.rows in
    let before = subst (λ xs. CreditedTo f xs rows) c.in-None.ensures.steps.0 c.loop-unit.invariant in
    sym (ap refused_by (credited_all f rows before).0)
