use Rattle.std.proofs.Common.{None, Err, sym, ap, ◌∙◌}
use Rattle.std.proofs.lemmas.Result.{err_from_is_err_and, MatchResult-from_err}
use Rattle.credits.specs.Crediting.{pool_cost}
use Rattle.credits.proofs.Costs.{none_dear}
use Rattle.credits.proofs.CreditOutcomes.{credits_same, columns_cost, by_event, by_cost, day_refused, day_credited}
use Rattle.credits.proofs.DayCredits.{refused_none, refused_some}
use Rattle.credits.proofs.Days.{day_formed, resources_kept_few}
use Rattle.credits.proofs.SumLaws.{credits_add_up, day_lawful}
use Rattle.credits.proofs.crediting.credit.Goals as goal

pub returns-in_err-credit_resources : goal.returns-in_err-credit_resources
returns-in_err-credit_resources c =
    let f = c.args.day.now.file.now in
    let p = err_from_is_err_and c.from_residual.result c.from_residual.ensures.1 in
    let fault = refused_some _ _ (sym c.credit_resources.ensures.answer ∙ c.in_err-credit_resources.was) in
    record {
      outcome = day_refused f c.args.credits.now _ c.from_residual.result (by_event f _ fault) (p.1 ∙ ap Err p.2);
      adds_up = credits_add_up f (day_formed c.args.day.now);
      lawful = day_lawful f (day_formed c.args.day.now);
      costs_within = MatchResult-from_err _ _ _ c.from_residual.ensures.0 (λ _. tt);
    }

pub returns-in_err-check_costs : goal.returns-in_err-check_costs
returns-in_err-check_costs c =
    let f = c.args.day.now.file.now in
    let w = day_formed c.args.day.now in
    let rows = c.credit_resources.new.amounts.rows in
    let done = c.in_ok-credit_resources.ensures in
    let p = err_from_is_err_and c.from_residual-in_err-check_costs.result c.from_residual-in_err-check_costs.ensures.1 in
    let none = refused_none _ (sym c.credit_resources.ensures.answer ∙ c.in_ok-credit_resources.was) in
    let dear = refused_some _ _ (sym c.check_costs.ensures ∙ c.in_err-check_costs.was) in
    record {
      outcome = day_refused f c.args.credits.now _ c.from_residual-in_err-check_costs.result
          (by_cost f _ none (sym (columns_cost f rows c.credit_resources.new.amounts.wide done.credited (resources_kept_few f w)) ∙ dear)) (p.1 ∙ ap Err p.2);
      adds_up = credits_add_up f w;
      lawful = day_lawful f w;
      costs_within = MatchResult-from_err _ _ _ c.from_residual-in_err-check_costs.ensures.0 (λ _. tt);
    }

pub returns : goal.returns
returns c =
    let f = c.args.day.now.file.now in
    let w = day_formed c.args.day.now in
    let rows = c.credit_resources.new.amounts.rows in
    let done = c.in_ok-credit_resources.ensures in
    let none = refused_none _ (sym c.credit_resources.ensures.answer ∙ c.in_ok-credit_resources.was) in
    let fits = sym (columns_cost f rows c.credit_resources.new.amounts.wide done.credited (resources_kept_few f w)) ∙ refused_none _ (sym c.check_costs.ensures ∙ c.in_ok-check_costs.was) in
    record {
      outcome = day_credited f c.args.credits.now _ (by_cost f None none fits) (credits_same f rows c.credit_resources.new.amounts.wide done.credited _ _ c.participant_count.ensures c.numbers.ensures);
      adds_up = credits_add_up f w;
      lawful = day_lawful f w;
      costs_within = none_dear (pool_cost f) 21 fits;
    }
