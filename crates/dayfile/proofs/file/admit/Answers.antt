use Rattle.std.proofs.Common.{sym, refl, ◌∙◌, subst}
use Rattle.std.proofs.lemmas.Result.{err_from_is_err_and}
use Rattle.dayfile.specs.Rules.{Ruled}
use Rattle.dayfile.specs.WellFormed.{WellFormedOnly}
use Rattle.dayfile.proofs.RuleLaws.{ruled}
use Rattle.dayfile.proofs.WellFormedLaws.{well_formed_only}
use Rattle.dayfile.proofs.file.admit.Goals as goal

pub returns-in_err-judge_file : goal.returns-in_err-judge_file
returns-in_err-judge_file c =
    let f = c.args.file.now in
    let p = err_from_is_err_and c.from_residual.result c.from_residual.ensures.1 in
    let v = sym c.in_err-judge_file.was ∙ c.judge_file.ensures in
    rw (p.1, p.2) (record { verdict = v; first_broken_rule_told = subst (Ruled f) (sym v) (ruled f); accepted_just_if_well_formed = subst (WellFormedOnly f) (sym v) (well_formed_only f (λ i. (c.type_inv.file i).fits)); place_filled_or_kept = refl })

pub returns : goal.returns
returns c =
    let f = c.args.file.now in
    let v = sym c.in_ok-judge_file.was ∙ c.judge_file.ensures in
    record { verdict = v; first_broken_rule_told = subst (Ruled f) (sym v) (ruled f); accepted_just_if_well_formed = subst (WellFormedOnly f) (sym v) (well_formed_only f (λ i. (c.type_inv.file i).fits)); place_filled_or_kept = refl }
