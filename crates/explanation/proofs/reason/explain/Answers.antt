use Rattle.std.proofs.Common.{sym, ap, ◌∙◌, subst}
use Rattle.explanation.specs.Findings.{finding}
use Rattle.explanation.specs.Outside.{Outside}
use Rattle.explanation.proofs.Outsides.{outside}
use Rattle.explanation.proofs.reason.explain.Goals as goal

pub returns : goal.returns
returns c =
    let f = c.args.file.now in
    record {
      found_in_the_bytes = c.find.ensures;
      broken_rule_is_told = λ l e b. subst Outside (sym (c.find.ensures ∙ ap (λ x. finding x f) e)) (outside f l b);
    }
