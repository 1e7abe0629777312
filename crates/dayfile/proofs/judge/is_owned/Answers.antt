use Rattle.std.proofs.Common.{true, eqb, get_or, drop, sym, ap, ◌∙◌, arith}
use Rattle.std.proofs.lemmas.List.{get_or-take, get_or-drop}
use Rattle.std.proofs.lemmas.Bool.{cond-true, eq-eqb}
use Rattle.dayfile.specs.Kinds.{letter}
use Rattle.dayfile.specs.Owners.{owners_kept}
use Rattle.dayfile.specs.Records.{resource_of}
use Rattle.dayfile.proofs.judge.is_owned.Goals as goal

pub returns-in-Some-Resource : goal.returns-in-Some-Resource
returns-in-Some-Resource c =
    let b = c.args.block.now in
    let n = get_or-take 8 (drop 112 b) 1 0 (omega arith) ∙ get_or-drop 112 b 1 0 in
    c.kept.ensures
    ∙ ap (owners_kept c.args.limit c.from.result) c.read_parts.ensures
    ∙ ap (λ k. owners_kept c.args.limit k (resource_of b).owners) (c.from.ensures ∙ sym n)
    ∙ sym (cond-true (eqb (get_or b 0 0) 71) (owners_kept c.args.limit (resource_of b).owner_count (resource_of b).owners) true (eq-eqb (get_or b 0 0) 71 (sym c.in-Some-Resource.ensures ∙ ap letter c.in-Some-Resource.field-0-is)))
