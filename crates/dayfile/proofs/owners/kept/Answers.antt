use Rattle.std.proofs.Common.{◌&&◌, ap, ◌∙◌}
use Rattle.dayfile.specs.Owners.{vacant}
use Rattle.dayfile.proofs.OwnerRules.{kept_by_halves}
use Rattle.dayfile.proofs.owners.kept.Goals as goal

pub returns-then-whole : goal.returns-then-whole
returns-then-whole c =
    let v = vacant c.split_at.result.1.now in
    c.unused.ensures
    ∙ ap (λ t. t && v) c.if-whole.ensures
    ∙ kept_by_halves c.args.limit c.args.count c.min.result c.args.owners.now c.split_at.result.0.now c.split_at.result.1.now c.min.ensures c.split_at.ensures.front c.split_at.ensures.back

pub returns-else-whole : goal.returns-else-whole
returns-else-whole c =
    let v = vacant c.split_at.result.1.now in
    c.if-whole.false
    ∙ ap (λ t. t && v) c.if-whole.ensures
    ∙ kept_by_halves c.args.limit c.args.count c.min.result c.args.owners.now c.split_at.result.0.now c.split_at.result.1.now c.min.ensures c.split_at.ensures.front c.split_at.ensures.back
