use Rattle.std.proofs.Common.{◌≡◌, ◌+◌, ◌-◌, ◌*◌, ap, ◌∙◌, mul-one, arith}
use Rattle.dayfile.proofs.Tables.{sized_ends, unnamed_holds}
use Rattle.dayfile.proofs.layout.Entry.holds.Goals as goal

pub returns-in-Unnamed-default : goal.returns-in-Unnamed-default
returns-in-Unnamed-default c =
    let e = c.args.self.now in
    let ends = sized_ends e c.requires in
    let bytes : e.count * e.stride ≡ e.count = ap (λ k. e.count * k) c.if-self-eq1.true ∙ mul-one e.count in
    unnamed_holds e c.args.block.now (e.start + e.count * e.stride - e.start) c.all_zero.result c.in-Unnamed-default.is-0 c.if-self-eq1.true
    c.requires (omega (arith, bytes)) (omega (arith, bytes, ends)) c.all_zero.ensures
