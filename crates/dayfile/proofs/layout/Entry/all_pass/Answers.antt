use Rattle.std.proofs.Common.{◌+◌, ◌*◌, not, sym, refl, ap, ◌∙◌}
use Rattle.dayfile.specs.Bytes.{value}
use Rattle.dayfile.proofs.Tables.{fields_none, fields_more}
use Rattle.dayfile.proofs.layout.Entry.all_pass.Goals as goal

pub loop-i-init : goal.loop-i-init
loop-i-init g c = fields_none c.args.self.now c.args.block.now

pub loop-i-preserved : goal.loop-i-preserved
loop-i-preserved g c =
    let e = c.args.self.now in
    let b = c.args.block.now in
    let n = c.number_inside.result in
    let at = e.start + c.loop-i.i * e.stride in
    let got = c.number_inside.ensures ∙ ap (λ w. value at w b) (sym c.requires.width.0) in
    fields_more e c.loop-i.i at n b c.loop-i.bad (not c.passes.result) c.loop-i.invariant refl got
    (ap not (c.requires.says_the_limits n c.passes.result c.number_inside.type_inv c.passes.ensures))
