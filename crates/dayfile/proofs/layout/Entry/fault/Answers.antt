use Rattle.std.proofs.Common.{◌≡◌, ◌+◌, ◌-◌, ◌*◌, true, false, sym, ap, ◌∙◌, arith}
use Rattle.dayfile.specs.Bytes.{value}
use Rattle.dayfile.specs.Layout.{allows, fault_from}
use Rattle.dayfile.proofs.Each.{add_one_mul}
use Rattle.dayfile.proofs.Tables.{from_good, from_bad, from_end}
use Rattle.dayfile.proofs.layout.Entry.fault.Goals as goal

pub returns-then-not-allow : goal.returns-then-not-allow
returns-then-not-allow c =
    let e = c.args.self.now in
    let at = e.start + c.loop-i.i * e.stride in
    let f : allows c.args.self.now.limits (value (c.args.self.now.start + c.loop-i.i * c.args.self.now.stride) c.args.self.now.width c.args.block.now) ≡ false
    = ap (allows e.limits) (sym c.number_at.ensures) ∙ sym c.allow.ensures ∙ c.if-not-allow.true in
    sym (from_bad e e.count c.loop-i.i at c.args.block.now c.loop-i-test.true f) ∙ c.loop-i.invariant

pub loop-i-preserved : goal.loop-i-preserved
loop-i-preserved c =
    let e = c.args.self.now in
    let i = c.loop-i.i in
    let at = e.start + i * e.stride in
    let f : allows c.args.self.now.limits (value (c.args.self.now.start + c.loop-i.i * c.args.self.now.stride) c.args.self.now.width c.args.block.now) ≡ true
    = ap (allows e.limits) (sym c.number_at.ensures) ∙ sym c.allow.ensures ∙ c.if-not-allow.false in
    let next : c.args.self.now.start + (c.loop-i.i + 1) * c.args.self.now.stride ≡ c.args.self.now.start + c.loop-i.i * c.args.self.now.stride + c.args.self.now.stride
    = omega (arith, add_one_mul c.loop-i.i c.args.self.now.stride) in
    ap (λ p. fault_from e (e.count - (i + 1)) p c.args.block.now) next
    ∙ sym (from_good e e.count i at c.args.block.now c.loop-i-test.true f)
    ∙ c.loop-i.invariant

pub returns : goal.returns
returns c =
    let e = c.args.self.now in
    sym (from_end e (e.count - c.loop-i.i) (e.start + c.loop-i.i * e.stride) c.args.block.now (omega arith)) ∙ c.loop-i.invariant
