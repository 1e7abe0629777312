use Rattle.std.proofs.Common.{sym, ◌∙◌, arith}
use Rattle.division.specs.Cuts.{keys}
use Rattle.division.proofs.Cutting.{reached_none, reached_every, room_between}
use Rattle.division.proofs.few.cut_off.Goals as goal

pub returns-then-left-eq0 : goal.returns-then-left-eq0
returns-then-left-eq0 c = reached_none c.args.above (keys c.args.parts.now) c.requires.below ∙ sym c.if-left-eq0.true

pub loop-left-init : goal.loop-left-init
loop-left-init c = (
  omega (arith, reached_every (keys c.args.parts.now), c.requires.few),
  omega (arith, reached_none c.args.above (keys c.args.parts.now) c.requires.below),
  omega arith,
  omega arith,
)

pub loop-left-smaller-then-count-left-2 : goal.loop-left-smaller-then-count-left-2
loop-left-smaller-then-count-left-2 c =
    let r = room_between (keys c.args.parts.now) c.args.left c.loop-left.low c.loop-left.high c.requires.different c.loop-left.invariant.0 c.loop-left.invariant.1 in
    omega arith

pub loop-left-smaller : goal.loop-left-smaller
loop-left-smaller c =
    let r = room_between (keys c.args.parts.now) c.args.left c.loop-left.low c.loop-left.high c.requires.different c.loop-left.invariant.0 c.loop-left.invariant.1 in
    omega arith
