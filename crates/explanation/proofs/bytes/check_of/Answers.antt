use Rattle.std.proofs.Common.{◌≡◌, ℕ, ◌+◌, ◌*◌, ◌<◌, ◌≤◌, length, take, ap, mul-le-mul, arith, rules}
use Rattle.std.proofs.lemmas.Grind.{common_steps}
use Rattle.std.proofs.lemmas.List.{take_all, at_drop_all}
use Rattle.dayfile.specs.Bytes.{weighed}
use Rattle.explanation.proofs.Sums.{weighed_more}
use Rattle.explanation.proofs.bytes.check_of.Goals as goal

small : (i n b : ℕ) → i < n → n ≤ 508 → b < 256 → (i + 1) * b ≤ 508 * 255
small i n b h l f = let k : i + 1 ≤ 508 = omega arith in let m : b ≤ 255 = omega arith in mul-le-mul k m

pub overflow_add-sum-in-loop-i : goal.overflow_add-sum-in-loop-i
overflow_add-sum-in-loop-i c =
    let l : length c.unwrap_or-judged.result.now ≤ 508 = grind (arith, common_steps) in
    let f = (c.type_inv.judged c.loop-i.i).fits in
    let s = small c.loop-i.i (length c.unwrap_or-judged.result.now) c.from.result c.loop-i-test.true l (omega arith) in
    let k : c.loop-i.i < 508 = omega arith in
    search rules

pub loop-i-preserved : goal.loop-i-preserved
loop-i-preserved c =
    let l : length c.unwrap_or-judged.result.now ≤ 508 = grind (arith, common_steps) in
    let f = (c.type_inv.judged c.loop-i.i).fits in
    let s = small c.loop-i.i (length c.unwrap_or-judged.result.now) c.from.result c.loop-i-test.true l (omega arith) in
    let e = weighed_more c.unwrap_or-judged.result.now c.loop-i.i c.loop-i-test.true in
    let p = ap (λ b. (c.loop-i.i + 1) * b) c.from.ensures in
    (omega (arith, e, p), omega (arith, s))

pub returns : goal.returns
unfolding weighed
returns c =
    let e = at_drop_all (weighed c.loop-i.i) c.unwrap_or-judged.result.now c.loop-i.i c.loop-i-test.false in
    let t = take_all 508 c.args.block.now in
    let s : c.unwrap_or-judged.result.now ≡ take 508 c.args.block.now = grind (arith, common_steps, t) in
    let w = ap (weighed 0) s in
    omega (arith, e, w)
