use Rattle.std.proofs.Common.{◌≡◌, ◌+◌, ◌*◌, ◌<◌, ◌≢◌, length, get_or, take, sum, refl, ap, ◌∙◌, arith, rules}
use Rattle.std.proofs.lemmas.List.{length-set, get_or-set_other, take_all}
use Rattle.std.proofs.lemmas.List.Sums.{sum_by_more, sum_by-take-le, get_or-le-sum_by}
use Rattle.dayfile.specs.Bytes.{weighed}
use Rattle.dayfile.proofs.Columns.{weighed_none, weighed_add, weighed_more, sum_add}
use Rattle.dayfile.proofs.layout.add_row.Goals as goal

pub loop-k-init : goal.loop-k-init
loop-k-init c =
    let z = weighed_none 0 in
    (c.told-once, c.told-often, λ j h. refl, omega arith, omega (arith, z), omega arith)

pub overflow_add-often : goal.overflow_add-often
overflow_add-often c =
    let same = c.loop-k.invariant.2 c.loop-k.k (omega arith) in
    let here = get_or-le-sum_by (λ x. x) c.loop-k.often c.loop-k.k 0 (omega arith) in
    let step = sum_by_more (λ x. x) c.args.once.now c.loop-k.k 0 (omega arith) in
    let upto = sum_by-take-le (λ x. x) c.args.once.now (c.loop-k.k + 1) in
    search rules

pub overflow_add-once : goal.overflow_add-once
overflow_add-once c =
    let here = get_or-le-sum_by (λ x. x) c.loop-k.once c.loop-k.k 0 (omega arith) in
    let step = sum_by_more (λ x. x) c.args.row.now c.loop-k.k 0 (omega arith) in
    let upto = sum_by-take-le (λ x. x) c.args.row.now (c.loop-k.k + 1) in
    search rules

pub loop-k-preserved : goal.loop-k-preserved
loop-k-preserved c =
    let k = c.loop-k.k in
    let once = c.loop-k.once in
    let often = c.loop-k.often in
    let row = c.args.row.now in
    let b = c.from.result in
    let a = get_or c.loop-k.once c.loop-k.k 0 in
    let inside : c.loop-k.k < length c.loop-k.once = omega arith in
    let inside_often : c.loop-k.k < length c.loop-k.often = omega arith in
    let same = c.loop-k.invariant.2 c.loop-k.k (omega arith) in (
      length-set once k (a + b) ∙ c.loop-k.invariant.0,
      length-set often k (get_or often k 0 + a) ∙ c.loop-k.invariant.1,
      (λ j h. let ne : j ≢ c.loop-k.k = omega arith in get_or-set_other once k j (a + b) 0 ne ∙ c.loop-k.invariant.2 j (omega arith)),
      omega (arith, sum_add once k b inside, sum_by_more (λ x. x) row k 0 c.loop-k-test.true, c.loop-k.invariant.3, c.from.ensures),
      omega (arith, weighed_add 0 once k b inside, weighed_more row k c.loop-k-test.true, ap (λ y. (k + 1) * y) c.from.ensures, c.loop-k.invariant.4),
      omega (arith, sum_add often k a inside_often, sum_by_more (λ x. x) c.args.once.now k 0 (omega arith), c.loop-k.invariant.5, same),
    )

pub returns : goal.returns
returns c =
    let e : c.loop-k.k ≡ length c.args.row.now = omega arith in
    let all : take c.loop-k.k c.args.row.now ≡ c.args.row.now = take_all c.loop-k.k c.args.row.now (omega arith) in
    record {
      sum = c.loop-k.invariant.3 ∙ ap (λ t. sum c.args.once.now + sum t) all;
      weighed = c.loop-k.invariant.4 ∙ ap (λ t. weighed 0 c.args.once.now + weighed 0 t) all;
      often = c.loop-k.invariant.5 ∙ ap (λ n. sum c.args.often.now + sum (take n c.args.once.now)) e;
    }
