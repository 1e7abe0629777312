use Rattle.std.proofs.Common.{ℕ, ◌+◌, ◌*◌, ◌^◌, ◌<◌, List, length, get_or, take, sum, ap, ◌∙◌, arith, rules}
use Rattle.std.proofs.lemmas.List.{take_all}
use Rattle.std.proofs.lemmas.List.Sums.{sum_by_more, sum_by-take-le}
use Rattle.dayfile.specs.Bytes.{weighed}
use Rattle.dayfile.proofs.Columns.{weighed_none, weighed_more, weighed_take_le}
use Rattle.dayfile.proofs.layout.columns_sum.Goals as goal

pub loop-k-init : goal.loop-k-init
loop-k-init c = let z = weighed_none 0 in omega (arith, z)

-- the sum with column k
upto : (once often : List ℕ) (k : ℕ) → k < length once → k < length often → weighed 0 once + 16 * sum often < 2 ^ 32
    → weighed 0 (take k once) + 16 * sum (take k often) + ((k + 1) * get_or once k 0 + 16 * get_or often k 0) < 2 ^ 32
upto once often k h l f =
    omega (arith, weighed_more once k h, weighed_take_le once (k + 1), sum_by_more (λ x. x) often k 0 l, sum_by-take-le (λ x. x) often (k + 1))

pub overflow_mul-total : goal.overflow_mul-total
overflow_mul-total c = let u = upto c.args.once.now c.args.often.now c.loop-k.k (omega arith) (omega arith) c.requires in search rules

pub overflow_mul-total-in-loop-k : goal.overflow_mul-total-in-loop-k
overflow_mul-total-in-loop-k c = let u = upto c.args.once.now c.args.often.now c.loop-k.k (omega arith) (omega arith) c.requires in search rules

pub overflow_add-total-in-loop-k : goal.overflow_add-total-in-loop-k
overflow_add-total-in-loop-k c = let u = upto c.args.once.now c.args.often.now c.loop-k.k (omega arith) (omega arith) c.requires in search rules

pub overflow_add-total-in-loop-k-2 : goal.overflow_add-total-in-loop-k-2
overflow_add-total-in-loop-k-2 c = let u = upto c.args.once.now c.args.often.now c.loop-k.k (omega arith) (omega arith) c.requires in search rules

pub loop-k-preserved : goal.loop-k-preserved
loop-k-preserved c =
    omega (arith, weighed_more c.args.once.now c.loop-k.k (omega arith), sum_by_more (λ x. x) c.args.often.now c.loop-k.k 0 (omega arith))

pub returns : goal.returns
returns c =
    c.loop-k.invariant
    ∙ ap (λ t. weighed 0 t + 16 * sum (take c.loop-k.k c.args.often.now)) (take_all c.loop-k.k c.args.once.now (omega arith))
    ∙ ap (λ t. weighed 0 c.args.once.now + 16 * sum t) (take_all c.loop-k.k c.args.often.now (omega arith))
