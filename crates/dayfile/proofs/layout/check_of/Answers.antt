use Rattle.std.proofs.Common.{◌≡◌, ℕ, ◌-◌, ◌*◌, ◌/◌, List, [], ◌∷◌, ◌++◌, length, take, drop, sum, refl, ap, ◌∙◌, subst, arith}
use Rattle.std.proofs.lemmas.Iterator.Adapters.{YieldsList-from_rev_slice}
use Rattle.std.proofs.lemmas.Iterator.Consumers.{YieldsList-turn, YieldsList-end}
use Rattle.std.proofs.lemmas.List.{length-take, length-reverse, length_push}
use Rattle.dayfile.specs.Bytes.{weighed, zeros}
use Rattle.dayfile.proofs.Columns.{Columns, columns_none, columns_room, columns_more, columns_all, row_back, sum_rest_le, weighed_rest_le}
use Rattle.dayfile.proofs.layout.check_of.Goals as goal

-- the twelve bytes behind the 31 whole rows
behind : (bs last : List ℕ) → length bs ≡ 512 → last ≡ drop (length (take 508 bs) / 16 * 16) (take 508 bs) → last ≡ drop 496 (take 508 bs)
behind bs last long is =
    let n = length-take 508 bs in
    let e : length (take 508 bs) / 16 * 16 ≡ 496 = omega (arith, n) in
    is ∙ ap (λ k. drop k (take 508 bs)) e

pub add_row-requires : goal.add_row-requires
add_row-requires c =
    let n = length-take 508 c.args.block.now in
    let s = ap sum (behind c.args.block.now c.as_chunks.result.1.now c.told-block c.as_chunks.ensures.back) in
    let m = sum_rest_le c.args.block.now 496 c.fits-block in
    (omega (arith, n, c.as_chunks.ensures.back_len), (omega (arith, s, m), omega arith))

pub loop-row-init : goal.loop-row-init
unfolding weighed
loop-row-init c =
    columns_none c.add_row.new.once c.add_row.new.often c.as_chunks.result.1.now c.args.block.now (zeros 16) (zeros 16)
    (behind c.args.block.now c.as_chunks.result.1.now c.told-block c.as_chunks.ensures.back) c.add_row.array_long refl refl refl
    c.add_row.ensures.sum c.add_row.ensures.weighed c.add_row.ensures.often

pub add_row-requires-in-loop-row : goal.add_row-requires-in-loop-row
add_row-requires-in-loop-row c =
    let n = length c.loop-row.yielded in
    -- the row that this turn adds
    let t = row_back c.args.block.now c.in-Some.row.now c.as_chunks.result.0.now n c.told-block c.as_chunks.ensures.front c.as_chunks.ensures.front_len
    (YieldsList-turn (YieldsList-from_rev_slice c.as_chunks.result.0.now (cc)) c.loop-row.yielded c.loop-row.row-iterator c.loop-row.yielded_by
    c.next.result c.next.new.self c.in-Some.row c.in-Some.is c.next.ensures.steps) in
    columns_room c.loop-row.once c.loop-row.often c.args.block.now c.in-Some.row.now (30 - n) (31 - n)
    (omega (arith, t.0)) (omega arith) (omega arith) t.1 c.loop-row.invariant c.fits-block

pub loop-row-preserved : goal.loop-row-preserved
loop-row-preserved c =
    let n = length c.loop-row.yielded in
    -- the row that this turn adds
    let t = row_back c.args.block.now c.in-Some.row.now c.as_chunks.result.0.now n c.told-block c.as_chunks.ensures.front c.as_chunks.ensures.front_len
    (YieldsList-turn (YieldsList-from_rev_slice c.as_chunks.result.0.now (cc)) c.loop-row.yielded c.loop-row.row-iterator c.loop-row.yielded_by
    c.next.result c.next.new.self c.in-Some.row c.in-Some.is c.next.ensures.steps) in
    let e : 30 - length c.loop-row.yielded ≡ 31 - length (c.loop-row.yielded ++ c.in-Some.row ∷ []) = omega (arith, length_push c.loop-row.yielded c.in-Some.row) in
    subst (λ r. Columns c.add_row-in-loop-row.new.once c.add_row-in-loop-row.new.often c.args.block.now r) e
    (columns_more c.loop-row.once c.loop-row.often c.args.block.now c.in-Some.row.now (30 - n) (31 - n)
    (omega (arith, t.0)) (omega arith) (omega arith) t.1 c.loop-row.invariant
    c.add_row-in-loop-row.new.once c.add_row-in-loop-row.new.often c.add_row-in-loop-row.array_long
    c.add_row-in-loop-row.ensures.sum c.add_row-in-loop-row.ensures.weighed c.add_row-in-loop-row.ensures.often)

pub columns_sum-requires : goal.columns_sum-requires
columns_sum-requires c =
    omega (arith, c.loop-row.invariant.placed, weighed_rest_le c.args.block.now (16 * (31 - length c.loop-row.yielded)) c.fits-block)

pub returns : goal.returns
returns c =
    let n = length-take 508 c.args.block.now in
    let r = length-reverse c.as_chunks.result.0.now in
    let all = YieldsList-end (YieldsList-from_rev_slice c.as_chunks.result.0.now (cc)) c.loop-row.yielded c.loop-row.row-iterator c.loop-row.yielded_by
    c.next.result c.next.new.self c.in-None.is c.next.ensures.steps in
    let k : length c.as_chunks.result.0.now ≡ 31 = omega (arith, n, c.as_chunks.ensures.front_len) in
    c.columns_sum.ensures ∙ columns_all c.loop-row.once c.loop-row.often c.args.block.now (31 - length c.loop-row.yielded) (omega (arith, all.1, r, k)) c.loop-row.invariant
