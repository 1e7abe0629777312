use Rattle.std.proofs.Common.{◌≡◌, ◌-◌, ◌<◌, [], get_or, None, Some, Ok, sym, ap, ◌∙◌, arith}
use Rattle.std.proofs.lemmas.Result.{err_from_is_err_and}
use Rattle.dayfile.specs.Kinds.{told}
use Rattle.dayfile.specs.Files.{Standing, blocks_fault, block_fault, standing, block, blocks, after}
use Rattle.dayfile.proofs.Chunks.{block_chunk}
use Rattle.dayfile.proofs.Walks.{standing_first, standing_next, block_good, block_bad, blocks_end, behind_bad, behind_good, after_participants, after_resources, answer_ok, answer_err}
use Rattle.dayfile.proofs.file.judge_blocks.Goals as goal

pub loop-k-init : goal.loop-k-init
loop-k-init c =
    let f = c.args.file.now in
    let e : blocks c.args.file.now - 0 ≡ blocks c.args.file.now = omega arith in
    let s = c.nothing-before.ensures in (
      ap (blocks_fault f 0) e,
      s ∙ sym (standing_first f),
      omega (arith, ap (λ (b : Standing). b.participants) s),
      omega (arith, ap (λ (b : Standing). b.resources) s),
    )

pub returns-in_err-judge : goal.returns-in_err-judge
returns-in_err-judge c =
    let f = c.args.file.now in
    let k = c.loop-k.k in
    let l : c.loop-k.k < blocks c.args.file.now = omega (arith, c.as_chunks.ensures.front_len, c.loop-k-test.true) in
    let b = block_chunk f c.as_chunks.result.0.now k c.as_chunks.ensures.front l in
    let x = c.in_err-judge.field-0.0 in
    let a : block_fault (standing c.args.file.now c.loop-k.k) c.loop-k.k (block c.args.file.now c.loop-k.k) ≡ Some c.in_err-judge.field-0.0
    = ap (λ s. block_fault s k (block f k)) (sym c.loop-k.invariant.1) ∙ ap (block_fault (told c.loop-k.before) k) (sym b) ∙ answer_err (block_fault (told c.loop-k.before) k (get_or c.as_chunks.result.0.now k [])) x (sym c.judge.ensures ∙ c.in_err-judge.was) in
    let p = err_from_is_err_and c.from_residual.result c.from_residual.ensures.1 in
    rw (p.1, p.2) (behind_bad f x (sym c.loop-k.invariant.0 ∙ block_bad f k (blocks f) l x a))

pub loop-k-preserved : goal.loop-k-preserved
loop-k-preserved c =
    let f = c.args.file.now in
    let k = c.loop-k.k in
    let l : c.loop-k.k < blocks c.args.file.now = omega (arith, c.as_chunks.ensures.front_len, c.loop-k-test.true) in
    let b = block_chunk f c.as_chunks.result.0.now k c.as_chunks.ensures.front l in
    let a : block_fault (standing c.args.file.now c.loop-k.k) c.loop-k.k (block c.args.file.now c.loop-k.k) ≡ None
    = ap (λ s. block_fault s k (block f k)) (sym c.loop-k.invariant.1) ∙ ap (block_fault (told c.loop-k.before) k) (sym b) ∙ answer_ok (block_fault (told c.loop-k.before) k (get_or c.as_chunks.result.0.now k [])) (sym c.judge.ensures ∙ c.in_ok-judge.was) in
    let n = c.note.ensures in (
      sym (block_good f k (blocks f) l a) ∙ c.loop-k.invariant.0,
      n ∙ ap (after (told c.loop-k.before)) b ∙ ap (λ s. after s (block f k)) c.loop-k.invariant.1 ∙ sym (standing_next f k),
      omega (arith, ap (λ (s : Standing). s.participants) n, after_participants (told c.loop-k.before) (get_or c.as_chunks.result.0.now c.loop-k.k [])),
      omega (arith, ap (λ (s : Standing). s.resources) n, after_resources (told c.loop-k.before) (get_or c.as_chunks.result.0.now c.loop-k.k [])),
    )

pub returns : goal.returns
returns c =
    let f = c.args.file.now in
    let k = c.loop-k.k in
    let e : blocks c.args.file.now ≡ c.loop-k.k = omega (arith, c.as_chunks.ensures.front_len) in
    behind_good f (sym c.loop-k.invariant.0 ∙ blocks_end f k (blocks f - k) (omega (arith, e)))
    ∙ ap Ok (ap (standing f) e ∙ sym c.loop-k.invariant.1)
