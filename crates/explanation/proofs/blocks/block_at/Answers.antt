use Rattle.std.proofs.Common.{◌≡◌, [], ◌*◌, ◌/◌, ◌≤◌, length, drop, sym, ap, ◌∙◌, arith}
use Rattle.std.proofs.lemmas.List.{take_all}
use Rattle.dayfile.proofs.Chunks.{block_chunk}
use Rattle.explanation.proofs.blocks.block_at.Goals as goal

pub returns-in-Some : goal.returns-in-Some
returns-in-Some c =
    let l = c.in-Some.ensures.lookup in
    let h = l.3.0 in
    l.4 (omega arith) [] ∙ block_chunk c.args.file.now c.as_chunks.result.0.now c.args.k c.as_chunks.ensures.front (omega (arith, h, c.as_chunks.ensures.front_len))

pub returns-in-None : goal.returns-in-None
returns-in-None c =
    let e = c.as_chunks.ensures in
    let d : length c.args.file.now / 512 * 512 ≡ 512 * c.args.k = omega (arith, c.if-k-whole.true, e.front_len) in
    let rest = e.back ∙ ap (λ j. drop j c.args.file.now) d in
    let short : length (drop (512 * c.args.k) c.args.file.now) ≤ 512 = omega (arith, ap length rest, e.back_len) in
    rest ∙ sym (take_all 512 (drop (512 * c.args.k) c.args.file.now) short)
