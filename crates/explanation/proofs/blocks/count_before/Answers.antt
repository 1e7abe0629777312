use Rattle.std.proofs.Common.{sym, ap, ◌∙◌, length, filter, arith, rules}
use Rattle.dayfile.specs.Kinds.{letter}
use Rattle.explanation.proofs.Chunks.{letter_above, chunks_of, begins, tally_of}
use Rattle.explanation.proofs.blocks.count_before.Goals as goal

pub returns : goal.returns
returns c =
    let p = c.count.ensures.runs in
    let q = c.filter.ensures.runs p.0 p.0.seen p.1 in
    let t = c.take.ensures.runs q.0 q.0.seen q.1 in
    let r = t.1 in
    let s = ap (λ x. x.size) r.1 ∙ c.chunks.ensures.size in
    let u = ap (λ x. x.rest.now) r.1 ∙ c.chunks.ensures.rest in
    let w = chunks_of r.0 r.0.from.size r.0.from.rest.now c.args.file.now s u (c.chunks.ensures.runs r.0 r.0.seen (omega (arith, s))) in
    let e = q.2.4 (begins (letter c.args.kind)) (λ x b f' k. (search rules, search rules)) in
    p.3 ∙ p.0.long ∙ ap length e ∙ ap (λ xs. length (filter (begins (letter c.args.kind)) xs)) (sym r.2.0.1)
    ∙ tally_of r.0 c.args.file.now (letter c.args.kind) c.args.k c.args.file (letter_above c.args.kind) w (omega (arith, t.0, r.2.0.0)) (λ l. r.2.1 (q.2.0 ∙ p.2) (omega (arith, l, r.2.0.0)))
