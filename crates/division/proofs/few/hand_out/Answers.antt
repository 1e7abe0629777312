use Rattle.std.proofs.Common.{◌+◌, ◌<◌, ◌≤◌, length, get_or, sym, arith, rules}
use Rattle.std.proofs.lemmas.List.{get_or-map}
use Rattle.division.specs.Cuts.{topped}
use Rattle.division.proofs.Cutting.{length_topped, topped_at}
use Rattle.division.proofs.Handing.{handed_none, handed_step, handed_all}
use Rattle.division.proofs.few.hand_out.Goals as goal

pub loop-i-init : goal.loop-i-init
loop-i-init g c = sym (handed_none g.T.Weighted.given c.args.records.now)

pub overflow_add-parts : goal.overflow_add-parts
overflow_add-parts g c =
    let ps = c.args.parts.now in
    let i = c.loop-i.i in
    let l : i < length ps = omega (arith, c.requires.room) in
    let w = get_or-map (λ p. p.whole) ps i (record { whole = 0; key = 0 }) 0 l in
    let s = c.requires.small i l in
    let m : (get_or ps i (record { whole = 0; key = 0 })).whole + c.from.result ≤ 100000000001 = grind (arith, w, s, c.from.ensures) in
    search rules

pub loop-i-preserved : goal.loop-i-preserved
loop-i-preserved g c =
    let ps = c.args.parts.now in
    let b = c.args.bound in
    let i = c.loop-i.i in
    let l : i < length ps = omega (arith, c.requires.room) in
    let long = length_topped b ps in
    handed_step g.T.Weighted.given c.args.records.now c.loop-i.records (topped b ps) i c.index-records-i.result c.take.new.self _
    (omega arith) c.loop-i.invariant c.take.ensures (topped_at b ps i _ c.from.result l c.from.ensures)

pub returns : goal.returns
returns g c =
    let ps = c.args.parts.now in
    let b = c.args.bound in
    handed_all g.T.Weighted.given c.args.records.now c.loop-i.records (topped b ps) c.loop-i.i
    (omega (arith, length_topped b ps, c.requires.room)) c.loop-i.invariant
