use Rattle.std.proofs.Common.{map, sym, arith}
use Rattle.std.proofs.lemmas.List.{length-map}
use Rattle.division.specs.Division.{divided}
use Rattle.division.proofs.FairLaws.{length_divided, nothing_at}
use Rattle.division.proofs.Handing.{handed_none, handed_step, handed_all}
use Rattle.division.proofs.dividing.take_nothing.Goals as goal

pub loop-record-init : goal.loop-record-init
loop-record-init g c = sym (handed_none g.T.Weighted.given c.args.records.now)

pub loop-record-preserved : goal.loop-record-preserved
loop-record-preserved g c =
    let xs = c.args.records.now in
    let ws = map g.T.Weighted.weighs xs in
    let n = length-map xs g.T.Weighted.weighs in
    handed_step g.T.Weighted.given xs c.loop-record.record-items (divided 0 ws) c.loop-record.record-index c.record-item.result c.take.new.self 0
    (omega (arith, length_divided 0 ws)) c.loop-record.invariant c.take.ensures (sym (nothing_at ws c.loop-record.record-index))

pub returns : goal.returns
returns g c =
    let xs = c.args.records.now in
    let ws = map g.T.Weighted.weighs xs in
    handed_all g.T.Weighted.given xs c.loop-record.record-items (divided 0 ws) c.loop-record.record-index
    (omega (arith, length_divided 0 ws, length-map xs g.T.Weighted.weighs)) c.loop-record.invariant
