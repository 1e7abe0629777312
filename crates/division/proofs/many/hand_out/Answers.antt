use Rattle.std.proofs.Common.{map, sum, sym, ap, ◌∙◌, arith}
use Rattle.std.proofs.lemmas.List.{length-map}
use Rattle.division.specs.Division.{left_over, divided}
use Rattle.division.proofs.FairLaws.{length_divided}
use Rattle.division.proofs.Handing.{handed_none, handed_step, handed_all}
use Rattle.division.proofs.Weights.{weights_kept, share_kept}
use Rattle.division.proofs.many.hand_out.Goals as goal

pub loop-i-init : goal.loop-i-init
loop-i-init g c = sym (handed_none g.T.Weighted.given c.args.records.now)

pub invariant_of-all-in-loop-i : goal.invariant_of-all-in-loop-i
invariant_of-all-in-loop-i g c =
    let k = weights_kept g.T.Weighted.weighs g.T.Weighted.holds g.T.Weighted.given g.T.Weighted.lawful c.args.records.now c.loop-i.records _ c.loop-i.invariant in
    record { weighed = (c.requires.0 ∙ sym (ap sum k), c.requires.1) }

pub share-share-requires : goal.share-share-requires
share-share-requires g c =
    let k = weights_kept g.T.Weighted.weighs g.T.Weighted.holds g.T.Weighted.given g.T.Weighted.lawful c.args.records.now c.loop-i.records _ c.loop-i.invariant in
    (omega arith, c.left_over-left.ensures ∙ sym (ap (left_over c.args.cents) k))

pub loop-i-preserved : goal.loop-i-preserved
loop-i-preserved g c =
    let xs = c.args.records.now in
    let cents = c.args.cents in
    let ws = map g.T.Weighted.weighs xs in
    let i = c.loop-i.i in
    let n = length-map xs g.T.Weighted.weighs in
    let k = weights_kept g.T.Weighted.weighs g.T.Weighted.holds g.T.Weighted.given g.T.Weighted.lawful xs c.loop-i.records _ c.loop-i.invariant in
    handed_step g.T.Weighted.given xs c.loop-i.records (divided cents ws) i c.index-records-i.result c.take.new.self c.share-share.result
    (omega (arith, length_divided cents ws)) c.loop-i.invariant c.take.ensures
    (share_kept cents ws (map g.T.Weighted.weighs c.loop-i.records) i c.share-share.result k (omega arith) c.share-share.ensures)

pub returns : goal.returns
returns g c =
    let xs = c.args.records.now in
    let ws = map g.T.Weighted.weighs xs in
    handed_all g.T.Weighted.given xs c.loop-i.records (divided c.args.cents ws) c.loop-i.i
    (omega (arith, length_divided c.args.cents ws, length-map xs g.T.Weighted.weighs)) c.loop-i.invariant
