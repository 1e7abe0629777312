use Rattle.std.proofs.Common.{◌≡◌, ◌<◌, length, map, sum, sym, ap, ◌∙◌, arith}
use Rattle.std.proofs.lemmas.List.{length-map}
use Rattle.division.specs.Division.{left_over}
use Rattle.division.specs.Cuts.{noted, topped, keys, reached}
use Rattle.division.proofs.Parts.{whole_within, left_few}
use Rattle.division.proofs.Cutting.{length_noted, length_keys, whole_noted, noted_distinct, noted_below, topped_divided}
use Rattle.division.proofs.Outcomes.{some_divides, shares_taken}
use Rattle.division.proofs.few.divide_few.Goals as goal

pub cut_off-requires-clause-different : goal.cut_off-requires-clause-different
cut_off-requires-clause-different g c =
    let ws = map g.T.Weighted.weighs c.args.records.now in
    let n = length-map c.args.records.now g.T.Weighted.weighs in
    rw c.note_parts-left.ensures.parts (noted_distinct c.args.cents ws (omega (arith, n, c.requires)))

pub cut_off-requires-clause-below : goal.cut_off-requires-clause-below
cut_off-requires-clause-below g c =
    let ws = map g.T.Weighted.weighs c.args.records.now in
    let some : 0 < sum ws = omega (arith, c.weight_of_few-total.ensures.value, c.if-total-eq0.false) in
    let n = length-map c.args.records.now g.T.Weighted.weighs in
    rw (c.note_parts-left.ensures.parts, c.weight_of_few-total.ensures.value) (noted_below c.args.cents ws (omega (arith, n, c.requires)) some)

pub cut_off-requires-clause-few : goal.cut_off-requires-clause-few
cut_off-requires-clause-few g c =
    let ws = map g.T.Weighted.weighs c.args.records.now in
    let some : 0 < sum ws = omega (arith, c.weight_of_few-total.ensures.value, c.if-total-eq0.false) in
    let long = ap (λ ps. length (keys ps)) c.note_parts-left.ensures.parts ∙ length_keys c.args.cents ws in
    omega (arith, long, c.note_parts-left.ensures.left, left_few c.args.cents ws some)

pub hand_out-requires-clause-small : goal.hand_out-requires-clause-small
hand_out-requires-clause-small g c =
    let ws = map g.T.Weighted.weighs c.args.records.now in
    let some : 0 < sum ws = omega (arith, c.weight_of_few-total.ensures.value, c.if-total-eq0.false) in
    let cents = c.args.cents in
    rw c.note_parts-left.ensures.parts
    (λ i l.
    let l' = length_noted cents ws in
    omega (arith, whole_noted cents ws i (omega arith), whole_within cents ws i some (omega arith), c.requires))

pub returns-clause-after : goal.returns-clause-after
returns-clause-after g c =
    let xs = c.args.records.now in
    let weighs = g.T.Weighted.weighs in
    let ws = map weighs xs in
    let some : 0 < sum ws = omega (arith, c.weight_of_few-total.ensures.value, c.if-total-eq0.false) in
    let cents = c.args.cents in
    let bound = c.cut_off.result in
    let noted' = c.note_parts-left.ensures.parts in
    let cut : reached bound (keys (noted cents ws)) ≡ left_over cents ws =
    ap (λ ps. reached bound (keys ps)) (sym noted') ∙ c.cut_off.ensures ∙ c.note_parts-left.ensures.left in
    let n = length-map xs weighs in
    let taken = shares_taken weighs g.T.Weighted.given cents xs c.hand_out.new.records (topped bound c.note_parts-left.new.parts) (some_divides cents ws some) c.hand_out.ensures
    (ap (topped bound) noted' ∙ topped_divided cents bound ws (omega (arith, n, c.requires)) cut) in
    taken.1
