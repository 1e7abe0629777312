use Rattle.std.proofs.Common.{◌≡◌, ◌-◌, ◌<◌, map, length, sum_by, sum, sym, ap, ◌∙◌, arith, rules}
use Rattle.std.specs.List.{range_with_len}
use Rattle.std.proofs.lemmas.Iterator.{YieldsList-from_range, YieldsList-from_map}
use Rattle.std.proofs.lemmas.Iterator.Consumers.{sum_by_from_yields_List, fits_by_from_yields_list}
use Rattle.std.proofs.lemmas.List.{length-map}
use Rattle.division.specs.Division.{whole_part, left_over}
use Rattle.division.proofs.Weights.{wholes_fit}
use Rattle.division.proofs.many.Division.left_over.Given as given
use Rattle.division.proofs.many.Division.left_over.Goals as goal

pub sum-requires-clause-fits : goal.sum-requires-clause-fits
sum-requires-clause-fits g c =
    let d = c.args.self.now in
    let n = length d.records.now in
    let ws = map g.T.Weighted.weighs d.records.now in
    let h = whole_part d.cents ws in
    let some : 0 < sum ws = omega (arith, d.weighed.0, d.weighed.1) in
    fits_by_from_yields_list h (range_with_len 0 n) c.map.result _
    (YieldsList-from_map _ h (YieldsList-from_range 0 n n c.map.ensures.source (omega arith)) c.map.ensures.closure (λ x r q k. search rules))
    (omega (arith, wholes_fit d.cents ws n (sym (length-map d.records.now g.T.Weighted.weighs)) some))

-- the sum is that of the whole parts
all : (g : given.Over) (c : goal.After-sum g)
    → c.sum.result ≡ sum_by (whole_part c.args.self.now.cents (map g.T.Weighted.weighs c.args.self.now.records.now)) (range_with_len 0 (length c.args.self.now.records.now))
all g c =
    let n = length c.args.self.now.records.now in
    let h = whole_part c.args.self.now.cents (map g.T.Weighted.weighs c.args.self.now.records.now) in
    sum_by_from_yields_List h (range_with_len 0 n) c.map.result c.sum.result c.sum.ensures.ran
    (YieldsList-from_map _ h (YieldsList-from_range 0 n n c.map.ensures.source (omega arith)) c.map.ensures.closure (λ x r q k. search rules))

pub overflow_sub-result : goal.overflow_sub-result
overflow_sub-result g c =
    let d = c.args.self.now in
    let xs = d.records.now in
    let some : 0 < sum (map g.T.Weighted.weighs xs) = omega (arith, d.weighed.0, d.weighed.1) in
    omega (arith, all g c, wholes_fit d.cents (map g.T.Weighted.weighs xs) (length xs) (sym (length-map xs g.T.Weighted.weighs)) some)

pub returns : goal.returns
unfolding left_over
returns g c =
    let d = c.args.self.now in
    let h = whole_part d.cents (map g.T.Weighted.weighs d.records.now) in
    ap (λ x. d.cents - x) (all g c ∙ ap (λ n. sum_by h (range_with_len 0 n)) (sym (length-map d.records.now g.T.Weighted.weighs)))
