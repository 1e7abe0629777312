use Rattle.std.proofs.Common.{◌≡◌, map, sum, arith, rules}
use Rattle.division.proofs.Weights.{weights_light}
use Rattle.division.proofs.few.weight_of_few.Goals as goal

pub returns-clause-small : goal.returns-clause-small
returns-clause-small g c =
    let xs = c.args.records.now in
    let value : c.sum.result ≡ sum (map g.T.Weighted.weighs xs) = search rules in
    omega (arith, value, weights_light g.T.Weighted.weighs g.T.Weighted.lawful.light xs, c.requires)
