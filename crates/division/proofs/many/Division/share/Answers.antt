use Rattle.std.proofs.Common.{◌≡◌, ◌+◌, ◌<◌, map, sum, arith, rules}
use Rattle.std.proofs.lemmas.List.{length-map}
use Rattle.division.specs.Division.{share}
use Rattle.division.proofs.Weights.{share_of, share_within}
use Rattle.division.proofs.many.Division.share.Given as given
use Rattle.division.proofs.many.Division.share.Goals as goal

-- the parts make the share
whole : (g : given.Over) (c : goal.After-from g)
    → c.whole_part.result + c.from.result ≡ share c.args.self.now.cents (map g.T.Weighted.weighs c.args.self.now.records.now) c.args.place
whole g c =
    share_of c.args.self.now.cents (map g.T.Weighted.weighs c.args.self.now.records.now) c.args.place c.whole_part.result c.rank.result c.args.left c.from.result
    c.whole_part.ensures c.rank.ensures c.requires.1 c.from.ensures

pub overflow_add-result : goal.overflow_add-result
overflow_add-result g c =
    let d = c.args.self.now in
    let ws = map g.T.Weighted.weighs d.records.now in
    let some : 0 < sum ws = omega (arith, d.weighed.0, d.weighed.1) in
    let s = share_within d.cents ws c.args.place some (omega (arith, length-map d.records.now g.T.Weighted.weighs, c.requires.0)) in
    let t = whole g c in
    search rules

pub returns : goal.returns
returns g c = whole g c
