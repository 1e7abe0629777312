use Rattle.std.proofs.Common.{ℕ, ◌&&◌, ◌||◌, Bool, eqb, ltb, map, length, sym, ap, ◌∙◌, arith, rules, tests}
use Rattle.std.specs.List.{range_with_len, count_by}
use Rattle.std.proofs.lemmas.Iterator.{YieldsList-from_range}
use Rattle.std.proofs.lemmas.Iterator.Consumers.{YieldsList-from_filter, count_from_yields_List}
use Rattle.std.proofs.lemmas.List.{length-map}
use Rattle.std.proofs.lemmas.List.Sums.{length-filter}
use Rattle.division.specs.Division.{remainder, rank}
use Rattle.division.proofs.many.Division.rank.Goals as goal

pub returns : goal.returns
unfolding rank
returns g c =
    let xs = c.args.self.now.records.now in
    let ws = map g.T.Weighted.weighs xs in
    let i = c.args.place in
    let n = length xs in
    let before : ℕ → ℕ → Bool = λ own j. ltb own (remainder c.args.self.now.cents ws j) || (eqb own (remainder c.args.self.now.cents ws j) && ltb j i) in
    let own = c.remainder-own.result in
    let counted = count_from_yields_List c.filter.result c.count.result c.count.ensures.ran
    (YieldsList-from_filter _ (before own) (YieldsList-from_range 0 n n c.filter.ensures.source (omega arith)) c.filter.ensures.closure
    (λ x b q k. search (rules, tests))) in
    counted ∙ length-filter (before own) (range_with_len 0 n)
    ∙ ap (λ o. count_by (before o) (range_with_len 0 n)) c.remainder-own.ensures
    ∙ ap (λ m. count_by (before (remainder c.args.self.now.cents ws i)) (range_with_len 0 m)) (sym (length-map xs g.T.Weighted.weighs))
