use Rattle.std.proofs.Common.{◌<◌, ◌^◌, rules, tests, ◌∙◌, arith, sum_by}
use Rattle.std.proofs.lemmas.Iterator.{YieldsList-from_slice, YieldsList-from_map}
use Rattle.std.proofs.lemmas.Iterator.Consumers.{sum_by_from_yields_List, fits_by_from_yields_list}
use Rattle.credits.proofs.Columns.{in_pool, column_sum, column_few}
use Rattle.credits.proofs.table.Table.pool_total.Goals as goal

pub sum-requires-clause-fits : goal.sum-requires-clause-fits
sum-requires-clause-fits c =
    let rows = c.args.self.now.rows in
    let pool = c.args.pool.number in
    let few : sum_by (in_pool pool) rows < 2 ^ 64 = omega (arith, column_sum rows pool c.args.pool.from_one c.args.self.now.wide.rows_long, column_few rows pool c.requires) in
    fits_by_from_yields_list (in_pool pool) rows c.map.result (2 ^ 64)
    (YieldsList-from_map _ (in_pool pool) (YieldsList-from_slice rows cc) c.map.ensures.closure (λ x r q k. search (rules, tests))) few

pub returns : goal.returns
returns c =
    let rows = c.args.self.now.rows in
    let pool = c.args.pool.number in
    sum_by_from_yields_List (in_pool pool) rows c.map.result _ c.sum.ensures.ran
    (YieldsList-from_map _ (in_pool pool) (YieldsList-from_slice rows cc) c.map.ensures.closure (λ x r q k. search (rules, tests)))
    ∙ column_sum rows pool c.args.pool.from_one c.args.self.now.wide.rows_long
