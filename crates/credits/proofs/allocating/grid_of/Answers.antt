use Rattle.std.proofs.Common.{ap, rules}
use Rattle.credits.specs.Grids.{cell, by_pool, no_amounts}
use Rattle.credits.proofs.Made.{made}
use Rattle.credits.proofs.allocating.grid_of.Goals as goal

pub returns : goal.returns
returns c =
    ap (λ hours. record { hours = hours })
    (made _ (λ h. by_pool (cell c.args.unit.now h)) _ (λ i y q k. search rules) no_amounts c.from_fn.result 24 c.from_fn.ensures.items)
