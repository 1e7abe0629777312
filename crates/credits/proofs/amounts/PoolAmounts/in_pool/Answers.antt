use Rattle.std.proofs.Common.{◌≡◌, length, arith, rules}
use Rattle.std.proofs.lemmas.List.{get_or_past}
use Rattle.credits.proofs.amounts.PoolAmounts.in_pool.Goals as goal

pub returns-else-pool-gt0 : goal.returns-else-pool-gt0
returns-else-pool-gt0 c =
    let wide : length c.args.self.now.cents ≡ 21 = search rules in
    grind (arith, get_or_past)
