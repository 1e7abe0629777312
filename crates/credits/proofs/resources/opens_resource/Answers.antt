use Rattle.std.proofs.Common.{rules}
use Rattle.credits.proofs.Days.{opens_told}
use Rattle.credits.proofs.resources.opens_resource.Goals as goal

pub returns : goal.returns
returns c = opens_told c.args.day.now.file.now c.args.k _ c.is_some_and.result (λ b q. search rules) c.block.result c.block.ensures c.is_some_and.ensures
