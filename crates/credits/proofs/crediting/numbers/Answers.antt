use Rattle.std.proofs.Common.{get_or, rules}
use Rattle.credits.specs.Crediting.{participants_of}
use Rattle.credits.proofs.Made.{made}
use Rattle.credits.proofs.crediting.numbers.Goals as goal

pub returns : goal.returns
returns c =
    made _ (λ i. get_or (participants_of c.args.day.now.file.now) i 0) _ (λ i y q k. search rules) 0 c.from_fn.result 48 c.from_fn.ensures.items
