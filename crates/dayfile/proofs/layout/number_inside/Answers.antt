use Rattle.std.proofs.Common.{sym, ap, ◌∙◌}
use Rattle.dayfile.specs.Bytes.{value}
use Rattle.dayfile.proofs.Numbers.{value_one}
use Rattle.dayfile.proofs.layout.number_inside.Goals as goal

pub returns-then-this-eq1 : goal.returns-then-this-eq1
returns-then-this-eq1 g c = c.from.ensures ∙ sym (value_one c.args.at c.args.block.now) ∙ ap (λ w. value c.args.at w c.args.block.now) (sym c.if-this-eq1.true)
