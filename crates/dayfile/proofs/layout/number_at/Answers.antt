use Rattle.std.proofs.Common.{sym, ap, ◌∙◌}
use Rattle.dayfile.specs.Bytes.{value}
use Rattle.dayfile.proofs.Numbers.{value_one}
use Rattle.dayfile.proofs.layout.number_at.Goals as goal

pub returns-in-1 : goal.returns-in-1
returns-in-1 c = c.from.ensures ∙ c.byte_at.ensures ∙ sym (value_one c.args.at c.args.block.now) ∙ ap (λ w. value c.args.at w c.args.block.now) (sym c.in-1.is)
