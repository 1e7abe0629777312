use Rattle.std.proofs.Common.{◌≡◌, sym, ap, ◌∙◌, arith}
use Rattle.dayfile.specs.Bytes.{value}
use Rattle.dayfile.proofs.Numbers.{value_one}
use Rattle.explanation.proofs.bytes.number_at.Goals as goal

pub returns-in-1 : goal.returns-in-1
returns-in-1 c =
    c.from.ensures ∙ c.byte_at.ensures ∙ sym (value_one c.args.at c.args.bytes.now) ∙ ap (λ w. value c.args.at w c.args.bytes.now) (sym c.in-1.is)

pub returns-in_default : goal.returns-in_default
returns-in_default c =
    let four : c.args.width ≡ 4 = omega arith in
    c.word_at.ensures ∙ ap (λ w. value c.args.at w c.args.bytes.now) (sym four)
