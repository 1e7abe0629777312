use Rattle.std.proofs.Common.{◌≡◌, unwrap_or, ◌∙◌, rules}
use Rattle.std.specs.Option.{option_map}
use Rattle.dayfile.specs.Files.{number_in}
use Rattle.explanation.proofs.Standing.{number_right_before}
use Rattle.explanation.proofs.blocks.number_before.Goals as goal

pub returns : goal.returns
returns c =
    let m : c.map_or.result ≡ unwrap_or (option_map (number_in c.args.file.now) c.checked_sub.result) 0 = search rules in
    m ∙ number_right_before c.args.file.now c.args.k c.checked_sub.result c.checked_sub.ensures
