use Rattle.std.proofs.Common.{◌≡◌, ◌∙◌, rules}
use Rattle.std.specs.Option.{option_map}
use Rattle.dayfile.specs.Files.{kind}
use Rattle.explanation.proofs.Standing.{kind_right_before}
use Rattle.explanation.proofs.blocks.kind_before.Goals as goal

pub returns : goal.returns
returns c =
    let m : c.map.result ≡ option_map (kind c.args.file.now) c.checked_sub.result = search rules in
    m ∙ kind_right_before c.args.file.now c.args.k c.checked_sub.result c.checked_sub.ensures
