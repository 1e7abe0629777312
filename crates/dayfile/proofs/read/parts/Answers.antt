use Rattle.std.proofs.Common.{◌≡◌, get_or, ap, rules}
use Rattle.dayfile.specs.Files.{known}
use Rattle.dayfile.proofs.Cuts.{part_of_rest}
use Rattle.dayfile.proofs.read.parts.Goals as goal

pub returns-in-80 : goal.returns-in-80
returns-in-80 c =
    let b = c.args.block.now in
    let k : get_or c.args.block.now 0 0 ≡ 80 = search rules in
    (ap known k, (k, part_of_rest b 4 0 4, part_of_rest b 4 4 96, part_of_rest b 4 100 8))

pub returns-in-71 : goal.returns-in-71
returns-in-71 c =
    let b = c.args.block.now in
    let k : get_or c.args.block.now 0 0 ≡ 71 = search rules in (
      ap known k,
      (
        k,
        search rules,
        search rules,
        search rules,
        part_of_rest b 4 0 4,
        part_of_rest b 4 4 8,
        part_of_rest b 4 12 96,
        part_of_rest b 4 108 8,
        part_of_rest b 4 116 48,
        part_of_rest b 4 164 96,
        part_of_rest b 4 260 96,
        part_of_rest b 4 356 24,
      ),
    )

pub returns-in-82 : goal.returns-in-82
returns-in-82 c =
    let b = c.args.block.now in
    let k : get_or c.args.block.now 0 0 ≡ 82 = search rules in
    (ap known k, (k, part_of_rest b 4 0 4, part_of_rest b 4 4 4, part_of_rest b 4 8 288, part_of_rest b 4 296 24, part_of_rest b 4 320 24))
