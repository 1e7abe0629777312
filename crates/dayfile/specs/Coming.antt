-- The blocks of an admitted day that are still to come, as its iterator gives them.
use Rattle.std.specs.Prelude.{◌≡◌, ◌+◌, ◌-◌, ◌<◌, ◌≤◌, List, Option, MatchOption}
use Rattle.dayfile.specs.declared.block.Block.{Block}
use Rattle.dayfile.specs.declared.blocks.Blocks.{Blocks}
use Rattle.dayfile.specs.declared.record.Record.{Record}
use Rattle.dayfile.specs.Records.{record_of}
use Rattle.dayfile.specs.Blocks.{Shows, shown}
use Rattle.dayfile.specs.Files.{block, blocks}
use Rattle.dayfile.specs.Days.{records_from}

-- the records of the blocks that are still to come
abbrev pub left : Blocks → List Record
left s = records_from s.day.file.now s.next (blocks s.day.file.now - s.next)

-- A CALL OF NEXT gave the block at which the iterator stood, and goes to the one behind it; or gave none behind the last, and stays
abbrev pub NextBlock : Blocks → Option Block → Blocks → Type 0
NextBlock s answer t =
    MatchOption answer
    ((blocks s.day.file.now ≤ s.next) × (t ≡ s))
    (λ b. (s.next < blocks s.day.file.now) × Shows (block s.day.file.now s.next) b × (shown b ≡ record_of (block s.day.file.now s.next)) × (t.day ≡ s.day) × (t.next ≡ s.next + 1))
