-- What an explanation finds, refusal by refusal.
use Rattle.std.specs.Prelude.{ℕ, cond, not, ◌&&◌, List, length, take, Some, None, Option, ◌==◌, slice_index}
use Rattle.std.specs.Int.{w32}
use Rattle.std.proofs.Common.{to_z}
use Rattle.std.specs.Option.{unwrap_or}
use Rattle.dayfile.specs.declared.fault.Fault.{Fault}
use Rattle.dayfile.specs.declared.fault.Fault.TheVariants.{Length, Check, Order, Field, Rising, Owners, Counts, Event, PoolCost, TariffPlaces, PoolWeight, PostingRows, OtherSheet, PostingClosed, Held, NoRow, WithdrawingRows, WithdrawingClosed, NotHeld, ClosingDate, RecordField, RecordOwners, Room, NoResource, GridEvent}
use Rattle.dayfile.specs.Bytes.{value, weighed}
use Rattle.dayfile.specs.Files.{block, blocks, kind, number_in, kind_before, number_before, tally, latest}
use Rattle.dayfile.specs.Records.{resource_of}
use Rattle.explanation.specs.declared.finding.Finding.{Finding}
use Rattle.explanation.specs.declared.finding.Finding.TheVariants.{Kind, Price, Unnamed, NumberOfResource, Other}
use Rattle.explanation.specs.declared.finding.Finding.TheVariants.{Length as Bytes, Check as Sums, Field as Limits, Rising as Last, Owners as Rule, Counts as CountBoth}
use Rattle.explanation.specs.declared.finding.NamedField.{NamedField}
use Rattle.explanation.specs.declared.finding.FieldName.{FieldName}
use Rattle.explanation.specs.declared.finding.FieldName.TheVariants.{Participant, Resource}
use Rattle.explanation.specs.declared.finding.OwnersRule.{OwnersRule}
use Rattle.explanation.specs.declared.table.Content.{Content}
use Rattle.explanation.specs.declared.table.Content.TheVariants.{Whole, Signed}
use Rattle.explanation.specs.declared.table.Content.TheVariants.{Unnamed as NoField}
use Rattle.explanation.specs.declared.table.Row.{Row}
use Rattle.explanation.specs.Names.{rows_for, row_at, named}
use Rattle.explanation.specs.Shares.{owners_rule}

-- the check that a block states, and the sum over its bytes
abbrev pub check_finding : List ℕ → Finding
check_finding b = Sums (value 508 4 b) (weighed 0 (take 508 b))

-- what a field at byte p holds, and what it may hold
abbrev pub told_as : Content → (FieldName → NamedField) → ℕ → ℕ → Finding
told_as NoField place p n = Unnamed p n
told_as (Whole name least most) place p n = Limits (place name) n least most
told_as (Signed name most) place p n = Price (place name) (to_z w32 n) most

abbrev pub told : Row → ℕ → List ℕ → Finding
told r p b = told_as r.content (λ name. named r name p) p (value p r.width b)

abbrev pub by_row : Option Row → ℕ → List ℕ → Finding
by_row (Some r) p b = told r p b
by_row None p b = Other

-- the field of a block that starts at byte p: R also has to bear the number of the block before it
abbrev pub field_finding : ℕ → ℕ → List ℕ → Finding
field_finding before p b =
    cond (slice_index b 0 == 82 && (p == 4 && not (value 4 4 b == before)))
    (NumberOfResource (value 4 4 b) before)
    (by_row (row_at (rows_for (slice_index b 0)) p) p b)

-- the participant or Resource of block k, and the last one before it
abbrev pub rising_finding : ℕ → List ℕ → Finding
rising_finding k f =
    cond (kind f k == 80)
    (Last Participant (number_in f k) (unwrap_or (latest 80 f k) 0))
    (Last Resource (number_in f k) (unwrap_or (latest 71 f k) 0))

-- the rule that the owners of a block break, so many participants having been read
abbrev pub by_rule : Option OwnersRule → Finding
by_rule (Some rule) = Rule rule
by_rule None = Other

abbrev pub owners_finding : ℕ → List ℕ → Finding
owners_finding participants b = by_rule (owners_rule participants (resource_of b).owner_count (resource_of b).owners)

-- the counts that the day's own block says, and those of the blocks
abbrev pub counts_finding : List ℕ → Finding
counts_finding f =
    CountBoth (record { said = slice_index f 10; read = tally 80 f (blocks f) }) (record { said = slice_index f 11; read = tally 71 f (blocks f) })

-- THE FINDING for a refusal of a file
abbrev pub finding : Fault → List ℕ → Finding
finding Length f = Bytes (length f)
finding (Check k) f = check_finding (block f k)
finding (Order k) f = Kind (kind f k) (kind_before f k)
finding (Field k p) f = field_finding (number_before f k) p (block f k)
finding (Rising k) f = rising_finding k f
finding (Owners k) f = owners_finding (tally 80 f k) (block f k)
finding Counts f = counts_finding f
finding (Event k h) f = Other
finding (PoolCost p) f = Other
finding TariffPlaces f = Other
finding (PoolWeight p) f = Other
finding PostingRows f = Other
finding OtherSheet f = Other
finding PostingClosed f = Other
finding (Held r) f = Other
finding NoRow f = Other
finding WithdrawingRows f = Other
finding WithdrawingClosed f = Other
finding NotHeld f = Other
finding ClosingDate f = Other
finding (RecordField p) f = Other
finding RecordOwners f = Other
finding Room f = Other
finding NoResource f = Other
finding GridEvent f = Other
