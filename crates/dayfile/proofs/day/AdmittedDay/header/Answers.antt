use Rattle.std.proofs.Common.{Some, sym, ap, ◌∙◌, arith}
use Rattle.dayfile.specs.Records.{day_from, part}
use Rattle.dayfile.specs.declared.record.Record.TheVariants.{Day}
use Rattle.dayfile.proofs.FileLaws.{accepted_none, passed, some_block, first_record}
use Rattle.dayfile.proofs.day.AdmittedDay.header.Goals as goal

pub block_at-requires : goal.block_at-requires
block_at-requires c =
    let f = c.args.self.now.file.now in
    omega (arith, some_block f (passed f (accepted_none f c.args.self.now.kept)))

pub returns : goal.returns
returns c =
    let f = c.args.self.now.file.now in
    let v = c.read_day.ensures ∙ ap (λ b. day_from (part 4 8 b)) c.block_at.ensures in
    record { value = v; first_record = first_record f (passed f (accepted_none f c.args.self.now.kept)) ∙ ap (λ d. Some (Day d)) (sym v) }
