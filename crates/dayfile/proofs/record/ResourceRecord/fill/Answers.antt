use Rattle.std.proofs.Common.{set, ap, rules}
use Rattle.dayfile.proofs.Fills.{resource_filled}
use Rattle.dayfile.proofs.record.ResourceRecord.fill.Goals as goal

pub returns-clause-bytes : goal.returns-clause-bytes
returns-clause-bytes c =
    resource_filled c.args.self.now c.args.block.now _
    c.write.new.block c.write-2.new.block c.write-3.new.block c.write-4.new.block c.write-5.new.block c.write-6.new.block
    c.write_parts.new.block c.write-7.new.block c.write-8.new.block c.write-9.new.block
    c.write_parts-2.new.block c.write_parts-3.new.block c.write_parts-4.new.block c.write_parts-5.new.block
    (search rules) (search rules) (search rules) (search rules) (search rules) c.requires (ap (λ n. set c.args.block.now 0 n) c.letter.ensures)
    c.write.ensures.written c.write-2.ensures.written c.write-3.ensures.written
    c.write-4.ensures.written c.write-5.ensures.written c.write-6.ensures.written
    c.write_parts.ensures.written c.write-7.ensures.written c.write-8.ensures.written
    c.write-9.ensures.written c.write_parts-2.ensures.written c.write_parts-3.ensures.written
    c.write_parts-4.ensures.written c.write_parts-5.ensures.written
