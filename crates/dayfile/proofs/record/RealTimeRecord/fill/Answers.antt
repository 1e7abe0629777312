use Rattle.std.proofs.Common.{set, ap, rules}
use Rattle.dayfile.proofs.Fills.{real_time_filled}
use Rattle.dayfile.proofs.record.RealTimeRecord.fill.Goals as goal

pub returns-clause-bytes : goal.returns-clause-bytes
returns-clause-bytes c =
    real_time_filled c.args.self.now c.args.block.now _ c.write.new.block c.write-2.new.block c.write_parts.new.block c.write_parts-2.new.block c.write_parts-3.new.block
    (search rules) (search rules) (search rules) c.requires (ap (λ n. set c.args.block.now 0 n) c.letter.ensures)
    c.write.ensures.written c.write-2.ensures.written c.write_parts.ensures.written c.write_parts-2.ensures.written c.write_parts-3.ensures.written
