use Rattle.dayfile.proofs.Digits.{cast, hour_read}
use Rattle.dayfile.proofs.parts.RealTimeHourPart.read.Goals as goal

pub returns : goal.returns
returns c = hour_read c.args.block.now c.args.at _ _ _ c.word_at.ensures c.word_at-2.ensures (cast _ _ _ c.cast_signed.ensures c.word_at-3.type_inv c.word_at-3.ensures)
