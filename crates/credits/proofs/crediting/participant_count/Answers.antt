use Rattle.std.proofs.Common.{◌∙◌}
use Rattle.credits.proofs.Days.{day_formed, header_tells}
use Rattle.credits.proofs.crediting.participant_count.Goals as goal

pub returns : goal.returns
returns c = c.from.ensures ∙ header_tells c.args.day.now.file.now (day_formed c.args.day.now) c.header.result c.header.ensures.first_record
