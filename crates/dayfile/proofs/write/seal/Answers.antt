use Rattle.std.proofs.Common.{rules}
use Rattle.dayfile.proofs.Encodings.{sealed_is}
use Rattle.dayfile.proofs.write.seal.Goals as goal

pub returns : goal.returns
returns c = sealed_is c.args.block.now c.write.new.block c.check_of-check.result (search rules) c.write.ensures.written c.check_of-check.ensures
