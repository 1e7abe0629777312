use Rattle.std.proofs.Common.{arith}
use Rattle.dayfile.proofs.Chunks.{block_chunk}
use Rattle.dayfile.proofs.file.block_at.Goals as goal

pub returns : goal.returns
returns c = block_chunk c.args.file.now c.as_chunks.result.0.now c.args.k c.as_chunks.ensures.front (omega arith)
