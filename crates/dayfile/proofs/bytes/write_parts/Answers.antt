use Rattle.std.proofs.Common.{length, ◌∙◌, subst, arith}
use Rattle.std.proofs.ByRecursion.{All-more}
use Rattle.dayfile.proofs.Each.{part_within}
use Rattle.dayfile.proofs.Laid.{laid_next}
use Rattle.dayfile.proofs.bytes.write_parts.Goals as goal

pub loop-i-preserved : goal.loop-i-preserved
loop-i-preserved g c =
    let i = c.loop-i.i in
    let parts = c.args.parts.now in
    let x = c.index-parts-i.result in
    let h = part_within i (length parts) g.T.Part.WIDTH c.loop-i-test.true in
    record {
      left =
          laid_next g.T.Part.bytes g.T.Part.WIDTH g.T.Part.long c.loop-i.block c.write.new.block c.args.at parts i x
          c.loop-i-test.true (omega (arith, h)) c.index-parts-i.is (cc)
          ∙ c.loop-i.invariant.left;
      sound = All-more g.T.Part.fits parts i x c.loop-i-test.true c.loop-i.invariant.sound (subst g.T.Part.fits c.index-parts-i.is c.write.ensures.sound);
    }
