use Rattle.std.proofs.Common.{◌≡◌, ◌++◌, sym, ap, ◌∙◌, subst}
use Rattle.dayfile.specs.Bytes.{zeros}
use Rattle.dayfile.specs.Records.{body}
use Rattle.dayfile.specs.Writing.{Fitting}
use Rattle.dayfile.proofs.Encodings.{composed}
use Rattle.dayfile.proofs.write.compose.Goals as goal
use Rattle.dayfile.proofs.write.compose.Goals.{in-Day, in-Participant, in-Resource, in-RealTime}

pub returns : goal.returns
returns c =
    let fits : Fitting c.args.rec.now =
    elim c.match-rec.branch [
      | in-Day w ↦ subst Fitting (sym w.in-Day.is) w.fill.ensures.fits
      | in-Participant w ↦ subst Fitting (sym w.in-Participant.is) w.fill-in-Participant.ensures.fits
      | in-Resource w ↦ subst Fitting (sym w.in-Resource.is) w.fill-in-Resource.ensures.fits
      | in-RealTime w ↦ subst Fitting (sym w.in-RealTime.is) w.fill-in-RealTime.ensures.fits
    ] in
    let bytes : c.match-rec.block ≡ body c.args.rec.now ++ zeros 4 =
    elim c.match-rec.branch [
      | in-Day w ↦ w.block-is ∙ w.fill.ensures.bytes ∙ ap (λ r. body r ++ zeros 4) (sym w.in-Day.is)
      | in-Participant w ↦ w.block-is ∙ w.fill-in-Participant.ensures.bytes ∙ ap (λ r. body r ++ zeros 4) (sym w.in-Participant.is)
      | in-Resource w ↦ w.block-is ∙ w.fill-in-Resource.ensures.bytes ∙ ap (λ r. body r ++ zeros 4) (sym w.in-Resource.is)
      | in-RealTime w ↦ w.block-is ∙ w.fill-in-RealTime.ensures.bytes ∙ ap (λ r. body r ++ zeros 4) (sym w.in-RealTime.is)
    ] in
    let k = composed c.args.rec.now c.match-rec.block c.seal.new.block fits bytes c.seal.ensures in
    record { value = k.value; front = k.front; fits = fits }
