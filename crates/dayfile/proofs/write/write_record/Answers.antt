use Rattle.std.proofs.Common.{◌≡◌, ℕ, ◌++◌, length, drop, IfOk, Ok, Err, Result, sym, ap, ◌∙◌, subst, arith}
use Rattle.dayfile.specs.declared.fault.Fault.{Fault}
use Rattle.std.proofs.lemmas.Result.{err_from_is_err_and}
use Rattle.dayfile.specs.Files.{answer}
use Rattle.dayfile.specs.Writing.{unwritten, Writes, WrittenOnly}
use Rattle.dayfile.proofs.Refusals.{written, answer_err, answer_ok, writes_not, writes_so}
use Rattle.dayfile.proofs.Rounds.{reads_back}
use Rattle.dayfile.proofs.WritingLaws.{written_only}
use Rattle.dayfile.proofs.LoneLaws.{written_back}
use Rattle.dayfile.proofs.write.write_record.Goals as goal

refused_back : (P : Unit {0} → Type 0) (a : Result (Unit {0}) Fault) (f : Fault) → a ≡ Err f → IfOk a P
refused_back P (Ok x) f e = let z : ◌≡◌ {A = ℕ} 0 1 = cc in absurd (omega arith)
refused_back P (Err g) f e = tt

pub returns-in_err-refuse : goal.returns-in_err-refuse
returns-in_err-refuse c =
    let r = c.args.rec.now in
    let was = c.args.out.now in
    let f = c.in_err-refuse.field-0.0 in
    let p = err_from_is_err_and c.from_residual.result c.from_residual.ensures.1 in
    let e = answer_err (unwritten r (length was)) f c.in_err-refuse.ensures.value in
    let w = c.compose-block.ensures.fits in
    let v = p.1 ∙ ap Err p.2 in
    record {
      written_or_untouched = subst (λ a. Writes r was a was) (sym v) (writes_not r was f e);
      refused_just_for = subst (WrittenOnly r (length was)) (ap answer e ∙ sym v) (written_only r (length was) w);
      reads_back = refused_back _ c.from_residual.result f v;
      any_record_decodes = reads_back r w;
    }

pub overwrite-requires : goal.overwrite-requires
overwrite-requires c =
    let r = c.args.rec.now in
    let room = length c.args.out.now in
    (written r room (answer_ok (unwritten r room) c.in_ok-refuse.ensures.value)).ample

pub returns : goal.returns
returns c =
    let r = c.args.rec.now in
    let was = c.args.out.now in
    let w = c.compose-block.ensures.fits in
    let e = answer_ok (unwritten r (length was)) c.in_ok-refuse.ensures.value in
    record {
      written_or_untouched = writes_so r was c.overwrite.new.out e (c.overwrite.ensures ∙ ap (λ t. t ++ drop 512 was) c.compose-block.ensures.value);
      refused_just_for = subst (WrittenOnly r (length was)) (ap answer e) (written_only r (length was) w);
      reads_back = written_back r was c.overwrite.new.out w ((written_only r (length was) w).written.0 (ap answer e)).0 (c.overwrite.ensures ∙ ap (λ t. t ++ drop 512 was) c.compose-block.ensures.value);
      any_record_decodes = reads_back r w;
    }
