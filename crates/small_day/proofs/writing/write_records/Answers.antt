use Rattle.std.proofs.Common.{length, Err, ap, ◌∙◌, arith}
use Rattle.std.proofs.lemmas.Result.{err_from_is_err_and}
use Rattle.small_day.proofs.Buffers.{stopped, went_on, all_to}
use Rattle.small_day.proofs.writing.write_records.Goals as goal

pub returns-in_err-write_record-clause-all_or_those_before :
    goal.returns-in_err-write_record-clause-all_or_those_before
returns-in_err-write_record-clause-all_or_those_before c =
    let i = c.loop-k.invariant in
    let p = err_from_is_err_and c.from_residual.result c.from_residual.ensures.1 in
    stopped c.args.records.now c.args.out.now c.loop-k.out c.write_record.new.out c.loop-k.k c.loop-k-test.true i.0 i.1 i.2
    c.in_err-write_record.field-0.0 c.write_record.result c.from_residual.result c.in_err-write_record.was (p.1 ∙ ap Err p.2)
    c.write_record.ensures.written_or_untouched

pub loop-k-preserved : goal.loop-k-preserved
loop-k-preserved c =
    let i = c.loop-k.invariant in
    let m = c.write_record.ensures.refused_just_for.written.0 c.in_ok-write_record.was in
    let t = went_on c.args.records.now c.args.out.now c.loop-k.out c.write_record.new.out c.loop-k.k c.loop-k-test.true i.0 i.1 i.2
    c.write_record.result c.in_ok-write_record.was c.write_record.auto.out m.1 c.write_record.ensures.written_or_untouched in
    ((all_to c.args.records.now (length c.args.out.now) c.loop-k.k i.0.0 t.fine, t.written), t.joined, omega (arith, m.1, i.2))
