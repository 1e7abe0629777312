use Rattle.std.proofs.Common.{◌≡◌, ℕ, ◌*◌, ◌++◌, length, take, drop, sym, refl, ap, ◌∙◌, arith}
use Rattle.std.proofs.lemmas.List.{take_all}
use Rattle.dayfile.specs.declared.day.AdmittedDay.{AdmittedDay}
use Rattle.dayfile.specs.Files.{blocks}
use Rattle.dayfile.proofs.Turns.{turn}
use Rattle.dayfile.proofs.FileLaws.{passed, accepted_none, records_again}
use Rattle.dayfile.proofs.DayWrites.{day_refused, day_written, turned}
use Rattle.dayfile.proofs.admitted.write_day.Goals as goal

pub returns-then-out-day : goal.returns-then-out-day
returns-then-out-day c =
    let f = c.args.day.now.file.now in
    record {
      written_or_untouched = day_refused f c.args.out.now c.if-out-day.true;
      file_again = refl;
      records_are_the_file = records_again f c.args.day.now.bytes (passed f (accepted_none f c.args.day.now.kept));
    }

pub returns-in_err-write_record : goal.returns-in_err-write_record
returns-in_err-write_record c =
    let f = c.args.day.now.file.now in
    let p = passed f (accepted_none f c.args.day.now.kept) in
    let t = turn c.args.day.now c.loop-k.block-iterator c.next.new.self c.in-Some.block c.loop-k.k c.loop-k.invariant.3 c.loop-k.invariant.4 c.in-Some.ensures.steps in
    let w = turned f c.args.out.now c.loop-k.out c.write_record.new.out c.loop-k.k c.record.result c.write_record.result c.args.day.now.bytes p t.within
    c.if-out-day.false c.loop-k.invariant.2 (c.record.ensures ∙ t.says) c.write_record.ensures.written_or_untouched in
    let q = sym w.fine ∙ c.in_err-write_record.was in
    let z : ◌≡◌ {A = ℕ} 0 1 = cc in absurd (omega arith)

pub loop-k-preserved : goal.loop-k-preserved
loop-k-preserved c =
    let f = c.args.day.now.file.now in
    let p = passed f (accepted_none f c.args.day.now.kept) in
    let t = turn c.args.day.now c.loop-k.block-iterator c.next.new.self c.in-Some.block c.loop-k.k c.loop-k.invariant.3 c.loop-k.invariant.4 c.in-Some.ensures.steps in
    let w = turned f c.args.out.now c.loop-k.out c.write_record.new.out c.loop-k.k c.record.result c.write_record.result c.args.day.now.bytes p t.within
    c.if-out-day.false c.loop-k.invariant.2 (c.record.ensures ∙ t.says) c.write_record.ensures.written_or_untouched in
    (tt, tt, w.front, t.same, t.next, omega (arith, t.within))

pub returns : goal.returns
returns c =
    let f = c.args.day.now.file.now in
    let p = passed f (accepted_none f c.args.day.now.kept) in
    let fd = ap (λ (x : AdmittedDay). blocks x.file.now) c.loop-k.invariant.3 in
    let n : 512 * c.loop-k.k ≡ length c.args.day.now.file.now = omega (arith, p.whole, c.loop-k.invariant.4, c.loop-k.invariant.5, fd, c.in-None.ensures.steps.0) in
    let e = c.loop-k.invariant.2 ∙ ap (λ i. take i f ++ drop i c.args.out.now) n in
    record {
      written_or_untouched = day_written f c.args.out.now c.loop-k.out c.args.day.now.bytes p c.if-out-day.false e;
      file_again = e ∙ ap (λ x. x ++ drop (length f) c.args.out.now) (take_all (length f) f (omega arith));
      records_are_the_file = records_again f c.args.day.now.bytes p;
    }
