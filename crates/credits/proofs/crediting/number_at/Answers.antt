use Rattle.std.proofs.Common.{◌<◌, length, arith, rules}
use Rattle.credits.specs.Crediting.{participants_of}
use Rattle.credits.proofs.Days.{day_formed, number_is}
use Rattle.credits.proofs.crediting.number_at.Goals as goal

pub returns-in-Some-Participant : goal.returns-in-Some-Participant
returns-in-Some-Participant c =
    let l : c.args.place < length (participants_of c.args.day.now.file.now) = omega (arith, c.participant_count.ensures, c.if-place-participant_count.false) in
    let n = number_is c.args.day.now.file.now (day_formed c.args.day.now) c.args.place l c.record.result c.record.ensures in search rules

pub returns-in_default : goal.returns-in_default
returns-in_default c =
    let l : c.args.place < length (participants_of c.args.day.now.file.now) = omega (arith, c.participant_count.ensures, c.if-place-participant_count.false) in
    let n = number_is c.args.day.now.file.now (day_formed c.args.day.now) c.args.place l c.record.result c.record.ensures in search rules

pub returns-in_default-2 : goal.returns-in_default-2
returns-in_default-2 c =
    let l : c.args.place < length (participants_of c.args.day.now.file.now) = omega (arith, c.participant_count.ensures, c.if-place-participant_count.false) in
    let n = number_is c.args.day.now.file.now (day_formed c.args.day.now) c.args.place l c.record.result c.record.ensures in search rules
