use Rattle.dayfile.proofs.FileLaws.{accepted_none}
use Rattle.dayfile.proofs.WellFormedLaws.{accepted_formed, formed}
use Rattle.dayfile.specs.Files.{answer}
use Rattle.std.proofs.Common.{refl, ap}
use Rattle.dayfile.proofs.day.AdmittedDay.file.Goals as goal

pub returns : goal.returns
returns c =
    let d = c.args.self.now in
    let a = ap answer (accepted_none d.file.now d.kept) in
    record { value = refl; accepted = d.kept; well_formed = accepted_formed d.file.now d.bytes a; formed = formed d.file.now d.bytes a }
