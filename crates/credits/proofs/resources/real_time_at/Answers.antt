use Rattle.std.proofs.Common.{rules}
use Rattle.credits.specs.Resources.{real_time_first}
use Rattle.credits.proofs.Days.{from_told}
use Rattle.credits.proofs.resources.real_time_at.Goals as goal

pub returns-in-Some-RealTime : goal.returns-in-Some-RealTime
returns-in-Some-RealTime c =
    let t = from_told c.args.day.now.file.now c.args.k real_time_first c.record.result c.record.ensures in
    search rules

pub returns-in_default : goal.returns-in_default
returns-in_default c =
    let t = from_told c.args.day.now.file.now c.args.k real_time_first c.record.result c.record.ensures in
    search rules

pub returns-in_default-2 : goal.returns-in_default-2
returns-in_default-2 c =
    let t = from_told c.args.day.now.file.now c.args.k real_time_first c.record.result c.record.ensures in
    search rules
