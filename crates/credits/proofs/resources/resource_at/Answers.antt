use Rattle.std.proofs.Common.{◌≡◌, length, drop, IfSome, Some, Option, sym, subst, rules}
use Rattle.dayfile.specs.Days.{records}
use Rattle.credits.specs.Resources.{ResourceDay, resource_first, Kept}
use Rattle.credits.specs.Crediting.{participants_of}
use Rattle.credits.proofs.Days.{from_told, day_formed, resources_kept, resources_kept_few, holds_at}
use Rattle.credits.proofs.resources.resource_at.Goals as goal

pub invariant_of-result : goal.invariant_of-result
invariant_of-result c =
    let f = c.args.day.now.file.now in
    let k = c.args.k in
    let t = from_told f k (resource_first k) c.record.result c.record.ensures in
    let e : ◌≡◌ {A = Option ResourceDay} (Some (record { block = k; resource = c.in-Some-Resource.resource; real_time = c.real_time_at.result }))
    (resource_first k (drop k (records f))) = search rules in
    record {
      kept = subst (λ o. IfSome o (Kept 48)) (sym e) (holds_at (Kept 48) f k (resources_kept_few f (day_formed c.args.day.now)));
      block_few = c.requires;
    }

pub returns-in-Some-Resource : goal.returns-in-Some-Resource
returns-in-Some-Resource c =
    let f = c.args.day.now.file.now in
    let k = c.args.k in
    let kept = Kept (length (participants_of f)) in
    let t = from_told f k (resource_first k) c.record.result c.record.ensures in
    let e : ◌≡◌ {A = Option ResourceDay} (Some (record { block = k; resource = c.in-Some-Resource.resource; real_time = c.real_time_at.result }))
    (resource_first k (drop k (records f))) = search rules in
    record {
      value = e;
      kept = subst (λ o. IfSome o kept) (sym e) (holds_at kept f k (resources_kept f (day_formed c.args.day.now)));
    }

pub returns-in_default : goal.returns-in_default
returns-in_default c =
    let t = from_told c.args.day.now.file.now c.args.k (resource_first c.args.k) c.record.result c.record.ensures in
    search rules
