use Rattle.std.proofs.Common.{◌≡◌, true, Some, None, sym, ap, ◌∙◌}
use Rattle.dayfile.specs.Files.{answer}
use Rattle.dayfile.specs.Layout.{table_for}
use Rattle.dayfile.specs.Owners.{owners_kept}
use Rattle.dayfile.specs.Writing.{record_owned}
use Rattle.dayfile.proofs.Refusals.{found, refused_field, refused_owners, refused_room, unrefused, unowned}
use Rattle.dayfile.proofs.write.refuse.Goals as goal
use Rattle.dayfile.proofs.write.refuse.Goals.{in-Resource+else-not-kept, in_default-rec}

pub returns-in-Some : goal.returns-in-Some
returns-in-Some c =
    let r = c.args.rec.now in
    let f = found r c.args.block.now c.table_for.result.now (Some c.in-Some.byte) c.in-Some.ensures (c.table_for.ensures.table ∙ ap table_for c.kind.ensures) c.requires in
    record { value = sym (ap answer (refused_field r c.args.room c.in-Some.byte f)) }

pub returns-then-not-kept : goal.returns-then-not-kept
returns-then-not-kept c =
    let r = c.args.rec.now in
    let f = found r c.args.block.now c.table_for.result.now None c.in_default.ensures (c.table_for.ensures.table ∙ ap table_for c.kind.ensures) c.requires in
    record { value = sym (ap answer (refused_owners r c.args.room f (ap (record_owned 48) c.in-Resource.is ∙ ap (λ k. owners_kept 48 k c.in-Resource.g.owners) (sym c.from.ensures) ∙ sym c.if-not-kept.ensures))) }

pub returns-then-room-lt-BLOCK : goal.returns-then-room-lt-BLOCK
returns-then-room-lt-BLOCK c =
    let r = c.args.rec.now in
    let f = found r c.args.block.now c.table_for.result.now None c.in_default.ensures (c.table_for.ensures.table ∙ ap table_for c.kind.ensures) c.requires in
    let o : record_owned 48 c.args.rec.now ≡ true =
    elim c.match-rec.branch [
      | in-Resource+else-not-kept w ↦ ap (record_owned 48) w.in-Resource.is ∙ ap (λ k. owners_kept 48 k w.in-Resource.g.owners) (sym w.from.ensures) ∙ sym w.if-not-kept.ensures
      | in_default-rec w ↦ unowned 48 c.args.rec.now w.in_default-rec.not-Resource
    ] in
    record { value = sym (ap answer (refused_room r c.args.room f o c.if-room-lt-BLOCK.true)) }

pub returns-else-room-lt-BLOCK : goal.returns-else-room-lt-BLOCK
returns-else-room-lt-BLOCK c =
    let r = c.args.rec.now in
    let f = found r c.args.block.now c.table_for.result.now None c.in_default.ensures (c.table_for.ensures.table ∙ ap table_for c.kind.ensures) c.requires in
    let o : record_owned 48 c.args.rec.now ≡ true =
    elim c.match-rec.branch [
      | in-Resource+else-not-kept w ↦ ap (record_owned 48) w.in-Resource.is ∙ ap (λ k. owners_kept 48 k w.in-Resource.g.owners) (sym w.from.ensures) ∙ sym w.if-not-kept.ensures
      | in_default-rec w ↦ unowned 48 c.args.rec.now w.in_default-rec.not-Resource
    ] in
    record { value = sym (ap answer (unrefused r c.args.room f o c.if-room-lt-BLOCK.false)) }
