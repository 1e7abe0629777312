use Rattle.std.proofs.Common.{◌≡◌, ◌+◌, get_or, drop, sym, ap, ◌∙◌}
use Rattle.dayfile.specs.Layout.{entry_fault, first_fault, earlier}
use Rattle.dayfile.proofs.Tables.{no_entry, sized_more, first_more, first_all, earlier_assoc, earlier_none, none_from_not}
use Rattle.dayfile.proofs.layout.field_fault.Goals as goal
use Rattle.dayfile.proofs.layout.field_fault.Goals.{then-not-holds, else-not-holds}

pub holds-requires : goal.holds-requires
holds-requires c = (sized_more c.args.table.now c.loop-entry.entry-index c.loop-entry-test.true c.loop-entry.invariant.1).0

pub fault-requires : goal.fault-requires
fault-requires c = (sized_more c.args.table.now c.loop-entry.entry-index c.loop-entry-test.true c.loop-entry.invariant.1).0

pub loop-entry-preserved : goal.loop-entry-preserved
loop-entry-preserved c =
    let t = c.args.table.now in
    let i = c.loop-entry.entry-index in
    let b = c.args.block.now in
    let here = entry_fault (get_or c.args.table.now c.loop-entry.entry-index no_entry) c.args.block.now in
    let rest = first_fault (drop (c.loop-entry.entry-index + 1) c.args.table.now) c.args.block.now in
    let step : c.if-not-holds.first ≡ earlier c.loop-entry.first here
    = elim c.if-not-holds.branch [
      | then-not-holds w ↦ w.first-is ∙ w.earlier_of-first.ensures ∙ ap (earlier c.loop-entry.first) w.fault.ensures
      | else-not-holds w ↦
          w.first-is ∙ sym (earlier_none c.loop-entry.first)
          ∙ ap (earlier c.loop-entry.first) (sym (none_from_not here (sym c.holds.ensures ∙ w.if-not-holds.false)))
    ] in (
      ap (λ o. earlier o rest) step
          ∙ earlier_assoc c.loop-entry.first here rest
          ∙ ap (earlier c.loop-entry.first) (sym (first_more t i b c.loop-entry-test.true))
          ∙ c.loop-entry.invariant.0,
      (sized_more t i c.loop-entry-test.true c.loop-entry.invariant.1).1,
    )

pub returns : goal.returns
returns c =
    sym (earlier_none c.loop-entry.first)
    ∙ ap (earlier c.loop-entry.first) (sym (first_all c.args.table.now c.loop-entry.entry-index c.args.block.now c.loop-entry-test.false))
    ∙ c.loop-entry.invariant.0
