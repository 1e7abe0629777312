use Rattle.std.proofs.Common.{sym, ◌∙◌}
use Rattle.std.proofs.lemmas.List.{at_drop_all}
use Rattle.explanation.specs.Names.{row_at}
use Rattle.explanation.proofs.Rows.{no_row, row_steady, row_here, row_later}
use Rattle.explanation.proofs.table.row_at.Goals as goal

pub has-requires : goal.has-requires
has-requires c = row_steady c.args.rows.now c.loop-row.row-index no_row c.loop-row-test.true c.requires

pub returns-then-has : goal.returns-then-has
returns-then-has c =
    sym (row_here c.args.rows.now c.loop-row.row-index no_row c.args.byte c.loop-row-test.true (sym c.if-has.ensures)) ∙ c.loop-row.invariant

pub loop-row-preserved : goal.loop-row-preserved
loop-row-preserved c =
    sym (row_later c.args.rows.now c.loop-row.row-index no_row c.args.byte c.loop-row-test.true (sym c.if-has.ensures)) ∙ c.loop-row.invariant

pub returns : goal.returns
unfolding row_at
returns c =
    sym (at_drop_all (λ r. row_at r c.args.byte) c.args.rows.now c.loop-row.row-index c.loop-row-test.false)
    ∙ c.loop-row.invariant
