use Rattle.std.proofs.Common.{sym, ◌∙◌}
use Rattle.explanation.proofs.Rows.{row_found}
use Rattle.explanation.proofs.reason.explain_field.Goals as goal

pub tell-requires : goal.tell-requires
tell-requires c = row_found c.rows_for.result.now c.args.byte c.in-Some.row c.rows_for.ensures.steady (sym c.row_at.ensures ∙ c.in-Some.is)
