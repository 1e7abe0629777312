use Rattle.std.proofs.Common.{◌≡◌, true, false, sym, ◌∙◌, arith}
use Rattle.std.proofs.lemmas.Bool.{not_from_true, not_from_false}
use Rattle.credits.specs.DayAhead.{self_scheduled, not_self_scheduled}
use Rattle.credits.proofs.Streaks.{streak_none, streak_yes, streak_no, streak_within}
use Rattle.credits.proofs.Blocks.{qualifies_none, qualifies_more, short_where_scheduled, short_where_unscheduled, not_qualified, by_blocks}
use Rattle.credits.proofs.day_ahead.DayAheadDay.qualifies.Goals as goal
use Rattle.credits.proofs.day_ahead.DayAheadDay.qualifies.Goals.{then-is_self_scheduled+else-is_short_gap, else-is_self_scheduled+else-is_short_block}

pub loop-hour-init : goal.loop-hour-init
loop-hour-init c =
    let g = c.args.self.now.resource.now in (sym (streak_none (self_scheduled g)), sym (streak_none (not_self_scheduled g)), qualifies_none g)

pub returns-then-is_short_gap : goal.returns-then-is_short_gap
returns-then-is_short_gap c =
    let g = c.args.self.now.resource.now in
    let h = c.loop-hour.hour in
    let yes : self_scheduled g h ≡ true = sym c.is_self_scheduled.ensures ∙ c.if-is_self_scheduled.true in
    record {
      value =
          not_qualified g h (omega arith)
          (short_where_scheduled g h c.loop-hour.gap c.is_short_gap.result yes c.loop-hour.invariant.1 c.is_short_gap.ensures ∙ c.if-is_short_gap.true);
      blocks = by_blocks g;
    }

pub overflow_add-block : goal.overflow_add-block
overflow_add-block c = omega (arith, c.loop-hour.invariant.0, streak_within (self_scheduled c.args.self.now.resource.now) c.loop-hour.hour)

pub is_short_block-requires : goal.is_short_block-requires
is_short_block-requires c = omega (arith, c.loop-hour.invariant.0, streak_within (self_scheduled c.args.self.now.resource.now) c.loop-hour.hour)

pub returns-then-is_short_block : goal.returns-then-is_short_block
returns-then-is_short_block c =
    let g = c.args.self.now.resource.now in
    let h = c.loop-hour.hour in
    let no : self_scheduled g h ≡ false = sym c.is_self_scheduled.ensures ∙ c.if-is_self_scheduled.false in
    record {
      value =
          not_qualified g h (omega arith)
          (short_where_unscheduled g h c.loop-hour.block c.is_short_block.result no c.loop-hour.invariant.0 c.is_short_block.ensures ∙ c.if-is_short_block.true);
      blocks = by_blocks g;
    }

pub overflow_add-gap : goal.overflow_add-gap
overflow_add-gap c = omega (arith, c.loop-hour.invariant.1, streak_within (not_self_scheduled c.args.self.now.resource.now) c.loop-hour.hour)

pub loop-hour-preserved : goal.loop-hour-preserved
loop-hour-preserved c =
    let g = c.args.self.now.resource.now in
    let h = c.loop-hour.hour in
    elim c.if-is_self_scheduled.branch [
      | then-is_self_scheduled+else-is_short_gap w ↦
          let yes : self_scheduled g h ≡ true = sym c.is_self_scheduled.ensures ∙ w.if-is_self_scheduled.true in (
            omega (arith, w.block-is, c.loop-hour.invariant.0, streak_yes (self_scheduled g) h yes),
            omega (arith, w.gap-is, streak_no (not_self_scheduled g) h (not_from_true (self_scheduled g h) yes)),
            qualifies_more g h c.loop-hour.invariant.2
                (short_where_scheduled g h c.loop-hour.gap w.is_short_gap.result yes c.loop-hour.invariant.1 w.is_short_gap.ensures ∙ w.if-is_short_gap.false),
          )
      | else-is_self_scheduled+else-is_short_block w ↦
          let no : self_scheduled g h ≡ false = sym c.is_self_scheduled.ensures ∙ w.if-is_self_scheduled.false in (
            omega (arith, w.block-is, streak_no (self_scheduled g) h no),
            omega (arith, w.gap-is, c.loop-hour.invariant.1, streak_yes (not_self_scheduled g) h (not_from_false (self_scheduled g h) no)),
            qualifies_more g h c.loop-hour.invariant.2
                (short_where_unscheduled g h c.loop-hour.block w.is_short_block.result no c.loop-hour.invariant.0 w.is_short_block.ensures ∙ w.if-is_short_block.false),
          )
    ]

pub returns-clause-blocks : goal.returns-clause-blocks
returns-clause-blocks c = by_blocks c.args.self.now.resource.now
