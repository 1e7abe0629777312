use Rattle.std.proofs.Common.{◌≡◌, ◌≤◌, map, pos, sym, ◌∙◌, subst, arith, w64, to_z, of_z, rules}
use Rattle.std.specs.List.{AllByRecursion, range_with_len}
use Rattle.std.proofs.lemmas.Int.{ints}
use Rattle.std.proofs.lemmas.Bool.{cond-true, cond-false}
use Rattle.credits.specs.Sums.{net}
use Rattle.credits.specs.Allotments.{shared_kwh}
use Rattle.credits.specs.DayAhead.{qualifies, scheduled, cleared, day_ahead_hour, day_ahead_millicents, day_ahead_share}
use Rattle.credits.proofs.Made.{made}
use Rattle.credits.proofs.Allots.{no_share, few_shared, all_light}
use Rattle.credits.proofs.Limits.{cleared_kept}
use Rattle.credits.proofs.day_ahead.DayAheadDay.claim.Goals as goal
use Rattle.credits.proofs.day_ahead.DayAheadDay.claim.Goals.{then-qualifies, else-qualifies}

all_made : (c : goal.After-from_fn) → c.from_fn.result ≡ map (day_ahead_share c.args.self.now.resource.now) (range_with_len 0 24)
all_made c = made _ (day_ahead_share c.args.self.now.resource.now) _ (λ i y q k. search rules) no_share c.from_fn.result 24 c.from_fn.ensures.items

pub invariant_of-result : goal.invariant_of-result
invariant_of-result c =
    let g = c.args.self.now.resource.now in
    record {
      few =
          elim c.if-qualifies.branch [
            | then-qualifies w ↦ omega (arith, ints, c.if-qualifies.amount-is, w.amount-is, w.net-amount.ensures.small)
            | else-qualifies w ↦ omega (arith, ints, c.if-qualifies.amount-is, w.amount-is)
          ];
      light =
          subst (AllByRecursion (λ x. shared_kwh x ≤ 2000000)) (sym (all_made c))
          (all_light (day_ahead_share g) (λ h l. few_shared (scheduled g h) (cleared g h) 2000000 (cleared_kept c.args.self.now.kept h l)));
    }

pub returns-clause-amount : goal.returns-clause-amount
unfolding day_ahead_millicents
returns-clause-amount c =
    let g = c.args.self.now.resource.now in
    let q = c.qualifies.ensures.value in
    elim c.if-qualifies.branch [
      | then-qualifies w ↦
          let back : to_z w64 (of_z w64 w.net-amount.result) ≡ w.net-amount.result = omega (arith, ints) in
          w.amount-is ∙ back ∙ w.net-amount.ensures.value
          ∙ sym (cond-true (qualifies g 24) (net (day_ahead_hour g) 24) (pos 0) (sym q ∙ w.if-qualifies.true))
      | else-qualifies w ↦
          w.amount-is
          ∙ sym (cond-false (qualifies g 24) (net (day_ahead_hour g) 24) (pos 0) (sym q ∙ w.if-qualifies.false))
    ]

pub returns-clause-hours : goal.returns-clause-hours
returns-clause-hours c = all_made c.before
