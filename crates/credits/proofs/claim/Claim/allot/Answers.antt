use Rattle.std.proofs.Common.{◌≡◌, ℕ, ◌≤◌, eqb, map, get_or, Some, None, sum_by, count_by, is_some, sym, ap, ◌∙◌, subst, arith, w64, rules}
use Rattle.std.specs.List.{AllByRecursion}
use Rattle.std.proofs.ByRecursion.{All-map}
use Rattle.std.proofs.lemmas.Bool.{cond-true, cond-false, eq-eqb, ne_eqb}
use Rattle.std.proofs.lemmas.Int.{to_z-of_z}
use Rattle.division.specs.Division.{divided, indivisible}
use Rattle.credits.specs.Cents.{cents}
use Rattle.credits.specs.Allotments.{allotted, shared_kwh, even, level, weights, claimed}
use Rattle.std.proofs.lemmas.List.{length-map, get_or-map}
use Rattle.std.proofs.lemmas.List.FromFn.{fill_by_all}
use Rattle.credits.proofs.Made.{made}
use Rattle.credits.proofs.Cells.{get_or_small}
use Rattle.credits.proofs.Allots.{no_share, levelled, weighs, weights_levelled, sharing_levelled, divisible, all_below_sum, kwh_few}
use Rattle.credits.proofs.claim.Claim.allot.Goals as goal
use Rattle.credits.proofs.claim.Claim.allot.Goals.{then-kwh_shared-eq0, else-kwh_shared-eq0, then-hours_sharing-gt0, else-hours_sharing-gt0}

pub kwh_shared-requires : goal.kwh_shared-requires
kwh_shared-requires c = kwh_few c.args.self.hours (search rules) c.args.self.light

-- the hours that are divided over
over : (c : goal.After-from_fn) → c.if-kwh_shared-eq0.hours ≡ levelled c.args.self.hours
over c =
    let xs = c.args.self.hours in
    elim c.if-kwh_shared-eq0.branch [
      | then-kwh_shared-eq0 w ↦
          w.hours-is ∙ w.level_out.ensures
          ∙ sym (cond-true (even xs) (map level xs) xs (eq-eqb (sum_by shared_kwh xs) 0 (sym c.kwh_shared.ensures ∙ w.if-kwh_shared-eq0.true)))
      | else-kwh_shared-eq0 w ↦
          w.hours-is
          ∙ sym (cond-false (even xs) (map level xs) xs (ne_eqb (sum_by shared_kwh xs) 0 (λ e. w.if-kwh_shared-eq0.false (c.kwh_shared.ensures ∙ e))))
    ]

-- what they weigh, and how many share
weigh : (c : goal.After-from_fn) → map weighs c.if-kwh_shared-eq0.hours ≡ weights c.args.self.hours
weigh c = ap (map weighs) (over c) ∙ weights_levelled c.args.self.hours c.args.self.light

sharing : (c : goal.After-from_fn) → c.hours_sharing.result ≡ count_by (λ x. is_some x.kwh) c.args.self.hours
sharing c = c.hours_sharing.ensures ∙ ap (count_by (λ x. is_some x.kwh)) (over c) ∙ sharing_levelled c.args.self.hours

-- the cents that are divided
claim : (c : goal.After-from_fn) → c.if-hours_sharing-gt0.cents ≡ claimed c.args.self.amount c.args.self.hours
claim c =
    let n = count_by (λ x. is_some x.kwh) c.args.self.hours in
    let m = cents c.args.self.amount in
    elim c.if-hours_sharing-gt0.branch [
      | then-hours_sharing-gt0 w ↦
          w.cents-is ∙ w.to_cents-cents.ensures.value ∙ ap cents (to_z-of_z w64 c.args.self.amount (search rules))
          ∙ sym (cond-false (eqb n 0) 0 m (ne_eqb n 0 (λ e. omega (arith, sharing c, w.if-hours_sharing-gt0.true))))
      | else-hours_sharing-gt0 w ↦
          w.cents-is ∙ sym (cond-true (eqb n 0) 0 m (eq-eqb n 0 (omega (arith, sharing c, w.if-hours_sharing-gt0.false))))
    ]

few : (c : goal.After-from_fn) → c.if-hours_sharing-gt0.cents ≤ 100000000000
few c =
    elim c.if-hours_sharing-gt0.branch [
      | then-hours_sharing-gt0 w ↦ omega (arith, w.cents-is, w.to_cents-cents.ensures.small)
      | else-hours_sharing-gt0 w ↦ omega (arith, w.cents-is)
    ]

-- they are divided
done : (c : goal.After-from_fn) → c.divide.result ≡ Some tt
done c =
    let ws = map weighs c.if-kwh_shared-eq0.hours in
    let n = c.if-hours_sharing-gt0.cents in
    let e : indivisible n ws ≡ indivisible (claimed c.args.self.amount c.args.self.hours) (weights c.args.self.hours) =
    ap (λ k. indivisible k ws) (claim c) ∙ ap (indivisible (claimed c.args.self.amount c.args.self.hours)) (weigh c) in
    c.divide.ensures.answer ∙ cond-false (indivisible n ws) None (Some tt) (e ∙ divisible c.args.self.amount c.args.self.hours)

-- and read off
read : (c : goal.After-from_fn) → c.from_fn.result ≡ map (λ x. x.cents) c.divide.new.records
read c =
    let rs = c.divide.new.records in
    let h : ℕ → ℕ = λ i. (get_or rs i no_share).cents in
    made _ h _ (λ i y q k. search rules) 0 c.from_fn.result 24 c.from_fn.ensures.items
    ∙ sym (fill_by_all h (map (λ x. x.cents) rs) 24 0 (length-map rs (λ x. x.cents) ∙ search rules) (λ k l. get_or-map (λ x. x.cents) rs k no_share 0 (search rules)))

pub invariant_of-result : goal.invariant_of-result
invariant_of-result c =
    record {
      small = λ h.
          get_or_small 100000000000 c.from_fn.result h
          (subst (AllByRecursion (λ n. n ≤ 100000000000)) (sym (read c))
          (All-map (λ n. n ≤ 100000000000) (λ x. x.cents) c.divide.new.records
          (all_below_sum (λ x. x.cents) 100000000000 no_share c.divide.new.records
          (omega (arith, (c.divide.ensures.fair (done c)).whole, few c)))));
    }

pub returns : goal.returns
unfolding allotted
returns c =
    let xs = c.args.self.hours in
    read c.before ∙ c.divide.ensures.shares (done c.before) ∙ ap (λ n. divided n (map weighs c.if-kwh_shared-eq0.hours)) (claim c.before)
    ∙ ap (divided (claimed c.args.self.amount xs)) (weigh c.before)
