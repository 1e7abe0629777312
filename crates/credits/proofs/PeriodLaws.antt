-- The walk through a real-time day gives the credit by periods.
use Rattle.std.proofs.Common.{◌≡◌, ℕ, zero, suc, ◌+◌, ◌-◌, ◌<◌, ◌≤◌, Bool, true, false, cond, not, ◌&&◌, ltb, ◌⊎◌, length, ℤ, pos, ◌+ℤ◌, Some, None, Option, sym, refl, ap, ◌∙◌, subst, inl, inr, add-one, arith}
use Rattle.std.proofs.lemmas.List.{get_or_past}
use Rattle.std.proofs.lemmas.Int.{ints}
use Rattle.std.proofs.lemmas.Bool.{cond_both, cases_Bool, cases_order, cases_lt, both_ways, lt-ltb, ltb-true, and_right, and_parts, not-true}
use Rattle.dayfile.specs.declared.record.ResourceRecord.{ResourceRecord}
use Rattle.dayfile.specs.declared.record.RealTimeRecord.{RealTimeRecord}
use Rattle.dayfile.specs.declared.record.Event.TheVariants.{Off}
use Rattle.credits.specs.declared.commitment.Commitment.{Commitment}
use Rattle.credits.specs.Sums.{total, net}
use Rattle.credits.specs.Spells.{streak, Spell}
use Rattle.credits.specs.Commitments.{at_midnight, in_period}
use Rattle.credits.specs.RealTime.{event, commitment, eligible, eligible_hour, fee_brought, real_time_hour, forbidden_hour, real_time_millicents}
use Rattle.credits.specs.Periods.{forbidden, forbidden_by, pool_hour, pool_hour_by, pool_streak, period_ends, period_fee, ended_credit, credit_by_periods, span, tripped_before, on_line_before, begins_a_period, met, is_pool_run, First, RealTimeByPeriods}
use Rattle.credits.proofs.Streaks.{streak_none, streak_yes, streak_no, streak_within, spell_streak, streak_spell}
use Rattle.credits.proofs.Passing.{commitment_next, forbidden_step, forbidden_next}
use Rattle.credits.proofs.Totals.{total_same}
use Rattle.credits.proofs.Worths.{net_more}
use Rattle.credits.proofs.Histories.{Past, past_first, past_next, forbids, allows, pools, fee_of_period}

some_none : {x : ℕ} → Some x ≡ None → ⊥
some_none e = let z : ◌≡◌ {A = ℕ} 0 1 = cc in omega arith

none_some : {x : ℕ} → None ≡ Some x → ⊥
none_some e = let z : ◌≡◌ {A = ℕ} 0 1 = cc in omega arith

module _ (g : ResourceRecord) (r : RealTimeRecord) where
  -- where no event is forbidden yet, the walk is at a commitment, and the past is known
  pub record Allowed (h : ℕ) : Type 0 where
    pub now_at : Commitment
    pub at : commitment g r h ≡ Some now_at
    pub past : Past g r h now_at
    pub before : (k : ℕ) → k < h → forbidden g r k ≡ false

  allowed_step : (h : ℕ) → (forbidden_hour g r h ≡ None → Allowed h) → (x : Option ℕ) → forbidden_hour g r h ≡ x → (o : Option Commitment) → commitment g r (h + 1) ≡ o
      → forbidden_step h o x ≡ None → Allowed (h + 1)
  allowed_step h ih (Some x) p o q e = absurd (some_none e)
  allowed_step h ih None p None q e = absurd (some_none e)
  allowed_step h ih None p (Some t) q e =
      let a = ih p in
      let m = sym (commitment_next g r h a.now_at a.at) ∙ q in
      record {
        now_at = t;
        at = q;
        past = past_next g r h a.now_at a.past t m;
        before = λ k l. elim (cases_lt k h) [ inl b ↦ a.before k b | inr b ↦ ap (forbidden g r) (omega arith) ∙ allows g r h a.now_at a.past t m ];
      }

  pub allowed : (h : ℕ) → forbidden_hour g r h ≡ None → Allowed h
  unfolding commitment
  allowed zero e = record { now_at = at_midnight g.hours_on_line; at = refl; past = past_first g r; before = λ k l. absurd (omega arith) }
  allowed (suc h) e =
      subst Allowed (add-one h)
      (allowed_step h (allowed h) (forbidden_hour g r h) refl (commitment g r (h + 1)) refl (sym (forbidden_next g r h) ∙ ap (forbidden_hour g r) (add-one h) ∙ e))

  -- where one is, it is the first
  pub record Stopped (n x : ℕ) : Type 0 where
    pub hour : ℕ
    pub within : hour < n
    pub told : x ≡ hour + 1
    pub first : First (forbidden g r) hour

  stopped_step : (n x : ℕ) → ((y : ℕ) → forbidden_hour g r n ≡ Some y → Stopped n y) → (o : Option ℕ) → forbidden_hour g r n ≡ o → (c : Option Commitment) → commitment g r (n + 1) ≡ c
      → forbidden_step n c o ≡ Some x → Stopped (n + 1) x
  stopped_step n x ih (Some y) p c q e =
      let s = ih y p in
      let same : y ≡ x = cc in
      record { hour = s.hour; within = omega (arith, s.within); told = sym same ∙ s.told; first = s.first }
  stopped_step n x ih None p (Some t) q e = absurd (none_some e)
  stopped_step n x ih None p None q e =
      let a = allowed n p in
      let same : n + 1 ≡ x = cc in
      record {
        hour = n;
        within = omega arith;
        told = sym same;
        first = record { here = forbids g r n a.now_at a.past (sym (commitment_next g r n a.now_at a.at) ∙ q); not_before = a.before };
      }

  stopped_at : (n x : ℕ) → forbidden_hour g r n ≡ Some x → Stopped n x
  unfolding forbidden_hour
  stopped_at zero x e = absurd (none_some e)
  stopped_at (suc n) x e =
      subst (λ k. Stopped k x) (add-one n)
      (stopped_step n x (stopped_at n) (forbidden_hour g r n) refl (commitment g r (n + 1)) refl (sym (forbidden_next g r n) ∙ ap (forbidden_hour g r) (add-one n) ∙ e))

  first_once : (test : ℕ → Bool) (h k : ℕ) → First test h → First test k → h ≡ k
  first_once test h k p q =
      elim (cases_order h k) [
        | inl e ↦ e
        | inr t ↦ elim t [ inl l ↦ absurd (both_ways (test h) (q.not_before h l) p.here) | inr l ↦ absurd (both_ways (test k) (p.not_before k l) q.here) ]
      ]

  first_stops : (n h : ℕ) → h < n → First (forbidden g r) h → (o : Option ℕ) → forbidden_hour g r n ≡ o → forbidden_hour g r n ≡ Some (h + 1)
  first_stops n h l f None e = absurd (both_ways (forbidden g r h) ((allowed n e).before h l) f.here)
  first_stops n h l f (Some x) e =
      let s = stopped_at n x e in
      e ∙ ap Some (s.told ∙ ap (λ k. k + 1) (first_once (forbidden g r) s.hour h s.first f))

  none_stops : (n : ℕ) → ((h : ℕ) → h < n → forbidden g r h ≡ false) → (o : Option ℕ) → forbidden_hour g r n ≡ o → forbidden_hour g r n ≡ None
  none_stops n a None e = e
  none_stops n a (Some x) e =
      let s = stopped_at n x e in absurd (both_ways (forbidden g r s.hour) (a s.hour s.within) s.first.here)

  stops_first : (n h : ℕ) → forbidden_hour g r n ≡ Some (h + 1) → First (forbidden g r) h
  stops_first n h e =
      let s = stopped_at n (h + 1) e in
      subst (First (forbidden g r)) (omega (arith, s.told)) s.first

-- sums that are alike hour by hour
net_alike : (f j : ℕ → ℤ) (n : ℕ) → ((k : ℕ) → k < n → f k ≡ j k) → net f n ≡ net j n
unfolding net
net_alike f j zero h = refl
net_alike f j (suc n) h = ap (λ z. z +ℤ f n) (net_alike f j n (λ k l. h k (omega arith))) ∙ ap (λ z. net j n +ℤ z) (h n (omega arith))

net_joined : (f : ℕ → ℕ) (a b : ℕ → ℤ) (n : ℕ) → ((k : ℕ) → pos (f k) +ℤ a k ≡ b k) → pos (total f n) +ℤ net a n ≡ net b n
unfolding total net
net_joined f a b zero h = refl
net_joined f a b (suc n) h = let i = net_joined f a b n h in let e = h n in omega (arith, ints)

-- THE SUM OVER THE HOURS of spells is the sum over the spells, each counted where it ends
module _ (test : ℕ → Bool) (x : ℕ → ℤ) where
  abbrev hour_of : ℕ → ℤ
  hour_of t = cond (test t) (x t) (pos 0)

  abbrev last_span : ℕ → ℤ
  last_span h = span x (h - streak test h) (streak test h)

  abbrev spell_ended : ℕ → ℤ
  spell_ended t = cond (ltb 0 (streak test t) && not (test t)) (last_span t) (pos 0)

  span_none : (first n : ℕ) → n ≡ 0 → span x first n ≡ pos 0
  unfolding span
  span_none first n e = ap (span x first) e

  span_longer : (first n : ℕ) → span x first (n + 1) ≡ span x first n +ℤ x (first + n)
  unfolding span
  span_longer first n = ap (span x first) (add-one n)

  grows : (h : ℕ) → test h ≡ true → last_span (h + 1) ≡ last_span h +ℤ x h
  grows h y =
      let e = streak_yes test h y in
      let w = streak_within test h in
      let d : h + 1 - streak test (h + 1) ≡ h - streak test h = omega arith in
      let i : h - streak test h + streak test h ≡ h = omega arith in
      ap (span x (h + 1 - streak test (h + 1))) e ∙ ap (λ f. span x f (streak test h + 1)) d
      ∙ span_longer (h - streak test h) (streak test h) ∙ ap (λ k. last_span h +ℤ x k) i

  not_ended : (h : ℕ) → test h ≡ true → spell_ended h ≡ pos 0
  not_ended h y = ap (λ b. cond b (last_span h) (pos 0)) (and_right (ltb 0 (streak test h)) (not (test h)) (ap not y))

  ended : (h : ℕ) → test h ≡ false → spell_ended h ≡ last_span h
  ended h n =
      ap (λ b. cond (ltb 0 (streak test h) && b) (last_span h) (pos 0)) (ap not n)
      ∙ cond_both (ltb 0 (streak test h) && true) (last_span h) (pos 0) (λ z. z ≡ last_span h) (λ _. refl)
      (λ e. sym (span_none (h - streak test h) (streak test h) (none_before (streak test h) e)))
    where
      none_before : (k : ℕ) → (ltb 0 k && true) ≡ false → k ≡ 0
      none_before zero e = refl
      none_before (suc k) e = absurd (both_ways (ltb 0 (suc k) && true) e (ap (λ b. b && true) (lt-ltb 0 (suc k) (omega arith))))

  one_more : (h : ℕ) → net hour_of h ≡ net spell_ended h +ℤ last_span h → (test h ≡ true) ⊎ (test h ≡ false) → net hour_of (h + 1) ≡ net spell_ended (h + 1) +ℤ last_span (h + 1)
  one_more h i (inl y) =
      let a = net_more hour_of h in
      let b = net_more spell_ended h in
      let c : hour_of h ≡ x h = ap (λ t. cond t (x h) (pos 0)) y in
      let d = not_ended h y in
      let e = grows h y in
      omega (arith, ints)
  one_more h i (inr n) =
      let a = net_more hour_of h in
      let b = net_more spell_ended h in
      let c : hour_of h ≡ pos 0 = ap (λ t. cond t (x h) (pos 0)) n in
      let d = ended h n in
      let e : last_span (h + 1) ≡ pos 0 = span_none (h + 1 - streak test (h + 1)) (streak test (h + 1)) (streak_no test h n) in
      omega (arith, ints)

  by_spells : (h : ℕ) → net hour_of h ≡ net spell_ended h +ℤ last_span h
  unfolding net
  by_spells zero = let e = span_none (0 - streak test 0) (streak test 0) (streak_none test) in sym (ap (λ z. pos 0 +ℤ z) e)
  by_spells (suc h) = subst (λ n. net hour_of n ≡ net spell_ended n +ℤ last_span n) (add-one h) (one_more h (by_spells h) (cases_Bool (test h)))

  -- where the last hour does not pass, no spell is left open
  pub all_ended : (h : ℕ) → test h ≡ false → net hour_of h ≡ net spell_ended (h + 1)
  all_ended h n =
      let a = net_more hour_of h in
      let c : hour_of h ≡ pos 0 = ap (λ t. cond t (x h) (pos 0)) n in
      let e : last_span (h + 1) ≡ pos 0 = span_none (h + 1 - streak test (h + 1)) (streak test (h + 1)) (streak_no test h n) in
      let i = by_spells (h + 1) in
      omega (arith, ints)

-- THE LAW
module _ (g : ResourceRecord) (r : RealTimeRecord) (long : length r.events ≡ 24) where
  off_at_last : event r 24 ≡ Off
  off_at_last = get_or_past r.events 24 Off (omega (arith, long))

  last_not_pool : pool_hour r 24 ≡ false
  last_not_pool = ap (λ e. pool_hour_by e (begins_a_period (met is_pool_run r 24))) off_at_last

  last_allowed : forbidden g r 24 ≡ false
  last_allowed = ap (λ e. forbidden_by e (tripped_before r 24) (on_line_before g r 24)) off_at_last

  abbrev fee_ended : ℕ → ℕ
  fee_ended h = cond (period_ends r h) (period_fee g r (h - pool_streak r h) (pool_streak r h)) 0

  module _ (none : forbidden_hour g r 24 ≡ None) where
    up_to : (h : ℕ) → h ≤ 24 → forbidden_hour g r h ≡ None
    up_to h l = none_stops g r h (λ k m. (allowed g r 24 none).before k (omega arith)) (forbidden_hour g r h) refl

    fees : (h : ℕ) → h < 25 → fee_brought g r h ≡ fee_ended h
    fees h l =
        let a = allowed g r h (up_to h (omega arith)) in
        fee_of_period g r h a.now_at a.past a.at
        (elim (cases_lt h 24) [ inl m ↦ (allowed g r 24 none).before h m | inr m ↦ ap (forbidden g r) (omega arith) ∙ last_allowed ])

    pooled : (h : ℕ) → h < 24 → eligible g r h ≡ pool_hour r h
    pooled h l =
        let a = allowed g r h (up_to h (omega arith)) in
        let b = allowed g r (h + 1) (up_to (h + 1) (omega arith)) in
        ap (λ o. elim o as (λ _. Bool) [ None ↦ false | Some s ↦ in_period s ]) b.at
        ∙ pools g r h a.now_at a.past b.now_at (sym (commitment_next g r h a.now_at a.at) ∙ b.at)

    by_periods : real_time_millicents g r ≡ credit_by_periods g r
    unfolding real_time_millicents
    by_periods =
        ap (λ n. pos n +ℤ net (eligible_hour g r) 24) (total_same (fee_brought g r) fee_ended 25 fees)
        ∙ ap (λ z. pos (total fee_ended 25) +ℤ z)
        (net_alike (eligible_hour g r) (hour_of (pool_hour r) (real_time_hour g r)) 24 (λ h l. ap (λ b. cond b (real_time_hour g r h) (pos 0)) (pooled h l))
        ∙ all_ended (pool_hour r) (real_time_hour g r) 24 last_not_pool)
        ∙ net_joined fee_ended (spell_ended (pool_hour r) (real_time_hour g r)) (ended_credit g r) 25
        (λ h. cond_together (period_ends r h) (period_fee g r (h - pool_streak r h) (pool_streak r h)) (last_span (pool_hour r) (real_time_hour g r) h))
      where
        cond_together : (b : Bool) (n : ℕ) (z : ℤ) → pos (cond b n 0) +ℤ cond b z (pos 0) ≡ cond b (pos n +ℤ z) (pos 0)
        cond_together true n z = refl
        cond_together false n z = refl

  ends_where : (h : ℕ) → period_ends r h ≡ true → (0 < pool_streak r h) × (pool_hour r h ≡ false)
  ends_where h e =
      let p = and_parts (ltb 0 (pool_streak r h)) (not (pool_hour r h)) e in
      (ltb-true 0 (pool_streak r h) p.0, not-true (pool_hour r h) p.1)

  spell_ends : (first n : ℕ) → Spell (pool_hour r) first n → (period_ends r (first + n) ≡ true) × (pool_streak r (first + n) ≡ n)
  spell_ends first n s =
      let k = spell_streak (pool_hour r) first n s in
      let l : 0 < pool_streak r (first + n) = omega (arith, s.some) in
      let b : pool_hour r (first + n) ≡ false = elim s.behind [ inl e ↦ ap (pool_hour r) e ∙ last_not_pool | inr e ↦ e ] in
      (ap (λ x. x && not (pool_hour r (first + n))) (lt-ltb 0 (pool_streak r (first + n)) l) ∙ ap not b, k)

  pub real_time_by_periods : RealTimeByPeriods g r
  real_time_by_periods =
      record {
        stopped = λ h l. (stops_first g r 24 h, λ f. first_stops g r 24 h l f (forbidden_hour g r 24) refl);
        allowed = (λ e. (allowed g r 24 e).before, λ a. none_stops g r 24 a (forbidden_hour g r 24) refl);
        eligible_hours = pooled;
        counted = λ h l e. let w = ends_where h e in streak_spell (pool_hour r) h l w.0 (inr w.1);
        every = spell_ends;
        credit = by_periods;
      }
