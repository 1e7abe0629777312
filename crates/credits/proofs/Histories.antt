-- The commitment of the walk, read off the events before it.
use Rattle.std.proofs.Common.{◌≡◌, ℕ, ◌+◌, ◌-◌, ◌*◌, ◌/◌, ◌<◌, Bool, true, false, cond, not, ◌&&◌, ltb, ◌⊎◌, Some, None, Option, sym, refl, ap, ◌∙◌, subst, inl, inr, zero-mul, add-one, arith}
use native.Mathlib.Nat.{zero-div}
use Rattle.std.proofs.lemmas.Bool.{cond_both, both_ways, lt-ltb, and_right, not_from_true, not_from_false}
use Rattle.dayfile.specs.declared.record.ResourceRecord.{ResourceRecord}
use Rattle.dayfile.specs.declared.record.RealTimeRecord.{RealTimeRecord}
use Rattle.dayfile.specs.declared.record.Event.{Event}
use Rattle.dayfile.specs.declared.record.Event.TheVariants.{Off, PoolRun, SelfRun, Trip, IsoRestart, OwnRestart}
use Rattle.credits.specs.declared.commitment.Commitment.{Commitment}
use Rattle.credits.specs.declared.commitment.Commitment.TheVariants.{Down, Tripped, PoolPeriod, SelfScheduled, RestartedOnItsOwn}
use Rattle.credits.specs.Spells.{streak}
use Rattle.credits.specs.Commitments.{at_midnight, moved, cut_fee, closing, in_period}
use Rattle.credits.specs.RealTime.{event, opening_fee, commitment, fee_brought}
use Rattle.credits.proofs.Streaks.{streak_yes, streak_no, streak_within}
use Rattle.credits.specs.Periods.{is_off, is_pool_run, is_trip, met, tripped_at, tripped_before, on_line_before, forbidden_by, forbidden, begins_a_period, pool_hour_by, pool_hour, full_fee, period_fee, pool_streak, period_ends}

-- what is seen of the past, one event later
abbrev tripped_next : Event → Bool → Bool
tripped_next e t = elim e [ Off ↦ t | PoolRun ↦ false | SelfRun ↦ false | Trip ↦ true | IsoRestart ↦ false | OwnRestart ↦ false ]

abbrev on_line_next : Event → Bool
on_line_next e = elim e [ Off ↦ false | PoolRun ↦ true | SelfRun ↦ true | Trip ↦ false | IsoRestart ↦ true | OwnRestart ↦ true ]

abbrev begun_next : Event → Bool → Bool
begun_next e b = elim e [ Off ↦ true | PoolRun ↦ b | SelfRun ↦ true | Trip ↦ false | IsoRestart ↦ true | OwnRestart ↦ false ]

met_next : (over : Event → Bool) (r : RealTimeRecord) (h : ℕ) → met over r (h + 1) ≡ cond (over (event r h)) (met over r h) (Some (event r h))
unfolding met
met_next over r h = ap (met over r) (add-one h)

tripped_step : (e : Event) (o : Option Event) → tripped_at (cond (is_off e) o (Some e)) ≡ tripped_next e (tripped_at o)
tripped_step Off o = refl
tripped_step PoolRun o = refl
tripped_step SelfRun o = refl
tripped_step Trip o = refl
tripped_step IsoRestart o = refl
tripped_step OwnRestart o = refl

begun_step : (e : Event) (o : Option Event) → begins_a_period (cond (is_pool_run e) o (Some e)) ≡ begun_next e (begins_a_period o)
begun_step Off o = refl
begun_step PoolRun o = refl
begun_step SelfRun o = refl
begun_step Trip o = refl
begun_step IsoRestart o = refl
begun_step OwnRestart o = refl

-- what a commitment says of the past: whether the unit is tripped, on line, and would go on with a period by a pool run
abbrev Seen : Commitment → Bool → Bool → Bool → Type 0
Seen Down tripped on_line begun = (tripped ≡ false) × (on_line ≡ false) × (begun ≡ true)
Seen Tripped tripped on_line begun = (tripped ≡ true) × (on_line ≡ false)
Seen (PoolPeriod hours fee) tripped on_line begun = (tripped ≡ false) × (on_line ≡ true) × (begun ≡ true)
Seen SelfScheduled tripped on_line begun = (tripped ≡ false) × (on_line ≡ true) × (begun ≡ true)
Seen RestartedOnItsOwn tripped on_line begun = (tripped ≡ false) × (on_line ≡ true) × (begun ≡ false)

-- an event is refused just where the past forbids it; else the next commitment says of the past what the event adds to it
abbrev Follows : Event → Bool → Bool → Bool → Option Commitment → Type 0
Follows e t l b None = forbidden_by e t l ≡ true
Follows e t l b (Some s) = (forbidden_by e t l ≡ false) × (in_period s ≡ pool_hour_by e b) × Seen s (tripped_next e t) (on_line_next e) (begun_next e b)

follows : (o : ℕ) (s : Commitment) (e : Event) (t l b : Bool) → Seen s t l b → Follows e t l b (moved o s e)
follows o Down Off t l b h = (refl, refl, (h.0, refl, refl))
follows o Down PoolRun t l b h = (h.0, sym h.2, (refl, refl, h.2))
follows o Down SelfRun t l b h = (refl, refl, (refl, refl, refl))
follows o Down Trip t l b h = not_from_false l h.1
follows o Down IsoRestart t l b h = not_from_false t h.0
follows o Down OwnRestart t l b h = not_from_false t h.0
follows o Tripped Off t l b h = (refl, refl, (h.0, refl))
follows o Tripped PoolRun t l b h = h.0
follows o Tripped SelfRun t l b h = (refl, refl, (refl, refl, refl))
follows o Tripped Trip t l b h = not_from_false l h.1
follows o Tripped IsoRestart t l b h = (not_from_true t h.0, refl, (refl, refl, refl))
follows o Tripped OwnRestart t l b h = (not_from_true t h.0, refl, (refl, refl, refl))
follows o (PoolPeriod n f) Off t l b h = (refl, refl, (h.0, refl, refl))
follows o (PoolPeriod n f) PoolRun t l b h = (h.0, sym h.2, (refl, refl, h.2))
follows o (PoolPeriod n f) SelfRun t l b h = (refl, refl, (refl, refl, refl))
follows o (PoolPeriod n f) Trip t l b h = (not_from_true l h.1, refl, (refl, refl))
follows o (PoolPeriod n f) IsoRestart t l b h = not_from_false t h.0
follows o (PoolPeriod n f) OwnRestart t l b h = not_from_false t h.0
follows o SelfScheduled Off t l b h = (refl, refl, (h.0, refl, refl))
follows o SelfScheduled PoolRun t l b h = (h.0, sym h.2, (refl, refl, h.2))
follows o SelfScheduled SelfRun t l b h = (refl, refl, (refl, refl, refl))
follows o SelfScheduled Trip t l b h = (not_from_true l h.1, refl, (refl, refl))
follows o SelfScheduled IsoRestart t l b h = not_from_false t h.0
follows o SelfScheduled OwnRestart t l b h = not_from_false t h.0
follows o RestartedOnItsOwn Off t l b h = (refl, refl, (h.0, refl, refl))
follows o RestartedOnItsOwn PoolRun t l b h = (h.0, sym h.2, (refl, refl, h.2))
follows o RestartedOnItsOwn SelfRun t l b h = (refl, refl, (refl, refl, refl))
follows o RestartedOnItsOwn Trip t l b h = (not_from_true l h.1, refl, (refl, refl))
follows o RestartedOnItsOwn IsoRestart t l b h = not_from_false t h.0
follows o RestartedOnItsOwn OwnRestart t l b h = not_from_false t h.0

-- a commitment's period: the hours run for the pool right before, and their fee; a period from midnight on has no fee
abbrev InRun : ℕ → ℕ → ℕ → ℕ → Type 0
InRun hours fee n full = (fee ≡ full) × (((hours ≡ n) × (0 < n)) ⊎ (fee ≡ 0))

abbrev Run : Commitment → ℕ → ℕ → Type 0
Run Down n full = n ≡ 0
Run Tripped n full = n ≡ 0
Run (PoolPeriod hours fee) n full = InRun hours fee n full
Run SelfScheduled n full = n ≡ 0
Run RestartedOnItsOwn n full = n ≡ 0

-- a period that an event leads into
abbrev Into : ℕ → ℕ → Option Commitment → Type 0
Into n full None = Unit {0}
Into n full (Some Down) = Unit {0}
Into n full (Some Tripped) = Unit {0}
Into n full (Some (PoolPeriod hours fee)) = InRun hours fee n full
Into n full (Some SelfScheduled) = Unit {0}
Into n full (Some RestartedOnItsOwn) = Unit {0}

module _ (full : ℕ → ℕ) (h n o : ℕ) (t l b : Bool) (fresh : full h ≡ cond l 0 o) where
  at_first : n ≡ 0 → full (h - n) ≡ cond l 0 o
  at_first z = let e : h - n ≡ h = omega arith in ap full e ∙ fresh

  cold : n ≡ 0 → l ≡ false → InRun 1 o (n + 1) (full (h - n))
  cold z off = (sym (at_first z ∙ ap (λ x. cond x 0 o) off), inl (omega arith, omega arith))

  warm : n ≡ 0 → l ≡ true → InRun 1 0 (n + 1) (full (h - n))
  warm z on = (sym (at_first z ∙ ap (λ x. cond x 0 o) on), inr refl)

  into : (s : Commitment) (e : Event) → Seen s t l b → Run s n (full (h - n)) → Into (n + 1) (full (h - n)) (moved o s e)
  into Down Off w k = tt
  into Down PoolRun w k = cold k w.1
  into Down SelfRun w k = tt
  into Down Trip w k = tt
  into Down IsoRestart w k = tt
  into Down OwnRestart w k = tt
  into Tripped Off w k = tt
  into Tripped PoolRun w k = tt
  into Tripped SelfRun w k = tt
  into Tripped Trip w k = tt
  into Tripped IsoRestart w k = cold k w.1
  into Tripped OwnRestart w k = tt
  into (PoolPeriod hours fee) Off w k = tt
  into (PoolPeriod hours fee) PoolRun w k = (k.0, elim k.1 [ inl x ↦ inl (omega (arith, x.0), omega arith) | inr z ↦ inr z ])
  into (PoolPeriod hours fee) SelfRun w k = tt
  into (PoolPeriod hours fee) Trip w k = tt
  into (PoolPeriod hours fee) IsoRestart w k = tt
  into (PoolPeriod hours fee) OwnRestart w k = tt
  into SelfScheduled Off w k = tt
  into SelfScheduled PoolRun w k = warm k w.1
  into SelfScheduled SelfRun w k = tt
  into SelfScheduled Trip w k = tt
  into SelfScheduled IsoRestart w k = tt
  into SelfScheduled OwnRestart w k = tt
  into RestartedOnItsOwn Off w k = tt
  into RestartedOnItsOwn PoolRun w k = tt
  into RestartedOnItsOwn SelfRun w k = tt
  into RestartedOnItsOwn Trip w k = tt
  into RestartedOnItsOwn IsoRestart w k = tt
  into RestartedOnItsOwn OwnRestart w k = tt

-- THE FEE THAT AN HOUR BRINGS is that of the period which it ends
module _ (m n full : ℕ) where
  none_ended : (x : Bool) (y : ℕ) → n ≡ 0 → 0 ≡ cond (ltb 0 n && x) y 0
  none_ended x y z = sym (ap (λ k. cond (ltb 0 k && x) y 0) z)

  goes_on : (x : Bool) (y : ℕ) → x ≡ false → 0 ≡ cond (ltb 0 n && x) y 0
  goes_on x y z = sym (ap (λ k. cond k y 0) (and_right (ltb 0 n) x z))

  brought : (fee y : ℕ) → fee ≡ y → (0 < n) ⊎ (y ≡ 0) → fee ≡ cond (ltb 0 n && true) y 0
  brought fee y e (inl l) = e ∙ sym (ap (λ k. cond (k && true) y 0) (lt-ltb 0 n l))
  brought fee y e (inr z) = e ∙ z ∙ cond_both (ltb 0 n && true) y 0 (λ v. 0 ≡ v) (λ _. sym z) (λ _. refl)

  nothing_cut : (hours fee : ℕ) → fee ≡ 0 → cut_fee m hours fee ≡ 0
  nothing_cut hours fee z =
      ap (cut_fee m hours) z ∙ cond_both (ltb hours m) (0 * hours / m) 0 (λ v. v ≡ 0) (λ _. ap (λ k. k / m) (zero-mul hours) ∙ zero-div m) (λ _. refl)

  whole_or_none : (hours fee : ℕ) → InRun hours fee n full → (0 < n) ⊎ (full ≡ 0)
  whole_or_none hours fee k = elim k.1 [ inl x ↦ inl x.1 | inr z ↦ inr (sym k.0 ∙ z) ]

  cut_alike : (hours fee : ℕ) → InRun hours fee n full → cut_fee m hours fee ≡ cut_fee m n full
  cut_alike hours fee k =
      elim k.1 [
        | inl x ↦ ap (λ j. cut_fee m j fee) x.0 ∙ ap (cut_fee m n) k.0
        | inr z ↦ nothing_cut hours fee z ∙ sym (nothing_cut n full (sym k.0 ∙ z))
      ]

  cut_or_none : (hours fee : ℕ) → InRun hours fee n full → (0 < n) ⊎ (cut_fee m n full ≡ 0)
  cut_or_none hours fee k = elim k.1 [ inl x ↦ inl x.1 | inr z ↦ inr (nothing_cut n full (sym k.0 ∙ z)) ]

  ended_fee : (s : Commitment) (e : Event) (t l b : Bool) → Seen s t l b → forbidden_by e t l ≡ false → Run s n full
      → closing m s e ≡ cond (ltb 0 n && not (pool_hour_by e b)) (cond (is_trip e) (cut_fee m n full) full) 0
  ended_fee Down e t l b w a k = none_ended (not (pool_hour_by e b)) (cond (is_trip e) (cut_fee m n full) full) k
  ended_fee Tripped e t l b w a k = none_ended (not (pool_hour_by e b)) (cond (is_trip e) (cut_fee m n full) full) k
  ended_fee SelfScheduled e t l b w a k = none_ended (not (pool_hour_by e b)) (cond (is_trip e) (cut_fee m n full) full) k
  ended_fee RestartedOnItsOwn e t l b w a k = none_ended (not (pool_hour_by e b)) (cond (is_trip e) (cut_fee m n full) full) k
  ended_fee (PoolPeriod hours fee) Off t l b w a k = brought fee full k.0 (whole_or_none hours fee k)
  ended_fee (PoolPeriod hours fee) PoolRun t l b w a k = goes_on (not b) full (not_from_true b w.2)
  ended_fee (PoolPeriod hours fee) SelfRun t l b w a k = brought fee full k.0 (whole_or_none hours fee k)
  ended_fee (PoolPeriod hours fee) Trip t l b w a k = brought (cut_fee m hours fee) (cut_fee m n full) (cut_alike hours fee k) (cut_or_none hours fee k)
  ended_fee (PoolPeriod hours fee) IsoRestart t l b w a k = goes_on false full refl
  ended_fee (PoolPeriod hours fee) OwnRestart t l b w a k = absurd (both_ways (not t) a (not_from_false t w.0))

-- WHAT IS KNOWN OF THE PAST where the walk is at a commitment
pub record Past (g : ResourceRecord) (r : RealTimeRecord) (h : ℕ) (s : Commitment) : Type 0 where
  pub seen : Seen s (tripped_before r h) (on_line_before g r h) (begins_a_period (met is_pool_run r h))
  pub run : Run s (pool_streak r h) (full_fee g r (h - pool_streak r h))

seen_like : (s : Commitment) {t t' l l' b b' : Bool} → t ≡ t' → l ≡ l' → b ≡ b' → Seen s t l b → Seen s t' l' b'
seen_like s {t} {t'} {l} {l'} {b} {b'} p q u w = subst (λ x. Seen s x l' b') p (subst (λ y. Seen s t y b') q (subst (λ z. Seen s t l z) u w))

pub past_first : (g : ResourceRecord) (r : RealTimeRecord) → Past g r 0 (at_midnight g.hours_on_line)
unfolding met streak
past_first g r =
    cond_both (ltb 0 g.hours_on_line) (PoolPeriod g.hours_on_line 0) Down (Past g r 0)
    (λ e. record { seen = (refl, e, refl); run = (sym (ap (λ x. cond x 0 (opening_fee g 0)) e), inr refl) })
    (λ e. record { seen = (refl, e, refl); run = refl })

module _ (g : ResourceRecord) (r : RealTimeRecord) (h : ℕ) (s : Commitment) (past : Past g r h s) where
  abbrev NowBy : Option Commitment → Type 0
  NowBy = Follows (event r h) (tripped_before r h) (on_line_before g r h) (begins_a_period (met is_pool_run r h))

  step : NowBy (moved (opening_fee g h) s (event r h))
  step = follows (opening_fee g h) s (event r h) _ _ _ past.seen

  pub forbids : moved (opening_fee g h) s (event r h) ≡ None → forbidden g r h ≡ true
  forbids e = subst NowBy e step

  pub allows : (t : Commitment) → moved (opening_fee g h) s (event r h) ≡ Some t → forbidden g r h ≡ false
  allows t e = (subst NowBy e step).0

  pub pools : (t : Commitment) → moved (opening_fee g h) s (event r h) ≡ Some t → in_period t ≡ pool_hour r h
  pools t e = (subst NowBy e step).1

  run_next : (t : Commitment) → moved (opening_fee g h) s (event r h) ≡ Some t → in_period t ≡ pool_hour r h → Run t (pool_streak r (h + 1)) (full_fee g r (h + 1 - pool_streak r (h + 1)))
  run_next t e p = go t e p
    where
      none : pool_hour r h ≡ false → pool_streak r (h + 1) ≡ 0
      none q = streak_no (pool_hour r) h q

      go : (t : Commitment) → moved (opening_fee g h) s (event r h) ≡ Some t → in_period t ≡ pool_hour r h → Run t (pool_streak r (h + 1)) (full_fee g r (h + 1 - pool_streak r (h + 1)))
      go Down e p = none (sym p)
      go Tripped e p = none (sym p)
      go SelfScheduled e p = none (sym p)
      go RestartedOnItsOwn e p = none (sym p)
      go (PoolPeriod hours fee) e p =
          let one : pool_streak r (h + 1) ≡ pool_streak r h + 1 = streak_yes (pool_hour r) h (sym p) in
          let same : h - pool_streak r h ≡ h + 1 - pool_streak r (h + 1) = omega (arith, one, streak_within (pool_hour r) h) in
          let k = subst (Into (pool_streak r h + 1) (full_fee g r (h - pool_streak r h))) e
          (into (full_fee g r) h (pool_streak r h) (opening_fee g h) _ (on_line_before g r h) _ refl s (event r h) past.seen past.run) in
          subst (λ n. InRun hours fee n (full_fee g r (h + 1 - pool_streak r (h + 1)))) (sym one)
          (subst (λ i. InRun hours fee (pool_streak r h + 1) (full_fee g r i)) same k)

  pub past_next : (t : Commitment) → moved (opening_fee g h) s (event r h) ≡ Some t → Past g r (h + 1) t
  past_next t e =
      record {
        seen = seen_like t
            (sym (ap tripped_at (met_next is_off r h) ∙ tripped_step (event r h) (met is_off r h)))
            (sym (ap (on_line_before g r) (add-one h)))
            (sym (ap begins_a_period (met_next is_pool_run r h) ∙ begun_step (event r h) (met is_pool_run r h)))
            (subst NowBy e step).2;
        run = run_next t e (pools t e);
      }

  pub fee_of_period : commitment g r h ≡ Some s → forbidden g r h ≡ false
      → fee_brought g r h ≡ cond (period_ends r h) (period_fee g r (h - pool_streak r h) (pool_streak r h)) 0
  fee_of_period at a =
      let n = pool_streak r h in
      let m = g.minimum_run_hours in
      let full = full_fee g r (h - n) in
      let e : h - pool_streak r h + pool_streak r h ≡ h = omega (arith, streak_within (pool_hour r) h) in
      ap (λ x. elim x as (λ _. ℕ) [ None ↦ 0 | Some t ↦ closing g.minimum_run_hours t (event r h) ]) at
      ∙ ended_fee m n full s (event r h) _ (on_line_before g r h) _ past.seen a past.run
      ∙ ap (λ i. cond (period_ends r h) (cond (is_trip (event r i)) (cut_fee m n full) full) 0) (sym e)
