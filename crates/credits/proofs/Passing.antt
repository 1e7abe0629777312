-- An hour of the walk through a real-time day.
use Rattle.std.proofs.Common.{◌≡◌, ℕ, zero, suc, ◌+◌, ◌*◌, ◌/◌, ◌<◌, ◌≤◌, Bool, false, cond, ltb, length, ℤ, pos, ◌+ℤ◌, neg_ℤ, ◌≤ℤ◌, Some, None, Option, Err, Result, ok_or, sym, refl, ap, ◌∙◌, subst, add-zero, mul_comm, mul-le-mul_left, add-one, arith}
use native.Mathlib.Nat.{div-le_of_le-mul}
use Rattle.std.proofs.lemmas.Int.{ints}
use Rattle.std.proofs.lemmas.List.{get_or_past}
use Rattle.std.proofs.lemmas.Bool.{cond_both, ltb-true}
use Rattle.dayfile.specs.declared.record.ResourceRecord.{ResourceRecord}
use Rattle.dayfile.specs.declared.record.RealTimeRecord.{RealTimeRecord}
use Rattle.dayfile.specs.declared.record.Event.{Event}
use Rattle.dayfile.specs.declared.record.Event.TheVariants.{Off, PoolRun, SelfRun, Trip, IsoRestart, OwnRestart}
use Rattle.credits.specs.declared.commitment.Commitment.{Commitment}
use Rattle.credits.specs.declared.commitment.Commitment.TheVariants.{Down, Tripped, PoolPeriod, SelfScheduled, RestartedOnItsOwn}
use Rattle.credits.specs.declared.forbidden.ForbiddenEvent.{ForbiddenEvent}
use Rattle.credits.specs.declared.walk.Walk.{Walk}
use Rattle.credits.specs.Sums.{total, net}
use Rattle.credits.specs.Commitments.{moved, cut_fee, closing, in_period, at_midnight}
use Rattle.credits.specs.RealTime.{event, opening_fee, commitment, eligible, fee_brought, eligible_hour, real_time_hour, forbidden_hour, real_time_millicents}
use Rattle.credits.specs.Walks.{Advances, Light, Stands}
use Rattle.credits.proofs.Totals.{total_more}
use Rattle.credits.proofs.Worths.{net_more}

pub same_walk : (u v : Walk) → u.commitment ≡ v.commitment → u.fees ≡ v.fees → u.net ≡ v.net → u ≡ v
same_walk u v p q r = λ i. record { commitment = p i; fees = q i; net = r i }

-- what an advance says, by its answer
pub advances_none : (o : Option Commitment) (fee : ℕ) (w a : Walk) (r : Option (Unit {0})) → r ≡ None → Advances o fee w r a → o ≡ None
advances_none None fee w a r n h = refl
advances_none (Some s) fee w a r n h = let e : ◌≡◌ {A = Option (Unit {0})} (Some tt) None = sym h.0 ∙ n in absurd cc

pub advances_some : (o : Option Commitment) (fee : ℕ) (w a : Walk) (r : Option (Unit {0})) → r ≡ Some tt → Advances o fee w r a
    → (s : Commitment) × ((o ≡ Some s) × (a ≡ record { commitment = s; fees = w.fees + fee; net = w.net }))
advances_some None fee w a r n h = let e : ◌≡◌ {A = Option (Unit {0})} (Some tt) None = sym n ∙ h.0 in absurd cc
advances_some (Some s) fee w a r n h = (s, (refl, h.1))

-- what is told of an advance that is refused
pub refused_with : (o : Option (Unit {0})) (e x : ForbiddenEvent) → o ≡ None → Err x ≡ ok_or o e → x ≡ e
refused_with o e x n q = let r : ◌≡◌ {A = Result (Unit {0}) ForbiddenEvent} (Err x) (Err e) = q ∙ ap (λ p. ok_or p e) n in cc

-- the commitment of the next hour
pub commitment_next : (g : ResourceRecord) (r : RealTimeRecord) (h : ℕ) (s : Commitment) → commitment g r h ≡ Some s
    → commitment g r (h + 1) ≡ moved (opening_fee g h) s (event r h)
unfolding commitment
commitment_next g r h s e =
    ap (commitment g r) (add-one h) ∙ ap (λ o. elim o as (λ _. Option Commitment) [ None ↦ None | Some t ↦ moved (opening_fee g h) t (event r h) ]) e

-- a fee that is cut is no more than the whole
pub cut_less : (minimum hours fee : ℕ) → cut_fee minimum hours fee ≤ fee
cut_less minimum hours fee =
    cond_both (ltb hours minimum) (fee * hours / minimum) fee (λ x. x ≤ fee)
    (λ e. div-le_of_le-mul minimum (let l = ltb-true hours minimum e in let m : fee * hours ≤ fee * minimum = mul-le-mul_left fee (omega arith) in omega (arith, mul_comm minimum fee)))
    (λ e. omega arith)

abbrev LightIf : ℕ → Option Commitment → Type 0
LightIf most None = Unit {0}
LightIf most (Some s) = Light most s

moved_light : (most opening : ℕ) (s : Commitment) (e : Event) → opening ≤ 100000000000 → 0 < most → Light most s → LightIf (most + 1) (moved opening s e)
moved_light most opening Down Off o p l = tt
moved_light most opening Down PoolRun o p l = (omega arith, o)
moved_light most opening Down SelfRun o p l = tt
moved_light most opening Down Trip o p l = tt
moved_light most opening Down IsoRestart o p l = tt
moved_light most opening Down OwnRestart o p l = tt
moved_light most opening Tripped Off o p l = tt
moved_light most opening Tripped PoolRun o p l = tt
moved_light most opening Tripped SelfRun o p l = tt
moved_light most opening Tripped Trip o p l = tt
moved_light most opening Tripped IsoRestart o p l = (omega arith, o)
moved_light most opening Tripped OwnRestart o p l = tt
moved_light most opening (PoolPeriod hours fee) Off o p l = tt
moved_light most opening (PoolPeriod hours fee) PoolRun o p l = (omega arith, l.1)
moved_light most opening (PoolPeriod hours fee) SelfRun o p l = tt
moved_light most opening (PoolPeriod hours fee) Trip o p l = tt
moved_light most opening (PoolPeriod hours fee) IsoRestart o p l = tt
moved_light most opening (PoolPeriod hours fee) OwnRestart o p l = tt
moved_light most opening SelfScheduled Off o p l = tt
moved_light most opening SelfScheduled PoolRun o p l = (omega arith, omega arith)
moved_light most opening SelfScheduled SelfRun o p l = tt
moved_light most opening SelfScheduled Trip o p l = tt
moved_light most opening SelfScheduled IsoRestart o p l = tt
moved_light most opening SelfScheduled OwnRestart o p l = tt
moved_light most opening RestartedOnItsOwn Off o p l = tt
moved_light most opening RestartedOnItsOwn PoolRun o p l = tt
moved_light most opening RestartedOnItsOwn SelfRun o p l = tt
moved_light most opening RestartedOnItsOwn Trip o p l = tt
moved_light most opening RestartedOnItsOwn IsoRestart o p l = tt
moved_light most opening RestartedOnItsOwn OwnRestart o p l = tt

pub closing_small : (most minimum : ℕ) (s : Commitment) (e : Event) → Light most s → closing minimum s e ≤ 100000000000
closing_small most minimum Down e l = omega arith
closing_small most minimum Tripped e l = omega arith
closing_small most minimum SelfScheduled e l = omega arith
closing_small most minimum RestartedOnItsOwn e l = omega arith
closing_small most minimum (PoolPeriod hours fee) Off l = l.1
closing_small most minimum (PoolPeriod hours fee) PoolRun l = omega arith
closing_small most minimum (PoolPeriod hours fee) SelfRun l = l.1
closing_small most minimum (PoolPeriod hours fee) Trip l = omega (arith, cut_less minimum hours fee)
closing_small most minimum (PoolPeriod hours fee) IsoRestart l = omega arith
closing_small most minimum (PoolPeriod hours fee) OwnRestart l = omega arith

pub light_more : (m n : ℕ) (s : Commitment) → m ≤ n → Light m s → Light n s
light_more m n Down l h = tt
light_more m n Tripped l h = tt
light_more m n (PoolPeriod hours fee) l h = (omega arith, h.1)
light_more m n SelfScheduled l h = tt
light_more m n RestartedOnItsOwn l h = tt

-- WHERE A WALK STANDS an hour later
module _ (g : ResourceRecord) (r : RealTimeRecord) (h : ℕ) (w : Walk) (st : Stands g r h w) where
  pub stopped_here : moved (opening_fee g h) w.commitment (event r h) ≡ None → commitment g r (h + 1) ≡ None
  stopped_here e = commitment_next g r h w.commitment st.at ∙ e

  pub eligible_here : (s : Commitment) → moved (opening_fee g h) w.commitment (event r h) ≡ Some s → eligible g r h ≡ in_period s
  eligible_here s e =
      ap (λ o. elim o as (λ _. Bool) [ None ↦ false | Some t ↦ in_period t ]) (commitment_next g r h w.commitment st.at ∙ e)

  pub stands_next : (s : Commitment) (amount : ℤ) → opening_fee g h ≤ 100000000000 → moved (opening_fee g h) w.commitment (event r h) ≡ Some s
      → amount ≡ cond (in_period s) (real_time_hour g r h) (pos 0) → neg_ℤ (pos 1000000000000) ≤ℤ amount → amount ≤ℤ pos 1000000000000
      → Stands g r (h + 1) (record { commitment = s; fees = w.fees + closing g.minimum_run_hours w.commitment (event r h); net = w.net +ℤ amount })
  stands_next s amount o e a low high =
      let fee : fee_brought g r h ≡ closing g.minimum_run_hours w.commitment (event r h) =
      ap (λ x. elim x as (λ _. ℕ) [ None ↦ 0 | Some t ↦ closing g.minimum_run_hours t (event r h) ]) st.at in
      let hour : eligible_hour g r h ≡ amount = ap (λ b. cond b (real_time_hour g r h) (pos 0)) (eligible_here s e) ∙ sym a in
      let small = closing_small (255 + h) g.minimum_run_hours w.commitment (event r h) st.light in
      let lo = st.above in
      let hi = st.below in
      record {
        at = commitment_next g r h w.commitment st.at ∙ e;
        fees = omega (arith, st.fees, fee, total_more (fee_brought g r) h);
        net = ap (λ z. z +ℤ amount) st.net ∙ ap (λ z. net (eligible_hour g r) h +ℤ z) (sym hour) ∙ sym (net_more (eligible_hour g r) h);
        light = subst (LightIf (255 + (h + 1))) e (light_if (moved (opening_fee g h) w.commitment (event r h)) (moved_light (255 + h) (opening_fee g h) w.commitment (event r h) o (omega arith) st.light));
        few = omega (arith, st.few, small);
        above = omega (arith, ints);
        below = omega (arith, ints);
      }
    where
      light_if : (x : Option Commitment) → LightIf (255 + h + 1) x → LightIf (255 + (h + 1)) x
      light_if None l = tt
      light_if (Some t) l = light_more (255 + h + 1) (255 + (h + 1)) t (omega arith) l

-- and at midnight
pub stands_first : (g : ResourceRecord) (r : RealTimeRecord) → g.hours_on_line ≤ 255
    → Stands g r 0 (record { commitment = at_midnight g.hours_on_line; fees = 0; net = pos 0 })
unfolding commitment total net
stands_first g r l =
    record {
      at = refl;
      fees = refl;
      net = refl;
      light = cond_both (ltb 0 g.hours_on_line) (PoolPeriod g.hours_on_line 0) Down (Light 255) (λ _. (l, omega arith)) (λ _. tt);
      few = omega arith;
      above = omega (arith, ints);
      below = omega (arith, ints);
    }

-- the first forbidden hour
abbrev pub forbidden_step : ℕ → Option Commitment → Option ℕ → Option ℕ
forbidden_step h o (Some x) = Some x
forbidden_step h o None = elim o [ None ↦ Some (h + 1) | Some s ↦ None ]

pub forbidden_next : (g : ResourceRecord) (r : RealTimeRecord) (h : ℕ) → forbidden_hour g r (h + 1) ≡ forbidden_step h (commitment g r (h + 1)) (forbidden_hour g r h)
unfolding forbidden_hour
forbidden_next g r h = ap (forbidden_hour g r) (add-one h) ∙ go (forbidden_hour g r h)
  where
    go : (o : Option ℕ) → elim o as (λ _. Option ℕ) [ Some x ↦ Some x | None ↦ elim (commitment g r (h + 1)) as (λ _. Option ℕ) [ None ↦ Some (h + 1) | Some s ↦ None ] ] ≡ forbidden_step h (commitment g r (h + 1)) o
    go (Some x) = refl
    go None = refl

pub allowed_next : (g : ResourceRecord) (r : RealTimeRecord) (h : ℕ) (s : Commitment) → forbidden_hour g r h ≡ None → commitment g r (h + 1) ≡ Some s → forbidden_hour g r (h + 1) ≡ None
allowed_next g r h s n e = forbidden_next g r h ∙ ap (forbidden_step h (commitment g r (h + 1))) n ∙ ap (λ o. forbidden_step h o None) e

pub forbidden_here : (g : ResourceRecord) (r : RealTimeRecord) (h : ℕ) → forbidden_hour g r h ≡ None → commitment g r (h + 1) ≡ None → forbidden_hour g r (h + 1) ≡ Some (h + 1)
forbidden_here g r h n e = forbidden_next g r h ∙ ap (forbidden_step h (commitment g r (h + 1))) n ∙ ap (λ o. forbidden_step h o None) e

-- it stays the first, whatever follows
pub forbidden_stays : (g : ResourceRecord) (r : RealTimeRecord) (h k x : ℕ) → forbidden_hour g r h ≡ Some x → forbidden_hour g r (h + k) ≡ Some x
forbidden_stays g r h zero x e = ap (forbidden_hour g r) (add-zero h) ∙ e
forbidden_stays g r h (suc k) x e =
    let q : h + suc k ≡ h + k + 1 = omega arith in
    ap (forbidden_hour g r) q ∙ forbidden_next g r (h + k) ∙ ap (forbidden_step (h + k) (commitment g r (h + k + 1))) (forbidden_stays g r h k x e)

pub none_forbidden_yet : (g : ResourceRecord) (r : RealTimeRecord) → forbidden_hour g r 0 ≡ None
unfolding forbidden_hour
none_forbidden_yet g r = refl

-- no fee is cut at the day's end
closing_off : (m n : ℕ) (s : Commitment) → closing m s Off ≡ closing n s Off
closing_off m n Down = refl
closing_off m n Tripped = refl
closing_off m n (PoolPeriod hours fee) = refl
closing_off m n SelfScheduled = refl
closing_off m n RestartedOnItsOwn = refl

-- THE DAY'S SUM where a walk stands at its end
pub day_summed : (g : ResourceRecord) (r : RealTimeRecord) (w : Walk) → length r.events ≡ 24 → Stands g r 24 w
    → real_time_millicents g r ≡ pos (w.fees + closing 0 w.commitment Off) +ℤ w.net
unfolding real_time_millicents
day_summed g r w l st =
    let off : event r 24 ≡ Off = get_or_past r.events 24 Off (omega (arith, l)) in
    let last : fee_brought g r 24 ≡ closing 0 w.commitment Off =
    ap (λ x. elim x as (λ _. ℕ) [ None ↦ 0 | Some t ↦ closing g.minimum_run_hours t (event r 24) ]) st.at
    ∙ ap (closing g.minimum_run_hours w.commitment) off ∙ closing_off g.minimum_run_hours 0 w.commitment in
    ap (λ n. pos n +ℤ net (eligible_hour g r) 24) (total_more (fee_brought g r) 24 ∙ ap (λ n. total (fee_brought g r) 24 + n) last)
    ∙ ap (λ n. pos (n + closing 0 w.commitment Off) +ℤ net (eligible_hour g r) 24) (sym st.fees)
    ∙ ap (λ z. pos (w.fees + closing 0 w.commitment Off) +ℤ z) (sym st.net)
