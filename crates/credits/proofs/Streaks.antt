-- Streaks: how many hours in a row, right before an hour, pass a test. Spells are streaks that end.
use Rattle.std.proofs.Common.{◌≡◌, ℕ, zero, suc, ◌+◌, ◌-◌, ◌<◌, ◌≤◌, Bool, true, false, ◌⊎◌, refl, ap, ◌∙◌, subst, inl, inr, add-one, arith}
use Rattle.std.proofs.lemmas.Bool.{cases_Bool, cases_eq, cond-true, cond-false}
use Rattle.credits.specs.Spells.{streak, Spell}

module _ (test : ℕ → Bool) where
  pub streak_none : streak test 0 ≡ 0
  unfolding streak
  streak_none = refl

  suc_yes : (h : ℕ) → test h ≡ true → streak test (suc h) ≡ streak test h + 1
  unfolding streak
  suc_yes h e = cond-true (test h) (streak test h + 1) 0 e

  suc_no : (h : ℕ) → test h ≡ false → streak test (suc h) ≡ 0
  unfolding streak
  suc_no h e = cond-false (test h) (streak test h + 1) 0 e

  -- one hour more: it passes, or it does not
  pub streak_yes : (h : ℕ) → test h ≡ true → streak test (h + 1) ≡ streak test h + 1
  streak_yes h e = ap (streak test) (add-one h) ∙ suc_yes h e

  pub streak_no : (h : ℕ) → test h ≡ false → streak test (h + 1) ≡ 0
  streak_no h e = ap (streak test) (add-one h) ∙ suc_no h e

  pub streak_within : (h : ℕ) → streak test h ≤ h
  streak_within zero = omega (arith, streak_none)
  streak_within (suc h) =
      elim (cases_Bool (test h)) [
        | inl y ↦ omega (arith, suc_yes h y, streak_within h)
        | inr n ↦ omega (arith, suc_no h n)
      ]

  -- its hours pass, and the hour before them, if any, does not
  pub streak_passes : (h k : ℕ) → k < h → h ≤ k + streak test h → test k ≡ true
  streak_passes zero k l m = absurd (omega arith)
  streak_passes (suc h) k l m =
      elim (cases_Bool (test h)) [
        | inl y ↦ elim (cases_eq k h) [
          | inl e ↦ ap test e ∙ y
          | inr d ↦ streak_passes h k (omega arith) (omega (arith, suc_yes h y))
        ]
        | inr n ↦ absurd (omega (arith, suc_no h n))
      ]

  pub streak_stops : (h k : ℕ) → k + 1 + streak test h ≡ h → test k ≡ false
  streak_stops zero k m = absurd (omega arith)
  streak_stops (suc h) k m =
      elim (cases_Bool (test h)) [
        | inl y ↦ streak_stops h k (omega (arith, suc_yes h y))
        | inr n ↦ ap test (omega (arith, suc_no h n)) ∙ n
      ]

  -- and such hours are a streak
  pub streak_is : (first n : ℕ) → ((h : ℕ) → first ≤ h → h < first + n → test h ≡ true) → (first ≡ 0) ⊎ (test (first - 1) ≡ false)
      → streak test (first + n) ≡ n
  streak_is zero zero pass start = streak_none
  streak_is (suc f) zero pass start =
      elim start [
        | inl e ↦ absurd (omega arith)
        | inr n ↦ ap (streak test) (omega arith) ∙ suc_no f (ap test (omega arith) ∙ n)
      ]
  streak_is first (suc n) pass start =
      let e = streak_is first n (λ h l m. pass h l (omega arith)) start in
      let y = suc_yes (first + n) (pass (first + n) (omega arith) (omega arith)) in
      ap (streak test) (omega arith) ∙ y ∙ omega arith

  -- a spell is the streak before its end
  pub spell_streak : (first n : ℕ) → Spell test first n → streak test (first + n) ≡ n
  spell_streak first n s = streak_is first n s.passing s.before

  pub streak_start : (h : ℕ) → (h - streak test h ≡ 0) ⊎ (test (h - streak test h - 1) ≡ false)
  streak_start h =
      elim (cases_eq (h - streak test h) 0) [
        | inl e ↦ inl e
        | inr d ↦ inr (streak_stops h (h - streak test h - 1) (omega arith))
      ]

  pub streak_spell : (h : ℕ) → h ≤ 24 → 0 < streak test h → (h ≡ 24) ⊎ (test h ≡ false) → Spell test (h - streak test h) (streak test h)
  streak_spell h within some behind =
      let w = streak_within h in
      let e : h ≡ (h - streak test h) + streak test h = omega arith in
      record {
        some = some;
        within = omega arith;
        passing = λ k l m. streak_passes h k (omega arith) (omega arith);
        before = streak_start h;
        behind = subst (λ k. (k ≡ 24) ⊎ (test k ≡ false)) e behind;
      }
