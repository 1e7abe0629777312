-- Blocks of Self-Scheduled hours and the gaps between them: the test by streaks is the law by blocks.
use Rattle.std.proofs.Common.{◌≡◌, ℕ, suc, ◌+◌, ◌-◌, ◌<◌, Bool, true, false, cond, not, ◌&&◌, ◌||◌, eqb, ltb, ◌⊎◌, pos, Decides, sym, refl, ap, ◌∙◌, subst, inl, inr, add-one, arith}
use mathlib.Core.Bool.{and_comm, or-false}
use Rattle.std.proofs.lemmas.Bool.{cases_Bool, cases_lt, not-true, not-false, not_from_false, not_from_true, and_from, cond-true, cond-false}
use Rattle.std.proofs.lemmas.Bool.Decides.{nat_tests, Decides-and, Decides-or, Decides-not, Decides-ltb, Decides-like, Decides-below_and}
use Rattle.dayfile.specs.declared.record.ResourceRecord.{ResourceRecord}
use Rattle.credits.specs.Sums.{net}
use Rattle.credits.specs.Spells.{streak}
use Rattle.credits.specs.DayAhead.{self_scheduled, not_self_scheduled, block_hours, short_block, short_gap, qualifies, day_ahead_millicents, day_ahead_hour, SelfScheduleKept, DayAheadByBlocks}
use Rattle.credits.proofs.Streaks.{streak_within, streak_passes, streak_stops, streak_is, spell_streak, streak_spell}

module _ (g : ResourceRecord) where
  -- a block that ends before hour h is too short, or a gap
  abbrev pub short : ℕ → Bool
  short h = short_block g h || short_gap g h

  pub qualifies_none : qualifies g 0 ≡ true
  unfolding qualifies
  qualifies_none = refl

  qualifies_suc : (h : ℕ) → qualifies g (suc h) ≡ (not (short h) && qualifies g h)
  unfolding qualifies
  qualifies_suc h = and_comm (qualifies g h) (not (short h))

  pub qualifies_more : (h : ℕ) → qualifies g h ≡ true → short h ≡ false → qualifies g (h + 1) ≡ true
  qualifies_more h q s =
      ap (qualifies g) (add-one h) ∙ qualifies_suc h ∙ and_from (not (short h)) (qualifies g h) (not_from_false (short h) s) q

  -- the tests of the streak of n hours before hour h, where a block ends and where a gap does
  abbrev pub block_test : ℕ → ℕ → Bool
  block_test h n = ltb 0 n && ltb (n + cond (eqb n h) g.hours_on_line 0) g.minimum_run_hours

  abbrev pub gap_test : ℕ → ℕ → Bool
  gap_test h n = ltb 0 n && (ltb n h && ltb n g.minimum_down_hours)

  short_by : (h : ℕ) (b : Bool) → self_scheduled g h ≡ b
      → short h ≡ ((not b && block_test h (streak (self_scheduled g) h)) || (b && gap_test h (streak (not_self_scheduled g) h)))
  short_by h b e = ap (λ x. (not x && block_test h (streak (self_scheduled g) h)) || (x && gap_test h (streak (not_self_scheduled g) h))) e

  pub short_where_scheduled : (h gap : ℕ) (r : Bool) → self_scheduled g h ≡ true → gap ≡ streak (not_self_scheduled g) h → r ≡ gap_test h gap → short h ≡ r
  short_where_scheduled h gap r e s t = short_by h true e ∙ ap (gap_test h) (sym s) ∙ sym t

  pub short_where_unscheduled : (h block : ℕ) (r : Bool) → self_scheduled g h ≡ false → block ≡ streak (self_scheduled g) h → r ≡ block_test h block → short h ≡ r
  short_where_unscheduled h block r e s t =
      short_by h false e ∙ or-false (block_test h (streak (self_scheduled g) h)) ∙ ap (block_test h) (sym s) ∙ sym t

  -- the same as facts
  abbrev Short : ℕ → Type 0
  Short h =
      ((self_scheduled g h ≡ false) × ((0 < streak (self_scheduled g) h) × (block_hours g h < g.minimum_run_hours)))
      ⊎ ((self_scheduled g h ≡ true) × ((0 < streak (not_self_scheduled g) h) × ((streak (not_self_scheduled g) h < h) × (streak (not_self_scheduled g) h < g.minimum_down_hours))))

  decides_short : (h : ℕ) → Decides (short h) (Short h)
  decides_short h =
      Decides-or (short_block g h) (short_gap g h)
      (Decides-and _ _ (not-true (self_scheduled g h), not_from_false (self_scheduled g h))
      (Decides-and _ _ (Decides-ltb 0 (streak (self_scheduled g) h)) (Decides-ltb (block_hours g h) g.minimum_run_hours)))
      (Decides-and _ _ (λ e. e, λ e. e)
      (Decides-and _ _ (Decides-ltb 0 (streak (not_self_scheduled g) h))
      (Decides-and _ _ (Decides-ltb (streak (not_self_scheduled g) h) h) (Decides-ltb (streak (not_self_scheduled g) h) g.minimum_down_hours))))

  decides_none_short : (n : ℕ) → Decides (qualifies g n) ((h : ℕ) → h < n → Short h → ⊥)
  decides_none_short n =
      Decides-below_and (λ h. not (short h)) (λ h. Short h → ⊥) (qualifies g)
      (λ h. Decides-not (short h) (decides_short h)) qualifies_none qualifies_suc n

  -- one short block or gap is enough
  pub not_qualified : (h : ℕ) → h < 24 → short h ≡ true → false ≡ qualifies g 24
  not_qualified h l s =
      elim (cases_Bool (qualifies g 24)) [
        | inl y ↦ absurd ((decides_none_short 24).0 y h l ((decides_short h).0 s))
        | inr n ↦ sym n
      ]

  -- the hours of a block, by its first hour
  block_from : (first n h : ℕ) → first + n ≡ h → streak (self_scheduled g) h ≡ n → block_hours g h ≡ n + cond (eqb first 0) g.hours_on_line 0
  block_from first n h e s =
      let same : eqb n h ≡ eqb first 0 = grind (arith, nat_tests) in
      ap (λ k. k + cond (eqb k h) g.hours_on_line 0) s ∙ ap (λ b. n + cond b g.hours_on_line 0) same

  long_kept : ((h : ℕ) → h < 24 → Short h → ⊥) → SelfScheduleKept g
  long_kept long =
      record {
        blocks = λ first n s.
            let e = spell_streak (self_scheduled g) first n s in
            elim s.behind [
              | inl end ↦ inl end
              | inr f ↦ elim (cases_lt (first + n) 24) [
                | inl l ↦ elim (cases_lt (block_hours g (first + n)) g.minimum_run_hours) [
                  | inl short ↦ absurd (long (first + n) l (inl (f, (omega (arith, s.some), short))))
                  | inr fine ↦ inr (omega (arith, block_from first n (first + n) refl e))
                ]
                | inr m ↦ inl (omega (arith, s.within))
              ]
            ];
        gaps = λ first n s.
            let e =
            streak_is (not_self_scheduled g) first n (λ h a b. not_from_false (self_scheduled g h) (s.between h a b))
            (inr (not_from_true (self_scheduled g (first - 1)) s.block_before)) in
            elim (cases_lt (streak (not_self_scheduled g) (first + n)) g.minimum_down_hours) [
              | inl short ↦
                  absurd (long (first + n) s.before_a_block (inr (s.block_behind, (omega (arith, s.some), (omega (arith, s.behind_a_block), short)))))
              | inr fine ↦ omega arith
            ];
      }

  kept_long : SelfScheduleKept g → (h : ℕ) → h < 24 → Short h → ⊥
  kept_long k h l (inl s) =
      let n = streak (self_scheduled g) h in
      let w = streak_within (self_scheduled g) h in
      let e : (h - n) + n ≡ h = omega arith in
      elim (k.blocks (h - n) n (streak_spell (self_scheduled g) h (omega arith) s.1.0 (inr s.0))) [
        | inl end ↦ absurd (omega arith)
        | inr fine ↦ absurd (omega (arith, block_from (h - n) n h e refl, s.1.1))
      ]
  kept_long k h l (inr s) =
      let n = streak (not_self_scheduled g) h in
      let w = streak_within (not_self_scheduled g) h in
      let e : h ≡ (h - n) + n = omega arith in
      let fine =
      k.gaps (h - n) n (record {
        some = s.1.0;
        behind_a_block = omega (arith, s.1.1.0);
        before_a_block = omega arith;
        between = λ j a b. not-true (self_scheduled g j) (streak_passes (not_self_scheduled g) h j (omega arith) (omega arith));
        block_before = not-false (self_scheduled g (h - n - 1)) (streak_stops (not_self_scheduled g) h (h - n - 1) (omega (arith, s.1.1.0)));
        block_behind = subst (λ j. self_scheduled g j ≡ true) e s.0;
      }) in
      absurd (omega (arith, s.1.1.1))

  pub by_blocks : DayAheadByBlocks g
  unfolding day_ahead_millicents
  by_blocks =
      let law = Decides-like (qualifies g 24) long_kept kept_long (decides_none_short 24) in
      record {
        just_where = law;
        kept = λ k. cond-true (qualifies g 24) (net (day_ahead_hour g) 24) (pos 0) (law.1 k);
        broken = λ b.
            elim (cases_Bool (qualifies g 24)) [
              | inl y ↦ absurd (b (law.0 y))
              | inr n ↦ cond-false (qualifies g 24) (net (day_ahead_hour g) 24) (pos 0) n
            ];
      }
