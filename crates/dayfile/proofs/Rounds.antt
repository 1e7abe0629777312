-- What is written reads back, and what was read is written again.
use Rattle.std.proofs.Common.{◌≡◌, ℕ, true, eqb, ◌⊎◌, List, ◌∷◌, ◌++◌, length, get_or, take, drop, None, sym, ap, ◌∙◌, subst, inl, inr, arith}
use Rattle.std.specs.List.{flat_map}
use Rattle.std.proofs.lemmas.List.{append_assoc, length-drop, take_all, take-append-drop}
use Rattle.std.proofs.lemmas.Bool.{cond-true, cond-false, cond_both, or_cases, eqb-true, eq-eqb, ne_eqb}
use Rattle.dayfile.specs.declared.block.Block.{Block}
use Rattle.dayfile.specs.declared.block.Block.TheVariants.{Day as DayBlock, Participant as ParticipantBlock, Resource as ResourceBlock, RealTime as RealTimeBlock}
use Rattle.dayfile.specs.declared.record.Record.{Record}
use Rattle.dayfile.specs.declared.record.Record.TheVariants.{Day, Participant, Resource, RealTime}
use Rattle.dayfile.specs.Blocks.{Shows, shown}
use Rattle.dayfile.specs.Bytes.{digits, value, weighed, zeros}
use Rattle.dayfile.specs.Layout.{first_fault, table_for}
use Rattle.dayfile.specs.Files.{checked, known}
use Rattle.dayfile.specs.Records.{word_bytes, signed_bytes, flag_bytes, event_bytes, load_bytes, owner_bytes, hour_bytes, day_of, participant_of, resource_of, real_time_of, record_of, body, encode, sealed, kind_of}
use Rattle.dayfile.specs.Writing.{Fitting}
use Rattle.dayfile.proofs.Numbers.{Bytes, bytes_drop, digits_number}
use Rattle.dayfile.proofs.Encodings.{encode_is}
use Rattle.dayfile.proofs.Agains.{day_again, participant_again, resource_again, real_time_again, day_fits, participant_fits, resource_fits, real_time_fits}
use Rattle.dayfile.proofs.Backs.{day_back, participant_back, resource_back, real_time_back}

-- WHAT IS WRITTEN READS BACK
grouped_five : (a b c d e k : List ℕ) → (a ++ (b ++ (c ++ (d ++ e)))) ++ k ≡ a ++ (b ++ (c ++ (d ++ (e ++ k))))
grouped_five a b c d e k = simp append_assoc

grouped_six : (a b c d e f k : List ℕ) → (a ++ (b ++ (c ++ (d ++ (e ++ f))))) ++ k ≡ a ++ (b ++ (c ++ (d ++ (e ++ (f ++ k)))))
grouped_six a b c d e f k = simp append_assoc

grouped_all : (a b c d e f g h i j k l m n o p z : List ℕ)
    → (a ++ (b ++ (c ++ (d ++ (e ++ (f ++ (g ++ (h ++ (i ++ (j ++ (k ++ (l ++ (m ++ (n ++ (o ++ p))))))))))))))) ++ z
    ≡ a ++ (b ++ (c ++ (d ++ (e ++ (f ++ (g ++ (h ++ (i ++ (j ++ (k ++ (l ++ (m ++ (n ++ (o ++ (p ++ z)))))))))))))))
grouped_all a b c d e f g h i j k l m n o p z = simp append_assoc

pub reads_back : (r : Record) → Fitting r → record_of (encode r) ≡ r
unfolding encode
reads_back (Day d) f =
    let k = digits 4 (weighed 0 (body (Day d))) in
    ap (λ t. Day (day_of (68 ∷ 0 ∷ 0 ∷ 0 ∷ t))) (grouped_five (digits 4 d.date) (digits 2 d.version) (digits 1 d.participants) (digits 1 d.resources) (zeros 496) k)
    ∙ ap Day (day_back d (zeros 496 ++ k) f)
reads_back (Participant p) f =
    let k = digits 4 (weighed 0 (body (Participant p))) in
    ap (λ t. Participant (participant_of (80 ∷ 0 ∷ 0 ∷ 0 ∷ t)))
    (grouped_five (digits 4 p.number) (flat_map load_bytes p.loads) (digits 4 p.network_load) (digits 4 p.scr_weight) (zeros 396) k)
    ∙ ap Participant (participant_back p (zeros 396 ++ k) f)
reads_back (Resource g) f =
    let k = digits 4 (weighed 0 (body (Resource g))) in
    ap (λ t. Resource (resource_of (71 ∷ t)))
    (grouped_all (digits 1 g.region) (digits 1 g.minimum_run_hours) (digits 1 g.minimum_down_hours) (digits 4 g.number) (digits 4 g.start_up_cents) (digits 4 g.no_load_cents)
    (flat_map signed_bytes g.prices) (digits 1 g.hours_on_line) (digits 1 g.owner_count) (zeros 2) (digits 4 g.self_scheduled) (flat_map owner_bytes g.owners)
    (flat_map word_bytes g.cleared_kwh) (flat_map signed_bytes g.lmps) (flat_map flag_bytes g.flags) (zeros 124) k)
    ∙ ap Resource (resource_back g (zeros 124 ++ k) f)
reads_back (RealTime r) f =
    let k = digits 4 (weighed 0 (body (RealTime r))) in
    ap (λ t. RealTime (real_time_of (82 ∷ 0 ∷ 0 ∷ 0 ∷ t)))
    (grouped_six (digits 4 r.number) (digits 4 r.economic_minimum_kwh) (flat_map hour_bytes r.hours) (flat_map event_bytes r.events) (flat_map flag_bytes r.flags) (zeros 160) k)
    ∙ ap RealTime (real_time_back r (zeros 160 ++ k) f)

-- THE KINDS of a block, by its letter
pub letters : (k : ℕ) → known k ≡ true → (k ≡ 68) ⊎ ((k ≡ 80) ⊎ ((k ≡ 71) ⊎ (k ≡ 82)))
letters k e =
    elim (or_cases (eqb k 68) _ e) [
      | inl p ↦ inl (eqb-true k 68 p)
      | inr q ↦ elim (or_cases (eqb k 80) _ q) [
        | inl p ↦ inr (inl (eqb-true k 80 p))
        | inr r ↦ elim (or_cases (eqb k 71) (eqb k 82) r) [ inl p ↦ inr (inr (inl (eqb-true k 71 p))) | inr p ↦ inr (inr (inr (eqb-true k 82 p))) ]
      ]
    ]

module _ (b : List ℕ) where
  pub record_day : get_or b 0 0 ≡ 68 → record_of b ≡ Day (day_of b)
  record_day e = cond-true (eqb (get_or b 0 0) 68) _ _ (eq-eqb (get_or b 0 0) 68 e)

  pub record_participant : get_or b 0 0 ≡ 80 → record_of b ≡ Participant (participant_of b)
  record_participant e =
      cond-false (eqb (get_or b 0 0) 68) _ _ (ne_eqb (get_or b 0 0) 68 (λ z. absurd (omega (arith, e, z))))
      ∙ cond-true (eqb (get_or b 0 0) 80) _ _ (eq-eqb (get_or b 0 0) 80 e)

  pub record_resource : get_or b 0 0 ≡ 71 → record_of b ≡ Resource (resource_of b)
  record_resource e =
      cond-false (eqb (get_or b 0 0) 68) _ _ (ne_eqb (get_or b 0 0) 68 (λ z. absurd (omega (arith, e, z))))
      ∙ cond-false (eqb (get_or b 0 0) 80) _ _ (ne_eqb (get_or b 0 0) 80 (λ z. absurd (omega (arith, e, z))))
      ∙ cond-true (eqb (get_or b 0 0) 71) _ _ (eq-eqb (get_or b 0 0) 71 e)

  pub record_real_time : get_or b 0 0 ≡ 82 → record_of b ≡ RealTime (real_time_of b)
  record_real_time e =
      cond-false (eqb (get_or b 0 0) 68) _ _ (ne_eqb (get_or b 0 0) 68 (λ z. absurd (omega (arith, e, z))))
      ∙ cond-false (eqb (get_or b 0 0) 80) _ _ (ne_eqb (get_or b 0 0) 80 (λ z. absurd (omega (arith, e, z))))
      ∙ cond-false (eqb (get_or b 0 0) 71) _ _ (ne_eqb (get_or b 0 0) 71 (λ z. absurd (omega (arith, e, z))))

  pub kind_again : known (get_or b 0 0) ≡ true → kind_of (record_of b) ≡ get_or b 0 0
  kind_again e =
      elim (letters (get_or b 0 0) e) [
        | inl k ↦ ap kind_of (record_day k) ∙ sym k
        | inr (inl k) ↦ ap kind_of (record_participant k) ∙ sym k
        | inr (inr (inl k)) ↦ ap kind_of (record_resource k) ∙ sym k
        | inr (inr (inr k)) ↦ ap kind_of (record_real_time k) ∙ sym k
      ]

  pub fitting_again : Bytes b → Fitting (record_of b)
  fitting_again h =
      cond_both (eqb (get_or b 0 0) 68) _ _ Fitting (λ _. day_fits b h)
      (λ _. cond_both (eqb (get_or b 0 0) 80) _ _ Fitting (λ _. participant_fits b h)
      (λ _. cond_both (eqb (get_or b 0 0) 71) _ _ Fitting (λ _. resource_fits b h) (λ _. real_time_fits b h)))

  -- WHAT WAS READ IS WRITTEN AGAIN
  pub body_again : length b ≡ 512 → Bytes b → known (get_or b 0 0) ≡ true → first_fault (table_for (get_or b 0 0)) b ≡ None → body (record_of b) ≡ take 508 b
  body_again l h e f =
      elim (letters (get_or b 0 0) e) [
        | inl k ↦ ap body (record_day k) ∙ day_again b l h k (subst (λ n. first_fault (table_for n) b ≡ None) k f)
        | inr (inl k) ↦ ap body (record_participant k) ∙ participant_again b l h k (subst (λ n. first_fault (table_for n) b ≡ None) k f)
        | inr (inr (inl k)) ↦ ap body (record_resource k) ∙ resource_again b l h k (subst (λ n. first_fault (table_for n) b ≡ None) k f)
        | inr (inr (inr k)) ↦ ap body (record_real_time k) ∙ real_time_again b l h k (subst (λ n. first_fault (table_for n) b ≡ None) k f)
      ]

  sealed_again : length b ≡ 512 → Bytes b → checked b ≡ true → sealed (take 508 b) ≡ b
  sealed_again l h e =
      let d = length-drop 508 b in
      ap (λ n. take 508 b ++ digits 4 n) (sym (eqb-true (value 508 4 b) (weighed 0 (take 508 b)) e))
      ∙ ap (λ t. take 508 b ++ t) (digits_number 4 (drop 508 b) (omega (arith, d)) (bytes_drop 508 b h) ∙ take_all 4 (drop 508 b) (omega (arith, d)))
      ∙ take-append-drop 508 b

  pub written_again : length b ≡ 512 → Bytes b → known (get_or b 0 0) ≡ true → checked b ≡ true → first_fault (table_for (get_or b 0 0)) b ≡ None → encode (record_of b) ≡ b
  written_again l h e c f = encode_is (record_of b) ∙ ap sealed (body_again l h e f) ∙ sealed_again l h c

  -- WHAT A BLOCK SHOWS is its record
  pub shown_is : (blk : Block) → Shows b blk → shown blk ≡ record_of b
  shown_is (DayBlock head) s = simp s.1 (sym (record_day s.0))
  shown_is (ParticipantBlock number loads weights) s = simp (s.1, s.2, s.3) (sym (record_participant s.0))
  shown_is (ResourceBlock region run down number fees prices status owners cleared lmps flags) s =
      simp (s.1, s.2, s.3, s.4, s.5, s.6, s.7, s.8, s.9, s.10, s.11) (sym (record_resource s.0))
  shown_is (RealTimeBlock number minimum hours events flags) s = simp (s.1, s.2, s.3, s.4, s.5) (sym (record_real_time s.0))
