-- A record keeps its limits just where its numbers fit and its table finds no fault.
use Rattle.std.proofs.Common.{◌≡◌, ℕ, zero, suc, ◌+◌, ◌-◌, ◌*◌, ◌/◌, ◌%◌, ◌^◌, ◌<◌, ◌≤◌, true, leb, List, [], ◌∷◌, ◌++◌, length, get_or, drop, ℤ, pos, negsuc, None, sym, refl, ap, ◌∙◌, subst, inl, inr, zero-mul, arith, w32, SFits, to_z, of_z}
use mir.ValLaws.{to_z-neg}
use Rattle.std.proofs.lemmas.Int.{of_z-to_z, ints}
use Rattle.std.proofs.lemmas.Bool.{cond-false, eq-eqb, ne_eqb, cases_lt, and_parts, and_from, or_cases, or_left, or_right, leb-true, le-leb}
use Rattle.std.specs.List.{flat_map, AllByRecursion}
use Rattle.std.proofs.lemmas.List.{append-nil, get_or-take, get_or-drop, get_or_append_left, get_or-replicate}
use Rattle.std.proofs.ByRecursion.{All-get_or, All-weaker}
use Rattle.dayfile.specs.declared.record.Flag.{Flag}
use Rattle.dayfile.specs.declared.record.Flag.TheVariants.{Economic, Lscpr, Var, Scr}
use Rattle.dayfile.specs.declared.record.Event.{Event}
use Rattle.dayfile.specs.declared.record.Event.TheVariants.{Off, PoolRun, SelfRun, Trip, IsoRestart, OwnRestart}
use Rattle.dayfile.specs.declared.record.Record.{Record}
use Rattle.dayfile.specs.declared.record.Record.TheVariants.{Day, Participant, Resource, RealTime}
use Rattle.dayfile.specs.declared.record.ResourceRecord.{ResourceRecord}
use Rattle.dayfile.specs.declared.layout.Entry.{Entry}
use Rattle.dayfile.specs.declared.layout.Limits.TheVariants.{Whole, Signed}
use Rattle.dayfile.specs.Bytes.{digits, value, zeros, each}
use Rattle.dayfile.specs.Layout.{allows, entry_fault, first_fault, field, fields, hourly, unnamed, day_table, participant_table, resource_table, real_time_table, table_for}
use Rattle.dayfile.specs.Records.{part, word_from, signed_from, flag_number, flag_named, event_number, flag_from, event_from, load_from, owner_from, hour_from, day_of, participant_of, resource_of, real_time_of, body, kind_of}
use Rattle.dayfile.specs.Owners.{Owned}
use Rattle.dayfile.specs.Writing.{Fitting, LoadFits, HourFits, record_owned}
use Rattle.dayfile.specs.Keeping.{Between, Price, Energy, DayKept, LoadKept, ParticipantKept, ResourceKept, HourKept, RealTimeKept, Keeps}
use Rattle.dayfile.proofs.Numbers.{Bytes, value_one, value_drop, value_lt}
use Rattle.dayfile.proofs.Each.{length_each, get_or_each, all_each}
use Rattle.dayfile.proofs.Tables.{entry_none, entry_allowed, first_none_from, first_none_nil}
use Rattle.dayfile.proofs.Agains.{value_in, faultless}
use Rattle.dayfile.proofs.Backs.{day_back, day_rest, participant_back, participant_rest, resource_back, resource_gap, resource_rest, real_time_back, real_time_events, real_time_flags, real_time_rest}
use Rattle.dayfile.proofs.Encodings.{length_zeros, body_bytes}
use Rattle.dayfile.proofs.OwnerRules.{kept_owned, owned_kept, owned_fits}

-- THE PRICES: in two's complement and as signed numbers
price_allowed : (n : ℕ) → n < 2 ^ 32 → Price (to_z w32 n) → allows (Signed 200000) n ≡ true
price_allowed n l p = go (to_z w32 n) p (sym (of_z-to_z w32 n l))
  where
    go : (z : ℤ) → Price z → n ≡ of_z w32 z → allows (Signed 200000) n ≡ true
    go (pos m) q e = or_left (leb n 200000) _ (le-leb n 200000 (omega (arith, ints)))
    go (negsuc m) q e = or_right (leb n 200000) (leb 4294967296 (n + 200000)) (le-leb 4294967296 (n + 200000) (omega (arith, ints)))

high : (n : ℕ) → n < 2 ^ 32 → 2 ^ 31 ≤ n → to_z w32 n ≡ negsuc (4294967295 - n)
high n l h =
    let e : 4294967296 - suc (4294967295 - n) ≡ n = omega arith in
    ap (to_z w32) (sym e) ∙ to_z-neg w32 (4294967295 - n) (omega arith)

allowed_price : (n : ℕ) → n < 2 ^ 32 → allows (Signed 200000) n ≡ true → Price (to_z w32 n)
allowed_price n l e =
    elim (or_cases (leb n 200000) (leb 4294967296 (n + 200000)) e) [
      | inl a ↦ (let q = leb-true n 200000 a in (omega (arith, ints, q), omega (arith, ints, q)))
      | inr b ↦ (let q = leb-true 4294967296 (n + 200000) b in subst Price (sym (high n l (omega (arith, q)))) (omega (arith, ints, q), omega (arith, ints, q)))
    ]

price_fits : (z : ℤ) → Price z → SFits w32 z
price_fits z p = omega (arith, ints)

-- the flags below 3
not_scr : (n : ℕ) → n ≤ 2 → flag_named n ≡ Scr → ⊥
not_scr zero l e = let z : ◌≡◌ {A = ℕ} 0 1 = cc in omega arith
not_scr (suc zero) l e = let z : ◌≡◌ {A = ℕ} 0 1 = cc in omega arith
not_scr (suc (suc zero)) l e = let z : ◌≡◌ {A = ℕ} 0 1 = cc in omega arith
not_scr (suc (suc (suc n))) l e = omega arith

scr_not : (n : ℕ) → (flag_named n ≡ Scr → ⊥) → n ≤ 2
scr_not n h =
    elim (cases_lt 2 n) [
      | inl l ↦ absurd (h (cond-false _ _ _ (ne_eqb n 0 (λ e. omega arith)) ∙ cond-false _ _ _ (ne_eqb n 1 (λ e. omega arith)) ∙ cond-false _ _ _ (ne_eqb n 2 (λ e. omega arith))))
      | inr g ↦ g
    ]

-- THE FIELDS of a block: what the table allows and what the record says
whole_parts : (least most n : ℕ) → allows (Whole least most) n ≡ true → Between least most n
whole_parts least most n e = let p = and_parts (leb least n) (leb n most) e in (leb-true least n p.0, leb-true n most p.1)

parts_whole : (least most n : ℕ) → Between least most n → allows (Whole least most) n ≡ true
parts_whole least most n p = and_from (leb least n) (leb n most) (le-leb least n p.0) (le-leb n most p.1)

-- a part of a row
at_each : {A : Type 0} (P : A → Type 0) (read : List ℕ → A) (w n : ℕ) (bs : List ℕ) (i : ℕ) → i < n → AllByRecursion P (each read w n bs) → P (read (drop (i * w) bs))
at_each P read w n bs i s a =
    subst P (get_or_each read w n bs i (read bs) s) (All-get_or P (each read w n bs) i (read bs) (omega (arith, length_each read w n bs)) a)

module _ (b : List ℕ) (h : Bytes b) where
  -- the numbers of a block's parts, by their places in the block
  in_part : (at n k w : ℕ) → k + w ≤ n → value k w (part at n b) ≡ value (at + k) w b
  in_part at n k w l = value_in b h at n k w l

  byte_in : (at n k : ℕ) → k < n → get_or (part at n b) k 0 ≡ value (at + k) 1 b
  byte_in at n k l = get_or-take n (drop at b) k 0 l ∙ get_or-drop at b k 0 ∙ sym (value_one (at + k) b)

  in_row : (at n j k w p : ℕ) → j + k + w ≤ n → p ≡ at + (j + k) → value k w (drop j (part at n b)) ≡ value p w b
  in_row at n j k w p l e = value_drop j k w (part at n b) ∙ in_part at n (j + k) w l ∙ ap (λ q. value q w b) (sym e)

  small : (at w : ℕ) → value at w b < 256 ^ w
  small at w = value_lt at w b h

  -- one field
  field_is : (at w least most : ℕ) → entry_fault (field at w least most) b ≡ None → Between least most (value at w b)
  field_is at w least most e =
      let p : at + 0 * w ≡ at = omega (arith, zero-mul w) in
      subst (λ q. Between least most (value q w b)) p (whole_parts least most _ (entry_none (field at w least most) b e 0 (omega arith)))

  is_field : (at w least most : ℕ) → Between least most (value at w b) → entry_fault (field at w least most) b ≡ None
  is_field at w least most k =
      entry_allowed (field at w least most) b
      (λ i s. let z : i ≡ 0 = omega arith in
      let p : at + i * w ≡ at = ap (λ j. at + j * w) z ∙ omega (arith, zero-mul w) in
      parts_whole least most _ (subst (λ q. Between least most (value q w b)) (sym p) k))

  -- a row of numbers
  words_are : (at most : ℕ) → entry_fault (fields at 24 4 (Whole 0 most)) b ≡ None → AllByRecursion (λ n. n ≤ most) (each word_from 4 24 (part at 96 b))
  words_are at most e =
      all_each (λ n. n ≤ most) word_from 4 24 (part at 96 b)
      (λ i s. let q = (whole_parts 0 most _ (entry_none (fields at 24 4 (Whole 0 most)) b e i s)).1 in
      let r = in_row at 96 (i * 4) 0 4 (at + i * 4) (omega arith) (omega arith) in omega (arith, q, r))

  are_words : (at most : ℕ) → AllByRecursion (λ n. n ≤ most) (each word_from 4 24 (part at 96 b)) → entry_fault (fields at 24 4 (Whole 0 most)) b ≡ None
  are_words at most a =
      entry_allowed (fields at 24 4 (Whole 0 most)) b
      (λ i s. let q = at_each (λ n. n ≤ most) word_from 4 24 (part at 96 b) i s a in
      let r = in_row at 96 (i * 4) 0 4 (at + i * 4) (omega arith) (omega arith) in
      parts_whole 0 most _ (omega arith, omega (arith, q, r)))

  -- a row of prices
  prices_are : (at : ℕ) → entry_fault (fields at 24 4 (Signed 200000)) b ≡ None → AllByRecursion Price (each signed_from 4 24 (part at 96 b))
  prices_are at e =
      all_each Price signed_from 4 24 (part at 96 b)
      (λ i s. let r = in_row at 96 (i * 4) 0 4 (at + i * 4) (omega arith) (omega arith) in
      subst (λ n. Price (to_z w32 n)) (sym r) (allowed_price _ (small (at + i * 4) 4) (entry_none (fields at 24 4 (Signed 200000)) b e i s)))

  are_prices : (at : ℕ) → AllByRecursion Price (each signed_from 4 24 (part at 96 b)) → entry_fault (fields at 24 4 (Signed 200000)) b ≡ None
  are_prices at a =
      entry_allowed (fields at 24 4 (Signed 200000)) b
      (λ i s. let r = in_row at 96 (i * 4) 0 4 (at + i * 4) (omega arith) (omega arith) in
      price_allowed _ (small (at + i * 4) 4) (subst (λ n. Price (to_z w32 n)) r (at_each Price signed_from 4 24 (part at 96 b) i s a)))

  -- the day-ahead flags
  flags_are : entry_fault (fields 360 24 1 (Whole 0 2)) b ≡ None → AllByRecursion (λ f. f ≡ Scr → ⊥) (each flag_from 1 24 (part 360 24 b))
  flags_are e =
      all_each (λ f. f ≡ Scr → ⊥) flag_from 1 24 (part 360 24 b)
      (λ i s. let r = in_row 360 24 (i * 1) 0 1 (360 + i * 1) (omega arith) (omega arith) in
      subst (λ n. flag_named n ≡ Scr → ⊥) (sym r) (not_scr (value (360 + i * 1) 1 b) (whole_parts 0 2 (value (360 + i * 1) 1 b) (entry_none (fields 360 24 1 (Whole 0 2)) b e i s)).1))

  are_flags : AllByRecursion (λ f. f ≡ Scr → ⊥) (each flag_from 1 24 (part 360 24 b)) → entry_fault (fields 360 24 1 (Whole 0 2)) b ≡ None
  are_flags a =
      entry_allowed (fields 360 24 1 (Whole 0 2)) b
      (λ i s. let r = in_row 360 24 (i * 1) 0 1 (360 + i * 1) (omega arith) (omega arith) in
      parts_whole 0 2 (value (360 + i * 1) 1 b) (omega arith, scr_not (value (360 + i * 1) 1 b) (subst (λ n. flag_named n ≡ Scr → ⊥) r (at_each (λ f. f ≡ Scr → ⊥) flag_from 1 24 (part 360 24 b) i s a))))

  -- the loads: three numbers a region
  loads_are : entry_fault (fields 8 24 4 (Whole 0 10000000)) b ≡ None → AllByRecursion LoadKept (each load_from 12 8 (part 8 96 b))
  loads_are e =
      all_each LoadKept load_from 12 8 (part 8 96 b)
      (λ i s. record { day_ahead = load i 0 s (omega arith); real_time = load i 1 s (omega arith); deviation = load i 2 s (omega arith) })
    where
      load : (i j : ℕ) → i < 8 → j < 3 → value (4 * j) 4 (drop (i * 12) (part 8 96 b)) ≤ 10000000
      load i j s t =
          let q = (whole_parts 0 10000000 (value (8 + (3 * i + j) * 4) 4 b) (entry_none (fields 8 24 4 (Whole 0 10000000)) b e (3 * i + j) (omega arith))).1 in
          let r = in_row 8 96 (i * 12) (4 * j) 4 (8 + (3 * i + j) * 4) (omega arith) (omega arith) in
          omega (arith, q, r)

  are_loads : AllByRecursion LoadKept (each load_from 12 8 (part 8 96 b)) → entry_fault (fields 8 24 4 (Whole 0 10000000)) b ≡ None
  are_loads a = entry_allowed (fields 8 24 4 (Whole 0 10000000)) b (λ m s. parts_whole 0 10000000 (value (8 + m * 4) 4 b) (omega arith, go m s (m % 3) refl))
    where
      load : (i : ℕ) → i < 8 → LoadKept (load_from (drop (i * 12) (part 8 96 b)))
      load i s = at_each LoadKept load_from 12 8 (part 8 96 b) i s a

      go : (m : ℕ) → m < 24 → (j : ℕ) → m % 3 ≡ j → value (8 + m * 4) 4 b ≤ 10000000
      go m s zero e = let r = in_row 8 96 (m / 3 * 12) 0 4 (8 + m * 4) (omega arith) (omega arith) in omega (arith, r, (load (m / 3) (omega arith)).day_ahead)
      go m s (suc zero) e = let r = in_row 8 96 (m / 3 * 12) 4 4 (8 + m * 4) (omega arith) (omega arith) in omega (arith, r, (load (m / 3) (omega arith)).real_time)
      go m s (suc (suc zero)) e = let r = in_row 8 96 (m / 3 * 12) 8 4 (8 + m * 4) (omega arith) (omega arith) in omega (arith, r, (load (m / 3) (omega arith)).deviation)
      go m s (suc (suc (suc j))) e = absurd (omega arith)

  -- the hours: two numbers and a price each
  hours_are : entry_fault (hourly 12 (Whole 0 2000000)) b ≡ None → entry_fault (hourly 16 (Whole 0 2000000)) b ≡ None → entry_fault (hourly 20 (Signed 200000)) b ≡ None
      → AllByRecursion HourKept (each hour_from 12 24 (part 12 288 b))
  hours_are e f g =
      all_each HourKept hour_from 12 24 (part 12 288 b)
      (λ i s. let q = in_row 12 288 (i * 12) 0 4 (12 + i * 12) (omega arith) (omega arith) in
      let r = in_row 12 288 (i * 12) 4 4 (16 + i * 12) (omega arith) (omega arith) in
      let t = in_row 12 288 (i * 12) 8 4 (20 + i * 12) (omega arith) (omega arith) in
      let d = (whole_parts 0 2000000 (value (12 + i * 12) 4 b) (entry_none (hourly 12 (Whole 0 2000000)) b e i s)).1 in
      let m = (whole_parts 0 2000000 (value (16 + i * 12) 4 b) (entry_none (hourly 16 (Whole 0 2000000)) b f i s)).1 in
      record {
        dispatch = omega (arith, q, d);
        metered = omega (arith, r, m);
        lmp = subst (λ n. Price (to_z w32 n)) (sym t) (allowed_price _ (small (20 + i * 12) 4) (entry_none (hourly 20 (Signed 200000)) b g i s));
      })

  module _ (a : AllByRecursion HourKept (each hour_from 12 24 (part 12 288 b))) where
    hour : (i : ℕ) → i < 24 → HourKept (hour_from (drop (i * 12) (part 12 288 b)))
    hour i s = at_each HourKept hour_from 12 24 (part 12 288 b) i s a

    are_dispatch : entry_fault (hourly 12 (Whole 0 2000000)) b ≡ None
    are_dispatch =
        entry_allowed (hourly 12 (Whole 0 2000000)) b
        (λ i s. let q = in_row 12 288 (i * 12) 0 4 (12 + i * 12) (omega arith) (omega arith) in
        parts_whole 0 2000000 (value (12 + i * 12) 4 b) (omega arith, omega (arith, q, (hour i s).dispatch)))

    are_metered : entry_fault (hourly 16 (Whole 0 2000000)) b ≡ None
    are_metered =
        entry_allowed (hourly 16 (Whole 0 2000000)) b
        (λ i s. let q = in_row 12 288 (i * 12) 4 4 (16 + i * 12) (omega arith) (omega arith) in
        parts_whole 0 2000000 (value (16 + i * 12) 4 b) (omega arith, omega (arith, q, (hour i s).metered)))

    are_lmps : entry_fault (hourly 20 (Signed 200000)) b ≡ None
    are_lmps =
        entry_allowed (hourly 20 (Signed 200000)) b
        (λ i s. let q = in_row 12 288 (i * 12) 8 4 (20 + i * 12) (omega arith) (omega arith) in
        price_allowed _ (small (20 + i * 12) 4) (subst (λ n. Price (to_z w32 n)) q (hour i s).lmp))

-- a table in none of whose entries there is a fault
unfaulty : (t : List Entry) (b : List ℕ) → AllByRecursion (λ e. entry_fault e b ≡ None) t → first_fault t b ≡ None
unfaulty [] b a = first_none_nil b
unfaulty (e ∷ es) b a = first_none_from e es b a.0 (unfaulty es b a.1)

-- THE RECORDS of a block
module _ (b : List ℕ) (h : Bytes b) where
  -- a field that a part of the block has, and one of the block itself
  told : (at n k w least most : ℕ) → k + w ≤ n → entry_fault (field (at + k) w least most) b ≡ None → Between least most (value k w (part at n b))
  told at n k w least most l e = subst (Between least most) (sym (in_part b h at n k w l)) (field_is b h (at + k) w least most e)

  tell : (at n k w least most : ℕ) → k + w ≤ n → Between least most (value k w (part at n b)) → entry_fault (field (at + k) w least most) b ≡ None
  tell at n k w least most l e = is_field b h (at + k) w least most (subst (Between least most) (in_part b h at n k w l) e)

  told_byte : (at n k least most : ℕ) → k < n → entry_fault (field (at + k) 1 least most) b ≡ None → Between least most (get_or (part at n b) k 0)
  told_byte at n k least most l e = subst (Between least most) (sym (byte_in b h at n k l)) (field_is b h (at + k) 1 least most e)

  tell_byte : (at n k least most : ℕ) → k < n → Between least most (get_or (part at n b) k 0) → entry_fault (field (at + k) 1 least most) b ≡ None
  tell_byte at n k least most l e = is_field b h (at + k) 1 least most (subst (Between least most) (byte_in b h at n k l) e)

  told_here : (at least most : ℕ) → entry_fault (field at 1 least most) b ≡ None → Between least most (get_or b at 0)
  told_here at least most e = subst (Between least most) (value_one at b) (field_is b h at 1 least most e)

  tell_here : (at least most : ℕ) → Between least most (get_or b at 0) → entry_fault (field at 1 least most) b ≡ None
  tell_here at least most e = is_field b h at 1 least most (subst (Between least most) (sym (value_one at b)) e)

  day_limits : first_fault day_table b ≡ None → DayKept (day_of b)
  day_limits f =
      let a = faultless day_table b f in
      record {
        date = told 4 8 0 4 1 60000 (omega arith) (a 1 (omega arith));
        version = told 4 8 4 2 1 999 (omega arith) (a 2 (omega arith));
        participants = told_byte 4 8 6 1 48 (omega arith) (a 3 (omega arith));
        resources = (told_byte 4 8 7 0 24 (omega arith) (a 4 (omega arith))).1;
      }

  limits_day : DayKept (day_of b) → entry_fault (unnamed 1 3) b ≡ None → entry_fault (unnamed 12 496) b ≡ None → first_fault day_table b ≡ None
  limits_day k u v =
      unfaulty day_table b (
        u,
        (
          tell 4 8 0 4 1 60000 (omega arith) k.date,
          (
            tell 4 8 4 2 1 999 (omega arith) k.version,
            (tell_byte 4 8 6 1 48 (omega arith) k.participants, (tell_byte 4 8 7 0 24 (omega arith) (omega arith, k.resources), (v, tt))),
          ),
        ),
      )

  participant_limits : first_fault participant_table b ≡ None → ParticipantKept (participant_of b)
  participant_limits f =
      let a = faultless participant_table b f in
      record {
        number = told 4 4 0 4 1 999999 (omega arith) (a 1 (omega arith));
        loads = (length_each load_from 12 8 (part 8 96 b), loads_are b h (a 2 (omega arith)));
        network_load = (told 104 8 0 4 0 10000000 (omega arith) (a 3 (omega arith))).1;
        scr_weight = (told 104 8 4 4 0 10000000 (omega arith) (a 4 (omega arith))).1;
      }

  limits_participant : ParticipantKept (participant_of b) → entry_fault (unnamed 1 3) b ≡ None → entry_fault (unnamed 112 396) b ≡ None → first_fault participant_table b ≡ None
  limits_participant k u v =
      unfaulty participant_table b (
        u,
        (
          tell 4 4 0 4 1 999999 (omega arith) k.number,
          (
            are_loads b h k.loads.1,
            (tell 104 8 0 4 0 10000000 (omega arith) (omega arith, k.network_load), (tell 104 8 4 4 0 10000000 (omega arith) (omega arith, k.scr_weight), (v, tt))),
          ),
        ),
      )

  resource_limits : (limit : ℕ) → first_fault resource_table b ≡ None → Owned limit (resource_of b).owner_count (resource_of b).owners → ResourceKept limit (resource_of b)
  resource_limits limit f o =
      let a = faultless resource_table b f in
      record {
        region = told_here 1 1 8 (a 0 (omega arith));
        minimum_run = (told_here 2 0 24 (a 1 (omega arith))).1;
        minimum_down = (told_here 3 0 24 (a 2 (omega arith))).1;
        number = told 4 4 0 4 1 999999 (omega arith) (a 3 (omega arith));
        start_up = (told 8 8 0 4 0 100000000 (omega arith) (a 4 (omega arith))).1;
        no_load = (told 8 8 4 4 0 10000000 (omega arith) (a 5 (omega arith))).1;
        prices = (length_each signed_from 4 24 (part 16 96 b), prices_are b h 16 (a 6 (omega arith)));
        on_line = (told_byte 112 8 0 0 255 (omega arith) (a 7 (omega arith))).1;
        owner_count = told_byte 112 8 1 1 8 (omega arith) (a 8 (omega arith));
        self_scheduled = below (told 112 8 4 4 0 16777215 (omega arith) (a 10 (omega arith))).1;
        slots = length_each owner_from 6 8 (part 120 48 b);
        owners = o;
        cleared = (length_each word_from 4 24 (part 168 96 b), words_are b h 168 2000000 (a 11 (omega arith)));
        lmps = (length_each signed_from 4 24 (part 264 96 b), prices_are b h 264 (a 12 (omega arith)));
        flags = (length_each flag_from 1 24 (part 360 24 b), flags_are b h (a 13 (omega arith)));
      }
    where
      below : {n : ℕ} → n ≤ 16777215 → n < 2 ^ 24
      below l = omega arith

  limits_resource : (limit : ℕ) → ResourceKept limit (resource_of b) → entry_fault (unnamed 114 2) b ≡ None → entry_fault (unnamed 384 124) b ≡ None → first_fault resource_table b ≡ None
  limits_resource limit k u v =
      unfaulty resource_table b (
        tell_here 1 1 8 k.region,
        (
          tell_here 2 0 24 (omega arith, k.minimum_run),
          (
            tell_here 3 0 24 (omega arith, k.minimum_down),
            (
              tell 4 4 0 4 1 999999 (omega arith) k.number,
              (
                tell 8 8 0 4 0 100000000 (omega arith) (omega arith, k.start_up),
                (
                  tell 8 8 4 4 0 10000000 (omega arith) (omega arith, k.no_load),
                  (
                    are_prices b h 16 k.prices.1,
                    (
                      tell_byte 112 8 0 0 255 (omega arith) (omega arith, k.on_line),
                      (
                        tell_byte 112 8 1 1 8 (omega arith) k.owner_count,
                        (
                          u,
                          (
                            tell 112 8 4 4 0 16777215 (omega arith) (omega arith, most k.self_scheduled),
                            (
                              are_words b h 168 2000000 k.cleared.1,
                              (are_prices b h 264 k.lmps.1, (are_flags b h k.flags.1, (v, tt))),
                            ),
                          ),
                        ),
                      ),
                    ),
                  ),
                ),
              ),
            ),
          ),
        ),
      )
    where
      most : {n : ℕ} → n < 2 ^ 24 → n ≤ 16777215
      most l = omega arith

  real_time_limits : first_fault real_time_table b ≡ None → RealTimeKept (real_time_of b)
  real_time_limits f =
      let a = faultless real_time_table b f in
      record {
        number = told 4 4 0 4 1 999999 (omega arith) (a 1 (omega arith));
        economic_minimum = (told 8 4 0 4 0 2000000 (omega arith) (a 2 (omega arith))).1;
        hours = (length_each hour_from 12 24 (part 12 288 b), hours_are b h (a 3 (omega arith)) (a 4 (omega arith)) (a 5 (omega arith)));
        events = length_each event_from 1 24 (part 300 24 b);
        flags = length_each flag_from 1 24 (part 324 24 b);
      }

  limits_real_time : RealTimeKept (real_time_of b) → entry_fault (unnamed 1 3) b ≡ None → entry_fault (fields 300 24 1 (Whole 0 5)) b ≡ None
      → entry_fault (fields 324 24 1 (Whole 0 3)) b ≡ None → entry_fault (unnamed 348 160) b ≡ None → first_fault real_time_table b ≡ None
  limits_real_time k u e f v =
      unfaulty real_time_table b (
        u,
        (
          tell 4 4 0 4 1 999999 (omega arith) k.number,
          (
            tell 8 4 0 4 0 2000000 (omega arith) (omega arith, k.economic_minimum),
            (are_dispatch b h k.hours.1, (are_metered b h k.hours.1, (are_lmps b h k.hours.1, (e, (f, (v, tt)))))),
          ),
        ),
      )

-- THE BYTES that a record does not choose freely
unnamed_zeros : (b rest : List ℕ) (at n : ℕ) → drop at b ≡ zeros n ++ rest → entry_fault (unnamed at n) b ≡ None
unnamed_zeros b rest at n e =
    entry_allowed (unnamed at n) b
    (λ i s. let l : i * 1 < n = omega arith in
    let k : i * 1 < length (zeros n) = omega (arith, length_zeros n) in
    eq-eqb (value (at + i * 1) 1 b) 0
    (value_one (at + i * 1) b ∙ sym (get_or-drop at b (i * 1) 0) ∙ ap (λ t. get_or t (i * 1) 0) e ∙ get_or_append_left (zeros n) rest 0 (i * 1) k ∙ get_or-replicate n (i * 1) 0 0 l))

-- numbers of one byte each, none above a limit
bytes_row : {A : Type 0} (num : A → ℕ) (most : ℕ) → ((x : A) → num x ≤ most) → (xs : List A) (rest : List ℕ) (i : ℕ) → i < length xs
    → get_or (flat_map (λ x. digits 1 (num x)) xs ++ rest) i 0 ≤ most
unfolding digits
bytes_row num most h [] rest i s = absurd (omega arith)
bytes_row num most h (x ∷ xs) rest zero s = let l = h x in omega arith
bytes_row num most h (x ∷ xs) rest (suc i) s = bytes_row num most h xs rest i (omega arith)

row_within : {A : Type 0} (num : A → ℕ) (most at : ℕ) → ((x : A) → num x ≤ most) → (b rest : List ℕ) (xs : List A) → length xs ≡ 24
    → drop at b ≡ flat_map (λ x. digits 1 (num x)) xs ++ rest → entry_fault (fields at 24 1 (Whole 0 most)) b ≡ None
row_within num most at h b rest xs l e =
    entry_allowed (fields at 24 1 (Whole 0 most)) b
    (λ i s. let q = bytes_row num most h xs rest (i * 1) (omega arith) in
    let r = value_one (at + i * 1) b ∙ sym (get_or-drop at b (i * 1) 0) ∙ ap (λ t. get_or t (i * 1) 0) e in
    parts_whole 0 most (value (at + i * 1) 1 b) (omega arith, omega (arith, q, r)))

flag_most : (f : Flag) → flag_number f ≤ 3
flag_most Economic = omega arith
flag_most Lscpr = omega arith
flag_most Var = omega arith
flag_most Scr = omega arith

event_most : (e : Event) → event_number e ≤ 5
event_most Off = omega arith
event_most PoolRun = omega arith
event_most SelfRun = omega arith
event_most Trip = omega arith
event_most IsoRestart = omega arith
event_most OwnRestart = omega arith

-- A RECORD THAT KEEPS ITS LIMITS fits, has no faulty field, and its owners keep their rules
pub kept_fits : (limit : ℕ) (r : Record) → limit ≤ 2 ^ 16 → Keeps limit r → Fitting r
kept_fits limit (Day d) l k = (omega (arith, k.date.1), omega (arith, k.version.1), omega (arith, k.participants.1), omega (arith, k.resources))
kept_fits limit (Participant p) l k = (
  omega (arith, k.number.1),
  k.loads.0,
  All-weaker LoadKept LoadFits (λ x y. (omega (arith, y.day_ahead), omega (arith, y.real_time), omega (arith, y.deviation))) p.loads k.loads.1,
  omega (arith, k.network_load),
  omega (arith, k.scr_weight),
)
kept_fits limit (Resource g) l k = (
  omega (arith, k.region.1),
  omega (arith, k.minimum_run),
  omega (arith, k.minimum_down),
  omega (arith, k.number.1),
  omega (arith, k.start_up),
  omega (arith, k.no_load),
  k.prices.0,
  All-weaker Price (SFits w32) price_fits g.prices k.prices.1,
  omega (arith, k.on_line),
  omega (arith, k.owner_count.1),
  omega (arith, k.self_scheduled),
  k.slots,
  owned_fits limit g.owner_count g.owners l k.owners,
  k.cleared.0,
  All-weaker Energy (λ n. n < 2 ^ 32) (λ n h. omega (arith, h)) g.cleared_kwh k.cleared.1,
  k.lmps.0,
  All-weaker Price (SFits w32) price_fits g.lmps k.lmps.1,
  k.flags.0,
)
kept_fits limit (RealTime r) l k = (
  omega (arith, k.number.1),
  omega (arith, k.economic_minimum),
  k.hours.0,
  All-weaker HourKept HourFits (λ x y. (omega (arith, y.dispatch), omega (arith, y.metered), price_fits x.lmp y.lmp)) r.hours k.hours.1,
  k.events,
  k.flags,
)

pub kept_faultless : (limit : ℕ) (r : Record) → limit ≤ 2 ^ 16 → Keeps limit r → first_fault (table_for (kind_of r)) (body r) ≡ None
kept_faultless limit (Day d) l k =
    let b = body (Day d) in
    let f = kept_fits limit (Day d) l k in
    limits_day b (body_bytes (Day d)) (subst DayKept (sym (day_back d (zeros 496) f)) k)
    (unnamed_zeros b (drop 4 b) 1 3 refl)
    (unnamed_zeros b [] 12 496 (day_rest d (zeros 496) ∙ sym (append-nil (zeros 496))))
kept_faultless limit (Participant p) l k =
    let b = body (Participant p) in
    let f = kept_fits limit (Participant p) l k in
    limits_participant b (body_bytes (Participant p)) (subst ParticipantKept (sym (participant_back p (zeros 396) f)) k)
    (unnamed_zeros b (drop 4 b) 1 3 refl)
    (unnamed_zeros b [] 112 396 (participant_rest p (zeros 396) f ∙ sym (append-nil (zeros 396))))
kept_faultless limit (Resource g) l k =
    let b = body (Resource g) in
    let f = kept_fits limit (Resource g) l k in
    limits_resource b (body_bytes (Resource g)) limit (subst (ResourceKept limit) (sym (resource_back g (zeros 124) f)) k)
    (unnamed_zeros b _ 114 2 (resource_gap g (zeros 124) f))
    (unnamed_zeros b [] 384 124 (resource_rest g (zeros 124) f ∙ sym (append-nil (zeros 124))))
kept_faultless limit (RealTime r) l k =
    let b = body (RealTime r) in
    let f = kept_fits limit (RealTime r) l k in
    limits_real_time b (body_bytes (RealTime r)) (subst RealTimeKept (sym (real_time_back r (zeros 160) f)) k)
    (unnamed_zeros b (drop 4 b) 1 3 refl)
    (row_within event_number 5 300 event_most b _ r.events k.events (real_time_events r (zeros 160) f))
    (row_within flag_number 3 324 flag_most b (zeros 160) r.flags k.flags (real_time_flags r (zeros 160) f))
    (unnamed_zeros b [] 348 160 (real_time_rest r (zeros 160) f ∙ sym (append-nil (zeros 160))))

pub kept_owners : (limit : ℕ) (r : Record) → Keeps limit r → record_owned limit r ≡ true
kept_owners limit (Day d) k = refl
kept_owners limit (Participant p) k = refl
kept_owners limit (Resource g) k = owned_kept limit g.owner_count g.owners k.owners
kept_owners limit (RealTime r) k = refl

-- AND A RECORD that fits, has no faulty field, and whose owners keep their rules, keeps its limits
pub faultless_kept : (limit : ℕ) (r : Record) → Fitting r → first_fault (table_for (kind_of r)) (body r) ≡ None → record_owned limit r ≡ true → Keeps limit r
faultless_kept limit (Day d) f e o = subst DayKept (day_back d (zeros 496) f) (day_limits (body (Day d)) (body_bytes (Day d)) e)
faultless_kept limit (Participant p) f e o =
    subst ParticipantKept (participant_back p (zeros 396) f) (participant_limits (body (Participant p)) (body_bytes (Participant p)) e)
faultless_kept limit (Resource g) f e o =
    let back = resource_back g (zeros 124) f in
    let own = subst (λ (x : ResourceRecord). Owned limit x.owner_count x.owners) (sym back) (kept_owned limit g.owner_count g.owners o) in
    subst (ResourceKept limit) back (resource_limits (body (Resource g)) (body_bytes (Resource g)) limit e own)
faultless_kept limit (RealTime r) f e o =
    subst RealTimeKept (real_time_back r (zeros 160) f) (real_time_limits (body (RealTime r)) (body_bytes (RealTime r)) e)
