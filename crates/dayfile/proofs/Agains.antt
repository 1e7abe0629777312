-- What was read is written again: each part, each row of parts, each kind of record.
use Rattle.std.proofs.Common.{◌≡◌, ℕ, zero, suc, ◌+◌, ◌*◌, ◌^◌, ◌<◌, ◌≤◌, leb, ◌⊎◌, List, [], ◌∷◌, ◌++◌, length, get_or, take, drop, None, sym, refl, ap, ◌∙◌, subst, inl, inr, arith, take-add, w32, SFits}
use borrow.Author.Gap.{read_sfits}
use Rattle.std.specs.List.{flat_map, AllByRecursion}
use Rattle.std.proofs.lemmas.List.{drop-drop, length-drop, length-take-le, length-replicate, length-take, take_all, get_or_past, get_or-take, get_or-drop, get_or-replicate, ext_get_or}
use Rattle.std.proofs.lemmas.Int.{of_z-to_z}
use Rattle.std.proofs.lemmas.Bool.{cases_lt, and_parts, eqb-true, leb-true}
use Rattle.dayfile.specs.declared.layout.Entry.{Entry}
use Rattle.dayfile.specs.declared.layout.Limits.TheVariants.{Whole}
use Rattle.dayfile.specs.Bytes.{digits, value, zeros, each}
use Rattle.dayfile.specs.Layout.{unnamed, fields, entry_fault, first_fault, day_table, participant_table, resource_table, real_time_table}
use Rattle.dayfile.specs.Records.{part, word_bytes, word_from, signed_bytes, signed_from, flag_number, flag_named, flag_bytes, flag_from, event_number, event_named, event_bytes, event_from, load_bytes, load_from, owner_bytes, owner_from, hour_bytes, hour_from, day_of, participant_of, resource_of, real_time_of, day_body, participant_body, resource_body, real_time_body}
use Rattle.dayfile.specs.declared.record.Record.TheVariants.{Day, Participant, Resource, RealTime}
use Rattle.dayfile.specs.Writing.{Fitting, LoadFits, OwnerFits, HourFits}
use Rattle.dayfile.proofs.Numbers.{Bytes, bytes_drop, digits_number, digits_one, value_one, value_drop, value_take, value_lt}
use Rattle.dayfile.proofs.Each.{length_each, all_each, joined_each, part_within}
use Rattle.dayfile.proofs.Tables.{no_entry, first_none_parts, entry_none}

-- THE PIECES of bytes
module _ (b : List ℕ) (h : Bytes b) where
  -- one piece in front of another
  pub onto : (i n m : ℕ) (xs ys : List ℕ) → xs ≡ part i n b → ys ≡ part (i + n) m b → xs ++ ys ≡ part i (n + m) b
  onto i n m xs ys e f =
      ap (λ t. t ++ ys) e ∙ ap (λ t. part i n b ++ t) (f ∙ ap (take m) (sym (drop-drop n i b))) ∙ sym (take-add n m (drop i b))

  pub number_piece : (at w : ℕ) → at + w ≤ length b → digits w (value at w b) ≡ part at w b
  number_piece at w l = let d = length-drop at b in digits_number w (drop at b) (omega (arith, d)) (bytes_drop at b h)

  -- a number within a part
  pub value_in : (at n k w : ℕ) → k + w ≤ n → value k w (part at n b) ≡ value (at + k) w b
  value_in at n k w l = value_take n k w (drop at b) l ∙ value_drop at k w b

  pub inner_piece : (at n k w : ℕ) → k + w ≤ n → at + k + w ≤ length b → digits w (value k w (part at n b)) ≡ part (at + k) w b
  inner_piece at n k w l m = ap (digits w) (value_in at n k w l) ∙ number_piece (at + k) w m

  pub byte_piece : (at : ℕ) → at < length b → digits 1 (get_or b at 0) ≡ part at 1 b
  byte_piece at l = ap (digits 1) (sym (value_one at b)) ∙ number_piece at 1 (omega arith)

  pub inner_byte : (at n k : ℕ) → k < n → at + k < length b → digits 1 (get_or (part at n b) k 0) ≡ part (at + k) 1 b
  inner_byte at n k l m = ap (digits 1) (get_or-take n (drop at b) k 0 l ∙ get_or-drop at b k 0) ∙ byte_piece (at + k) m

  pub letter_piece : (k : ℕ) → 0 < length b → get_or b 0 0 ≡ k → (k ∷ []) ≡ part 0 1 b
  letter_piece k l e =
      let s : k < 256 = subst (λ n. n < 256) e (h 0) in
      sym (digits_one k s) ∙ ap (digits 1) (sym e) ∙ byte_piece 0 l

  pub zeros_piece : (at n : ℕ) → at + n ≤ length b → entry_fault (unnamed at n) b ≡ None → zeros n ≡ part at n b
  zeros_piece at n l e =
      let d = length-drop at b in
      ext_get_or 0 (zeros n) (part at n b) (length-replicate n 0 ∙ sym (length-take-le n (drop at b) (omega (arith, d))))
      (λ i k. let s : i < n = omega (arith, length-replicate {A = ℕ} n 0) in
      get_or-replicate n i 0 0 s ∙ sym (get_or-take n (drop at b) i 0 s ∙ get_or-drop at b i 0 ∙ zero_at i s))
    where
      zero_at : (i : ℕ) → i < n → get_or b (at + i) 0 ≡ 0
      zero_at i s =
          let p : at + i * 1 ≡ at + i = omega arith in
          ap (λ k. get_or b k 0) (sym p) ∙ sym (value_one (at + i * 1) b) ∙ eqb-true (value (at + i * 1) 1 b) 0 (entry_none (unnamed at n) b e i s)

  -- n parts in k bytes
  pub row_piece : {A : Type 0} (read : List ℕ → A) (write : A → List ℕ) (w n k at : ℕ) → n * w ≡ k → at + k ≤ length b
      → ((i : ℕ) → i < n → write (read (drop (i * w) (part at k b))) ≡ take w (drop (i * w) (part at k b)))
      → flat_map write (each read w n (part at k b)) ≡ part at k b
  row_piece read write w n k at e l f =
      let d = length-drop at b in
      let m = length-take-le k (drop at b) (omega (arith, d)) in
      joined_each read write w n (part at k b) (omega (arith, m, e)) f ∙ take_all (n * w) (part at k b) (omega (arith, m, e))

-- THE PARTS
module _ (bs : List ℕ) (h : Bytes bs) where
  pub word_again : 4 ≤ length bs → word_bytes (word_from bs) ≡ take 4 bs
  word_again l = number_piece bs h 0 4 l

  pub signed_again : 4 ≤ length bs → signed_bytes (signed_from bs) ≡ take 4 bs
  signed_again l = ap (digits 4) (of_z-to_z w32 (value 0 4 bs) (value_lt 0 4 bs h)) ∙ number_piece bs h 0 4 l

  pub load_again : 12 ≤ length bs → load_bytes (load_from bs) ≡ take 12 bs
  load_again l =
      onto bs h 0 4 8 _ _ (number_piece bs h 0 4 (omega arith)) (onto bs h 4 4 4 _ _ (number_piece bs h 4 4 (omega arith)) (number_piece bs h 8 4 (omega arith)))

  pub owner_again : 6 ≤ length bs → owner_bytes (owner_from bs) ≡ take 6 bs
  owner_again l = onto bs h 0 2 4 _ _ (number_piece bs h 0 2 (omega arith)) (number_piece bs h 2 4 (omega arith))

  pub hour_again : 12 ≤ length bs → hour_bytes (hour_from bs) ≡ take 12 bs
  hour_again l =
      onto bs h 0 4 8 _ _ (number_piece bs h 0 4 (omega arith))
      (onto bs h 4 4 4 _ _ (number_piece bs h 4 4 (omega arith)) (ap (digits 4) (of_z-to_z w32 (value 8 4 bs) (value_lt 8 4 bs h)) ∙ number_piece bs h 8 4 (omega arith)))

  pub flag_again : 1 ≤ length bs → value 0 1 bs ≤ 3 → flag_bytes (flag_from bs) ≡ take 1 bs
  flag_again l m = ap (digits 1) (flag_number_named (value 0 1 bs) m) ∙ number_piece bs h 0 1 l
    where
      flag_number_named : (n : ℕ) → n ≤ 3 → flag_number (flag_named n) ≡ n
      flag_number_named zero m = refl
      flag_number_named (suc zero) m = refl
      flag_number_named (suc (suc zero)) m = refl
      flag_number_named (suc (suc (suc zero))) m = refl
      flag_number_named (suc (suc (suc (suc n)))) m = absurd (omega arith)

  pub event_again : 1 ≤ length bs → value 0 1 bs ≤ 5 → event_bytes (event_from bs) ≡ take 1 bs
  event_again l m = ap (digits 1) (event_number_named (value 0 1 bs) m) ∙ number_piece bs h 0 1 l
    where
      event_number_named : (n : ℕ) → n ≤ 5 → event_number (event_named n) ≡ n
      event_number_named zero m = refl
      event_number_named (suc zero) m = refl
      event_number_named (suc (suc zero)) m = refl
      event_number_named (suc (suc (suc zero))) m = refl
      event_number_named (suc (suc (suc (suc zero)))) m = refl
      event_number_named (suc (suc (suc (suc (suc zero))))) m = refl
      event_number_named (suc (suc (suc (suc (suc (suc n)))))) m = absurd (omega arith)

-- THE ROWS of a block, at a place
module _ (b : List ℕ) (h : Bytes b) where
  -- a part of a block is made of bytes, and so is what is left of it
  pub bytes_part : (at k : ℕ) → Bytes (part at k b)
  bytes_part at k m = go (cases_lt m k)
    where
      go : (m < k) ⊎ (k ≤ m) → get_or (part at k b) m 0 < 256
      go (inl l) = subst (λ n. n < 256) (sym (get_or-take k (drop at b) m 0 l ∙ get_or-drop at b m 0)) (h (at + m))
      go (inr g) = subst (λ n. n < 256) (sym (get_or_past (part at k b) m 0 (omega (arith, length-take k (drop at b))))) (omega arith)

  in_row : (at k j : ℕ) → Bytes (drop j (part at k b))
  in_row at k j = bytes_drop j (part at k b) (bytes_part at k)

  long : (at k w n i : ℕ) → n * w ≡ k → at + k ≤ length b → i < n → w ≤ length (drop (i * w) (part at k b))
  long at k w n i e l s =
      let d = length-drop at b in
      omega (arith, length-drop (i * w) (part at k b), length-take-le k (drop at b) (omega (arith, d)), part_within i n w s, e)

  pub words_again : (at : ℕ) → at + 96 ≤ length b → flat_map word_bytes (each word_from 4 24 (part at 96 b)) ≡ part at 96 b
  words_again at l =
      row_piece b h word_from word_bytes 4 24 96 at refl l (λ i s. word_again (drop (i * 4) (part at 96 b)) (in_row at 96 (i * 4)) (long at 96 4 24 i refl l s))

  pub signeds_again : (at : ℕ) → at + 96 ≤ length b → flat_map signed_bytes (each signed_from 4 24 (part at 96 b)) ≡ part at 96 b
  signeds_again at l =
      row_piece b h signed_from signed_bytes 4 24 96 at refl l (λ i s. signed_again (drop (i * 4) (part at 96 b)) (in_row at 96 (i * 4)) (long at 96 4 24 i refl l s))

  pub loads_again : (at : ℕ) → at + 96 ≤ length b → flat_map load_bytes (each load_from 12 8 (part at 96 b)) ≡ part at 96 b
  loads_again at l =
      row_piece b h load_from load_bytes 12 8 96 at refl l (λ i s. load_again (drop (i * 12) (part at 96 b)) (in_row at 96 (i * 12)) (long at 96 12 8 i refl l s))

  pub owners_again : (at : ℕ) → at + 48 ≤ length b → flat_map owner_bytes (each owner_from 6 8 (part at 48 b)) ≡ part at 48 b
  owners_again at l =
      row_piece b h owner_from owner_bytes 6 8 48 at refl l (λ i s. owner_again (drop (i * 6) (part at 48 b)) (in_row at 48 (i * 6)) (long at 48 6 8 i refl l s))

  pub hours_again : (at : ℕ) → at + 288 ≤ length b → flat_map hour_bytes (each hour_from 12 24 (part at 288 b)) ≡ part at 288 b
  hours_again at l =
      row_piece b h hour_from hour_bytes 12 24 288 at refl l (λ i s. hour_again (drop (i * 12) (part at 288 b)) (in_row at 288 (i * 12)) (long at 288 12 24 i refl l s))

  -- what a table's limit says of a byte of a row
  at_most : (at most i : ℕ) → entry_fault (fields at 24 1 (Whole 0 most)) b ≡ None → i < 24 → value 0 1 (drop (i * 1) (part at 24 b)) ≤ most
  at_most at most i e s =
      let p = and_parts (leb 0 (value (at + i * 1) 1 b)) (leb (value (at + i * 1) 1 b) most) (entry_none (fields at 24 1 (Whole 0 most)) b e i s) in
      let q = leb-true (value (at + i * 1) 1 b) most p.1 in
      let r = value_in b h at 24 (i * 1) 1 (omega arith) in
      omega (arith, q, r)

  pub flags_again : (at most : ℕ) → at + 24 ≤ length b → most ≤ 3 → entry_fault (fields at 24 1 (Whole 0 most)) b ≡ None
      → flat_map flag_bytes (each flag_from 1 24 (part at 24 b)) ≡ part at 24 b
  flags_again at most l m e =
      row_piece b h flag_from flag_bytes 1 24 24 at refl l
      (λ i s. let q = at_most at most i e s in flag_again (drop (i * 1) (part at 24 b)) (in_row at 24 (i * 1)) (long at 24 1 24 i refl l s) (omega (arith, q)))

  pub events_again : (at : ℕ) → at + 24 ≤ length b → entry_fault (fields at 24 1 (Whole 0 5)) b ≡ None → flat_map event_bytes (each event_from 1 24 (part at 24 b)) ≡ part at 24 b
  events_again at l e =
      row_piece b h event_from event_bytes 1 24 24 at refl l
      (λ i s. event_again (drop (i * 1) (part at 24 b)) (in_row at 24 (i * 1)) (long at 24 1 24 i refl l s) (at_most at 5 i e s))

-- THE RECORDS of a block in which a table finds no fault
pub faultless : (t : List Entry) (b : List ℕ) → first_fault t b ≡ None → (i : ℕ) → i < length t → entry_fault (get_or t i no_entry) b ≡ None
faultless [] b f i s = absurd (omega arith)
faultless (e ∷ es) b f zero s = (first_none_parts e es b f).0
faultless (e ∷ es) b f (suc i) s = faultless es b (first_none_parts e es b f).1 i (omega arith)

module _ (b : List ℕ) (l : length b ≡ 512) (h : Bytes b) where
  pub day_again : get_or b 0 0 ≡ 68 → first_fault day_table b ≡ None → day_body (day_of b) ≡ take 508 b
  day_again k f =
      let a = faultless day_table b f in
      onto b h 0 1 507 (68 ∷ []) _ (letter_piece b h 68 (omega arith) k)
      (onto b h 1 3 504 (zeros 3) _ (zeros_piece b h 1 3 (omega arith) (a 0 (omega arith)))
      (onto b h 4 4 500 _ _ (inner_piece b h 4 8 0 4 (omega arith) (omega arith))
      (onto b h 8 2 498 _ _ (inner_piece b h 4 8 4 2 (omega arith) (omega arith))
      (onto b h 10 1 497 _ _ (inner_byte b h 4 8 6 (omega arith) (omega arith))
      (onto b h 11 1 496 _ _ (inner_byte b h 4 8 7 (omega arith) (omega arith))
      (zeros_piece b h 12 496 (omega arith) (a 5 (omega arith))))))))

  pub participant_again : get_or b 0 0 ≡ 80 → first_fault participant_table b ≡ None → participant_body (participant_of b) ≡ take 508 b
  participant_again k f =
      let a = faultless participant_table b f in
      onto b h 0 1 507 (80 ∷ []) _ (letter_piece b h 80 (omega arith) k)
      (onto b h 1 3 504 (zeros 3) _ (zeros_piece b h 1 3 (omega arith) (a 0 (omega arith)))
      (onto b h 4 4 500 _ _ (inner_piece b h 4 4 0 4 (omega arith) (omega arith))
      (onto b h 8 96 404 _ _ (loads_again b h 8 (omega arith))
      (onto b h 104 4 400 _ _ (inner_piece b h 104 8 0 4 (omega arith) (omega arith))
      (onto b h 108 4 396 _ _ (inner_piece b h 104 8 4 4 (omega arith) (omega arith))
      (zeros_piece b h 112 396 (omega arith) (a 5 (omega arith))))))))

  pub resource_again : get_or b 0 0 ≡ 71 → first_fault resource_table b ≡ None → resource_body (resource_of b) ≡ take 508 b
  resource_again k f =
      let a = faultless resource_table b f in
      onto b h 0 1 507 (71 ∷ []) _ (letter_piece b h 71 (omega arith) k)
      (onto b h 1 1 506 _ _ (byte_piece b h 1 (omega arith))
      (onto b h 2 1 505 _ _ (byte_piece b h 2 (omega arith))
      (onto b h 3 1 504 _ _ (byte_piece b h 3 (omega arith))
      (onto b h 4 4 500 _ _ (inner_piece b h 4 4 0 4 (omega arith) (omega arith))
      (onto b h 8 4 496 _ _ (inner_piece b h 8 8 0 4 (omega arith) (omega arith))
      (onto b h 12 4 492 _ _ (inner_piece b h 8 8 4 4 (omega arith) (omega arith))
      (onto b h 16 96 396 _ _ (signeds_again b h 16 (omega arith))
      (onto b h 112 1 395 _ _ (inner_byte b h 112 8 0 (omega arith) (omega arith))
      (onto b h 113 1 394 _ _ (inner_byte b h 112 8 1 (omega arith) (omega arith))
      (onto b h 114 2 392 (zeros 2) _ (zeros_piece b h 114 2 (omega arith) (a 9 (omega arith)))
      (onto b h 116 4 388 _ _ (inner_piece b h 112 8 4 4 (omega arith) (omega arith))
      (onto b h 120 48 340 _ _ (owners_again b h 120 (omega arith))
      (onto b h 168 96 244 _ _ (words_again b h 168 (omega arith))
      (onto b h 264 96 148 _ _ (signeds_again b h 264 (omega arith))
      (onto b h 360 24 124 _ _ (flags_again b h 360 2 (omega arith) (omega arith) (a 13 (omega arith)))
      (zeros_piece b h 384 124 (omega arith) (a 14 (omega arith))))))))))))))))))

  pub real_time_again : get_or b 0 0 ≡ 82 → first_fault real_time_table b ≡ None → real_time_body (real_time_of b) ≡ take 508 b
  real_time_again k f =
      let a = faultless real_time_table b f in
      onto b h 0 1 507 (82 ∷ []) _ (letter_piece b h 82 (omega arith) k)
      (onto b h 1 3 504 (zeros 3) _ (zeros_piece b h 1 3 (omega arith) (a 0 (omega arith)))
      (onto b h 4 4 500 _ _ (inner_piece b h 4 4 0 4 (omega arith) (omega arith))
      (onto b h 8 4 496 _ _ (inner_piece b h 8 4 0 4 (omega arith) (omega arith))
      (onto b h 12 288 208 _ _ (hours_again b h 12 (omega arith))
      (onto b h 300 24 184 _ _ (events_again b h 300 (omega arith) (a 6 (omega arith)))
      (onto b h 324 24 160 _ _ (flags_again b h 324 3 (omega arith) (omega arith) (a 7 (omega arith)))
      (zeros_piece b h 348 160 (omega arith) (a 8 (omega arith)))))))))

-- THE NUMBERS that are read fit their widths
module _ (b : List ℕ) (h : Bytes b) where
  number_fits : (at n k w : ℕ) → value k w (part at n b) < 256 ^ w
  number_fits at n k w = value_lt k w (part at n b) (bytes_part b h at n)

  byte_fits : (at n k : ℕ) → get_or (part at n b) k 0 < 256
  byte_fits at n k = bytes_part b h at n k

  -- the numbers of a part of a row
  row_fits : (at n j k w : ℕ) → value k w (drop j (part at n b)) < 256 ^ w
  row_fits at n j k w = value_lt k w (drop j (part at n b)) (bytes_drop j (part at n b) (bytes_part b h at n))

  all_signed : (at n w k : ℕ) → AllByRecursion (SFits w32) (each signed_from w k (part at n b))
  all_signed at n w k = all_each (SFits w32) signed_from w k (part at n b) (λ i s. read_sfits w32 (value 0 4 (drop (i * w) (part at n b))))

  pub day_fits : Fitting (Day (day_of b))
  day_fits = (number_fits 4 8 0 4, number_fits 4 8 4 2, byte_fits 4 8 6, byte_fits 4 8 7)

  pub participant_fits : Fitting (Participant (participant_of b))
  participant_fits = (
    number_fits 4 4 0 4,
    length_each load_from 12 8 (part 8 96 b),
    all_each LoadFits load_from 12 8 (part 8 96 b) (λ i s. (row_fits 8 96 (i * 12) 0 4, row_fits 8 96 (i * 12) 4 4, row_fits 8 96 (i * 12) 8 4)),
    number_fits 104 8 0 4,
    number_fits 104 8 4 4,
  )

  pub resource_fits : Fitting (Resource (resource_of b))
  resource_fits = (
    h 1,
    h 2,
    h 3,
    number_fits 4 4 0 4,
    number_fits 8 8 0 4,
    number_fits 8 8 4 4,
    length_each signed_from 4 24 (part 16 96 b),
    all_signed 16 96 4 24,
    byte_fits 112 8 0,
    byte_fits 112 8 1,
    number_fits 112 8 4 4,
    length_each owner_from 6 8 (part 120 48 b),
    all_each OwnerFits owner_from 6 8 (part 120 48 b) (λ i s. (row_fits 120 48 (i * 6) 0 2, row_fits 120 48 (i * 6) 2 4)),
    length_each word_from 4 24 (part 168 96 b),
    all_each (λ n. n < 2 ^ 32) word_from 4 24 (part 168 96 b) (λ i s. row_fits 168 96 (i * 4) 0 4),
    length_each signed_from 4 24 (part 264 96 b),
    all_signed 264 96 4 24,
    length_each flag_from 1 24 (part 360 24 b),
  )

  pub real_time_fits : Fitting (RealTime (real_time_of b))
  real_time_fits = (
    number_fits 4 4 0 4,
    number_fits 8 4 0 4,
    length_each hour_from 12 24 (part 12 288 b),
    all_each HourFits hour_from 12 24 (part 12 288 b)
        (λ i s. (row_fits 12 288 (i * 12) 0 4, row_fits 12 288 (i * 12) 4 4, read_sfits w32 (value 8 4 (drop (i * 12) (part 12 288 b))))),
    length_each event_from 1 24 (part 300 24 b),
    length_each flag_from 1 24 (part 324 24 b),
  )
