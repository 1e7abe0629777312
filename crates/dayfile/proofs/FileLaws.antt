-- A file is accepted just where it is the joined blocks of a day's records.
use Rattle.std.proofs.Common.{◌≡◌, ℕ, zero, suc, ◌+◌, ◌-◌, ◌*◌, ◌%◌, ◌<◌, ◌≤◌, Bool, true, false, cond, not, ◌&&◌, eqb, ltb, leb, ◌⊎◌, List, [], ◌∷◌, ◌++◌, map, length, get_or, drop, is_some, Some, None, Option, sym, refl, ap, ◌∙◌, subst, inl, inr, append-nil, add-zero, zero-add, arith}
use Rattle.std.specs.List.{flat_map}
use Rattle.std.proofs.lemmas.List.{length-append, length-map, take_all, get_or-take, get_or-drop, get_or_append_left}
use Rattle.std.proofs.lemmas.Bool.{cond-true, eq-eqb, ne_eqb, lt-ltb, eqb-true, eqb-false, and_parts, le-leb, leb-true, cases_lt}
use Rattle.dayfile.specs.declared.fault.Fault.{Fault}
use Rattle.dayfile.specs.declared.fault.Fault.TheVariants.{Length, Counts}
use Rattle.dayfile.specs.Files.{Standing}
use Rattle.dayfile.specs.declared.record.Record.{Record}
use Rattle.dayfile.specs.declared.record.Record.TheVariants.{Day, Participant}
use Rattle.dayfile.specs.declared.record.DayRecord.{DayRecord}
use Rattle.dayfile.specs.declared.record.ParticipantRecord.{ParticipantRecord}
use Rattle.dayfile.specs.Layout.{first_fault, earlier, table_for, day_table, field}
use Rattle.dayfile.specs.Bytes.{value}
use Rattle.dayfile.specs.Records.{record_of, day_of, encode, part}
use Rattle.dayfile.specs.Files.{checked, untied, rising, owned, kind, kind_before, accepted, known, block_fault, in_order, tally, standing, nothing, block, blocks, blocks_fault, or_else, verdict, end_fault, counted, well_sized}
use Rattle.dayfile.specs.Days.{records, records_from, record_at}
use Rattle.dayfile.proofs.Numbers.{Bytes, value_one}
use Rattle.dayfile.proofs.Tables.{earlier_none_parts, first_none_parts, entry_none}
use Rattle.dayfile.proofs.Walks.{standing_first}
use Rattle.dayfile.proofs.Encodings.{length_encode, encode_kind}
use Rattle.dayfile.proofs.Rounds.{reads_back}
use Rattle.dayfile.specs.Writing.{Fitting}
use Rattle.dayfile.proofs.Chains.{Chain, step, ends, chained, accepts, none_left, none_right, order_known, judged_none}
use Rattle.dayfile.specs.WellFormed.{Generator, generator_records, day_records}
use Rattle.dayfile.proofs.Shapes.{Shaped, chain_shape, shape_chain, day_ends}

-- what an accepted file's tests say
pub record Passed (f : List ℕ) : Type 0 where
  pub some : length f ≡ 0 → ⊥
  pub whole : length f % 512 ≡ 0
  pub short : length f ≤ 65536
  pub none : blocks_fault f 0 (blocks f) ≡ None
  pub participants : tally 80 f (blocks f) ≡ get_or f 10 0
  pub resources : tally 71 f (blocks f) ≡ get_or f 11 0

passes : (f : List ℕ) (w : Bool) (o : Option Fault) (c : Bool) → cond w (or_else o (cond c None (Some Counts))) (Some Length) ≡ None → (w ≡ true) × (o ≡ None) × (c ≡ true)
passes f false o c e = let z : ◌≡◌ {A = ℕ} 0 1 = cc in absurd (omega arith)
passes f true (Some x) c e = let z : ◌≡◌ {A = ℕ} 0 1 = cc in absurd (omega arith)
passes f true None false e = let z : ◌≡◌ {A = ℕ} 0 1 = cc in absurd (omega arith)
passes f true None true e = (refl, refl, refl)

not-true : (b : Bool) → not b ≡ true → b ≡ false
not-true true e = sym e
not-true false e = refl

pub passed : (f : List ℕ) → verdict f ≡ None → Passed f
passed f e =
    let p = passes f (well_sized f) (blocks_fault f 0 (blocks f)) (counted f) e in
    let w = and_parts (not (eqb (length f) 0)) (eqb (length f % 512) 0 && leb (length f) 65536) p.0 in
    let v = and_parts (eqb (length f % 512) 0) (leb (length f) 65536) w.1 in
    let c = and_parts (eqb (tally 80 f (blocks f)) (get_or f 10 0)) (eqb (tally 71 f (blocks f)) (get_or f 11 0)) p.2 in
    record {
      some = eqb-false (length f) 0 (not-true (eqb (length f) 0) w.0);
      whole = eqb-true (length f % 512) 0 v.0;
      short = leb-true (length f) 65536 v.1;
      none = p.1;
      participants = eqb-true (tally 80 f (blocks f)) (get_or f 10 0) c.0;
      resources = eqb-true (tally 71 f (blocks f)) (get_or f 11 0) c.1;
    }

pub unrefused : (f : List ℕ) → Passed f → verdict f ≡ None
unrefused f p =
    let w : well_sized f ≡ true = rw (ne_eqb (length f) 0 p.some, eq-eqb (length f % 512) 0 p.whole, le-leb (length f) 65536 p.short) refl in
    let c : counted f ≡ true = rw (eq-eqb (tally 80 f (blocks f)) (get_or f 10 0) p.participants, eq-eqb (tally 71 f (blocks f)) (get_or f 11 0) p.resources) refl in
    cond-true (well_sized f) (or_else (blocks_fault f 0 (blocks f)) (end_fault f)) (Some Length) w
    ∙ ap (λ o. or_else o (end_fault f)) p.none ∙ cond-true (counted f) None (Some Counts) c

-- LAW: the joined blocks of an accepted file's records are the file
pub records_again : (f : List ℕ) → Bytes f → Passed f → flat_map encode (records f) ≡ f
records_again f h p =
    let k = chained f h (blocks f) 0 (omega (arith, p.whole)) p.none in
    k.again ∙ take_all (512 * blocks f) f (omega (arith, p.whole))

pub records_chain : (f : List ℕ) → Bytes f → Passed f → Chain nothing (records f)
records_chain f h p =
    let k = chained f h (blocks f) 0 (omega (arith, p.whole)) p.none in
    subst (λ s. Chain s (records f)) (standing_first f) k.chain

-- the counts in a day's block
head_byte : (b : List ℕ) (i : ℕ) → i < 8 → get_or (part 4 8 b) i 0 ≡ get_or b (4 + i) 0
head_byte b i l = get_or-take 8 (drop 4 b) i 0 l ∙ get_or-drop 4 b i 0

day_same : {d e : DayRecord} → Day d ≡ Day e → d ≡ e
day_same q = cc

first_block : (f : List ℕ) (i : ℕ) → i < 512 → get_or (block f 0) i 0 ≡ get_or f i 0
first_block f i l = get_or-take 512 f i 0 l

-- an accepted file has no fault, and no block of it has
pub accepted_none : (f : List ℕ) → accepted f ≡ true → verdict f ≡ None
accepted_none f e = go (verdict f) e
  where
    go : (o : Option Fault) → not (is_some o) ≡ true → o ≡ None
    go None e = refl
    go (Some x) e = let z : ◌≡◌ {A = ℕ} 0 1 = cc in absurd (omega arith)

pub none_accepted : (f : List ℕ) → verdict f ≡ None → accepted f ≡ true
none_accepted f e = ap (λ o. not (is_some o)) e

blocks_at : (f : List ℕ) (n j i : ℕ) → i < n → blocks_fault f j n ≡ None → block_fault (standing f (j + i)) (j + i) (block f (j + i)) ≡ None
unfolding blocks_fault
blocks_at f zero j i l e = absurd (omega arith)
blocks_at f (suc n) j zero l e =
    ap (λ k. block_fault (standing f k) k (block f k)) (add-zero j) ∙ none_left (block_fault (standing f j) j (block f j)) (blocks_fault f (j + 1) n) e
blocks_at f (suc n) j (suc i) l e =
    let q : j + suc i ≡ j + 1 + i = omega arith in
    ap (λ k. block_fault (standing f k) k (block f k)) q ∙ blocks_at f n (j + 1) i (omega arith) (none_right (block_fault (standing f j) j (block f j)) (blocks_fault f (j + 1) n) e)

pub block_none : (f : List ℕ) (k : ℕ) → Passed f → k < blocks f → block_fault (standing f k) k (block f k) ≡ None
block_none f k p l = let e = zero-add k in ap (λ i. block_fault (standing f i) i (block f i)) (sym e) ∙ blocks_at f (blocks f) 0 k l p.none

block_ordered : (f : List ℕ) (k : ℕ) → Passed f → k < blocks f → in_order (kind_before f k) (kind f k) ≡ true
block_ordered f k p l =
    let s = standing f k in
    let b = block f k in
    (judged_none k (checked b) (in_order s.kind (kind f k)) (earlier (first_fault (table_for (kind f k)) b) (untied s b)) (rising s b) (owned s.participants b) (block_none f k p l)).1

pub block_known : (f : List ℕ) (k : ℕ) → Passed f → k < blocks f → known (kind f k) ≡ true
block_known f k p l = order_known (kind_before f k) (kind f k) (block_ordered f k p l)

-- the first block of an accepted file is the day's
pub some_block : (f : List ℕ) → Passed f → 0 < blocks f
some_block f p = go (cases_lt 0 (length f))
  where
    go : (0 < length f) ⊎ (length f ≤ 0) → 0 < blocks f
    go (inl l) = omega (arith, p.whole)
    go (inr l) = absurd (p.some (omega arith))

pub first_kind : (f : List ℕ) → Passed f → kind f 0 ≡ 68
unfolding kind_before
first_kind f p = eqb-true (kind f 0) 68 (block_ordered f 0 p (some_block f p))

pub first_record : (f : List ℕ) → Passed f → record_at f 0 ≡ Some (Day (day_of (block f 0)))
first_record f p =
    cond-true (ltb 0 (blocks f)) (Some (record_of (block f 0))) None (lt-ltb 0 (blocks f) (some_block f p))
    ∙ ap Some (cond-true (eqb (kind f 0) 68) (Day (day_of (block f 0))) _ (eq-eqb (kind f 0) 68 (first_kind f p)))

-- no more participants than a day can count
tally_more : (c : ℕ) (f : List ℕ) (k j : ℕ) → tally c f k ≤ tally c f (k + j)
unfolding tally
tally_more c f k zero = let e = ap (tally c f) (add-zero k) in omega (arith, e)
tally_more c f k (suc j) =
    let h = tally_more c f k j in
    let q : k + suc j ≡ suc (k + j) = omega arith in
    let e : tally c f (k + suc j) ≡ tally c f (k + j) + cond (eqb (kind f (k + j)) c) 1 0 = ap (tally c f) q in
    omega (arith, h, e)

-- what a block without a fault says of its fields
block_fields : (f : List ℕ) (k : ℕ) → Passed f → k < blocks f → first_fault (table_for (kind f k)) (block f k) ≡ None
block_fields f k p l =
    let s = standing f k in
    let b = block f k in
    (earlier_none_parts (first_fault (table_for (kind f k)) b) (untied s b)
    (judged_none k (checked b) (in_order s.kind (kind f k)) (earlier (first_fault (table_for (kind f k)) b) (untied s b)) (rising s b) (owned s.participants b) (block_none f k p l)).2).0

counted_few : (f : List ℕ) → Passed f → get_or f 10 0 ≤ 48
counted_few f p =
    let b = block f 0 in
    let t : first_fault day_table (block f 0) ≡ None = ap (λ c. first_fault (table_for c) b) (sym (first_kind f p)) ∙ block_fields f 0 p (some_block f p) in
    let t1 = (first_none_parts _ _ b t).1 in
    let t2 = (first_none_parts _ _ b t1).1 in
    let t3 = (first_none_parts _ _ b t2).1 in
    let t4 = (first_none_parts _ _ b t3).0 in
    let a = entry_none (field 10 1 1 48) b t4 0 (omega arith) in
    let l = leb-true (value 10 1 b) 48 (and_parts (leb 1 (value 10 1 b)) (leb (value 10 1 b) 48) a).1 in
    omega (arith, l, value_one 10 b, get_or-take 512 f 10 0 (omega arith))

pub few_participants : (f : List ℕ) (k : ℕ) → Passed f → k ≤ blocks f → tally 80 f k ≤ 48
few_participants f k p l =
    let e : k + (blocks f - k) ≡ blocks f = omega arith in
    let m = tally_more 80 f k (blocks f - k) in
    omega (arith, m, ap (tally 80 f) e, p.participants, counted_few f p)

-- what the first block of a day's records says of its counts
counts_of : (d : DayRecord) (rest : List ℕ) → Fitting (Day d) → (get_or (encode (Day d) ++ rest) 10 0 ≡ d.participants) × (get_or (encode (Day d) ++ rest) 11 0 ≡ d.resources)
counts_of d rest w =
    let b = encode (Day d) in
    let e : record_of b ≡ Day (day_of b) = cond-true (eqb (get_or b 0 0) 68) (Day (day_of b)) _ (eq-eqb (get_or b 0 0) 68 (encode_kind (Day d))) in
    let s : day_of b ≡ d = day_same (sym e ∙ reads_back (Day d) w) in
    let n = length_encode (Day d) w in (
      get_or_append_left b rest 0 10 (omega (arith, n)) ∙ sym (head_byte b 6 (omega arith)) ∙ ap (λ (x : DayRecord). x.participants) s,
      get_or_append_left b rest 0 11 (omega (arith, n)) ∙ sym (head_byte b 7 (omega arith)) ∙ ap (λ (x : DayRecord). x.resources) s,
    )

pub joined_length : (rs : List Record) (s : Standing) → Chain s rs → length (flat_map encode rs) ≡ 512 * length rs
joined_length [] s c = refl
joined_length (r ∷ rs) s c = length-append (encode r) (flat_map encode rs) ∙ omega (arith, length_encode r c.0.fits, joined_length rs (step s r) c.1)

pairs_few : (us : List Generator) → length (flat_map generator_records us) ≤ 2 * length us
pairs_few [] = omega arith
pairs_few ((g, None) ∷ us) = omega (arith, pairs_few us)
pairs_few ((g, Some r) ∷ us) = omega (arith, pairs_few us)

-- LAW, one way: a day's records, joined, are accepted
pub shaped_accepted : (d : DayRecord) (ps : List ParticipantRecord) (us : List Generator) → Shaped d ps us → d.participants ≡ length ps → d.resources ≡ length us
    → length ps ≤ 48 → length us ≤ 24 → (f : List ℕ) → flat_map encode (day_records d ps us) ≡ f → verdict f ≡ None
shaped_accepted d ps us h dp dr lp lu f e =
    let rs = day_records d ps us in
    let c = shape_chain d ps us h in
    let n : length (flat_map encode (day_records d ps us)) ≡ 512 * length (day_records d ps us) = joined_length rs nothing c in
    let lf : length f ≡ 512 * length (day_records d ps us) = ap length (sym e) ∙ n in
    let m : length (day_records d ps us) ≡ 1 + (length ps + length (flat_map generator_records us)) = omega (arith, length-append (map Participant ps) (flat_map generator_records us), length-map ps Participant) in
    let few = pairs_few us in
    let bs : blocks f ≡ length (day_records d ps us) = omega (arith, lf) in
    let ch = subst (λ s. Chain s rs) (sym (standing_first f)) c in
    let a = accepts rs f [] 0 (sym e ∙ sym (append-nil (flat_map encode rs))) ch in
    let st : standing f (blocks f) ≡ ends nothing (day_records d ps us) =
    ap (standing f) (bs ∙ sym (zero-add (length rs))) ∙ a.ending ∙ ap (λ s. ends s rs) (standing_first f) in
    let de = day_ends d ps us in
    let co = counts_of d (flat_map encode (map Participant ps ++ flat_map generator_records us)) h.day.0 in
    unrefused f
    (record {
      some = λ z. absurd (omega (arith, z, lf, m));
      whole = omega (arith, lf);
      short = omega (arith, lf, m, few);
      none = ap (blocks_fault f 0) bs ∙ a.none;
      participants = ap (λ (s : Standing). s.participants) st ∙ de.0 ∙ sym dp ∙ sym co.0 ∙ ap (λ x. get_or x 10 0) e;
      resources = ap (λ (s : Standing). s.resources) st ∙ de.1 ∙ sym dr ∙ sym co.1 ∙ ap (λ x. get_or x 11 0) e;
    })

-- and the other way: an accepted file's records are a day's
pub record ShapeOf (f : List ℕ) : Type 0 where
  pub d : DayRecord
  pub ps : List ParticipantRecord
  pub us : List Generator
  pub same : records f ≡ day_records d ps us
  pub shaped : Shaped d ps us
  pub participants : d.participants ≡ length ps
  pub resources : d.resources ≡ length us
  pub again : flat_map encode (day_records d ps us) ≡ f

records_length : (f : List ℕ) (k n : ℕ) → length (records_from f k n) ≡ n
unfolding records_from
records_length f k zero = refl
records_length f k (suc n) = ap suc (records_length f (k + 1) n)

pub accepted_shaped : (f : List ℕ) → Bytes f → Passed f → ShapeOf f
accepted_shaped f h p =
    let k = chained f h (blocks f) 0 (omega (arith, p.whole)) p.none in
    let c = records_chain f h p in
    let s = chain_shape (records f) (omega (arith, records_length f 0 (blocks f), some_block f p)) c in
    let again = ap (flat_map encode) (sym s.same) ∙ records_again f h p in
    let en : ends nothing (day_records s.d s.ps s.us) ≡ standing f (blocks f) =
    ap (ends nothing) (sym s.same) ∙ ap (λ x. ends x (records f)) (sym (standing_first f)) ∙ k.ending ∙ ap (standing f) (zero-add (blocks f)) in
    let de = day_ends s.d s.ps s.us in
    let co = counts_of s.d (flat_map encode (map Participant s.ps ++ flat_map generator_records s.us)) s.shaped.day.0 in
    record {
      d = s.d;
      ps = s.ps;
      us = s.us;
      same = s.same;
      shaped = s.shaped;
      participants = sym co.0 ∙ ap (λ x. get_or x 10 0) again ∙ sym p.participants ∙ sym (ap (λ (x : Standing). x.participants) en) ∙ de.0;
      resources = sym co.1 ∙ ap (λ x. get_or x 11 0) again ∙ sym p.resources ∙ sym (ap (λ (x : Standing). x.resources) en) ∙ de.1;
      again = again;
    }
