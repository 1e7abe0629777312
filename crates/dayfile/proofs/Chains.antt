-- The blocks of an accepted file as a chain of records, each good behind those before it.
use Rattle.std.proofs.Common.{◌≡◌, ℕ, zero, suc, ◌+◌, ◌*◌, ◌<◌, ◌≤◌, Bool, true, false, cond, not, ◌&&◌, ◌||◌, eqb, ◌⊎◌, List, [], ◌∷◌, ◌++◌, length, get_or, take, drop, Some, None, Option, sym, refl, ap, ◌∙◌, subst, inl, inr, add-zero, arith, take-add}
use Rattle.std.specs.List.{flat_map}
use Rattle.std.proofs.lemmas.List.{append_assoc, length-take, length-take-le, length-drop, drop-drop, take_at, drop_at, get_or-take, get_or_past}
use Rattle.std.proofs.lemmas.Bool.{eq-eqb, cases_lt}
use Rattle.dayfile.specs.declared.fault.Fault.{Fault}
use Rattle.dayfile.specs.Files.{Standing}
use Rattle.dayfile.specs.declared.record.Record.{Record}
use Rattle.dayfile.specs.declared.record.Record.TheVariants.{Day, Participant, Resource, RealTime}
use Rattle.dayfile.specs.Bytes.{value}
use Rattle.dayfile.specs.Owners.{owners_kept}
use Rattle.dayfile.specs.Layout.{first_fault, earlier, table_for}
use Rattle.dayfile.specs.Records.{record_of, resource_of, participant_of, day_of, real_time_of, encode, body, kind_of, part}
use Rattle.dayfile.specs.Writing.{Fitting, record_owned}
use Rattle.dayfile.specs.Files.{standing, after, block, checked, in_order, untied, above, rising, owned, judged, known, lone_fault, block_fault, blocks_fault, or_else}
use Rattle.dayfile.specs.Days.{records_from}
use Rattle.dayfile.proofs.Numbers.{Bytes, bytes_drop, value_drop, value_take}
use Rattle.dayfile.proofs.Tables.{earlier_none_parts}
use Rattle.dayfile.proofs.Tells.{Tells, holds, fails, tells_eqb}
use Rattle.dayfile.proofs.Walks.{standing_next}
use Rattle.dayfile.proofs.Encodings.{length_encode, encode_kind, encode_checked, encode_known, encode_fault}
use Rattle.dayfile.proofs.Rounds.{reads_back, kind_again, fitting_again, written_again}

-- the number in bytes 4 to 7 of a record's block
abbrev pub own_number : Record → ℕ
own_number (Day d) = d.date
own_number (Participant p) = p.number
own_number (Resource g) = g.number
own_number (RealTime r) = r.number

-- what stands behind a record
abbrev pub step : Standing → Record → Standing
step s r =
    record {
      kind = Some (kind_of r);
      number = own_number r;
      participants = s.participants + cond (eqb (kind_of r) 80) 1 0;
      resources = s.resources + cond (eqb (kind_of r) 71) 1 0;
      participant = cond (eqb (kind_of r) 80) (Some (own_number r)) s.participant;
      resource = cond (eqb (kind_of r) 71) (Some (own_number r)) s.resource;
    }

abbrev pub Tied : Standing → Record → Type 0
Tied s (Day d) = Unit {0}
Tied s (Participant p) = Unit {0}
Tied s (Resource g) = Unit {0}
Tied s (RealTime r) = r.number ≡ s.number

abbrev pub rises : Standing → Record → Bool
rises s (Day d) = true
rises s (Participant p) = above s.participant p.number
rises s (Resource g) = above s.resource g.number
rises s (RealTime r) = true

-- a record that may stand behind what stands before it
pub record Good (s : Standing) (r : Record) : Type 0 where
  pub fits : Fitting r
  pub fields : first_fault (table_for (kind_of r)) (body r) ≡ None
  pub follows : in_order s.kind (kind_of r) ≡ true
  pub tied : Tied s r
  pub risen : rises s r ≡ true
  pub shared : record_owned s.participants r ≡ true

abbrev pub Chain : Standing → List Record → Type 0
Chain s [] = Unit {0}
Chain s (r ∷ rs) = Good s r × Chain (step s r) rs

-- what the bytes of a record's block say of it
value_part : (b : List ℕ) → value 0 4 (part 4 4 b) ≡ value 4 4 b
value_part b = value_take 4 0 4 (drop 4 b) (omega arith) ∙ value_drop 4 0 4 b

-- the four kinds, and the record of each
abbrev Kinds : List ℕ → Type 0
Kinds b =
    ((get_or b 0 0 ≡ 68) × (record_of b ≡ Day (day_of b)))
    ⊎ (((get_or b 0 0 ≡ 80) × (record_of b ≡ Participant (participant_of b)))
    ⊎ (((get_or b 0 0 ≡ 71) × (record_of b ≡ Resource (resource_of b)))
    ⊎ ((get_or b 0 0 ≡ 82) × (record_of b ≡ RealTime (real_time_of b)))))

kinds : (b : List ℕ) → known (get_or b 0 0) ≡ true → Kinds b
kinds b e = go (tells_eqb (get_or b 0 0) 68) (tells_eqb (get_or b 0 0) 80) (tells_eqb (get_or b 0 0) 71) (tells_eqb (get_or b 0 0) 82) e
  where
    go : {x y z w : Bool} → Tells (get_or b 0 0 ≡ 68) x → Tells (get_or b 0 0 ≡ 80) y → Tells (get_or b 0 0 ≡ 71) z → Tells (get_or b 0 0 ≡ 82) w → (x || (y || (z || w))) ≡ true
        → ((get_or b 0 0 ≡ 68) × (cond x (Day (day_of b)) (cond y (Participant (participant_of b)) (cond z (Resource (resource_of b)) (RealTime (real_time_of b)))) ≡ Day (day_of b)))
        ⊎ (((get_or b 0 0 ≡ 80) × (cond x (Day (day_of b)) (cond y (Participant (participant_of b)) (cond z (Resource (resource_of b)) (RealTime (real_time_of b)))) ≡ Participant (participant_of b)))
        ⊎ (((get_or b 0 0 ≡ 71) × (cond x (Day (day_of b)) (cond y (Participant (participant_of b)) (cond z (Resource (resource_of b)) (RealTime (real_time_of b)))) ≡ Resource (resource_of b)))
        ⊎ ((get_or b 0 0 ≡ 82) × (cond x (Day (day_of b)) (cond y (Participant (participant_of b)) (cond z (Resource (resource_of b)) (RealTime (real_time_of b)))) ≡ RealTime (real_time_of b)))))
    go (holds p) y z w e = inl (p, refl)
    go (fails p) (holds q) z w e = inr (inl (q, refl))
    go (fails p) (fails q) (holds r) w e = inr (inr (inl (r, refl)))
    go (fails p) (fails q) (fails r) (holds s) e = inr (inr (inr (s, refl)))
    go (fails p) (fails q) (fails r) (fails s) e = let z : ◌≡◌ {A = ℕ} 0 1 = cc in absurd (omega arith)

number_again : (b : List ℕ) → known (get_or b 0 0) ≡ true → own_number (record_of b) ≡ value 4 4 b
number_again b e =
    elim (kinds b e) [
      | inl h ↦ ap own_number h.1 ∙ value_take 8 0 4 (drop 4 b) (omega arith) ∙ value_drop 4 0 4 b
      | inr t ↦ elim t [
        | inl h ↦ ap own_number h.1 ∙ value_part b
        | inr t ↦ elim t [
          | inl h ↦ ap own_number h.1 ∙ value_part b
          | inr h ↦ ap own_number h.1 ∙ value_part b
        ]
      ]
    ]

encode_number : (r : Record) → Fitting r → value 4 4 (encode r) ≡ own_number r
encode_number r w = sym (number_again (encode r) (encode_known r)) ∙ ap own_number (reads_back r w)

-- what no fault of a block says
pub judged_none : (k : ℕ) (a b : Bool) (o : Option ℕ) (c d : Bool) → judged k a b o c d ≡ None → (a ≡ true) × (b ≡ true) × (o ≡ None) × (c ≡ true) × (d ≡ true)
judged_none k false b o c d e = let z : ◌≡◌ {A = ℕ} 0 1 = cc in absurd (omega arith)
judged_none k true false o c d e = let z : ◌≡◌ {A = ℕ} 0 1 = cc in absurd (omega arith)
judged_none k true true (Some p) c d e = let z : ◌≡◌ {A = ℕ} 0 1 = cc in absurd (omega arith)
judged_none k true true None false d e = let z : ◌≡◌ {A = ℕ} 0 1 = cc in absurd (omega arith)
judged_none k true true None true false e = let z : ◌≡◌ {A = ℕ} 0 1 = cc in absurd (omega arith)
judged_none k true true None true true e = (refl, refl, refl, refl, refl)

pub none_judged : (k : ℕ) (a b : Bool) (o : Option ℕ) (c d : Bool) → a ≡ true → b ≡ true → o ≡ None → c ≡ true → d ≡ true → judged k a b o c d ≡ None
none_judged k a b o c d p q r s t = rw (p, q, r, s, t) refl

-- the tests of a record's block are those of the record
after_step : (s : Standing) (r : Record) → Fitting r → after s (encode r) ≡ step s r
after_step s r w =
    ap (λ c. at c (value 4 4 (encode r))) (encode_kind r) ∙ ap (at (kind_of r)) (encode_number r w)
  where
    at : ℕ → ℕ → Standing
    at c n =
        record {
          kind = Some c;
          number = n;
          participants = s.participants + cond (eqb c 80) 1 0;
          resources = s.resources + cond (eqb c 71) 1 0;
          participant = cond (eqb c 80) (Some n) s.participant;
          resource = cond (eqb c 71) (Some n) s.resource;
        }

abbrev four_if : Bool → Option ℕ
four_if b = cond b (Some 4) None

untied_none : (s : Standing) (r : Record) → Fitting r → Tied s r → untied s (encode r) ≡ None
untied_none s r w t = ap (λ c. four_if (eqb c 82 && not (eqb (value 4 4 (encode r)) s.number))) (encode_kind r) ∙ go r w t
  where
    go : (r : Record) → Fitting r → Tied s r → four_if (eqb (kind_of r) 82 && not (eqb (value 4 4 (encode r)) s.number)) ≡ None
    go (Day d) w t = refl
    go (Participant p) w t = refl
    go (Resource g) w t = refl
    go (RealTime q) w t = ap (λ b. four_if (not b)) (eq-eqb (value 4 4 (encode (RealTime q))) s.number (encode_number (RealTime q) w ∙ t))

none_untied : (s : Standing) (r : Record) → Fitting r → untied s (encode r) ≡ None → Tied s r
none_untied s (Day d) w e = tt
none_untied s (Participant p) w e = tt
none_untied s (Resource g) w e = tt
none_untied s (RealTime q) w e =
    sym (encode_number (RealTime q) w) ∙ go (tells_eqb (value 4 4 (encode (RealTime q))) s.number) (sym (ap (λ c. four_if (eqb c 82 && not (eqb (value 4 4 (encode (RealTime q))) s.number))) (encode_kind (RealTime q))) ∙ e)
  where
    go : {b : Bool} → Tells (value 4 4 (encode (RealTime q)) ≡ s.number) b → four_if (not b) ≡ None → value 4 4 (encode (RealTime q)) ≡ s.number
    go (holds h) e = h
    go (fails h) e = let z : ◌≡◌ {A = ℕ} 0 1 = cc in absurd (omega arith)

rising_is : (s : Standing) (r : Record) → Fitting r → rising s (encode r) ≡ rises s r
rising_is s r w =
    ap (λ c. cond (eqb c 80) (above s.participant (value 4 4 (encode r))) (cond (eqb c 71) (above s.resource (value 4 4 (encode r))) true)) (encode_kind r) ∙ go r w
  where
    go : (r : Record) → Fitting r → cond (eqb (kind_of r) 80) (above s.participant (value 4 4 (encode r))) (cond (eqb (kind_of r) 71) (above s.resource (value 4 4 (encode r))) true) ≡ rises s r
    go (Day d) w = refl
    go (Participant p) w = ap (above s.participant) (encode_number (Participant p) w)
    go (Resource g) w = ap (above s.resource) (encode_number (Resource g) w)
    go (RealTime q) w = refl

owned_record : (limit : ℕ) (b : List ℕ) → known (get_or b 0 0) ≡ true → owned limit b ≡ record_owned limit (record_of b)
owned_record limit b e =
    elim (kinds b e) [
      | inl h ↦ other h.0 ∙ sym (ap (record_owned limit) h.1)
      | inr t ↦ elim t [
        | inl h ↦ other h.0 ∙ sym (ap (record_owned limit) h.1)
        | inr t ↦ elim t [
          | inl h ↦ ap (λ c. cond (eqb c 71) kept true) h.0 ∙ sym (ap (record_owned limit) h.1)
          | inr h ↦ other h.0 ∙ sym (ap (record_owned limit) h.1)
        ]
      ]
    ]
  where
    kept : Bool
    kept = owners_kept limit (resource_of b).owner_count (resource_of b).owners

    other : {c : ℕ} → get_or b 0 0 ≡ c → owned limit b ≡ cond (eqb c 71) kept true
    other q = ap (λ c. cond (eqb c 71) kept true) q

pub owned_is : (limit : ℕ) (r : Record) → Fitting r → owned limit (encode r) ≡ record_owned limit r
owned_is limit r w = owned_record limit (encode r) (encode_known r) ∙ ap (record_owned limit) (reads_back r w)

-- a good record's block has no fault
pub good_block : (s : Standing) (r : Record) (k : ℕ) → Good s r → block_fault s k (encode r) ≡ None
good_block s r k g =
    none_judged k _ _ _ _ _
    (encode_checked r g.fits)
    (ap (in_order s.kind) (encode_kind r) ∙ g.follows)
    (ap (λ o. earlier o (untied s (encode r))) (encode_fault r g.fits ∙ g.fields) ∙ untied_none s r g.fits g.tied)
    (rising_is s r g.fits ∙ g.risen)
    (owned_is s.participants r g.fits ∙ g.shared)

-- a block without a fault is a good record's
pub order_known : (o : Option ℕ) (c : ℕ) → in_order o c ≡ true → known c ≡ true
order_known None c e = ap (λ b. b || (eqb c 80 || (eqb c 71 || eqb c 82))) e
order_known (Some q) c e = go (eqb c 68) (eqb c 80) (eqb c 71) (eqb c 82) (eqb q 68 || eqb q 80) (eqb q 71) e
  where
    go : (d p g r x y : Bool) → ((p && x) || (g || (r && y))) ≡ true → (d || (p || (g || r))) ≡ true
    go true p g r x y e = refl
    go false true g r x y e = refl
    go false false true r x y e = refl
    go false false false true x y e = refl
    go false false false false x y e = e

pub record BlockGood (s : Standing) (b : List ℕ) : Type 0 where
  pub good : Good s (record_of b)
  pub again : encode (record_of b) ≡ b

pub block_good : (s : Standing) (k : ℕ) (b : List ℕ) → length b ≡ 512 → Bytes b → block_fault s k b ≡ None → BlockGood s b
block_good s k b l h e =
    let j = judged_none k (checked b) (in_order s.kind (get_or b 0 0)) (earlier (first_fault (table_for (get_or b 0 0)) b) (untied s b)) (rising s b) (owned s.participants b) e in
    let kn = order_known s.kind (get_or b 0 0) j.1 in
    let fu = earlier_none_parts (first_fault (table_for (get_or b 0 0)) b) (untied s b) j.2 in
    let r = record_of b in
    let w = fitting_again b h in
    let a = written_again b l h kn j.0 fu.0 in
    record {
      good =
          record {
            fits = w;
            fields = sym (encode_fault r w) ∙ ap (λ x. first_fault (table_for (get_or x 0 0)) x) a ∙ fu.0;
            follows = ap (in_order s.kind) (kind_again b kn) ∙ j.1;
            tied = none_untied s r w (ap (untied s) a ∙ fu.1);
            risen = sym (rising_is s r w) ∙ ap (rising s) a ∙ j.3;
            shared = sym (owned_is s.participants r w) ∙ ap (owned s.participants) a ∙ j.4;
          };
      again = a;
    }

-- what stands behind a chain
abbrev pub ends : Standing → List Record → Standing
ends s [] = s
ends s (r ∷ rs) = ends (step s r) rs

pub none_left : (o u : Option Fault) → or_else o u ≡ None → o ≡ None
none_left None u e = refl
none_left (Some x) u e = e

pub none_right : (o u : Option Fault) → or_else o u ≡ None → u ≡ None
none_right None u e = e
none_right (Some x) u e = let z : ◌≡◌ {A = ℕ} 0 1 = cc in absurd (omega arith)

pub bytes_take : (n : ℕ) (bs : List ℕ) → Bytes bs → Bytes (take n bs)
bytes_take n bs h i =
    elim (cases_lt i n) [
      | inl l ↦ subst (λ x. x < 256) (sym (get_or-take n bs i 0 l)) (h i)
      | inr g ↦ subst (λ x. x < 256) (sym (get_or_past (take n bs) i 0 (omega (arith, length-take n bs)))) (omega arith)
    ]

-- the blocks of a file without a fault are a chain's
pub record Chained (f : List ℕ) (k n : ℕ) : Type 0 where
  pub chain : Chain (standing f k) (records_from f k n)
  pub ending : ends (standing f k) (records_from f k n) ≡ standing f (k + n)
  pub again : flat_map encode (records_from f k n) ≡ take (512 * n) (drop (512 * k) f)

pub chained : (f : List ℕ) → Bytes f → (n k : ℕ) → 512 * (k + n) ≤ length f → blocks_fault f k n ≡ None → Chained f k n
unfolding blocks_fault records_from
chained f h zero k l e = record { chain = tt; ending = ap (standing f) (sym (add-zero k)); again = refl }
chained f h (suc n) k l e =
    let b = block f k in
    let d = length-drop (512 * k) f in
    let bl = length-take-le 512 (drop (512 * k) f) (omega (arith, d)) in
    let g = block_good (standing f k) k b bl (bytes_take 512 (drop (512 * k) f) (bytes_drop (512 * k) f h)) (none_left (block_fault (standing f k) k b) (blocks_fault f (k + 1) n) e) in
    let ih = chained f h n (k + 1) (omega arith) (none_right (block_fault (standing f k) k b) (blocks_fault f (k + 1) n) e) in
    let st : standing f (k + 1) ≡ step (standing f k) (record_of (block f k)) =
    standing_next f k ∙ ap (after (standing f k)) (sym g.again) ∙ after_step (standing f k) (record_of (block f k)) g.good.fits in
    let s : k + 1 + n ≡ k + suc n = omega arith in
    let t : 512 * k + 512 ≡ 512 * (k + 1) = omega arith in
    let u : 512 + 512 * n ≡ 512 * suc n = omega arith in
    record {
      chain = (g.good, subst (λ x. Chain x (records_from f (k + 1) n)) st ih.chain);
      ending = ap (λ x. ends x (records_from f (k + 1) n)) (sym st) ∙ ih.ending ∙ ap (standing f) s;
      again =
          ap (λ x. x ++ flat_map encode (records_from f (k + 1) n)) g.again
          ∙ ap (λ x. block f k ++ x) (ih.again ∙ ap (λ i. take (512 * n) (drop i f)) (sym t) ∙ ap (take (512 * n)) (sym (drop-drop 512 (512 * k) f)))
          ∙ sym (take-add 512 (512 * n) (drop (512 * k) f))
          ∙ ap (λ i. take i (drop (512 * k) f)) u;
    }

-- a chain's blocks have no fault
pub record Accepts (f : List ℕ) (k : ℕ) (rs : List Record) : Type 0 where
  pub none : blocks_fault f k (length rs) ≡ None
  pub ending : standing f (k + length rs) ≡ ends (standing f k) rs

pub accepts : (rs : List Record) (f rest : List ℕ) (k : ℕ) → drop (512 * k) f ≡ flat_map encode rs ++ rest → Chain (standing f k) rs → Accepts f k rs
unfolding blocks_fault
accepts [] f rest k e c = record { none = refl; ending = ap (standing f) (add-zero k) }
accepts (r ∷ rs) f rest k e c =
    let g = c.0 in
    let n = length_encode r g.fits in
    let a : drop (512 * k) f ≡ encode r ++ (flat_map encode rs ++ rest) = e ∙ append_assoc (encode r) (flat_map encode rs) rest in
    let b : block f k ≡ encode r = ap (take 512) a ∙ take_at (encode r) (flat_map encode rs ++ rest) 512 n in
    let t : 512 * k + 512 ≡ 512 * (k + 1) = omega arith in
    let d : drop (512 * (k + 1)) f ≡ flat_map encode rs ++ rest =
    ap (λ i. drop i f) (sym t) ∙ sym (drop-drop 512 (512 * k) f) ∙ ap (drop 512) a ∙ drop_at (encode r) (flat_map encode rs ++ rest) 512 n in
    let st : standing f (k + 1) ≡ step (standing f k) r = standing_next f k ∙ ap (after (standing f k)) b ∙ after_step (standing f k) r g.fits in
    let ih = accepts rs f rest (k + 1) d (subst (λ x. Chain x rs) (sym st) c.1) in
    let s : k + suc (length rs) ≡ k + 1 + length rs = omega arith in
    record {
      none = ap (λ o. or_else o (blocks_fault f (k + 1) (length rs))) (ap (block_fault (standing f k) k) b ∙ good_block (standing f k) r k g) ∙ ih.none;
      ending = ap (standing f) s ∙ ih.ending ∙ ap (λ x. ends x rs) st;
    }

-- a block by itself without a fault is its record's
module _ (b : List ℕ) (e : lone_fault b ≡ None) where
  pub lone_parts : (checked b ≡ true) × (known (get_or b 0 0) ≡ true) × (first_fault (table_for (get_or b 0 0)) b ≡ None) × (true ≡ true) × (owned 48 b ≡ true)
  lone_parts = judged_none 0 (checked b) (known (get_or b 0 0)) (first_fault (table_for (get_or b 0 0)) b) true (owned 48 b) e

  pub lone_known : known (get_or b 0 0) ≡ true
  lone_known = lone_parts.1

pub lone_again : (b : List ℕ) → length b ≡ 512 → Bytes b → lone_fault b ≡ None → encode (record_of b) ≡ b
lone_again b l h e = let p = lone_parts b e in written_again b l h p.1 p.0 p.2
