-- A file is accepted just where it is the joined blocks of a well-formed day.
use Rattle.std.proofs.Common.{◌≡◌, ℕ, ◌+◌, ◌*◌, ◌^◌, ◌≤◌, true, List, [], ◌∷◌, ◌++◌, map, length, take, drop, Some, None, Ok, sym, refl, ap, ◌∙◌, append-nil, arith}
use Rattle.std.specs.List.{flat_map, AllByRecursion}
use Rattle.std.proofs.lemmas.List.{append_assoc, take_at, drop_at, drop-drop}
use Rattle.std.proofs.lemmas.Bool.{ltb-true, lt-ltb}
use Rattle.dayfile.specs.Files.{Standing}
use Rattle.dayfile.specs.declared.record.Record.{Record}
use Rattle.dayfile.specs.declared.record.Record.TheVariants.{Day, Participant, Resource, RealTime}
use Rattle.dayfile.specs.declared.record.DayRecord.{DayRecord}
use Rattle.dayfile.specs.declared.record.ParticipantRecord.{ParticipantRecord}
use Rattle.dayfile.specs.Owners.{Rises}
use Rattle.dayfile.specs.Records.{record_of, encode}
use Rattle.dayfile.specs.Writing.{record_owned}
use Rattle.dayfile.specs.Files.{block, blocks, nothing, verdict, answer}
use Rattle.dayfile.specs.Days.{records, records_from}
use Rattle.dayfile.specs.Keeping.{ParticipantKept, ResourceKept, Keeps}
use Rattle.dayfile.specs.WellFormed.{Generator, OwnRealTimeKept, day_records, WellFormed, Encodes, Formed, WellFormedOnly}
use Rattle.dayfile.proofs.Numbers.{Bytes}
use Rattle.dayfile.proofs.Walks.{answer_ok}
use Rattle.dayfile.proofs.Encodings.{length_encode}
use Rattle.dayfile.proofs.Rounds.{reads_back}
use Rattle.dayfile.proofs.Keepings.{kept_fits, kept_faultless, kept_owners, faultless_kept}
use Rattle.dayfile.proofs.Chains.{Chain, step}
use Rattle.dayfile.proofs.Shapes.{Sound, RisesBehind, PairSound, Shaped, shape_chain}
use Rattle.dayfile.proofs.FileLaws.{passed, shaped_accepted, accepted_shaped, joined_length}

all_like : {A : Type 0} (P Q : A → Type 0) (xs : List A) → ((x : A) → P x → Q x) → AllByRecursion P xs → AllByRecursion Q xs
all_like P Q [] h a = tt
all_like P Q (x ∷ xs) h a = (h x a.0, all_like P Q xs h a.1)

all_both : {A : Type 0} (P Q : A → Type 0) (xs : List A) → AllByRecursion P xs → AllByRecursion Q xs → AllByRecursion (λ x. P x × Q x) xs
all_both P Q [] a b = tt
all_both P Q (x ∷ xs) a b = ((a.0, b.0), all_both P Q xs a.1 b.1)

-- a record that keeps its limits is a sound one
keeps_sound : (limit : ℕ) (r : Record) → limit ≤ 2 ^ 16 → Keeps limit r → Sound r × (record_owned limit r ≡ true)
keeps_sound limit r l k = ((kept_fits limit r l k, kept_faultless limit r l k), kept_owners limit r k)

sound_keeps : (limit : ℕ) (r : Record) → Sound r → record_owned limit r ≡ true → Keeps limit r
sound_keeps limit r s o = faultless_kept limit r s.0 s.1 o

-- numbers that rise
behind_rises : (n : ℕ) (ns : List ℕ) → RisesBehind (Some n) ns → Rises (n ∷ ns)
behind_rises n [] h = tt
behind_rises n (m ∷ ms) h = (ltb-true n m h.0, behind_rises m ms h.1)

rises_behind : (n : ℕ) (ns : List ℕ) → Rises (n ∷ ns) → RisesBehind (Some n) ns
rises_behind n [] h = tt
rises_behind n (m ∷ ms) h = (lt-ltb n m h.0, rises_behind m ms h.1)

to_rises : (ns : List ℕ) → RisesBehind None ns → Rises ns
to_rises [] h = tt
to_rises (n ∷ ns) h = behind_rises n ns h.1

from_rises : (ns : List ℕ) → Rises ns → RisesBehind None ns
from_rises [] h = tt
from_rises (n ∷ ns) h = (refl, rises_behind n ns h)

-- generators
sound_generator : (limit : ℕ) (g : Generator) → PairSound limit g → ResourceKept limit g.0 × OwnRealTimeKept g
sound_generator limit (g, None) h = (sound_keeps limit (Resource g) h.0 h.1, tt)
sound_generator limit (g, Some r) h = (sound_keeps limit (Resource g) h.0 h.1, (sound_keeps limit (RealTime r) h.2.0 refl, h.2.1))

generator_sound : (limit : ℕ) → limit ≤ 2 ^ 16 → (g : Generator) → ResourceKept limit g.0 × OwnRealTimeKept g → PairSound limit g
generator_sound limit l (g, None) h = let s = keeps_sound limit (Resource g) l h.0 in (s.0, s.1, tt)
generator_sound limit l (g, Some r) h = let s = keeps_sound limit (Resource g) l h.0 in (s.0, s.1, ((keeps_sound limit (RealTime r) l h.1.0).0, h.1.1))

module _ (d : DayRecord) (ps : List ParticipantRecord) (gs : List Generator) where
  shaped_formed : Shaped d ps gs → d.participants ≡ length ps → d.resources ≡ length gs → WellFormed d ps gs
  shaped_formed h p r =
      let k = all_like (PairSound (length ps)) (λ g. ResourceKept (length ps) g.0 × OwnRealTimeKept g) gs (sound_generator (length ps)) h.pairs in
      record {
        day = sound_keeps 0 (Day d) h.day refl;
        participants = all_like (λ p. Sound (Participant p)) ParticipantKept ps (λ p s. sound_keeps 0 (Participant p) s refl) h.sound;
        participants_rise = to_rises (map (λ p. p.number) ps) h.risen;
        resources = all_like (λ g. ResourceKept (length ps) g.0 × OwnRealTimeKept g) (λ g. ResourceKept (length ps) g.0) gs (λ g x. x.0) k;
        resources_rise = to_rises (map (λ g. g.0.number) gs) h.above;
        real_time = all_like (λ g. ResourceKept (length ps) g.0 × OwnRealTimeKept g) OwnRealTimeKept gs (λ g x. x.1) k;
        participants_counted = p;
        resources_counted = r;
      }

  formed_shaped : WellFormed d ps gs → Shaped d ps gs
  formed_shaped w =
      let few : length ps ≤ 2 ^ 16 = omega (arith, w.day.participants.1, w.participants_counted) in
      record {
        day = (keeps_sound 0 (Day d) (omega arith) w.day).0;
        sound = all_like ParticipantKept (λ p. Sound (Participant p)) ps (λ p k. (keeps_sound 0 (Participant p) (omega arith) k).0) w.participants;
        risen = from_rises (map (λ p. p.number) ps) w.participants_rise;
        pairs = all_like (λ g. ResourceKept (length ps) g.0 × OwnRealTimeKept g) (PairSound (length ps)) gs (generator_sound (length ps) few)
            (all_both (λ g. ResourceKept (length ps) g.0) OwnRealTimeKept gs w.resources w.real_time);
        above = from_rises (map (λ g. g.0.number) gs) w.resources_rise;
      }

-- the records of a file that is a chain's joined blocks
reads_all : (rs : List Record) (s : Standing) (f rest : List ℕ) (k : ℕ) → drop (512 * k) f ≡ flat_map encode rs ++ rest → Chain s rs → records_from f k (length rs) ≡ rs
unfolding records_from
reads_all [] s f rest k e c = refl
reads_all (r ∷ rs) s f rest k e c =
    let n = length_encode r c.0.fits in
    let a : drop (512 * k) f ≡ encode r ++ (flat_map encode rs ++ rest) = e ∙ append_assoc (encode r) (flat_map encode rs) rest in
    let b : block f k ≡ encode r = ap (take 512) a ∙ take_at (encode r) (flat_map encode rs ++ rest) 512 n in
    let t : 512 * k + 512 ≡ 512 * (k + 1) = omega arith in
    let d : drop (512 * (k + 1)) f ≡ flat_map encode rs ++ rest =
    ap (λ i. drop i f) (sym t) ∙ sym (drop-drop 512 (512 * k) f) ∙ ap (drop 512) a ∙ drop_at (encode r) (flat_map encode rs ++ rest) 512 n in
    ap (λ x. x ∷ records_from f (k + 1) (length rs)) (ap record_of b ∙ reads_back r c.0.fits)
    ∙ ap (λ x. r ∷ x) (reads_all rs (step s r) f rest (k + 1) d c.1)

-- THE LAW
module _ (f : List ℕ) (h : Bytes f) where
  pub accepted_formed : answer (verdict f) ≡ Ok tt → (d : DayRecord) × ((ps : List ParticipantRecord) × ((gs : List Generator) × Encodes f d ps gs))
  accepted_formed e =
      let s = accepted_shaped f h (passed f (answer_ok (verdict f) e)) in
      (s.d, (s.ps, (s.us, (shaped_formed s.d s.ps s.us s.shaped s.participants s.resources, s.again))))

  formed_accepted : (d : DayRecord) (ps : List ParticipantRecord) (gs : List Generator) → Encodes f d ps gs → answer (verdict f) ≡ Ok tt
  formed_accepted d ps gs e =
      let w = e.0 in
      ap answer (shaped_accepted d ps gs (formed_shaped d ps gs w) w.participants_counted w.resources_counted
      (omega (arith, w.day.participants.1, w.participants_counted)) (omega (arith, w.day.resources, w.resources_counted)) f e.1)

  formed_shown : (d : DayRecord) (ps : List ParticipantRecord) (gs : List Generator) → Encodes f d ps gs → records f ≡ day_records d ps gs
  formed_shown d ps gs e =
      let rs = day_records d ps gs in
      let c = shape_chain d ps gs (formed_shaped d ps gs e.0) in
      let n : blocks f ≡ length (day_records d ps gs) = omega (arith, ap length e.1, joined_length rs nothing c) in
      ap (records_from f 0) n ∙ reads_all rs nothing f [] 0 (sym e.1 ∙ sym (append-nil (flat_map encode rs))) c

  pub formed : answer (verdict f) ≡ Ok tt → Formed f
  formed e =
      let x = accepted_formed e in
      (x.0, (x.1.0, (x.1.1.0, (x.1.1.1, formed_shown x.0 x.1.0 x.1.1.0 x.1.1.1))))

  pub well_formed_only : WellFormedOnly f (answer (verdict f))
  well_formed_only = record { accepted = (accepted_formed, λ x. formed_accepted x.0 x.1.0 x.1.1.0 x.1.1.1); shown = formed_shown }
