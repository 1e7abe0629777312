-- A day's records from a block on, its participants, and its Resources, which keep their limits.
use Rattle.std.proofs.Common.{◌≡◌, ℕ, zero, suc, ◌+◌, ◌<◌, ◌≤◌, Bool, true, false, cond, ltb, List, [], ◌∷◌, ◌++◌, map, length, get_or, take, drop, is_some, IfSome, Some, None, Option, sym, refl, ap, ◌∙◌, subst, add-zero, zero-add, one-add, arith}
use Rattle.std.specs.Prelude.{MatchOption}
use Rattle.std.specs.List.{flat_map, AllByRecursion}
use Rattle.std.proofs.lemmas.List.{drop_more, drop_all, length-append, length-map}
use Rattle.std.proofs.lemmas.Bool.{ltb-true, ltb-false, cond-true, lt-ltb}
use Rattle.std.proofs.ByRecursion.{All-weaker}
use Rattle.dayfile.specs.declared.block.Block.{Block}
use Rattle.dayfile.specs.declared.block.Block.TheVariants.{Day as DayBlock, Participant as ParticipantBlock, Resource as ResourceBlock, RealTime as RealTimeBlock}
use Rattle.dayfile.specs.Blocks.{Shows, shown}
use Rattle.dayfile.specs.declared.record.Record.{Record}
use Rattle.dayfile.specs.declared.record.Record.TheVariants.{Day, Participant, Resource, RealTime}
use Rattle.dayfile.specs.declared.record.DayRecord.{DayRecord}
use Rattle.dayfile.specs.declared.record.ParticipantRecord.{ParticipantRecord}
use Rattle.dayfile.specs.declared.day.AdmittedDay.{AdmittedDay}
use Rattle.dayfile.specs.Records.{record_of}
use Rattle.dayfile.specs.Files.{block, blocks, answer}
use Rattle.dayfile.proofs.FileLaws.{accepted_none, passed}
use Rattle.dayfile.proofs.WellFormedLaws.{formed}
use Rattle.dayfile.specs.Days.{records, records_from, record_at}
use Rattle.dayfile.specs.Keeping.{ResourceKept}
use Rattle.dayfile.specs.WellFormed.{Generator, generator_records, day_records, Formed}
use Rattle.dayfile.specs.WellFormed as well
use Rattle.credits.specs.Resources.{ResourceDay, Kept, OwnRealTimeKept, resource_first, of_resource, real_time_first, in_front, resources_from, resources_of}
use Rattle.credits.specs.Crediting.{participants_in, participants_of}

-- a file has a record for each block
from_length : (f : List ℕ) (k n : ℕ) → length (records_from f k n) ≡ n
unfolding records_from
from_length f k zero = refl
from_length f k (suc n) = ap suc (from_length f (k + 1) n)

from_get_or : (f : List ℕ) (k n i : ℕ) (d : Record) → i < n → get_or (records_from f k n) i d ≡ record_of (block f (k + i))
unfolding records_from
from_get_or f k zero i d l = absurd (omega arith)
from_get_or f k (suc n) zero d l = ap (λ j. record_of (block f j)) (sym (add-zero k))
from_get_or f k (suc n) (suc i) d l =
    let e : k + 1 + i ≡ k + suc i = omega arith in
    from_get_or f (k + 1) n i d (omega arith) ∙ ap (λ j. record_of (block f j)) e

pub length_records : (f : List ℕ) → length (records f) ≡ blocks f
length_records f = from_length f 0 (blocks f)

module _ (f : List ℕ) (k : ℕ) where
  -- the record of block k is the k-th
  pub get_or_records : (d : Record) → k < blocks f → get_or (records f) k d ≡ record_of (block f k)
  get_or_records d l = from_get_or f 0 (blocks f) k d l ∙ ap (λ j. record_of (block f j)) (zero-add k)

  pub record_at_is : (d : Record) → k < blocks f → record_at f k ≡ Some (get_or (records f) k d)
  record_at_is d l = cond-true (ltb k (blocks f)) (Some (record_of (block f k))) None (lt-ltb k (blocks f) l) ∙ ap Some (sym (get_or_records d l))

  -- the records from block k on
  pub records_more : k < blocks f → drop k (records f) ≡ record_of (block f k) ∷ drop (k + 1) (records f)
  records_more l =
      let d = record_of (block f k) in
      drop_more (records f) k d (omega (arith, length_records f)) ∙ ap (λ r. r ∷ drop (k + 1) (records f)) (get_or_records d l)

  pub records_none : blocks f ≤ k → drop k (records f) ≡ []
  records_none l = drop_all k (records f) (omega (arith, length_records f))

  -- what a function makes of them, by what is told of block k
  pub from_told : {A : Type 0} (F : List Record → A) (o : Option Record) → o ≡ record_at f k
      → F (drop k (records f)) ≡ elim o [ None ↦ F [] | Some r ↦ F (r ∷ drop (k + 1) (records f)) ]
  from_told {A} F o e =
      go (ltb k (blocks f)) refl
      ∙ ap (λ (x : Option Record). elim x as (λ _. A) [ None ↦ F [] | Some r ↦ F (r ∷ drop (k + 1) (records f)) ]) (sym e)
    where
      go : (b : Bool) → ltb k (blocks f) ≡ b
          → F (drop k (records f)) ≡ elim (cond b (Some (record_of (block f k))) None) as (λ _. A) [ None ↦ F [] | Some r ↦ F (r ∷ drop (k + 1) (records f)) ]
      go true t = ap F (records_more (ltb-true k (blocks f) t))
      go false t = ap F (records_none (ltb-false k (blocks f) t))

  -- whether block k opens a Resource, by its parts
  opens : (b : Block) → k < blocks f → shown b ≡ record_of (block f k) → is_some (resource_first k (drop k (records f))) ≡ of_resource b
  opens b l e = ap (λ rs. is_some (resource_first k rs)) (records_more l ∙ ap (λ r. r ∷ drop (k + 1) (records f)) (sym e)) ∙ go b
    where
      go : (b : Block) → is_some (resource_first k (shown b ∷ drop (k + 1) (records f))) ≡ of_resource b
      go (DayBlock head) = refl
      go (ParticipantBlock number loads weights) = refl
      go (ResourceBlock region run down number fees prices status owners cleared lmps flags) = refl
      go (RealTimeBlock number minimum hours events flags) = refl

  opens_none : blocks f ≤ k → is_some (resource_first k (drop k (records f))) ≡ false
  opens_none l = ap (λ rs. is_some (resource_first k rs)) (records_none l)

  -- the same, by what is told of the block
  pub opens_told : (Q : Block → Type 0) (r : Bool) → ((b : Block) → Q b → r ≡ of_resource b) → (o : Option Block)
      → MatchOption o (blocks f ≤ k) (λ b. (k < blocks f) × Shows (block f k) b × (shown b ≡ record_of (block f k)))
      → MatchOption o (r ≡ false) Q → r ≡ is_some (resource_first k (drop k (records f)))
  opens_told Q r q None t e = e ∙ sym (opens_none t)
  opens_told Q r q (Some b) t e = q b e ∙ sym (opens b t.0 t.2)

  -- the Resources from block k on: the one that it opens, if any, and those behind it
  pub resources_more : (o : Option ResourceDay) → k < blocks f → o ≡ resource_first k (drop k (records f))
      → resources_from k (drop k (records f)) ≡ in_front o (resources_from (k + 1) (drop (k + 1) (records f)))
  unfolding resources_from
  resources_more o l e =
      let m = records_more l in
      ap (resources_from k) m ∙ ap (λ x. in_front x (resources_from (k + 1) (drop (k + 1) (records f)))) (ap (resource_first k) (sym m) ∙ sym e)

  pub resources_none : blocks f ≤ k → resources_from k (drop k (records f)) ≡ []
  unfolding resources_from
  resources_none l = ap (resources_from k) (records_none l)

-- the participants of a well-formed day are those of its participant records
no_participants : (gs : List Generator) → participants_in (flat_map generator_records gs) ≡ []
unfolding participants_in
no_participants [] = refl
no_participants ((g, None) ∷ gs) = no_participants gs
no_participants ((g, Some r) ∷ gs) = no_participants gs

listed : (ps : List ParticipantRecord) (gs : List Generator) → participants_in (map Participant ps ++ flat_map generator_records gs) ≡ map (λ p. p.number) ps
unfolding participants_in
listed [] gs = no_participants gs
listed (p ∷ ps) gs = ap (λ ns. p.number ∷ ns) (listed ps gs)

listed_at : (ps : List ParticipantRecord) (rs : List Record) (i : ℕ) (d : Record) → i < length ps
    → (p : ParticipantRecord) × ((get_or (map Participant ps ++ rs) i d ≡ Participant p) × (get_or (map (λ p. p.number) ps) i 0 ≡ p.number))
listed_at [] rs i d l = absurd (omega arith)
listed_at (p ∷ ps) rs zero d l = (p, (refl, refl))
listed_at (p ∷ ps) rs (suc i) d l = listed_at ps rs i d (omega arith)

module _ (f : List ℕ) (w : Formed f) where
  pub participants_are : participants_of f ≡ map (λ p. p.number) w.1.0
  unfolding participants_in
  participants_are = ap participants_in w.1.1.1.1 ∙ listed w.1.0 w.1.1.0

  pub participants_many : length (participants_of f) ≡ length w.1.0
  participants_many = ap length participants_are ∙ length-map w.1.0 (λ p. p.number)

  pub participants_few : length (participants_of f) ≤ 48
  participants_few = let wf = w.1.1.1.0.0 in omega (arith, participants_many, wf.day.participants.1, wf.participants_counted)

  -- the header tells how many they are, and each one's block stands at its place behind it
  pub header_tells : (d : DayRecord) → record_at f 0 ≡ Some (Day d) → d.participants ≡ length (participants_of f)
  header_tells d e =
      let o = Day w.0 in
      let l : 0 < blocks f = omega (arith, sym (length_records f) ∙ ap length w.1.1.1.1) in
      let h = sym e ∙ record_at_is f 0 o l ∙ ap (λ rs. Some (get_or rs 0 o)) w.1.1.1.1 in
      let q : d.participants ≡ w.0.participants = cc in
      q ∙ w.1.1.1.0.0.participants_counted ∙ sym participants_many

  pub participant_at : (i : ℕ) → i < length (participants_of f) → (p : ParticipantRecord) × ((record_at f (1 + i) ≡ Some (Participant p)) × (get_or (participants_of f) i 0 ≡ p.number))
  participant_at i l =
      let ps = w.1.0 in
      let rest = flat_map generator_records w.1.1.0 in
      let e = w.1.1.1.1 in
      let o = Day w.0 in
      let x = listed_at ps rest i o (omega (arith, participants_many)) in
      let n = ap length e ∙ ap suc (length-append (map Participant ps) rest ∙ ap (λ n. n + length rest) (length-map ps Participant)) in
      let b : 1 + i < blocks f = omega (arith, length_records f, n, participants_many) in (
        x.0,
        (
          record_at_is f (1 + i) o b ∙ ap (λ rs. Some (get_or rs (1 + i) o)) e ∙ ap (λ j. Some (get_or (day_records w.0 ps w.1.1.0) j o)) (one-add i) ∙ ap Some x.1.0,
          ap (λ ns. get_or ns i 0) participants_are ∙ x.1.1,
        ),
      )

-- the number in a participant's record, else 0
abbrev pub number_told : Option Record → ℕ
number_told None = 0
number_told (Some (Day d)) = 0
number_told (Some (Participant p)) = p.number
number_told (Some (Resource g)) = 0
number_told (Some (RealTime r)) = 0

-- the record behind those of the day and of the participants before it tells the participant's number
pub number_is : (f : List ℕ) → Formed f → (i : ℕ) → i < length (participants_of f)
    → (o : Option Record) → o ≡ record_at f (1 + i) → number_told o ≡ get_or (participants_of f) i 0
number_is f w i l o e =
    let p = participant_at f w i l in
    ap number_told (e ∙ p.1.0) ∙ sym p.1.1

-- the Resources of a well-formed day keep their limits, owners lying among the participants
none_first : (gs : List Generator) → real_time_first (flat_map generator_records gs) ≡ None
none_first [] = refl
none_first (g ∷ gs) = refl

module _ (limit : ℕ) where
  generators_kept : (gs : List Generator) (k : ℕ) → AllByRecursion (λ g. ResourceKept limit g.0) gs → AllByRecursion well.OwnRealTimeKept gs → AllByRecursion (Kept limit) (resources_from k (flat_map generator_records gs))
  unfolding resources_from
  generators_kept [] k a b = tt
  generators_kept ((g, None) ∷ gs) k a b =
      (record { resource = a.0; real_time = subst OwnRealTimeKept (sym (none_first gs)) tt }, generators_kept gs (k + 1) a.1 b.1)
  generators_kept ((g, Some r) ∷ gs) k a b = (record { resource = a.0; real_time = b.0.0 }, generators_kept gs (k + 1 + 1) a.1 b.1)

  behind_participants : (ps : List ParticipantRecord) (rs : List Record) → ((k : ℕ) → AllByRecursion (Kept limit) (resources_from k rs)) → (k : ℕ) → AllByRecursion (Kept limit) (resources_from k (map Participant ps ++ rs))
  unfolding resources_from
  behind_participants [] rs h k = h k
  behind_participants (p ∷ ps) rs h k = behind_participants ps rs h (k + 1)

-- owners below a limit are below a higher one
kept_higher : (low high : ℕ) → low ≤ high → (x : ResourceDay) → Kept low x → Kept high x
kept_higher low high l x h =
    let g = h.resource in
    let o = g.owners in
    record {
      resource =
          record {
            region = g.region;
            minimum_run = g.minimum_run;
            minimum_down = g.minimum_down;
            number = g.number;
            start_up = g.start_up;
            no_load = g.no_load;
            prices = g.prices;
            on_line = g.on_line;
            owner_count = g.owner_count;
            self_scheduled = g.self_scheduled;
            slots = g.slots;
            owners =
                record {
                  rising = o.rising;
                  below = All-weaker (λ w. w.place < low) (λ w. w.place < high) (λ w b. omega arith) (take x.resource.owner_count x.resource.owners) o.below;
                  above = o.above;
                  whole = o.whole;
                  unused = o.unused;
                };
            cleared = g.cleared;
            lmps = g.lmps;
            flags = g.flags;
          };
      real_time = h.real_time;
    }

module _ (f : List ℕ) (w : Formed f) where
  pub resources_kept : AllByRecursion (Kept (length (participants_of f))) (resources_of f)
  unfolding resources_from
  resources_kept =
      let ps = w.1.0 in
      let gs = w.1.1.0 in
      let wf = w.1.1.1.0.0 in
      let h = behind_participants (length ps) ps (flat_map generator_records gs) (λ k. generators_kept (length ps) gs k wf.resources wf.real_time) 1 in
      subst (λ n. AllByRecursion (Kept n) (resources_of f)) (sym (participants_many f w)) (subst (λ rs. AllByRecursion (Kept (length ps)) (resources_from 0 rs)) (sym w.1.1.1.1) h)

  pub resources_kept_few : AllByRecursion (Kept 48) (resources_of f)
  resources_kept_few = All-weaker (Kept (length (participants_of f))) (Kept 48) (kept_higher (length (participants_of f)) 48 (participants_few f w)) (resources_of f) resources_kept

-- a file has no more Resources than blocks
resources_few : (k : ℕ) (rs : List Record) → length (resources_from k rs) ≤ length rs
unfolding resources_from
resources_few k [] = omega arith
resources_few k (r ∷ rs) = omega (arith, one_more (resource_first k (r ∷ rs)) (resources_from (k + 1) rs), resources_few (k + 1) rs)
  where
    one_more : (o : Option ResourceDay) (xs : List ResourceDay) → length (in_front o xs) ≤ length xs + 1
    one_more None xs = omega arith
    one_more (Some x) xs = omega arith

-- what holds of the Resources of a file holds of one that block k opens
in_front_parts : {A : Type 0} (P : A → Type 0) (o : Option A) (xs : List A) → AllByRecursion P (in_front o xs) → IfSome o P × AllByRecursion P xs
in_front_parts P None xs h = (tt, h)
in_front_parts P (Some x) xs h = h

module _ (P : ResourceDay → Type 0) where
  at_first : (k j : ℕ) (rs : List Record) → AllByRecursion P (resources_from j rs) → IfSome (resource_first (j + k) (drop k rs)) P
  unfolding resources_from
  at_first zero j [] h = tt
  at_first (suc k) j [] h = tt
  at_first zero j (r ∷ rs) h = subst (λ i. IfSome (resource_first i (r ∷ rs)) P) (sym (add-zero j)) (in_front_parts P (resource_first j (r ∷ rs)) (resources_from (j + 1) rs) h).0
  at_first (suc k) j (r ∷ rs) h =
      let e : j + 1 + k ≡ j + suc k = omega arith in
      subst (λ i. IfSome (resource_first i (drop k rs)) P) e (at_first k (j + 1) rs (in_front_parts P (resource_first j (r ∷ rs)) (resources_from (j + 1) rs) h).1)

  pub holds_at : (f : List ℕ) (k : ℕ) → AllByRecursion P (resources_of f) → IfSome (resource_first k (drop k (records f))) P
  holds_at f k h = subst (λ i. IfSome (resource_first i (drop k (records f))) P) (zero-add k) (at_first k 0 (records f) h)

-- an admitted day is well-formed, and its blocks are few
pub day_formed : (x : AdmittedDay) → Formed x.file.now
day_formed x = formed x.file.now x.bytes (ap answer (accepted_none x.file.now x.kept))

pub day_short : (x : AdmittedDay) → blocks x.file.now ≤ 128
day_short x = let p = passed x.file.now (accepted_none x.file.now x.kept) in omega (arith, p.short)

pub day_resources : (x : AdmittedDay) → length (resources_of x.file.now) ≤ 128
day_resources x = omega (arith, day_short x, length_records x.file.now, resources_few 0 (records x.file.now))
