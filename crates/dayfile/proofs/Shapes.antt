-- A chain of records is a day, its participants, and its Resources each with an optional real-time record.
use Rattle.std.proofs.Common.{◌≡◌, ℕ, suc, ◌+◌, ◌<◌, true, false, eqb, ◌⊎◌, List, [], ◌∷◌, ◌++◌, map, length, Some, None, Option, sym, refl, ap, ◌∙◌, subst, inl, inr, add-zero, zero-add, arith}
use Rattle.std.specs.List.{flat_map, AllByRecursion}
use Rattle.dayfile.specs.Files.{Standing}
use Rattle.dayfile.specs.declared.record.Record.{Record}
use Rattle.dayfile.specs.declared.record.Record.TheVariants.{Day, Participant, Resource, RealTime}
use Rattle.dayfile.specs.declared.record.DayRecord.{DayRecord}
use Rattle.dayfile.specs.declared.record.ParticipantRecord.{ParticipantRecord}
use Rattle.dayfile.specs.declared.record.ResourceRecord.{ResourceRecord}
use Rattle.dayfile.specs.declared.record.RealTimeRecord.{RealTimeRecord}
use Rattle.dayfile.specs.Layout.{first_fault, table_for}
use Rattle.dayfile.specs.Records.{body, kind_of}
use Rattle.dayfile.specs.Writing.{Fitting, record_owned}
use Rattle.dayfile.specs.WellFormed.{Generator, generator_records, day_records}
use Rattle.dayfile.specs.Files.{in_order, above, nothing}
use Rattle.dayfile.proofs.Chains.{step, Good, Chain, ends}

abbrev pub pair_number : Generator → ℕ
pair_number u = u.0.number

-- numbers that rise behind a last one
abbrev pub RisesBehind : Option ℕ → List ℕ → Type 0
RisesBehind o [] = Unit {0}
RisesBehind o (n ∷ ns) = (above o n ≡ true) × RisesBehind (Some n) ns

-- a record whose numbers fit and whose fields keep their limits
abbrev pub Sound : Record → Type 0
Sound r = Fitting r × (first_fault (table_for (kind_of r)) (body r) ≡ None)

abbrev pub ReadOut : ResourceRecord → Option RealTimeRecord → Type 0
ReadOut g None = Unit {0}
ReadOut g (Some r) = Sound (RealTime r) × (r.number ≡ g.number)

abbrev pub PairSound : ℕ → Generator → Type 0
PairSound limit u = Sound (Resource u.0) × (record_owned limit (Resource u.0) ≡ true) × ReadOut u.0 u.1

-- a Resource waits for its real-time record, or the next Resource is awaited
abbrev Waiting : Standing → Option ResourceRecord → Type 0
Waiting s None = s.kind ≡ Some 82
Waiting s (Some g) = (s.kind ≡ Some 71) × (s.number ≡ g.number) × Sound (Resource g) × (record_owned s.participants (Resource g) ≡ true)

abbrev Rest : Standing → Option ResourceRecord → List Record → Type 0
Rest s None rs = (us : List Generator) × ((rs ≡ flat_map generator_records us) × AllByRecursion (PairSound s.participants) us × RisesBehind s.resource (map pair_number us))
Rest s (Some g) rs =
    (x : Option RealTimeRecord) × ((us : List Generator) × ((Resource g ∷ rs ≡ generator_records (g, x) ++ flat_map generator_records us) × PairSound s.participants (g, x)
    × AllByRecursion (PairSound s.participants) us × RisesBehind s.resource (map pair_number us)))

wrong : {P : Type 0} (o : Option ℕ) (b c : ℕ) → o ≡ Some b → in_order (Some b) c ≡ false → in_order o c ≡ true → P
wrong o b c e f t =
    let q : true ≡ false = sym t ∙ ap (λ x. in_order x c) e ∙ f in
    let z : ◌≡◌ {A = ℕ} 0 1 = cc in absurd (omega arith)

sound_of : {s : Standing} {r : Record} → Good s r → Sound r
sound_of g = (g.fits, g.fields)

rest : (rs : List Record) (s : Standing) (o : Option ResourceRecord) → Waiting s o → Chain s rs → Rest s o rs
rest [] s None w c = ([], (refl, tt, tt))
rest [] s (Some g) w c = (None, ([], (refl, (w.2, w.3, tt), tt, tt)))
rest (Day d ∷ rs) s None w c = wrong s.kind 82 68 w refl c.0.follows
rest (Day d ∷ rs) s (Some g) w c = wrong s.kind 71 68 w.0 refl c.0.follows
rest (Participant p ∷ rs) s None w c = wrong s.kind 82 80 w refl c.0.follows
rest (Participant p ∷ rs) s (Some g) w c = wrong s.kind 71 80 w.0 refl c.0.follows
rest (Resource h ∷ rs) s None w c =
    let e = add-zero s.participants in
    let r = rest rs (step s (Resource h)) (Some h) (refl, refl, sound_of c.0, subst (λ n. record_owned n (Resource h) ≡ true) (sym e) c.0.shared) c.1 in
    let q = r.1.1 in (
      (h, r.0) ∷ r.1.0,
      (
        q.0,
        (subst (λ n. PairSound n (h, r.0)) e q.1, subst (λ n. AllByRecursion (PairSound n) r.1.0) e q.2),
        (c.0.risen, q.3),
      ),
    )
rest (Resource h ∷ rs) s (Some g) w c =
    let e = add-zero s.participants in
    let r = rest rs (step s (Resource h)) (Some h) (refl, refl, sound_of c.0, subst (λ n. record_owned n (Resource h) ≡ true) (sym e) c.0.shared) c.1 in
    let q = r.1.1 in (
      None,
      (
        (h, r.0) ∷ r.1.0,
        (
          ap (λ xs. Resource g ∷ xs) q.0,
          (w.2, w.3, tt),
          (subst (λ n. PairSound n (h, r.0)) e q.1, subst (λ n. AllByRecursion (PairSound n) r.1.0) e q.2),
          (c.0.risen, q.3),
        ),
      ),
    )
rest (RealTime q ∷ rs) s None w c = wrong s.kind 82 82 w refl c.0.follows
rest (RealTime q ∷ rs) s (Some g) w c =
    let e = add-zero s.participants in
    let r = rest rs (step s (RealTime q)) None refl c.1 in (
      Some q,
      (
        r.0,
        (
          ap (λ xs. Resource g ∷ RealTime q ∷ xs) r.1.0,
          (w.2, w.3, (sound_of c.0, c.0.tied ∙ w.1)),
          subst (λ n. AllByRecursion (PairSound n) r.0) e r.1.1,
          r.1.2,
        ),
      ),
    )

-- participants, and Resources behind them
pub record Phases (s : Standing) (rs : List Record) : Type 0 where
  pub ps : List ParticipantRecord
  pub us : List Generator
  pub same : rs ≡ map Participant ps ++ flat_map generator_records us
  pub sound : AllByRecursion (λ p. Sound (Participant p)) ps
  pub risen : RisesBehind s.participant (map (λ p. p.number) ps)
  pub pairs : AllByRecursion (PairSound (s.participants + length ps)) us
  pub above : RisesBehind s.resource (map pair_number us)

abbrev Opening : Standing → Type 0
Opening s = (s.kind ≡ Some 68) ⊎ (s.kind ≡ Some 80)

unopened : {P : Type 0} (s : Standing) (c : ℕ) → Opening s → in_order (Some 68) c ≡ false → in_order (Some 80) c ≡ false → in_order s.kind c ≡ true → P
unopened s c o e f t = elim o [ inl q ↦ wrong s.kind 68 c q e t | inr q ↦ wrong s.kind 80 c q f t ]

phases : (rs : List Record) (s : Standing) → Opening s → Chain s rs → Phases s rs
phases [] s o c = record { ps = []; us = []; same = refl; sound = tt; risen = tt; pairs = tt; above = tt }
phases (Day d ∷ rs) s o c = unopened s 68 o refl refl c.0.follows
phases (Participant p ∷ rs) s o c =
    let r = phases rs (step s (Participant p)) (inr refl) c.1 in
    let e : s.participants + 1 + length r.ps ≡ s.participants + suc (length r.ps) = omega arith in
    let z = add-zero s.resources in
    record {
      ps = p ∷ r.ps;
      us = r.us;
      same = ap (λ xs. Participant p ∷ xs) r.same;
      sound = (sound_of c.0, r.sound);
      risen = (c.0.risen, r.risen);
      pairs = subst (λ n. AllByRecursion (PairSound n) r.us) e r.pairs;
      above = r.above;
    }
phases (Resource g ∷ rs) s o c =
    let e = add-zero s.participants in
    let r = rest rs (step s (Resource g)) (Some g) (refl, refl, sound_of c.0, subst (λ n. record_owned n (Resource g) ≡ true) (sym e) c.0.shared) c.1 in
    let q = r.1.1 in
    record {
      ps = [];
      us = (g, r.0) ∷ r.1.0;
      same = q.0;
      sound = tt;
      risen = tt;
      pairs = (q.1, q.2);
      above = (c.0.risen, q.3);
    }
phases (RealTime q ∷ rs) s o c = unopened s 82 o refl refl c.0.follows

-- a whole day
pub record Shaped (d : DayRecord) (ps : List ParticipantRecord) (us : List Generator) : Type 0 where
  pub day : Sound (Day d)
  pub sound : AllByRecursion (λ p. Sound (Participant p)) ps
  pub risen : RisesBehind None (map (λ p. p.number) ps)
  pub pairs : AllByRecursion (PairSound (length ps)) us
  pub above : RisesBehind None (map pair_number us)

pub record DayShape (rs : List Record) : Type 0 where
  pub d : DayRecord
  pub ps : List ParticipantRecord
  pub us : List Generator
  pub same : rs ≡ day_records d ps us
  pub shaped : Shaped d ps us

first_wrong : {P : Type 0} (c : ℕ) → eqb c 68 ≡ false → in_order None c ≡ true → P
first_wrong c f t =
    let q : true ≡ false = sym t ∙ f in
    let z : ◌≡◌ {A = ℕ} 0 1 = cc in absurd (omega arith)

pub chain_shape : (rs : List Record) → 0 < length rs → Chain nothing rs → DayShape rs
chain_shape [] l c = absurd (omega arith)
chain_shape (Day d ∷ rs) l c =
    let r = phases rs (step nothing (Day d)) (inl refl) c.1 in
    record {
      d = d;
      ps = r.ps;
      us = r.us;
      same = ap (λ xs. Day d ∷ xs) r.same;
      shaped = record { day = sound_of c.0; sound = r.sound; risen = r.risen; pairs = subst (λ n. AllByRecursion (PairSound n) r.us) (zero-add (length r.ps)) r.pairs; above = r.above };
    }
chain_shape (Participant p ∷ rs) l c = first_wrong 80 refl c.0.follows
chain_shape (Resource g ∷ rs) l c = first_wrong 71 refl c.0.follows
chain_shape (RealTime q ∷ rs) l c = first_wrong 82 refl c.0.follows

-- and the other way: such records are a chain
pair_chain : (us : List Generator) (s : Standing) (b : ℕ) → s.kind ≡ Some b → AllByRecursion (PairSound s.participants) us → RisesBehind s.resource (map pair_number us) → Chain s (flat_map generator_records us)
pair_chain [] s b k a r = tt
pair_chain ((g, None) ∷ us) s b k a r =
    let e = sym (add-zero s.participants) in (
      record { fits = a.0.0.0; fields = a.0.0.1; follows = ap (λ o. in_order o 71) k ∙ behind b; tied = tt; risen = r.0; shared = a.0.1 },
      pair_chain us (step s (Resource g)) 71 refl (subst (λ n. AllByRecursion (PairSound n) us) e a.1) r.1,
    )
  where
    behind : (b : ℕ) → in_order (Some b) 71 ≡ true
    behind b = refl
pair_chain ((g, Some q) ∷ us) s b k a r =
    let e = sym (add-zero s.participants) in
    let e2 = sym (add-zero (s.participants + 0)) in (
      record { fits = a.0.0.0; fields = a.0.0.1; follows = ap (λ o. in_order o 71) k; tied = tt; risen = r.0; shared = a.0.1 },
      (
        record { fits = a.0.2.0.0; fields = a.0.2.0.1; follows = refl; tied = a.0.2.1; risen = refl; shared = refl },
        pair_chain us (step (step s (Resource g)) (RealTime q)) 82 refl (subst (λ n. AllByRecursion (PairSound n) us) (e ∙ e2) a.1) r.1,
      ),
    )

opened : (s : Standing) → Opening s → in_order s.kind 80 ≡ true
opened s o = elim o [ inl e ↦ ap (λ x. in_order x 80) e | inr e ↦ ap (λ x. in_order x 80) e ]

opening_kind : (s : Standing) → Opening s → (b : ℕ) × (s.kind ≡ Some b)
opening_kind s o = elim o [ inl e ↦ (68, e) | inr e ↦ (80, e) ]

part_chain : (ps : List ParticipantRecord) (us : List Generator) (s : Standing) → Opening s → AllByRecursion (λ p. Sound (Participant p)) ps → RisesBehind s.participant (map (λ p. p.number) ps)
    → AllByRecursion (PairSound (s.participants + length ps)) us → RisesBehind s.resource (map pair_number us) → Chain s (map Participant ps ++ flat_map generator_records us)
part_chain [] us s o a r b t =
    let k = opening_kind s o in pair_chain us s k.0 k.1 (subst (λ n. AllByRecursion (PairSound n) us) (add-zero s.participants) b) t
part_chain (p ∷ ps) us s o a r b t =
    let e : s.participants + suc (length ps) ≡ s.participants + 1 + length ps = omega arith in (
      record { fits = a.0.0; fields = a.0.1; follows = opened s o; tied = tt; risen = r.0; shared = refl },
      part_chain ps us (step s (Participant p)) (inr refl) a.1 r.1 (subst (λ n. AllByRecursion (PairSound n) us) e b) t,
    )

pub shape_chain : (d : DayRecord) (ps : List ParticipantRecord) (us : List Generator) → Shaped d ps us → Chain nothing (day_records d ps us)
shape_chain d ps us h = (
  record { fits = h.day.0; fields = h.day.1; follows = refl; tied = tt; risen = refl; shared = refl },
  part_chain ps us (step nothing (Day d)) (inl refl) h.sound h.risen (subst (λ n. AllByRecursion (PairSound n) us) (sym (zero-add (length ps))) h.pairs) h.above,
)

-- what stands behind a whole day
ends_pairs : (us : List Generator) (s : Standing) → ((ends s (flat_map generator_records us)).participants ≡ s.participants) × ((ends s (flat_map generator_records us)).resources ≡ s.resources + length us)
ends_pairs [] s = (refl, sym (add-zero s.resources))
ends_pairs ((g, None) ∷ us) s =
    let h = ends_pairs us (step s (Resource g)) in
    (h.0 ∙ add-zero s.participants, omega (arith, h.1))
ends_pairs ((g, Some q) ∷ us) s =
    let h = ends_pairs us (step (step s (Resource g)) (RealTime q)) in
    (omega (arith, h.0), omega (arith, h.1))

ends_parts : (ps : List ParticipantRecord) (rs : List Record) (s : Standing) → ends s (map Participant ps ++ rs) ≡ ends (ends s (map Participant ps)) rs
ends_parts [] rs s = refl
ends_parts (p ∷ ps) rs s = ends_parts ps rs (step s (Participant p))

ends_counts : (ps : List ParticipantRecord) (s : Standing) → ((ends s (map Participant ps)).participants ≡ s.participants + length ps) × ((ends s (map Participant ps)).resources ≡ s.resources)
ends_counts [] s = (sym (add-zero s.participants), refl)
ends_counts (p ∷ ps) s =
    let h = ends_counts ps (step s (Participant p)) in
    (omega (arith, h.0), h.1 ∙ add-zero s.resources)

pub day_ends : (d : DayRecord) (ps : List ParticipantRecord) (us : List Generator)
    → ((ends nothing (day_records d ps us)).participants ≡ length ps) × ((ends nothing (day_records d ps us)).resources ≡ length us)
day_ends d ps us =
    let s = step nothing (Day d) in
    let e = ends_parts ps (flat_map generator_records us) s in
    let h = ends_counts ps s in
    let g = ends_pairs us (ends s (map Participant ps)) in (
      ap (λ (b : Standing). b.participants) e ∙ g.0 ∙ h.0 ∙ zero-add (length ps),
      ap (λ (b : Standing). b.resources) e ∙ g.1 ∙ ap (λ n. n + length us) h.1 ∙ zero-add (length us),
    )
