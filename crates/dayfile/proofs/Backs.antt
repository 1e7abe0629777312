-- What is written reads back: each part, each row of parts, each kind of record.
use Rattle.std.proofs.Common.{◌≡◌, ℕ, ◌+◌, ◌*◌, ◌%◌, ◌^◌, ◌<◌, List, [], ◌∷◌, ◌++◌, length, get_or, take, drop, ℤ, sym, refl, ap, ◌∙◌, arith, w32, SFits, to_z, of_z}
use Rattle.std.specs.List.{flat_map, AllByRecursion}
use Rattle.std.proofs.lemmas.List.{append-nil, take_at, drop_at, drop-drop}
use Rattle.std.proofs.lemmas.Int.{to_z-of_z, ints}
use Rattle.dayfile.specs.declared.record.DayRecord.{DayRecord}
use Rattle.dayfile.specs.declared.record.ParticipantRecord.{ParticipantRecord}
use Rattle.dayfile.specs.declared.record.ResourceRecord.{ResourceRecord}
use Rattle.dayfile.specs.declared.record.RealTimeRecord.{RealTimeRecord}
use Rattle.dayfile.specs.declared.record.Record.TheVariants.{Day, Participant, Resource, RealTime}
use Rattle.dayfile.specs.declared.record.Load.{Load}
use Rattle.dayfile.specs.declared.record.Owner.{Owner}
use Rattle.dayfile.specs.declared.record.RealTimeHour.{RealTimeHour}
use Rattle.dayfile.specs.declared.record.Flag.{Flag}
use Rattle.dayfile.specs.declared.record.Flag.TheVariants.{Economic, Lscpr, Var, Scr}
use Rattle.dayfile.specs.declared.record.Event.{Event}
use Rattle.dayfile.specs.declared.record.Event.TheVariants.{Off, PoolRun, SelfRun, Trip, IsoRestart, OwnRestart}
use Rattle.dayfile.specs.Bytes.{digits, value, each}
use Rattle.dayfile.specs.Records.{word_bytes, word_from, signed_bytes, signed_from, flag_number, flag_named, flag_bytes, flag_from, event_number, event_named, event_bytes, event_from, load_bytes, load_from, owner_bytes, owner_from, hour_bytes, hour_from, day_of, participant_of, resource_of, real_time_of}
use Rattle.dayfile.specs.Widths.{load_long, word_long, signed_long, owner_long, hour_long, flag_long, event_long}
use Rattle.dayfile.specs.Writing.{Fitting, LoadFits, OwnerFits, HourFits}
use Rattle.dayfile.proofs.Numbers.{number_digits, value_digits}
use Rattle.dayfile.proofs.Each.{each_joined, length_joined}

-- THE PARTS
pub bits_lt : (z : ℤ) → SFits w32 z → of_z w32 z < 2 ^ 32
bits_lt z f = omega (arith, ints)

pub word_back : (n : ℕ) (rest : List ℕ) → n < 2 ^ 32 → word_from (word_bytes n ++ rest) ≡ n
word_back n rest h = value_digits 4 n rest h

pub signed_back : (z : ℤ) (rest : List ℕ) → SFits w32 z → signed_from (signed_bytes z ++ rest) ≡ z
signed_back z rest f = ap (to_z w32) (value_digits 4 (of_z w32 z) rest (bits_lt z f)) ∙ to_z-of_z w32 z f

pub flag_named_number : (f : Flag) → flag_named (flag_number f) ≡ f
flag_named_number Economic = refl
flag_named_number Lscpr = refl
flag_named_number Var = refl
flag_named_number Scr = refl

flag_lt : (f : Flag) → flag_number f < 256
flag_lt Economic = omega arith
flag_lt Lscpr = omega arith
flag_lt Var = omega arith
flag_lt Scr = omega arith

pub flag_back : (f : Flag) (rest : List ℕ) → Unit {0} → flag_from (flag_bytes f ++ rest) ≡ f
flag_back f rest h = ap flag_named (value_digits 1 (flag_number f) rest (flag_lt f)) ∙ flag_named_number f

pub event_named_number : (e : Event) → event_named (event_number e) ≡ e
event_named_number Off = refl
event_named_number PoolRun = refl
event_named_number SelfRun = refl
event_named_number Trip = refl
event_named_number IsoRestart = refl
event_named_number OwnRestart = refl

event_lt : (e : Event) → event_number e < 256
event_lt Off = omega arith
event_lt PoolRun = omega arith
event_lt SelfRun = omega arith
event_lt Trip = omega arith
event_lt IsoRestart = omega arith
event_lt OwnRestart = omega arith

pub event_back : (e : Event) (rest : List ℕ) → Unit {0} → event_from (event_bytes e ++ rest) ≡ e
event_back e rest h = ap event_named (value_digits 1 (event_number e) rest (event_lt e)) ∙ event_named_number e

same_load : (l : Load) (a b c : ℕ) → a ≡ l.day_ahead → b ≡ l.real_time → c ≡ l.deviation → record { day_ahead = a; real_time = b; deviation = c } ≡ l
same_load l a b c e f g = simp (e, f, g)

pub load_back : (l : Load) (rest : List ℕ) → LoadFits l → load_from (load_bytes l ++ rest) ≡ l
unfolding digits
load_back l rest f = same_load l _ _ _ (number_digits 4 l.day_ahead f.0) (number_digits 4 l.real_time f.1) (number_digits 4 l.deviation f.2)

same_owner : (o : Owner) (a b : ℕ) → a ≡ o.place → b ≡ o.parts → record { place = a; parts = b } ≡ o
same_owner o a b e f = simp (e, f)

pub owner_back : (o : Owner) (rest : List ℕ) → OwnerFits o → owner_from (owner_bytes o ++ rest) ≡ o
unfolding digits
owner_back o rest f = same_owner o _ _ (number_digits 2 o.place f.0) (number_digits 4 o.parts f.1)

same_hour : (h : RealTimeHour) (a b : ℕ) (z : ℤ) → a ≡ h.dispatch_kwh → b ≡ h.metered_kwh → z ≡ h.lmp → record { dispatch_kwh = a; metered_kwh = b; lmp = z } ≡ h
same_hour h a b z e f g = simp (e, f, g)

pub hour_back : (h : RealTimeHour) (rest : List ℕ) → HourFits h → hour_from (hour_bytes h ++ rest) ≡ h
unfolding digits
hour_back h rest f =
    same_hour h _ _ _ (number_digits 4 h.dispatch_kwh f.0) (number_digits 4 h.metered_kwh f.1)
    (ap (to_z w32) (number_digits 4 (of_z w32 h.lmp) (bits_lt h.lmp f.2)) ∙ to_z-of_z w32 h.lmp f.2)

-- THE ROWS: n parts in k bytes
row_back : {A : Type 0} (Good : A → Type 0) (read : List ℕ → A) (write : A → List ℕ) (w n k : ℕ)
    → ((x : A) (rest : List ℕ) → Good x → read (write x ++ rest) ≡ x) → ((x : A) → length (write x) ≡ w) → n * w ≡ k
    → (xs : List A) (rest : List ℕ) → length xs ≡ n → AllByRecursion Good xs → each read w n (take k (flat_map write xs ++ rest)) ≡ xs
row_back Good read write w n k back long e xs rest l a =
    let m = length_joined write w long xs ∙ ap (λ j. j * w) l ∙ e in
    ap (each read w n) (take_at (flat_map write xs) rest k m ∙ sym (append-nil (flat_map write xs)))
    ∙ ap (λ j. each read w j (flat_map write xs ++ [])) (sym l)
    ∙ each_joined Good read write w back long xs [] a

-- the parts that have no limits of their own
all_plain : {A : Type 0} (xs : List A) → AllByRecursion (λ _. Unit {0}) xs
all_plain [] = tt
all_plain (x ∷ xs) = (tt, all_plain xs)

pub words_back : (xs rest : List ℕ) → length xs ≡ 24 → AllByRecursion (λ n. n < 2 ^ 32) xs → each word_from 4 24 (take 96 (flat_map word_bytes xs ++ rest)) ≡ xs
words_back = row_back (λ n. n < 2 ^ 32) word_from word_bytes 4 24 96 word_back word_long refl

pub signeds_back : (xs : List ℤ) (rest : List ℕ) → length xs ≡ 24 → AllByRecursion (SFits w32) xs → each signed_from 4 24 (take 96 (flat_map signed_bytes xs ++ rest)) ≡ xs
signeds_back = row_back (SFits w32) signed_from signed_bytes 4 24 96 signed_back signed_long refl

pub flags_back : (xs : List Flag) (rest : List ℕ) → length xs ≡ 24 → each flag_from 1 24 (take 24 (flat_map flag_bytes xs ++ rest)) ≡ xs
flags_back xs rest l = row_back (λ _. Unit {0}) flag_from flag_bytes 1 24 24 flag_back flag_long refl xs rest l (all_plain xs)

pub events_back : (xs : List Event) (rest : List ℕ) → length xs ≡ 24 → each event_from 1 24 (take 24 (flat_map event_bytes xs ++ rest)) ≡ xs
events_back xs rest l = row_back (λ _. Unit {0}) event_from event_bytes 1 24 24 event_back event_long refl xs rest l (all_plain xs)

pub loads_back : (xs : List Load) (rest : List ℕ) → length xs ≡ 8 → AllByRecursion LoadFits xs → each load_from 12 8 (take 96 (flat_map load_bytes xs ++ rest)) ≡ xs
loads_back = row_back LoadFits load_from load_bytes 12 8 96 load_back load_long refl

pub owners_back : (xs : List Owner) (rest : List ℕ) → length xs ≡ 8 → AllByRecursion OwnerFits xs → each owner_from 6 8 (take 48 (flat_map owner_bytes xs ++ rest)) ≡ xs
owners_back = row_back OwnerFits owner_from owner_bytes 6 8 48 owner_back owner_long refl

pub hours_back : (xs : List RealTimeHour) (rest : List ℕ) → length xs ≡ 24 → AllByRecursion HourFits xs → each hour_from 12 24 (take 288 (flat_map hour_bytes xs ++ rest)) ≡ xs
hours_back = row_back HourFits hour_from hour_bytes 12 24 288 hour_back hour_long refl

-- what follows n parts of k bytes
past_row : {A : Type 0} (write : A → List ℕ) (w n k : ℕ) → ((x : A) → length (write x) ≡ w) → n * w ≡ k → (xs : List A) (rest : List ℕ) (j : ℕ) → length xs ≡ n
    → drop (k + j) (flat_map write xs ++ rest) ≡ drop j rest
past_row write w n k long e xs rest j l =
    let m = length_joined write w long xs ∙ ap (λ i. i * w) l ∙ e in
    sym (drop-drop j k (flat_map write xs ++ rest)) ∙ ap (drop j) (drop_at (flat_map write xs) rest k m)

-- THE RECORDS, with any bytes behind them
abbrev pub day_with : DayRecord → List ℕ → List ℕ
day_with d rest = 68 ∷ 0 ∷ 0 ∷ 0 ∷ (digits 4 d.date ++ (digits 2 d.version ++ (digits 1 d.participants ++ (digits 1 d.resources ++ rest))))

abbrev pub participant_with : ParticipantRecord → List ℕ → List ℕ
participant_with p rest =
    80 ∷ 0 ∷ 0 ∷ 0 ∷ (digits 4 p.number ++ (flat_map load_bytes p.loads ++ (digits 4 p.network_load ++ (digits 4 p.scr_weight ++ rest))))

abbrev pub resource_with : ResourceRecord → List ℕ → List ℕ
resource_with g rest =
    71 ∷ (digits 1 g.region ++ (digits 1 g.minimum_run_hours ++ (digits 1 g.minimum_down_hours ++ (digits 4 g.number
    ++ (digits 4 g.start_up_cents ++ (digits 4 g.no_load_cents ++ (flat_map signed_bytes g.prices
    ++ (digits 1 g.hours_on_line ++ (digits 1 g.owner_count ++ (0 ∷ 0 ∷ (digits 4 g.self_scheduled ++ (flat_map owner_bytes g.owners
    ++ (flat_map word_bytes g.cleared_kwh ++ (flat_map signed_bytes g.lmps ++ (flat_map flag_bytes g.flags ++ rest)))))))))))))))

abbrev pub real_time_with : RealTimeRecord → List ℕ → List ℕ
real_time_with r rest =
    82 ∷ 0 ∷ 0 ∷ 0 ∷ (digits 4 r.number ++ (digits 4 r.economic_minimum_kwh ++ (flat_map hour_bytes r.hours ++ (flat_map event_bytes r.events ++ (flat_map flag_bytes r.flags ++ rest)))))

same_day : (d : DayRecord) (a b c e : ℕ) → a ≡ d.date → b ≡ d.version → c ≡ d.participants → e ≡ d.resources
    → record { date = a; version = b; participants = c; resources = e } ≡ d
same_day d a b c e p q r s = simp (p, q, r, s)

-- a number below 256 is its lowest byte
byte_back : (n : ℕ) → n < 256 → n % 256 ≡ n
byte_back n h = omega arith

pub day_back : (d : DayRecord) (rest : List ℕ) → Fitting (Day d) → day_of (day_with d rest) ≡ d
unfolding digits
day_back d rest f =
    same_day d _ _ _ _ (number_digits 4 d.date f.0) (number_digits 2 d.version f.1) (byte_back d.participants f.2) (byte_back d.resources f.3)

pub day_rest : (d : DayRecord) (rest : List ℕ) → drop 12 (day_with d rest) ≡ rest
unfolding digits
day_rest d rest = refl

same_participant : (p : ParticipantRecord) (a : ℕ) (ls : List Load) (b c : ℕ) → a ≡ p.number → ls ≡ p.loads → b ≡ p.network_load → c ≡ p.scr_weight
    → record { number = a; loads = ls; network_load = b; scr_weight = c } ≡ p
same_participant p a ls b c e f g h = simp (e, f, g, h)

pub participant_back : (p : ParticipantRecord) (rest : List ℕ) → Fitting (Participant p) → participant_of (participant_with p rest) ≡ p
unfolding digits
participant_back p rest f =
    let after = digits 4 p.network_load ++ (digits 4 p.scr_weight ++ rest) in
    let past = past_row load_bytes 12 8 96 load_long refl p.loads after 0 f.1 in
    same_participant p _ _ _ _
    (number_digits 4 p.number f.0)
    (loads_back p.loads after f.1 f.2)
    (ap (λ t. value 0 4 (take 8 t)) past ∙ number_digits 4 p.network_load f.3)
    (ap (λ t. value 4 4 (take 8 t)) past ∙ number_digits 4 p.scr_weight f.4)

pub participant_rest : (p : ParticipantRecord) (rest : List ℕ) → Fitting (Participant p) → drop 112 (participant_with p rest) ≡ rest
unfolding digits
participant_rest p rest f = past_row load_bytes 12 8 96 load_long refl p.loads (digits 4 p.network_load ++ (digits 4 p.scr_weight ++ rest)) 8 f.1

same_real_time : (r : RealTimeRecord) (a b : ℕ) (hs : List RealTimeHour) (es : List Event) (fs : List Flag)
    → a ≡ r.number → b ≡ r.economic_minimum_kwh → hs ≡ r.hours → es ≡ r.events → fs ≡ r.flags
    → record { number = a; economic_minimum_kwh = b; hours = hs; events = es; flags = fs } ≡ r
same_real_time r a b hs es fs e f g h i = simp (e, f, g, h, i)

module _ (r : RealTimeRecord) (rest : List ℕ) (f : Fitting (RealTime r)) where
  abbrev after_events : List ℕ
  after_events = flat_map flag_bytes r.flags ++ rest

  abbrev after_hours : List ℕ
  after_hours = flat_map event_bytes r.events ++ after_events

  past_hours : (j : ℕ) → drop (288 + j) (flat_map hour_bytes r.hours ++ after_hours) ≡ drop j after_hours
  past_hours j = past_row hour_bytes 12 24 288 hour_long refl r.hours after_hours j f.2

  past_events : (j : ℕ) → drop (24 + j) after_hours ≡ drop j after_events
  past_events j = past_row event_bytes 1 24 24 event_long refl r.events after_events j f.4

  pub real_time_events : drop 300 (real_time_with r rest) ≡ after_hours
  unfolding digits
  real_time_events = past_hours 0

  pub real_time_flags : drop 324 (real_time_with r rest) ≡ after_events
  unfolding digits
  real_time_flags = past_hours 24 ∙ past_events 0

  pub real_time_rest : drop 348 (real_time_with r rest) ≡ rest
  unfolding digits
  real_time_rest = past_hours 48 ∙ past_events 24 ∙ past_row flag_bytes 1 24 24 flag_long refl r.flags rest 0 f.5

  pub real_time_back : real_time_of (real_time_with r rest) ≡ r
  unfolding digits
  real_time_back =
      same_real_time r _ _ _ _ _
      (number_digits 4 r.number f.0)
      (number_digits 4 r.economic_minimum_kwh f.1)
      (hours_back r.hours after_hours f.2 f.3)
      (ap (λ t. each event_from 1 24 (take 24 t)) real_time_events ∙ events_back r.events after_events f.4)
      (ap (λ t. each flag_from 1 24 (take 24 t)) real_time_flags ∙ flags_back r.flags rest f.5)

same_resource : (g : ResourceRecord) (a b c d e f : ℕ) (ps : List ℤ) (h i j : ℕ) (os : List Owner) (cs : List ℕ) (ls : List ℤ) (fs : List Flag)
    → a ≡ g.region → b ≡ g.minimum_run_hours → c ≡ g.minimum_down_hours → d ≡ g.number → e ≡ g.start_up_cents → f ≡ g.no_load_cents → ps ≡ g.prices
    → h ≡ g.hours_on_line → i ≡ g.owner_count → j ≡ g.self_scheduled → os ≡ g.owners → cs ≡ g.cleared_kwh → ls ≡ g.lmps → fs ≡ g.flags
    → record {
      region = a;
      minimum_run_hours = b;
      minimum_down_hours = c;
      number = d;
      start_up_cents = e;
      no_load_cents = f;
      prices = ps;
      hours_on_line = h;
      owner_count = i;
      self_scheduled = j;
      owners = os;
      cleared_kwh = cs;
      lmps = ls;
      flags = fs;
    }
    ≡ g
same_resource g a b c d e f ps h i j os cs ls fs q₁ q₂ q₃ q₄ q₅ q₆ q₇ q₈ q₉ r₁ r₂ r₃ r₄ r₅ = simp (q₁, q₂, q₃, q₄, q₅, q₆, q₇, q₈, q₉, r₁, r₂, r₃, r₄, r₅)

module _ (g : ResourceRecord) (rest : List ℕ) (f : Fitting (Resource g)) where
  abbrev after_lmps : List ℕ
  after_lmps = flat_map flag_bytes g.flags ++ rest

  abbrev after_cleared : List ℕ
  after_cleared = flat_map signed_bytes g.lmps ++ after_lmps

  abbrev after_owners : List ℕ
  after_owners = flat_map word_bytes g.cleared_kwh ++ after_cleared

  abbrev after_gap : List ℕ
  after_gap = digits 4 g.self_scheduled ++ (flat_map owner_bytes g.owners ++ after_owners)

  abbrev after_prices : List ℕ
  after_prices = digits 1 g.hours_on_line ++ (digits 1 g.owner_count ++ (0 ∷ 0 ∷ after_gap))

  past_prices : (j : ℕ) → drop (96 + j) (flat_map signed_bytes g.prices ++ after_prices) ≡ drop j after_prices
  past_prices j = past_row signed_bytes 4 24 96 signed_long refl g.prices after_prices j f.6

  past_owners : (j : ℕ) → drop (48 + j) (flat_map owner_bytes g.owners ++ after_owners) ≡ drop j after_owners
  past_owners j = past_row owner_bytes 6 8 48 owner_long refl g.owners after_owners j f.11

  past_cleared : (j : ℕ) → drop (96 + j) after_owners ≡ drop j after_cleared
  past_cleared j = past_row word_bytes 4 24 96 word_long refl g.cleared_kwh after_cleared j f.13

  past_lmps : (j : ℕ) → drop (96 + j) after_cleared ≡ drop j after_lmps
  past_lmps j = past_row signed_bytes 4 24 96 signed_long refl g.lmps after_lmps j f.15

  pub resource_gap : drop 114 (resource_with g rest) ≡ 0 ∷ 0 ∷ after_gap
  unfolding digits
  resource_gap = past_prices 2

  pub resource_rest : drop 384 (resource_with g rest) ≡ rest
  unfolding digits
  resource_rest = past_prices 272 ∙ past_owners 216 ∙ past_cleared 120 ∙ past_lmps 24 ∙ past_row flag_bytes 1 24 24 flag_long refl g.flags rest 0 f.17

  pub resource_back : resource_of (resource_with g rest) ≡ g
  unfolding digits
  resource_back =
      same_resource g _ _ _ _ _ _ _ _ _ _ _ _ _ _
      (byte_back g.region f.0)
      (byte_back g.minimum_run_hours f.1)
      (byte_back g.minimum_down_hours f.2)
      (number_digits 4 g.number f.3)
      (number_digits 4 g.start_up_cents f.4)
      (number_digits 4 g.no_load_cents f.5)
      (signeds_back g.prices after_prices f.6 f.7)
      (ap (λ t. get_or (take 8 t) 0 0) (past_prices 0) ∙ byte_back g.hours_on_line f.8)
      (ap (λ t. get_or (take 8 t) 1 0) (past_prices 0) ∙ byte_back g.owner_count f.9)
      (ap (λ t. value 4 4 (take 8 t)) (past_prices 0) ∙ number_digits 4 g.self_scheduled f.10)
      (ap (λ t. each owner_from 6 8 (take 48 t)) (past_prices 8) ∙ owners_back g.owners after_owners f.11 f.12)
      (ap (λ t. each word_from 4 24 (take 96 t)) (past_prices 56 ∙ past_owners 0) ∙ words_back g.cleared_kwh after_cleared f.13 f.14)
      (ap (λ t. each signed_from 4 24 (take 96 t)) (past_prices 152 ∙ past_owners 96 ∙ past_cleared 0) ∙ signeds_back g.lmps after_lmps f.15 f.16)
      (ap (λ t. each flag_from 1 24 (take 24 t)) (past_prices 248 ∙ past_owners 192 ∙ past_cleared 96 ∙ past_lmps 0) ∙ flags_back g.flags rest f.17)
