-- Filling an empty block from its front on.
use Rattle.std.proofs.Common.{◌≡◌, ℕ, suc, ◌+◌, ◌-◌, ◌*◌, List, [], ◌∷◌, ◌++◌, length, set, sym, refl, ap, ◌∙◌, arith}
use Rattle.std.specs.List.{flat_map}
use Rattle.std.proofs.lemmas.List.{append_assoc, length-append, length-replicate, replicate-append-replicate}
use Rattle.dayfile.specs.declared.record.DayRecord.{DayRecord}
use Rattle.dayfile.specs.declared.record.ParticipantRecord.{ParticipantRecord}
use Rattle.dayfile.specs.declared.record.ResourceRecord.{ResourceRecord}
use Rattle.dayfile.specs.declared.record.RealTimeRecord.{RealTimeRecord}
use Rattle.dayfile.specs.Bytes.{digits, zeros, laid}
use Rattle.dayfile.specs.Records.{load_bytes, word_bytes, signed_bytes, owner_bytes, hour_bytes, flag_bytes, event_bytes, day_body, participant_body, resource_body, real_time_body}
use Rattle.dayfile.specs.Widths.{load_long, word_long, signed_long, owner_long, hour_long, flag_long, event_long}
use Rattle.dayfile.proofs.Numbers.{length_digits}
use Rattle.dayfile.proofs.Each.{length_joined}
use Rattle.dayfile.proofs.Laid.{laid_after}

-- a block whose first i bytes are written, with n bytes left that are 0
pub record Filled (xs front : List ℕ) (i n : ℕ) : Type 0 where
  pub is : xs ≡ front ++ zeros n
  pub far : length front ≡ i

-- its first byte
pub opened : (n letter : ℕ) (xs ys : List ℕ) → xs ≡ zeros (suc n) → ys ≡ set xs 0 letter → Filled ys (letter ∷ []) 1 n
opened n letter xs ys e f = record { is = f ∙ ap (λ t. set t 0 letter) e; far = refl }

-- the next k bytes
pub filled : {xs front : List ℕ} {i : ℕ} (k n : ℕ) (ys zs : List ℕ) → Filled xs front i (k + n) → length ys ≡ k → zs ≡ laid xs i ys → Filled zs (front ++ ys) (i + k) n
filled {xs} {front} {i} k n ys zs f l e =
    let m : k + n - length ys ≡ n = omega (arith, l) in
    record {
      is = e ∙ ap (λ t. laid t i ys) f.is ∙ ap (λ p. laid (front ++ zeros (k + n)) p ys) (sym f.far) ∙ laid_after front (k + n) ys (omega (arith, l)) ∙ ap (λ p. (front ++ ys) ++ zeros p) m;
      far = length-append front ys ∙ omega (arith, l, f.far);
    }

-- k bytes that stay 0
pub skipped : {xs front : List ℕ} {i : ℕ} (k n : ℕ) → Filled xs front i (k + n) → Filled xs (front ++ zeros k) (i + k) n
skipped {xs} {front} {i} k n f =
    record {
      is = f.is ∙ ap (λ t. front ++ t) (sym (replicate-append-replicate k n 0)) ∙ sym (append_assoc front (zeros k) (zeros n));
      far = length-append front (zeros k) ∙ omega (arith, length-replicate {A = ℕ} k 0, f.far);
    }

grouped_seven : (a b c d e f g : List ℕ) → (((((a ++ b) ++ c) ++ d) ++ e) ++ f) ++ g ≡ a ++ (b ++ (c ++ (d ++ (e ++ (f ++ g)))))
grouped_seven a b c d e f g = simp append_assoc

pub day_filled : (d : DayRecord) (xs xs₀ xs₁ xs₂ xs₃ xs₄ : List ℕ) → xs ≡ zeros 512 → xs₀ ≡ set xs 0 68
    → xs₁ ≡ laid xs₀ 4 (digits 4 d.date) → xs₂ ≡ laid xs₁ 8 (digits 2 d.version)
    → xs₃ ≡ laid xs₂ 10 (digits 1 d.participants) → xs₄ ≡ laid xs₃ 11 (digits 1 d.resources)
    → xs₄ ≡ day_body d ++ zeros 4
day_filled d xs xs₀ xs₁ xs₂ xs₃ xs₄ z e₀ e₁ e₂ e₃ e₄ =
    let f₀ = skipped 3 508 (opened 511 68 xs xs₀ z e₀) in
    let f₁ = filled 4 504 (digits 4 d.date) xs₁ f₀ (length_digits 4 d.date) e₁ in
    let f₂ = filled 2 502 (digits 2 d.version) xs₂ f₁ (length_digits 2 d.version) e₂ in
    let f₃ = filled 1 501 (digits 1 d.participants) xs₃ f₂ (length_digits 1 d.participants) e₃ in
    let f₄ = filled 1 500 (digits 1 d.resources) xs₄ f₃ (length_digits 1 d.resources) e₄ in
    let f₅ = skipped 496 4 f₄ in
    f₅.is ∙ ap (λ t. t ++ zeros 4) (grouped_seven (68 ∷ []) (zeros 3) (digits 4 d.date) (digits 2 d.version) (digits 1 d.participants) (digits 1 d.resources) (zeros 496))

-- how many bytes n parts take
long : {A : Type 0} (write : A → List ℕ) (w n k : ℕ) → ((x : A) → length (write x) ≡ w) → (xs : List A) → length xs ≡ n → n * w ≡ k → length (flat_map write xs) ≡ k
long write w n k l xs e f = length_joined write w l xs ∙ ap (λ m. m * w) e ∙ f

pub participant_filled : (p : ParticipantRecord) (xs xs₀ xs₁ xs₂ xs₃ xs₄ : List ℕ) → length p.loads ≡ 8 → xs ≡ zeros 512 → xs₀ ≡ set xs 0 80
    → xs₁ ≡ laid xs₀ 4 (digits 4 p.number) → xs₂ ≡ laid xs₁ 8 (flat_map load_bytes p.loads)
    → xs₃ ≡ laid xs₂ 104 (digits 4 p.network_load) → xs₄ ≡ laid xs₃ 108 (digits 4 p.scr_weight)
    → xs₄ ≡ participant_body p ++ zeros 4
participant_filled p xs xs₀ xs₁ xs₂ xs₃ xs₄ l z e₀ e₁ e₂ e₃ e₄ =
    let f₀ = skipped 3 508 (opened 511 80 xs xs₀ z e₀) in
    let f₁ = filled 4 504 (digits 4 p.number) xs₁ f₀ (length_digits 4 p.number) e₁ in
    let f₂ = filled 96 408 (flat_map load_bytes p.loads) xs₂ f₁ (long load_bytes 12 8 96 load_long p.loads l refl) e₂ in
    let f₃ = filled 4 404 (digits 4 p.network_load) xs₃ f₂ (length_digits 4 p.network_load) e₃ in
    let f₄ = filled 4 400 (digits 4 p.scr_weight) xs₄ f₃ (length_digits 4 p.scr_weight) e₄ in
    let f₅ = skipped 396 4 f₄ in
    f₅.is ∙ ap (λ t. t ++ zeros 4) (grouped_seven (80 ∷ []) (zeros 3) (digits 4 p.number) (flat_map load_bytes p.loads) (digits 4 p.network_load) (digits 4 p.scr_weight) (zeros 396))

grouped_eight : (a b c d e f g h : List ℕ) → ((((((a ++ b) ++ c) ++ d) ++ e) ++ f) ++ g) ++ h ≡ a ++ (b ++ (c ++ (d ++ (e ++ (f ++ (g ++ h))))))
grouped_eight a b c d e f g h = simp append_assoc

pub real_time_filled : (r : RealTimeRecord) (xs xs₀ xs₁ xs₂ xs₃ xs₄ xs₅ : List ℕ) → length r.hours ≡ 24 → length r.events ≡ 24 → length r.flags ≡ 24
    → xs ≡ zeros 512 → xs₀ ≡ set xs 0 82 → xs₁ ≡ laid xs₀ 4 (digits 4 r.number) → xs₂ ≡ laid xs₁ 8 (digits 4 r.economic_minimum_kwh)
    → xs₃ ≡ laid xs₂ 12 (flat_map hour_bytes r.hours) → xs₄ ≡ laid xs₃ 300 (flat_map event_bytes r.events) → xs₅ ≡ laid xs₄ 324 (flat_map flag_bytes r.flags)
    → xs₅ ≡ real_time_body r ++ zeros 4
real_time_filled r xs xs₀ xs₁ xs₂ xs₃ xs₄ xs₅ h e f z e₀ e₁ e₂ e₃ e₄ e₅ =
    let f₀ = skipped 3 508 (opened 511 82 xs xs₀ z e₀) in
    let f₁ = filled 4 504 (digits 4 r.number) xs₁ f₀ (length_digits 4 r.number) e₁ in
    let f₂ = filled 4 500 (digits 4 r.economic_minimum_kwh) xs₂ f₁ (length_digits 4 r.economic_minimum_kwh) e₂ in
    let f₃ = filled 288 212 (flat_map hour_bytes r.hours) xs₃ f₂ (long hour_bytes 12 24 288 hour_long r.hours h refl) e₃ in
    let f₄ = filled 24 188 (flat_map event_bytes r.events) xs₄ f₃ (long event_bytes 1 24 24 event_long r.events e refl) e₄ in
    let f₅ = filled 24 164 (flat_map flag_bytes r.flags) xs₅ f₄ (long flag_bytes 1 24 24 flag_long r.flags f refl) e₅ in
    let f₆ = skipped 160 4 f₅ in
    f₆.is ∙ ap (λ t. t ++ zeros 4) (grouped_eight (82 ∷ []) (zeros 3) (digits 4 r.number) (digits 4 r.economic_minimum_kwh) (flat_map hour_bytes r.hours) (flat_map event_bytes r.events) (flat_map flag_bytes r.flags) (zeros 160))

grouped_all : (a b c d e f g h i j k l m n o p q : List ℕ)
    → (((((((((((((((a ++ b) ++ c) ++ d) ++ e) ++ f) ++ g) ++ h) ++ i) ++ j) ++ k) ++ l) ++ m) ++ n) ++ o) ++ p) ++ q
    ≡ a ++ (b ++ (c ++ (d ++ (e ++ (f ++ (g ++ (h ++ (i ++ (j ++ (k ++ (l ++ (m ++ (n ++ (o ++ (p ++ q)))))))))))))))
grouped_all a b c d e f g h i j k l m n o p q = simp append_assoc

pub resource_filled : (g : ResourceRecord) (xs xs₀ xs₁ xs₂ xs₃ xs₄ xs₅ xs₆ xs₇ xs₈ xs₉ xs₁₀ xs₁₁ xs₁₂ xs₁₃ xs₁₄ : List ℕ)
    → length g.prices ≡ 24 → length g.owners ≡ 8 → length g.cleared_kwh ≡ 24 → length g.lmps ≡ 24 → length g.flags ≡ 24
    → xs ≡ zeros 512 → xs₀ ≡ set xs 0 71
    → xs₁ ≡ laid xs₀ 1 (digits 1 g.region) → xs₂ ≡ laid xs₁ 2 (digits 1 g.minimum_run_hours)
    → xs₃ ≡ laid xs₂ 3 (digits 1 g.minimum_down_hours) → xs₄ ≡ laid xs₃ 4 (digits 4 g.number)
    → xs₅ ≡ laid xs₄ 8 (digits 4 g.start_up_cents) → xs₆ ≡ laid xs₅ 12 (digits 4 g.no_load_cents)
    → xs₇ ≡ laid xs₆ 16 (flat_map signed_bytes g.prices) → xs₈ ≡ laid xs₇ 112 (digits 1 g.hours_on_line)
    → xs₉ ≡ laid xs₈ 113 (digits 1 g.owner_count) → xs₁₀ ≡ laid xs₉ 116 (digits 4 g.self_scheduled)
    → xs₁₁ ≡ laid xs₁₀ 120 (flat_map owner_bytes g.owners) → xs₁₂ ≡ laid xs₁₁ 168 (flat_map word_bytes g.cleared_kwh)
    → xs₁₃ ≡ laid xs₁₂ 264 (flat_map signed_bytes g.lmps) → xs₁₄ ≡ laid xs₁₃ 360 (flat_map flag_bytes g.flags)
    → xs₁₄ ≡ resource_body g ++ zeros 4
resource_filled g xs xs₀ xs₁ xs₂ xs₃ xs₄ xs₅ xs₆ xs₇ xs₈ xs₉ xs₁₀ xs₁₁ xs₁₂ xs₁₃ xs₁₄ hp ho hc hl hf z e₀ e₁ e₂ e₃ e₄ e₅ e₆ e₇ e₈ e₉ e₁₀ e₁₁ e₁₂ e₁₃ e₁₄ =
    let f₀ = opened 511 71 xs xs₀ z e₀ in
    let f₁ = filled 1 510 (digits 1 g.region) xs₁ f₀ (length_digits 1 g.region) e₁ in
    let f₂ = filled 1 509 (digits 1 g.minimum_run_hours) xs₂ f₁ (length_digits 1 g.minimum_run_hours) e₂ in
    let f₃ = filled 1 508 (digits 1 g.minimum_down_hours) xs₃ f₂ (length_digits 1 g.minimum_down_hours) e₃ in
    let f₄ = filled 4 504 (digits 4 g.number) xs₄ f₃ (length_digits 4 g.number) e₄ in
    let f₅ = filled 4 500 (digits 4 g.start_up_cents) xs₅ f₄ (length_digits 4 g.start_up_cents) e₅ in
    let f₆ = filled 4 496 (digits 4 g.no_load_cents) xs₆ f₅ (length_digits 4 g.no_load_cents) e₆ in
    let f₇ = filled 96 400 (flat_map signed_bytes g.prices) xs₇ f₆ (long signed_bytes 4 24 96 signed_long g.prices hp refl) e₇ in
    let f₈ = filled 1 399 (digits 1 g.hours_on_line) xs₈ f₇ (length_digits 1 g.hours_on_line) e₈ in
    let f₉ = filled 1 398 (digits 1 g.owner_count) xs₉ f₈ (length_digits 1 g.owner_count) e₉ in
    let f₉ₛ = skipped 2 396 f₉ in
    let f₁₀ = filled 4 392 (digits 4 g.self_scheduled) xs₁₀ f₉ₛ (length_digits 4 g.self_scheduled) e₁₀ in
    let f₁₁ = filled 48 344 (flat_map owner_bytes g.owners) xs₁₁ f₁₀ (long owner_bytes 6 8 48 owner_long g.owners ho refl) e₁₁ in
    let f₁₂ = filled 96 248 (flat_map word_bytes g.cleared_kwh) xs₁₂ f₁₁ (long word_bytes 4 24 96 word_long g.cleared_kwh hc refl) e₁₂ in
    let f₁₃ = filled 96 152 (flat_map signed_bytes g.lmps) xs₁₃ f₁₂ (long signed_bytes 4 24 96 signed_long g.lmps hl refl) e₁₃ in
    let f₁₄ = filled 24 128 (flat_map flag_bytes g.flags) xs₁₄ f₁₃ (long flag_bytes 1 24 24 flag_long g.flags hf refl) e₁₄ in
    let f = skipped 124 4 f₁₄ in
    f.is
    ∙ ap (λ t. t ++ zeros 4)
    (grouped_all (71 ∷ []) (digits 1 g.region) (digits 1 g.minimum_run_hours) (digits 1 g.minimum_down_hours) (digits 4 g.number) (digits 4 g.start_up_cents) (digits 4 g.no_load_cents) (flat_map signed_bytes g.prices) (digits 1 g.hours_on_line) (digits 1 g.owner_count) (zeros 2) (digits 4 g.self_scheduled) (flat_map owner_bytes g.owners) (flat_map word_bytes g.cleared_kwh) (flat_map signed_bytes g.lmps) (flat_map flag_bytes g.flags) (zeros 124))
