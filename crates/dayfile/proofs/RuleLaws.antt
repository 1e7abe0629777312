-- A file is refused just where a rule is the first that is broken.
use Rattle.std.proofs.Common.{◌≡◌, ℕ, zero, suc, ◌+◌, ◌%◌, ◌<◌, ◌≤◌, Bool, true, false, cond, not, ◌&&◌, eqb, ◌⊎◌, List, length, get_or, take, Some, None, Ok, Err, Option, sym, refl, ap, ◌∙◌, subst, inl, inr, arith}
use Rattle.std.proofs.lemmas.Bool.{cond-false, ne_eqb, cases_lt}
use Rattle.dayfile.specs.declared.fault.Fault.{Fault}
use Rattle.dayfile.specs.declared.fault.Fault.TheVariants.{Length, Check, Order, Field, Rising, Owners, Counts, Event, PoolCost, TariffPlaces, PoolWeight, PostingRows, OtherSheet, PostingClosed, Held, NoRow, WithdrawingRows, WithdrawingClosed, NotHeld, ClosingDate, RecordField, RecordOwners, Room, NoResource, GridEvent}
use Rattle.dayfile.specs.Bytes.{value, weighed}
use Rattle.dayfile.specs.Layout.{Faulty, table_for, first_fault, earlier}
use Rattle.dayfile.specs.Owners.{Owned, owners_kept}
use Rattle.dayfile.specs.Records.{resource_of}
use Rattle.dayfile.specs.Files.{tally, latest, kind_before, number_before, standing, block, blocks, kind, number_in, checked, in_order, untied, above, rising, owned, block_fault, blocks_fault, or_else, verdict, answer, well_sized, counted}
use Rattle.dayfile.specs.Rules.{Rule, Law, check, order, field, number, owners, size, at, counts, refusal, Ordered, Untied, Last, Breaks, Broken, Sooner, Earlier, FirstBroken, First, Ruled}
use Rattle.dayfile.proofs.Tells.{Tells, holds, fails, tells_and, tells_or, tells_not, tells_eqb, tells_leb, tells_ltb, kept_tells, Denies, clear, broken, denies_like, denies_not}
use Rattle.dayfile.proofs.FirstRules.{Says, judged_says, line_rule}
use Rattle.dayfile.proofs.Tables.{Least, first_least, least_either}

-- the rules for a block, each told by its test
module _ (f : List ℕ) where
  checked_tells : (k : ℕ) → Tells (value 508 4 (block f k) ≡ weighed 0 (take 508 (block f k))) (checked (block f k))
  checked_tells k = tells_eqb (value 508 4 (block f k)) (weighed 0 (take 508 (block f k)))

  ordered_tells : (k : ℕ) → Tells (Ordered f k) (in_order (kind_before f k) (kind f k))
  unfolding kind_before
  ordered_tells zero = tells_eqb (kind f 0) 68
  ordered_tells (suc j) =
      let c = kind f (suc j) in
      let b = kind f j in
      tells_or (tells_and (tells_eqb c 80) (tells_or (tells_eqb b 68) (tells_eqb b 80)))
      (tells_or (tells_eqb c 71) (tells_and (tells_eqb c 82) (tells_eqb b 71)))

  -- a place that is told just where a fact holds
  least_if : {P : Type 0} {b : Bool} (p : ℕ) → Tells P b → Least (λ q. (q ≡ p) × P) (cond b (Some p) None)
  least_if p (holds h) = ((refl, h), λ q l g. absurd (omega (arith, g.0)))
  least_if p (fails h) = λ q g. h g.1

  untied_least : (k : ℕ) → ((Ordered f k → ⊥) → ⊥) → Least (λ p. (p ≡ 4) × Untied f k) (untied (standing f k) (block f k))
  unfolding number_before
  untied_least zero o =
      let e : (eqb (kind f 0) 82 && not (eqb (number_in f 0) 0)) ≡ false = ap (λ b. b && not (eqb (number_in f 0) 0)) (ne_eqb (kind f 0) 82 (λ z. o (λ h. absurd (omega (arith, z, h))))) in
      let P : Option ℕ → Type 0 = Least (λ p. (p ≡ 4) × ⊥) in
      subst P (sym (cond-false (eqb (kind f 0) 82 && not (eqb (number_in f 0) 0)) (Some 4) None e)) (λ p h. h.1)
  untied_least (suc j) o = least_if 4 (tells_and (tells_eqb (kind f (suc j)) 82) (tells_not (tells_eqb (number_in f (suc j)) (number_in f j))))

  field_least : (k : ℕ) → ((Ordered f k → ⊥) → ⊥) → Least (λ p. Breaks f k (field p)) (earlier (first_fault (table_for (kind f k)) (block f k)) (untied (standing f k) (block f k)))
  field_least k o =
      least_either (Faulty (table_for (kind f k)) (block f k)) (λ p. (p ≡ 4) × Untied f k) _ _ (first_least (table_for (kind f k)) (block f k)) (untied_least k o)

  -- the last block of a kind among the first k
  abbrev Latest : ℕ → ℕ → Option ℕ → Type 0
  Latest c k None = (j : ℕ) → j < k → kind f j ≡ c → ⊥
  Latest c k (Some m) = (j : ℕ) × ((j < k) × (kind f j ≡ c) × ((i : ℕ) → j < i → i < k → kind f i ≡ c → ⊥) × (m ≡ number_in f j))

  latest_is : (c k : ℕ) → Latest c k (latest c f k)
  unfolding latest
  latest_is c zero = λ j l e. absurd (omega arith)
  latest_is c (suc k) = go (tells_eqb (kind f k) c) (latest c f k) (latest_is c k)
    where
      go : {b : Bool} → Tells (kind f k ≡ c) b → (o : Option ℕ) → Latest c k o → Latest c (suc k) (cond b (Some (number_in f k)) o)
      go (holds e) o h = (k, (omega arith, e, (λ i l m q. absurd (omega arith)), refl))
      go (fails n) None h = λ j l e. elim (cases_lt j k) [ inl s ↦ h j s e | inr s ↦ n (subst (λ i. kind f i ≡ c) (same j k l s) e) ]
        where
          same : (j k : ℕ) → j < suc k → k ≤ j → j ≡ k
          same j k l s = omega arith
      go (fails n) (Some m) h =
          (h.0, (omega (arith, h.1.0), h.1.1, (λ i l s e. elim (cases_lt i k) [ inl t ↦ h.1.2 i l t e | inr t ↦ n (subst (λ i. kind f i ≡ c) (same i k s t) e) ]), h.1.3))
        where
          same : (j k : ℕ) → j < suc k → k ≤ j → j ≡ k
          same j k l s = omega arith

  -- a block's number is not above the last one of its kind
  abbrev Below : ℕ → Type 0
  Below k = (j : ℕ) × (Last f j k × (number_in f k ≤ number_in f j))

  above_denies : (c k : ℕ) → kind f k ≡ c → Denies (Below k) (above (latest c f k) (number_in f k))
  above_denies c k e = go (latest c f k) (latest_is c k)
    where
      one : (j i : ℕ) (h : (j < k) × (kind f j ≡ c) × ((i : ℕ) → j < i → i < k → kind f i ≡ c → ⊥)) → Last f i k → i ≡ j
      one j i h l =
          elim (cases_lt i j) [
            | inl s ↦ absurd (l.2 j s h.0 (h.1 ∙ sym e))
            | inr s ↦ elim (cases_lt j i) [ inl t ↦ absurd (h.2 i t l.0 (l.1 ∙ e)) | inr t ↦ omega arith ]
          ]

      under : {b : Bool} (m : ℕ) → Latest c k (Some m) → Tells (m < number_in f k) b → Denies (Below k) b
      under m h (holds l) = clear (λ b. let s = ap (number_in f) (one h.0 b.0 (h.1.0, h.1.1, h.1.2) b.1.0) in absurd (omega (arith, s, h.1.3, b.1.1, l)))
      under m h (fails g) =
          broken (h.0, ((h.1.0, h.1.1 ∙ sym e, λ i l s q. h.1.2 i l s (q ∙ e)), elim (cases_lt m (number_in f k)) [ inl l ↦ absurd (g l) | inr l ↦ omega (arith, l, h.1.3) ]))

      go : (o : Option ℕ) → Latest c k o → Denies (Below k) (above o (number_in f k))
      go None h = clear (λ b. h b.0 b.1.0.0 (b.1.0.1 ∙ e))
      go (Some m) h = under m h (tells_ltb m (number_in f k))

  rising_denies : (k : ℕ) → Denies (Breaks f k number) (rising (standing f k) (block f k))
  rising_denies k = go (tells_eqb (kind f k) 80) (tells_eqb (kind f k) 71)
    where
      go : {x y : Bool} → Tells (kind f k ≡ 80) x → Tells (kind f k ≡ 71) y
          → Denies (Breaks f k number) (cond x (above (latest 80 f k) (number_in f k)) (cond y (above (latest 71 f k) (number_in f k)) true))
      go (holds e) t = denies_like (λ h. (inl e, h)) (λ b. b.1) (above_denies 80 k e)
      go (fails n) (holds e) = denies_like (λ h. (inr e, h)) (λ b. b.1) (above_denies 71 k e)
      go (fails n) (fails m) = clear (λ b. elim b.0 [ inl e ↦ n e | inr e ↦ m e ])

  owned_denies : (k : ℕ) → Denies (Breaks f k owners) (owned (tally 80 f k) (block f k))
  owned_denies k = go (tells_eqb (kind f k) 71)
    where
      own : {x : Bool} → kind f k ≡ 71 → Tells (Owned (tally 80 f k) (resource_of (block f k)).owner_count (resource_of (block f k)).owners) x → Denies (Breaks f k owners) x
      own e (holds p) = clear (λ b. b.1 p)
      own e (fails p) = broken (e, p)

      go : {x : Bool} → Tells (kind f k ≡ 71) x
          → Denies (Breaks f k owners) (cond x (owners_kept (tally 80 f k) (resource_of (block f k)).owner_count (resource_of (block f k)).owners) true)
      go (holds e) = own e (kept_tells (tally 80 f k) (resource_of (block f k)).owner_count (resource_of (block f k)).owners)
      go (fails m) = clear (λ b. m b.0)

  block_says : (k : ℕ) → Says (Breaks f k) k (block_fault (standing f k) k (block f k))
  block_says k =
      judged_says (Breaks f k) k (denies_not (checked_tells k)) (denies_not (ordered_tells k)) (earlier (first_fault (table_for (kind f k)) (block f k)) (untied (standing f k) (block f k)))
      (λ o. field_least k o) (rising_denies k) (owned_denies k)

  -- what n blocks from block k on say
  abbrev BlocksSay : ℕ → ℕ → Option Fault → Type 0
  BlocksSay k n None = (j : ℕ) → k ≤ j → j < k + n → (r : Rule) → Breaks f j r → ⊥
  BlocksSay k n (Some x) =
      (j : ℕ) × ((r : Rule) × ((x ≡ refusal (at j r)) × (k ≤ j) × (j < k + n) × First (Breaks f j) r × ((i : ℕ) → k ≤ i → i < j → (q : Rule) → Breaks f i q → ⊥)))

  blocks_say : (n k : ℕ) → BlocksSay k n (blocks_fault f k n)
  unfolding blocks_fault
  blocks_say zero k = λ j l m r b. absurd (omega arith)
  blocks_say (suc n) k = go (block_fault (standing f k) k (block f k)) (block_says k) (blocks_fault f (k + 1) n) (blocks_say n (k + 1))
    where
      here : (P : ℕ → Type 0) (i : ℕ) → k ≤ i → P k → (k + 1 ≤ i → P i) → P i
      here P i l p q = elim (cases_lt k i) [ inl s ↦ q (omega arith) | inr s ↦ (let e : k ≡ i = omega arith in subst P e p) ]

      go : (o : Option Fault) → Says (Breaks f k) k o → (u : Option Fault) → BlocksSay (k + 1) n u → BlocksSay k (suc n) (or_else o u)
      go (Some x) h u g = (k, (h.0, (h.1.0, omega arith, omega arith, h.1.1, λ i l m q b. absurd (omega arith))))
      go None h None g = λ j l m. here (λ i. (r : Rule) → Breaks f i r → ⊥) j l h (λ s. g j s (omega arith))
      go None h (Some x) g =
          (g.0, (g.1.0, (g.1.1.0, omega (arith, g.1.1.1), omega (arith, g.1.1.2), g.1.1.3, λ i l m. here (λ i. (r : Rule) → Breaks f i r → ⊥) i l h (λ s. g.1.1.4 i s m))))

  -- the verdict says the first law that is broken
  size_denies : Denies (Broken f size) (well_sized f)
  size_denies = go (tells_eqb (length f) 0) (tells_eqb (length f % 512) 0) (tells_leb (length f) 65536)
    where
      go : {a b c : Bool} → Tells (length f ≡ 0) a → Tells (length f % 512 ≡ 0) b → Tells (length f ≤ 65536) c → Denies (Broken f size) (not a && (b && c))
      go (holds e) t u = broken (inl e)
      go (fails e) (fails t) u = broken (inr (inl t))
      go (fails e) (holds t) (fails u) = broken (inr (inr (elim (cases_lt 65536 (length f)) [ inl l ↦ l | inr l ↦ absurd (u l) ])))
      go (fails e) (holds t) (holds u) = clear (λ b. elim b [ inl x ↦ e x | inr y ↦ elim y [ inl x ↦ x t | inr x ↦ absurd (omega arith) ] ])

  counts_denies : Denies (Broken f counts) (counted f)
  counts_denies = go (tells_eqb (tally 80 f (blocks f)) (get_or f 10 0)) (tells_eqb (tally 71 f (blocks f)) (get_or f 11 0))
    where
      go : {a b : Bool} → Tells (tally 80 f (blocks f) ≡ get_or f 10 0) a → Tells (tally 71 f (blocks f) ≡ get_or f 11 0) b → Denies (Broken f counts) (a && b)
      go (fails t) u = broken (inl t)
      go (holds t) (fails u) = broken (inr u)
      go (holds t) (holds u) = clear (λ b. elim b [ inl x ↦ x t | inr x ↦ x u ])

  abbrev VerdictSays : Option Fault → Type 0
  VerdictSays None = (l : Law) → Broken f l → ⊥
  VerdictSays (Some x) = (l : Law) × ((x ≡ refusal l) × FirstBroken f l)

  none_before_size : (m : Law) → Earlier m size → Broken f m → ⊥
  none_before_size size e b = e
  none_before_size (at k r) e b = e
  none_before_size counts e b = e

  none_before_at : (Broken f size → ⊥) → (j : ℕ) (r : Rule) → ((i : ℕ) → i < j → (q : Rule) → Breaks f i q → ⊥) → ((q : Rule) → Sooner q r → Breaks f j q → ⊥) → (m : Law) → Earlier m (at j r) → Broken f m → ⊥
  none_before_at s j r p h size e b = s b
  none_before_at s j r p h (at i q) e b = elim e [ inl l ↦ p i l q b.1 | inr x ↦ h q x.1 (subst (λ n. Breaks f n q) x.0 b.1) ]
  none_before_at s j r p h counts e b = e

  none_before_counts : (Broken f size → ⊥) → ((j : ℕ) → j < blocks f → (r : Rule) → Breaks f j r → ⊥) → (m : Law) → Earlier m counts → Broken f m → ⊥
  none_before_counts s p size e b = s b
  none_before_counts s p (at i q) e b = p i b.0 q b.1
  none_before_counts s p counts e b = e

  none_at_all : (Broken f size → ⊥) → ((j : ℕ) → j < blocks f → (r : Rule) → Breaks f j r → ⊥) → (Broken f counts → ⊥) → (m : Law) → Broken f m → ⊥
  none_at_all s p c size b = s b
  none_at_all s p c (at i q) b = p i b.0 q b.1
  none_at_all s p c counts b = c b

  verdict_says : VerdictSays (verdict f)
  verdict_says = go size_denies (blocks_fault f 0 (blocks f)) (blocks_say (blocks f) 0) counts_denies
    where
      ends : {x : Bool} → (Broken f size → ⊥) → ((j : ℕ) → j < blocks f → (r : Rule) → Breaks f j r → ⊥) → Denies (Broken f counts) x → VerdictSays (cond x None (Some Counts))
      ends s p (clear c) = none_at_all s p c
      ends s p (broken c) = (counts, (refl, (c, none_before_counts s p)))

      go : {a b : Bool} → Denies (Broken f size) a → (o : Option Fault) → BlocksSay 0 (blocks f) o → Denies (Broken f counts) b
          → VerdictSays (cond a (or_else o (cond b None (Some Counts))) (Some Length))
      go (broken s) o h c = (size, (refl, (s, none_before_size)))
      go (clear s) (Some x) h c =
          (at h.0 h.1.0, (h.1.1.0, ((omega (arith, h.1.1.2), h.1.1.3.0), none_before_at s h.0 h.1.0 (λ i l. h.1.1.4 i (omega arith) l) h.1.1.3.1)))
      go (clear s) None h c = ends s (λ j l. h j (omega arith) (omega arith)) c

-- the order of the laws is a line
line : (l m : Law) → Earlier l m ⊎ ((l ≡ m) ⊎ Earlier m l)
line size size = inr (inl refl)
line size (at k r) = inl tt
line size counts = inl tt
line (at j q) size = inr (inr tt)
line (at j q) (at k r) =
    elim (cases_lt j k) [
      | inl l ↦ inl (inl l)
      | inr l ↦ elim (cases_lt k j) [
        | inl m ↦ inr (inr (inl m))
        | inr m ↦ (
            let e : j ≡ k = omega arith in
            elim (line_rule q r) [
              | inl s ↦ inl (inr (e, s))
              | inr t ↦ elim t [ inl u ↦ inr (inl (ap (λ n. at n q) e ∙ ap (at k) u)) | inr u ↦ inr (inr (inr (sym e, u))) ]
            ])
      ]
    ]
line (at j q) counts = inl tt
line counts size = inr (inr tt)
line counts (at k r) = inr (inr tt)
line counts counts = inr (inl refl)

-- a refusal tells its law
law_of : Fault → Law
law_of Length = size
law_of (Check k) = at k check
law_of (Order k) = at k order
law_of (Field k p) = at k (field p)
law_of (Rising k) = at k number
law_of (Owners k) = at k owners
law_of Counts = counts
law_of (Event k h) = size
law_of (PoolCost p) = size
law_of TariffPlaces = size
law_of (PoolWeight p) = size
law_of PostingRows = size
law_of OtherSheet = size
law_of PostingClosed = size
law_of (Held r) = size
law_of NoRow = size
law_of WithdrawingRows = size
law_of WithdrawingClosed = size
law_of NotHeld = size
law_of ClosingDate = size
law_of (RecordField p) = size
law_of RecordOwners = size
law_of Room = size
law_of NoResource = size
law_of GridEvent = size

law_again : (l : Law) → law_of (refusal l) ≡ l
unfolding law_of
law_again size = refl
law_again (at k check) = refl
law_again (at k order) = refl
law_again (at k (field p)) = refl
law_again (at k number) = refl
law_again (at k owners) = refl
law_again counts = refl

pub same_law : (l m : Law) → refusal l ≡ refusal m → l ≡ m
same_law l m e = sym (law_again l) ∙ ap law_of e ∙ law_again m

-- THE LAW: refused just where a rule is the first that is broken, accepted just where none is
module _ (f : List ℕ) where
  says : VerdictSays f (verdict f)
  says = verdict_says f

  refused_first : (o : Option Fault) → VerdictSays f o → (l : Law) → answer o ≡ Err (refusal l) → FirstBroken f l
  refused_first None h l e = let z : ◌≡◌ {A = ℕ} 0 1 = cc in absurd (omega arith)
  refused_first (Some x) h l e =
      let q : x ≡ refusal l = cc in
      subst (FirstBroken f) (sym (same_law l h.0 (sym q ∙ h.1.0))) h.1.1

  first_refused : (o : Option Fault) → VerdictSays f o → (l : Law) → FirstBroken f l → answer o ≡ Err (refusal l)
  first_refused None h l b = absurd (h l b.0)
  first_refused (Some x) h l b =
      elim (line l h.0) [
        | inl e ↦ absurd (h.1.1.1 l e b.0)
        | inr t ↦ elim t [
          | inl e ↦ ap Err (h.1.0 ∙ ap refusal (sym e))
          | inr e ↦ absurd (b.1 h.0 e h.1.1.0)
        ]
      ]

  accepted_unbroken : (o : Option Fault) → VerdictSays f o → answer o ≡ Ok tt → (l : Law) → Broken f l → ⊥
  accepted_unbroken None h e = h
  accepted_unbroken (Some x) h e = let z : ◌≡◌ {A = ℕ} 0 1 = cc in absurd (omega arith)

  unbroken_accepted : (o : Option Fault) → VerdictSays f o → ((l : Law) → Broken f l → ⊥) → answer o ≡ Ok tt
  unbroken_accepted None h n = refl
  unbroken_accepted (Some x) h n = absurd (n h.0 h.1.1.0)

  pub ruled : Ruled f (answer (verdict f))
  ruled =
      record {
        refused = λ l. (refused_first (verdict f) says l, first_refused (verdict f) says l);
        accepted = (accepted_unbroken (verdict f) says, unbroken_accepted (verdict f) says);
      }
