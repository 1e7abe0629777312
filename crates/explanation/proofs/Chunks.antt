-- The chunks of a file are its blocks: how many of them begin with a letter, and the last that does.
use Rattle.std.proofs.Common.{◌≡◌, ℕ, zero, suc, ◌+◌, ◌-◌, ◌*◌, ◌/◌, ◌<◌, ◌≤◌, min, Bool, true, false, cond, eqb, List, [], ◌∷◌, ◌++◌, length, get_or, take, drop, filter, Some, None, Option, IfSome, MatchOption, Bor, sym, refl, ap, ◌∙◌, subst, inl, inr, add-one, lit<, arith}
use Rattle.std.specs.List.{IsSubsliceAt, last_or}
use Rattle.std.specs.Option.{option_map}
use Rattle.std.specs.Iterator.Runs.{Run, IsChunksRun}
use Rattle.std.proofs.lemmas.Bool.{cases_lt}
use Rattle.std.proofs.lemmas.List.{take_all, append-nil, nil_from_length}
use Rattle.std.proofs.lemmas.List.Elements.{filter_more}
use Rattle.std.proofs.lemmas.List.Filters.{length-filter_more}
use Rattle.std.proofs.lemmas.Option.{none-some, same_Some}
use Rattle.dayfile.specs.declared.kind.Kind.{Kind}
use Rattle.dayfile.specs.declared.kind.Kind.TheVariants.{Day, Participant, Resource, RealTime}
use Rattle.dayfile.specs.Bytes.{value}
use Rattle.dayfile.specs.Files.{block, kind, number_in, tally, latest}
use Rattle.dayfile.specs.Kinds.{letter}
use Rattle.explanation.proofs.Standing.{tally_past, latest_past}

-- a run over the chunks of a file
pub chunks_of : {S : Type 0} {steps : S → Option (Bor (List ℕ)) → S → Type 0} (p : Run steps) (size : ℕ) (rest f : List ℕ)
    → size ≡ 512 → rest ≡ f → IsChunksRun p size rest → IsChunksRun p 512 f
chunks_of p size rest f s u runs = subst (IsChunksRun p 512) u (subst (λ m. IsChunksRun p m rest) s runs)

-- the last item that a whole run gave
last_push : {A : Type 0} (o : Option A) (xs : List A) (x : A) → last_or o (xs ++ x ∷ []) ≡ Some x
last_push o [] x = refl
last_push o (y ∷ ys) x = last_push (Some y) ys x

last_at : {A : Type 0} (o : Option A) (xs : List A) (k : ℕ) (d : A) → length xs ≡ k + 1 → last_or o xs ≡ Some (get_or xs k d)
last_at o [] k d l = absurd (omega arith)
last_at o (x ∷ []) zero d l = refl
last_at o (x ∷ []) (suc k) d l = absurd (omega arith)
last_at o (x ∷ (y ∷ ys)) zero d l = absurd (omega arith)
last_at o (x ∷ (y ∷ ys)) (suc k) d l = last_at (Some x) (y ∷ ys) k d (omega arith)

pub last_of : {S A : Type 0} {steps : S → Option A → S → Type 0} (p : Run steps) (o : Option A)
    → MatchOption o (p.len ≡ 0) (λ x. (0 < p.len) × (p.at (p.len - 1) ≡ Some x)) → o ≡ last_or None p.items
last_of p None m = sym (ap (last_or None) (nil_from_length p.items (sym p.long ∙ m)))
last_of p (Some x) m =
    let r = p.reads (p.len - 1) x (omega (arith, m.0)) in
    sym (ap (option_map (λ y. y)) m.1) ∙ r ∙ sym (last_at None p.items (p.len - 1) x (omega (arith, p.long, m.0)))

-- the items of a run of chunks are the blocks
run_is : {S : Type 0} {steps : S → Option (Bor (List ℕ)) → S → Type 0} (r : Run steps) (f : List ℕ) → IsChunksRun r 512 f
    → (i : ℕ) (d : Bor (List ℕ)) → i < length r.items → (get_or r.items i d).now ≡ block f i
run_is r f runs i d l = go (r.at i) (r.reads i d (omega (arith, r.long, l))) (runs.2 i)
  where
    go : (o : Option (Bor (List ℕ))) → option_map (λ y. y) o ≡ Some (get_or r.items i d)
        → IfSome o (λ x. (0 < length x.now) × (i * 512 < length f) × IsSubsliceAt 512 f (i * 512) x.now) → (get_or r.items i d).now ≡ block f i
    go None e h = absurd (none-some (get_or r.items i d) e)
    go (Some x) e h =
        let m : i * 512 ≡ 512 * i = omega arith in
        ap (λ b. b.now) (sym (same_Some x (get_or r.items i d) e)) ∙ h.2.0 ∙ ap (λ j. take 512 (drop j f)) m

-- no kind's letter is the byte 0
pub letter_above : (k : Kind) → 0 < letter k
letter_above Day = lit< tt
letter_above Participant = lit< tt
letter_above Resource = lit< tt
letter_above RealTime = lit< tt

-- whether a chunk begins with a letter, and the number in one
abbrev pub begins : ℕ → Bor (List ℕ) → Bool
begins c b = eqb (get_or b.now 0 0) c

abbrev pub number : Option (Bor (List ℕ)) → Option ℕ
number o = option_map (λ b. value 4 4 b.now) o

module _ (f : List ℕ) (c : ℕ) (xs : List (Bor (List ℕ))) (d : Bor (List ℕ))
    (are : (i : ℕ) (d : Bor (List ℕ)) → i < length xs → (get_or xs i d).now ≡ block f i) where
  same : (n : ℕ) → n < length xs → begins c (get_or xs n d) ≡ eqb (kind f n) c
  same n l = ap (λ b. eqb (get_or b 0 0) c) (are n d l)

  counted : (n : ℕ) → n ≤ length xs → length (filter (begins c) (take n xs)) ≡ tally c f n
  unfolding tally
  counted zero l = refl
  counted (suc n) l =
      ap (λ m. length (filter (begins c) (take m xs))) (sym (add-one n))
      ∙ length-filter_more (begins c) xs n d (omega arith)
      ∙ ap (λ t. length (filter (begins c) (take n xs)) + cond t 1 0) (same n (omega arith))
      ∙ ap (λ m. m + cond (eqb (kind f n) c) 1 0) (counted n (omega arith))

  lasted : (n : ℕ) → n ≤ length xs → number (last_or None (filter (begins c) (take n xs))) ≡ latest c f n
  unfolding latest
  lasted zero l = refl
  lasted (suc n) l =
      ap (λ m. number (last_or None (filter (begins c) (take m xs)))) (sym (add-one n))
      ∙ ap (λ ys. number (last_or None ys)) (filter_more (begins c) xs n d (omega arith))
      ∙ ap (λ t. number (last_or None (filter (begins c) (take n xs) ++ cond t (get_or xs n d ∷ []) []))) (same n (omega arith))
      ∙ go (lasted n (omega arith)) (eqb (kind f n) c)
    where
      go : number (last_or None (filter (begins c) (take n xs))) ≡ latest c f n → (t : Bool) → number (last_or None (filter (begins c) (take n xs) ++ cond t (get_or xs n d ∷ []) [])) ≡ cond t (Some (number_in f n)) (latest c f n)
      go before true = ap number (last_push None (filter (begins c) (take n xs)) (get_or xs n d)) ∙ ap (λ b. Some (value 4 4 b)) (are n d (omega arith))
      go before false = ap (λ ys. number (last_or None ys)) (append-nil (filter (begins c) (take n xs))) ∙ before

-- the chunks before block k: k of them, or all that the file has
module _ {S : Type 0} {steps : S → Option (Bor (List ℕ)) → S → Type 0} (r : Run steps) (f : List ℕ) (c k : ℕ) (d : Bor (List ℕ))
    (p : 0 < c) (runs : IsChunksRun r 512 f) (few : r.len ≤ k) (all : r.len < k → r.whole ≡ true) where
  past : r.len < k → length f ≤ 512 * r.len
  past l = let n : r.len ≡ min (length f) ((length f + 512 - 1) / 512) = runs.1 (all l) in omega (arith, n)

  whole : take r.len r.items ≡ r.items
  whole = take_all r.len r.items (omega (arith, r.long))

  pub tally_of : length (filter (begins c) r.items) ≡ tally c f k
  tally_of =
      ap (λ xs. length (filter (begins c) xs)) (sym whole)
      ∙ counted f c r.items d (run_is r f runs) r.len (omega (arith, r.long))
      ∙ elim (cases_lt r.len k) [
        | inl l ↦ tally_past c f r.len k p (past l) few
        | inr l ↦ (let e : r.len ≡ k = omega (arith, few) in ap (tally c f) e)
      ]

  pub latest_of : number (last_or None (filter (begins c) r.items)) ≡ latest c f k
  latest_of =
      ap (λ xs. number (last_or None (filter (begins c) xs))) (sym whole)
      ∙ lasted f c r.items d (run_is r f runs) r.len (omega (arith, r.long))
      ∙ elim (cases_lt r.len k) [
        | inl l ↦ latest_past c f r.len k p (past l) few
        | inr l ↦ (let e : r.len ≡ k = omega (arith, few) in ap (latest c f) e)
      ]
