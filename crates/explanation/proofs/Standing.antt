-- What stands right before a block, and that nothing stands past the end of a file.
use Rattle.std.proofs.Common.{◌≡◌, ℕ, zero, suc, ◌-◌, ◌*◌, ◌<◌, ◌≤◌, false, eqb, ◌⊎◌, List, [], length, get_or, take, Some, None, Option, unwrap_or, sym, refl, ap, ◌∙◌, inl, inr, arith}
use Rattle.std.specs.Option.{SomeIff, option_map}
use Rattle.std.proofs.lemmas.List.{drop_all}
use Rattle.std.proofs.lemmas.Bool.{cases_lt, ne_eqb, cond-false}
use Rattle.dayfile.specs.Files.{block, kind, number_in, kind_before, number_before, tally, latest}

pub block_past : (f : List ℕ) (k : ℕ) → length f ≤ 512 * k → block f k ≡ []
block_past f k h = ap (take 512) (drop_all (512 * k) f h)

kind_past : (c : ℕ) (f : List ℕ) (k : ℕ) → 0 < c → length f ≤ 512 * k → eqb (kind f k) c ≡ false
kind_past c f k p h = ap (λ b. eqb (get_or b 0 0) c) (block_past f k h) ∙ ne_eqb 0 c (λ e. omega arith)

-- past the end of a file no block begins with a letter
pub tally_past : (c : ℕ) (f : List ℕ) (n k : ℕ) → 0 < c → length f ≤ 512 * n → n ≤ k → tally c f n ≡ tally c f k
unfolding tally
tally_past c f n zero p l h = let e : n ≡ 0 = omega arith in ap (tally c f) e
tally_past c f n (suc k) p l h = go (λ b. tally_past c f n k p l b) (cases_lt k n)
  where
    go : (n ≤ k → tally c f n ≡ tally c f k) → (k < n) ⊎ (n ≤ k) → tally c f n ≡ tally c f (suc k)
    go before (inl b) = let e : n ≡ suc k = omega arith in ap (tally c f) e
    go before (inr b) =
        let m = cond-false {A = ℕ} (eqb (kind f k) c) 1 0 (kind_past c f k p (omega arith)) in
        let e = before b in
        omega (arith, m, e)

pub latest_past : (c : ℕ) (f : List ℕ) (n k : ℕ) → 0 < c → length f ≤ 512 * n → n ≤ k → latest c f n ≡ latest c f k
unfolding latest
latest_past c f n zero p l h = let e : n ≡ 0 = omega arith in ap (latest c f) e
latest_past c f n (suc k) p l h = go (λ b. latest_past c f n k p l b) (cases_lt k n)
  where
    go : (n ≤ k → latest c f n ≡ latest c f k) → (k < n) ⊎ (n ≤ k) → latest c f n ≡ latest c f (suc k)
    go before (inl b) = let e : n ≡ suc k = omega arith in ap (latest c f) e
    go before (inr b) = before b ∙ sym (cond-false (eqb (kind f k) c) (Some (number_in f k)) (latest c f k) (kind_past c f k p (omega arith)))

-- the block right before
pub kind_right_before : (f : List ℕ) (k : ℕ) (o : Option ℕ) → SomeIff o (1 ≤ k) (k - 1) → option_map (kind f) o ≡ kind_before f k
unfolding kind_before
kind_right_before f zero None n = refl
kind_right_before f (suc k) None n = absurd (n (omega arith))
kind_right_before f zero (Some i) n = absurd (omega arith)
kind_right_before f (suc k) (Some i) n = let e : i ≡ k = omega arith in ap (λ j. Some (kind f j)) e

pub number_right_before : (f : List ℕ) (k : ℕ) (o : Option ℕ) → SomeIff o (1 ≤ k) (k - 1) → unwrap_or (option_map (number_in f) o) 0 ≡ number_before f k
unfolding number_before
number_right_before f zero None n = refl
number_right_before f (suc k) None n = absurd (n (omega arith))
number_right_before f zero (Some i) n = absurd (omega arith)
number_right_before f (suc k) (Some i) n = let e : i ≡ k = omega arith in ap (number_in f) e
