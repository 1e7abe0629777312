-- Numbers written digit by digit, and one after the other.
use Rattle.std.proofs.Common.{◌≡◌, ℕ, ◌+◌, ◌/◌, ◌%◌, ◌^◌, ◌<◌, ◌≤◌, List, [], ◌∷◌, ◌++◌, length, get_or, drop, ℤ, refl, sym, ap, ◌∙◌, add-zero, arith, w32, to_z, of_z}
use Rattle.std.proofs.lemmas.Int.{of_z-to_z}
use Rattle.std.specs.Int.{w16, to_le_bytes}
use Rattle.dayfile.specs.Bytes.{digits, laid, value}
use Rattle.dayfile.specs.Records.{hour_from}
use Rattle.dayfile.proofs.Laid.{laid_append, length_laid}
use Rattle.dayfile.proofs.Numbers.{value_one, value_drop, length_digits}

-- a number's bytes, as the library says them
pub bytes_two : (n : ℕ) → to_le_bytes w16 n ≡ digits 2 n
unfolding digits
bytes_two n = refl

pub bytes_four : (n : ℕ) → to_le_bytes w32 n ≡ digits 4 n
unfolding digits
bytes_four n =
    let c : n / 65536 % 256 ≡ n / 256 / 256 % 256 = omega arith in
    let d : n / 16777216 % 256 ≡ n / 256 / 256 / 256 % 256 = omega arith in
    ap (λ k. n % 256 ∷ n / 256 % 256 ∷ k ∷ n / 16777216 % 256 ∷ []) c
    ∙ ap (λ k. n % 256 ∷ n / 256 % 256 ∷ n / 256 / 256 % 256 ∷ k ∷ []) d

-- one part written right after another, and a third one
pub laid_two : (xs : List ℕ) (i j : ℕ) (ys zs : List ℕ) → i + length ys ≤ length xs → j ≡ i + length ys → laid (laid xs i ys) j zs ≡ laid xs i (ys ++ zs)
laid_two xs i j ys zs h e = ap (λ k. laid (laid xs i ys) k zs) e ∙ sym (laid_append xs i ys zs h)

pub laid_three : (xs : List ℕ) (i j k : ℕ) (ys zs us : List ℕ) → i + length ys + length zs ≤ length xs → j ≡ i + length ys → k ≡ j + length zs
    → laid (laid (laid xs i ys) j zs) k us ≡ laid xs i (ys ++ (zs ++ us))
laid_three xs i j k ys zs us h e f =
    let n = length_laid xs i ys (omega arith) in
    laid_two (laid xs i ys) j k zs us (omega (arith, n)) f ∙ laid_two xs i j ys (zs ++ us) (omega arith) e

-- the byte at the front of what is left
pub front_byte : (bs : List ℕ) (at : ℕ) → get_or bs at 0 ≡ value 0 1 (drop at bs)
front_byte bs at = sym (value_one at bs) ∙ sym (value_drop at 0 1 bs ∙ ap (λ p. value p 1 bs) (add-zero at))

pub three_words : (xs xs₁ xs₂ xs₃ : List ℕ) (i a b c : ℕ) → i + 12 ≤ length xs → xs₁ ≡ laid xs i (digits 4 a) → xs₂ ≡ laid xs₁ (i + 4) (digits 4 b) → xs₃ ≡ laid xs₂ (i + 8) (digits 4 c)
    → xs₃ ≡ laid xs i (digits 4 a ++ (digits 4 b ++ digits 4 c))
three_words xs xs₁ xs₂ xs₃ i a b c h p q r =
    let m = length_digits 4 a in
    let n = length_digits 4 b in
    r
    ∙ ap (λ t. laid t (i + 8) (digits 4 c)) (q ∙ ap (λ t. laid t (i + 4) (digits 4 b)) p)
    ∙ laid_three xs i (i + 4) (i + 8) (digits 4 a) (digits 4 b) (digits 4 c) (omega (arith, m, n)) (omega (arith, m)) (omega (arith, n))

pub half_and_word : (xs xs₁ xs₂ : List ℕ) (i a b : ℕ) → i + 6 ≤ length xs → xs₁ ≡ laid xs i (digits 2 a) → xs₂ ≡ laid xs₁ (i + 2) (digits 4 b)
    → xs₂ ≡ laid xs i (digits 2 a ++ digits 4 b)
half_and_word xs xs₁ xs₂ i a b h p q =
    let m = length_digits 2 a in
    q ∙ ap (λ t. laid t (i + 2) (digits 4 b)) p ∙ laid_two xs i (i + 2) (digits 2 a) (digits 4 b) (omega (arith, m)) (omega (arith, m))

-- a number cast to a signed one, as the checker reads it
pub cast : (z : ℤ) (n m : ℕ) → z ≡ to_z w32 n → n < 2 ^ 32 → n ≡ m → to_z w32 (of_z w32 z) ≡ to_z w32 m
cast z n m e l f = ap (λ x. to_z w32 (of_z w32 x)) e ∙ ap (to_z w32) (of_z-to_z w32 n l ∙ f)

pub hour_read : (bs : List ℕ) (at a b : ℕ) (z : ℤ) → a ≡ value at 4 bs → b ≡ value (at + 4) 4 bs → z ≡ to_z w32 (value (at + 8) 4 bs)
    → record { dispatch_kwh = a; metered_kwh = b; lmp = z } ≡ hour_from (drop at bs)
hour_read bs at a b z e f g =
    let p = value_drop at 4 4 bs in
    let q = value_drop at 8 4 bs in
    cc
