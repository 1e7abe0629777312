-- Numbers in bytes: what is written reads back, and what was read is written again.
use Rattle.std.proofs.Common.{◌≡◌, ℕ, zero, suc, ◌+◌, ◌-◌, ◌*◌, ◌/◌, ◌%◌, ◌^◌, ◌<◌, ◌≤◌, ◌⊎◌, List, [], ◌∷◌, ◌++◌, length, get_or, take, drop, replicate, sym, refl, ap, ◌∙◌, subst, inl, inr, add-zero, pow-suc, arith}
use Rattle.std.specs.List.{AllByRecursion}
use Rattle.std.proofs.lemmas.List.{drop-drop, get_or-drop, get_or_past, take_at, drop-take, take-take, take_all, drop-replicate}
use Rattle.std.proofs.ByRecursion.{All-get_or}
use Rattle.std.proofs.lemmas.Bool.{cases_lt}
use Rattle.dayfile.specs.Bytes.{number, digits, value}

-- every number of a list is a byte
abbrev pub Bytes : List ℕ → Type 0
Bytes bs = (i : ℕ) → get_or bs i 0 < 256

pub bytes_drop : (n : ℕ) (bs : List ℕ) → Bytes bs → Bytes (drop n bs)
bytes_drop n bs h i = subst (λ x. x < 256) (sym (get_or-drop n bs i 0)) (h (n + i))

pub bytes_take : (n : ℕ) (bs : List ℕ) → Bytes bs → Bytes (take n bs)
bytes_take zero bs h i = omega arith
bytes_take (suc n) [] h i = omega arith
bytes_take (suc n) (b ∷ bs) h zero = h 0
bytes_take (suc n) (b ∷ bs) h (suc i) = bytes_take n bs (λ j. h (suc j)) i

pub bytes_from_all : (bs : List ℕ) → AllByRecursion (λ b. b < 256) bs → Bytes bs
bytes_from_all bs h i = go (cases_lt i (length bs))
  where
    go : (i < length bs) ⊎ (length bs ≤ i) → get_or bs i 0 < 256
    go (inl l) = All-get_or (λ b. b < 256) bs i 0 l h
    go (inr l) = subst (λ x. x < 256) (sym (get_or_past bs i 0 l)) (omega arith)

pub number_none : (w : ℕ) → number (take w []) ≡ 0
unfolding number
number_none zero = refl
number_none (suc w) = refl

-- the lowest byte apart, at the front of a list
front : (w : ℕ) (bs : List ℕ) → number (take (suc w) bs) ≡ get_or bs 0 0 + 256 * number (take w (drop 1 bs))
unfolding number
front w [] = let e = number_none w in omega (arith, e)
front w (b ∷ bs) = refl

-- the lowest byte apart
pub value_more : (at w : ℕ) (bs : List ℕ) → value at (suc w) bs ≡ get_or bs at 0 + 256 * value (at + 1) w bs
value_more at w bs =
    front w (drop at bs)
    ∙ ap (λ x. x + 256 * number (take w (drop 1 (drop at bs)))) (get_or-drop at bs 0 0 ∙ ap (λ k. get_or bs k 0) (add-zero at))
    ∙ ap (λ t. get_or bs at 0 + 256 * number (take w t)) (drop-drop 1 at bs)

pub value_none : (at : ℕ) (bs : List ℕ) → value at 0 bs ≡ 0
unfolding number
value_none at bs = refl

pub value_one : (at : ℕ) (bs : List ℕ) → value at 1 bs ≡ get_or bs at 0
value_one at bs = let e = value_none (at + 1) bs in omega (arith, value_more at 0 bs, e)

pub value_two : (at : ℕ) (bs : List ℕ) → value at 2 bs ≡ get_or bs at 0 + 256 * get_or bs (at + 1) 0
value_two at bs = omega (arith, value_more at 1 bs, value_one (at + 1) bs)

pub value_four : (at : ℕ) (bs : List ℕ)
    → value at 4 bs ≡ get_or bs at 0 + 256 * get_or bs (at + 1) 0 + 65536 * get_or bs (at + 2) 0 + 16777216 * get_or bs (at + 3) 0
value_four at bs =
    let two : at + 1 + 1 ≡ at + 2 = omega arith in
    let three : at + 2 + 1 ≡ at + 3 = omega arith in
    let a = value_more at 3 bs in
    let b = value_more (at + 1) 2 bs ∙ ap (λ k. get_or bs (at + 1) 0 + 256 * value k 2 bs) two in
    let c = value_two (at + 2) bs ∙ ap (λ k. get_or bs (at + 2) 0 + 256 * get_or bs k 0) three in
    omega (arith, a, b, c)

-- zeros behind a number's bytes
pub number_padded : (bs : List ℕ) (k : ℕ) → number (bs ++ replicate k 0) ≡ number bs
unfolding number
number_padded [] zero = refl
number_padded [] (suc k) = let e : number (replicate k 0) ≡ 0 = number_padded [] k in omega (arith, e)
number_padded (b ∷ bs) k = ap (λ n. b + 256 * n) (number_padded bs k)

-- bytes written over the first of n zeros
pub number_over : (n : ℕ) (bs xs : List ℕ) → xs ≡ bs → number (xs ++ drop (length bs) (replicate n 0)) ≡ number bs
number_over n bs xs e =
    ap (λ t. number (t ++ drop (length bs) (replicate n 0))) e
    ∙ ap (λ t. number (bs ++ t)) (drop-replicate (length bs) n 0)
    ∙ number_padded bs (n - length bs)

-- the number of two bytes, and of four
pub number_two : (bs : List ℕ) → length bs ≡ 2 → number bs ≡ get_or bs 0 0 + 256 * get_or bs 1 0
number_two bs l = ap number (sym (take_all 2 bs (omega arith))) ∙ value_two 0 bs

pub number_four : (bs : List ℕ) → length bs ≡ 4
    → number bs ≡ get_or bs 0 0 + 256 * get_or bs 1 0 + 65536 * get_or bs 2 0 + 16777216 * get_or bs 3 0
number_four bs l = ap number (sym (take_all 4 bs (omega arith))) ∙ value_four 0 bs

-- a value in a part of a list
pub value_drop : (from at w : ℕ) (bs : List ℕ) → value at w (drop from bs) ≡ value (from + at) w bs
value_drop from at w bs = ap (λ t. number (take w t)) (drop-drop at from bs)

-- a value depends only on its bytes
pub value_take : (n at w : ℕ) (bs : List ℕ) → at + w ≤ n → value at w (take n bs) ≡ value at w bs
value_take n at w bs h =
    let e : at + (n - at) ≡ n = omega arith in
    ap number
    (ap (λ k. take w (drop at (take k bs))) (sym e)
    ∙ ap (take w) (drop-take at (n - at) bs)
    ∙ take-take w (n - at) (drop at bs) (omega arith))

pub value_same : (n at w : ℕ) (xs ys : List ℕ) → at + w ≤ n → take n xs ≡ take n ys → value at w xs ≡ value at w ys
value_same n at w xs ys h e = sym (value_take n at w xs h) ∙ ap (value at w) e ∙ value_take n at w ys h

pub number_lt : (w : ℕ) (bs : List ℕ) → Bytes bs → number (take w bs) < 256 ^ w
unfolding number
number_lt zero bs h = omega arith
number_lt (suc w) [] h = let e = pow-suc 256 w in let p = number_lt w [] h in omega (arith, e, p)
number_lt (suc w) (b ∷ bs) h =
    let e = pow-suc 256 w in
    let p = number_lt w bs (λ i. h (suc i)) in
    let q : b < 256 = h 0 in
    omega (arith, e, p, q)

pub value_lt : (at w : ℕ) (bs : List ℕ) → Bytes bs → value at w bs < 256 ^ w
value_lt at w bs h = number_lt w (drop at bs) (bytes_drop at bs h)

-- what was read is written again
pub digits_number : (w : ℕ) (bs : List ℕ) → w ≤ length bs → Bytes bs → digits w (number (take w bs)) ≡ take w bs
unfolding number digits
digits_number zero bs l h = refl
digits_number (suc w) [] l h = absurd (omega arith)
digits_number (suc w) (b ∷ bs) l h =
    let m = number (take w bs) in
    let q : b < 256 = h 0 in
    let d : (b + 256 * number (take w bs)) % 256 ≡ b = omega arith in
    let e : (b + 256 * number (take w bs)) / 256 ≡ number (take w bs) = omega arith in
    ap (λ x. x ∷ digits w ((b + 256 * m) / 256)) d ∙ ap (λ x. b ∷ digits w x) e ∙ ap (λ xs. b ∷ xs) (digits_number w bs (omega arith) (λ i. h (suc i)))

-- what is written reads back
pub number_digits : (w v : ℕ) → v < 256 ^ w → number (digits w v) ≡ v
unfolding number digits
number_digits zero v h = omega arith
number_digits (suc w) v h =
    let e = pow-suc 256 w in
    let ih = number_digits w (v / 256) (omega (arith, e)) in
    omega (arith, ih)

pub length_digits : (w n : ℕ) → length (digits w n) ≡ w
unfolding digits
length_digits zero n = refl
length_digits (suc w) n = ap suc (length_digits w (n / 256))

pub small_digits : (w n : ℕ) → AllByRecursion (λ b. b < 256) (digits w n)
unfolding digits
small_digits zero n = tt
small_digits (suc w) n = (omega arith, small_digits w (n / 256))

-- a number at the front of bytes that begin with its digits
pub value_digits : (w v : ℕ) (rest : List ℕ) → v < 256 ^ w → value 0 w (digits w v ++ rest) ≡ v
value_digits w v rest h = ap number (take_at (digits w v) rest w (length_digits w v)) ∙ number_digits w v h

pub digits_one : (n : ℕ) → n < 256 → digits 1 n ≡ n ∷ []
unfolding digits
digits_one n h = let e : n % 256 ≡ n = omega arith in ap (λ x. x ∷ []) e
