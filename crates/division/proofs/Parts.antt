-- Whole parts, remainders, and the cents that the whole parts leave over.
use Rattle.std.proofs.Common.{◌≡◌, ℕ, zero, suc, ◌+◌, ◌-◌, ◌*◌, ◌<◌, ◌≤◌, ltb, leb, List, [], ◌∷◌, length, get_or, sum, sym, refl, ap, ◌∙◌, inl, inr, mod-lt, suc-mul, mul_comm, mul-one, mul-add, arith}
use native.Mathlib.Nat.{div-add-mod, le_of_mul-le-mul_left, lt_of_mul-lt-mul_left}
use Rattle.std.proofs.lemmas.Nat.{mul-le}
use Rattle.std.proofs.lemmas.Bool.{cases_eq, lt-ltb}
use Rattle.division.specs.Division.{whole_part, remainder, left_over, sooner, rank, share}
use Rattle.division.proofs.Tallies.{tally, places_tally, sum_tally, tally_same, tally_le, tally_add, tally_times, tally_part}
use Rattle.division.specs.Cuts.{tick, key}
use Rattle.division.proofs.Keys.{sooner_key, keys_distinct, reach, reach_none, above, cut, above_cut}

-- the exact share in two parts
pub parts : (c : ℕ) (ws : List ℕ) (i : ℕ) → sum ws * whole_part c ws i + remainder c ws i ≡ c * get_or ws i 0
unfolding whole_part remainder
parts c ws i = div-add-mod (c * get_or ws i 0) (sum ws)

pub remainder_below : (c : ℕ) (ws : List ℕ) (i : ℕ) → 0 < sum ws → remainder c ws i < sum ws
unfolding remainder
remainder_below c ws i h = mod-lt (c * get_or ws i 0) h

pub all_parts : (c : ℕ) (ws : List ℕ) → sum ws * tally (whole_part c ws) (length ws) + tally (remainder c ws) (length ws) ≡ sum ws * c
all_parts c ws =
    let w = sum ws in
    let n = length ws in
    let p = tally_times w (whole_part c ws) n in
    let q = tally_add (λ i. w * whole_part c ws i) (remainder c ws) n in
    let s = tally_same (λ i. w * whole_part c ws i + remainder c ws i) (λ i. c * get_or ws i 0) n (λ i _. parts c ws i) in
    let t = tally_times c (λ i. get_or ws i 0) n in
    let u : c * tally (λ i. get_or ws i 0) n ≡ w * c = ap (λ x. c * x) (sym (sum_tally ws)) ∙ mul_comm c w in
    omega arith

-- the whole parts are no more than the cents, and what is left over makes the cents up
pub wholes_within : (c : ℕ) (ws : List ℕ) → 0 < sum ws → tally (whole_part c ws) (length ws) ≤ c
wholes_within c ws h =
    let l : sum ws * tally (whole_part c ws) (length ws) ≤ sum ws * c = omega (arith, all_parts c ws) in le_of_mul-le-mul_left l h

pub left_is : (c : ℕ) (ws : List ℕ) → left_over c ws ≡ c - tally (whole_part c ws) (length ws)
unfolding left_over
left_is c ws = ap (λ x. c - x) (places_tally (whole_part c ws) (length ws))

pub made_up : (c : ℕ) (ws : List ℕ) → 0 < sum ws → tally (whole_part c ws) (length ws) + left_over c ws ≡ c
made_up c ws h = omega (arith, left_is c ws, wholes_within c ws h)

-- the remainders make up the cents left over
pub remainders_sum : (c : ℕ) (ws : List ℕ) → 0 < sum ws → tally (remainder c ws) (length ws) ≡ sum ws * left_over c ws
remainders_sum c ws h =
    let m = ap (λ x. sum ws * x) (made_up c ws h) in
    omega (arith, all_parts c ws, mul-add (sum ws) (tally (whole_part c ws) (length ws)) (left_over c ws), m)

-- no more cents are left over than there are remainders above 0
pub left_among : (c : ℕ) (ws : List ℕ) → 0 < sum ws → left_over c ws ≤ tally (λ i. tick (ltb 0 (remainder c ws i))) (length ws)
left_among c ws h =
    let w = sum ws in
    let r = remainder c ws in
    let n = length ws in
    let l : tally r n ≤ tally (λ i. w * tick (ltb 0 (r i))) n =
    tally_le r (λ i. w * tick (ltb 0 (r i))) n (λ i _. at i) in
    let m : w * left_over c ws ≤ w * tally (λ i. tick (ltb 0 (r i))) n =
    omega (arith, remainders_sum c ws h, tally_times w (λ i. tick (ltb 0 (r i))) n) in
    le_of_mul-le-mul_left m h
  where
    at : (i : ℕ) → remainder c ws i ≤ sum ws * tick (ltb 0 (remainder c ws i))
    at i =
        elim (cases_eq (remainder c ws i) 0) [
          | inl e ↦ omega arith
          | inr ne ↦
              (let t : tick (ltb 0 (remainder c ws i)) ≡ 1 = ap tick (lt-ltb 0 (remainder c ws i) (omega arith)) in
              let o : sum ws * tick (ltb 0 (remainder c ws i)) ≡ sum ws = ap (λ x. sum ws * x) t ∙ mul-one (sum ws) in
              omega (arith, remainder_below c ws i h))
        ]

-- fewer cents are left over than there are records
pub left_few : (c : ℕ) (ws : List ℕ) → 0 < sum ws → left_over c ws < length ws
left_few c [] h = absurd (omega arith)
left_few c (w ∷ ws) h =
    let all = w ∷ ws in
    let r = remainder c all in
    let l : tally (λ i. r i + 1) (length all) ≤ tally (λ i. sum all * 1) (length all) =
    tally_le (λ i. r i + 1) (λ i. sum all * 1) (length all) (λ i _. omega (arith, remainder_below c all i h, mul-one (sum all))) in
    let o = ones (length all) in
    let e : sum all * tally (λ i. 1) (length all) ≡ sum all * length all = ap (λ x. sum all * x) o in
    let m : sum all * left_over c all < sum all * length all =
    omega (arith, tally_add r (λ i. 1) (length all), tally_times (sum all) (λ i. 1) (length all), remainders_sum c all h) in
    lt_of_mul-lt-mul_left (sum all) m
  where
    ones : (n : ℕ) → tally (λ i. 1) n ≡ n
    ones zero = refl
    ones (suc n) = omega (arith, ones n)

-- a whole part is within the cents
pub whole_within : (c : ℕ) (ws : List ℕ) (i : ℕ) → 0 < sum ws → i < length ws → whole_part c ws i + left_over c ws ≤ c
whole_within c ws i h l = omega (arith, made_up c ws h, tally_part (whole_part c ws) (length ws) i l)

-- RANKS by keys
pub rank_tally : (c : ℕ) (ws : List ℕ) (i : ℕ) → rank c ws i ≡ tally (λ j. tick (sooner (remainder c ws) i j)) (length ws)
unfolding rank
rank_tally c ws i = places_tally (λ j. tick (sooner (remainder c ws) i j)) (length ws)

pub rank_key : (n c : ℕ) (ws : List ℕ) (i : ℕ) → length ws ≤ n → i < length ws → rank c ws i ≡ above (key n (remainder c ws)) (key n (remainder c ws) i) (length ws)
rank_key n c ws i h l =
    rank_tally c ws i
    ∙ tally_same (λ j. tick (sooner (remainder c ws) i j)) (λ j. tick (ltb (key n (remainder c ws) i) (key n (remainder c ws) j))) (length ws)
    (λ j lj. ap tick (sooner_key n (remainder c ws) i j (omega arith) (omega arith)))

-- the share, where just so many keys reach a bound as cents are left over
pub share_cut : (n c : ℕ) (ws : List ℕ) (b i : ℕ) → length ws ≤ n → i < length ws → reach (key n (remainder c ws)) b (length ws) ≡ left_over c ws
    → share c ws i ≡ whole_part c ws i + tick (leb b (key n (remainder c ws) i))
unfolding share
share_cut n c ws b i h l e =
    ap (λ t. whole_part c ws i + tick t)
    (ap (λ m. ltb m (left_over c ws)) (rank_key n c ws i h l)
    ∙ above_cut (key n (remainder c ws)) (length ws) (left_over c ws) b i e l)

-- a key is below the sum of the weights, times n
pub key_below : (n c : ℕ) (ws : List ℕ) (i : ℕ) → i < n → 0 < sum ws → key n (remainder c ws) i < sum ws * n
key_below n c ws i l h = omega (arith, mul-le (suc (remainder c ws i)) n (sum ws) n (remainder_below c ws i h) (omega arith), suc-mul (remainder c ws i) n)

-- there is such a bound
pub some_cut : (c : ℕ) (ws : List ℕ) → 0 < sum ws
    → (b : ℕ) × (b ≤ sum ws * length ws) × (reach (key (length ws) (remainder c ws)) b (length ws) ≡ left_over c ws)
some_cut c ws h =
    let n = length ws in
    let k = key n (remainder c ws) in
    cut k n (left_over c ws) (sum ws * n) (keys_distinct n n (remainder c ws) (omega arith)) (omega (arith, left_few c ws h))
    (omega (arith, reach_none k (sum ws * n) n (λ i l. key_below n c ws i l h)))
