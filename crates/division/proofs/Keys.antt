-- Ranks as an order of distinct numbers, and the number that just so many of them reach.
use Rattle.std.proofs.Common.{◌≡◌, ℕ, zero, suc, ◌+◌, ◌*◌, ◌<◌, ◌≤◌, Bool, true, false, eqb, ltb, leb, sym, refl, ap, ◌∙◌, inl, inr, suc-mul, arith}
use mir.Val.{bool_byte}
use Rattle.std.proofs.lemmas.Nat.{mul-le}
use Rattle.std.proofs.lemmas.Bool.{cases_eq, cases_lt, cases_order, lt-ltb, le-ltb, le-leb, lt-leb, eq-eqb, ne_eqb}
use Rattle.std.proofs.lemmas.Bool.Decides.{nat_tests}
use Rattle.division.specs.Division.{sooner}
use Rattle.division.specs.Cuts.{key, Distinct, tick}
use Rattle.division.proofs.Tallies.{tally, tally_same, tally_le, tally_less, tally_zero, tally_add}

pub key_less : (n : ℕ) (rest : ℕ → ℕ) (i j : ℕ) → i < n → rest i < rest j → key n rest i < key n rest j
key_less n rest i j l h = omega (arith, mul-le (suc (rest i)) n (rest j) n h (omega arith), suc-mul (rest i) n)

pub sooner_key : (n : ℕ) (rest : ℕ → ℕ) (i j : ℕ) → i < n → j < n → sooner rest i j ≡ ltb (key n rest i) (key n rest j)
sooner_key n rest i j li lj =
    elim (cases_order (rest i) (rest j)) [
      | inl e ↦ (let p : rest i * n ≡ rest j * n = ap (λ x. x * n) e in grind (arith, nat_tests))
      | inr (inl l) ↦ (let p = key_less n rest i j li l in grind (arith, nat_tests))
      | inr (inr l) ↦ (let p = key_less n rest j i lj l in grind (arith, nat_tests))
    ]

pub keys_distinct : (n m : ℕ) (rest : ℕ → ℕ) → m ≤ n → Distinct (key n rest) m
keys_distinct n m rest h i j li lj e =
    elim (cases_order (rest i) (rest j)) [
      | inl s ↦ (let p : rest i * n ≡ rest j * n = ap (λ x. x * n) s in omega arith)
      | inr (inl l) ↦ absurd (omega (arith, key_less n rest i j (omega arith) l))
      | inr (inr l) ↦ absurd (omega (arith, key_less n rest j i (omega arith) l))
    ]

pub byte_tick : (t : Bool) → bool_byte t ≡ tick t
byte_tick true = refl
byte_tick false = refl

pub tick_few : (t : Bool) → tick t ≤ 1
tick_few true = omega arith
tick_few false = omega arith

pub tick_less : (m n : ℕ) → tick (ltb m n) ≤ n
tick_less m n = grind (arith, nat_tests)

-- how many of the numbers reach a bound
abbrev pub reach : (ℕ → ℕ) → ℕ → ℕ → ℕ
reach k b n = tally (λ i. tick (leb b (k i))) n

-- how many stand above a number
abbrev pub above : (ℕ → ℕ) → ℕ → ℕ → ℕ
above k m n = tally (λ i. tick (ltb m (k i))) n

pub reach_none : (k : ℕ → ℕ) (b n : ℕ) → ((i : ℕ) → i < n → k i < b) → reach k b n ≡ 0
reach_none k b n h = tally_zero (λ i. tick (leb b (k i))) n (λ i l. ap tick (lt-leb b (k i) (h i l)))

pub reach_all : (k : ℕ → ℕ) (n : ℕ) → reach k 0 n ≡ n
reach_all k zero = refl
reach_all k (suc n) =
    let e : tick (leb 0 (k n)) ≡ 1 = ap tick (le-leb 0 (k n) (omega arith)) in
    omega (arith, reach_all k n)

-- distinct numbers: at most one is b
once : (k : ℕ → ℕ) (b n : ℕ) → Distinct k n → tally (λ i. tick (eqb (k i) b)) n ≤ 1
once k b zero d = omega arith
once k b (suc n) d =
    elim (cases_eq (k n) b) [
      | inl e ↦
          (let z = tally_zero (λ i. tick (eqb (k i) b)) n
          (λ i l. ap tick (ne_eqb (k i) b (λ s. absurd (omega (arith, d i n (omega arith) (omega arith) (s ∙ sym e)))))) in
          let o : tick (eqb (k n) b) ≡ 1 = ap tick (eq-eqb (k n) b e) in
          omega arith)
      | inr ne ↦
          (let o : tick (eqb (k n) b) ≡ 0 = ap tick (ne_eqb (k n) b ne) in
          omega (arith, once k b n (λ i j li lj. d i j (omega arith) (omega arith))))
    ]

pub reach_step : (k : ℕ → ℕ) (b n : ℕ) → Distinct k n → reach k b n ≤ reach k (suc b) n + 1
reach_step k b n d =
    let f : ℕ → ℕ = λ i. tick (leb (suc b) (k i)) in
    let g : ℕ → ℕ = λ i. tick (eqb (k i) b) in
    let s = tally_same (λ i. tick (leb b (k i))) (λ i. f i + g i) n (λ i l. grind (arith, nat_tests)) in
    omega (arith, tally_add f g n, once k b n d)

pub reach_less : (k : ℕ → ℕ) (b c n : ℕ) → b ≤ c → reach k c n ≤ reach k b n
reach_less k b c n h = tally_le (λ i. tick (leb c (k i))) (λ i. tick (leb b (k i))) n (λ i l. grind (arith, nat_tests))

-- THE CUT: a bound that just l of n distinct numbers reach
pub cut : (k : ℕ → ℕ) (n l m : ℕ) → Distinct k n → l ≤ n → reach k m n ≤ l → (b : ℕ) × (b ≤ m) × (reach k b n ≡ l)
cut k n l zero d h r = (0, omega arith, omega (arith, reach_all k n))
cut k n l (suc m) d h r =
    elim (cases_eq (reach k (suc m) n) l) [
      | inl e ↦ (suc m, omega arith, e)
      | inr ne ↦ (let c = cut k n l m d h (omega (arith, reach_step k m n d)) in (c.0, omega (arith, c.1), c.2))
    ]

-- a number has fewer than l above it just where it reaches the cut
pub above_cut : (k : ℕ → ℕ) (n l b i : ℕ) → reach k b n ≡ l → i < n → ltb (above k (k i) n) l ≡ leb b (k i)
above_cut k n l b i e h =
    elim (cases_lt (k i) b) [
      | inl below ↦
          (let p = tally_le (λ j. tick (leb b (k j))) (λ j. tick (ltb (k i) (k j))) n (λ j _. grind (arith, nat_tests)) in
          le-ltb (above k (k i) n) l (omega arith) ∙ sym (lt-leb b (k i) below))
      | inr reaches ↦
          (let p = tally_less (λ j. tick (ltb (k i) (k j))) (λ j. tick (leb b (k j))) n i (λ j _. grind (arith, nat_tests)) h (grind (arith, nat_tests)) in
          lt-ltb (above k (k i) n) l (omega arith) ∙ sym (le-leb b (k i) reaches))
    ]
