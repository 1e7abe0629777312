-- Why no other division is closer: each record's distance lies above one line, and the lines' slopes are all the same.
use Rattle.std.proofs.Common.{◌≡◌, ℕ, ◌+◌, ◌-◌, ◌*◌, ◌<◌, ◌≤◌, Bool, true, false, sym, refl, ap, ◌∙◌, subst, inl, inr, mul-one, mul-add, arith}
use Rattle.std.proofs.lemmas.Nat.{mul-le}
use Rattle.std.proofs.lemmas.Bool.{cases_lt}
use Rattle.division.specs.Fairness.{apart}
use Rattle.division.proofs.Tallies.{tally, tally_le, tally_add, tally_times}
use Rattle.division.specs.Cuts.{tick}

-- a share x = w * q + r of which the whole part is taken: no other whole number b lies below the line through q of slope w - 2 * t
pub nearer_down : (w t x q r b : ℕ) → w * q + r ≡ x → r < w → t ≤ w → r ≤ t
    → apart (w * q) x + 2 * (t * q) + w * b ≤ apart (w * b) x + 2 * (t * b) + w * q
nearer_down w t x q r b e l k h =
    elim (cases_lt b q) [
      | inl less ↦
          (let d = q - b in
          let s : b + d ≡ q = omega arith in
          let p : w * b + w * d ≡ w * q = sym (mul-add w b d) ∙ ap (λ y. w * y) s in
          let u : t * b + t * d ≡ t * q = sym (mul-add t b d) ∙ ap (λ y. t * y) s in
          let v : t * d ≤ w * d = mul-le t d w d k (omega arith) in
          omega arith)
      | inr more ↦
          (let d = b - q in
          let s : q + d ≡ b = omega arith in
          let p : w * q + w * d ≡ w * b = sym (mul-add w q d) ∙ ap (λ y. w * y) s in
          let u : t * q + t * d ≡ t * b = sym (mul-add t q d) ∙ ap (λ y. t * y) s in
          elim (cases_lt 0 d) [
            | inl some ↦
                (let v : w * 1 ≤ w * d = mul-le w 1 w d (omega arith) some in
                let y : t * 1 ≤ t * d = mul-le t 1 t d (omega arith) some in
                omega (arith, mul-one w, mul-one t))
            | inr none ↦
                (let z : b ≡ q = omega arith in
                subst (λ a. apart (w * q) x + 2 * (t * q) + w * a ≤ apart (w * a) x + 2 * (t * a) + w * q) (sym z) (omega arith))
          ])
    ]

-- the same where one more than the whole part is taken
pub nearer_up : (w t x q r b : ℕ) → w * q + r ≡ x → r < w → t ≤ r
    → apart (w * (q + 1)) x + 2 * (t * (q + 1)) + w * b ≤ apart (w * b) x + 2 * (t * b) + w * (q + 1)
nearer_up w t x q r b e l h =
    let m : w * (q + 1) ≡ w * q + w = mul-add w q 1 ∙ ap (λ y. w * q + y) (mul-one w) in
    let n : t * (q + 1) ≡ t * q + t = mul-add t q 1 ∙ ap (λ y. t * q + y) (mul-one t) in
    elim (cases_lt q b) [
      | inl more ↦
          (let d = b - (q + 1) in
          let s : (q + 1) + d ≡ b = omega arith in
          let p : w * (q + 1) + w * d ≡ w * b = sym (mul-add w (q + 1) d) ∙ ap (λ y. w * y) s in
          let u : t * (q + 1) + t * d ≡ t * b = sym (mul-add t (q + 1) d) ∙ ap (λ y. t * y) s in
          omega arith)
      | inr less ↦
          (let d = q - b in
          let s : b + d ≡ q = omega arith in
          let p : w * b + w * d ≡ w * q = sym (mul-add w b d) ∙ ap (λ y. w * y) s in
          let u : t * b + t * d ≡ t * q = sym (mul-add t b d) ∙ ap (λ y. t * y) s in
          let v : t * d ≤ w * d = mul-le t d w d (omega arith) (omega arith) in
          omega arith)
    ]

pub nearer : (w t x q r b : ℕ) (up : Bool) → w * q + r ≡ x → r < w → t ≤ w → (up ≡ true → t ≤ r) → (up ≡ false → r ≤ t)
    → apart (w * (q + tick up)) x + 2 * (t * (q + tick up)) + w * b ≤ apart (w * b) x + 2 * (t * b) + w * (q + tick up)
nearer w t x q r b true e l k f g = nearer_up w t x q r b e l (f refl)
nearer w t x q r b false e l k f g =
    let z : q ≡ q + 0 = omega arith in
    subst (λ a. apart (w * a) x + 2 * (t * a) + w * b ≤ apart (w * b) x + 2 * (t * b) + w * a) z (nearer_down w t x q r b e l k (g refl))

-- lines of one slope, and equal sums: the sum of distances is no larger
pub closest_sum : (w t n : ℕ) (a b dista distb : ℕ → ℕ) → tally a n ≡ tally b n
    → ((i : ℕ) → i < n → dista i + 2 * (t * a i) + w * b i ≤ distb i + 2 * (t * b i) + w * a i)
    → tally dista n ≤ tally distb n
closest_sum w t n a b dista distb e h =
    let l = tally_le (λ i. dista i + 2 * (t * a i) + w * b i) (λ i. distb i + 2 * (t * b i) + w * a i) n h in
    let p = tally_add (λ i. dista i + 2 * (t * a i)) (λ i. w * b i) n in
    let q = tally_add dista (λ i. 2 * (t * a i)) n in
    let r = tally_add (λ i. distb i + 2 * (t * b i)) (λ i. w * a i) n in
    let s = tally_add distb (λ i. 2 * (t * b i)) n in
    let u = tally_times 2 (λ i. t * a i) n in
    let v = tally_times 2 (λ i. t * b i) n in
    let x = tally_times t a n in
    let y = tally_times t b n in
    let z = tally_times w a n in
    let o = tally_times w b n in
    let f = ap (λ m. w * m) e in
    let g = ap (λ m. t * m) e in
    omega arith
