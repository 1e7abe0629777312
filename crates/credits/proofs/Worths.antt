-- Signed numbers within limits, their products and sums.
use Rattle.std.proofs.Common.{◌≡◌, ℕ, suc, ◌+◌, ◌*◌, ◌≤◌, ℤ, pos, negsuc, ◌+ℤ◌, ◌*ℤ◌, neg_ℤ, ◌≤ℤ◌, refl, mul-le-mul, add-one, arith, w64, to_z, of_z}
use Rattle.std.proofs.lemmas.Int.{ints}
use Rattle.credits.specs.Sums.{net}

-- a number that is at most so far from 0
abbrev pub Within : ℕ → ℤ → Type 0
Within n z = (neg_ℤ (pos n) ≤ℤ z) × (z ≤ℤ pos n)

pub within_product : (a b : ℕ) (x y : ℤ) → Within a x → Within b y → Within (a * b) (x *ℤ y)
within_product a b (pos m) (pos n) p q =
    let h : m * n ≤ a * b = mul-le-mul (omega (arith, ints)) (omega (arith, ints)) in (omega (arith, ints), omega (arith, ints))
within_product a b (pos m) (negsuc n) p q =
    let h : m * suc n ≤ a * b = mul-le-mul (omega (arith, ints)) (omega (arith, ints)) in (omega (arith, ints), omega (arith, ints))
within_product a b (negsuc m) (pos n) p q =
    let h : suc m * n ≤ a * b = mul-le-mul (omega (arith, ints)) (omega (arith, ints)) in (omega (arith, ints), omega (arith, ints))
within_product a b (negsuc m) (negsuc n) p q =
    let h : suc m * suc n ≤ a * b = mul-le-mul (omega (arith, ints)) (omega (arith, ints)) in (omega (arith, ints), omega (arith, ints))

-- a running sum, and one more, as the code adds it
module _ (k m : ℕ) (s x : ℤ) (room : k + m ≤ 1000000000000000000) (near_s : Within k s) (near_x : Within m x) where
  pub running_back : to_z w64 (of_z w64 (s +ℤ to_z w64 (of_z w64 x))) ≡ s +ℤ x
  running_back = omega (arith, ints)

  pub running_within : Within (k + m) (to_z w64 (of_z w64 (s +ℤ to_z w64 (of_z w64 x))))
  running_within = (omega (arith, ints), omega (arith, ints))

pub net_none : (f : ℕ → ℤ) → pos 0 ≡ net f 0
unfolding net
net_none f = refl

pub net_more : (f : ℕ → ℤ) (n : ℕ) → net f (n + 1) ≡ net f n +ℤ f n
unfolding net
net_more f n = rw add-one
