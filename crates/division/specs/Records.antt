-- Records that have a weight and take a share of cents.
use Rattle.std.specs.Prelude.{◌≡◌, ℕ, ◌<◌, ◌≤◌, min, List, [], ◌∷◌}
use Rattle.std.proofs.Common.{arith}

-- WHAT EVERY WEIGHTED RECORD KEEPS: its weight is at most 100,000,000; taking a share changes the share and nothing else
pub record Lawful {S : Type 0} (weighs holds : S → ℕ) (given : S → ℕ → S) : Type 0 where
  pub light : (x : S) → weighs x ≤ 100000000
  pub holding : (x : S) (cents : ℕ) → holds (given x cents) ≡ cents
  pub weighing : (x : S) (cents : ℕ) → weighs (given x cents) ≡ weighs x
  pub again : (x : S) (a b : ℕ) → given (given x a) b ≡ given x b
  pub back : (x : S) → given x (holds x) ≡ x

-- a weight that is cut keeps its limit
pub cut_light : (n : ℕ) → min n 100000000 ≤ 100000000
cut_light n = omega arith

-- what every record that names a participant keeps: the participant's place is one of 48
pub record Placing {S : Type 0} (stands : S → ℕ) : Type 0 where
  pub below : (x : S) → stands x < 48

-- the records, the first ones with the shares in place of what they held
unfoldable pub handed : {S : Type 0} → (S → ℕ → S) → List S → List ℕ → List S
handed give [] cents = []
handed give (x ∷ xs) [] = x ∷ xs
handed give (x ∷ xs) (c ∷ cents) = give x c ∷ handed give xs cents
