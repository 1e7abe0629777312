-- Remainders ranked by keys, and the bound that just so many keys reach.
use Rattle.std.specs.Prelude.{◌≡◌, ℕ, ◌+◌, ◌-◌, ◌*◌, ◌<◌, Bool, cond, leb, List, map, count_by, nat_le}
use Rattle.division.specs.declared.few.Part.{Part}
use Rattle.division.specs.Division.{places, whole_part, remainder}

-- a remainder and its place in one number: the larger remainder is the larger, then the earlier place
abbrev pub key : ℕ → (ℕ → ℕ) → ℕ → ℕ
key n rest i = rest i * n + (n - 1 - i)

-- numbers of which no two below n are equal
abbrev pub Distinct : (ℕ → ℕ) → ℕ → Type 0
Distinct k n = (i j : ℕ) → i < n → j < n → k i ≡ k j → i ≡ j

-- one for a test that holds
abbrev pub tick : Bool → ℕ
tick t = cond t 1 0

-- how many keys reach a bound
abbrev pub reached : ℕ → List ℕ → ℕ
reached bound keys = count_by (leb bound) keys

-- what is noted of a place: the whole part, and the key of the remainder
abbrev pub part : ℕ → List ℕ → ℕ → Part
part cents weights i = record { whole = whole_part cents weights i; key = key 64 (remainder cents weights) i }

unfoldable pub noted : ℕ → List ℕ → List Part
noted cents weights = map (part cents weights) (places weights)

abbrev pub wholes : List Part → List ℕ
wholes parts = map (λ p. p.whole) parts

abbrev pub keys : List Part → List ℕ
keys parts = map (λ p. p.key) parts

-- the whole parts, one cent more where the key reaches a bound
unfoldable pub topped : ℕ → List Part → List ℕ
topped bound parts = map (λ p. p.whole + tick (nat_le bound p.key)) parts
