-- The owners of a Resource: eight slots, of which the first `count` are in use.
use Rattle.std.specs.Prelude.{◌≡◌, ℕ, ◌+◌, ◌<◌, Bool, true, ◌&&◌, List, [], ◌∷◌, map, take, drop, sum, ◌==◌, nat_le, nat_lt}
use Rattle.std.specs.List.{AllByRecursion}
use Rattle.dayfile.specs.declared.record.Owner.{Owner}

-- numbers of which each is above the one before
abbrev pub Rises : List ℕ → Type 0
Rises [] = Unit {0}
Rises (n ∷ []) = Unit {0}
Rises (n ∷ m ∷ ns) = (n < m) × Rises (m ∷ ns)

-- THE OWNERS' RULES: places rise and lie below the limit, parts are above 0 and add up to a million, unused slots are 0
pub record Owned (limit count : ℕ) (owners : List Owner) : Type 0 where
  pub rising : Rises (map (λ o. o.place) (take count owners))
  pub below : AllByRecursion (λ o. o.place < limit) (take count owners)
  pub above : AllByRecursion (λ o. 0 < o.parts) (take count owners)
  pub whole : sum (map (λ o. o.parts) (take count owners)) ≡ 1000000
  pub unused : AllByRecursion (λ o. (o.place ≡ 0) × (o.parts ≡ 0)) (drop count owners)

-- whether owners hold some part each, at rising places from `least` on and below `limit`
unfoldable pub placed : ℕ → ℕ → List Owner → Bool
placed least limit [] = true
placed least limit (o ∷ os) = (nat_le least o.place && (nat_lt o.place limit && nat_lt 0 o.parts)) && placed (o.place + 1) limit os

unfoldable pub parts_of : List Owner → ℕ
parts_of [] = 0
parts_of (o ∷ os) = o.parts + parts_of os

unfoldable pub vacant : List Owner → Bool
vacant [] = true
vacant (o ∷ os) = (o.place == 0 && o.parts == 0) && vacant os

-- whether the owners keep their rules
abbrev pub owners_kept : ℕ → ℕ → List Owner → Bool
owners_kept limit count os = (placed 0 limit (take count os) && parts_of (take count os) == 1000000) && vacant (drop count os)
