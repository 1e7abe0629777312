-- What a division of cents over weights promises.
use Rattle.std.specs.Prelude.{◌≡◌, ℕ, ◌+◌, ◌-◌, ◌*◌, ◌<◌, ◌≤◌, cond, List, length, sum_by, sum, ◌==◌, slice_index}
use Rattle.division.specs.Division.{places}

-- how far two numbers are apart
abbrev pub apart : ℕ → ℕ → ℕ
apart m n = (m - n) + (n - m)

-- what distances are multiplied by to be whole numbers: all weights together, or 1 where there are no cents
unfoldable pub scale : ℕ → List ℕ → ℕ
scale cents weights = cond (cents == 0) 1 (sum weights)

-- how far a share at a place is from the exact one, cents × weight / all weights, times the scale
unfoldable pub distance : ℕ → List ℕ → ℕ → ℕ → ℕ
distance cents weights i share = apart (scale cents weights * share) (cents * slice_index weights i)

-- the sum of the distances
unfoldable pub distances : ℕ → List ℕ → List ℕ → ℕ
distances cents weights shares = sum_by (λ i. distance cents weights i (slice_index shares i)) (places weights)

-- A FAIR DIVISION
pub record Fair (cents : ℕ) (weights shares : List ℕ) : Type 0 where
  -- a share for each weight
  pub matching : length shares ≡ length weights
  -- the shares add up to the cents
  pub whole : sum shares ≡ cents
  -- no share is a full cent off
  pub near : (i : ℕ) → distance cents weights i (slice_index shares i) < scale cents weights
  -- what weighs nothing gets nothing
  pub weightless : (i : ℕ) → slice_index weights i ≡ 0 → slice_index shares i ≡ 0
  -- the heavier never gets less than the lighter
  pub heavier : (i j : ℕ) → slice_index weights i < slice_index weights j → slice_index shares i ≤ slice_index shares j
  -- no other division of the cents into whole cents is closer
  pub closest : (others : List ℕ) → length others ≡ length weights → sum others ≡ cents → distances cents weights shares ≤ distances cents weights others
