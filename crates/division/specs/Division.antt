-- The division of whole cents over weights, by largest remainders.
use Rattle.std.specs.Prelude.{ℕ, ◌+◌, ◌-◌, ◌*◌, ◌/◌, ◌%◌, Bool, cond, ◌&&◌, ◌||◌, List, map, length, sum_by, sum, count_by, ◌==◌, nat_lt, slice_index}
use Rattle.std.specs.List.{range_with_len}
use Rattle.division.specs.Records.{handed}

-- the places of the weights, 0 and on
abbrev pub places : List ℕ → List ℕ
places weights = range_with_len 0 (length weights)

-- the exact share at a place is cents × weight / all weights: its whole part, and the remainder
-- (a number divided by 0 is 0: where nothing weighs, only 0 cents are divided, and all is 0)
unfoldable pub whole_part : ℕ → List ℕ → ℕ → ℕ
whole_part cents weights i = cents * slice_index weights i / sum weights

unfoldable pub remainder : ℕ → List ℕ → ℕ → ℕ
remainder cents weights i = cents * slice_index weights i % sum weights

-- the cents that the whole parts leave over
unfoldable pub left_over : ℕ → List ℕ → ℕ
left_over cents weights = cents - sum_by (whole_part cents weights) (places weights)

-- place j ranks before place i: its remainder is larger, or as large, and j stands earlier
abbrev pub sooner : (ℕ → ℕ) → ℕ → ℕ → Bool
sooner rest i j = nat_lt (rest i) (rest j) || (rest i == rest j && nat_lt j i)

-- how many places rank before place i
unfoldable pub rank : ℕ → List ℕ → ℕ → ℕ
rank cents weights i = count_by (sooner (remainder cents weights) i) (places weights)

-- the whole part, and one cent more where the cents left over reach so far
unfoldable pub share : ℕ → List ℕ → ℕ → ℕ
share cents weights i = whole_part cents weights i + cond (nat_lt (rank cents weights i) (left_over cents weights)) 1 0

-- THE DIVISION
unfoldable pub divided : ℕ → List ℕ → List ℕ
divided cents weights = map (share cents weights) (places weights)

-- nothing can be divided: there are cents, and nothing weighs
abbrev pub indivisible : ℕ → List ℕ → Bool
indivisible cents weights = nat_lt 0 cents && sum weights == 0

-- the records after it: as they were where nothing can be divided, else each with its share
abbrev pub after_dividing : {S : Type 0} → (S → ℕ) → (S → ℕ → S) → ℕ → List S → List S
after_dividing weighs given cents records =
    cond (indivisible cents (map weighs records)) records (handed given records (divided cents (map weighs records)))
