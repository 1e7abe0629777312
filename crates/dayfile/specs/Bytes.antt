-- Numbers in bytes, the check of a block, and repeated parts.
use Rattle.std.specs.Prelude.{ℕ, zero, suc, ◌+◌, ◌*◌, ◌/◌, ◌%◌, List, [], ◌∷◌, ◌++◌, length, take, drop, replicate}

-- the number that bytes write, the lowest byte first
unfoldable pub number : List ℕ → ℕ
number [] = 0
number (b ∷ bs) = b + 256 * number bs

-- the w bytes that write a number
unfoldable pub digits : ℕ → ℕ → List ℕ
digits zero n = []
digits (suc w) n = n % 256 ∷ digits w (n / 256)

-- the number in the w bytes from a place on
abbrev pub value : ℕ → ℕ → List ℕ → ℕ
value at w bs = number (take w (drop at bs))

-- the sum of (i + 1) times byte i, the first byte being byte i
unfoldable pub weighed : ℕ → List ℕ → ℕ
weighed i [] = 0
weighed i (b ∷ bs) = (i + 1) * b + weighed (i + 1) bs

abbrev pub zeros : ℕ → List ℕ
zeros n = replicate n 0

-- n parts of w bytes each, one after the other, as `read` reads one at the front of a list
unfoldable pub each : {A : Type 0} → (List ℕ → A) → ℕ → ℕ → List ℕ → List A
each read w zero bs = []
each read w (suc n) bs = read bs ∷ each read w n (drop w bs)

-- ys written over xs from place i on
abbrev pub laid : List ℕ → ℕ → List ℕ → List ℕ
laid xs i ys = take i xs ++ (ys ++ drop (i + length ys) xs)
