-- Sums over the first hours, places or pools.
use Rattle.std.specs.Prelude.{ℕ, zero, suc, ◌+◌, ℤ, pos, ◌+ℤ◌}

-- the sum of amounts over 0, 1 and so on, n of them
unfoldable pub total : (ℕ → ℕ) → ℕ → ℕ
total f zero = 0
total f (suc n) = total f n + f n

-- the same of amounts that may be below 0
unfoldable pub net : (ℕ → ℤ) → ℕ → ℤ
net f zero = pos 0
net f (suc n) = net f n +ℤ f n
