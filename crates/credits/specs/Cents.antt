-- Money: cents, and millicents, of which a thousand are a cent.
use Rattle.std.specs.Prelude.{ℕ, ◌+◌, ◌*◌, ◌/◌, ℤ, pos, negsuc}

-- MILLICENTS TO CENTS: the nearest cent, half a cent up; below 0 is 0
abbrev pub cents : ℤ → ℕ
cents (pos m) = (m + 500) / 1000
cents (negsuc m) = 0

-- cents in millicents
abbrev pub millicents : ℕ → ℕ
millicents c = 1000 * c
