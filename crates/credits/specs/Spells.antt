-- Spells: hours in a row that pass a test, as many as possible.
use Rattle.std.specs.Prelude.{◌≡◌, ℕ, zero, suc, ◌+◌, ◌-◌, ◌<◌, ◌≤◌, Bool, true, false, cond, ◌⊎◌}

-- how many hours in a row, right before hour h, pass a test
unfoldable pub streak : (ℕ → Bool) → ℕ → ℕ
streak test zero = 0
streak test (suc h) = cond (test h) (streak test h + 1) 0

-- A SPELL of n hours from an hour on: they pass the test, and neither the hour before nor the one behind does;
-- it may begin or end with the day
pub record Spell (test : ℕ → Bool) (first n : ℕ) : Type 0 where
  pub some : 0 < n
  pub within : first + n ≤ 24
  pub passing : (h : ℕ) → first ≤ h → h < first + n → test h ≡ true
  pub before : (first ≡ 0) ⊎ (test (first - 1) ≡ false)
  pub behind : (first + n ≡ 24) ⊎ (test (first + n) ≡ false)
