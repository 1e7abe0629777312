-- Hours and owners as weighted records.
use Rattle.std.specs.Prelude.{ℕ, ◌<◌, ◌≤◌, min, Bool, true, false, cond}
use Rattle.std.proofs.Common.{arith}

-- a weight, cut to the most that a weighted record may weigh
abbrev pub cut : ℕ → ℕ
cut n = min n 100000000

pub cut_light : (n : ℕ) → cut n ≤ 100000000
cut_light n = omega arith

pub cut_if_light : (b : Bool) (n : ℕ) → cond b (cut n) 0 ≤ 100000000
cut_if_light true n = cut_light n
cut_if_light false n = omega arith

-- a place, cut to the last of 48
abbrev pub placed_at : ℕ → ℕ
placed_at n = min n 47

pub placed_below : (n : ℕ) → placed_at n < 48
placed_below n = omega arith
