-- The day-ahead credit of a Resource.
use Rattle.std.specs.Prelude.{◌≡◌, ℕ, zero, suc, ◌+◌, ◌-◌, ◌/◌, ◌%◌, ◌^◌, ◌<◌, ◌≤◌, Bool, true, false, cond, not, ◌&&◌, ◌||◌, ◌⊎◌, List, map, ℤ, pos, ◌+ℤ◌, ◌-ℤ◌, ◌*ℤ◌, ◌==◌, nat_lt, slice_index, slice_index_or}
use Rattle.std.specs.List.{range_with_len}
use Rattle.dayfile.specs.declared.record.ResourceRecord.{ResourceRecord}
use Rattle.dayfile.specs.Rules.{JustWhere}
use Rattle.std.specs.Bool.{then_some}
use Rattle.credits.specs.declared.share.HourShare.{HourShare}
use Rattle.credits.specs.Sums.{net}
use Rattle.credits.specs.Cents.{millicents}
use Rattle.credits.specs.Spells.{streak, Spell}
use Rattle.credits.specs.Allotments.{allotted}

-- hours are counted from 0 here: hour 0 is the day's first
abbrev pub price : ResourceRecord → ℕ → ℤ
price g h = slice_index_or g.prices h (pos 0)

abbrev pub cleared : ResourceRecord → ℕ → ℕ
cleared g h = slice_index g.cleared_kwh h

abbrev pub day_ahead_lmp : ResourceRecord → ℕ → ℤ
day_ahead_lmp g h = slice_index_or g.lmps h (pos 0)

-- an hour is Self-Scheduled if its bit is 1
abbrev pub self_scheduled : ResourceRecord → ℕ → Bool
self_scheduled g h = g.self_scheduled / 2 ^ h % 2 == 1

abbrev pub not_self_scheduled : ResourceRecord → ℕ → Bool
not_self_scheduled g h = not (self_scheduled g h)

-- an hour is scheduled if energy cleared in it and it is not Self-Scheduled
abbrev pub scheduled : ResourceRecord → ℕ → Bool
scheduled g h = nat_lt 0 (cleared g h) && not (self_scheduled g h)

-- whether the unit runs in the hour before: at midnight, if it has been on line
abbrev pub running_before : ResourceRecord → ℕ → Bool
running_before g zero = nat_lt 0 g.hours_on_line
running_before g (suc h) = scheduled g h || self_scheduled g h

-- the Start-Up Fee of an hour in cents: where a scheduled hour follows one in which the unit does not run
abbrev pub start_fee : ResourceRecord → ℕ → ℕ
start_fee g h = cond (running_before g h) 0 g.start_up_cents

-- what a scheduled hour costs at its offer, less what its energy is worth, in millicents
abbrev pub day_ahead_hour : ResourceRecord → ℕ → ℤ
day_ahead_hour g h =
    cond (scheduled g h)
    ((price g h *ℤ pos (cleared g h) +ℤ pos (millicents (g.no_load_cents + start_fee g h))) -ℤ day_ahead_lmp g h *ℤ pos (cleared g h))
    (pos 0)

-- the hours of a block of Self-Scheduled hours that ends before hour h, with those on line at midnight where it begins the day
abbrev pub block_hours : ResourceRecord → ℕ → ℕ
block_hours g h = streak (self_scheduled g) h + cond (streak (self_scheduled g) h == h) g.hours_on_line 0

-- a block of Self-Scheduled hours ends before hour h and is shorter than the Minimum Run Time
abbrev pub short_block : ResourceRecord → ℕ → Bool
short_block g h =
    not (self_scheduled g h) && (nat_lt 0 (streak (self_scheduled g) h) && nat_lt (block_hours g h) g.minimum_run_hours)

-- a block begins with hour h, and the gap behind an earlier one is shorter than the minimum down time
abbrev pub short_gap : ResourceRecord → ℕ → Bool
short_gap g h =
    self_scheduled g h
    && (nat_lt 0 (streak (not_self_scheduled g) h)
    && (nat_lt (streak (not_self_scheduled g) h) h && nat_lt (streak (not_self_scheduled g) h) g.minimum_down_hours))

-- whether no block and no gap that ends within the first n hours is too short
unfoldable pub qualifies : ResourceRecord → ℕ → Bool
qualifies g zero = true
qualifies g (suc h) = qualifies g h && not (short_block g h || short_gap g h)

-- THE DAY-AHEAD CREDIT in millicents
unfoldable pub day_ahead_millicents : ResourceRecord → ℤ
day_ahead_millicents g = cond (qualifies g 24) (net (day_ahead_hour g) 24) (pos 0)

-- the hours that share it, by cleared kWh
abbrev pub day_ahead_share : ResourceRecord → ℕ → HourShare
day_ahead_share g h = record { kwh = then_some (scheduled g h) (cleared g h); cents = 0 }

abbrev pub day_ahead_shares : ResourceRecord → List HourShare
day_ahead_shares g = map (day_ahead_share g) (range_with_len 0 24)

-- and the cents of each
unfoldable pub day_ahead_cents : ResourceRecord → List ℕ
day_ahead_cents g = allotted (day_ahead_millicents g) (day_ahead_shares g)

-- A GAP of n hours between two blocks of Self-Scheduled hours: none of them is, and the hours on either side are
pub record Gap (g : ResourceRecord) (first n : ℕ) : Type 0 where
  pub some : 0 < n
  pub behind_a_block : 0 < first
  pub before_a_block : first + n < 24
  pub between : (h : ℕ) → first ≤ h → h < first + n → self_scheduled g h ≡ false
  pub block_before : self_scheduled g (first - 1) ≡ true
  pub block_behind : self_scheduled g (first + n) ≡ true

-- each block of Self-Scheduled hours reaches hour 24, or is as long as the Minimum Run Time, counting the hours on line at
-- midnight where it begins with hour 1; each gap between two blocks is as long as the minimum down time
pub record SelfScheduleKept (g : ResourceRecord) : Type 0 where
  pub blocks : (first n : ℕ) → Spell (self_scheduled g) first n
      → (first + n ≡ 24) ⊎ (g.minimum_run_hours ≤ n + cond (first == 0) g.hours_on_line 0)
  pub gaps : (first n : ℕ) → Gap g first n → g.minimum_down_hours ≤ n

-- THE DAY-AHEAD CREDIT BY BLOCKS: the sum over the scheduled hours just where the blocks and gaps are long enough, else 0
pub record DayAheadByBlocks (g : ResourceRecord) : Type 0 where
  pub just_where : JustWhere (qualifies g 24 ≡ true) (SelfScheduleKept g)
  pub kept : SelfScheduleKept g → day_ahead_millicents g ≡ net (day_ahead_hour g) 24
  pub broken : (SelfScheduleKept g → ⊥) → day_ahead_millicents g ≡ pos 0
