-- The limits of an hour, from those of its record.
use Rattle.std.proofs.Common.{ℕ, ◌<◌, ◌≤◌, List, get_or, arith}
use Rattle.std.proofs.ByRecursion.{All-get_or}
use Rattle.dayfile.specs.declared.record.ResourceRecord.{ResourceRecord}
use Rattle.dayfile.specs.declared.record.RealTimeRecord.{RealTimeRecord}
use Rattle.dayfile.specs.Keeping.{Energy, Row, HourKept, ResourceKept, RealTimeKept}
use Rattle.credits.specs.DayAhead.{cleared}
use Rattle.credits.specs.RealTime.{figures, no_hour}

-- what holds of each of a row of 24 holds of the one at an hour
pub row_at : {A : Type 0} (P : A → Type 0) (xs : List A) (d : A) (h : ℕ) → Row 24 P xs → h < 24 → P (get_or xs h d)
row_at P xs d h row l = All-get_or P xs h d (omega (arith, row.0)) row.1

module _ {limit : ℕ} {g : ResourceRecord} (k : ResourceKept limit g) (h : ℕ) (l : h < 24) where
  pub cleared_kept : cleared g h ≤ 2000000
  cleared_kept = row_at Energy g.cleared_kwh 0 h k.cleared l

pub figures_kept : {r : RealTimeRecord} → RealTimeKept r → (h : ℕ) → h < 24 → HourKept (figures r h)
figures_kept {r} k h l = row_at HourKept r.hours no_hour h k.hours l
