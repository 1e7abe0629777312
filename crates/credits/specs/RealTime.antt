-- The real-time credit of a Resource.
use Rattle.std.specs.Prelude.{ℕ, zero, suc, ◌+◌, min, max, Bool, false, cond, List, map, ℤ, pos, ◌+ℤ◌, ◌-ℤ◌, ◌*ℤ◌, Some, None, Option, ◌==◌, slice_index_or}
use Rattle.std.specs.List.{range_with_len}
use Rattle.dayfile.specs.declared.record.ResourceRecord.{ResourceRecord}
use Rattle.dayfile.specs.declared.record.RealTimeRecord.{RealTimeRecord}
use Rattle.dayfile.specs.declared.record.RealTimeHour.{RealTimeHour}
use Rattle.dayfile.specs.declared.record.Event.{Event}
use Rattle.dayfile.specs.declared.record.Event.TheVariants.{Off}
use Rattle.credits.specs.declared.commitment.Commitment.{Commitment}
use Rattle.std.specs.Bool.{then_some}
use Rattle.credits.specs.declared.share.HourShare.{HourShare}
use Rattle.credits.specs.Sums.{total, net}
use Rattle.credits.specs.Cents.{millicents}
use Rattle.credits.specs.Allotments.{allotted}
use Rattle.credits.specs.DayAhead.{price, cleared}
use Rattle.credits.specs.Commitments.{at_midnight, moved, closing, in_period}

abbrev pub no_hour : RealTimeHour
no_hour = record { dispatch_kwh = 0; metered_kwh = 0; lmp = pos 0 }

abbrev pub figures : RealTimeRecord → ℕ → RealTimeHour
figures r h = slice_index_or r.hours h no_hour

-- the event of an hour; behind the day's last hour it is off
abbrev pub event : RealTimeRecord → ℕ → Event
event r h = slice_index_or r.events h Off

-- the fee of a period that begins in an hour from down or tripped, in millicents: none where energy cleared
abbrev pub opening_fee : ResourceRecord → ℕ → ℕ
opening_fee g h = cond (cleared g h == 0) (millicents g.start_up_cents) 0

-- the commitment after the first n hours; None once an event may not follow
unfoldable pub commitment : ResourceRecord → RealTimeRecord → ℕ → Option Commitment
commitment g r zero = Some (at_midnight g.hours_on_line)
commitment g r (suc h) = elim (commitment g r h) [ None ↦ None | Some s ↦ moved (opening_fee g h) s (event r h) ]

-- whether an hour is eligible, and what fee it brings
abbrev pub eligible : ResourceRecord → RealTimeRecord → ℕ → Bool
eligible g r h = elim (commitment g r (h + 1)) [ None ↦ false | Some s ↦ in_period s ]

abbrev pub fee_brought : ResourceRecord → RealTimeRecord → ℕ → ℕ
fee_brought g r h = elim (commitment g r h) [ None ↦ 0 | Some s ↦ closing g.minimum_run_hours s (event r h) ]

-- the first of n hours, told from 1, whose event may not follow those before it
unfoldable pub forbidden_hour : ResourceRecord → RealTimeRecord → ℕ → Option ℕ
forbidden_hour g r zero = None
forbidden_hour g r (suc h) =
    elim (forbidden_hour g r h) [
      | Some x ↦ Some x
      | None ↦ elim (commitment g r (h + 1)) [ None ↦ Some (h + 1) | Some s ↦ None ]
    ]

-- the kWh that are paid at the offered price: the metered ones, but no more than the Dispatch Point, for which the Economic Minimum
-- stands where it is higher
abbrev pub paid_kwh : RealTimeRecord → ℕ → ℕ
paid_kwh r h = min (figures r h).metered_kwh (max (figures r h).dispatch_kwh r.economic_minimum_kwh)

-- what an eligible hour costs at its offer beyond the day-ahead energy, less what that energy is worth, in millicents
abbrev pub real_time_hour : ResourceRecord → RealTimeRecord → ℕ → ℤ
real_time_hour g r h =
    (price g h *ℤ (pos (paid_kwh r h) -ℤ pos (cleared g h)) +ℤ pos (cond (cleared g h == 0) (millicents g.no_load_cents) 0))
    -ℤ (figures r h).lmp *ℤ (pos (figures r h).metered_kwh -ℤ pos (cleared g h))

abbrev pub eligible_hour : ResourceRecord → RealTimeRecord → ℕ → ℤ
eligible_hour g r h = cond (eligible g r h) (real_time_hour g r h) (pos 0)

-- THE REAL-TIME CREDIT in millicents: all periods' fees, the last one's at the day's end, and the eligible hours
unfoldable pub real_time_millicents : ResourceRecord → RealTimeRecord → ℤ
real_time_millicents g r = pos (total (fee_brought g r) 25) +ℤ net (eligible_hour g r) 24

-- the hours that share it, by metered kWh
abbrev pub real_time_share : ResourceRecord → RealTimeRecord → ℕ → HourShare
real_time_share g r h = record { kwh = then_some (eligible g r h) (figures r h).metered_kwh; cents = 0 }

abbrev pub real_time_shares : ResourceRecord → RealTimeRecord → List HourShare
real_time_shares g r = map (real_time_share g r) (range_with_len 0 24)

-- and the cents of each
unfoldable pub real_time_cents : ResourceRecord → RealTimeRecord → List ℕ
real_time_cents g r = allotted (real_time_millicents g r) (real_time_shares g r)
