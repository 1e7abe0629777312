-- The day-ahead hours of a Resource, one by one.
use Rattle.std.specs.Prelude.{ℕ, ◌/◌, ◌%◌, ◌^◌, ◌==◌, pos, slice_index, slice_index_or}
use Rattle.dayfile.specs.declared.record.ResourceRecord.{ResourceRecord}
use Rattle.dayfile.specs.declared.record.Flag.TheVariants.{Economic}
use Rattle.small_day.specs.declared.hours.DayAheadHour.{DayAheadHour}

-- hour k of a Resource, from 0: its figures of the record, and what bit k says of Self-Scheduling
abbrev pub hour_of : ResourceRecord → ℕ → DayAheadHour
hour_of g k =
    record {
      cleared_kwh = slice_index g.cleared_kwh k;
      price = slice_index_or g.prices k (pos 0);
      lmp = slice_index_or g.lmps k (pos 0);
      flag = slice_index_or g.flags k Economic;
      self_scheduled = g.self_scheduled / 2 ^ k % 2 == 1;
    }
