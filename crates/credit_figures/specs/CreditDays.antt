-- Days whose credits are worked out by hand: of one Resource each, with its hours in real time.
use Rattle.std.specs.Prelude.{ℕ, ◌∷◌, replicate, ℤ, pos}
use Rattle.dayfile.specs.declared.record.ResourceRecord.{ResourceRecord}
use Rattle.dayfile.specs.declared.record.RealTimeRecord.{RealTimeRecord}
use Rattle.dayfile.specs.declared.record.Owner.{Owner}
use Rattle.dayfile.specs.declared.record.RealTimeHour.{RealTimeHour}
use Rattle.dayfile.specs.declared.record.Flag.TheVariants.{Economic}
use Rattle.dayfile.specs.declared.record.Event.TheVariants.{Off, PoolRun, Trip, IsoRestart}

abbrev owner : ℕ → ℕ → Owner
owner place parts = record { place = place; parts = parts }

abbrev hour : ℕ → ℕ → ℤ → RealTimeHour
hour d m z = record { dispatch_kwh = d; metered_kwh = m; lmp = z }

-- a Resource with a Minimum Run Time, a minimum down time, hours on line at midnight and Self-Scheduled hours
abbrev pub self_scheduling : ℕ → ℕ → ℕ → ℕ → ResourceRecord
self_scheduling run down on_line hours =
    record {
      region = 1;
      minimum_run_hours = run;
      minimum_down_hours = down;
      number = 7;
      start_up_cents = 0;
      no_load_cents = 0;
      prices = replicate 24 (pos 0);
      hours_on_line = on_line;
      owner_count = 1;
      self_scheduled = hours;
      owners = owner 0 1000000 ∷ replicate 7 (owner 0 0);
      cleared_kwh = replicate 24 0;
      lmps = replicate 24 (pos 0);
      flags = replicate 24 Economic;
    }

-- a Resource whose Minimum Run Time is 7 hours, with a Start-Up Fee of 10000 and a No-Load Fee of 1000, that offers at 4000
abbrev pub tripping : ResourceRecord
tripping =
    record {
      region = 2;
      minimum_run_hours = 7;
      minimum_down_hours = 0;
      number = 7;
      start_up_cents = 10000;
      no_load_cents = 1000;
      prices = replicate 24 (pos 4000);
      hours_on_line = 0;
      owner_count = 1;
      self_scheduled = 0;
      owners = owner 0 1000000 ∷ replicate 7 (owner 0 0);
      cleared_kwh = replicate 24 0;
      lmps = replicate 24 (pos 0);
      flags = replicate 24 Economic;
    }

-- in real time it runs three hours for the pool, trips, stays off, is restarted for the ISO and runs one hour more; it is told to
-- make 500 kWh, which is below its Economic Minimum of 1000, and makes 2000 at an LMP of 3500
abbrev pub tripping_day : RealTimeRecord
tripping_day =
    record {
      number = 7;
      economic_minimum_kwh = 1000;
      hours = replicate 24 (hour 500 2000 (pos 3500));
      events = PoolRun ∷ PoolRun ∷ PoolRun ∷ Trip ∷ Off ∷ IsoRestart ∷ PoolRun ∷ replicate 17 Off;
      flags = replicate 24 Economic;
    }

-- a Resource that clears 1000 kWh in hours 1, 3, 4 and 6, of which hour 3 is Self-Scheduled
abbrev pub starting : ℕ → ResourceRecord
starting on_line =
    record {
      region = 1;
      minimum_run_hours = 0;
      minimum_down_hours = 0;
      number = 7;
      start_up_cents = 500;
      no_load_cents = 10;
      prices = replicate 24 (pos 3000);
      hours_on_line = on_line;
      owner_count = 1;
      self_scheduled = 4;
      owners = owner 0 1000000 ∷ replicate 7 (owner 0 0);
      cleared_kwh = 1000 ∷ 0 ∷ 1000 ∷ 1000 ∷ 0 ∷ 1000 ∷ replicate 18 0;
      lmps = replicate 24 (pos 2000);
      flags = replicate 24 Economic;
    }

-- a real-time day of hours that all have the same figures, run for the pool in hours 1 to 3
abbrev pub three_hours : RealTimeHour → RealTimeRecord
three_hours x =
    record { number = 7; economic_minimum_kwh = 100; hours = replicate 24 x; events = PoolRun ∷ PoolRun ∷ PoolRun ∷ replicate 21 Off; flags = replicate 24 Economic }

abbrev pub metered : ℕ → ℕ → ℤ → RealTimeHour
metered dispatch_point kwh lmp = hour dispatch_point kwh lmp
