-- The small day: three participants and one Resource; and a record of each other kind with a number of its own in each field.
use Rattle.std.specs.Prelude.{ℕ, List, [], ◌∷◌, ◌++◌, replicate, ℤ, pos, negsuc}
use Rattle.dayfile.specs.declared.record.Record.{Record}
use Rattle.dayfile.specs.declared.record.Record.TheVariants.{Day, Participant, Resource}
use Rattle.dayfile.specs.declared.record.DayRecord.{DayRecord}
use Rattle.dayfile.specs.declared.record.ParticipantRecord.{ParticipantRecord}
use Rattle.dayfile.specs.declared.record.ResourceRecord.{ResourceRecord}
use Rattle.dayfile.specs.declared.record.RealTimeRecord.{RealTimeRecord}
use Rattle.dayfile.specs.declared.record.Load.{Load}
use Rattle.dayfile.specs.declared.record.Owner.{Owner}
use Rattle.dayfile.specs.declared.record.RealTimeHour.{RealTimeHour}
use Rattle.dayfile.specs.declared.record.Flag.TheVariants.{Economic, Lscpr, Var, Scr}
use Rattle.dayfile.specs.declared.record.Event.TheVariants.{Off, Trip, OwnRestart}

abbrev load : ℕ → ℕ → ℕ → Load
load a r d = record { day_ahead = a; real_time = r; deviation = d }

abbrev owner : ℕ → ℕ → Owner
owner place parts = record { place = place; parts = parts }

abbrev hour : ℕ → ℕ → ℤ → RealTimeHour
hour d m z = record { dispatch_kwh = d; metered_kwh = m; lmp = z }

-- a value in the first hour, one in the last, and another in all between
abbrev first_and_last : {A : Type 0} → A → A → A → List A
first_and_last a z x = a ∷ (replicate 22 x ++ (z ∷ []))

-- values in hours 10 and 11, another in all others
abbrev ten_and_eleven : {A : Type 0} → A → A → A → List A
ten_and_eleven a b x = replicate 9 x ++ (a ∷ b ∷ replicate 13 x)

-- date 20000, version 1, three participants, one Resource
abbrev pub small_header : DayRecord
small_header = record { date = 20000; version = 1; participants = 3; resources = 1 }

-- a participant with day-ahead loads in regions 1 and 2
abbrev pub small_participant : ℕ → ℕ → ℕ → ParticipantRecord
small_participant number one two =
    record { number = number; loads = load one 0 0 ∷ load two 0 0 ∷ replicate 6 (load 0 0 0); network_load = 0; scr_weight = 0 }

-- Resource 7 of region 1, owned 600000 and 400000 by places 0 and 1, with cleared hours 10 and 11
abbrev pub small_resource : ResourceRecord
small_resource =
    record {
      region = 1;
      minimum_run_hours = 0;
      minimum_down_hours = 0;
      number = 7;
      start_up_cents = 10000;
      no_load_cents = 1000;
      prices = ten_and_eleven (pos 4000) (pos 4000) (pos 0);
      hours_on_line = 0;
      owner_count = 2;
      self_scheduled = 0;
      owners = owner 0 600000 ∷ owner 1 400000 ∷ replicate 6 (owner 0 0);
      cleared_kwh = ten_and_eleven 100000 50000 0;
      lmps = ten_and_eleven (pos 3500) (pos 3500) (pos 0);
      flags = ten_and_eleven Economic Lscpr Economic;
    }

abbrev pub small_day : List Record
small_day =
    Day small_header
    ∷ Participant (small_participant 101 0 1000) ∷ Participant (small_participant 102 1000 0) ∷ Participant (small_participant 103 500 500)
    ∷ Resource small_resource ∷ []

-- records with a number of its own in each field that is looked at
abbrev pub some_participant : ParticipantRecord
some_participant =
    record { number = 5; loads = load 11 12 13 ∷ (replicate 6 (load 0 0 0) ++ (load 81 82 83 ∷ [])); network_load = 91; scr_weight = 92 }

abbrev pub some_resource : ResourceRecord
some_resource =
    record {
      region = 3;
      minimum_run_hours = 4;
      minimum_down_hours = 5;
      number = 6;
      start_up_cents = 7;
      no_load_cents = 8;
      prices = first_and_last (negsuc 8) (pos 10) (pos 0);
      hours_on_line = 11;
      owner_count = 2;
      self_scheduled = 12;
      owners = owner 2 600000 ∷ owner 3 400000 ∷ replicate 6 (owner 0 0);
      cleared_kwh = first_and_last 13 14 0;
      lmps = first_and_last (pos 15) (negsuc 15) (pos 0);
      flags = first_and_last Var Lscpr Economic;
    }

abbrev pub some_real_time : RealTimeRecord
some_real_time =
    record {
      number = 7;
      economic_minimum_kwh = 8;
      hours = first_and_last (hour 9 10 (negsuc 10)) (hour 12 13 (pos 14)) (hour 0 0 (pos 0));
      events = first_and_last Trip OwnRestart Off;
      flags = first_and_last Scr Var Economic;
    }
