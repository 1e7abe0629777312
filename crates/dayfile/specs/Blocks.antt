-- A block read: its kind, and its parts of the file.
use Rattle.std.specs.Prelude.{◌≡◌, ℕ, List, slice_index}
use Rattle.dayfile.specs.declared.block.Block.{Block}
use Rattle.dayfile.specs.declared.block.Block.TheVariants.{Day as DayBlock, Participant as ParticipantBlock, Resource as ResourceBlock, RealTime as RealTimeBlock}
use Rattle.dayfile.specs.declared.record.Record.{Record}
use Rattle.dayfile.specs.declared.record.Record.TheVariants.{Day, Participant, Resource, RealTime}
use Rattle.dayfile.specs.Bytes.{value, each}
use Rattle.dayfile.specs.Records.{part, day_from, load_from, signed_from, owner_from, word_from, flag_from, hour_from, event_from}

-- what a block of each kind shows of the bytes: its letter is D, P, G or R
abbrev pub Shows : List ℕ → Block → Type 0
Shows b (DayBlock head) = (slice_index b 0 ≡ 68) × (head.now ≡ part 4 8 b)
Shows b (ParticipantBlock number loads weights) =
    (slice_index b 0 ≡ 80) × (number.now ≡ part 4 4 b) × (loads.now ≡ part 8 96 b) × (weights.now ≡ part 104 8 b)
Shows b (ResourceBlock region run down number fees prices status owners cleared lmps flags) =
    (slice_index b 0 ≡ 71) × (region ≡ slice_index b 1) × (run ≡ slice_index b 2) × (down ≡ slice_index b 3)
    × (number.now ≡ part 4 4 b) × (fees.now ≡ part 8 8 b) × (prices.now ≡ part 16 96 b) × (status.now ≡ part 112 8 b)
    × (owners.now ≡ part 120 48 b) × (cleared.now ≡ part 168 96 b) × (lmps.now ≡ part 264 96 b) × (flags.now ≡ part 360 24 b)
Shows b (RealTimeBlock number minimum hours events flags) =
    (slice_index b 0 ≡ 82) × (number.now ≡ part 4 4 b) × (minimum.now ≡ part 8 4 b)
    × (hours.now ≡ part 12 288 b) × (events.now ≡ part 300 24 b) × (flags.now ≡ part 324 24 b)

-- the record that a block's parts say
abbrev pub shown : Block → Record
shown (DayBlock head) = Day (day_from head.now)
shown (ParticipantBlock number loads weights) =
    Participant (record {
      number = value 0 4 number.now;
      loads = each load_from 12 8 loads.now;
      network_load = value 0 4 weights.now;
      scr_weight = value 4 4 weights.now;
    })
shown (ResourceBlock region run down number fees prices status owners cleared lmps flags) =
    Resource (record {
      region = region;
      minimum_run_hours = run;
      minimum_down_hours = down;
      number = value 0 4 number.now;
      start_up_cents = value 0 4 fees.now;
      no_load_cents = value 4 4 fees.now;
      prices = each signed_from 4 24 prices.now;
      hours_on_line = slice_index status.now 0;
      owner_count = slice_index status.now 1;
      self_scheduled = value 4 4 status.now;
      owners = each owner_from 6 8 owners.now;
      cleared_kwh = each word_from 4 24 cleared.now;
      lmps = each signed_from 4 24 lmps.now;
      flags = each flag_from 1 24 flags.now;
    })
shown (RealTimeBlock number minimum hours events flags) =
    RealTime (record {
      number = value 0 4 number.now;
      economic_minimum_kwh = value 0 4 minimum.now;
      hours = each hour_from 12 24 hours.now;
      events = each event_from 1 24 events.now;
      flags = each flag_from 1 24 flags.now;
    })
