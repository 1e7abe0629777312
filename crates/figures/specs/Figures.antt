-- The joint list of worked figures.
use Rattle.std.specs.Prelude.{◌≡◌, ℕ, Bool, true, List, [], ◌∷◌, ◌++◌}
use Rattle.std.specs.List.{flat_map}
use Rattle.dayfile.specs.declared.record.Record.{Record}
use Rattle.dayfile.specs.declared.record.Record.TheVariants.{Day, Participant, Resource, RealTime}
use Rattle.dayfile.specs.Bytes.{value, weighed}
use Rattle.dayfile.specs.Records.{day_body, encode}
use Rattle.dayfile.specs.Files.{accepted}
use Rattle.division.specs.Division.{divided}
use Rattle.figures.specs.SmallDay.{small_header, small_participant, small_resource, small_day, some_participant, some_resource, some_real_time}

-- a figure: a number or numbers that are worked out and what they come to, or a test that passes
pub data Figure : Type 0 where
  is : ℕ → ℕ → Figure
  are : List ℕ → List ℕ → Figure
  passes : Bool → Figure

abbrev pub AllHold : List Figure → Type 0
AllHold [] = Unit {0}
AllHold (is a b ∷ fs) = (a ≡ b) × AllHold fs
AllHold (are a b ∷ fs) = (a ≡ b) × AllHold fs
AllHold (passes t ∷ fs) = (t ≡ true) × AllHold fs

-- the check in a record's block
abbrev check_of : Record → ℕ
check_of r = value 508 4 (encode r)

-- the number in w bytes of a record's block
abbrev at : Record → ℕ → ℕ → ℕ
at r p w = value p w (encode r)

-- the check of the small day's D block, worked out over its bytes and read off its block; the other blocks' checks; the day is accepted
abbrev small_figures : List Figure
small_figures =
    is (weighed 0 (day_body small_header)) 750
    ∷ is (check_of (Day small_header)) 750
    ∷ is (check_of (Participant (small_participant 101 0 1000))) 5523
    ∷ is (check_of (Participant (small_participant 102 1000 0))) 2708
    ∷ is (check_of (Participant (small_participant 103 500 500))) 7947
    ∷ is (check_of (Resource small_resource)) 304378
    ∷ passes (accepted (flat_map encode small_day))
    ∷ []

-- where each field of a block stands: records with a number of its own in each
abbrev participant_figures : Record → List Figure
participant_figures p =
    is (at p 0 1) 80 ∷ is (at p 4 4) 5
    ∷ is (at p 8 4) 11 ∷ is (at p 12 4) 12 ∷ is (at p 16 4) 13  -- region 1: day-ahead load, real-time load, deviation
    ∷ is (at p 92 4) 81 ∷ is (at p 96 4) 82 ∷ is (at p 100 4) 83  -- region 8
    ∷ is (at p 104 4) 91 ∷ is (at p 108 4) 92  -- network load, SCR weight
    ∷ []

abbrev resource_figures : Record → List Figure
resource_figures g =
    is (at g 0 1) 71 ∷ is (at g 1 1) 3 ∷ is (at g 2 1) 4 ∷ is (at g 3 1) 5 ∷ is (at g 4 4) 6 ∷ is (at g 8 4) 7 ∷ is (at g 12 4) 8
    ∷ is (at g 16 4) 4294967287 ∷ is (at g 108 4) 10  -- prices -9 and 10
    ∷ is (at g 112 1) 11 ∷ is (at g 113 1) 2 ∷ is (at g 116 4) 12
    ∷ is (at g 120 2) 2 ∷ is (at g 122 4) 600000 ∷ is (at g 126 2) 3 ∷ is (at g 128 4) 400000
    ∷ is (at g 168 4) 13 ∷ is (at g 260 4) 14  -- cleared kWh
    ∷ is (at g 264 4) 15 ∷ is (at g 356 4) 4294967280  -- day-ahead LMPs 15 and -16
    ∷ is (at g 360 1) 2 ∷ is (at g 383 1) 1  -- day-ahead flags
    ∷ []

abbrev real_time_figures : Record → List Figure
real_time_figures r =
    is (at r 0 1) 82 ∷ is (at r 4 4) 7 ∷ is (at r 8 4) 8
    ∷ is (at r 12 4) 9 ∷ is (at r 16 4) 10 ∷ is (at r 20 4) 4294967285  -- hour 1: Desired Dispatch Point, metered kWh, LMP -11
    ∷ is (at r 288 4) 12 ∷ is (at r 292 4) 13 ∷ is (at r 296 4) 14  -- hour 24
    ∷ is (at r 300 1) 3 ∷ is (at r 323 1) 5  -- events
    ∷ is (at r 324 1) 3 ∷ is (at r 347 1) 2  -- real-time flags
    ∷ []

-- cents divided over weights: 100 over 1, 1, 1, and 1 over 1, 2
abbrev division_figures : List Figure
division_figures =
    are (divided 100 (1 ∷ 1 ∷ 1 ∷ [])) (34 ∷ 33 ∷ 33 ∷ [])
    ∷ are (divided 1 (1 ∷ 2 ∷ [])) (0 ∷ 1 ∷ [])
    ∷ []

abbrev pub figures : List Figure
figures =
    division_figures
    ++ (small_figures
    ++ (participant_figures (Participant some_participant) ++ (resource_figures (Resource some_resource) ++ real_time_figures (RealTime some_real_time))))

-- THE WORKED FIGURES HOLD
abbrev pub FiguresHold : Type 0
FiguresHold = AllHold figures
