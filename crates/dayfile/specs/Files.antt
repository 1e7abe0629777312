-- The file: what stands before each block, and the first fault.
use Rattle.std.specs.Prelude.{ℕ, zero, suc, ◌+◌, ◌*◌, ◌/◌, ◌%◌, Bool, true, cond, not, ◌&&◌, ◌||◌, List, length, take, drop, is_some, Some, None, Ok, Err, Option, Result, ◌==◌, nat_le, nat_lt, slice_index}
use Rattle.dayfile.specs.declared.fault.Fault.{Fault}
use Rattle.dayfile.specs.declared.fault.Fault.TheVariants.{Length, Check, Order, Field, Rising, Owners, Counts}
use Rattle.dayfile.specs.Bytes.{value, weighed}
use Rattle.dayfile.specs.Layout.{first_fault, earlier, table_for}
use Rattle.dayfile.specs.Owners.{owners_kept}
use Rattle.dayfile.specs.Records.{resource_of}

-- block k of a file, its kind and its number
abbrev pub block : List ℕ → ℕ → List ℕ
block f k = take 512 (drop (512 * k) f)

abbrev pub kind : List ℕ → ℕ → ℕ
kind f k = slice_index (block f k) 0

abbrev pub number_in : List ℕ → ℕ → ℕ
number_in f k = value 4 4 (block f k)

-- of the first k blocks: how many are of a kind, and the number of the last one of that kind
unfoldable pub tally : ℕ → List ℕ → ℕ → ℕ
tally c f zero = 0
tally c f (suc k) = tally c f k + cond (kind f k == c) 1 0

unfoldable pub latest : ℕ → List ℕ → ℕ → Option ℕ
latest c f zero = None
latest c f (suc k) = cond (kind f k == c) (Some (number_in f k)) (latest c f k)

-- the kind and the number of the block right before block k
unfoldable pub kind_before : List ℕ → ℕ → Option ℕ
kind_before f zero = None
kind_before f (suc k) = Some (kind f k)

unfoldable pub number_before : List ℕ → ℕ → ℕ
number_before f zero = 0
number_before f (suc k) = number_in f k

-- what stands before a block: the letter and the number of the block right before it, how many participants and Resources
-- there are before it, and the number of the last one of each
pub record Standing : Type 0 where
  pub kind : Option ℕ
  pub number : ℕ
  pub participants : ℕ
  pub resources : ℕ
  pub participant : Option ℕ
  pub resource : Option ℕ

-- what stands before block k
abbrev pub standing : List ℕ → ℕ → Standing
standing f k =
    record {
      kind = kind_before f k;
      number = number_before f k;
      participants = tally 80 f k;
      resources = tally 71 f k;
      participant = latest 80 f k;
      resource = latest 71 f k;
    }

-- nothing stands before the first block
abbrev pub nothing : Standing
nothing = record { kind = None; number = 0; participants = 0; resources = 0; participant = None; resource = None }

-- what stands before the block behind b
abbrev pub after : Standing → List ℕ → Standing
after s b =
    record {
      kind = Some (slice_index b 0);
      number = value 4 4 b;
      participants = s.participants + cond (slice_index b 0 == 80) 1 0;
      resources = s.resources + cond (slice_index b 0 == 71) 1 0;
      participant = cond (slice_index b 0 == 80) (Some (value 4 4 b)) s.participant;
      resource = cond (slice_index b 0 == 71) (Some (value 4 4 b)) s.resource;
    }

-- a block's check is the sum over its bytes
abbrev pub checked : List ℕ → Bool
checked b = value 508 4 b == weighed 0 (take 508 b)

-- D stands first and nowhere else, P after D or P, R after G, and G anywhere behind D
abbrev pub in_order : Option ℕ → ℕ → Bool
in_order None c = c == 68
in_order (Some before) c = (c == 80 && (before == 68 || before == 80)) || (c == 71 || (c == 82 && before == 71))

-- R bears the number of the G before it
abbrev pub untied : Standing → List ℕ → Option ℕ
untied s b = cond (slice_index b 0 == 82 && not (value 4 4 b == s.number)) (Some 4) None

-- a number is above the last one of its kind
abbrev pub above : Option ℕ → ℕ → Bool
above None n = true
above (Some last) n = nat_lt last n

abbrev pub rising : Standing → List ℕ → Bool
rising s b =
    cond (slice_index b 0 == 80) (above s.participant (value 4 4 b)) (cond (slice_index b 0 == 71) (above s.resource (value 4 4 b)) true)

-- a Resource's owners keep their rules, places lying below a limit
abbrev pub owned : ℕ → List ℕ → Bool
owned limit b = cond (slice_index b 0 == 71) (owners_kept limit (resource_of b).owner_count (resource_of b).owners) true

-- the first fault of block k, by what its rules say in their order
abbrev pub judged : ℕ → Bool → Bool → Option ℕ → Bool → Bool → Option Fault
judged k check order field rise owners =
    cond check
    (cond order
    (elim field [
      | Some p ↦ Some (Field k p)
      | None ↦ cond rise (cond owners None (Some (Owners k))) (Some (Rising k))
    ])
    (Some (Order k)))
    (Some (Check k))

-- the first fault of block k behind what stands before it
abbrev pub block_fault : Standing → ℕ → List ℕ → Option Fault
block_fault s k b =
    judged k (checked b) (in_order s.kind (slice_index b 0)) (earlier (first_fault (table_for (slice_index b 0)) b) (untied s b)) (rising s b) (owned s.participants b)

-- a block by itself: any of the four kinds, any number within its limits, owners' places below 48
abbrev pub known : ℕ → Bool
known c = c == 68 || (c == 80 || (c == 71 || c == 82))

abbrev pub lone_fault : List ℕ → Option Fault
lone_fault b = judged 0 (checked b) (known (slice_index b 0)) (first_fault (table_for (slice_index b 0)) b) true (owned 48 b)

-- the first of two faults
abbrev pub or_else : Option Fault → Option Fault → Option Fault
or_else None g = g
or_else (Some f) g = Some f

-- the first fault of n blocks from block k on
unfoldable pub blocks_fault : List ℕ → ℕ → ℕ → Option Fault
blocks_fault f k zero = None
blocks_fault f k (suc n) = or_else (block_fault (standing f k) k (block f k)) (blocks_fault f (k + 1) n)

abbrev pub blocks : List ℕ → ℕ
blocks f = length f / 512

abbrev pub well_sized : List ℕ → Bool
well_sized f = not (length f == 0) && (length f % 512 == 0 && nat_le (length f) 65536)

-- what stands behind all blocks of a file, or their first fault
abbrev pub behind : List ℕ → Result Standing Fault
behind f = elim (blocks_fault f 0 (blocks f)) [ Some x ↦ Err x | None ↦ Ok (standing f (blocks f)) ]

-- the counts are those that D tells
abbrev pub counted : List ℕ → Bool
counted f = tally 80 f (blocks f) == slice_index f 10 && tally 71 f (blocks f) == slice_index f 11

abbrev pub end_fault : List ℕ → Option Fault
end_fault f = cond (counted f) None (Some Counts)

-- THE VERDICT on a file: its first fault, if any
abbrev pub verdict : List ℕ → Option Fault
verdict f = cond (well_sized f) (or_else (blocks_fault f 0 (blocks f)) (end_fault f)) (Some Length)

abbrev pub accepted : List ℕ → Bool
accepted f = not (is_some (verdict f))

-- the answer that a verdict gives
abbrev pub answer : Option Fault → Result (Unit {0}) Fault
answer None = Ok tt
answer (Some f) = Err f
