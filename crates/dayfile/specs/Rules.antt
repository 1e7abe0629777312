-- The rules for files, what breaks each of them, and the order in which they are looked at.
use Rattle.std.specs.Prelude.{◌≡◌, ℕ, zero, suc, ◌%◌, ◌<◌, ◌≤◌, ◌⊎◌, List, length, take, Some, None, Ok, Err, Option, Result, ◌≢◌, slice_index}
use Rattle.dayfile.specs.declared.fault.Fault.{Fault}
use Rattle.dayfile.specs.declared.fault.Fault.TheVariants.{Length, Check, Order, Field, Rising, Owners, Counts}
use Rattle.dayfile.specs.declared.record.Record.{Record}
use Rattle.dayfile.specs.Faults.{number_of}
use Rattle.dayfile.specs.Bytes.{value, weighed}
use Rattle.dayfile.specs.Layout.{Faulty, table_for}
use Rattle.dayfile.specs.Owners.{Owned}
use Rattle.dayfile.specs.Records.{resource_of, encode}
use Rattle.dayfile.specs.Keeping.{Keeps}
use Rattle.dayfile.specs.Files.{block, blocks, kind, number_in, tally}

-- the rules for one block: its check, its kind and order, the field that starts at a byte, its number, its owners
pub data Rule : Type 0 where
  check : Rule
  order : Rule
  field : ℕ → Rule
  number : Rule
  owners : Rule

-- the rules for a file: its length, each rule for each block, its counts
pub data Law : Type 0 where
  size : Law
  at : ℕ → Rule → Law
  counts : Law

-- the refusal for a broken rule
abbrev pub refusal : Law → Fault
refusal size = Length
refusal (at k check) = Check k
refusal (at k order) = Order k
refusal (at k (field p)) = Field k p
refusal (at k number) = Rising k
refusal (at k owners) = Owners k
refusal counts = Counts

-- D stands first and nowhere else, P right behind D or P, G anywhere behind the first block, R right behind G
abbrev pub Ordered : List ℕ → ℕ → Type 0
Ordered f zero = kind f 0 ≡ 68
Ordered f (suc j) =
    ((kind f (suc j) ≡ 80) × ((kind f j ≡ 68) ⊎ (kind f j ≡ 80)))
    ⊎ ((kind f (suc j) ≡ 71) ⊎ ((kind f (suc j) ≡ 82) × (kind f j ≡ 71)))

-- block k is an R block whose number is not that of the block before it
abbrev pub Untied : List ℕ → ℕ → Type 0
Untied f zero = ⊥
Untied f (suc j) = (kind f (suc j) ≡ 82) × (number_in f (suc j) ≢ number_in f j)

-- block j is the last one before block k that is of block k's kind
abbrev pub Last : List ℕ → ℕ → ℕ → Type 0
Last f j k = (j < k) × (kind f j ≡ kind f k) × ((i : ℕ) → j < i → i < k → kind f i ≢ kind f k)

-- WHAT BREAKS A RULE in block k
abbrev pub Breaks : List ℕ → ℕ → Rule → Type 0
Breaks f k check = value 508 4 (block f k) ≡ weighed 0 (take 508 (block f k)) → ⊥
Breaks f k order = Ordered f k → ⊥
Breaks f k (field p) = Faulty (table_for (kind f k)) (block f k) p ⊎ ((p ≡ 4) × Untied f k)
Breaks f k number = ((kind f k ≡ 80) ⊎ (kind f k ≡ 71)) × ((j : ℕ) × (Last f j k × (number_in f k ≤ number_in f j)))
Breaks f k owners = (kind f k ≡ 71) × (Owned (tally 80 f k) (resource_of (block f k)).owner_count (resource_of (block f k)).owners → ⊥)

-- WHAT BREAKS A RULE in a file
abbrev pub Broken : List ℕ → Law → Type 0
Broken f size = (length f ≡ 0) ⊎ ((length f % 512 ≢ 0) ⊎ (65536 < length f))
Broken f (at k r) = (k < blocks f) × Breaks f k r
Broken f counts = (tally 80 f (blocks f) ≢ slice_index f 10) ⊎ (tally 71 f (blocks f) ≢ slice_index f 11)

-- the order of the rules for a block: by the refusals' numbers, and fields by the byte at which they start
abbrev pub turn : Rule → ℕ
turn r = number_of (refusal (at 0 r))

abbrev pub byte : Rule → ℕ
byte check = 0
byte order = 0
byte (field p) = p
byte number = 0
byte owners = 0

abbrev pub Sooner : Rule → Rule → Type 0
Sooner q r = (turn q < turn r) ⊎ ((turn q ≡ turn r) × (byte q < byte r))

-- THE ORDER OF THE RULES: the length, then block by block, and the counts at the end
abbrev pub Earlier : Law → Law → Type 0
Earlier size size = ⊥
Earlier size (at k r) = Unit {0}
Earlier size counts = Unit {0}
Earlier (at j q) size = ⊥
Earlier (at j q) (at k r) = (j < k) ⊎ ((j ≡ k) × Sooner q r)
Earlier (at j q) counts = Unit {0}
Earlier counts size = ⊥
Earlier counts (at k r) = ⊥
Earlier counts counts = ⊥

-- a rule is broken, and no rule that stands earlier in the order is
abbrev pub FirstBroken : List ℕ → Law → Type 0
FirstBroken f l = Broken f l × ((m : Law) → Earlier m l → Broken f m → ⊥)

-- WHAT BREAKS A RULE in a block by itself: any of the four letters may stand there, and any number within its limits
abbrev pub BreaksAlone : List ℕ → Rule → Type 0
BreaksAlone b check = value 508 4 b ≡ weighed 0 (take 508 b) → ⊥
BreaksAlone b order = (slice_index b 0 ≡ 68) ⊎ ((slice_index b 0 ≡ 80) ⊎ ((slice_index b 0 ≡ 71) ⊎ (slice_index b 0 ≡ 82))) → ⊥
BreaksAlone b (field p) = Faulty (table_for (slice_index b 0)) b p
BreaksAlone b number = ⊥
BreaksAlone b owners = (slice_index b 0 ≡ 71) × (Owned 48 (resource_of b).owner_count (resource_of b).owners → ⊥)

-- a rule for a block is broken, and none that comes sooner is
abbrev pub First : (Rule → Type 0) → Rule → Type 0
First B r = B r × ((q : Rule) → Sooner q r → B q → ⊥)

-- each follows from the other
abbrev pub JustWhere : Type 0 → Type 0 → Type 0
JustWhere P Q = (P → Q) × (Q → P)

-- A FILE IS REFUSED UNDER A NUMBER AT A PLACE just where that rule is broken there and no earlier one is,
-- and accepted just where no rule is broken
pub record Ruled (f : List ℕ) (answer : Result (Unit {0}) Fault) : Type 0 where
  pub refused : (l : Law) → JustWhere (answer ≡ Err (refusal l)) (FirstBroken f l)
  pub accepted : JustWhere (answer ≡ Ok tt) ((l : Law) → Broken f l → ⊥)

-- the fault in an answer, if it is refused
abbrev pub fault_in : {A : Type 0} → Result A Fault → Option Fault
fault_in (Ok x) = None
fault_in (Err f) = Some f

-- A BLOCK BY ITSELF IS REFUSED just for the first rule that it breaks, and read just where it breaks none,
-- which is where it is the block of a record that keeps its limits, owners' places lying below 48
pub record RuledAlone (b : List ℕ) (fault : Option Fault) : Type 0 where
  pub refused : (r : Rule) → JustWhere (fault ≡ Some (refusal (at 0 r))) (First (BreaksAlone b) r)
  pub unbroken : JustWhere (fault ≡ None) ((r : Rule) → BreaksAlone b r → ⊥)
  pub encodes : JustWhere (fault ≡ None) ((r : Record) × (Keeps 48 r × (encode r ≡ b)))
