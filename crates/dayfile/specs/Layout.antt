-- The fields of each kind of block, their limits, and the first faulty field.
use Rattle.std.specs.Prelude.{◌≡◌, ℕ, zero, suc, ◌+◌, ◌*◌, ◌<◌, min, Bool, true, false, cond, ◌&&◌, ◌||◌, ◌⊎◌, List, [], ◌∷◌, Some, None, Option, ◌==◌, nat_le}
use Rattle.dayfile.specs.declared.layout.Limits.{Limits}
use Rattle.dayfile.specs.declared.layout.Limits.TheVariants.{Unnamed, Whole, Signed}
use Rattle.dayfile.specs.declared.layout.Entry.{Entry}
use Rattle.dayfile.specs.Bytes.{value}

-- what a field may hold; a number in two's complement is from -most to most
abbrev pub allows : Limits → ℕ → Bool
allows Unnamed n = n == 0
allows (Whole least most) n = nat_le least n && nat_le n most
allows (Signed most) n = nat_le n most || nat_le 4294967296 (n + most)

-- count fields in a row, the first at start
abbrev pub fields : ℕ → ℕ → ℕ → Limits → Entry
fields start count width limits = record { start = start; stride = width; count = count; width = width; limits = limits }

abbrev pub field : ℕ → ℕ → ℕ → ℕ → Entry
field start width least most = fields start 1 width (Whole least most)

-- a field of four bytes in each of 24 hours that take 12 bytes each
abbrev pub hourly : ℕ → Limits → Entry
hourly start limits = record { start = start; stride = 12; count = 24; width = 4; limits = limits }

-- count unnamed bytes, each a field of its own
abbrev pub unnamed : ℕ → ℕ → Entry
unnamed start count = fields start count 1 Unnamed

abbrev pub day_table : List Entry
day_table =
    unnamed 1 3
    ∷ field 4 4 1 60000  -- date
    ∷ field 8 2 1 999  -- version
    ∷ field 10 1 1 48  -- count of participants
    ∷ field 11 1 0 24  -- count of Resources
    ∷ unnamed 12 496 ∷ []

abbrev pub participant_table : List Entry
participant_table =
    unnamed 1 3
    ∷ field 4 4 1 999999  -- participant
    ∷ fields 8 24 4 (Whole 0 10000000)  -- for each region: day-ahead load, real-time load, deviation
    ∷ field 104 4 0 10000000  -- network load
    ∷ field 108 4 0 10000000  -- SCR weight
    ∷ unnamed 112 396 ∷ []

-- the owners, bytes 120 to 167, have a rule of their own
abbrev pub resource_table : List Entry
resource_table =
    field 1 1 1 8  -- region
    ∷ field 2 1 0 24  -- Minimum Run Time
    ∷ field 3 1 0 24  -- minimum down time
    ∷ field 4 4 1 999999  -- Resource
    ∷ field 8 4 0 100000000  -- Start-Up Fee
    ∷ field 12 4 0 10000000  -- No-Load Fee
    ∷ fields 16 24 4 (Signed 200000)  -- prices
    ∷ field 112 1 0 255  -- hours on line at midnight
    ∷ field 113 1 1 8  -- count of owners
    ∷ unnamed 114 2
    ∷ field 116 4 0 16777215  -- Self-Scheduled hours
    ∷ fields 168 24 4 (Whole 0 2000000)  -- cleared kWh
    ∷ fields 264 24 4 (Signed 200000)  -- day-ahead LMPs
    ∷ fields 360 24 1 (Whole 0 2)  -- day-ahead flags
    ∷ unnamed 384 124 ∷ []

abbrev pub real_time_table : List Entry
real_time_table =
    unnamed 1 3
    ∷ field 4 4 1 999999  -- Resource
    ∷ field 8 4 0 2000000  -- Economic Minimum
    ∷ hourly 12 (Whole 0 2000000)  -- Desired Dispatch Point
    ∷ hourly 16 (Whole 0 2000000)  -- metered kWh
    ∷ hourly 20 (Signed 200000)  -- real-time LMP
    ∷ fields 300 24 1 (Whole 0 5)  -- events
    ∷ fields 324 24 1 (Whole 0 3)  -- real-time flags
    ∷ unnamed 348 160 ∷ []

-- the fields of a block that begins with a letter: D, P, G, and R otherwise
abbrev pub table_for : ℕ → List Entry
table_for kind =
    cond (kind == 68) day_table (cond (kind == 80) participant_table (cond (kind == 71) resource_table real_time_table))

-- the first faulty one of n fields of an entry, the first of them at p
unfoldable pub fault_from : Entry → ℕ → ℕ → List ℕ → Option ℕ
fault_from e zero p b = None
fault_from e (suc n) p b = cond (allows e.limits (value p e.width b)) (fault_from e n (p + e.stride) b) (Some p)

abbrev pub entry_fault : Entry → List ℕ → Option ℕ
entry_fault e b = fault_from e e.count e.start b

-- the earlier of two places
abbrev pub earlier : Option ℕ → Option ℕ → Option ℕ
earlier None o = o
earlier (Some p) None = Some p
earlier (Some p) (Some q) = Some (min p q)

-- THE FIRST FAULTY FIELD of a block: where it starts
unfoldable pub first_fault : List Entry → List ℕ → Option ℕ
first_fault [] b = None
first_fault (e ∷ es) b = earlier (entry_fault e b) (first_fault es b)

-- a field of the entry starts at p, and holds what it may not
abbrev pub FaultyIn : Entry → List ℕ → ℕ → Type 0
FaultyIn e b p = (i : ℕ) × (i < e.count) × (p ≡ e.start + i * e.stride) × (allows e.limits (value p e.width b) ≡ false)

-- some field of the table starts at p, and holds what it may not
abbrev pub Faulty : List Entry → List ℕ → ℕ → Type 0
Faulty [] b p = ⊥
Faulty (e ∷ es) b p = FaultyIn e b p ⊎ Faulty es b p

-- entries whose fields have one, two or four bytes, none over the next, and stand within a block
abbrev pub sized : Entry → Bool
sized e = (e.width == 1 || (e.width == 2 || e.width == 4)) && (nat_le (e.start + e.count * e.stride) 508 && nat_le e.width e.stride)

abbrev pub all_sized : List Entry → Bool
all_sized [] = true
all_sized (e ∷ es) = sized e && all_sized es

-- widths that fields have
abbrev pub Wide : ℕ → Type 0
Wide w = (w ≡ 1) ⊎ ((w ≡ 2) ⊎ (w ≡ 4))
