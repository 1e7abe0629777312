-- The fields that are named are those that a block is judged by, with the same widths and limits.
use Rattle.std.specs.Prelude.{◌≡◌, ℕ, zero, suc, ◌-◌, ◌/◌, ◌%◌, Bool, true, false, cond, ◌&&◌, List, [], ◌∷◌, Some, None, Option, ◌==◌, nat_le, nat_lt}
use Rattle.dayfile.specs.declared.layout.Entry.{Entry}
use Rattle.dayfile.specs.declared.layout.Limits.{Limits}
use Rattle.dayfile.specs.declared.layout.Limits.TheVariants.{Unnamed, Whole, Signed}
use Rattle.dayfile.specs.Layout.{table_for}
use Rattle.explanation.specs.declared.table.Content.{Content}
use Rattle.explanation.specs.declared.table.Content.TheVariants.{Unnamed as NoField, Whole as Number, Signed as Price}
use Rattle.explanation.specs.declared.table.Row.{Row}
use Rattle.explanation.specs.Names.{rows_for, row_at}

-- the entry of a table in which a field starts at a byte
unfoldable pub entry_at : List Entry → ℕ → Option Entry
entry_at [] p = None
entry_at (e ∷ es) p =
    cond (nat_le e.start p && ((p - e.start) % e.stride == 0 && nat_lt ((p - e.start) / e.stride) e.count)) (Some e) (entry_at es p)

abbrev pub same_limits : Content → Limits → Bool
same_limits NoField Unnamed = true
same_limits NoField (Whole least most) = false
same_limits NoField (Signed most) = false
same_limits (Number name a b) Unnamed = false
same_limits (Number name a b) (Whole least most) = a == least && b == most
same_limits (Number name a b) (Signed most) = false
same_limits (Price name a) Unnamed = false
same_limits (Price name a) (Whole least most) = false
same_limits (Price name a) (Signed most) = a == most

abbrev pub same_field : Option Row → Option Entry → Bool
same_field None None = true
same_field None (Some e) = false
same_field (Some r) None = false
same_field (Some r) (Some e) = r.width == e.width && same_limits r.content e.limits

-- the fields of a kind that start at one of the first n bytes
unfoldable pub agree : ℕ → ℕ → Bool
agree c zero = true
agree c (suc p) = same_field (row_at (rows_for c) p) (entry_at (table_for c) p) && agree c p

-- EACH FIELD IS NAMED WITH THE LIMITS THAT IT IS JUDGED BY: in blocks of every kind, D, P, G and R
abbrev pub FieldsAgree : Type 0
FieldsAgree = (agree 68 508 ≡ true) × (agree 80 508 ≡ true) × (agree 71 508 ≡ true) × (agree 82 508 ≡ true)
