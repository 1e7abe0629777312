-- The named tables say of each field what the reader's tables say: a faulty field is named, and what it holds is outside its limits.
use Rattle.std.proofs.Common.{◌≡◌, ℕ, zero, suc, ◌+◌, ◌-◌, ◌*◌, ◌%◌, ◌^◌, ◌<◌, ◌≤◌, Bool, true, false, cond, not, ◌&&◌, ◌||◌, eqb, ltb, leb, ◌⊎◌, List, [], ◌∷◌, pos, negsuc, neg_ℤ, ◌≤ℤ◌, Some, None, Option, sym, refl, ap, ◌∙◌, subst, inl, inr, arith, w32, to_z}
use native.Mathlib.Nat.{mul-mod_left}
use mir.ValLaws.{to_z-neg}
use Rattle.std.proofs.lemmas.Int.{ints}
use Rattle.std.proofs.lemmas.Bool.{and_parts, and_from, or_cases, or_parts, le-leb, lt-ltb, eq-eqb, eqb-true, leb-false, cases_lt, not-true}
use Rattle.dayfile.specs.declared.layout.Entry.{Entry}
use Rattle.dayfile.specs.declared.layout.Limits.{Limits}
use Rattle.dayfile.specs.declared.layout.Limits.TheVariants.{Unnamed, Whole, Signed}
use Rattle.dayfile.specs.Bytes.{value}
use Rattle.dayfile.specs.Layout.{allows, Faulty, sized, all_sized, day_table, participant_table, resource_table, real_time_table, table_for}
use Rattle.dayfile.proofs.Each.{part_within}
use Rattle.dayfile.proofs.Tables.{sized_wide, sized_ends, sized_apart}
use Rattle.explanation.specs.declared.finding.FieldName.{FieldName}
use Rattle.explanation.specs.declared.finding.NamedField.{NamedField}
use Rattle.explanation.specs.declared.table.Content.{Content}
use Rattle.explanation.specs.declared.table.Content.TheVariants.{Unnamed as NoField, Whole as WholeOf, Signed as SignedOf}
use Rattle.explanation.specs.declared.table.Row.{Row}
use Rattle.explanation.specs.Names.{row_at, rows_for, day_rows, participant_rows, resource_rows, real_time_rows}
use Rattle.explanation.specs.Findings.{told, told_as}
use Rattle.explanation.specs.Outside.{Outside}
use Rattle.explanation.specs.Agreement.{same_limits}

-- whether a field of the reader's table starts at a byte
abbrev has : Entry → ℕ → Bool
has e p = leb e.start p && (ltb p (e.start + e.count * e.stride) && eqb ((p - e.start) % e.stride) 0)

-- whether a row says of its fields what an entry of the reader's table says
abbrev agree : Entry → Option Row → Bool
agree e None = false
agree e (Some r) = eqb e.width r.width && same_limits r.content e.limits

-- whether the rows say of the field at a byte what the reader's table says, and so at each byte below n
abbrev agree_at : List Entry → List Row → ℕ → Bool
agree_at [] rs p = true
agree_at (e ∷ es) rs p = (not (has e p) || agree e (row_at rs p)) && agree_at es rs p

abbrev agree_below : List Entry → List Row → ℕ → Bool
agree_below es rs zero = true
agree_below es rs (suc p) = agree_at es rs p && agree_below es rs p

-- THE TABLES AGREE, for every kind of block
abbrev Agree : List Entry → List Row → Type 0
Agree es rs = (all_sized es ≡ true) × (agree_below es rs 508 ≡ true)

tables_agree : (c : ℕ) → Agree (table_for c) (rows_for c)
unfolding row_at
tables_agree c = go (eqb c 68) (eqb c 80) (eqb c 71)
  where
    go : (x y z : Bool) → Agree (cond x day_table (cond y participant_table (cond z resource_table real_time_table)))
        (cond x day_rows (cond y participant_rows (cond z resource_rows real_time_rows)))
    go true y z = (refl, refl)
    go false true z = (refl, refl)
    go false false true = (refl, refl)
    go false false false = (refl, refl)

at_one : (es : List Entry) (rs : List Row) (n p : ℕ) → p < n → agree_below es rs n ≡ true → agree_at es rs p ≡ true
at_one es rs zero p l h = absurd (omega arith)
at_one es rs (suc n) p l h =
    let t = and_parts (agree_at es rs n) (agree_below es rs n) h in
    go (λ s. at_one es rs n p s t.1) t.0 (cases_lt p n)
  where
    go : (p < n → agree_at es rs p ≡ true) → agree_at es rs n ≡ true → (p < n) ⊎ (n ≤ p) → agree_at es rs p ≡ true
    go before now (inl s) = before s
    go before now (inr s) = let e : n ≡ p = omega arith in subst (λ q. agree_at es rs q ≡ true) e now

-- a field of an entry starts where it should
starts_there : (e : Entry) (i p : ℕ) → sized e ≡ true → i < e.count → p ≡ e.start + i * e.stride → (has e p ≡ true) × (p < 508)
starts_there e i p s l q =
    let w : 1 ≤ e.width = elim (sized_wide e s) [ inl a ↦ omega (arith, a) | inr a ↦ elim a [ inl b ↦ omega (arith, b) | inr b ↦ omega (arith, b) ] ] in
    let a = sized_apart e s in
    let k = part_within i e.count e.stride l in
    let z = sized_ends e s in
    let d : p - e.start ≡ i * e.stride = omega arith in
    let m : (p - e.start) % e.stride ≡ 0 = ap (λ x. x % e.stride) d ∙ mul-mod_left i e.stride in
    let u : e.start ≤ p = omega arith in
    let v : p < e.start + e.count * e.stride = omega (arith, k, a, w) in (
      and_from (leb e.start p) (ltb p (e.start + e.count * e.stride) && eqb ((p - e.start) % e.stride) 0) (le-leb e.start p u)
          (and_from (ltb p (e.start + e.count * e.stride)) (eqb ((p - e.start) % e.stride) 0) (lt-ltb p (e.start + e.count * e.stride) v) (eq-eqb ((p - e.start) % e.stride) 0 m)),
      omega (arith, v, z),
    )

-- prices in two's complement
high : (n : ℕ) → n < 2 ^ 32 → 2 ^ 31 ≤ n → to_z w32 n ≡ negsuc (4294967295 - n)
high n l h =
    let e : 4294967296 - suc (4294967295 - n) ≡ n = omega arith in
    ap (to_z w32) (sym e) ∙ to_z-neg w32 (4294967295 - n) (omega arith)

price_outside : (most n : ℕ) → most < n → n + most < 4294967296 → (neg_ℤ (pos most) ≤ℤ to_z w32 n) × (to_z w32 n ≤ℤ pos most) → ⊥
price_outside most n a b h = elim (cases_lt n (2 ^ 31)) [ inl l ↦ low l | inr l ↦ up l ]
  where
    low : n < 2 ^ 31 → ⊥
    low l = omega (arith, ints, h.1)

    up : 2 ^ 31 ≤ n → ⊥
    up l = let z = subst (λ x. neg_ℤ (pos most) ≤ℤ x) (high n (omega arith) l) h.0 in omega (arith, ints, z)

-- what is not allowed is told so
told_outside : (l : Limits) (k : Content) (place : FieldName → NamedField) (p n : ℕ) → same_limits k l ≡ true → allows l n ≡ false → Outside (told_as k place p n)
told_outside Unnamed NoField place p n s a = λ e. let z : true ≡ false = sym (eq-eqb n 0 e) ∙ a in let y : ◌≡◌ {A = ℕ} 0 1 = cc in omega arith
told_outside Unnamed (WholeOf name least most) place p n s a = let y : ◌≡◌ {A = ℕ} 0 1 = cc in absurd (omega arith)
told_outside Unnamed (SignedOf name most) place p n s a = let y : ◌≡◌ {A = ℕ} 0 1 = cc in absurd (omega arith)
told_outside (Whole l m) NoField place p n s a = let y : ◌≡◌ {A = ℕ} 0 1 = cc in absurd (omega arith)
told_outside (Whole l m) (WholeOf name least most) place p n s a = λ h.
    let t = and_parts (eqb least l) (eqb most m) s in
    let d = eqb-true least l t.0 in
    let g = eqb-true most m t.1 in
    let z : true ≡ false = sym (and_from (leb l n) (leb n m) (le-leb l n (omega (arith, d, h.0))) (le-leb n m (omega (arith, g, h.1)))) ∙ a in
    let y : ◌≡◌ {A = ℕ} 0 1 = cc in omega arith
told_outside (Whole l m) (SignedOf name most) place p n s a = let y : ◌≡◌ {A = ℕ} 0 1 = cc in absurd (omega arith)
told_outside (Signed m) NoField place p n s a = let y : ◌≡◌ {A = ℕ} 0 1 = cc in absurd (omega arith)
told_outside (Signed m) (WholeOf name least most) place p n s a = let y : ◌≡◌ {A = ℕ} 0 1 = cc in absurd (omega arith)
told_outside (Signed m) (SignedOf name most) place p n s a =
    let e = eqb-true most m s in
    let t = or_parts (leb n m) (leb 4294967296 (n + m)) a in
    let u = leb-false n m t.0 in
    let v = leb-false 4294967296 (n + m) t.1 in
    price_outside most n (omega (arith, e, u)) (omega (arith, e, v))

-- the field at a byte has a name, and what it holds is outside its limits
abbrev pub Named : List Row → ℕ → List ℕ → Type 0
Named rs p b = (r : Row) × ((row_at rs p ≡ Some r) × Outside (told r p b))

in_row : (e : Entry) (o : Option Row) (p : ℕ) (b : List ℕ) → agree e o ≡ true → allows e.limits (value p e.width b) ≡ false
    → (r : Row) × ((o ≡ Some r) × Outside (told r p b))
in_row e None p b g a = let y : ◌≡◌ {A = ℕ} 0 1 = cc in absurd (omega arith)
in_row e (Some r) p b g a =
    let t = and_parts (eqb e.width r.width) (same_limits r.content e.limits) g in
    let w = eqb-true e.width r.width t.0 in
    (r, (refl, told_outside e.limits r.content _ p (value p r.width b) t.1 (subst (λ k. allows e.limits (value p k b) ≡ false) w a)))

in_entry : (e : Entry) (rs : List Row) (p : ℕ) (b : List ℕ) → has e p ≡ true → (not (has e p) || agree e (row_at rs p)) ≡ true
    → allows e.limits (value p e.width b) ≡ false → Named rs p b
in_entry e rs p b h g a =
    elim (or_cases (not (has e p)) (agree e (row_at rs p)) g) [
      | inl n ↦ (let z : true ≡ false = sym h ∙ not-true (has e p) n in let y : ◌≡◌ {A = ℕ} 0 1 = cc in absurd (omega arith))
      | inr m ↦ in_row e (row_at rs p) p b m a
    ]

in_table : (es : List Entry) (rs : List Row) (p : ℕ) (b : List ℕ) → all_sized es ≡ true → (p < 508 → agree_at es rs p ≡ true) → Faulty es b p → Named rs p b
in_table [] rs p b s g d = absurd d
in_table (e ∷ es) rs p b s g (inl d) =
    let h = starts_there e d.0 p (and_parts (sized e) (all_sized es) s).0 d.1 d.2 in
    in_entry e rs p b h.0 (and_parts (not (has e p) || agree e (row_at rs p)) (agree_at es rs p) (g h.1)).0 d.3
in_table (e ∷ es) rs p b s g (inr d) =
    in_table es rs p b (and_parts (sized e) (all_sized es) s).1 (λ l. (and_parts (not (has e p) || agree e (row_at rs p)) (agree_at es rs p) (g l)).1) d

pub named_fault : (c : ℕ) (b : List ℕ) (p : ℕ) → Faulty (table_for c) b p → Named (rows_for c) p b
named_fault c b p d =
    let t = tables_agree c in
    in_table (table_for c) (rows_for c) p b t.0 (λ l. at_one (table_for c) (rows_for c) 508 p l t.1) d
