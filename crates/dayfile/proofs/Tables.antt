-- The first faulty field of a table: the least place of a faulty field, and none where no field is faulty.
use Rattle.std.proofs.Common.{◌≡◌, ℕ, zero, suc, ◌+◌, ◌-◌, ◌*◌, ◌<◌, ◌≤◌, min, Bool, true, false, cond, not, ◌&&◌, ◌||◌, eqb, ltb, leb, ◌⊎◌, List, [], ◌∷◌, ◌++◌, length, get_or, take, drop, is_some, Some, None, Decides, Option, fold, sym, refl, ap, ◌∙◌, subst, inl, inr, suc-mul, zero-mul, arith}
use lib.Bits.{bit_or, or_add_and, and_le_l, and_le_r}
use Rattle.std.specs.List.{AllByRecursion}
use Rattle.std.proofs.lemmas.List.{drop_more, drop_all, take_at, take_all, take-take, get_or-take, get_or-drop, length-take-le, length-drop}
use Rattle.std.proofs.ByRecursion.{All-get_or, All-from_get_or}
use Rattle.std.proofs.lemmas.Bool.Decides.{nat_tests}
use Rattle.std.proofs.lemmas.Bool.{cond-true, cond-false, cases_lt, and_parts, or_cases, eqb-true, eq-eqb, leb-true, both_ways}
use Rattle.dayfile.specs.declared.layout.Entry.{Entry}
use Rattle.dayfile.specs.declared.layout.Limits.{Limits}
use Rattle.dayfile.specs.declared.layout.Limits.TheVariants.{Unnamed, Whole, Signed}
use Rattle.dayfile.specs.Bytes.{value}
use Rattle.dayfile.specs.Layout.{allows, fault_from, entry_fault, earlier, first_fault, FaultyIn, Faulty, sized, all_sized, Wide}
use Rattle.dayfile.proofs.Numbers.{value_same, value_one}
use Rattle.dayfile.proofs.Each.{part_within}

-- one field of an entry
pub from_good : (e : Entry) (n j p : ℕ) (b : List ℕ) → j < n → allows e.limits (value p e.width b) ≡ true
    → fault_from e (n - j) p b ≡ fault_from e (n - (j + 1)) (p + e.stride) b
unfolding fault_from
from_good e n j p b l h = let s : n - j ≡ suc (n - (j + 1)) = omega arith in ap (λ m. fault_from e m p b) s ∙ cond-true _ _ _ h

pub from_bad : (e : Entry) (n j p : ℕ) (b : List ℕ) → j < n → allows e.limits (value p e.width b) ≡ false → fault_from e (n - j) p b ≡ Some p
unfolding fault_from
from_bad e n j p b l h = let s : n - j ≡ suc (n - (j + 1)) = omega arith in ap (λ m. fault_from e m p b) s ∙ cond-false _ _ _ h

pub from_end : (e : Entry) (n p : ℕ) (b : List ℕ) → n ≡ 0 → fault_from e n p b ≡ None
unfolding fault_from
from_end e n p b h = ap (λ m. fault_from e m p b) h

-- the earlier of three places
pub earlier_assoc : (a b c : Option ℕ) → earlier (earlier a b) c ≡ earlier a (earlier b c)
earlier_assoc None b c = refl
earlier_assoc (Some p) None c = refl
earlier_assoc (Some p) (Some q) None = refl
earlier_assoc (Some p) (Some q) (Some r) = let e : min (min p q) r ≡ min p (min q r) = omega arith in ap Some e

pub earlier_none : (a : Option ℕ) → earlier a None ≡ a
earlier_none None = refl
earlier_none (Some p) = refl

-- one entry of a table
abbrev pub no_entry : Entry
no_entry = record { start = 0; stride = 0; count = 0; width = 0; limits = Unnamed }

pub first_more : (t : List Entry) (i : ℕ) (b : List ℕ) → i < length t → first_fault (drop i t) b ≡ earlier (entry_fault (get_or t i no_entry) b) (first_fault (drop (i + 1) t) b)
unfolding first_fault
first_more t i b h = ap (λ s. first_fault s b) (drop_more t i no_entry h)

pub first_all : (t : List Entry) (i : ℕ) (b : List ℕ) → length t ≤ i → first_fault (drop i t) b ≡ None
unfolding first_fault
first_all t i b h = ap (λ s. first_fault s b) (drop_all i t h)

pub sized_more : (t : List Entry) (i : ℕ) → i < length t → all_sized (drop i t) ≡ true → (sized (get_or t i no_entry) ≡ true) × (all_sized (drop (i + 1) t) ≡ true)
sized_more t i h s = and_parts (sized (get_or t i no_entry)) (all_sized (drop (i + 1) t)) (sym (ap all_sized (drop_more t i no_entry h)) ∙ s)

-- THE LEAST place of which F holds, or none
abbrev pub Least : (ℕ → Type 0) → Option ℕ → Type 0
Least F None = (p : ℕ) → F p → ⊥
Least F (Some p) = F p × ((q : ℕ) → q < p → F q → ⊥)

pub least_like : (F G : ℕ → Type 0) (o : Option ℕ) → ((p : ℕ) → F p → G p) → ((p : ℕ) → G p → F p) → Least F o → Least G o
least_like F G None to from h = λ p g. h p (from p g)
least_like F G (Some p) to from h = (to p h.0, λ q l g. h.1 q l (from q g))

pub least_either : (F G : ℕ → Type 0) (a b : Option ℕ) → Least F a → Least G b → Least (λ p. F p ⊎ G p) (earlier a b)
least_either F G None None f g = λ p h. elim h [ inl x ↦ f p x | inr y ↦ g p y ]
least_either F G None (Some q) f g = (inr g.0, λ p l h. elim h [ inl x ↦ f p x | inr y ↦ g.1 p l y ])
least_either F G (Some p) None f g = (inl f.0, λ q l h. elim h [ inl x ↦ f.1 q l x | inr y ↦ g q y ])
least_either F G (Some p) (Some q) f g = (
  elim (cases_lt q p) [
    | inl l ↦ (let e : q ≡ min p q = omega arith in inr (subst G e g.0))
    | inr l ↦ (let e : p ≡ min p q = omega arith in inl (subst F e f.0))
  ],
  λ r l h. elim h [ inl x ↦ f.1 r (omega arith) x | inr y ↦ g.1 r (omega arith) y ],
)

pub least_same : (F : ℕ → Type 0) (o : Option ℕ) (p : ℕ) → Least F o → F p → ((q : ℕ) → q < p → F q → ⊥) → o ≡ Some p
least_same F None p h f l = absurd (h p f)
least_same F (Some q) p h f l =
    elim (cases_lt p q) [
      | inl k ↦ absurd (h.1 p k f)
      | inr k ↦ elim (cases_lt q p) [ inl m ↦ absurd (l q m h.0) | inr m ↦ (let e : q ≡ p = omega arith in ap Some e) ]
    ]

pub least_none : (F : ℕ → Type 0) (o : Option ℕ) → Least F o → ((p : ℕ) → F p → ⊥) → o ≡ None
least_none F None h n = refl
least_none F (Some q) h n = absurd (n q h.0)

-- one of n fields of an entry, the first of them at p, starts at q and is faulty
abbrev pub Among : Entry → ℕ → ℕ → List ℕ → ℕ → Type 0
Among e n p b q = (i : ℕ) × (i < n) × (q ≡ p + i * e.stride) × (allows e.limits (value q e.width b) ≡ false)

later : (e : Entry) (n p : ℕ) (b : List ℕ) (q : ℕ) → Among e n (p + e.stride) b q → Among e (suc n) p b q
later e n p b q (i, l, h, f) = (suc i, omega arith, omega (arith, suc-mul i e.stride), f)

sooner : (e : Entry) (n p : ℕ) (b : List ℕ) (q : ℕ) → allows e.limits (value p e.width b) ≡ true → Among e (suc n) p b q → Among e n (p + e.stride) b q
sooner e n p b q t (zero, l, h, f) =
    let s : q ≡ p = omega (arith, zero-mul e.stride) in
    absurd (both_ways (allows e.limits (value p e.width b)) (subst (λ x. allows e.limits (value x e.width b) ≡ false) s f) t)
sooner e n p b q t (suc i, l, h, f) = (i, omega arith, omega (arith, suc-mul i e.stride), f)

pub from_least : (e : Entry) (n p : ℕ) (b : List ℕ) → Least (Among e n p b) (fault_from e n p b)
unfolding fault_from
from_least e zero p b = λ q h. absurd (omega (arith, h.1))
from_least e (suc n) p b = go (from_least e n (p + e.stride) b) (allows e.limits (value p e.width b)) refl
  where
    go : Least (Among e n (p + e.stride) b) (fault_from e n (p + e.stride) b) → (t : Bool) → allows e.limits (value p e.width b) ≡ t
        → Least (Among e (suc n) p b) (fault_from e (suc n) p b)
    go ih true t =
        subst (Least (Among e (suc n) p b)) (sym (cond-true _ _ _ t))
        (least_like (Among e n (p + e.stride) b) (Among e (suc n) p b) (fault_from e n (p + e.stride) b) (later e n p b) (λ q. sooner e n p b q t) ih)
    go ih false t =
        subst (Least (Among e (suc n) p b)) (sym (cond-false _ _ _ t))
        ((0, omega arith, omega (arith, zero-mul e.stride), t), λ q l h. absurd (omega (arith, h.2)))

-- THE FIRST FAULTY FIELD of an entry, and of a table
pub entry_least : (e : Entry) (b : List ℕ) → Least (FaultyIn e b) (entry_fault e b)
entry_least e b = from_least e e.count e.start b

pub first_least : (t : List Entry) (b : List ℕ) → Least (Faulty t b) (first_fault t b)
unfolding first_fault
first_least [] b = λ p h. h
first_least (e ∷ es) b = least_either (FaultyIn e b) (Faulty es b) (entry_fault e b) (first_fault es b) (entry_least e b) (first_least es b)

pub fault_faulty : (t : List Entry) (b : List ℕ) (p : ℕ) → first_fault t b ≡ Some p → Faulty t b p
fault_faulty t b p h = (subst (Least (Faulty t b)) h (first_least t b)).0

pub fault_least : (t : List Entry) (b : List ℕ) (p : ℕ) → first_fault t b ≡ Some p → (q : ℕ) → q < p → Faulty t b q → ⊥
fault_least t b p h = (subst (Least (Faulty t b)) h (first_least t b)).1

pub faulty_fault : (t : List Entry) (b : List ℕ) (p : ℕ) → Faulty t b p → ((q : ℕ) → q < p → Faulty t b q → ⊥) → first_fault t b ≡ Some p
faulty_fault t b p f l = least_same (Faulty t b) (first_fault t b) p (first_least t b) f l

pub none_faultless : (t : List Entry) (b : List ℕ) → first_fault t b ≡ None → (p : ℕ) → Faulty t b p → ⊥
none_faultless t b h = subst (Least (Faulty t b)) h (first_least t b)

pub faultless_none : (t : List Entry) (b : List ℕ) → ((p : ℕ) → Faulty t b p → ⊥) → first_fault t b ≡ None
faultless_none t b n = least_none (Faulty t b) (first_fault t b) (first_least t b) n

-- no fault: every field holds what it may
not_false_true : (t : Bool) → (t ≡ false → ⊥) → t ≡ true
not_false_true true h = refl
not_false_true false h = absurd (h refl)

pub from_none : (e : Entry) (n p : ℕ) (b : List ℕ) → fault_from e n p b ≡ None
    → (i : ℕ) → i < n → allows e.limits (value (p + i * e.stride) e.width b) ≡ true
from_none e n p b h i l =
    not_false_true (allows e.limits (value (p + i * e.stride) e.width b))
    (λ f. subst (Least (Among e n p b)) h (from_least e n p b) (p + i * e.stride) (i, l, refl, f))

pub from_allowed : (e : Entry) (n p : ℕ) (b : List ℕ) → ((i : ℕ) → i < n → allows e.limits (value (p + i * e.stride) e.width b) ≡ true)
    → fault_from e n p b ≡ None
from_allowed e n p b h =
    least_none (Among e n p b) (fault_from e n p b) (from_least e n p b)
    (λ q f. both_ways (allows e.limits (value q e.width b)) f.3 (subst (λ x. allows e.limits (value x e.width b) ≡ true) (sym f.2) (h f.0 f.1)))

pub entry_none : (e : Entry) (b : List ℕ) → entry_fault e b ≡ None → (i : ℕ) → i < e.count → allows e.limits (value (e.start + i * e.stride) e.width b) ≡ true
entry_none e b = from_none e e.count e.start b

pub entry_allowed : (e : Entry) (b : List ℕ) → ((i : ℕ) → i < e.count → allows e.limits (value (e.start + i * e.stride) e.width b) ≡ true) → entry_fault e b ≡ None
entry_allowed e b = from_allowed e e.count e.start b

pub earlier_none_parts : (a b : Option ℕ) → earlier a b ≡ None → (a ≡ None) × (b ≡ None)
earlier_none_parts None b h = (refl, h)
earlier_none_parts (Some p) None h = (h, refl)
earlier_none_parts (Some p) (Some q) h = let z : ◌≡◌ {A = ℕ} 0 1 = cc in absurd (omega arith)

pub first_none_parts : (e : Entry) (es : List Entry) (b : List ℕ) → first_fault (e ∷ es) b ≡ None → (entry_fault e b ≡ None) × (first_fault es b ≡ None)
unfolding first_fault
first_none_parts e es b h = earlier_none_parts (entry_fault e b) (first_fault es b) h

pub first_none_from : (e : Entry) (es : List Entry) (b : List ℕ) → entry_fault e b ≡ None → first_fault es b ≡ None → first_fault (e ∷ es) b ≡ None
unfolding first_fault
first_none_from e es b h k = ap (λ o. earlier o (first_fault es b)) h ∙ k

pub first_none_nil : (b : List ℕ) → first_fault [] b ≡ None
unfolding first_fault
first_none_nil b = refl

-- what a sized entry is
pub sized_wide : (e : Entry) → sized e ≡ true → Wide e.width
sized_wide e h =
    let w = (and_parts (eqb e.width 1 || (eqb e.width 2 || eqb e.width 4)) _ h).0 in
    elim (or_cases (eqb e.width 1) (eqb e.width 2 || eqb e.width 4) w) [
      | inl p ↦ inl (eqb-true e.width 1 p)
      | inr p ↦ elim (or_cases (eqb e.width 2) (eqb e.width 4) p)
          [ inl q ↦ inr (inl (eqb-true e.width 2 q)) | inr q ↦ inr (inr (eqb-true e.width 4 q)) ]
    ]

pub sized_ends : (e : Entry) → sized e ≡ true → e.start + e.count * e.stride ≤ 508
sized_ends e h =
    let r = (and_parts (eqb e.width 1 || (eqb e.width 2 || eqb e.width 4)) (leb (e.start + e.count * e.stride) 508 && leb e.width e.stride) h).1 in
    leb-true (e.start + e.count * e.stride) 508 (and_parts (leb (e.start + e.count * e.stride) 508) (leb e.width e.stride) r).0

pub sized_apart : (e : Entry) → sized e ≡ true → e.width ≤ e.stride
sized_apart e h =
    let r = (and_parts (eqb e.width 1 || (eqb e.width 2 || eqb e.width 4)) (leb (e.start + e.count * e.stride) 508 && leb e.width e.stride) h).1 in
    leb-true e.width e.stride (and_parts (leb (e.start + e.count * e.stride) 508) (leb e.width e.stride) r).1

-- a field and what follows it up to the next one stand within a block
pub sized_strides : (e : Entry) (i : ℕ) → sized e ≡ true → i < e.count → e.start + i * e.stride + e.stride ≤ 508
sized_strides e i h l = let s = sized_ends e h in let k = part_within i e.count e.stride l in omega (arith, s, k)

pub sized_within : (e : Entry) (i : ℕ) → sized e ≡ true → i < e.count → e.start + i * e.stride + e.width ≤ 508
sized_within e i h l = let s = sized_strides e i h l in let a = sized_apart e h in omega (arith, s, a)

-- a field of an entry that stands within bytes
pub field_inside : (e : Entry) (i at n : ℕ) → sized e ≡ true → i < e.count → at ≡ e.start + i * e.stride → e.start + e.count * e.stride ≤ n → at + e.width ≤ n
field_inside e i at n s l place ends = let k = part_within i e.count e.stride l in let a = sized_apart e s in omega (arith, k, a)

-- a fault depends only on the fields' bytes
pub from_same : (e : Entry) (n p : ℕ) (xs ys : List ℕ) → ((i : ℕ) → i < n → value (p + i * e.stride) e.width xs ≡ value (p + i * e.stride) e.width ys)
    → fault_from e n p xs ≡ fault_from e n p ys
unfolding fault_from
from_same e zero p xs ys h = refl
from_same e (suc n) p xs ys h =
    let z : p + 0 * e.stride ≡ p = omega (arith, zero-mul e.stride) in
    let first : value p e.width xs ≡ value p e.width ys = subst (λ q. value q e.width xs ≡ value q e.width ys) z (h 0 (omega arith)) in
    let rest : fault_from e n (p + e.stride) xs ≡ fault_from e n (p + e.stride) ys
    = from_same e n (p + e.stride) xs ys
    (λ i l. let s : p + suc i * e.stride ≡ p + e.stride + i * e.stride = omega (arith, suc-mul i e.stride) in
    subst (λ q. value q e.width xs ≡ value q e.width ys) s (h (suc i) (omega arith))) in
    ap (λ v. cond (allows e.limits v) (fault_from e n (p + e.stride) xs) (Some p)) first
    ∙ ap (λ o. cond (allows e.limits (value p e.width ys)) o (Some p)) rest

pub entry_same : (e : Entry) (xs ys : List ℕ) → sized e ≡ true → take 508 xs ≡ take 508 ys → entry_fault e xs ≡ entry_fault e ys
entry_same e xs ys s h =
    from_same e e.count e.start xs ys (λ i l. value_same 508 (e.start + i * e.stride) e.width xs ys (sized_within e i s l) h)

pub first_same : (t : List Entry) (xs ys : List ℕ) → all_sized t ≡ true → take 508 xs ≡ take 508 ys → first_fault t xs ≡ first_fault t ys
unfolding first_fault
first_same [] xs ys s h = refl
first_same (e ∷ es) xs ys s h =
    let p = and_parts (sized e) (all_sized es) s in
    ap (λ o. earlier o (first_fault es xs)) (entry_same e xs ys p.0 h) ∙ ap (earlier (entry_fault e ys)) (first_same es xs ys p.1 h)

pub first_take : (t : List Entry) (b : List ℕ) → all_sized t ≡ true → first_fault t (take 508 b) ≡ first_fault t b
first_take t b s = first_same t (take 508 b) b s (take-take 508 508 b (omega arith))

pub first_append : (t : List Entry) (xs ys : List ℕ) → all_sized t ≡ true → length xs ≡ 508 → first_fault t (xs ++ ys) ≡ first_fault t xs
first_append t xs ys s n = first_same t (xs ++ ys) xs s (take_at xs ys 508 n ∙ sym (take_all 508 xs (omega arith)))

-- one field more at the end
pub from_push : (e : Entry) (n p : ℕ) (b : List ℕ)
    → is_some (fault_from e (n + 1) p b) ≡ (is_some (fault_from e n p b) || not (allows e.limits (value (p + n * e.stride) e.width b)))
unfolding fault_from
from_push e zero p b =
    let z : p ≡ p + 0 * e.stride = omega (arith, zero-mul e.stride) in
    go (allows e.limits (value p e.width b)) refl ∙ ap (λ q. not (allows e.limits (value q e.width b))) z
  where
    go : (t : Bool) → allows e.limits (value p e.width b) ≡ t → is_some (fault_from e 1 p b) ≡ not (allows e.limits (value p e.width b))
    go true h = ap is_some (cond-true _ _ _ h) ∙ sym (ap not h)
    go false h = ap is_some (cond-false _ _ _ h) ∙ sym (ap not h)
from_push e (suc n) p b =
    let s : suc n + 1 ≡ suc (n + 1) = omega arith in
    let q : p + e.stride + n * e.stride ≡ p + suc n * e.stride = omega (arith, suc-mul n e.stride) in
    ap (λ m. is_some (fault_from e m p b)) s
    ∙ go (from_push e n (p + e.stride) b ∙ ap (λ k. is_some (fault_from e n (p + e.stride) b) || not (allows e.limits (value k e.width b))) q)
    (allows e.limits (value p e.width b)) refl
  where
    go : is_some (fault_from e (n + 1) (p + e.stride) b) ≡ (is_some (fault_from e n (p + e.stride) b) || not (allows e.limits (value (p + suc n * e.stride) e.width b)))
        → (t : Bool) → allows e.limits (value p e.width b) ≡ t
        → is_some (fault_from e (suc (n + 1)) p b) ≡ (is_some (fault_from e (suc n) p b) || not (allows e.limits (value (p + suc n * e.stride) e.width b)))
    go ih true h =
        ap is_some (cond-true _ _ _ h) ∙ ih
        ∙ ap (λ o. is_some o || not (allows e.limits (value (p + suc n * e.stride) e.width b))) (sym (cond-true (allows e.limits (value p e.width b)) (fault_from e n (p + e.stride) b) (Some p) h))
    go ih false h =
        ap is_some (cond-false _ _ _ h)
        ∙ ap (λ o. is_some o || not (allows e.limits (value (p + suc n * e.stride) e.width b))) (sym (cond-false (allows e.limits (value p e.width b)) (fault_from e n (p + e.stride) b) (Some p) h))

-- one field more that is looked at: it is bad, or one before it was
pub fields_more : (e : Entry) (i at n : ℕ) (b : List ℕ) (bad t : Bool) → bad ≡ is_some (fault_from e i e.start b) → at ≡ e.start + i * e.stride
    → n ≡ value at e.width b → t ≡ not (allows e.limits n) → (bad || t) ≡ is_some (fault_from e (i + 1) e.start b)
fields_more e i at n b bad t before place got test =
    ap (λ x. x || t) before
    ∙ ap (λ x. is_some (fault_from e i e.start b) || x) (test ∙ ap (λ m. not (allows e.limits m)) (got ∙ ap (λ q. value q e.width b) place))
    ∙ sym (from_push e i e.start b)

pub fields_none : (e : Entry) (b : List ℕ) → false ≡ is_some (fault_from e 0 e.start b)
unfolding fault_from
fields_none e b = refl

pub outside_whole : (limits : Limits) (least most n : ℕ) → limits ≡ Whole least most → (ltb n least || ltb most n) ≡ not (allows limits n)
outside_whole limits least most n h =
    let e : (ltb n least || ltb most n) ≡ not (leb least n && leb n most) = grind (arith, nat_tests) in
    e ∙ ap (λ l. not (allows l n)) (sym h)

pub outside_signed : (limits : Limits) (most n : ℕ) → limits ≡ Signed most → (ltb most n && ltb (n + most) 4294967296) ≡ not (allows limits n)
outside_signed limits most n h =
    let e : (ltb most n && ltb (n + most) 4294967296) ≡ not (leb n most || leb 4294967296 (n + most)) = grind (arith, nat_tests) in
    e ∙ ap (λ l. not (allows l n)) (sym h)

-- a bitwise or is 0 where both parts are
pub or_zero : (a b : ℕ) → bit_or a b ≡ 0 → (a ≡ 0) × (b ≡ 0)
or_zero a b h =
    let s = or_add_and a b in
    let l = and_le_l a b in
    let r = and_le_r a b in
    (omega (arith, s, r), omega (arith, s, l))

-- the bitwise or of bytes is 0 where all are
pub or_all : (bs : List ℕ) (a : ℕ) → fold bit_or a bs ≡ 0 → (a ≡ 0) × AllByRecursion (λ b. b ≡ 0) bs
or_all [] a h = (h, tt)
or_all (b ∷ bs) a h = let (p, q) = or_all bs (bit_or a b) h in let (x, y) = or_zero a b p in (x, (y, q))

pub all_or : (bs : List ℕ) → AllByRecursion (λ b. b ≡ 0) bs → fold bit_or 0 bs ≡ 0
all_or [] h = refl
all_or (b ∷ bs) h = ap (λ a. fold bit_or a bs) (ap (bit_or 0) h.0) ∙ all_or bs h.1

-- unnamed bytes hold what they may where all are 0
pub unnamed_holds : (e : Entry) (b : List ℕ) (n : ℕ) (r : Bool) → e.limits ≡ Unnamed → e.stride ≡ 1 → sized e ≡ true → n ≡ e.count → e.start + n ≤ length b
    → Decides r (AllByRecursion (λ x. x ≡ 0) (take n (drop e.start b))) → r ≡ not (is_some (entry_fault e b))
unnamed_holds e b n r limits stride s count long (to, from) = go r (entry_fault e b) refl refl
  where
    one : e.width ≡ 1
    one = let a = sized_apart e s in elim (sized_wide e s) [ inl p ↦ p | inr p ↦ elim p [ inl q ↦ absurd (omega arith) | inr q ↦ absurd (omega arith) ] ]

    len : length (take n (drop e.start b)) ≡ n
    len = length-take-le n (drop e.start b) (omega (arith, length-drop e.start b))

    at : (i : ℕ) → i < n → get_or (take n (drop e.start b)) i 0 ≡ value (e.start + i * e.stride) e.width b
    at i l =
        let p : e.start + i ≡ e.start + i * e.stride = omega (arith, ap (λ k. i * k) stride) in
        get_or-take n (drop e.start b) i 0 l ∙ get_or-drop e.start b i 0 ∙ sym (value_one (e.start + i) b)
        ∙ ap (λ k. value k 1 b) p ∙ ap (λ w. value (e.start + i * e.stride) w b) (sym one)

    none : AllByRecursion (λ x. x ≡ 0) (take n (drop e.start b)) → entry_fault e b ≡ None
    none h = entry_allowed e b (λ i l.
        let m : i < n = omega arith in
        let z = sym (at i m) ∙ All-get_or (λ x. x ≡ 0) (take n (drop e.start b)) i 0 (omega (arith, len)) h in
        ap (λ k. allows k (value (e.start + i * e.stride) e.width b)) limits ∙ eq-eqb (value (e.start + i * e.stride) e.width b) 0 z)

    zero_all : entry_fault e b ≡ None → AllByRecursion (λ x. x ≡ 0) (take n (drop e.start b))
    zero_all h = All-from_get_or (λ x. x ≡ 0) (take n (drop e.start b)) 0 (λ i l.
        let m : i < n = omega (arith, len) in
        let z = sym (ap (λ k. allows k (value (e.start + i * e.stride) e.width b)) limits) ∙ entry_none e b h i (omega arith) in
        at i m ∙ eqb-true (value (e.start + i * e.stride) e.width b) 0 z)

    go : (r' : Bool) (o : Option ℕ) → r ≡ r' → entry_fault e b ≡ o → r ≡ not (is_some (entry_fault e b))
    go true o h k = h ∙ sym (ap (λ x. not (is_some x)) (none (to h)))
    go false None h k = absurd (both_ways r h (from (zero_all k)))
    go false (Some p) h k = h ∙ sym (ap (λ x. not (is_some x)) k)

pub none_from_not : (o : Option ℕ) → not (is_some o) ≡ true → o ≡ None
none_from_not None h = refl
none_from_not (Some p) h = let z : ◌≡◌ {A = ℕ} 0 1 = cc in absurd (omega arith)
