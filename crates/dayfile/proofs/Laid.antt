-- Writing over a part of a list.
use Rattle.std.proofs.Common.{◌≡◌, ℕ, suc, ◌+◌, ◌-◌, ◌*◌, ◌<◌, ◌≤◌, List, [], ◌∷◌, ◌++◌, length, get_or, take, drop, set, sym, refl, ap, ◌∙◌, add-zero, arith}
use Rattle.std.specs.List.{flat_map}
use Rattle.std.proofs.lemmas.List.{take-append-drop, take_more_set, drop-set-lt, append_assoc, length-set, take_at, drop_at, drop-drop, drop-replicate, drop_more}
use Rattle.dayfile.specs.Bytes.{laid, zeros}
use Rattle.dayfile.proofs.Each.{add_one_mul}

pub laid_nil : (xs : List ℕ) (i : ℕ) → laid xs i [] ≡ xs
laid_nil xs i = ap (λ k. take i xs ++ drop k xs) (add-zero i) ∙ take-append-drop i xs

pub laid_cons : (xs : List ℕ) (i y : ℕ) (ys : List ℕ) → i < length xs → laid xs i (y ∷ ys) ≡ laid (set xs i y) (i + 1) ys
laid_cons xs i y ys h =
    let e : i + suc (length ys) ≡ i + 1 + length ys = omega arith in
    ap (λ k. take i xs ++ (y ∷ (ys ++ drop k xs))) e
    ∙ sym (append_assoc (take i xs) (y ∷ []) (ys ++ drop (i + 1 + length ys) xs))
    ∙ sym (ap (λ t. t ++ (ys ++ drop (i + 1 + length ys) xs)) (take_more_set xs i y h))
    ∙ sym (ap (λ t. take (i + 1) (set xs i y) ++ (ys ++ t)) (drop-set-lt (i + 1 + length ys) xs i y (omega arith)))

pub laid_append : (xs : List ℕ) (i : ℕ) (ys zs : List ℕ) → i + length ys ≤ length xs → laid xs i (ys ++ zs) ≡ laid (laid xs i ys) (i + length ys) zs
laid_append xs i [] zs h = sym (ap (λ t. laid t (i + 0) zs) (laid_nil xs i) ∙ ap (λ k. laid xs k zs) (add-zero i))
laid_append xs i (y ∷ ys) zs h =
    let l : i < length xs = omega arith in
    let n = length-set xs i y in
    let e : i + 1 + length ys ≡ i + suc (length ys) = omega arith in
    laid_cons xs i y (ys ++ zs) l
    ∙ laid_append (set xs i y) (i + 1) ys zs (omega (arith, n))
    ∙ ap (λ t. laid t (i + 1 + length ys) zs) (sym (laid_cons xs i y ys l))
    ∙ ap (λ k. laid (laid xs i (y ∷ ys)) k zs) e

pub length_laid : (xs : List ℕ) (i : ℕ) (ys : List ℕ) → i + length ys ≤ length xs → length (laid xs i ys) ≡ length xs
length_laid xs i [] h = ap length (laid_nil xs i)
length_laid xs i (y ∷ ys) h = let n = length-set xs i y in ap length (laid_cons xs i y ys (omega arith)) ∙ length_laid (set xs i y) (i + 1) ys (omega (arith, n)) ∙ n

-- written over zeros, right after what stands in front of them
pub laid_after : (front : List ℕ) (n : ℕ) (ys : List ℕ) → length ys ≤ n → laid (front ++ zeros n) (length front) ys ≡ (front ++ ys) ++ zeros (n - length ys)
laid_after front n ys h =
    ap (λ t. t ++ (ys ++ drop (length front + length ys) (front ++ zeros n))) (take_at front (zeros n) (length front) refl)
    ∙ ap (λ t. front ++ (ys ++ t)) (sym (drop-drop (length ys) (length front) (front ++ zeros n)) ∙ ap (drop (length ys)) (drop_at front (zeros n) (length front) refl) ∙ drop-replicate (length ys) n 0)
    ∙ sym (append_assoc front ys (zeros (n - length ys)))

-- parts of equal width, one after the other: the next one, and none left
pub laid_more : {A : Type 0} (write : A → List ℕ) (w : ℕ) → ((x : A) → length (write x) ≡ w) → (xs : List ℕ) (p : ℕ) (vs : List A) (j : ℕ) (d : A)
    → j < length vs → p + w ≤ length xs
    → laid xs p (flat_map write (drop j vs)) ≡ laid (laid xs p (write (get_or vs j d))) (p + w) (flat_map write (drop (j + 1) vs))
laid_more write w long xs p vs j d l h =
    let v = get_or vs j d in
    let n = long (get_or vs j d) in
    let rest = flat_map write (drop (j + 1) vs) in
    ap (λ t. laid xs p (flat_map write t)) (drop_more vs j d l)
    ∙ laid_append xs p (write v) rest (omega (arith, n))
    ∙ ap (λ k. laid (laid xs p (write v)) (p + k) rest) n

-- the next one is written into its place
pub laid_next : {A : Type 0} (write : A → List ℕ) (w : ℕ) → ((x : A) → length (write x) ≡ w) → (xs ys : List ℕ) (at : ℕ) (vs : List A) (j : ℕ) (v : A)
    → j < length vs → at + j * w + w ≤ length xs → v ≡ get_or vs j v → ys ≡ laid xs (at + j * w) (write v)
    → laid ys (at + (j + 1) * w) (flat_map write (drop (j + 1) vs)) ≡ laid xs (at + j * w) (flat_map write (drop j vs))
laid_next write w long xs ys at vs j v l h e f =
    let p = at + j * w in
    let rest = flat_map write (drop (j + 1) vs) in
    let q : at + (j + 1) * w ≡ at + j * w + w = omega (arith, add_one_mul j w) in
    ap (λ k. laid ys k rest) q
    ∙ ap (λ t. laid t (p + w) rest) f
    ∙ ap (λ y. laid (laid xs p (write y)) (p + w) rest) e
    ∙ sym (laid_more write w long xs p vs j v l h)
