-- Parts of equal width, one after the other.
use Rattle.std.proofs.Common.{◌≡◌, ℕ, zero, suc, ◌+◌, ◌*◌, ◌<◌, ◌≤◌, List, [], ◌∷◌, ◌++◌, length, get_or, take, drop, set, sym, refl, ap, ◌∙◌, subst, le_refl, suc-mul, mul-le-mul, zero-mul, arith, take-add}
use Rattle.std.specs.List.{flat_map, AllByRecursion}
use Rattle.std.proofs.lemmas.List.{append_assoc, length-append, length-drop, drop-drop, drop_at, take_more_set}
use Rattle.dayfile.specs.Bytes.{each}

pub length_each : {A : Type 0} (read : List ℕ → A) (w n : ℕ) (bs : List ℕ) → length (each read w n bs) ≡ n
unfolding each
length_each read w zero bs = refl
length_each read w (suc n) bs = ap suc (length_each read w n (drop w bs))

shifted : (w i : ℕ) (bs : List ℕ) → drop (i * w) (drop w bs) ≡ drop (suc i * w) bs
shifted w i bs = let e : w + i * w ≡ suc i * w = omega (arith, suc-mul i w) in drop-drop (i * w) w bs ∙ ap (λ k. drop k bs) e

unshifted : (w : ℕ) (bs : List ℕ) → drop (0 * w) bs ≡ bs
unshifted w bs = ap (λ k. drop k bs) (zero-mul w)

pub get_or_each : {A : Type 0} (read : List ℕ → A) (w n : ℕ) (bs : List ℕ) (i : ℕ) (d : A) → i < n → get_or (each read w n bs) i d ≡ read (drop (i * w) bs)
unfolding each
get_or_each read w zero bs i d h = absurd (omega arith)
get_or_each read w (suc n) bs zero d h = sym (ap read (unshifted w bs))
get_or_each read w (suc n) bs (suc i) d h = get_or_each read w n (drop w bs) i d (omega arith) ∙ ap read (shifted w i bs)

-- one part more at the end
pub each_more : {A : Type 0} (read : List ℕ → A) (w n : ℕ) (bs : List ℕ) → each read w (n + 1) bs ≡ each read w n bs ++ (read (drop (n * w) bs) ∷ [])
unfolding each
each_more read w zero bs = sym (ap (λ t. read t ∷ []) (unshifted w bs))
each_more read w (suc n) bs =
    let e : suc n + 1 ≡ suc (n + 1) = omega arith in
    ap (λ k. each read w k bs) e
    ∙ ap (λ t. read bs ∷ t) (each_more read w n (drop w bs) ∙ ap (λ t. each read w n (drop w bs) ++ (read t ∷ [])) (shifted w n bs))

pub length_joined : {A : Type 0} (write : A → List ℕ) (w : ℕ) → ((x : A) → length (write x) ≡ w) → (xs : List A) → length (flat_map write xs) ≡ length xs * w
length_joined write w long [] = sym (zero-mul w)
length_joined write w long (x ∷ xs) =
    length-append (write x) (flat_map write xs) ∙ omega (arith, long x, length_joined write w long xs, suc-mul (length xs) w)

-- what is written reads back
pub each_joined : {A : Type 0} (Good : A → Type 0) (read : List ℕ → A) (write : A → List ℕ) (w : ℕ)
    → ((x : A) (rest : List ℕ) → Good x → read (write x ++ rest) ≡ x) → ((x : A) → length (write x) ≡ w)
    → (xs : List A) (rest : List ℕ) → AllByRecursion Good xs → each read w (length xs) (flat_map write xs ++ rest) ≡ xs
unfolding each
each_joined Good read write w back long [] rest h = refl
each_joined Good read write w back long (x ∷ xs) rest h =
    let tail = flat_map write xs ++ rest in
    ap (λ t. read t ∷ each read w (length xs) (drop w t)) (append_assoc (write x) (flat_map write xs) rest)
    ∙ ap (λ y. y ∷ each read w (length xs) (drop w (write x ++ tail))) (back x tail h.0)
    ∙ ap (λ t. x ∷ each read w (length xs) t) (drop_at (write x) tail w (long x))
    ∙ ap (λ t. x ∷ t) (each_joined Good read write w back long xs rest h.1)

-- what was read is written again
pub joined_each : {A : Type 0} (read : List ℕ → A) (write : A → List ℕ) (w n : ℕ) (bs : List ℕ) → n * w ≤ length bs
    → ((i : ℕ) → i < n → write (read (drop (i * w) bs)) ≡ take w (drop (i * w) bs)) → flat_map write (each read w n bs) ≡ take (n * w) bs
unfolding each
joined_each read write w zero bs l h = sym (ap (λ k. take k bs) (zero-mul w))
joined_each read write w (suc n) bs l h =
    let s = suc-mul n w in
    let e : w + n * w ≡ suc n * w = omega (arith, s) in
    let first : write (read bs) ≡ take w bs = subst (λ t. write (read t) ≡ take w t) (unshifted w bs) (h 0 (omega arith)) in
    let rest = joined_each read write w n (drop w bs) (omega (arith, s, length-drop w bs))
    (λ i k. subst (λ t. write (read t) ≡ take w t) (sym (shifted w i bs)) (h (suc i) (omega arith))) in
    ap (λ t. t ++ flat_map write (each read w n (drop w bs))) first
    ∙ ap (λ t. take w bs ++ t) rest
    ∙ sym (take-add w (n * w) bs)
    ∙ ap (λ k. take k bs) e

-- what holds of each part that is read
pub all_each : {A : Type 0} (P : A → Type 0) (read : List ℕ → A) (w n : ℕ) (bs : List ℕ) → ((i : ℕ) → i < n → P (read (drop (i * w) bs))) → AllByRecursion P (each read w n bs)
unfolding each
all_each P read w zero bs h = tt
all_each P read w (suc n) bs h = (
  subst (λ t. P (read t)) (unshifted w bs) (h 0 (omega arith)),
  all_each P read w n (drop w bs) (λ i k. subst (λ t. P (read t)) (sym (shifted w i bs)) (h (suc i) (omega arith))),
)

-- each of n parts stands within their bytes
pub part_within : (j n w : ℕ) → j < n → j * w + w ≤ n * w
part_within j n w h = let k : suc j * w ≤ n * w = mul-le-mul h (le_refl w) in omega (arith, suc-mul j w, k)

pub add_one_mul : (i w : ℕ) → (i + 1) * w ≡ i * w + w
add_one_mul i w = let e : i + 1 ≡ suc i = omega arith in ap (λ k. k * w) e ∙ omega (arith, suc-mul i w)

-- the next part is read into its place
pub each_set : {A : Type 0} (read : List ℕ → A) (w : ℕ) (bs : List ℕ) (i : ℕ) (xs : List A) (x : A) → i < length xs → x ≡ read (drop (i * w) bs)
    → take i xs ≡ each read w i bs → take (i + 1) (set xs i x) ≡ each read w (i + 1) bs
each_set read w bs i xs x l got before =
    take_more_set xs i x l
    ∙ ap (λ t. t ++ (x ∷ [])) before
    ∙ ap (λ y. each read w i bs ++ (y ∷ [])) got
    ∙ sym (each_more read w i bs)
