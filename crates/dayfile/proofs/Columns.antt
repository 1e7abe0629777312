-- The check of a block, by bytes and by columns of bytes.
use Rattle.std.proofs.Common.{◌≡◌, ℕ, zero, suc, ◌+◌, ◌-◌, ◌*◌, ◌/◌, ◌^◌, ◌<◌, ◌≤◌, List, [], ◌∷◌, ◌++◌, length, get_or, take, drop, set, sum, sym, refl, ap, ◌∙◌, le_refl, add-zero, zero-mul, suc-mul, add-mul, mul-le-mul, zero-add, mul-add, arith}
use Rattle.std.proofs.lemmas.List.{take-append-drop, take_more, take-take, take_all, drop-take, drop-drop, length-take, length-take-le, length-drop, length-reverse, get_or-reverse}
use Rattle.std.proofs.ByRecursion.{All-from_get_or, sum_by_le}
use Rattle.std.proofs.lemmas.List.Sums.{sum_by-cons, sum_by-append, sum_by-set, sum_by-take-le}
use Rattle.std.specs.Simd.{first_chunks}
use mathlib.Core.List.{reverse}
use Rattle.dayfile.specs.Bytes.{weighed}
use Rattle.dayfile.proofs.Numbers.{Bytes, bytes_drop, bytes_take}

pub weighed_none : (i : ℕ) → weighed i [] ≡ 0
unfolding weighed
weighed_none i = refl

pub weighed_append : (i : ℕ) (xs ys : List ℕ) → weighed i (xs ++ ys) ≡ weighed i xs + weighed (i + length xs) ys
unfolding weighed
weighed_append i [] ys = let e = ap (λ k. weighed k ys) (add-zero i) in omega (arith, e)
weighed_append i (x ∷ xs) ys =
    let e : i + 1 + length xs ≡ i + suc (length xs) = omega arith in
    let s = ap (λ k. weighed k ys) e in
    omega (arith, weighed_append (i + 1) xs ys, s)

-- bytes that stand n places later count n times more each
pub weighed_shift : (i n : ℕ) (xs : List ℕ) → weighed (i + n) xs ≡ weighed i xs + n * sum xs
unfolding weighed
weighed_shift i n [] = omega arith
weighed_shift i n (x ∷ xs) =
    let e : i + n + 1 ≡ i + 1 + n = omega arith in
    let s = ap (λ k. weighed k xs) e in
    let m : (i + n + 1) * x ≡ (i + 1) * x + n * x = ap (λ k. k * x) e ∙ add-mul (i + 1) n x in
    let t : n * sum (x ∷ xs) ≡ n * x + n * sum xs = ap (λ k. n * k) (sum_by-cons (λ y. y) x xs) ∙ mul-add n x (sum xs) in
    omega (arith, s, m, t, weighed_shift (i + 1) n xs)

-- a column more by y
pub weighed_add : (i : ℕ) (xs : List ℕ) (k y : ℕ) → k < length xs → weighed i (set xs k (get_or xs k 0 + y)) ≡ weighed i xs + (i + k + 1) * y
unfolding weighed
weighed_add i [] k y h = absurd (omega arith)
weighed_add i (x ∷ xs) zero y h =
    let e : i + 0 + 1 ≡ i + 1 = omega arith in
    omega (arith, mul-add (i + 1) x y, ap (λ j. j * y) e)
weighed_add i (x ∷ xs) (suc k) y h =
    let e : i + 1 + k + 1 ≡ i + suc k + 1 = omega arith in
    omega (arith, weighed_add (i + 1) xs k y (omega arith), ap (λ j. j * y) e)

pub sum_add : (xs : List ℕ) (k y : ℕ) → k < length xs → sum (set xs k (get_or xs k 0 + y)) ≡ sum xs + y
sum_add xs k y h = omega (arith, sum_by-set (λ x. x) xs k (get_or xs k 0 + y) 0 h)

pub weighed_more : (xs : List ℕ) (k : ℕ) → k < length xs → weighed 0 (take (k + 1) xs) ≡ weighed 0 (take k xs) + (k + 1) * get_or xs k 0
unfolding weighed
weighed_more xs k h =
    let n = length-take-le k xs (omega arith) in
    let e : weighed (0 + length (take k xs)) (get_or xs k 0 ∷ []) ≡ (k + 1) * get_or xs k 0 = ap (λ j. weighed (0 + j) (get_or xs k 0 ∷ [])) n ∙ ap (λ j. (j + 1) * get_or xs k 0 + 0) (zero-add k) ∙ add-zero ((k + 1) * get_or xs k 0) in
    ap (weighed 0) (take_more xs k 0 h) ∙ weighed_append 0 (take k xs) (get_or xs k 0 ∷ []) ∙ omega (arith, e)

pub weighed_take_le : (xs : List ℕ) (k : ℕ) → weighed 0 (take k xs) ≤ weighed 0 xs
weighed_take_le xs k =
    let e = ap (weighed 0) (take-append-drop k xs) in
    let s = weighed_append 0 (take k xs) (drop k xs) in
    omega (arith, e, s)

-- what the check of bytes can be at most
pub sum_bytes : (xs : List ℕ) → Bytes xs → sum xs ≤ length xs * 255
sum_bytes xs h = sum_by_le (λ x. x) 255 xs (All-from_get_or (λ x. x ≤ 255) xs 0 (λ i l. omega (arith, h i)))

pub weighed_le : (m i : ℕ) (xs : List ℕ) → i + length xs ≤ m → weighed i xs ≤ m * sum xs
unfolding weighed
weighed_le m i [] h = omega arith
weighed_le m i (x ∷ xs) h =
    let t : m * sum (x ∷ xs) ≡ m * x + m * sum xs = ap (λ k. m * k) (sum_by-cons (λ y. y) x xs) ∙ mul-add m x (sum xs) in
    let l : i + 1 ≤ m = omega arith in
    let p : (i + 1) * x ≤ m * x = mul-le-mul l (le_refl x) in
    omega (arith, t, p, weighed_le m (i + 1) xs (omega arith))

-- what is left of the first n bytes from a place on: a row of w bytes, and the rest
pub rest_row : (bs : List ℕ) (n a w : ℕ) → a + w ≤ n → drop a (take n bs) ≡ take w (drop a bs) ++ drop (a + w) (take n bs)
rest_row bs n a w h =
    let e : a + (n - a) ≡ n = omega arith in
    sym (take-append-drop w (drop a (take n bs)))
    ∙ ap (λ t. t ++ drop w (drop a (take n bs)))
    (ap (λ k. take w (drop a (take k bs))) (sym e)
    ∙ ap (take w) (drop-take a (n - a) bs)
    ∙ take-take w (n - a) (drop a bs) (omega arith))
    ∙ ap (λ t. take w (drop a bs) ++ t) (drop-drop w a (take n bs))

pub sum_rest_le : (bs : List ℕ) (a : ℕ) → Bytes bs → sum (drop a (take 508 bs)) ≤ 508 * 255
sum_rest_le bs a h =
    let s = sum_bytes (drop a (take 508 bs)) (bytes_drop a (take 508 bs) (bytes_take 508 bs h)) in
    let d = length-drop a (take 508 bs) in
    let t = length-take 508 bs in
    omega (arith, s, d, t)

pub weighed_rest_le : (bs : List ℕ) (a : ℕ) → Bytes bs → weighed 0 (drop a (take 508 bs)) ≤ 508 * (508 * 255)
weighed_rest_le bs a h =
    let d = length-drop a (take 508 bs) in
    let t = length-take 508 bs in
    let w = weighed_le 508 0 (drop a (take 508 bs)) (omega (arith, d, t)) in
    let s = sum_rest_le bs a h in
    omega (arith, w, s)

-- THE COLUMNS hold the rest of the first 508 bytes of a block, from a row on
pub record Columns (once often bs : List ℕ) (row : ℕ) : Type 0 where
  pub wide : length once ≡ 16
  pub whole : sum once ≡ sum (drop (16 * row) (take 508 bs))
  pub placed : weighed 0 once + 16 * sum often ≡ weighed 0 (drop (16 * row) (take 508 bs))

-- the last row, of twelve bytes, is added to columns of zeros
pub columns_none : (once often last bs zero_once zero_often : List ℕ) → last ≡ drop 496 (take 508 bs) → length once ≡ 16
    → weighed 0 zero_once ≡ 0 → sum zero_once ≡ 0 → sum zero_often ≡ 0
    → sum once ≡ sum zero_once + sum last
    → weighed 0 once ≡ weighed 0 zero_once + weighed 0 last
    → sum often ≡ sum zero_often + sum (take (length last) zero_once)
    → Columns once often bs 31
columns_none once often last bs zero_once zero_often is wide zw zs zo s w o =
    let upto = sum_by-take-le (λ x. x) zero_once (length last) in
    record {
      wide = wide;
      whole = omega (arith, s, zs, ap sum is);
      placed = omega (arith, w, o, upto, zw, zs, zo, ap (weighed 0) is);
    }

-- a chunk of w bytes
get_or_chunks : (w n i : ℕ) (bs d : List ℕ) → i < n → get_or (first_chunks w n bs) i d ≡ take w (drop (i * w) bs)
get_or_chunks w zero i bs d h = absurd (omega arith)
get_or_chunks w (suc n) zero bs d h = ap (λ k. take w (drop k bs)) (sym (zero-mul w))
get_or_chunks w (suc n) (suc i) bs d h =
    let e : w + i * w ≡ suc i * w = omega (arith, suc-mul i w) in
    get_or_chunks w n i (drop w bs) d (omega arith) ∙ ap (take w) (drop-drop (i * w) w bs ∙ ap (λ k. drop k bs) e)

-- the row that a loop from the last of the 31 whole rows back comes to after n rows
pub row_back : (bs row : List ℕ) (rows : List (List ℕ)) (n : ℕ) → length bs ≡ 512
    → rows ≡ first_chunks 16 (length (take 508 bs) / 16) (take 508 bs) → length rows ≡ length (take 508 bs) / 16
    → (n < length (reverse rows)) × (row ≡ get_or (reverse rows) n row)
    → (n < 31) × (row ≡ take 16 (drop (16 * (30 - n)) bs))
row_back bs row rows n long is len (low, at) =
    let t = length-take 508 bs in
    let r = length-reverse rows in
    let k : length (take 508 bs) / 16 ≡ 31 = omega (arith, t) in
    let back : length rows - 1 - n ≡ 30 - n = omega (arith, len, k) in
    let place : (30 - n) * 16 ≡ 16 * (30 - n) = omega arith in
    let inside : 16 * (30 - n) + (508 - 16 * (30 - n)) ≡ 508 = omega arith in (
      omega (arith, low, r, len, k),
      at ∙ get_or-reverse rows n row (omega (arith, low, r))
          ∙ ap (λ i. get_or rows i row) back
          ∙ ap (λ l. get_or l (30 - n) row) (is ∙ ap (λ m. first_chunks 16 m (take 508 bs)) k)
          ∙ get_or_chunks 16 31 (30 - n) (take 508 bs) row (omega arith)
          ∙ ap (λ m. take 16 (drop m (take 508 bs))) place
          ∙ ap (λ m. take 16 (drop (16 * (30 - n)) (take m bs))) (sym inside)
          ∙ ap (take 16) (drop-take (16 * (30 - n)) (508 - 16 * (30 - n)) bs)
          ∙ take-take 16 (508 - 16 * (30 - n)) (drop (16 * (30 - n)) bs) (omega arith),
    )

-- at the row before: row i is right in front of the rest from row j on
module _ (once often bs row : List ℕ) (i j : ℕ) (next : j ≡ i + 1) (low : j ≤ 31) (long : 508 ≤ length bs) (is : row ≡ take 16 (drop (16 * i) bs)) (c : Columns once often bs j) where
  row_long : length row ≡ 16
  row_long = ap length is ∙ length-take-le 16 (drop (16 * i) bs) (omega (arith, length-drop (16 * i) bs))

  row_cut : drop (16 * i) (take 508 bs) ≡ row ++ drop (16 * j) (take 508 bs)
  row_cut =
      let e : 16 * i + 16 ≡ 16 * j = omega arith in
      rest_row bs 508 (16 * i) 16 (omega arith) ∙ ap (λ k. take 16 (drop (16 * i) bs) ++ drop k (take 508 bs)) e ∙ ap (λ t. t ++ drop (16 * j) (take 508 bs)) (sym is)

  row_sum : sum (drop (16 * i) (take 508 bs)) ≡ sum row + sum once
  row_sum = ap sum row_cut ∙ sum_by-append (λ x. x) row (drop (16 * j) (take 508 bs)) ∙ ap (λ n. sum row + n) (sym c.whole)

  row_weighed : weighed 0 (drop (16 * i) (take 508 bs)) ≡ weighed 0 row + (weighed 0 once + 16 * sum often + 16 * sum once)
  row_weighed =
      let rest = drop (16 * j) (take 508 bs) in
      ap (weighed 0) row_cut
      ∙ weighed_append 0 row rest
      ∙ ap (λ k. weighed 0 row + weighed (0 + k) rest) row_long
      ∙ ap (λ x. weighed 0 row + x) (weighed_shift 0 16 rest)
      ∙ omega (arith, c.whole, c.placed)

  -- the row can be added
  pub columns_room : Bytes bs → (length row ≤ 16) × ((sum once + sum row < 2 ^ 32) × (sum often + sum once < 2 ^ 32))
  columns_room h = (
    omega (arith, row_long),
    (
      omega (arith, row_sum, sum_rest_le bs (16 * i) h),
      omega (arith, c.whole, c.placed, sum_rest_le bs (16 * j) h, weighed_rest_le bs (16 * j) h),
    ),
  )

  -- the row is added
  pub columns_more : (once' often' : List ℕ) → length once' ≡ 16 → sum once' ≡ sum once + sum row → weighed 0 once' ≡ weighed 0 once + weighed 0 row
      → sum often' ≡ sum often + sum (take (length row) once) → Columns once' often' bs i
  columns_more once' often' wide s w o =
      let all : sum (take (length row) once) ≡ sum once = ap sum (take_all (length row) once (omega (arith, row_long, c.wide))) in
      record {
        wide = wide;
        whole = omega (arith, s, row_sum);
        placed = omega (arith, w, o, all, row_weighed);
      }

-- no row is left
pub columns_all : (once often bs : List ℕ) (j : ℕ) → j ≡ 0 → Columns once often bs j → weighed 0 once + 16 * sum often ≡ weighed 0 (take 508 bs)
columns_all once often bs j z c = c.placed ∙ ap (λ k. weighed 0 (drop (16 * k) (take 508 bs))) z
