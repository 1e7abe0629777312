-- The block of a record: its length, its bytes, its letter, its check.
use Rattle.std.proofs.Common.{◌≡◌, ℕ, zero, suc, ◌+◌, ◌*◌, ◌^◌, ◌<◌, ◌≤◌, true, List, [], ◌∷◌, ◌++◌, length, get_or, take, sym, refl, ap, ◌∙◌, mul-le-mul, mul-suc, arith}
use Rattle.std.specs.List.{flat_map, AllByRecursion}
use Rattle.std.proofs.lemmas.List.{append-nil, length-append, length-replicate, take_at, drop_at, take_all, drop_all, get_or-take}
use Rattle.std.proofs.ByRecursion.{All-append}
use Rattle.std.proofs.lemmas.Bool.{eq-eqb}
use Rattle.dayfile.specs.declared.record.Record.{Record}
use Rattle.dayfile.specs.declared.record.Record.TheVariants.{Day, Participant, Resource, RealTime}
use Rattle.dayfile.specs.declared.record.Load.{Load}
use Rattle.dayfile.specs.declared.record.Owner.{Owner}
use Rattle.dayfile.specs.declared.record.RealTimeHour.{RealTimeHour}
use Rattle.dayfile.specs.Bytes.{number, digits, value, weighed, zeros, laid}
use Rattle.dayfile.specs.Layout.{first_fault, table_for, all_sized}
use Rattle.dayfile.specs.Files.{checked, known}
use Rattle.dayfile.specs.Records.{word_bytes, signed_bytes, flag_bytes, event_bytes, load_bytes, owner_bytes, hour_bytes, body, encode, sealed, kind_of}
use Rattle.dayfile.specs.Widths.{load_long, word_long, signed_long, owner_long, hour_long, flag_long, event_long}
use Rattle.dayfile.specs.Writing.{Fitting}
use Rattle.dayfile.proofs.Numbers.{Bytes, length_digits, small_digits, number_digits, bytes_from_all}
use Rattle.dayfile.proofs.Each.{length_joined}
use Rattle.dayfile.proofs.Tables.{first_take}

pub encode_is : (r : Record) → encode r ≡ sealed (body r)
unfolding encode
encode_is r = refl

-- THE LENGTHS: a body has 508 bytes, a block 512
pub length_zeros : (n : ℕ) → length (zeros n) ≡ n
length_zeros n = length-replicate n 0

-- a piece of k bytes in front of the others
more : (xs ys : List ℕ) (k n : ℕ) → length xs ≡ k → length ys ≡ n → length (xs ++ ys) ≡ k + n
more xs ys k n e f = length-append xs ys ∙ omega (arith, e, f)

number_more : (w v : ℕ) (ys : List ℕ) (n : ℕ) → length ys ≡ n → length (digits w v ++ ys) ≡ w + n
number_more w v ys n f = more (digits w v) ys w n (length_digits w v) f

zeros_more : (k : ℕ) (ys : List ℕ) (n : ℕ) → length ys ≡ n → length (zeros k ++ ys) ≡ k + n
zeros_more k ys n f = more (zeros k) ys k n (length_zeros k) f

-- n parts of w bytes each
parts_more : {A : Type 0} (write : A → List ℕ) (w n : ℕ) (xs : List A) (ys : List ℕ) (m : ℕ) → ((x : A) → length (write x) ≡ w) → length xs ≡ n → length ys ≡ m
    → length (flat_map write xs ++ ys) ≡ n * w + m
parts_more write w n xs ys m l e f = more (flat_map write xs) ys (n * w) m (length_joined write w l xs ∙ ap (λ k. k * w) e) f

pub length_body : (r : Record) → Fitting r → length (body r) ≡ 508
length_body (Day d) f =
    ap suc (zeros_more 3 _ 504 (number_more 4 _ _ 500 (number_more 2 _ _ 498 (number_more 1 _ _ 497 (number_more 1 _ _ 496 (length_zeros 496))))))
length_body (Participant p) f =
    ap suc (zeros_more 3 _ 504 (number_more 4 _ _ 500 (parts_more load_bytes 12 8 p.loads _ 404 load_long f.1 (number_more 4 _ _ 400 (number_more 4 _ _ 396 (length_zeros 396))))))
length_body (Resource g) f =
    ap suc
    (number_more 1 _ _ 506 (number_more 1 _ _ 505 (number_more 1 _ _ 504 (number_more 4 _ _ 500 (number_more 4 _ _ 496 (number_more 4 _ _ 492
    (parts_more signed_bytes 4 24 g.prices _ 396 signed_long f.6
    (number_more 1 _ _ 395 (number_more 1 _ _ 394 (zeros_more 2 _ 392 (number_more 4 _ _ 388
    (parts_more owner_bytes 6 8 g.owners _ 340 owner_long f.11
    (parts_more word_bytes 4 24 g.cleared_kwh _ 244 word_long f.13
    (parts_more signed_bytes 4 24 g.lmps _ 148 signed_long f.15
    (parts_more flag_bytes 1 24 g.flags _ 124 flag_long f.17 (length_zeros 124))))))))))))))))
length_body (RealTime r) f =
    ap suc (zeros_more 3 _ 504 (number_more 4 _ _ 500 (number_more 4 _ _ 496
    (parts_more hour_bytes 12 24 r.hours _ 208 hour_long f.2
    (parts_more event_bytes 1 24 r.events _ 184 event_long f.4
    (parts_more flag_bytes 1 24 r.flags _ 160 flag_long f.5 (length_zeros 160)))))))

pub length_encode : (r : Record) → Fitting r → length (encode r) ≡ 512
unfolding encode
length_encode r f = more (body r) (digits 4 (weighed 0 (body r))) 508 4 (length_body r f) (length_digits 4 (weighed 0 (body r)))

pub body_front : (r : Record) → Fitting r → take 508 (encode r) ≡ body r
unfolding encode
body_front r f = take_at (body r) (digits 4 (weighed 0 (body r))) 508 (length_body r f)

-- THE LETTER
pub body_kind : (r : Record) → get_or (body r) 0 0 ≡ kind_of r
body_kind (Day d) = refl
body_kind (Participant p) = refl
body_kind (Resource g) = refl
body_kind (RealTime r) = refl

pub encode_kind : (r : Record) → get_or (encode r) 0 0 ≡ kind_of r
unfolding encode
encode_kind (Day d) = refl
encode_kind (Participant p) = refl
encode_kind (Resource g) = refl
encode_kind (RealTime r) = refl

pub kind_known : (r : Record) → known (kind_of r) ≡ true
kind_known (Day d) = refl
kind_known (Participant p) = refl
kind_known (Resource g) = refl
kind_known (RealTime r) = refl

pub encode_known : (r : Record) → known (get_or (encode r) 0 0) ≡ true
encode_known r = ap known (encode_kind r) ∙ kind_known r

-- THE FIELDS: a block's first fault is that of its body
kind_sized : (r : Record) → all_sized (table_for (kind_of r)) ≡ true
kind_sized (Day d) = refl
kind_sized (Participant p) = refl
kind_sized (Resource g) = refl
kind_sized (RealTime r) = refl

-- the table of a record's kind finds the same in its block as in its body
pub fault_by_kind : (r : Record) (b : List ℕ) → take 508 b ≡ body r → first_fault (table_for (kind_of r)) b ≡ first_fault (table_for (kind_of r)) (body r)
fault_by_kind r b e = sym (first_take (table_for (kind_of r)) b (kind_sized r)) ∙ ap (first_fault (table_for (kind_of r))) e

fault_of_body : (r : Record) (b : List ℕ) → take 508 b ≡ body r → first_fault (table_for (get_or b 0 0)) b ≡ first_fault (table_for (kind_of r)) (body r)
fault_of_body r b e =
    let k : get_or b 0 0 ≡ kind_of r = sym (get_or-take 508 b 0 0 (omega arith)) ∙ ap (λ t. get_or t 0 0) e ∙ body_kind r in
    ap (λ n. first_fault (table_for n) b) k ∙ fault_by_kind r b e

pub encode_fault : (r : Record) → Fitting r → first_fault (table_for (get_or (encode r) 0 0)) (encode r) ≡ first_fault (table_for (kind_of r)) (body r)
encode_fault r f = fault_of_body r (encode r) (body_front r f)

-- THE BYTES: all are below 256
abbrev Small : List ℕ → Type 0
Small bs = AllByRecursion (λ b. b < 256) bs

small_zeros : (n : ℕ) → Small (zeros n)
small_zeros zero = tt
small_zeros (suc n) = (omega arith, small_zeros n)

both : (xs ys : List ℕ) → Small xs → Small ys → Small (xs ++ ys)
both xs ys a b = All-append (λ b. b < 256) xs ys a b

-- a number's bytes, zeros or parts in front of other bytes
number_with : (w v : ℕ) (ys : List ℕ) → Small ys → Small (digits w v ++ ys)
number_with w v ys b = both (digits w v) ys (small_digits w v) b

zeros_with : (n : ℕ) (ys : List ℕ) → Small ys → Small (zeros n ++ ys)
zeros_with n ys b = both (zeros n) ys (small_zeros n) b

parts_with : {A : Type 0} (write : A → List ℕ) → ((x : A) → Small (write x)) → (xs : List A) (ys : List ℕ) → Small ys → Small (flat_map write xs ++ ys)
parts_with {A = A} write s xs ys b = both (flat_map write xs) ys (go xs) b
  where
    go : (xs : List A) → Small (flat_map write xs)
    go [] = tt
    go (x ∷ xs) = both (write x) (flat_map write xs) (s x) (go xs)

small_load : (l : Load) → Small (load_bytes l)
small_load l = number_with 4 _ _ (number_with 4 _ _ (small_digits 4 _))

small_owner : (o : Owner) → Small (owner_bytes o)
small_owner o = number_with 2 _ _ (small_digits 4 _)

small_hour : (h : RealTimeHour) → Small (hour_bytes h)
small_hour h = number_with 4 _ _ (number_with 4 _ _ (small_digits 4 _))

small_body : (r : Record) → Small (body r)
small_body (Day d) = (omega arith, zeros_with 3 _ (number_with 4 _ _ (number_with 2 _ _ (number_with 1 _ _ (number_with 1 _ _ (small_zeros 496))))))
small_body (Participant p) =
    (omega arith, zeros_with 3 _ (number_with 4 _ _ (parts_with load_bytes small_load p.loads _ (number_with 4 _ _ (number_with 4 _ _ (small_zeros 396))))))
small_body (Resource g) = (
  omega arith,
  number_with 1 _ _ (number_with 1 _ _ (number_with 1 _ _ (number_with 4 _ _ (number_with 4 _ _ (number_with 4 _ _
      (parts_with signed_bytes (λ z. small_digits 4 _) g.prices _
      (number_with 1 _ _ (number_with 1 _ _ (zeros_with 2 _ (number_with 4 _ _
      (parts_with owner_bytes small_owner g.owners _
      (parts_with word_bytes (λ n. small_digits 4 n) g.cleared_kwh _
      (parts_with signed_bytes (λ z. small_digits 4 _) g.lmps _
      (parts_with flag_bytes (λ f. small_digits 1 _) g.flags _ (small_zeros 124))))))))))))))),
)
small_body (RealTime r) = (
  omega arith,
  zeros_with 3 _ (number_with 4 _ _ (number_with 4 _ _
      (parts_with hour_bytes small_hour r.hours _
      (parts_with event_bytes (λ e. small_digits 1 _) r.events _
      (parts_with flag_bytes (λ f. small_digits 1 _) r.flags _ (small_zeros 160)))))),
)

pub body_bytes : (r : Record) → Bytes (body r)
body_bytes r = bytes_from_all (body r) (small_body r)

pub encode_bytes : (r : Record) → Bytes (encode r)
unfolding encode
encode_bytes r = bytes_from_all (encode r) (both (body r) (digits 4 (weighed 0 (body r))) (small_body r) (small_digits 4 (weighed 0 (body r))))

-- THE CHECK: it fits four bytes
weighed_le : (m i : ℕ) (bs : List ℕ) → i + length bs ≤ m → Small bs → weighed i bs ≤ m * 255 * length bs
unfolding weighed
weighed_le m i [] h s = omega arith
weighed_le m i (b ∷ bs) h s =
    let ih = weighed_le m (i + 1) bs (omega arith) s.1 in
    let a : i + 1 ≤ m = omega arith in
    let c : b ≤ 255 = omega (arith, s.0) in
    let p : (i + 1) * b ≤ m * 255 = mul-le-mul a c in
    omega (arith, ih, p, mul-suc (m * 255) (length bs))

pub weighed_fits : (r : Record) → Fitting r → weighed 0 (body r) < 256 ^ 4
weighed_fits r f =
    let l = length_body r f in
    let w = weighed_le 508 0 (body r) (omega (arith, l)) (small_body r) in
    let k : 508 * 255 * length (body r) ≡ 65806320 = ap (λ n. 508 * 255 * n) l in
    omega (arith, w, k)

read_check : (r : Record) → Fitting r → value 508 4 (encode r) ≡ weighed 0 (body r)
unfolding encode
read_check r f =
    let w = weighed 0 (body r) in
    let l = length_digits 4 (weighed 0 (body r)) in
    ap (λ t. number (take 4 t)) (drop_at (body r) (digits 4 w) 508 (length_body r f))
    ∙ ap number (take_all 4 (digits 4 w) (omega (arith, l)))
    ∙ number_digits 4 w (weighed_fits r f)

pub encode_checked : (r : Record) → Fitting r → checked (encode r) ≡ true
encode_checked r f = eq-eqb (value 508 4 (encode r)) (weighed 0 (take 508 (encode r))) (read_check r f ∙ sym (ap (weighed 0) (body_front r f)))

-- WRITTEN: the check behind the body, and so the block
pub sealed_is : (xs ys : List ℕ) (n : ℕ) → length xs ≡ 512 → ys ≡ laid xs 508 (digits 4 n) → n ≡ weighed 0 (take 508 xs) → ys ≡ sealed (take 508 xs)
sealed_is xs ys n l e f =
    let d = length_digits 4 n in
    e
    ∙ ap (λ t. take 508 xs ++ (digits 4 n ++ t)) (drop_all (508 + length (digits 4 n)) xs (omega (arith, d)))
    ∙ ap (λ t. take 508 xs ++ t) (append-nil (digits 4 n))
    ∙ ap (λ m. take 508 xs ++ digits 4 m) f

pub record Composed (r : Record) (block : List ℕ) : Type 0 where
  pub value : block ≡ encode r
  pub front : take 508 block ≡ body r
  pub len : length block ≡ 512

pub composed : (r : Record) (xs block : List ℕ) → Fitting r → xs ≡ body r ++ zeros 4 → block ≡ sealed (take 508 xs) → Composed r block
composed r xs block f e s =
    let v = s ∙ ap sealed (ap (take 508) e ∙ take_at (body r) (zeros 4) 508 (length_body r f)) ∙ sym (encode_is r) in
    record { value = v; front = ap (take 508) v ∙ body_front r f; len = ap length v ∙ length_encode r f }
