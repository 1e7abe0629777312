-- Cents divided over owners, and booked to their places.
use Rattle.std.proofs.Common.{◌≡◌, ℕ, ◌+◌, ◌<◌, ◌≤◌, Bool, true, false, cond, eqb, List, [], ◌∷◌, map, length, get_or, take, sum_by, sum, sym, refl, ap, ◌∙◌, arith}
use Rattle.std.specs.List.{AllByRecursion}
use Rattle.std.proofs.ByRecursion.{All-get_or}
use Rattle.std.proofs.lemmas.List.Sums.{sum_by-cons, sum_by_more}
use Rattle.dayfile.specs.declared.record.Owner.{Owner}
use Rattle.division.specs.Division.{divided, indivisible}
use Rattle.division.specs.Records.{handed}
use Rattle.division.proofs.FairLaws.{divided_fair}
use Rattle.division.proofs.Handing.{handed_keeps}
use Rattle.division.proofs.Outcomes.{some_divides, nothing_divides}
use Rattle.credits.specs.declared.owner.OwnerShare.{OwnerShare}
use Rattle.credits.specs.Weighing.{cut, placed_at}
use Rattle.credits.specs.Owning.{got, owned_cents, booked}

-- the owner and the share at which the checker reads
abbrev pub no_owner : Owner
no_owner = record { place = 0; parts = 0 }

abbrev pub no_share : OwnerShare
no_share = record { place = 0; parts = 0; cents = 0 }

-- one record more is booked
pub booked_more : {S : Type 0} (stands holds : S → ℕ) (xs : List S) (j : ℕ) (x : S) (place cents i : ℕ) → j < length xs → x ≡ get_or xs j x
    → place ≡ stands x → cents ≡ holds x → booked stands holds i (take (j + 1) xs) ≡ booked stands holds i (take j xs) + cond (eqb place i) cents 0
booked_more {S} stands holds xs j x place cents i l e s h =
    let f : S → ℕ = λ y. cond (eqb (stands y) i) (holds y) 0 in
    sum_by_more f xs j x l
    ∙ ap (λ y. sum_by f (take j xs) + f y) (sym e)
    ∙ ap (λ n. sum_by f (take j xs) + cond (eqb n i) (holds x) 0) (sym s)
    ∙ ap (λ n. sum_by f (take j xs) + cond (eqb place i) n 0) (sym h)

-- what a record holds that was read is as small as all
pub held_small : {S : Type 0} (holds : S → ℕ) (xs : List S) (j : ℕ) (x : S) (n most : ℕ) → j < length xs → x ≡ get_or xs j x → n ≡ holds x
    → AllByRecursion (λ y. holds y ≤ most) xs → n ≤ most
held_small holds xs j x n most l e h a = omega (arith, ap holds e, All-get_or (λ y. holds y ≤ most) xs j x l a)

-- what was added under a test, and is added under the same test again
pub add_again : (t : Bool) (a b c m n k : ℕ) → b ≡ a + cond t m 0 → c ≡ b + cond t n 0 → k ≡ m + n → c ≡ a + cond t k 0
add_again true a b c m n k p q r = omega arith
add_again false a b c m n k p q r = omega arith

pub add_few : (t u : Bool) (a b n most : ℕ) → b ≡ a + cond t (cond u n 0) 0 → a ≤ most → b ≤ most + n
add_few true true a b n most p q = omega arith
add_few true false a b n most p q = omega arith
add_few false u a b n most p q = omega arith

pub add_none : (t : Bool) (a n : ℕ) → n ≡ 0 → a ≡ a + cond t n 0
add_none true a n e = omega arith
add_none false a n e = omega arith

-- what is booked is what places get of the shares
pub booked_got : {S : Type 0} (stands holds : S → ℕ) (i : ℕ) (xs : List S) → booked stands holds i xs ≡ got i (map stands xs) (map holds xs)
unfolding got
booked_got stands holds i [] = refl
booked_got stands holds i (x ∷ xs) =
    sum_by-cons (λ y. cond (eqb (stands y) i) (holds y) 0) x xs ∙ ap (λ n. cond (eqb (stands x) i) (holds x) 0 + n) (booked_got stands holds i xs)

-- a place gets no more than all shares
pub got_within : (i : ℕ) (ps ss : List ℕ) → got i ps ss ≤ sum ss
unfolding got
got_within i [] ss = omega arith
got_within i (p ∷ ps) [] = omega arith
got_within i (p ∷ ps) (s ∷ ss) = few (eqb p i) (got i ps ss) (got_within i ps ss) (sum_by-cons (λ x. x) s ss)
  where
    few : (t : Bool) (n : ℕ) → n ≤ sum ss → sum (s ∷ ss) ≡ s + sum ss → cond t s 0 + n ≤ sum (s ∷ ss)
    few true n h e = omega arith
    few false n h e = omega arith

-- shares of cents over parts, of which there are some, add up to the cents
pub divided_whole : (c : ℕ) (parts : List ℕ) → 0 < sum parts → sum (divided c parts) ≡ c
divided_whole c parts h = (divided_fair c parts (some_divides c parts h)).whole

-- a place gets no more than the cents that are divided, and of 0 cents nothing
pub owned_within : (i : ℕ) (places parts : List ℕ) (c : ℕ) → 0 < sum parts → owned_cents i places parts c ≤ c
unfolding owned_cents
owned_within i places parts c h = omega (arith, got_within i places (divided c parts), divided_whole c parts h)

pub owned_nothing : (i : ℕ) (places parts : List ℕ) (c : ℕ) → c ≡ 0 → owned_cents i places parts c ≡ 0
unfolding owned_cents
owned_nothing i places parts c z = omega (arith, got_within i places (divided c parts), (divided_fair c parts (nothing_divides c parts z)).whole)

-- numbers within their sum
pub all_within : {S : Type 0} (f : S → ℕ) (xs : List S) (most : ℕ) → sum (map f xs) ≤ most → AllByRecursion (λ x. f x ≤ most) xs
all_within f [] most h = tt
all_within f (x ∷ xs) most h =
    let e = sum_by-cons (λ n. n) (f x) (map f xs) in (omega arith, all_within f xs most (omega arith))

-- a function that changes none of the elements
pub map_same : {S T : Type 0} (f g : S → T) (P : S → Type 0) → ((x : S) → P x → f x ≡ g x) → (xs : List S) → AllByRecursion P xs → map f xs ≡ map g xs
map_same f g P h [] a = refl
map_same f g P h (x ∷ xs) a = ap (λ y. y ∷ map f xs) (h x a.0) ∙ ap (λ ys. g x ∷ ys) (map_same f g P h xs a.1)

-- places below 48 and parts within the heaviest weight stand as they are
pub places_stand : {S : Type 0} (place : S → ℕ) (xs : List S) → AllByRecursion (λ x. place x < 48) xs → map (λ x. placed_at (place x)) xs ≡ map place xs
places_stand place xs a = map_same (λ x. placed_at (place x)) place (λ x. place x < 48) (λ x l. omega arith) xs a

pub parts_light : {S : Type 0} (parts : S → ℕ) (xs : List S) → sum (map parts xs) ≤ 100000000 → map (λ x. cut (parts x)) xs ≡ map parts xs
parts_light parts xs h = map_same (λ x. cut (parts x)) parts (λ x. parts x ≤ 100000000) (λ x l. omega arith) xs (all_within parts xs 100000000 h)

-- cents over owners with parts are divided
pub parts_divide : {S : Type 0} (parts : S → ℕ) (c : ℕ) (xs : List S) → sum (map parts xs) ≡ 1000000 → indivisible c (map (λ x. cut (parts x)) xs) ≡ false
parts_divide parts c xs h = some_divides c (map (λ x. cut (parts x)) xs) (omega (arith, ap sum (parts_light parts xs (omega arith))))

-- owners xs with parts of a million who took their shares of c cents, and are ys then
abbrev taken : OwnerShare → ℕ → OwnerShare
taken o c = record { place = o.place; parts = o.parts; cents = c }

module _ (c : ℕ) (xs ys : List OwnerShare) (below : AllByRecursion (λ o. o.place < 48) xs) (whole : sum (map (λ o. o.parts) xs) ≡ 1000000)
    (only : ys ≡ handed taken xs (map (λ o. o.cents) ys))
    (held : map (λ o. o.cents) ys ≡ divided c (map (λ o. cut o.parts) xs)) where
  kept : {X : Type 0} (f : OwnerShare → X) → ((o : OwnerShare) (n : ℕ) → f (taken o n) ≡ f o) → map f ys ≡ map f xs
  kept f h = ap (map f) only ∙ handed_keeps f taken h xs (map (λ o. o.cents) ys)

  pub same_places : map (λ o. o.place) ys ≡ map (λ o. o.place) xs
  same_places = kept (λ o. o.place) (λ o n. refl)

  pub same_parts : map (λ o. o.parts) ys ≡ map (λ o. o.parts) xs
  same_parts = kept (λ o. o.parts) (λ o n. refl)

  held_by_parts : map (λ o. o.cents) ys ≡ divided c (map (λ o. o.parts) xs)
  held_by_parts = held ∙ ap (divided c) (parts_light (λ o. o.parts) xs (omega arith))

  -- what is booked are the places' cents
  pub booked_owned : (i : ℕ) → booked (λ o. placed_at o.place) (λ o. o.cents) i ys ≡ owned_cents i (map (λ o. o.place) xs) (map (λ o. o.parts) xs) c
  unfolding owned_cents
  booked_owned i =
      booked_got (λ o. placed_at o.place) (λ o. o.cents) i ys
      ∙ ap (λ ps. got i ps (map (λ o. o.cents) ys)) (kept (λ o. placed_at o.place) (λ o n. refl) ∙ places_stand (λ o. o.place) xs below)
      ∙ ap (got i (map (λ o. o.place) xs)) held_by_parts

  -- each holds no more than the cents
  pub held_within : (most : ℕ) → c ≤ most → AllByRecursion (λ o. o.cents ≤ most) ys
  held_within most l =
      all_within (λ o. o.cents) ys most (omega (arith, ap sum held_by_parts, divided_whole c (map (λ o. o.parts) xs) (omega arith)))
