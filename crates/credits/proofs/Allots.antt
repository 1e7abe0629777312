-- Hours that share a credit: what they weigh, and what each gets.
use Rattle.std.proofs.Common.{◌≡◌, ℕ, zero, suc, ◌+◌, ◌*◌, ◌^◌, ◌<◌, ◌≤◌, Bool, true, false, cond, eqb, ltb, List, [], ◌∷◌, map, length, Some, None, Option, is_some, unwrap_or, option_map, ℤ, sum_by, sum, count_by, sym, refl, ap, ◌∙◌, subst, arith}
use mathlib.Core.Path.{fun_ext}
use Rattle.std.specs.Bool.{then_some}
use Rattle.std.specs.List.{AllByRecursion, range_with_len}
use Rattle.std.proofs.lemmas.Bool.{and_right}
use Rattle.std.proofs.lemmas.List.Sums.{sum_by-cons, sum-map, get_or-le-sum_by}
use Rattle.std.proofs.lemmas.List.FromFn.{length-map-range_with_len, get_or-map-range_with_len}
use Rattle.std.proofs.ByRecursion.{All-from_get_or}
use Rattle.division.specs.Division.{indivisible}
use Rattle.credits.specs.declared.share.HourShare.{HourShare}
use Rattle.credits.specs.Cents.{cents}
use Rattle.credits.specs.Allotments.{shared_kwh, even, weight, weights, level, claimed}
use Rattle.credits.specs.Weighing.{cut}

-- an hour that does not share: what a read past the end would give
abbrev pub no_share : HourShare
no_share = record { kwh = None; cents = 0 }

sum_by_map : {X Y : Type 0} (f : Y → ℕ) (g : X → Y) (xs : List X) → sum_by f (map g xs) ≡ sum_by (λ x. f (g x)) xs
sum_by_map f g [] = refl
sum_by_map f g (x ∷ xs) = sum_by-cons f (g x) (map g xs) ∙ ap (λ n. f (g x) + n) (sum_by_map f g xs) ∙ sym (sum_by-cons (λ y. f (g y)) x xs)

-- each is at most the sum
pub all_below_sum : {X : Type 0} (f : X → ℕ) (m : ℕ) (d : X) (xs : List X) → sum (map f xs) ≤ m → AllByRecursion (λ x. f x ≤ m) xs
all_below_sum f m d xs h =
    All-from_get_or (λ x. f x ≤ m) xs d (λ i l. omega (arith, get_or-le-sum_by f xs i d l, sum-map f xs))

-- the hours that are divided over: each with one kWh where none has kWh
abbrev pub levelled : List HourShare → List HourShare
levelled xs = cond (even xs) (map level xs) xs

abbrev pub weighs : HourShare → ℕ
weighs x = cut (shared_kwh x)

weighs_level : (xs : List HourShare) → map weighs (map level xs) ≡ map (weight true) xs
weighs_level [] = refl
weighs_level (x ∷ xs) = ap (λ n. n ∷ map weighs (map level xs)) (one x.kwh) ∙ ap (λ ws. weight true x ∷ ws) (weighs_level xs)
  where
    one : (o : Option ℕ) → cut (unwrap_or (option_map (λ _. 1) o) 0) ≡ cond (is_some o) 1 0
    one None = refl
    one (Some k) = refl

weighs_same : (xs : List HourShare) → AllByRecursion (λ x. shared_kwh x ≤ 2000000) xs → map weighs xs ≡ map (weight false) xs
weighs_same [] h = refl
weighs_same (x ∷ xs) h =
    let e : cut (shared_kwh x) ≡ shared_kwh x = omega arith in
    ap (λ n. n ∷ map weighs xs) e ∙ ap (λ ws. weight false x ∷ ws) (weighs_same xs h.1)

-- they weigh what they should, and as many share
pub weights_levelled : (xs : List HourShare) → AllByRecursion (λ x. shared_kwh x ≤ 2000000) xs → map weighs (levelled xs) ≡ weights xs
weights_levelled xs h = by_even (even xs)
  where
    by_even : (b : Bool) → map weighs (cond b (map level xs) xs) ≡ map (weight b) xs
    by_even true = weighs_level xs
    by_even false = weighs_same xs h

shares_levelled : (o : Option ℕ) → is_some (option_map (λ (_ : ℕ). suc zero) o) ≡ is_some o
shares_levelled None = refl
shares_levelled (Some k) = refl

pub sharing_levelled : (xs : List HourShare) → count_by (λ x. is_some x.kwh) (levelled xs) ≡ count_by (λ x. is_some x.kwh) xs
sharing_levelled xs = by_even (even xs)
  where
    by_even : (b : Bool) → count_by (λ x. is_some x.kwh) (cond b (map level xs) xs) ≡ count_by (λ x. is_some x.kwh) xs
    by_even true =
        sum_by_map (λ x. cond (is_some x.kwh) 1 0) level xs ∙ ap (λ (f : HourShare → ℕ). sum_by f xs) (fun_ext (λ x. ap (λ b. cond b 1 0) (shares_levelled x.kwh)))
    by_even false = refl

-- where an hour shares, something weighs
weighty : (xs : List HourShare) → eqb (count_by (λ x. is_some x.kwh) xs) 0 ≡ false → eqb (sum (weights xs)) 0 ≡ false
weighty xs some = by_even (even xs) refl
  where
    by_even : (b : Bool) → even xs ≡ b → eqb (sum (map (weight b) xs)) 0 ≡ false
    by_even true e = ap (λ n. eqb n 0) (sum-map (weight true) xs) ∙ some
    by_even false e = ap (λ n. eqb n 0) (sum-map (weight false) xs) ∙ e

pub divisible : (m : ℤ) (xs : List HourShare) → indivisible (claimed m xs) (weights xs) ≡ false
divisible m xs = by_sharing (eqb (count_by (λ x. is_some x.kwh) xs) 0) refl
  where
    by_sharing : (b : Bool) → eqb (count_by (λ x. is_some x.kwh) xs) 0 ≡ b → indivisible (cond b 0 (cents m)) (weights xs) ≡ false
    by_sharing true e = refl
    by_sharing false e = and_right (ltb 0 (cents m)) (eqb (sum (weights xs)) 0) (weighty xs e)

-- the kWh of hours of which each has few
pub kwh_few : (xs : List HourShare) → length xs ≡ 24 → AllByRecursion (λ x. shared_kwh x ≤ 2000000) xs → sum_by shared_kwh xs < 2 ^ 64
kwh_few xs l h = omega (arith, each_few xs h, l)
  where
    each_few : (ys : List HourShare) → AllByRecursion (λ x. shared_kwh x ≤ 2000000) ys → sum_by shared_kwh ys ≤ 2000000 * length ys
    each_few [] k = omega arith
    each_few (y ∷ ys) k = omega (arith, sum_by-cons shared_kwh y ys, each_few ys k.1, k.0)

-- hours of which each that shares has few kWh
pub few_shared : (b : Bool) (k most : ℕ) → k ≤ most → unwrap_or (then_some b k) 0 ≤ most
few_shared true k most l = l
few_shared false k most l = omega arith

pub all_light : (share : ℕ → HourShare) → ((h : ℕ) → h < 24 → shared_kwh (share h) ≤ 2000000) → AllByRecursion (λ x. shared_kwh x ≤ 2000000) (map share (range_with_len 0 24))
all_light share few =
    All-from_get_or (λ x. shared_kwh x ≤ 2000000) (map share (range_with_len 0 24)) no_share (λ h l.
    let m : h < 24 = omega (arith, length-map-range_with_len share 0 24) in
    subst (λ x. shared_kwh x ≤ 2000000) (sym (get_or-map-range_with_len share 0 24 h h no_share m (omega arith))) (few h m))
