-- The division is fair.
use Rattle.std.proofs.Common.{◌≡◌, ℕ, suc, ◌+◌, ◌*◌, ◌/◌, ◌<◌, ◌≤◌, Bool, true, false, eqb, ltb, leb, List, [], ◌∷◌, length, get_or, sum, sym, refl, ap, ◌∙◌, subst, inl, inr, suc-mul, mul_comm, mul-zero, zero-mul, mul-one, mul-add, arith}
use native.Mathlib.Nat.{zero-div, div-le_of_le-mul}
use Rattle.std.specs.List.{range_with_len}
use Rattle.std.proofs.lemmas.Nat.{mul-le, div_below, le-div}
use Rattle.std.proofs.lemmas.List.FromFn.{length-map-range_with_len, get_or-map-range_with_len}
use Rattle.std.proofs.lemmas.List.{get_or_past}
use Rattle.std.proofs.lemmas.List.Sums.{sum-map}
use Rattle.std.proofs.lemmas.Bool.{cases_eq, cases_lt, le-ltb, leb-true, leb-false, ne_eqb, cond-false}
use Rattle.std.proofs.lemmas.Bool.Decides.{nat_tests}
use Rattle.division.specs.Division.{whole_part, remainder, left_over, sooner, rank, share, divided, indivisible}
use Rattle.division.specs.Fairness.{apart, scale, distance, distances, Fair}
use Rattle.division.proofs.Tallies.{tally, places_tally, sum_tally, tally_same, tally_le, tally_zero, tally_add}
use Rattle.division.specs.Cuts.{tick, key}
use Rattle.division.proofs.Keys.{tick_few}
use Rattle.division.proofs.Parts.{parts, remainder_below, made_up, left_is, left_among, rank_tally, share_cut, some_cut}
use Rattle.division.proofs.Closest.{nearer, closest_sum}

-- a remainder of 0 gets no extra cent
pub no_extra : (c : ℕ) (ws : List ℕ) (i : ℕ) → 0 < sum ws → remainder c ws i ≡ 0 → share c ws i ≡ whole_part c ws i
unfolding share
no_extra c ws i h e =
    let r = remainder c ws in
    let l = tally_le (λ j. tick (ltb 0 (r j))) (λ j. tick (sooner r i j)) (length ws) (λ j _. grind (arith, nat_tests)) in
    let t : ltb (rank c ws i) (left_over c ws) ≡ false = le-ltb (rank c ws i) (left_over c ws) (omega (arith, rank_tally c ws i, left_among c ws h)) in
    let z : whole_part c ws i + 0 ≡ whole_part c ws i = omega arith in
    ap (λ x. whole_part c ws i + tick x) t ∙ z

-- what weighs nothing gets nothing
pub share_weightless : (c : ℕ) (ws : List ℕ) (i : ℕ) → 0 < sum ws → get_or ws i 0 ≡ 0 → share c ws i ≡ 0
unfolding whole_part
share_weightless c ws i h e =
    let z : c * get_or ws i 0 ≡ 0 = ap (λ x. c * x) e ∙ mul-zero c in
    let q : whole_part c ws i ≡ 0 = ap (λ x. x / sum ws) z ∙ zero-div (sum ws) in
    no_extra c ws i h (omega (arith, parts c ws i)) ∙ q

-- 0 cents are divided into shares of 0
pub share_nothing : (ws : List ℕ) (i : ℕ) → share 0 ws i ≡ 0
unfolding share whole_part
share_nothing ws i =
    let q : whole_part 0 ws i ≡ 0 = ap (λ x. x / sum ws) (zero-mul (get_or ws i 0)) ∙ zero-div (sum ws) in
    let t : ltb (rank 0 ws i) (left_over 0 ws) ≡ false = le-ltb (rank 0 ws i) (left_over 0 ws) (omega (arith, left_is 0 ws)) in
    let z : whole_part 0 ws i + 0 ≡ 0 = omega arith in
    ap (λ x. whole_part 0 ws i + tick x) t ∙ z

-- the share that the division has at a place
pub length_divided : (c : ℕ) (ws : List ℕ) → length (divided c ws) ≡ length ws
unfolding divided
length_divided c ws = length-map-range_with_len (share c ws) 0 (length ws)

pub get_or_divided : (c : ℕ) (ws : List ℕ) (i : ℕ) → i < length ws → get_or (divided c ws) i 0 ≡ share c ws i
unfolding divided
get_or_divided c ws i l = get_or-map-range_with_len (share c ws) 0 (length ws) i i 0 l (omega arith)

pub divided_at : (c : ℕ) (ws : List ℕ) (i : ℕ) → 0 < sum ws → get_or (divided c ws) i 0 ≡ share c ws i
divided_at c ws i h =
    elim (cases_lt i (length ws)) [
      | inl l ↦ get_or_divided c ws i l
      | inr l ↦ get_or_past (divided c ws) i 0 (omega (arith, length_divided c ws)) ∙ sym (share_weightless c ws i h (get_or_past ws i 0 l))
    ]

pub nothing_at : (ws : List ℕ) (i : ℕ) → get_or (divided 0 ws) i 0 ≡ 0
nothing_at ws i =
    elim (cases_lt i (length ws)) [
      | inl l ↦ get_or_divided 0 ws i l ∙ share_nothing ws i
      | inr l ↦ get_or_past (divided 0 ws) i 0 (omega (arith, length_divided 0 ws))
    ]

-- the shares add up to the cents
pub sum_divided : (c : ℕ) (ws : List ℕ) → sum (divided c ws) ≡ tally (share c ws) (length ws)
unfolding divided
sum_divided c ws = sum-map (share c ws) (range_with_len 0 (length ws)) ∙ places_tally (share c ws) (length ws)

pub shares_whole : (c : ℕ) (ws : List ℕ) → 0 < sum ws → tally (share c ws) (length ws) ≡ c
shares_whole c ws h =
    let n = length ws in
    let k = key n (remainder c ws) in
    let cutting = some_cut c ws h in
    let b = cutting.0 in
    tally_same (share c ws) (λ i. whole_part c ws i + tick (leb b (k i))) n (λ i l. share_cut n c ws b i (omega arith) l cutting.2)
    ∙ tally_add (whole_part c ws) (λ i. tick (leb b (k i))) n
    ∙ ap (λ x. tally (whole_part c ws) n + x) cutting.2
    ∙ made_up c ws h

-- no share is a full cent off
pub share_near : (c : ℕ) (ws : List ℕ) (i : ℕ) → 0 < sum ws → apart (sum ws * share c ws i) (c * get_or ws i 0) < sum ws
unfolding share
share_near c ws i h = go (ltb (rank c ws i) (left_over c ws)) refl
  where
    near : (t : Bool) → ltb (rank c ws i) (left_over c ws) ≡ t → apart (sum ws * (whole_part c ws i + tick t)) (c * get_or ws i 0) < sum ws
    near false e =
        let z : whole_part c ws i + 0 ≡ whole_part c ws i = omega arith in
        let m = ap (λ x. sum ws * x) z in
        omega (arith, parts c ws i, remainder_below c ws i h)
    near true e =
        let m : sum ws * (whole_part c ws i + 1) ≡ sum ws * whole_part c ws i + sum ws = mul-add (sum ws) (whole_part c ws i) 1 ∙ ap (λ y. sum ws * whole_part c ws i + y) (mul-one (sum ws)) in
        let s : share c ws i ≡ whole_part c ws i + 1 = ap (λ x. whole_part c ws i + tick x) e in
        elim (cases_eq (remainder c ws i) 0) [
          | inl z ↦ absurd (omega (arith, no_extra c ws i h z))
          | inr nz ↦ omega (arith, parts c ws i, remainder_below c ws i h)
        ]

    go : (t : Bool) → ltb (rank c ws i) (left_over c ws) ≡ t → apart (sum ws * share c ws i) (c * get_or ws i 0) < sum ws
    go t e = subst (λ x. apart (sum ws * (whole_part c ws i + tick x)) (c * get_or ws i 0) < sum ws) (sym e) (near t e)

-- the heavier never gets less than the lighter
pub rank_less : (c : ℕ) (ws : List ℕ) (i j : ℕ) → remainder c ws i < remainder c ws j → rank c ws j ≤ rank c ws i
rank_less c ws i j l =
    let r = remainder c ws in
    let p = tally_le (λ k. tick (sooner r j k)) (λ k. tick (sooner r i k)) (length ws) (λ k _. grind (arith, nat_tests)) in
    omega (arith, rank_tally c ws i, rank_tally c ws j)

pub share_heavier : (c : ℕ) (ws : List ℕ) (i j : ℕ) → 0 < c → 0 < sum ws → get_or ws i 0 < get_or ws j 0 → share c ws i ≤ share c ws j
unfolding share
share_heavier c ws i j k h l =
    let w = sum ws in
    let qi = whole_part c ws i in
    let qj = whole_part c ws j in
    let m : c * get_or ws i 0 + c ≤ c * get_or ws j 0 =
    omega (arith, mul-le c (suc (get_or ws i 0)) c (get_or ws j 0) (omega arith) l, mul-add c (get_or ws i 0) 1, mul-one c, ap (λ x. c * x) (suc_is (get_or ws i 0))) in
    let pi = parts c ws i in
    let pj = parts c ws j in
    elim (cases_lt qi qj) [
      | inl less ↦ omega (arith, tick_few (ltb (rank c ws i) (left_over c ws)))
      | inr more ↦
          elim (cases_lt qj qi) [
            | inl above ↦
                (let x : w * (qj + 1) ≤ w * qi = mul-le w (qj + 1) w qi (omega arith) (omega arith) in
                absurd (omega (arith, mul-add w qj 1, mul-one w, remainder_below c ws j h)))
            | inr below ↦
                (let e : qi ≡ qj = omega arith in
                let f : w * qi ≡ w * qj = ap (λ x. w * x) e in
                let g = rank_less c ws i j (omega arith) in
                grind (arith, nat_tests))
          ]
    ]
  where
    suc_is : (n : ℕ) → suc n ≡ n + 1
    suc_is n = omega arith

-- no other division is closer
pub shares_closest : (c : ℕ) (ws : List ℕ) (b : ℕ → ℕ) → 0 < sum ws → tally b (length ws) ≡ c
    → tally (λ i. apart (sum ws * share c ws i) (c * get_or ws i 0)) (length ws) ≤ tally (λ i. apart (sum ws * b i) (c * get_or ws i 0)) (length ws)
shares_closest c [] b h e = absurd (omega arith)
shares_closest c (v ∷ vs) b h e =
    let ws = v ∷ vs in
    let w = sum ws in
    let n = length ws in
    let r = remainder c ws in
    let cutting = some_cut c ws h in
    let bound = cutting.0 in
    let t = bound / n in
    let few : t ≤ w = div-le_of_le-mul n (subst (λ x. bound ≤ x) (mul_comm w n) cutting.1) in
    closest_sum w t n (share c ws) b (λ i. apart (w * share c ws i) (c * get_or ws i 0)) (λ i. apart (w * b i) (c * get_or ws i 0))
    (shares_whole c ws h ∙ sym e)
    (λ i l.
    let q = whole_part c ws i in
    let x = c * get_or ws i 0 in
    let up = leb bound (key n r i) in
    let s = share_cut n c ws bound i (omega arith) l cutting.2 in
    let above : up ≡ true → t ≤ r i = λ u.
    let k = leb-true bound (key n r i) u in
    let d = div_below bound n (suc (r i)) (omega arith) (omega (arith, suc-mul (r i) n)) in
    omega arith in
    let below : up ≡ false → r i ≤ t = λ u.
    let k = leb-false bound (key n r i) u in
    le-div (r i) bound n (omega arith) (omega arith) in
    subst (λ a. apart (w * a) x + 2 * (t * a) + w * b i ≤ apart (w * b i) x + 2 * (t * b i) + w * a) (sym s)
    (nearer w t x q (r i) (b i) up (parts c ws i) (remainder_below c ws i h) few above below))

-- THE DIVISION IS FAIR, of 0 cents over any weights, and of any cents over weights that are not all 0
pub scale_some : (c : ℕ) (ws : List ℕ) → 0 < c → scale c ws ≡ sum ws
unfolding scale
scale_some c ws h = cond-false (eqb c 0) 1 (sum ws) (ne_eqb c 0 (λ e. omega arith))

fair_some : (c : ℕ) (ws : List ℕ) → 0 < c → 0 < sum ws → Fair c ws (divided c ws)
unfolding distance distances
fair_some c ws k h =
    let s = scale_some c ws k in
    let at : (i : ℕ) → get_or (divided c ws) i 0 ≡ share c ws i = λ i. divided_at c ws i h in
    let own : distances c ws (divided c ws) ≡ tally (λ i. apart (sum ws * share c ws i) (c * get_or ws i 0)) (length ws) =
    places_tally (λ i. distance c ws i (get_or (divided c ws) i 0)) (length ws)
    ∙ tally_same (λ i. distance c ws i (get_or (divided c ws) i 0)) (λ i. apart (sum ws * share c ws i) (c * get_or ws i 0)) (length ws)
    (λ i _. ap (λ x. apart (scale c ws * x) (c * get_or ws i 0)) (at i) ∙ ap (λ x. apart (x * share c ws i) (c * get_or ws i 0)) s) in
    record {
      matching = length_divided c ws;
      whole = sum_divided c ws ∙ shares_whole c ws h;
      near = λ i.
          subst (λ x. apart (scale c ws * x) (c * get_or ws i 0) < scale c ws) (sym (at i))
          (subst (λ x. apart (x * share c ws i) (c * get_or ws i 0) < x) (sym s) (share_near c ws i h));
      weightless = λ i e. at i ∙ share_weightless c ws i h e;
      heavier = λ i j l. omega (arith, at i, at j, share_heavier c ws i j k h l);
      closest = λ others e f.
          let b : ℕ → ℕ = λ i. get_or others i 0 in
          let g : tally b (length ws) ≡ c = ap (tally b) (sym e) ∙ sym (sum_tally others) ∙ f in
          let theirs : distances c ws others ≡ tally (λ i. apart (sum ws * b i) (c * get_or ws i 0)) (length ws) =
          places_tally (λ i. distance c ws i (b i)) (length ws)
          ∙ tally_same (λ i. distance c ws i (b i)) (λ i. apart (sum ws * b i) (c * get_or ws i 0)) (length ws)
          (λ i _. ap (λ x. apart (x * b i) (c * get_or ws i 0)) s) in
          omega (arith, own, theirs, shares_closest c ws b h g);
    }

fair_nothing : (ws : List ℕ) → Fair 0 ws (divided 0 ws)
unfolding scale distance distances
fair_nothing ws =
    let zero_apart : (i : ℕ) → distance 0 ws i (get_or (divided 0 ws) i 0) ≡ 0 = λ i.
    ap (λ x. apart (1 * x) (0 * get_or ws i 0)) (nothing_at ws i) ∙ ap (λ x. apart 0 x) (zero-mul (get_or ws i 0)) in
    record {
      matching = length_divided 0 ws;
      whole = sum_divided 0 ws ∙ tally_zero (share 0 ws) (length ws) (λ i _. share_nothing ws i);
      near = λ i. omega (arith, zero_apart i);
      weightless = λ i _. nothing_at ws i;
      heavier = λ i j _. omega (arith, nothing_at ws i, nothing_at ws j);
      closest = λ others _ _.
          let z : distances 0 ws (divided 0 ws) ≡ 0 =
          places_tally (λ i. distance 0 ws i (get_or (divided 0 ws) i 0)) (length ws)
          ∙ tally_zero (λ i. distance 0 ws i (get_or (divided 0 ws) i 0)) (length ws) (λ i _. zero_apart i) in
          omega (arith, z);
    }

pub divided_fair : (c : ℕ) (ws : List ℕ) → indivisible c ws ≡ false → Fair c ws (divided c ws)
divided_fair c ws h =
    elim (cases_eq c 0) [
      | inl e ↦ subst (λ x. Fair x ws (divided x ws)) (sym e) (fair_nothing ws)
      | inr ne ↦ fair_some c ws (omega arith) (grind (arith, nat_tests))
    ]
