-- The weights of records: their sum, and what a loop over the records has read of them.
use Rattle.std.proofs.Common.{◌≡◌, ℕ, ◌+◌, ◌*◌, ◌/◌, ◌%◌, ◌<◌, ◌≤◌, ltb, List, [], ◌∷◌, map, length, get_or, sum_by, sum, sym, ap, ◌∙◌, arith}
use mir.Val.{bool_byte}
use Rattle.std.proofs.lemmas.List.{get_or-map}
use Rattle.std.specs.List.{range_with_len}
use Rattle.std.proofs.lemmas.List.Sums.{sum-map, sum_by-cons}
use Rattle.division.specs.Records.{Lawful, handed}
use Rattle.division.specs.Division.{whole_part, remainder, left_over, rank, share, divided}
use Rattle.division.proofs.Tallies.{tally, places_tally, tally_front, tally_more}
use Rattle.division.specs.Cuts.{tick}
use Rattle.division.proofs.Keys.{byte_tick, tick_less}
use Rattle.division.proofs.Parts.{wholes_within, left_is, whole_within}
use Rattle.division.proofs.FairLaws.{get_or_divided}
use Rattle.division.proofs.Handing.{handed_keeps}

-- the weight of a record that was read
pub weight_at : {S : Type 0} (weighs : S → ℕ) (xs : List S) (i : ℕ) (x : S) → i < length xs → x ≡ get_or xs i x → get_or (map weighs xs) i 0 ≡ weighs x
weight_at weighs xs i x l e = get_or-map weighs xs i x 0 l ∙ ap weighs (sym e)

-- the parts of an exact share
pub whole_is : (c total e i : ℕ) (ws : List ℕ) → total ≡ sum ws → e ≡ c * get_or ws i 0 → e / total ≡ whole_part c ws i
unfolding whole_part
whole_is c total e i ws s h = ap (λ x. x / total) h ∙ ap (λ y. c * get_or ws i 0 / y) s

pub remainder_is : (c total e i : ℕ) (ws : List ℕ) → total ≡ sum ws → e ≡ c * get_or ws i 0 → e % total ≡ remainder c ws i
unfolding remainder
remainder_is c total e i ws s h = ap (λ x. x % total) h ∙ ap (λ y. c * get_or ws i 0 % y) s

-- the whole parts of the records that were read, and of one more, are within the cents
pub wholes_more : (c : ℕ) (ws : List ℕ) (i : ℕ) → 0 < sum ws → i < length ws → tally (whole_part c ws) i + whole_part c ws i ≤ c
wholes_more c ws i h l =
    omega (arith, tally_more (whole_part c ws) i, tally_front (whole_part c ws) (i + 1) (length ws) (omega arith), wholes_within c ws h)

pub left_all : (c left i : ℕ) (ws : List ℕ) → i ≡ length ws → tally (whole_part c ws) i + left ≡ c → left ≡ left_over c ws
left_all c left i ws e h = omega (arith, left_is c ws, ap (tally (whole_part c ws)) e)

-- the weights are as they were, whoever has taken a share
pub weights_kept : {S : Type 0} (weighs holds : S → ℕ) (given : S → ℕ → S) → Lawful weighs holds given → (xs ys : List S) (cs : List ℕ)
    → ys ≡ handed given xs cs → map weighs ys ≡ map weighs xs
weights_kept weighs holds given laws xs ys cs e = ap (map weighs) e ∙ handed_keeps weighs given laws.weighing xs cs

-- the share of a record, from its parts
pub share_of : (c : ℕ) (ws : List ℕ) (i whole place left extra : ℕ)
    → whole ≡ whole_part c ws i → place ≡ rank c ws i → left ≡ left_over c ws → extra ≡ bool_byte (ltb place left) → whole + extra ≡ share c ws i
unfolding share
share_of c ws i whole place left extra q p l x =
    let b : ltb place left ≡ ltb (rank c ws i) (left_over c ws) = ap (λ y. ltb y left) p ∙ ap (ltb (rank c ws i)) l in
    ap (λ y. y + extra) q ∙ ap (λ y. whole_part c ws i + y) (x ∙ byte_tick (ltb place left) ∙ ap tick b)

-- a share is within the cents
pub share_within : (c : ℕ) (ws : List ℕ) (i : ℕ) → 0 < sum ws → i < length ws → share c ws i ≤ c
unfolding share
share_within c ws i h l = omega (arith, whole_within c ws i h l, tick_less (rank c ws i) (left_over c ws))

-- a share worked out over weights that are as they were is the division's
pub share_kept : (c : ℕ) (ws us : List ℕ) (i s : ℕ) → us ≡ ws → i < length ws → s ≡ share c us i → s ≡ get_or (divided c ws) i 0
share_kept c ws us i s k l e = e ∙ ap (λ vs. share c vs i) k ∙ sym (get_or_divided c ws i l)

-- no record weighs more than 100,000,000
pub weights_light : {S : Type 0} (weighs : S → ℕ) → ((x : S) → weighs x ≤ 100000000) → (xs : List S) → sum (map weighs xs) ≤ length xs * 100000000
weights_light weighs light xs = omega (arith, sum-map weighs xs, by xs)
  where
    by : (ys : List _) → sum_by weighs ys ≤ length ys * 100000000
    by [] = omega arith
    by (y ∷ ys) = omega (arith, sum_by-cons weighs y ys, light y, by ys)

-- all whole parts together are within the cents
pub wholes_fit : (c : ℕ) (ws : List ℕ) (n : ℕ) → n ≡ length ws → 0 < sum ws → sum_by (whole_part c ws) (range_with_len 0 n) ≤ c
wholes_fit c ws n e h = omega (arith, places_tally (whole_part c ws) n, ap (tally (whole_part c ws)) e, wholes_within c ws h)
