-- The cut-off over a list of keys.
use Rattle.std.proofs.Common.{◌≡◌, ℕ, suc, ◌+◌, ◌*◌, ◌<◌, ◌≤◌, leb, List, length, get_or, set, sum, sym, ap, ◌∙◌, subst, inl, inr, arith}
use Rattle.std.proofs.lemmas.List.FromFn.{length-map-range_with_len, get_or-map-range_with_len, fill_by_all}
use Rattle.std.proofs.lemmas.List.Edits.{fill_by_more}
use Rattle.std.proofs.lemmas.List.{take_all, length-map, get_or-map}
use Rattle.std.proofs.lemmas.Bool.{cases_lt, cases_eq}
use Rattle.division.specs.Division.{whole_part, remainder, left_over, share, divided}
use Rattle.division.specs.Cuts.{key, Distinct, tick, reached, part, noted, wholes, keys, topped}
use Rattle.division.specs.declared.few.Part.{Part}
use Rattle.division.proofs.Tallies.{front_tally, tally_same}
use mir.Val.{bool_byte}
use Rattle.division.proofs.Keys.{byte_tick, reach, reach_none, reach_all, reach_step, reach_less, keys_distinct}
use Rattle.division.proofs.Parts.{share_cut, key_below}

pub reached_reach : (b : ℕ) (ks : List ℕ) → reached b ks ≡ reach (λ i. get_or ks i 0) b (length ks)
reached_reach b ks =
    ap (reached b) (sym (take_all (length ks) ks (omega arith))) ∙ front_tally (λ k. tick (leb b k)) ks 0 (length ks) (omega arith)

pub reached_none : (b : ℕ) (ks : List ℕ) → ((i : ℕ) → i < length ks → get_or ks i 0 < b) → reached b ks ≡ 0
reached_none b ks h = reached_reach b ks ∙ reach_none (λ i. get_or ks i 0) b (length ks) h

pub reached_every : (ks : List ℕ) → reached 0 ks ≡ length ks
reached_every ks = reached_reach 0 ks ∙ reach_all (λ i. get_or ks i 0) (length ks)

-- between a bound that more than l different keys reach and one that fewer reach lies another
pub room_between : (ks : List ℕ) (l low high : ℕ) → Distinct (λ i. get_or ks i 0) (length ks) → l < reached low ks → reached high ks < l → low + 2 ≤ high
room_between ks l low high d more fewer =
    let k : ℕ → ℕ = λ i. get_or ks i 0 in
    let p = reached_reach low ks in
    let q = reached_reach high ks in
    elim (cases_lt low high) [
      | inl less ↦
          elim (cases_eq high (suc low)) [
            | inl e ↦
                (let s = reach_step k low (length ks) d in
                let r : reach k (suc low) (length ks) ≡ reached high ks = ap (λ b. reach k b (length ks)) (sym e) ∙ sym q in
                absurd (omega arith))
            | inr ne ↦ omega arith
          ]
      | inr past ↦ absurd (omega (arith, reach_less k high low (length ks) past))
    ]

-- what was noted of a place
pub length_noted : (c : ℕ) (ws : List ℕ) → length (noted c ws) ≡ length ws
unfolding noted
length_noted c ws = length-map-range_with_len (part c ws) 0 (length ws)

-- a loop that notes the parts of each place
pub noted_more : (c : ℕ) (ws : List ℕ) (ps : List Part) (i : ℕ) (d : Part) (q k : ℕ) → i < length ps → q ≡ whole_part c ws i → k ≡ key 64 (remainder c ws) i
    → ((j : ℕ) → j < i → get_or ps j d ≡ part c ws j) → (j : ℕ) → j < i + 1 → get_or (set ps i (record { whole = q; key = k })) j d ≡ part c ws j
noted_more c ws ps i d q k l e f h =
    let s : ◌≡◌ {A = Part} (part c ws i) (record { whole = q; key = k }) =
    sym (ap (λ x. record { whole = x; key = k }) e ∙ ap (λ x. record { whole = whole_part c ws i; key = x }) f) in
    subst (λ (p : Part). (j : ℕ) → j < i + 1 → get_or (set ps i p) j d ≡ part c ws j) s (fill_by_more (part c ws) ps i d l h)

pub noted_all : (c : ℕ) (ws : List ℕ) (ps : List Part) (d : Part) → length ps ≡ length ws → ((j : ℕ) → j < length ws → get_or ps j d ≡ part c ws j) → ps ≡ noted c ws
unfolding noted
noted_all c ws ps d l h = fill_by_all (part c ws) ps (length ws) d l h

pub noted_at : (c : ℕ) (ws : List ℕ) (i : ℕ) (d : Part) → i < length ws → get_or (noted c ws) i d ≡ part c ws i
unfolding noted
noted_at c ws i d l = get_or-map-range_with_len (part c ws) 0 (length ws) i i d l (omega arith)

pub whole_noted : (c : ℕ) (ws : List ℕ) (i : ℕ) → i < length ws → get_or (wholes (noted c ws)) i 0 ≡ whole_part c ws i
whole_noted c ws i l =
    get_or-map (λ p. p.whole) (noted c ws) i (part c ws i) 0 (omega (arith, length_noted c ws)) ∙ ap (λ p. p.whole) (noted_at c ws i (part c ws i) l)

pub key_noted : (c : ℕ) (ws : List ℕ) (i : ℕ) → i < length ws → get_or (keys (noted c ws)) i 0 ≡ key 64 (remainder c ws) i
key_noted c ws i l =
    get_or-map (λ p. p.key) (noted c ws) i (part c ws i) 0 (omega (arith, length_noted c ws)) ∙ ap (λ p. p.key) (noted_at c ws i (part c ws i) l)

pub length_keys : (c : ℕ) (ws : List ℕ) → length (keys (noted c ws)) ≡ length ws
length_keys c ws = length-map (noted c ws) (λ p. p.key) ∙ length_noted c ws

-- as many keys reach a bound as were noted that do
pub reached_noted : (c b : ℕ) (ws : List ℕ) → reached b (keys (noted c ws)) ≡ reach (key 64 (remainder c ws)) b (length ws)
reached_noted c b ws =
    let ks = keys (noted c ws) in
    reached_reach b ks ∙ ap (reach (λ i. get_or ks i 0) b) (length_keys c ws)
    ∙ tally_same (λ i. tick (leb b (get_or ks i 0))) (λ i. tick (leb b (key 64 (remainder c ws) i))) (length ws) (λ i l. ap (λ k. tick (leb b k)) (key_noted c ws i l))

-- what a list of shares by a cut has at a place
pub length_topped : (b : ℕ) (ps : List Part) → length (topped b ps) ≡ length ps
unfolding topped
length_topped b ps = length-map ps (λ p. p.whole + tick (leb b p.key))

pub topped_at : (b : ℕ) (ps : List Part) (i : ℕ) (d : Part) (one : ℕ) → i < length ps → one ≡ bool_byte (leb b (get_or ps i d).key)
    → (get_or ps i d).whole + one ≡ get_or (topped b ps) i 0
unfolding topped
topped_at b ps i d one l e =
    let p = get_or ps i d in
    ap (λ x. p.whole + x) (e ∙ byte_tick (leb b p.key)) ∙ sym (get_or-map (λ q. q.whole + tick (leb b q.key)) ps i d 0 l)

-- THE SHARES BY A CUT are those of the division
pub topped_divided : (c b : ℕ) (ws : List ℕ) → length ws ≤ 64 → reached b (keys (noted c ws)) ≡ left_over c ws → topped b (noted c ws) ≡ divided c ws
unfolding topped divided
topped_divided c b ws few r =
    let top : Part → ℕ = λ p. p.whole + tick (leb b p.key) in
    fill_by_all (share c ws) (topped b (noted c ws)) (length ws) 0 (length-map (noted c ws) top ∙ length_noted c ws)
    (λ i l.
    get_or-map top (noted c ws) i (part c ws i) 0 (omega (arith, length_noted c ws)) ∙ ap top (noted_at c ws i (part c ws i) l)
    ∙ sym (share_cut 64 c ws b i few l (sym (reached_noted c b ws) ∙ r)))

-- the keys are different, and below 64 times the weights
pub noted_distinct : (c : ℕ) (ws : List ℕ) → length ws ≤ 64 → Distinct (λ i. get_or (keys (noted c ws)) i 0) (length (keys (noted c ws)))
noted_distinct c ws few i j li lj t =
    let li' : i < length ws = omega (arith, length_keys c ws) in
    let lj' : j < length ws = omega (arith, length_keys c ws) in
    keys_distinct 64 (length ws) (remainder c ws) few i j li' lj' (sym (key_noted c ws i li') ∙ t ∙ key_noted c ws j lj')

pub noted_below : (c : ℕ) (ws : List ℕ) → length ws ≤ 64 → 0 < sum ws → (i : ℕ) → i < length (keys (noted c ws)) → get_or (keys (noted c ws)) i 0 < 64 * sum ws
noted_below c ws few some i l =
    let l' : i < length ws = omega (arith, length_keys c ws) in omega (arith, key_noted c ws i l', key_below 64 c ws i (omega arith) some)
