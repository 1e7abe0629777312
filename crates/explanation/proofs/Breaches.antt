-- The rule that owners break says what is not allowed, and where none is found, the owners keep their rules.
use Rattle.std.proofs.Common.{◌≡◌, ℕ, ◌+◌, ◌-◌, ◌<◌, ◌≤◌, Bool, true, cond, ◌&&◌, eqb, ltb, leb, List, [], ◌∷◌, take, drop, Some, None, Option, refl, inl, inr, arith}
use Rattle.std.specs.Option.{option_or}
use Rattle.std.proofs.lemmas.Bool.{and_from, eq-eqb, lt-ltb, le-leb, cases_lt}
use Rattle.dayfile.specs.declared.record.Owner.{Owner}
use Rattle.dayfile.specs.Owners.{placed, parts_of, vacant, owners_kept}
use Rattle.dayfile.proofs.Tells.{Tells, holds, fails, tells_eqb, tells_ltb, tells_leb}
use Rattle.explanation.specs.declared.finding.OwnersRule.{OwnersRule}
use Rattle.explanation.specs.declared.finding.OwnersRule.TheVariants.{Rising, Below, Parts, Sum, Unused}
use Rattle.explanation.specs.Shares.{used_rule, sum_rule, unused_rule, owners_rule}
use Rattle.explanation.specs.Outside.{OutsideOwners}

-- a rule that is found broken is; where none is found, P holds
abbrev pub Says : Option OwnersRule → Type 0 → Type 0
Says None P = P
Says (Some x) P = OutsideOwners x

says_like : {P Q : Type 0} (o : Option OwnersRule) → (P → Q) → Says o P → Says o Q
says_like None g s = g s
says_like (Some x) g s = s

says_both : (P Q : Type 0) (a b : Option OwnersRule) → Says a P → Says b Q → Says (option_or a b) (P × Q)
says_both P Q None b s t = says_like b (λ q. (s, q)) t
says_both P Q (Some x) b s t = s

used_says : (i least limit : ℕ) (os : List Owner) → Says (used_rule i least limit os) (placed least limit os ≡ true)
unfolding used_rule placed
used_says i least limit [] = refl
used_says i least limit (o ∷ os) =
    go (tells_ltb o.place least) (tells_leb limit o.place) (tells_eqb o.parts 0) (used_rule (i + 1) (o.place + 1) limit os) (used_says (i + 1) (o.place + 1) limit os)
  where
    keeps : (o.place < least → ⊥) → (limit ≤ o.place → ⊥) → (o.parts ≡ 0 → ⊥) → (leb least o.place && (ltb o.place limit && ltb 0 o.parts)) ≡ true
    keeps a b c =
        let a' : least ≤ o.place = elim (cases_lt o.place least) [ inl l ↦ absurd (a l) | inr l ↦ l ] in
        let b' : o.place < limit = elim (cases_lt o.place limit) [ inl l ↦ l | inr l ↦ absurd (b l) ] in
        let c' : 0 < o.parts = omega arith in
        and_from (leb least o.place) (ltb o.place limit && ltb 0 o.parts) (le-leb least o.place a')
        (and_from (ltb o.place limit) (ltb 0 o.parts) (lt-ltb o.place limit b') (lt-ltb 0 o.parts c'))

    go : {x y z : Bool} → Tells (o.place < least) x → Tells (limit ≤ o.place) y → Tells (o.parts ≡ 0) z
        → (rest : Option OwnersRule) → Says rest (placed (o.place + 1) limit os ≡ true)
        → Says (cond x (Some (Rising i o.place (least - 1))) (cond y (Some (Below i o.place limit)) (cond z (Some (Parts i)) rest))) (placed least limit (o ∷ os) ≡ true)
    go (holds a) t u rest s = omega arith
    go (fails a) (holds b) u rest s = b
    go (fails a) (fails b) (holds c) rest s = tt
    go (fails a) (fails b) (fails c) rest s =
        says_like rest (λ p. and_from (leb least o.place && (ltb o.place limit && ltb 0 o.parts)) (placed (o.place + 1) limit os) (keeps a b c) p) s

sum_says : (os : List Owner) → Says (sum_rule os) (eqb (parts_of os) 1000000 ≡ true)
sum_says os = go (tells_eqb (parts_of os) 1000000)
  where
    go : {x : Bool} → Tells (parts_of os ≡ 1000000) x → Says (cond x None (Some (Sum (parts_of os)))) (eqb (parts_of os) 1000000 ≡ true)
    go (holds e) = eq-eqb (parts_of os) 1000000 e
    go (fails e) = e

unused_says : (i : ℕ) (os : List Owner) → Says (unused_rule i os) (vacant os ≡ true)
unfolding unused_rule vacant
unused_says i [] = refl
unused_says i (o ∷ os) = go (tells_eqb o.place 0) (tells_eqb o.parts 0) (unused_rule (i + 1) os) (unused_says (i + 1) os)
  where
    go : {x y : Bool} → Tells (o.place ≡ 0) x → Tells (o.parts ≡ 0) y → (rest : Option OwnersRule) → Says rest (vacant os ≡ true)
        → Says (cond (x && y) rest (Some (Unused i o.place o.parts))) (vacant (o ∷ os) ≡ true)
    go (holds a) (holds b) rest s =
        says_like rest (λ v. and_from (eqb o.place 0 && eqb o.parts 0) (vacant os) (and_from (eqb o.place 0) (eqb o.parts 0) (eq-eqb o.place 0 a) (eq-eqb o.parts 0 b)) v) s
    go (holds a) (fails b) rest s = inr b
    go (fails a) t rest s = inl a

pub rule_says : (limit count : ℕ) (os : List Owner) → Says (owners_rule limit count os) (owners_kept limit count os ≡ true)
rule_says limit count os =
    let us = take count os in
    let P : Type 0 = placed 0 limit (take count os) ≡ true in
    let Q : Type 0 = eqb (parts_of (take count os)) 1000000 ≡ true in
    let R : Type 0 = vacant (drop count os) ≡ true in
    let used = used_rule 1 0 limit us in
    let s = says_both P Q used (sum_rule us) (used_says 1 0 limit us) (sum_says us) in
    says_like (owners_rule limit count os)
    (λ p. and_from (placed 0 limit us && eqb (parts_of us) 1000000) (vacant (drop count os)) (and_from (placed 0 limit us) (eqb (parts_of us) 1000000) p.0.0 p.0.1) p.1)
    (says_both (P × Q) R (option_or used (sum_rule us)) (unused_rule (count + 1) (drop count os)) s (unused_says (count + 1) (drop count os)))
