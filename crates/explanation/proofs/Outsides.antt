-- Where a rule is broken, the finding for its refusal says what is not allowed.
use Rattle.std.proofs.Common.{◌≡◌, ℕ, zero, suc, ◌<◌, ◌≤◌, Bool, true, cond, eqb, List, Some, None, Option, unwrap_or, sym, ap, ◌∙◌, subst, inl, inr, arith}
use Rattle.std.proofs.lemmas.Bool.{cases_lt, eq-eqb, ne_eqb, cond-true, cond-false}
use Rattle.dayfile.specs.Files.{block, kind, number_in, kind_before, number_before, tally, latest}
use Rattle.dayfile.specs.Owners.{owners_kept}
use Rattle.dayfile.specs.Records.{resource_of}
use Rattle.dayfile.specs.Rules.{Law, check, order, field, number, owners, size, at, counts, refusal, Ordered, Untied, Last, Breaks, Broken}
use Rattle.dayfile.proofs.OwnerRules.{kept_owned}
use Rattle.dayfile.proofs.Tells.{Tells, holds, fails, tells_eqb, tells_and, tells_not}
use Rattle.explanation.specs.declared.finding.Finding.TheVariants.{NumberOfResource, Rising}
use Rattle.explanation.specs.declared.finding.FieldName.TheVariants.{Participant, Resource}
use Rattle.explanation.specs.declared.finding.OwnersRule.{OwnersRule}
use Rattle.explanation.specs.Names.{rows_for, row_at}
use Rattle.explanation.specs.Shares.{owners_rule}
use Rattle.explanation.specs.Findings.{finding, by_row, by_rule, field_finding, rising_finding, owners_finding}
use Rattle.explanation.specs.Outside.{Stands, Outside}
use Rattle.explanation.proofs.Fields.{Named, named_fault}
use Rattle.explanation.proofs.Breaches.{Says, rule_says}

module _ (f : List ℕ) where
  order_outside : (k : ℕ) → (Ordered f k → ⊥) → Stands (kind_before f k) (kind f k) → ⊥
  unfolding kind_before
  order_outside zero h s = h s
  order_outside (suc j) h s = h s

  -- the number of the last block of a kind
  last_is : (c k j : ℕ) → j < k → kind f j ≡ c → ((i : ℕ) → j < i → i < k → kind f i ≡ c → ⊥) → latest c f k ≡ Some (number_in f j)
  unfolding latest
  last_is c zero j l e n = absurd (omega arith)
  last_is c (suc k) j l e n = go (tells_eqb (kind f k) c) (λ s. last_is c k j s e (λ i a b. n i a (omega arith)))
    where
      go : {b : Bool} → Tells (kind f k ≡ c) b → (j < k → latest c f k ≡ Some (number_in f j)) → cond b (Some (number_in f k)) (latest c f k) ≡ Some (number_in f j)
      go (holds q) before =
          elim (cases_lt j k) [ inl s ↦ absurd (n k s (omega arith) q) | inr s ↦ (let d : k ≡ j = omega arith in ap (λ i. Some (number_in f i)) d) ]
      go (fails q) before =
          elim (cases_lt j k) [ inl s ↦ before s | inr s ↦ (let d : j ≡ k = omega arith in absurd (q (subst (λ i. kind f i ≡ c) d e))) ]

  last_above : (c k j : ℕ) → kind f k ≡ c → Last f j k → number_in f k ≤ number_in f j → number_in f k ≤ unwrap_or (latest c f k) 0
  last_above c k j e l h =
      let q = ap (λ o. unwrap_or o 0) (last_is c k j l.0 (l.1 ∙ e) (λ i a b w. l.2 i a b (w ∙ sym e))) in
      omega (arith, q, h)

  number_outside : (k : ℕ) → Breaks f k number → Outside (rising_finding k f)
  number_outside k b =
      let P = Rising Participant (number_in f k) (unwrap_or (latest 80 f k) 0) in
      let G = Rising Resource (number_in f k) (unwrap_or (latest 71 f k) 0) in
      elim b.0 [
        | inl e ↦ subst Outside (sym (cond-true (eqb (kind f k) 80) P G (eq-eqb (kind f k) 80 e))) (last_above 80 k b.1.0 e b.1.1.0 b.1.1.1)
        | inr e ↦ subst Outside (sym (cond-false (eqb (kind f k) 80) P G (ne_eqb (kind f k) 80 (λ z. omega (arith, z, e))))) (last_above 71 k b.1.0 e b.1.1.0 b.1.1.1)
      ]

  -- an R block whose number is not that of the block before it
  untied_before : (k : ℕ) → Untied f k → (kind f k ≡ 82) × (number_in f k ≡ number_before f k → ⊥)
  unfolding number_before
  untied_before zero u = absurd u
  untied_before (suc j) u = u

  field_outside : (k p : ℕ) → Breaks f k (field p) → Outside (field_finding (number_before f k) p (block f k))
  field_outside k p b = go (tells_and (tells_eqb (kind f k) 82) (tells_and (tells_eqb p 4) (tells_not (tells_eqb (number_in f k) (number_before f k)))))
    where
      other : Named (rows_for (kind f k)) p (block f k) → Outside (by_row (row_at (rows_for (kind f k)) p) p (block f k))
      other n = subst (λ o. Outside (by_row o p (block f k))) (sym n.1.0) n.1.1

      go : {x : Bool} → Tells ((kind f k ≡ 82) × ((p ≡ 4) × (number_in f k ≡ number_before f k → ⊥))) x
          → Outside (cond x (NumberOfResource (number_in f k) (number_before f k)) (by_row (row_at (rows_for (kind f k)) p) p (block f k)))
      go (holds h) = h.1.1
      go (fails h) =
          elim b [
            | inl d ↦ other (named_fault (kind f k) (block f k) p d)
            | inr d ↦ (let u = untied_before k d.1 in absurd (h (u.0, (d.0, u.1))))
          ]

  owners_outside : (k : ℕ) → Breaks f k owners → Outside (owners_finding (tally 80 f k) (block f k))
  owners_outside k b =
      let g = resource_of (block f k) in
      go (owners_rule (tally 80 f k) g.owner_count g.owners) (rule_says (tally 80 f k) g.owner_count g.owners)
    where
      go : (o : Option OwnersRule) → Says o (owners_kept (tally 80 f k) (resource_of (block f k)).owner_count (resource_of (block f k)).owners ≡ true) → Outside (by_rule o)
      go None s = absurd (b.1 (kept_owned (tally 80 f k) (resource_of (block f k)).owner_count (resource_of (block f k)).owners s))
      go (Some x) s = s

  pub outside : (l : Law) → Broken f l → Outside (finding (refusal l) f)
  outside size b = b
  outside (at k check) b = b.1
  outside (at k order) b = order_outside k b.1
  outside (at k (field p)) b = field_outside k p b.1
  outside (at k number) b = number_outside k b.1
  outside (at k owners) b = owners_outside k b.1
  outside counts b = elim b [ inl h ↦ inl (λ e. h (sym e)) | inr h ↦ inr (λ e. h (sym e)) ]
