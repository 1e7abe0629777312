-- A block by itself is refused just for the first rule that it breaks.
use Rattle.std.proofs.Common.{◌≡◌, ℕ, Bool, true, cond, List, ◌++◌, length, get_or, take, drop, Some, None, Option, sym, refl, ap, ◌∙◌, subst, inl, inr, arith}
use Rattle.std.proofs.lemmas.List.{take_at}
use Rattle.dayfile.specs.declared.fault.Fault.{Fault}
use Rattle.dayfile.specs.declared.record.Record.{Record}
use Rattle.dayfile.specs.Bytes.{value, weighed}
use Rattle.dayfile.specs.Layout.{first_fault, table_for}
use Rattle.dayfile.specs.Owners.{Owned, owners_kept}
use Rattle.dayfile.specs.Records.{record_of, resource_of, encode}
use Rattle.dayfile.specs.Files.{checked, known, owned, lone_fault}
use Rattle.dayfile.specs.Keeping.{Keeps}
use Rattle.dayfile.specs.Writing.{Fitting}
use Rattle.dayfile.specs.Rules.{Rule, owners, at, refusal, BreaksAlone, First, RuledAlone}
use Rattle.dayfile.proofs.Numbers.{Bytes}
use Rattle.dayfile.proofs.Tables.{first_least}
use Rattle.dayfile.proofs.Tells.{Tells, holds, fails, tells_or, tells_eqb, kept_tells, Denies, clear, broken, denies_not}
use Rattle.dayfile.proofs.FirstRules.{Says, judged_says, line_rule}
use Rattle.dayfile.proofs.RuleLaws.{same_law}
use Rattle.dayfile.proofs.Encodings.{length_encode, encode_checked, encode_known, encode_fault}
use Rattle.dayfile.proofs.Rounds.{fitting_again, reads_back}
use Rattle.dayfile.proofs.Keepings.{kept_fits, kept_faultless, kept_owners, faultless_kept}
use Rattle.dayfile.proofs.Chains.{none_judged, lone_parts, lone_again, owned_is}

module _ (b : List ℕ) where
  owned_alone : Denies (BreaksAlone b owners) (owned 48 b)
  owned_alone = go (tells_eqb (get_or b 0 0) 71)
    where
      own : {x : Bool} → get_or b 0 0 ≡ 71 → Tells (Owned 48 (resource_of b).owner_count (resource_of b).owners) x → Denies (BreaksAlone b owners) x
      own e (holds p) = clear (λ x. x.1 p)
      own e (fails p) = broken (e, p)

      go : {x : Bool} → Tells (get_or b 0 0 ≡ 71) x → Denies (BreaksAlone b owners) (cond x (owners_kept 48 (resource_of b).owner_count (resource_of b).owners) true)
      go (holds e) = own e (kept_tells 48 (resource_of b).owner_count (resource_of b).owners)
      go (fails m) = clear (λ x. m x.0)

  says : Says (BreaksAlone b) 0 (lone_fault b)
  says =
      let c = get_or b 0 0 in
      judged_says (BreaksAlone b) 0
      (denies_not (tells_eqb (value 508 4 b) (weighed 0 (take 508 b))))
      (denies_not (tells_or (tells_eqb c 68) (tells_or (tells_eqb c 80) (tells_or (tells_eqb c 71) (tells_eqb c 82)))))
      (first_fault (table_for c) b) (λ o. first_least (table_for c) b) (clear (λ x. x)) owned_alone

  same_at : (q r : Rule) → refusal (at 0 q) ≡ refusal (at 0 r) → q ≡ r
  same_at q r e = let s = same_law (at 0 q) (at 0 r) e in cc

  refused_first : (o : Option Fault) → Says (BreaksAlone b) 0 o → (r : Rule) → o ≡ Some (refusal (at 0 r)) → First (BreaksAlone b) r
  refused_first None h r e = let z : ◌≡◌ {A = ℕ} 0 1 = cc in absurd (omega arith)
  refused_first (Some x) h r e =
      let q : x ≡ refusal (at 0 r) = cc in
      subst (First (BreaksAlone b)) (same_at h.0 r (sym h.1.0 ∙ q)) h.1.1

  first_refused : (o : Option Fault) → Says (BreaksAlone b) 0 o → (r : Rule) → First (BreaksAlone b) r → o ≡ Some (refusal (at 0 r))
  first_refused None h r g = absurd (h r g.0)
  first_refused (Some x) h r g =
      elim (line_rule r h.0) [
        | inl s ↦ absurd (h.1.1.1 r s g.0)
        | inr t ↦ elim t [
          | inl e ↦ ap Some (h.1.0 ∙ ap (λ q. refusal (at 0 q)) (sym e))
          | inr s ↦ absurd (g.1 h.0 s h.1.1.0)
        ]
      ]

  none_unbroken : (o : Option Fault) → Says (BreaksAlone b) 0 o → o ≡ None → (r : Rule) → BreaksAlone b r → ⊥
  none_unbroken None h e = h
  none_unbroken (Some x) h e = let z : ◌≡◌ {A = ℕ} 0 1 = cc in absurd (omega arith)

  unbroken_none : (o : Option Fault) → Says (BreaksAlone b) 0 o → ((r : Rule) → BreaksAlone b r → ⊥) → o ≡ None
  unbroken_none None h n = refl
  unbroken_none (Some x) h n = absurd (n h.0 h.1.1.0)

-- the block of a record that keeps its limits has no fault by itself, and only such blocks have none
pub kept_lone : (r : Record) → Keeps 48 r → lone_fault (encode r) ≡ None
kept_lone r k =
    let w = kept_fits 48 r (omega arith) k in
    none_judged 0 (checked (encode r)) (known (get_or (encode r) 0 0)) (first_fault (table_for (get_or (encode r) 0 0)) (encode r)) true (owned 48 (encode r))
    (encode_checked r w) (encode_known r) (encode_fault r w ∙ kept_faultless 48 r (omega arith) k) refl (owned_is 48 r w ∙ kept_owners 48 r k)

lone_kept : (b : List ℕ) → length b ≡ 512 → Bytes b → lone_fault b ≡ None → (r : Record) × (Keeps 48 r × (encode r ≡ b))
lone_kept b l h e =
    let r = record_of b in
    let w = fitting_again b h in
    let a = lone_again b l h e in
    let p = lone_parts b e in (
      r,
      (
        faultless_kept 48 r w (sym (encode_fault r w) ∙ ap (λ x. first_fault (table_for (get_or x 0 0)) x) a ∙ p.2) (sym (owned_is 48 r w) ∙ ap (owned 48) a ∙ p.4),
        a,
      ),
    )

pub ruled_alone : (b : List ℕ) → length b ≡ 512 → Bytes b → RuledAlone b (lone_fault b)
ruled_alone b l h =
    record {
      refused = λ r. (refused_first b (lone_fault b) (says b) r, first_refused b (lone_fault b) (says b) r);
      unbroken = (none_unbroken b (lone_fault b) (says b), unbroken_none b (lone_fault b) (says b));
      encodes = (lone_kept b l h, λ x. ap lone_fault (sym x.1.1) ∙ kept_lone x.0 x.1.0);
    }

-- what is written at the front of a buffer is read, and reads back equal
pub written_back : (r : Record) (was after : List ℕ) → Fitting r → Keeps 48 r → after ≡ encode r ++ drop 512 was → (lone_fault (take 512 after) ≡ None) × (record_of (take 512 after) ≡ r)
written_back r was after w k e =
    let t : take 512 after ≡ encode r = ap (take 512) e ∙ take_at (encode r) (drop 512 was) 512 (length_encode r w) in
    (ap lone_fault t ∙ kept_lone r k, ap record_of t ∙ reads_back r w)
