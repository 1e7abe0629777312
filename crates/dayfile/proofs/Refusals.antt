-- Why a record is not written: from what the tests say to the refusal, and back.
use Rattle.std.proofs.Common.{◌≡◌, ℕ, ◌<◌, ◌≤◌, true, false, cond, ltb, ◌⊎◌, List, ◌++◌, length, take, drop, Some, None, Ok, Err, Option, sym, refl, ap, ◌∙◌, subst, inl, inr, arith}
use Rattle.std.proofs.lemmas.Bool.{cond-true, cond-false, cases_Bool, lt-ltb, le-ltb, ltb-false}
use Rattle.dayfile.specs.declared.fault.Fault.{Fault}
use Rattle.dayfile.specs.declared.fault.Fault.TheVariants.{RecordField, RecordOwners, Room}
use Rattle.dayfile.specs.declared.record.Record.{Record}
use Rattle.dayfile.specs.declared.record.Record.TheVariants.{Day, Participant, Resource, RealTime}
use Rattle.dayfile.specs.declared.record.ResourceRecord.{ResourceRecord}
use Rattle.dayfile.specs.declared.layout.Entry.{Entry}
use Rattle.dayfile.specs.Layout.{first_fault, table_for}
use Rattle.dayfile.specs.Files.{answer}
use Rattle.dayfile.specs.Records.{body, encode, kind_of}
use Rattle.dayfile.specs.Writing.{record_owned, unwritten, Done, Writes}
use Rattle.dayfile.proofs.Encodings.{fault_by_kind}

module _ (r : Record) (room : ℕ) where
  abbrev refused : Option ℕ → Option Fault
  refused o = elim o [ Some p ↦ Some (RecordField p) | None ↦ cond (record_owned 48 r) (cond (ltb room 512) (Some Room) None) (Some RecordOwners) ]

  pub refused_field : (p : ℕ) → first_fault (table_for (kind_of r)) (body r) ≡ Some p → unwritten r room ≡ Some (RecordField p)
  refused_field p e = ap refused e

  refused_else : first_fault (table_for (kind_of r)) (body r) ≡ None → unwritten r room ≡ cond (record_owned 48 r) (cond (ltb room 512) (Some Room) None) (Some RecordOwners)
  refused_else e = ap refused e

  pub refused_owners : first_fault (table_for (kind_of r)) (body r) ≡ None → record_owned 48 r ≡ false → unwritten r room ≡ Some RecordOwners
  refused_owners e o = refused_else e ∙ cond-false _ _ _ o

  pub refused_room : first_fault (table_for (kind_of r)) (body r) ≡ None → record_owned 48 r ≡ true → room < 512 → unwritten r room ≡ Some Room
  refused_room e o l = refused_else e ∙ cond-true _ _ _ o ∙ cond-true _ _ _ (lt-ltb room 512 l)

  pub unrefused : first_fault (table_for (kind_of r)) (body r) ≡ None → record_owned 48 r ≡ true → 512 ≤ room → unwritten r room ≡ None
  unrefused e o l = refused_else e ∙ cond-true _ _ _ o ∙ cond-false _ _ _ (le-ltb room 512 l)

-- what the table finds in the block
pub found : (r : Record) (b : List ℕ) (t : List Entry) (o : Option ℕ) → o ≡ first_fault t b → t ≡ table_for (kind_of r) → take 508 b ≡ body r
    → first_fault (table_for (kind_of r)) (body r) ≡ o
found r b t o e f g = sym (e ∙ ap (λ u. first_fault u b) f ∙ fault_by_kind r b g)

-- what a record that is written is
pub record Written (r : Record) (room : ℕ) : Type 0 where
  pub fields : first_fault (table_for (kind_of r)) (body r) ≡ None
  pub owners : record_owned 48 r ≡ true
  pub ample : 512 ≤ room

pub written : (r : Record) (room : ℕ) → unwritten r room ≡ None → Written r room
written r room e = go (first_fault (table_for (kind_of r)) (body r)) refl (cases_Bool (record_owned 48 r)) (cases_Bool (ltb room 512))
  where
    go : (o : Option ℕ) → first_fault (table_for (kind_of r)) (body r) ≡ o → (record_owned 48 r ≡ true) ⊎ (record_owned 48 r ≡ false) → (ltb room 512 ≡ true) ⊎ (ltb room 512 ≡ false) → Written r room
    go (Some p) q b l = let h : Some (RecordField p) ≡ None = sym (refused_field r room p q) ∙ e in let z : ◌≡◌ {A = ℕ} 0 1 = cc in absurd (omega arith)
    go None q (inr b) l = let h : Some RecordOwners ≡ None = sym (refused_owners r room q b) ∙ e in let z : ◌≡◌ {A = ℕ} 0 1 = cc in absurd (omega arith)
    go None q (inl b) (inl l) = let h : Some Room ≡ None = sym (refused_else r room q ∙ cond-true _ _ _ b ∙ cond-true _ _ _ l) ∙ e in let z : ◌≡◌ {A = ℕ} 0 1 = cc in absurd (omega arith)
    go None q (inl b) (inr l) = record { fields = q; owners = b; ample = ltb-false room 512 l }

-- only a Resource has owners
pub unowned : (limit : ℕ) (r : Record) → ((g : ResourceRecord) → r ≡ Resource g → ⊥) → record_owned limit r ≡ true
unowned limit (Day d) h = refl
unowned limit (Participant p) h = refl
unowned limit (Resource g) h = absurd (h g refl)
unowned limit (RealTime r) h = refl

-- the answer that a refusal gives tells the refusal
pub answer_err : (o : Option Fault) (f : Fault) → Err f ≡ answer o → o ≡ Some f
answer_err None f e = let z : ◌≡◌ {A = ℕ} 0 1 = cc in absurd (omega arith)
answer_err (Some g) f e = cc

pub answer_ok : (o : Option Fault) → Ok tt ≡ answer o → o ≡ None
answer_ok None e = refl
answer_ok (Some g) e = let z : ◌≡◌ {A = ℕ} 0 1 = cc in absurd (omega arith)

pub writes_not : (r : Record) (was : List ℕ) (f : Fault) → unwritten r (length was) ≡ Some f → Writes r was (Err f) was
writes_not r was f e = subst (λ o. Done o was (encode r ++ drop 512 was) (Err f) was) (sym e) (refl, refl)

pub writes_so : (r : Record) (was after : List ℕ) → unwritten r (length was) ≡ None → after ≡ encode r ++ drop 512 was → Writes r was (Ok tt) after
writes_so r was after e f = subst (λ o. Done o was (encode r ++ drop 512 was) (Ok tt) after) (sym e) (refl, f)
