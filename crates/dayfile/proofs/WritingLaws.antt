-- A record is written just where it keeps its limits and has room, and refused for just what it breaks first.
use Rattle.std.proofs.Common.{◌≡◌, ℕ, ◌<◌, ◌≤◌, Bool, true, cond, Some, None, Ok, Err, Option, Result, refl, ap, subst, inl, inr, arith}
use Rattle.std.proofs.lemmas.Bool.{cases_lt}
use Rattle.dayfile.specs.declared.fault.Fault.{Fault}
use Rattle.dayfile.specs.declared.fault.Fault.TheVariants.{RecordField, RecordOwners, Room}
use Rattle.dayfile.specs.declared.record.Record.{Record}
use Rattle.dayfile.specs.declared.record.Record.TheVariants.{Day, Participant, Resource, RealTime}
use Rattle.dayfile.specs.Layout.{first_fault, table_for, Faulty}
use Rattle.dayfile.specs.Records.{body, kind_of}
use Rattle.dayfile.specs.Files.{answer}
use Rattle.dayfile.specs.Keeping.{Keeps}
use Rattle.dayfile.specs.Rules.{JustWhere}
use Rattle.dayfile.specs.Writing.{Fitting, record_owned, unwritten, SharedOut, WrittenOnly}
use Rattle.dayfile.proofs.Tables.{Least, first_least, least_same}
use Rattle.dayfile.proofs.Tells.{Tells, holds, fails, tells_ltb, kept_tells}
use Rattle.dayfile.proofs.Keepings.{kept_faultless, kept_owners, faultless_kept}

-- the answer by what the tests say: the first faulty field, the owners, the room
abbrev says : Option ℕ → Bool → Bool → Result (Unit {0}) Fault
says o a b = answer (elim o [ Some p ↦ Some (RecordField p) | None ↦ cond a (cond b (Some Room) None) (Some RecordOwners) ])

pub record Answers (F : ℕ → Type 0) (S K : Type 0) (room : ℕ) (reply : Result (Unit {0}) Fault) : Type 0 where
  pub written : JustWhere (reply ≡ Ok tt) (K × (512 ≤ room))
  pub field : (p : ℕ) → JustWhere (reply ≡ Err (RecordField p)) (F p × ((q : ℕ) → q < p → F q → ⊥))
  pub owners : JustWhere (reply ≡ Err RecordOwners) (((p : ℕ) → F p → ⊥) × (S → ⊥))
  pub short : JustWhere (reply ≡ Err Room) (K × (room < 512))

clash : {P : Type 0} → ◌≡◌ {A = ℕ} 0 1 → P
clash z = absurd (omega arith)

module _ (F : ℕ → Type 0) (S K : Type 0) (room : ℕ) where
  answers : (o : Option ℕ) → Least F o → {a b : Bool} → Tells S a → Tells (room < 512) b → (K → o ≡ None) → (K → S) → (o ≡ None → S → K) → Answers F S K room (says o a b)
  answers (Some p) l s t n k m =
      record {
        written = (λ e. clash (cc), λ x. let q = n x.0 in clash (cc));
        field = λ q. ((λ e. let same : p ≡ q = cc in subst (λ i. F i × ((j : ℕ) → j < i → F j → ⊥)) same l), λ x. let e = least_same F (Some p) q l x.0 x.1 in let same : p ≡ q = cc in ap (λ i. Err (RecordField i)) same);
        owners = (λ e. clash (cc), λ x. absurd (x.0 p l.0));
        short = (λ e. clash (cc), λ x. let q = n x.0 in clash (cc));
      }
  answers None l (fails s) t n k m =
      record {
        written = (λ e. clash (cc), λ x. absurd (s (k x.0)));
        field = λ q. ((λ e. clash (cc)), λ x. absurd (l q x.0));
        owners = (λ e. (l, s), λ x. refl);
        short = (λ e. clash (cc), λ x. absurd (s (k x.0)));
      }
  answers None l (holds s) (holds t) n k m =
      record {
        written = (λ e. clash (cc), λ x. absurd (omega (arith, x.1)));
        field = λ q. ((λ e. clash (cc)), λ x. absurd (l q x.0));
        owners = (λ e. clash (cc), λ x. absurd (x.1 s));
        short = (λ e. (m refl s, t), λ x. refl);
      }
  answers None l (holds s) (fails t) n k m =
      record {
        written = (λ e. (m refl s, elim (cases_lt room 512) [ inl h ↦ absurd (t h) | inr h ↦ h ]), λ x. refl);
        field = λ q. ((λ e. clash (cc)), λ x. absurd (l q x.0));
        owners = (λ e. clash (cc), λ x. absurd (x.1 s));
        short = (λ e. clash (cc), λ x. absurd (t x.1));
      }

shared_tells : (r : Record) → Tells (SharedOut r) (record_owned 48 r)
shared_tells (Day d) = holds tt
shared_tells (Participant p) = holds tt
shared_tells (Resource g) = kept_tells 48 g.owner_count g.owners
shared_tells (RealTime q) = holds tt

told : {P : Type 0} {b : Bool} → Tells P b → b ≡ true → P
told (holds p) e = p
told (fails p) e = clash (cc)

tells : {P : Type 0} {b : Bool} → Tells P b → P → b ≡ true
tells (holds p) h = refl
tells (fails p) h = absurd (p h)

pub written_only : (r : Record) (room : ℕ) → Fitting r → WrittenOnly r room (answer (unwritten r room))
written_only r room w =
    let a = answers (Faulty (table_for (kind_of r)) (body r)) (SharedOut r) (Keeps 48 r) room (first_fault (table_for (kind_of r)) (body r)) (first_least (table_for (kind_of r)) (body r))
    (shared_tells r) (tells_ltb room 512) (λ k. kept_faultless 48 r (omega arith) k) (λ k. told (shared_tells r) (kept_owners 48 r k)) (λ e s. faultless_kept 48 r w e (tells (shared_tells r) s)) in
    record { written = a.written; field = a.field; owners = a.owners; short = a.short }
