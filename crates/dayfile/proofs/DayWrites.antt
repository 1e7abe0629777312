-- Writing an admitted day: no record of it is refused, and each turn writes its block.
use Rattle.std.proofs.Common.{◌≡◌, ℕ, ◌+◌, ◌-◌, ◌*◌, ◌<◌, ◌≤◌, Bool, true, false, cond, ltb, List, [], ◌∷◌, ◌++◌, length, take, drop, Some, None, Ok, Err, Option, Result, sym, refl, ap, ◌∙◌, subst, append-nil, arith, take-add}
use Rattle.std.specs.List.{flat_map, AllByRecursion}
use Rattle.std.proofs.lemmas.List.{append_assoc, length-append, length-take-le, length-drop, drop-drop, drop_all, take_at, drop_at, take_all}
use Rattle.std.proofs.lemmas.Bool.{cond-true, cond-false, le-ltb, lt-ltb}
use Rattle.dayfile.specs.declared.fault.Fault.{Fault}
use Rattle.dayfile.specs.declared.fault.Fault.TheVariants.{RecordField, RecordOwners, Room}
use Rattle.dayfile.specs.declared.record.Record.{Record}
use Rattle.dayfile.specs.declared.record.Record.TheVariants.{Day, Participant, Resource, RealTime}
use Rattle.dayfile.specs.declared.record.Owner.{Owner}
use Rattle.dayfile.specs.Owners.{Owned}
use Rattle.dayfile.specs.Layout.{first_fault, table_for}
use Rattle.dayfile.specs.Records.{record_of, encode, body, kind_of}
use Rattle.dayfile.specs.Writing.{record_owned, unwritten, Done, Writes}
use Rattle.dayfile.specs.Files.{tally, standing, block, blocks}
use Rattle.dayfile.specs.Days.{records, WritesDay}
use Rattle.dayfile.proofs.Numbers.{Bytes, bytes_drop}
use Rattle.dayfile.proofs.OwnerRules.{kept_owned, owned_kept}
use Rattle.dayfile.proofs.Chains.{BlockGood, block_good, bytes_take}
use Rattle.dayfile.proofs.FileLaws.{Passed, block_none, few_participants, records_again}

all_like : {A : Type 0} (P Q : A → Type 0) (xs : List A) → ((x : A) → P x → Q x) → AllByRecursion P xs → AllByRecursion Q xs
all_like P Q [] h a = tt
all_like P Q (x ∷ xs) h a = (h x a.0, all_like P Q xs h a.1)

-- owners below a limit are below a higher one
raised : (low high count : ℕ) (os : List Owner) → low ≤ high → Owned low count os → Owned high count os
raised low high count os l o =
    record {
      rising = o.rising;
      below = all_like (λ w. w.place < low) (λ w. w.place < high) (take count os) (λ w h. omega arith) o.below;
      above = o.above;
      whole = o.whole;
      unused = o.unused;
    }

owned_higher : (low high : ℕ) (r : Record) → low ≤ high → record_owned low r ≡ true → record_owned high r ≡ true
owned_higher low high (Day d) l e = refl
owned_higher low high (Participant p) l e = refl
owned_higher low high (Resource g) l e = owned_kept high g.owner_count g.owners (raised low high g.owner_count g.owners l (kept_owned low g.owner_count g.owners e))
owned_higher low high (RealTime r) l e = refl

pub unwritten_none : (r : Record) (room : ℕ) → first_fault (table_for (kind_of r)) (body r) ≡ None → record_owned 48 r ≡ true → 512 ≤ room → unwritten r room ≡ None
unwritten_none r room e o l = go (first_fault (table_for (kind_of r)) (body r)) (record_owned 48 r) (ltb room 512) e o (le-ltb room 512 l)
  where
    go : (u : Option ℕ) (a b : Bool) → u ≡ None → a ≡ true → b ≡ false
        → ◌≡◌ {A = Option Fault} (elim u [ Some p ↦ Some (RecordField p) | None ↦ cond a (cond b (Some Room) None) (Some RecordOwners) ]) None
    go (Some p) a b e o l = let z : ◌≡◌ {A = ℕ} 0 1 = cc in absurd (omega arith)
    go None false b e o l = let z : ◌≡◌ {A = ℕ} 0 1 = cc in absurd (omega arith)
    go None true true e o l = let z : ◌≡◌ {A = ℕ} 0 1 = cc in absurd (omega arith)
    go None true false e o l = refl

module _ (f : List ℕ) (h : Bytes f) (p : Passed f) (k : ℕ) (l : k < blocks f) where
  good : BlockGood (standing f k) (block f k)
  good =
      block_good (standing f k) k (block f k) (length-take-le 512 (drop (512 * k) f) (omega (arith, length-drop (512 * k) f)))
      (bytes_take 512 (drop (512 * k) f) (bytes_drop (512 * k) f h)) (block_none f k p l)

  pub block_unrefused : (room : ℕ) → 512 ≤ room → unwritten (record_of (block f k)) room ≡ None
  block_unrefused room m =
      unwritten_none (record_of (block f k)) room good.good.fields
      (owned_higher (tally 80 f k) 48 (record_of (block f k)) (few_participants f k p (omega arith)) good.good.shared) m

  pub block_again : encode (record_of (block f k)) ≡ block f k
  block_again = good.again

-- what a call that is not refused has done
pub done_none : {S : Type 0} (o : Option Fault) (was done : S) (answer : Result (Unit {0}) Fault) (after : S) → o ≡ None → Done o was done answer after → (answer ≡ Ok tt) × (after ≡ done)
done_none None was done answer after e d = d
done_none (Some x) was done answer after e d = let z : ◌≡◌ {A = ℕ} 0 1 = cc in absurd (omega arith)

-- one block more at the front of a buffer
pub front_more : (f out was after : List ℕ) (k : ℕ) → 512 * (k + 1) ≤ length f → length f ≤ length was → out ≡ take (512 * k) f ++ drop (512 * k) was
    → after ≡ take (512 * k) out ++ ((block f k ++ drop 512 (drop (512 * k) out)) ++ []) → after ≡ take (512 * (k + 1)) f ++ drop (512 * (k + 1)) was
front_more f out was after k l m e a =
    let n = length-take-le (512 * k) f (omega arith) in
    let t : take (512 * k) out ≡ take (512 * k) f = ap (take (512 * k)) e ∙ take_at (take (512 * k) f) (drop (512 * k) was) (512 * k) n in
    let d : drop (512 * k) out ≡ drop (512 * k) was = ap (drop (512 * k)) e ∙ drop_at (take (512 * k) f) (drop (512 * k) was) (512 * k) n in
    let q : 512 * k + 512 ≡ 512 * (k + 1) = omega arith in
    a ∙ ap (λ x. take (512 * k) out ++ x) (append-nil (block f k ++ drop 512 (drop (512 * k) out)))
    ∙ ap (λ x. x ++ (block f k ++ drop 512 (drop (512 * k) out))) t
    ∙ ap (λ x. take (512 * k) f ++ (block f k ++ drop 512 x)) d
    ∙ ap (λ x. take (512 * k) f ++ (block f k ++ x)) (drop-drop 512 (512 * k) was ∙ ap (λ i. drop i was) q)
    ∙ sym (append_assoc (take (512 * k) f) (block f k) (drop (512 * (k + 1)) was))
    ∙ ap (λ x. x ++ drop (512 * (k + 1)) was) (sym (take-add (512 * k) 512 f) ∙ ap (λ i. take i f) q)

-- a day refused for want of room, and a day written
pub day_refused : (f was : List ℕ) → length was < length f → WritesDay f was (Err Room) was
day_refused f was l =
    subst (λ o. Done o was (flat_map encode (records f) ++ drop (length f) was) (Err Room) was)
    (sym (cond-true (ltb (length was) (length f)) (Some Room) None (lt-ltb (length was) (length f) l))) (refl, refl)

pub day_written : (f was out : List ℕ) → Bytes f → Passed f → length f ≤ length was → out ≡ take (length f) f ++ drop (length f) was → WritesDay f was (Ok tt) out
day_written f was out h p l e =
    subst (λ o. Done o was (flat_map encode (records f) ++ drop (length f) was) (Ok tt) out)
    (sym (cond-false (ltb (length was) (length f)) (Some Room) None (le-ltb (length was) (length f) l)))
    (refl, e ∙ ap (λ x. x ++ drop (length f) was) (take_all (length f) f (omega arith) ∙ sym (records_again f h p)))

-- a turn: the record's block goes behind those before it, and is not refused
some_same : {A : Type 0} {x y : A} → Some x ≡ Some y → x ≡ y
some_same e = cc

pub record Turned (f was out made : List ℕ) (k : ℕ) (answer : Result (Unit {0}) Fault) : Type 0 where
  pub fine : answer ≡ Ok tt
  pub front : take (512 * k) out ++ (made ++ drop (length out - 512 * k) (drop (512 * k) out)) ≡ take (512 * (k + 1)) f ++ drop (512 * (k + 1)) was

pub turned : (f was out made : List ℕ) (k : ℕ) (r : Record) (answer : Result (Unit {0}) Fault) → Bytes f → Passed f → k < blocks f → length f ≤ length was
    → out ≡ take (512 * k) f ++ drop (512 * k) was → r ≡ record_of (block f k) → Writes r (take (length out - 512 * k) (drop (512 * k) out)) answer made → Turned f was out made k answer
turned f was out made k r answer h p l m e rec w =
    let rest = take (length out - 512 * k) (drop (512 * k) out) in
    let lo : length out ≡ length was = ap length e ∙ length-append (take (512 * k) f) (drop (512 * k) was) ∙ omega (arith, length-take-le (512 * k) f (omega (arith, p.whole)), length-drop (512 * k) was) in
    let ld = length-drop (512 * k) out in
    let same : take (length out - 512 * k) (drop (512 * k) out) ≡ drop (512 * k) out = take_all (length out - 512 * k) (drop (512 * k) out) (omega (arith, ld)) in
    let room : 512 ≤ length (take (length out - 512 * k) (drop (512 * k) out)) = omega (arith, ap length same, ld, lo, p.whole) in
    let n : unwritten r (length (take (length out - 512 * k) (drop (512 * k) out))) ≡ None = ap (λ x. unwritten x (length rest)) rec ∙ block_unrefused f h p k l (length rest) room in
    let d = done_none (unwritten r (length rest)) rest (encode r ++ drop 512 rest) answer made n w in
    let b : encode r ≡ block f k = ap encode rec ∙ block_again f h p k l in
    let t : drop (length out - 512 * k) (drop (512 * k) out) ≡ [] = drop_all (length out - 512 * k) (drop (512 * k) out) (omega (arith, ld)) in
    record {
      fine = d.0;
      front =
          front_more f out was (take (512 * k) out ++ (made ++ drop (length out - 512 * k) (drop (512 * k) out))) k (omega (arith, p.whole)) m e
          (ap (λ x. take (512 * k) out ++ (made ++ x)) t
          ∙ ap (λ x. take (512 * k) out ++ (x ++ [])) (d.1 ∙ ap (λ x. x ++ drop 512 rest) b ∙ ap (λ x. block f k ++ drop 512 x) same));
    }
