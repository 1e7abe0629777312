-- Records written one after the other: one block more behind those before it, and the first record that is refused.
use Rattle.std.proofs.Common.{◌≡◌, ℕ, zero, suc, ◌+◌, ◌-◌, ◌*◌, ◌<◌, ◌≤◌, List, [], ◌∷◌, ◌++◌, length, take, drop, slice_index_or, Some, None, Ok, Err, Option, Result, sym, refl, ap, ◌∙◌, subst, append-nil, inl, inr, arith}
use Rattle.std.specs.List.{flat_map}
use Rattle.std.specs.Prelude.{option_and_then}
use Rattle.std.proofs.Math.Numerals.{add-one}
use Rattle.std.proofs.lemmas.List.{append_assoc, length-append, length-drop, drop-drop, drop_all, take_at, drop_at, take_all}
use Rattle.std.proofs.lemmas.Option.{slice_get-get_or}
use Rattle.std.proofs.lemmas.Bool.{cases_lt}
use Rattle.dayfile.specs.declared.fault.Fault.{Fault}
use Rattle.dayfile.specs.declared.record.Record.{Record}
use Rattle.dayfile.specs.declared.record.Record.TheVariants.{Day}
use Rattle.dayfile.specs.Records.{encode}
use Rattle.dayfile.specs.Writing.{unwritten, Done, Writes}
use Rattle.small_day.specs.Writing.{refusal_at, FirstWritten, WritesRecords}

-- the first k + 1 pieces joined
joined_suc : {A : Type 0} (f : A → List ℕ) (xs : List A) (k : ℕ) (d : A) → k < length xs → flat_map f (take (suc k) xs) ≡ flat_map f (take k xs) ++ f (slice_index_or xs k d)
joined_suc f [] k d l = absurd (omega (arith, l))
joined_suc f (x ∷ xs) zero d l = append-nil (f x)
joined_suc f (x ∷ xs) (suc k) d l = ap (λ y. f x ++ y) (joined_suc f xs k d (omega (arith, l))) ∙ sym (append_assoc (f x) (flat_map f (take k xs)) (f (slice_index_or xs k d)))

joined_more : {A : Type 0} (f : A → List ℕ) (xs : List A) (k : ℕ) (d : A) → k < length xs → flat_map f (take (k + 1) xs) ≡ flat_map f (take k xs) ++ f (slice_index_or xs k d)
joined_more f xs k d l = ap (λ n. flat_map f (take n xs)) (add-one k) ∙ joined_suc f xs k d l

-- what a call has done that is not refused, or is refused for a fault
done_so : {S : Type 0} (o : Option Fault) (was done after : S) → Done o was done (Ok tt) after → (o ≡ None) × (after ≡ done)
done_so None was done after d = (refl, d.1)
done_so (Some f) was done after d = let z : ◌≡◌ {A = ℕ} 0 1 = cc in absurd (omega arith)

err_same : (g f : Fault) → ◌≡◌ {A = Result (Unit {0}) Fault} (Err f) (Err g) → g ≡ f
err_same g f e = cc

done_not : {S : Type 0} (o : Option Fault) (f : Fault) (was done after : S) → Done o was done (Err f) after → (o ≡ Some f) × (after ≡ was)
done_not None f was done after d = let z : ◌≡◌ {A = ℕ} 0 1 = cc in absurd (omega arith)
done_not (Some g) f was done after d = (ap Some (err_same g f d.0), d.1)

abbrev pub no_record : Record
no_record = Day (record { date = 0; version = 0; participants = 0; resources = 0 })

-- the turn of record k: the buffer `out` has the blocks before it, and `made` is what the writer left of the rest
module _ (rs : List Record) (was out made : List ℕ) (k : ℕ) (l : k < length rs) (first : FirstWritten k rs was out) (long : length (flat_map encode (take k rs)) ≡ 512 * k) (room : 512 * k ≤ length was) where
  abbrev front : List ℕ
  front = flat_map encode (take k rs)

  abbrev rest : List ℕ
  rest = take (length out - 512 * k) (drop (512 * k) out)

  abbrev put : List ℕ
  put = take (512 * k) out ++ (made ++ drop (length out - 512 * k) (drop (512 * k) out))

  behind : drop (512 * k) out ≡ drop (512 * k) was
  behind = ap (drop (512 * k)) first.1 ∙ drop_at front (drop (512 * k) was) (512 * k) long

  rest_is : rest ≡ drop (512 * k) was
  rest_is = take_all (length out - 512 * k) (drop (512 * k) out) (omega (arith, length-drop (512 * k) out)) ∙ behind

  rest_long : length rest ≡ length was - 512 * k
  rest_long = ap length rest_is ∙ length-drop (512 * k) was

  put_is : put ≡ front ++ made
  put_is =
      ap (λ x. take (512 * k) out ++ (made ++ x)) (drop_all (length out - 512 * k) (drop (512 * k) out) (omega (arith, length-drop (512 * k) out)))
      ∙ ap (λ x. take (512 * k) out ++ x) (append-nil made)
      ∙ ap (λ x. x ++ made) (ap (take (512 * k)) first.1 ∙ take_at front (drop (512 * k) was) (512 * k) long)

  refusal_is : refusal_at rs (length was) k ≡ unwritten (slice_index_or rs k no_record) (length rest)
  refusal_is =
      ap (option_and_then (λ r. unwritten r (length was - 512 * k))) (slice_get-get_or rs k no_record l)
      ∙ ap (unwritten (slice_index_or rs k no_record)) (sym rest_long)

  -- refused, it ends the writing
  pub stopped : (f : Fault) (answer result : Result (Unit {0}) Fault) → answer ≡ Err f → result ≡ Err f → Writes (slice_index_or rs k no_record) rest answer made → WritesRecords rs was result put
  stopped f answer result e q v =
      let w = subst (λ a. Writes (slice_index_or rs k no_record) rest a made) e v in
      let t = done_not (unwritten (slice_index_or rs k no_record) (length rest)) f rest (encode (slice_index_or rs k no_record) ++ drop 512 rest) made w in
      subst (λ a. WritesRecords rs was a put) (sym q) (k, l, refusal_is ∙ t.0, (first.0, put_is ∙ ap (λ x. front ++ x) (t.1 ∙ rest_is)))

  -- written, it stands behind the others
  pub record More : Type 0 where
    pub fine : refusal_at rs (length was) k ≡ None
    pub joined : length (flat_map encode (take (k + 1) rs)) ≡ 512 * (k + 1)
    pub written : put ≡ flat_map encode (take (k + 1) rs) ++ drop (512 * (k + 1)) was

  pub went_on : (answer : Result (Unit {0}) Fault) → answer ≡ Ok tt → length made ≡ length rest → 512 ≤ length rest → Writes (slice_index_or rs k no_record) rest answer made → More
  went_on answer e n m v =
      let w = subst (λ a. Writes (slice_index_or rs k no_record) rest a made) e v in
      let r = slice_index_or rs k no_record in
      let t = done_so (unwritten r (length rest)) rest (encode r ++ drop 512 rest) made w in
      let more = joined_more encode rs k no_record l in
      let b : length (encode r) ≡ 512 = omega (arith, n, m, ap length t.1, length-append (encode r) (drop 512 rest), length-drop 512 rest) in
      record {
        fine = refusal_is ∙ t.0;
        joined = ap length more ∙ length-append front (encode r) ∙ omega (arith, long, b);
        written =
            put_is ∙ ap (λ x. front ++ x) (t.1 ∙ ap (λ x. encode r ++ drop 512 x) rest_is)
            ∙ ap (λ x. front ++ (encode r ++ x)) (drop-drop 512 (512 * k) was)
            ∙ sym (append_assoc front (encode r) (drop (512 * k + 512) was))
            ∙ ap (λ x. x ++ drop (512 * k + 512) was) (sym more)
            ∙ ap (λ i. flat_map encode (take (k + 1) rs) ++ drop i was) (omega arith);
      }

-- the records before k, and record k
pub all_to : (rs : List Record) (n k : ℕ) → ((i : ℕ) → i < k → refusal_at rs n i ≡ None) → refusal_at rs n k ≡ None → (i : ℕ) → i < k + 1 → refusal_at rs n i ≡ None
all_to rs n k before at i l = elim (cases_lt i k) [ inl a ↦ before i a | inr b ↦ subst (λ j. refusal_at rs n j ≡ None) (omega (arith, l, b)) at ]
