-- What a step over an event tells of the events so far.
use Rattle.std.proofs.Common.{◌≡◌, ℕ, suc, ◌+◌, ◌<◌, Bool, true, false, cond, List, Some, None, sym, refl, ap, subst, inl, inr, arith}
use Rattle.std.proofs.lemmas.Bool.{cases_lt}
use Rattle.std.proofs.lemmas.Option.{none-some}
use Rattle.dayfile.specs.declared.record.Event.{Event}
use Rattle.explanation.specs.Misfits.{behind, event, status_behind}

pub status_next : (on_line : ℕ) (es : List Event) (k : ℕ) → status_behind on_line es (k + 1) ≡ behind (k + 1) (event es k) (status_behind on_line es k)
unfolding status_behind
status_next on_line es k = let e : k + 1 ≡ suc k = omega arith in ap (status_behind on_line es) e

pub none_where : {A : Type 0} (b : Bool) (x : A) → cond b (Some x) None ≡ None → b ≡ false
none_where true x e = absurd (none-some x (sym e))
none_where false x e = refl

-- a test that holds below k and at k holds below k + 1
pub one_more : (test : ℕ → Bool) (k : ℕ) → ((j : ℕ) → j < k → test j ≡ true) → test k ≡ true → (j : ℕ) → j < k + 1 → test j ≡ true
one_more test k below here j l =
    elim (cases_lt j k) [
      | inl m ↦ below j m
      | inr m ↦ (let e : k ≡ j = omega arith in subst (λ i. test i ≡ true) e here)
    ]
