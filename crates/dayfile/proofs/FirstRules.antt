-- The first rule that a block breaks, whatever breaks each of them.
use Rattle.std.proofs.Common.{◌≡◌, ℕ, ◌<◌, Bool, ◌⊎◌, Some, None, Option, sym, refl, ap, inl, inr, arith}
use Rattle.std.proofs.lemmas.Bool.{cases_lt}
use Rattle.dayfile.specs.declared.fault.Fault.{Fault}
use Rattle.dayfile.specs.Files.{judged}
use Rattle.dayfile.specs.Rules.{Rule, check, order, field, number, owners, at, refusal, turn, byte, Sooner, First}
use Rattle.dayfile.proofs.Tables.{Least}
use Rattle.dayfile.proofs.Tells.{Denies, clear, broken}

module _ (B : Rule → Type 0) where
  -- what block k says by its first fault
  abbrev pub Says : ℕ → Option Fault → Type 0
  Says k None = (r : Rule) → B r → ⊥
  Says k (Some x) = (r : Rule) × ((x ≡ refusal (at k r)) × First B r)

  -- no rule that comes sooner is broken
  none_before_check : (q : Rule) → Sooner q check → B q → ⊥
  none_before_check check s g = elim s [ inl x ↦ absurd (omega arith) | inr x ↦ absurd (omega (arith, x.0, x.1)) ]
  none_before_check order s g = elim s [ inl x ↦ absurd (omega arith) | inr x ↦ absurd (omega (arith, x.0, x.1)) ]
  none_before_check (field q) s g = elim s [ inl x ↦ absurd (omega arith) | inr x ↦ absurd (omega (arith, x.0, x.1)) ]
  none_before_check number s g = elim s [ inl x ↦ absurd (omega arith) | inr x ↦ absurd (omega (arith, x.0, x.1)) ]
  none_before_check owners s g = elim s [ inl x ↦ absurd (omega arith) | inr x ↦ absurd (omega (arith, x.0, x.1)) ]

  none_before_order : (B check → ⊥) → (q : Rule) → Sooner q order → B q → ⊥
  none_before_order c check s g = c g
  none_before_order c order s g = elim s [ inl x ↦ absurd (omega arith) | inr x ↦ absurd (omega (arith, x.0, x.1)) ]
  none_before_order c (field q) s g = elim s [ inl x ↦ absurd (omega arith) | inr x ↦ absurd (omega (arith, x.0, x.1)) ]
  none_before_order c number s g = elim s [ inl x ↦ absurd (omega arith) | inr x ↦ absurd (omega (arith, x.0, x.1)) ]
  none_before_order c owners s g = elim s [ inl x ↦ absurd (omega arith) | inr x ↦ absurd (omega (arith, x.0, x.1)) ]

  none_before_field : (B check → ⊥) → (B order → ⊥) → (p : ℕ) → ((q : ℕ) → q < p → B (field q) → ⊥) → (q : Rule) → Sooner q (field p) → B q → ⊥
  none_before_field c o p l check s g = c g
  none_before_field c o p l order s g = o g
  none_before_field c o p l (field q) s g = elim s [ inl x ↦ absurd (omega arith) | inr x ↦ l q x.1 g ]
  none_before_field c o p l number s g = elim s [ inl x ↦ absurd (omega arith) | inr x ↦ absurd (omega (arith, x.0, x.1)) ]
  none_before_field c o p l owners s g = elim s [ inl x ↦ absurd (omega arith) | inr x ↦ absurd (omega (arith, x.0, x.1)) ]

  none_before_number : (B check → ⊥) → (B order → ⊥) → ((q : ℕ) → B (field q) → ⊥) → (q : Rule) → Sooner q number → B q → ⊥
  none_before_number c o l check s g = c g
  none_before_number c o l order s g = o g
  none_before_number c o l (field q) s g = l q g
  none_before_number c o l number s g = elim s [ inl x ↦ absurd (omega arith) | inr x ↦ absurd (omega (arith, x.0, x.1)) ]
  none_before_number c o l owners s g = elim s [ inl x ↦ absurd (omega arith) | inr x ↦ absurd (omega (arith, x.0, x.1)) ]

  none_before_owners : (B check → ⊥) → (B order → ⊥) → ((q : ℕ) → B (field q) → ⊥) → (B number → ⊥) → (q : Rule) → Sooner q owners → B q → ⊥
  none_before_owners c o l n check s g = c g
  none_before_owners c o l n order s g = o g
  none_before_owners c o l n (field q) s g = l q g
  none_before_owners c o l n number s g = n g
  none_before_owners c o l n owners s g = elim s [ inl x ↦ absurd (omega arith) | inr x ↦ absurd (omega (arith, x.0, x.1)) ]

  none_broken : (B check → ⊥) → (B order → ⊥) → ((q : ℕ) → B (field q) → ⊥) → (B number → ⊥) → (B owners → ⊥) → (q : Rule) → B q → ⊥
  none_broken c o l n w check g = c g
  none_broken c o l n w order g = o g
  none_broken c o l n w (field q) g = l q g
  none_broken c o l n w number g = n g
  none_broken c o l n w owners g = w g

  -- the tests in their order give the first rule that is broken
  pub judged_says : (k : ℕ) {a b c d : Bool} → Denies (B check) a → Denies (B order) b → (o : Option ℕ) → ((B order → ⊥) → Least (λ p. B (field p)) o)
      → Denies (B number) c → Denies (B owners) d → Says k (judged k a b o c d)
  judged_says k (broken c) t o l u v = (check, (refl, (c, none_before_check)))
  judged_says k (clear c) (broken t) o l u v = (order, (refl, (t, none_before_order c)))
  judged_says k (clear c) (clear t) (Some p) l u v = (field p, (refl, ((l t).0, none_before_field c t p (l t).1)))
  judged_says k (clear c) (clear t) None l (broken n) v = (number, (refl, (n, none_before_number c t (l t))))
  judged_says k (clear c) (clear t) None l (clear n) (broken w) = (owners, (refl, (w, none_before_owners c t (l t) n)))
  judged_says k (clear c) (clear t) None l (clear n) (clear w) = none_broken c t (l t) n w

-- the order of the rules for a block is a line
pub same_rule : (q r : Rule) → turn q ≡ turn r → byte q ≡ byte r → q ≡ r
same_rule check check t e = refl
same_rule check order t e = absurd (omega (arith, t))
same_rule check (field o) t e = absurd (omega (arith, t))
same_rule check number t e = absurd (omega (arith, t))
same_rule check owners t e = absurd (omega (arith, t))
same_rule order check t e = absurd (omega (arith, t))
same_rule order order t e = refl
same_rule order (field o) t e = absurd (omega (arith, t))
same_rule order number t e = absurd (omega (arith, t))
same_rule order owners t e = absurd (omega (arith, t))
same_rule (field p) check t e = absurd (omega (arith, t))
same_rule (field p) order t e = absurd (omega (arith, t))
same_rule (field p) (field o) t e = ap field e
same_rule (field p) number t e = absurd (omega (arith, t))
same_rule (field p) owners t e = absurd (omega (arith, t))
same_rule number check t e = absurd (omega (arith, t))
same_rule number order t e = absurd (omega (arith, t))
same_rule number (field o) t e = absurd (omega (arith, t))
same_rule number number t e = refl
same_rule number owners t e = absurd (omega (arith, t))
same_rule owners check t e = absurd (omega (arith, t))
same_rule owners order t e = absurd (omega (arith, t))
same_rule owners (field o) t e = absurd (omega (arith, t))
same_rule owners number t e = absurd (omega (arith, t))
same_rule owners owners t e = refl

pub line_rule : (q r : Rule) → Sooner q r ⊎ ((q ≡ r) ⊎ Sooner r q)
line_rule q r =
    elim (cases_lt (turn q) (turn r)) [
      | inl l ↦ inl (inl l)
      | inr l ↦ elim (cases_lt (turn r) (turn q)) [
        | inl m ↦ inr (inr (inl m))
        | inr m ↦ (
            let e : turn q ≡ turn r = omega arith in
            elim (cases_lt (byte q) (byte r)) [
              | inl b ↦ inl (inr (e, b))
              | inr b ↦ elim (cases_lt (byte r) (byte q)) [
                | inl d ↦ inr (inr (inr (sym e, d)))
                | inr d ↦ inr (inl (same_rule q r e (omega arith)))
              ]
            ])
      ]
    ]
