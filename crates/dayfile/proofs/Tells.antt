-- Tests and the facts that they tell.
use Rattle.std.proofs.Common.{◌≡◌, ℕ, suc, ◌<◌, ◌≤◌, Bool, true, false, not, ◌&&◌, ◌||◌, eqb, ltb, leb, ◌⊎◌, List, sym, refl, ◌∙◌, inl, inr, arith}
use Rattle.std.proofs.lemmas.Bool.{eqb-true, eqb-false, leb-true, leb-false}
use Rattle.dayfile.specs.declared.record.Owner.{Owner}
use Rattle.dayfile.specs.Owners.{Owned, owners_kept}
use Rattle.dayfile.proofs.OwnerRules.{kept_owned, owned_kept}

-- a test and what it tells: it is true just where P holds
pub data Tells (P : Type 0) : Bool → Type 0 where
  holds : P → Tells P true
  fails : (P → ⊥) → Tells P false

pub tells_and : {P Q : Type 0} {a b : Bool} → Tells P a → Tells Q b → Tells (P × Q) (a && b)
tells_and (holds p) (holds q) = holds (p, q)
tells_and (holds p) (fails q) = fails (λ h. q h.1)
tells_and (fails p) t = fails (λ h. p h.0)

pub tells_or : {P Q : Type 0} {a b : Bool} → Tells P a → Tells Q b → Tells (P ⊎ Q) (a || b)
tells_or (holds p) t = holds (inl p)
tells_or (fails p) (holds q) = holds (inr q)
tells_or (fails p) (fails q) = fails (λ h. elim h [ inl x ↦ p x | inr y ↦ q y ])

pub tells_not : {P : Type 0} {a : Bool} → Tells P a → Tells (P → ⊥) (not a)
tells_not (holds p) = fails (λ h. h p)
tells_not (fails p) = holds p

pub tells_like : {P Q : Type 0} {a : Bool} → (P → Q) → (Q → P) → Tells P a → Tells Q a
tells_like f g (holds p) = holds (f p)
tells_like f g (fails p) = fails (λ q. p (g q))

pub tells_eqb : (m n : ℕ) → Tells (m ≡ n) (eqb m n)
tells_eqb m n = go (eqb m n) refl
  where
    go : (b : Bool) → eqb m n ≡ b → Tells (m ≡ n) b
    go true e = holds (eqb-true m n e)
    go false e = fails (eqb-false m n e)

pub tells_leb : (m n : ℕ) → Tells (m ≤ n) (leb m n)
tells_leb m n = go (leb m n) refl
  where
    go : (b : Bool) → leb m n ≡ b → Tells (m ≤ n) b
    go true e = holds (leb-true m n e)
    go false e = fails (λ h. absurd (omega (arith, leb-false m n e)))

pub tells_ltb : (m n : ℕ) → Tells (m < n) (ltb m n)
tells_ltb m n = tells_leb (suc m) n

-- a test of the owners tells whether they keep their rules
pub kept_tells : (limit count : ℕ) (os : List Owner) → Tells (Owned limit count os) (owners_kept limit count os)
kept_tells limit count os = go (owners_kept limit count os) refl
  where
    go : (b : Bool) → owners_kept limit count os ≡ b → Tells (Owned limit count os) b
    go true e = holds (kept_owned limit count os e)
    go false e = fails (λ h. let z : true ≡ false = sym (owned_kept limit count os h) ∙ e in let y : ◌≡◌ {A = ℕ} 0 1 = cc in absurd (omega arith))

-- a test that is true just where nothing breaks a rule
pub data Denies (P : Type 0) : Bool → Type 0 where
  clear : (P → ⊥) → Denies P true
  broken : P → Denies P false

pub denies_like : {P Q : Type 0} {a : Bool} → (P → Q) → (Q → P) → Denies P a → Denies Q a
denies_like f g (clear p) = clear (λ q. p (g q))
denies_like f g (broken p) = broken (f p)

pub denies_not : {P : Type 0} {a : Bool} → Tells P a → Denies (P → ⊥) a
denies_not (holds p) = clear (λ n. n p)
denies_not (fails n) = broken n
