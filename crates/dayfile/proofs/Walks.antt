-- The walk over the blocks of a file.
use Rattle.std.proofs.Common.{◌≡◌, ℕ, suc, ◌+◌, ◌-◌, ◌<◌, ◌≤◌, Bool, true, false, cond, eqb, List, get_or, Some, None, Ok, Err, Option, refl, ap, ◌∙◌, add-one, arith}
use Rattle.dayfile.specs.declared.fault.Fault.{Fault}
use Rattle.dayfile.specs.Files.{Standing}
use Rattle.dayfile.specs.Files.{tally, latest, kind_before, number_before, standing, after, nothing, block, blocks, block_fault, blocks_fault, behind, or_else, answer}

-- what stands before the first block, and before the next
pub standing_first : (f : List ℕ) → standing f 0 ≡ nothing
unfolding tally latest kind_before number_before
standing_first f = refl

pub standing_next : (f : List ℕ) (k : ℕ) → standing f (k + 1) ≡ after (standing f k) (block f k)
unfolding tally latest kind_before number_before
standing_next f k = ap (standing f) (add-one k)

-- one block of those that are left
module _ (f : List ℕ) (k n : ℕ) (l : k < n) where
  one : blocks_fault f k (n - k) ≡ or_else (block_fault (standing f k) k (block f k)) (blocks_fault f (k + 1) (n - (k + 1)))
  unfolding blocks_fault
  one = let e : n - k ≡ suc (n - (k + 1)) = omega arith in ap (λ m. blocks_fault f k m) e

  pub block_good : block_fault (standing f k) k (block f k) ≡ None → blocks_fault f k (n - k) ≡ blocks_fault f (k + 1) (n - (k + 1))
  block_good e = one ∙ ap (λ o. or_else o (blocks_fault f (k + 1) (n - (k + 1)))) e

  pub block_bad : (x : Fault) → block_fault (standing f k) k (block f k) ≡ Some x → blocks_fault f k (n - k) ≡ Some x
  block_bad x e = one ∙ ap (λ o. or_else o (blocks_fault f (k + 1) (n - (k + 1)))) e

pub blocks_end : (f : List ℕ) (k n : ℕ) → n ≡ 0 → blocks_fault f k n ≡ None
unfolding blocks_fault
blocks_end f k n e = ap (blocks_fault f k) e

-- what all blocks together give
pub behind_bad : (f : List ℕ) (x : Fault) → blocks_fault f 0 (blocks f) ≡ Some x → behind f ≡ Err x
behind_bad f x e = ap (λ (o : Option Fault). elim o [ Some x ↦ Err x | None ↦ Ok (standing f (blocks f)) ]) e

pub behind_good : (f : List ℕ) → blocks_fault f 0 (blocks f) ≡ None → behind f ≡ Ok (standing f (blocks f))
behind_good f e = ap (λ (o : Option Fault). elim o [ Some x ↦ Err x | None ↦ Ok (standing f (blocks f)) ]) e

-- an answer tells the verdict
pub answer_ok : (o : Option Fault) → answer o ≡ Ok tt → o ≡ None
answer_ok None e = refl
answer_ok (Some x) e = let z : ◌≡◌ {A = ℕ} 0 1 = cc in absurd (omega arith)

pub answer_err : (o : Option Fault) (x : Fault) → answer o ≡ Err x → o ≡ Some x
answer_err None x e = let z : ◌≡◌ {A = ℕ} 0 1 = cc in absurd (omega arith)
answer_err (Some y) x e = cc

-- a block counts at most once
pub at_most_one : (b : Bool) → cond b 1 0 ≤ 1
at_most_one true = omega arith
at_most_one false = omega arith

pub after_participants : (s : Standing) (b : List ℕ) → (after s b).participants ≤ s.participants + 1
after_participants s b = omega (arith, at_most_one (eqb (get_or b 0 0) 80))

pub after_resources : (s : Standing) (b : List ℕ) → (after s b).resources ≤ s.resources + 1
after_resources s b = omega (arith, at_most_one (eqb (get_or b 0 0) 71))
