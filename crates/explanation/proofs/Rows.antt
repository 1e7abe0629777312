-- The row of a field: the turns of the loop over rows.
use Rattle.std.proofs.Common.{◌≡◌, ℕ, zero, suc, ◌+◌, ◌<◌, true, false, cond, ◌⊎◌, List, [], ◌∷◌, length, get_or, drop, Some, sym, ◌∙◌, subst, inl, inr, arith}
use Rattle.std.proofs.lemmas.List.{at_drop_more}
use Rattle.std.proofs.lemmas.Bool.{and_parts, cond-true, cond-false, cases_Bool}
use Rattle.explanation.specs.declared.table.Content.TheVariants.{Unnamed}
use Rattle.explanation.specs.declared.table.Row.{Row}
use Rattle.explanation.specs.Names.{row_at, starts, steady, all_steady}

-- what a place past the end of a table counts as
abbrev pub no_row : Row
no_row = record { start = 0; stride = 0; count = 0; width = 0; content = Unnamed }

pub row_steady : (rs : List Row) (i : ℕ) (d : Row) → i < length rs → all_steady rs ≡ true → steady (get_or rs i d) ≡ true
row_steady [] i d l h = absurd (omega arith)
row_steady (r ∷ rs) zero d l h = (and_parts (steady r) (all_steady rs) h).0
row_steady (r ∷ rs) (suc i) d l h = row_steady rs i d (omega arith) (and_parts (steady r) (all_steady rs) h).1

module _ (rs : List Row) (i : ℕ) (d : Row) (p : ℕ) (l : i < length rs) where
  step : row_at (drop i rs) p ≡ cond (starts (get_or rs i d) p) (Some (get_or rs i d)) (row_at (drop (i + 1) rs) p)
  unfolding row_at
  step = at_drop_more (λ r. row_at r p) rs i d l

  pub row_here : starts (get_or rs i d) p ≡ true → row_at (drop i rs) p ≡ Some (get_or rs i d)
  row_here e = step ∙ cond-true (starts (get_or rs i d) p) (Some (get_or rs i d)) (row_at (drop (i + 1) rs) p) e

  pub row_later : starts (get_or rs i d) p ≡ false → row_at (drop i rs) p ≡ row_at (drop (i + 1) rs) p
  row_later e = step ∙ cond-false (starts (get_or rs i d) p) (Some (get_or rs i d)) (row_at (drop (i + 1) rs) p) e

-- a row that is found is one of the table's, and has a field there
pub row_found : (rs : List Row) (p : ℕ) (r : Row) → all_steady rs ≡ true → row_at rs p ≡ Some r → (steady r ≡ true) × (starts r p ≡ true)
unfolding row_at
row_found [] p r h e = let z : ◌≡◌ {A = ℕ} 0 1 = cc in absurd (omega arith)
row_found (x ∷ rs) p r h e = go (row_found rs p r (and_parts (steady x) (all_steady rs) h).1) (cases_Bool (starts x p))
  where
    go : (row_at rs p ≡ Some r → (steady r ≡ true) × (starts r p ≡ true)) → (starts x p ≡ true) ⊎ (starts x p ≡ false) → (steady r ≡ true) × (starts r p ≡ true)
    go later (inl t) =
        let a : Some x ≡ Some r = sym (cond-true (starts x p) (Some x) (row_at rs p) t) ∙ e in
        let b : x ≡ r = cc in
        subst (λ y. (steady y ≡ true) × (starts y p ≡ true)) b ((and_parts (steady x) (all_steady rs) h).0, t)
    go later (inr t) = later (sym (cond-false (starts x p) (Some x) (row_at rs p) t) ∙ e)
