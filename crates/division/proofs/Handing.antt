-- Records that take their shares one after the other.
use Rattle.std.proofs.Common.{◌≡◌, ℕ, zero, suc, ◌+◌, ◌<◌, ◌≤◌, List, [], ◌∷◌, map, length, get_or, take, set, sym, refl, ap, ◌∙◌, add-one, arith}
use Rattle.std.proofs.lemmas.List.{take_all}
use Rattle.division.specs.Records.{handed}

pub handed_none : {S : Type 0} (give : S → ℕ → S) (xs : List S) → handed give xs [] ≡ xs
unfolding handed
handed_none give [] = refl
handed_none give (x ∷ xs) = refl

-- a record that has not taken its share yet is as it was
pub handed_at : {S : Type 0} (give : S → ℕ → S) (xs : List S) (cs : List ℕ) (i : ℕ) (d : S) → get_or (handed give xs (take i cs)) i d ≡ get_or xs i d
unfolding handed
handed_at give [] cs zero d = refl
handed_at give [] cs (suc i) d = refl
handed_at give (x ∷ xs) cs zero d = refl
handed_at give (x ∷ xs) [] (suc i) d = refl
handed_at give (x ∷ xs) (c ∷ cs) (suc i) d = handed_at give xs cs i d

-- one record more
handed_suc : {S : Type 0} (give : S → ℕ → S) (xs : List S) (cs : List ℕ) (i : ℕ) (d : S) → i < length cs
    → set (handed give xs (take i cs)) i (give (get_or xs i d) (get_or cs i 0)) ≡ handed give xs (take (suc i) cs)
unfolding handed
handed_suc give xs [] i d l = absurd (omega arith)
handed_suc give [] (c ∷ cs) zero d l = refl
handed_suc give [] (c ∷ cs) (suc i) d l = refl
handed_suc give (x ∷ xs) (c ∷ cs) zero d l = ap (λ ys. give x c ∷ ys) (sym (handed_none give xs))
handed_suc give (x ∷ xs) (c ∷ cs) (suc i) d l = ap (λ ys. give x c ∷ ys) (handed_suc give xs cs i d (omega arith))

pub handed_more : {S : Type 0} (give : S → ℕ → S) (xs : List S) (cs : List ℕ) (i : ℕ) (d : S) → i < length cs
    → set (handed give xs (take i cs)) i (give (get_or xs i d) (get_or cs i 0)) ≡ handed give xs (take (i + 1) cs)
handed_more give xs cs i d l = handed_suc give xs cs i d l ∙ ap (λ n. handed give xs (take n cs)) (sym (add-one i))

-- what taking a share leaves is the same for all
pub handed_keeps : {S X : Type 0} (f : S → X) (give : S → ℕ → S) → ((x : S) (c : ℕ) → f (give x c) ≡ f x)
    → (xs : List S) (cs : List ℕ) → map f (handed give xs cs) ≡ map f xs
unfolding handed
handed_keeps f give h [] cs = refl
handed_keeps f give h (x ∷ xs) [] = refl
handed_keeps f give h (x ∷ xs) (c ∷ cs) = ap (λ y. y ∷ map f (handed give xs cs)) (h x c) ∙ ap (λ ys. f x ∷ ys) (handed_keeps f give h xs cs)

-- each holds its share
pub handed_holds : {S : Type 0} (holds : S → ℕ) (give : S → ℕ → S) → ((x : S) (c : ℕ) → holds (give x c) ≡ c)
    → (xs : List S) (cs : List ℕ) → length cs ≡ length xs → map holds (handed give xs cs) ≡ cs
unfolding handed
handed_holds holds give h [] [] e = refl
handed_holds holds give h [] (c ∷ cs) e = absurd (omega arith)
handed_holds holds give h (x ∷ xs) [] e = absurd (omega arith)
handed_holds holds give h (x ∷ xs) (c ∷ cs) e =
    ap (λ y. y ∷ map holds (handed give xs cs)) (h x c) ∙ ap (λ ys. c ∷ ys) (handed_holds holds give h xs cs (omega arith))

-- the step of a loop that hands out: the record at i has taken its share
pub handed_step : {S : Type 0} (give : S → ℕ → S) (xs ys : List S) (cs : List ℕ) (i : ℕ) (d y : S) (c : ℕ)
    → i < length cs → ys ≡ handed give xs (take i cs) → y ≡ give (get_or ys i d) c → c ≡ get_or cs i 0
    → set ys i y ≡ handed give xs (take (i + 1) cs)
handed_step give xs ys cs i d y c l e f h =
    ap (set ys i) (f ∙ ap (give (get_or ys i d)) h)
    ∙ ap (λ zs. set zs i (give (get_or zs i d) (get_or cs i 0))) e
    ∙ ap (λ z. set (handed give xs (take i cs)) i (give z (get_or cs i 0))) (handed_at give xs cs i d)
    ∙ handed_more give xs cs i d l

-- its end
pub handed_all : {S : Type 0} (give : S → ℕ → S) (xs ys : List S) (cs : List ℕ) (i : ℕ) → length cs ≤ i → ys ≡ handed give xs (take i cs) → ys ≡ handed give xs cs
handed_all give xs ys cs i l e = e ∙ ap (handed give xs) (take_all i cs l)
