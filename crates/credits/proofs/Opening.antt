-- The next Resource of a day, by what `find_map` ran over its block numbers.
use Rattle.std.proofs.Common.{◌≡◌, ℕ, suc, ◌+◌, ◌<◌, ◌≤◌, List, [], ◌∷◌, drop, IfSome, Some, None, Option, true, sym, refl, ap, ◌∙◌, subst, arith}
use Rattle.std.specs.Prelude.{MatchOption, slice_get}
use Rattle.std.specs.List.{FoldsTo}
use Rattle.std.specs.Iterator.{Yields, FindsMapped}
use Rattle.std.specs.Iterator.Runs.{YieldsRun, SomeRun, AllItemsGive}
use Rattle.std.specs.declared.ops.Range.{Range}
use Rattle.std.specs.Fn.{Called, Mut}
use Rattle.std.proofs.iter.Yields.{nat_range_steps}
use Rattle.dayfile.specs.declared.record.Record.{Record}
use Rattle.dayfile.specs.declared.record.Record.TheVariants.{Day, Participant, Resource, RealTime}
use Rattle.dayfile.specs.Files.{blocks}
use Rattle.dayfile.specs.Days.{records}
use Rattle.credits.specs.Resources.{ResourceDay, resource_first, resources_behind}
use Rattle.credits.proofs.Days.{resources_more, resources_none}

abbrev block_told : ℕ → Option ResourceDay → ℕ
block_told k None = k
block_told k (Some x) = x.block

-- a Resource tells its own block
first_block : (k : ℕ) (rs : List Record) → block_told k (resource_first k rs) ≡ k
first_block k [] = refl
first_block k (Day d ∷ rs) = refl
first_block k (Participant p ∷ rs) = refl
first_block k (Resource g ∷ rs) = refl
first_block k (RealTime r ∷ rs) = refl

module _ {F : Type 0} (g : Mut F (ℕ × Unit {0}) (Option ResourceDay)) (f : List ℕ) (c : F)
    (gives : (k : ℕ) (r : Option ResourceDay) (q : F) → Called g c (k, tt) r q → (q ≡ c) × (r ≡ resource_first k (drop k (records f)))) where
  -- no block that was passed over opens a Resource
  passed_over : (xs : List ℕ) (s t : Range ℕ) (d : F) → s.end ≡ blocks f → Yields nat_range_steps s xs t → FoldsTo (λ p x q. Called g p (x, tt) None q) c xs d
      → (t.end ≡ blocks f) × (d ≡ c) × (resources_behind s.start f ≡ resources_behind t.start f)
  passed_over [] s t d e y w = (ap (λ (r : Range ℕ). r.end) (sym y) ∙ e, sym w, ap (λ (r : Range ℕ). resources_behind r.start f) y)
  passed_over (x ∷ xs) s t d e y w =
      let at = y.1.1.1 in
      let told = gives x None w.0 w.1 in
      let l : x < blocks f = omega (arith, y.1.1.0, e, at) in
      let rest = passed_over xs y.0 t d (y.1.0 ∙ e) y.2 (subst (λ p. FoldsTo (λ p x q. Called g p (x, tt) None q) p xs d) told.0 w.2) in
      let next : x + 1 ≡ y.0.start = omega (arith, at, y.1.1.2) in
      (rest.0, rest.1, ap (λ n. resources_behind n f) (sym at) ∙ resources_more f x None l told.1 ∙ ap (λ n. resources_behind n f) next ∙ rest.2)

  pub next_found : (s u : Range ℕ) (x : ResourceDay) → s.end ≡ blocks f → FindsMapped nat_range_steps g s c (Some x) u → resources_behind s.start f ≡ x ∷ resources_behind (x.block + 1) f
  next_found s u x e d = ends d.1 (passed_over d.0 s d.3.0 d.2 e d.3.1 d.4) d.3.2 d.5
    where
      ends : (o : Option ℕ) → (d.3.0.end ≡ blocks f) × (d.2 ≡ c) × (resources_behind s.start f ≡ resources_behind d.3.0.start f) → nat_range_steps d.3.0 o u
          → MatchOption o (Some x ≡ None) (λ k. (h : F) × Called g d.2 (k, tt) (Some x) h) → resources_behind s.start f ≡ x ∷ resources_behind (x.block + 1) f
      ends None p n t = let z : ◌≡◌ {A = ℕ} 0 1 = cc in absurd (omega arith)
      ends (Some k) p n t =
          let told = gives k (Some x) t.0 (subst (λ q. Called g q (k, tt) (Some x) t.0) p.1 t.1) in
          let l : k < blocks f = omega (arith, p.0, n.1.0, n.1.1) in
          let own : x.block ≡ k = ap (block_told k) told.1 ∙ first_block k (drop k (records f)) in
          p.2 ∙ ap (λ n. resources_behind n f) (sym n.1.1) ∙ resources_more f k (Some x) l told.1 ∙ ap (λ n. x ∷ resources_behind (n + 1) f) (sym own)

  all_passed : (xs : List ℕ) → ((k : ℕ) → IfSome (slice_get xs k) (λ x. Called g c (x, tt) None c)) → FoldsTo (λ p x q. Called g p (x, tt) None q) c xs c
  all_passed [] h = refl
  all_passed (x ∷ xs) h = (c, h 0, all_passed xs (λ k. h (suc k)))

  pub none_found : (s : Range ℕ) → s.end ≡ blocks f → SomeRun nat_range_steps s (λ p. (p.whole ≡ true) × AllItemsGive p g c None) → resources_behind s.start f ≡ []
  unfolding YieldsRun
  none_found s e r =
      let p = r.0 in
      let given = r.2.1 (λ a y q h. (gives a.0 y q h).0) in
      let calls = all_passed p.items (λ k. subst (λ o. IfSome o (λ x. Called g c (x, tt) None c)) (p.gave.1 k) (given k)) in
      let t = p.gave.0.0 in
      let w = passed_over p.items s t c e (subst (λ a. Yields nat_range_steps a p.items t) r.1 p.gave.0.1) calls in
      let end = (p.gave.0.2 r.2.0).1 in
      let n : blocks f ≤ t.start = omega (arith, w.0, end.1.0) in
      w.2 ∙ resources_none f t.start n
