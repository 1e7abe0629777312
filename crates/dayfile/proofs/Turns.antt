-- A loop over the blocks of an admitted day: what each turn is given, for a loop whose invariant says that the iterator has
-- the day and stands at block k.
use Rattle.std.proofs.Common.{◌≡◌, ℕ, ◌+◌, ◌<◌, Some, ap, ◌∙◌, subst, arith}
use Rattle.dayfile.specs.declared.block.Block.{Block}
use Rattle.dayfile.specs.declared.blocks.Blocks.{Blocks}
use Rattle.dayfile.specs.declared.day.AdmittedDay.{AdmittedDay}
use Rattle.dayfile.specs.Blocks.{Shows, shown}
use Rattle.dayfile.specs.Coming.{NextBlock}
use Rattle.dayfile.specs.Files.{block, blocks}
use Rattle.dayfile.specs.Records.{record_of}

-- WHAT A TURN IS GIVEN at block k of a day
pub record Turn (d : AdmittedDay) (t : Blocks) (b : Block) (k : ℕ) : Type 0 where
  pub within : k < blocks d.file.now
  pub shows : Shows (block d.file.now k) b
  pub says : shown b ≡ record_of (block d.file.now k)
  pub same : t.day ≡ d
  pub next : t.next ≡ k + 1

pub turn : (d : AdmittedDay) (s t : Blocks) (b : Block) (k : ℕ) → s.day ≡ d → s.next ≡ k → NextBlock s (Some b) t → Turn d t b k
turn d s t b k e n h =
    let fd : s.day.file.now ≡ d.file.now = ap (λ (x : AdmittedDay). x.file.now) e in
    record {
      within = omega (arith, h.0, ap blocks fd, n);
      shows = subst (λ bs. Shows bs b) (ap (λ f. block f s.next) fd ∙ ap (λ i. block d.file.now i) n) h.1;
      says = h.2 ∙ ap (λ f. record_of (block f s.next)) fd ∙ ap (λ i. record_of (block d.file.now i)) n;
      same = h.3 ∙ e;
      next = h.4 ∙ ap (λ i. i + 1) n;
    }
