use Rattle.std.proofs.Common.{◌≡◌, ℕ, ◌<◌, ◌≤◌, true, false, List, get_or, Some, None, Option, sym, ap, ◌∙◌, subst, arith, MatchOption}
use Rattle.dayfile.specs.declared.block.Block.{Block}
use Rattle.dayfile.specs.Blocks.{Shows, shown}
use Rattle.dayfile.specs.Records.{record_of}
use Rattle.dayfile.proofs.Rounds.{shown_is}
use Rattle.dayfile.specs.Files.{known, block, blocks}
use Rattle.dayfile.proofs.FileLaws.{accepted_none, passed, block_known}
use Rattle.dayfile.proofs.day.AdmittedDay.block.Goals as goal

-- a block of a known kind has parts
parted : (o : Option Block) (b d : List ℕ) (k n : ℕ) → b ≡ d → known (get_or d 0 0) ≡ true → k < n
    → MatchOption o (known (get_or b 0 0) ≡ false) (λ x. (known (get_or b 0 0) ≡ true) × Shows b x) → MatchOption o (n ≤ k) (λ x. (k < n) × Shows d x × (shown x ≡ record_of d))
parted None b d k n e t l h =
    let q : true ≡ false = sym t ∙ ap (λ xs. known (get_or xs 0 0)) (sym e) ∙ h in
    let z : ◌≡◌ {A = ℕ} 0 1 = cc in absurd (omega arith)
parted (Some x) b d k n e t l h = let s = subst (λ xs. Shows xs x) e h.1 in (l, s, shown_is d x s)

pub returns-then-k-blocks : goal.returns-then-k-blocks
returns-then-k-blocks c =
    let f = c.args.self.now.file.now in
    let k = c.args.k in
    let p = passed f (accepted_none f c.args.self.now.kept) in
    let l : c.args.k < blocks c.args.self.now.file.now = omega arith in
    parted c.parts.result _ (block f k) k (blocks f) c.block_at.ensures (block_known f k p l) l c.parts.ensures
