use Rattle.std.proofs.Common.{◌≡◌, fold, sym, ◌∙◌, rules}
use Rattle.std.proofs.lemmas.Bool.{eqb-true, eq-eqb}
use Rattle.std.proofs.lemmas.Iterator.{YieldsList-from_slice}
use Rattle.std.proofs.lemmas.Iterator.Consumers.{fold_from_yields_List}
use lib.Bits.{bit_or}
use Rattle.dayfile.proofs.Tables.{or_all, all_or}
use Rattle.dayfile.proofs.layout.all_zero.Goals as goal

pub returns : goal.returns
returns c =
    let e : c.fold.result ≡ fold bit_or 0 c.args.bytes.now
    = fold_from_yields_List _ bit_or _ _ c.fold.ensures.ran (YieldsList-from_slice c.args.bytes.now (cc)) (λ a x b q k. search rules) in (
      (λ h. (or_all c.args.bytes.now 0 (sym e ∙ eqb-true c.fold.result 0 h)).1),
      (λ h. eq-eqb c.fold.result 0 (e ∙ all_or c.args.bytes.now h)),
    )
