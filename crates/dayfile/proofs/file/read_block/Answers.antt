use Rattle.std.proofs.Common.{◌≡◌, ℕ, true, false, List, length, get_or, Some, None, Option, MatchOption, refl, sym, ap, ◌∙◌, subst, arith, rules}
use Rattle.std.proofs.lemmas.Result.{err_from_is_err_and}
use Rattle.std.specs.Option.{ok_or}
use Rattle.dayfile.specs.declared.block.Block.{Block}
use Rattle.dayfile.specs.declared.fault.Fault.TheVariants.{Order}
use Rattle.dayfile.specs.Blocks.{Shows}
use Rattle.dayfile.specs.Records.{encode}
use Rattle.dayfile.specs.Files.{known, lone_fault}
use Rattle.dayfile.proofs.Walks.{answer_ok, answer_err}
use Rattle.dayfile.proofs.Rounds.{shown_is}
use Rattle.dayfile.specs.Rules.{RuledAlone}
use Rattle.dayfile.proofs.Chains.{lone_again, lone_known}
use Rattle.dayfile.proofs.LoneLaws.{ruled_alone}
use Rattle.dayfile.proofs.file.read_block.Goals as goal

pub returns-in_err-judge_alone : goal.returns-in_err-judge_alone
returns-in_err-judge_alone c =
    let b = c.args.block.now in
    let l : length c.args.block.now ≡ 512 = search rules in
    let p = err_from_is_err_and c.from_residual.result c.from_residual.ensures.1 in
    let v = sym (answer_err (lone_fault b) c.in_err-judge_alone.field-0.0 (sym c.judge_alone.ensures ∙ c.in_err-judge_alone.was)) in
    rw (p.1, p.2) (record { verdict = v; first_broken_rule_told = subst (RuledAlone b) (sym v) (ruled_alone b l c.fits-block); shows_its_parts = tt; encoded_again = tt })

-- a block of a known kind has parts
parted : (o : Option Block) (b : List ℕ) → known (get_or b 0 0) ≡ true → MatchOption o (known (get_or b 0 0) ≡ false) (λ x. (known (get_or b 0 0) ≡ true) × Shows b x)
    → (x : Block) × ((o ≡ Some x) × Shows b x)
parted None b t h =
    let q : true ≡ false = sym t ∙ h in
    let z : ◌≡◌ {A = ℕ} 0 1 = cc in absurd (omega arith)
parted (Some x) b t h = (x, (refl, h.1))

pub returns : goal.returns
returns c =
    let b = c.args.block.now in
    let l : length c.args.block.now ≡ 512 = search rules in
    let n = answer_ok (lone_fault b) (sym c.judge_alone.ensures ∙ c.in_ok-judge_alone.was) in
    let p = parted c.parts.result b (lone_known b n) c.parts.ensures in
    let e = shown_is b p.0 p.1.1 in
    rw (c.ok_or.ensures.value ∙ ap (λ o. ok_or o (Order 0)) p.1.0) (record {
      verdict = sym n;
      first_broken_rule_told = subst (RuledAlone b) n (ruled_alone b l c.fits-block);
      shows_its_parts = (p.1.1, e);
      encoded_again = ap encode e ∙ lone_again b l c.fits-block n;
    })
