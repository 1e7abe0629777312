use Rattle.std.proofs.Common.{◌≡◌, ◌*ℤ◌, sym, subst, arith, w64, SFits, to_z, of_z}
use Rattle.std.proofs.lemmas.Int.{ints, to_z-of_z}
use Rattle.credits.proofs.Worths.{Within, within_product}
use Rattle.credits.proofs.cents.worth.Goals as goal

pub returns-clause-small : goal.returns-clause-small
returns-clause-small c =
    let s = within_product 200000 2000000 c.args.price c.args.kwh c.requires.0 c.requires.1 in
    let fits : SFits w64 (c.args.price *ℤ c.args.kwh) = omega (arith, ints) in
    let p : to_z w64 (of_z w64 c.from.result) ≡ c.args.price = omega (arith, ints) in
    let k : to_z w64 (of_z w64 c.args.kwh) ≡ c.args.kwh = omega (arith, ints) in
    let b = to_z-of_z w64 (c.args.price *ℤ c.args.kwh) fits in
    let r : to_z w64 (of_z w64 (to_z w64 (of_z w64 c.from.result) *ℤ to_z w64 (of_z w64 c.args.kwh))) ≡ c.args.price *ℤ c.args.kwh = cc in
    subst (Within 400000000000) (sym r) s
