use Rattle.std.proofs.Common.{ℕ, leb, arith, rules}
use Rattle.std.proofs.lemmas.Iterator.{YieldsList-from_slice, YieldsList-from_map}
use Rattle.std.proofs.lemmas.Iterator.Consumers.{fits_by_from_yields_list}
use Rattle.std.proofs.lemmas.List.Sums.{count_by-le-length}
use Rattle.division.specs.Cuts.{tick}
use Rattle.division.specs.declared.few.Part.{Part}
use Rattle.division.proofs.Keys.{byte_tick}
use Rattle.division.proofs.few.reaching.Goals as goal

pub sum-requires-clause-fits : goal.sum-requires-clause-fits
sum-requires-clause-fits c =
    let ps = c.args.parts.now in
    let reaches : Part → ℕ = λ p. tick (leb c.args.bound p.key) in
    fits_by_from_yields_list reaches ps c.map.result _
    (YieldsList-from_map _ reaches (YieldsList-from_slice ps (cc)) c.map.ensures.closure (λ x r q k. search (rules, byte_tick)))
    (omega (arith, count_by-le-length (λ (p : Part). leb c.args.bound p.key) ps, c.iter.ensures.len, c.iter.ensures.bound))
