use Rattle.std.proofs.Common.{◌≡◌, ◌+◌, ◌-◌, ◌*◌, ◌/◌, ◌%◌, ◌≤◌, map, get_or, sym, ap, ◌∙◌, arith, rules}
use Rattle.std.proofs.lemmas.Nat.{mul-le}
use Rattle.std.proofs.lemmas.List.{length-map}
use Rattle.division.specs.declared.few.TheConstants.{MOST_CENTS}
use Rattle.division.specs.Division.{whole_part, remainder}
use Rattle.division.proofs.Tallies.{tally_more}
use Rattle.division.proofs.Weights.{weight_at, whole_is, remainder_is, wholes_more, left_all}
use Rattle.division.proofs.Cutting.{noted_more, noted_all}
use Rattle.division.proofs.few.note_parts.Given as given
use Rattle.division.proofs.few.note_parts.Goals as goal

pub overflow_mul-exact : goal.overflow_mul-exact
overflow_mul-exact g c =
    let light : c.from.result ≤ 100000000 = omega (arith, g.T.Weighted.lawful.light c.index-records-i.result) in
    let m : c.args.cents * c.from.result ≤ MOST_CENTS * 100000000 = mul-le c.args.cents c.from.result MOST_CENTS 100000000 c.requires.sizes.0 light in
    search rules

-- the exact share of the record
exact : (g : given.Over) (c : goal.After-key_of g)
    → c.args.cents * c.from.result ≡ c.args.cents * get_or (map g.T.Weighted.weighs c.args.records.now) c.loop-i.i 0
exact g c =
    let w = weight_at g.T.Weighted.weighs c.args.records.now c.loop-i.i c.index-records-i.result c.loop-i-test.true c.index-records-i.is in
    ap (λ x. c.args.cents * x) (c.from.ensures ∙ c.weight.ensures ∙ sym w)

whole : (g : given.Over) (c : goal.After-key_of g)
    → c.args.cents * c.from.result / c.args.total ≡ whole_part c.args.cents (map g.T.Weighted.weighs c.args.records.now) c.loop-i.i
whole g c = whole_is c.args.cents c.args.total _ c.loop-i.i _ c.requires.weighed.0 (exact g c)

rest : (g : given.Over) (c : goal.After-key_of g)
    → c.args.cents * c.from.result % c.args.total ≡ remainder c.args.cents (map g.T.Weighted.weighs c.args.records.now) c.loop-i.i
rest g c = remainder_is c.args.cents c.args.total _ c.loop-i.i _ c.requires.weighed.0 (exact g c)

pub overflow_sub-left : goal.overflow_sub-left
overflow_sub-left g c =
    let xs = c.args.records.now in
    let ws = map g.T.Weighted.weighs xs in
    let n = length-map xs g.T.Weighted.weighs in
    omega (arith, whole g c, wholes_more c.args.cents ws c.loop-i.i (omega (arith, c.requires.weighed)) (omega arith))

pub loop-i-preserved : goal.loop-i-preserved
loop-i-preserved g c =
    let ws = map g.T.Weighted.weighs c.args.records.now in
    let cents = c.args.cents in
    let i = c.loop-i.i in (
      omega (arith, whole g c, overflow_sub-left g c, tally_more (whole_part cents ws) i),
      noted_more cents ws c.loop-i.parts i (record { whole = 0; key = 0 }) _ _ (omega (arith, c.requires.room)) (whole g c)
          (c.key_of.ensures ∙ ap (λ r. r * 64 + (63 - i)) (rest g c)) c.loop-i.invariant.1,
    )

pub returns : goal.returns
returns g c =
    let xs = c.args.records.now in
    let ws = map g.T.Weighted.weighs xs in
    let long = length-map xs g.T.Weighted.weighs in
    record {
      left = left_all c.args.cents c.loop-i.left c.loop-i.i ws (omega (arith, long)) c.loop-i.invariant.0;
      parts = noted_all c.args.cents ws c.loop-i.parts (record { whole = 0; key = 0 }) (omega (arith, long, c.requires.room)) (λ k l. c.loop-i.invariant.1 k (omega (arith, long)));
    }
