use Rattle.std.proofs.Common.{map, Some, sym, ap}
use Rattle.division.specs.Division.{divided}
use Rattle.division.proofs.Outcomes.{outcome, nothing_divides, shares_taken}
use Rattle.division.proofs.dividing.divide.Goals as goal

pub returns-then-cents-eq0 : goal.returns-then-cents-eq0
returns-then-cents-eq0 g c =
    let xs = c.args.records.now in
    let weighs = g.T.Weighted.weighs in
    let given = g.T.Weighted.given in
    let cents = c.args.cents in
    let ws = map weighs xs in
    let taken = shares_taken weighs given cents xs c.take_nothing.new.records (divided 0 ws) (nothing_divides cents ws c.if-cents-eq0.true) c.take_nothing.ensures
    (ap (λ n. divided n ws) (sym c.if-cents-eq0.true)) in
    let o = outcome weighs g.T.Weighted.holds given g.T.Weighted.lawful cents xs (Some tt) c.take_nothing.new.records taken.0 taken.1 in
    record { answer = o.answer; untouched = o.untouched; shares = o.shares; fair = o.fair; only = o.only; weights = o.weights }

pub returns-then-cents-le-MOST_CENTS : goal.returns-then-cents-le-MOST_CENTS
returns-then-cents-le-MOST_CENTS g c =
    let o = outcome g.T.Weighted.weighs g.T.Weighted.holds g.T.Weighted.given g.T.Weighted.lawful c.args.cents c.args.records.now
    c.divide_few.result c.divide_few.new.records c.divide_few.ensures.answer c.divide_few.ensures.after in
    record { answer = o.answer; untouched = o.untouched; shares = o.shares; fair = o.fair; only = o.only; weights = o.weights }

pub returns-else-records-le-MOST_RECORDS : goal.returns-else-records-le-MOST_RECORDS
returns-else-records-le-MOST_RECORDS g c =
    let o = outcome g.T.Weighted.weighs g.T.Weighted.holds g.T.Weighted.given g.T.Weighted.lawful c.args.cents c.args.records.now
    c.divide_many.result c.divide_many.new.records c.divide_many.ensures.answer c.divide_many.ensures.after in
    record { answer = o.answer; untouched = o.untouched; shares = o.shares; fair = o.fair; only = o.only; weights = o.weights }
