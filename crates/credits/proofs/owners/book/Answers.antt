use Rattle.std.proofs.Common.{◌+◌, cond, eqb, take, ap, ◌∙◌, arith}
use Rattle.std.proofs.lemmas.List.{take_all}
use Rattle.credits.specs.Grids.{amount}
use Rattle.credits.specs.Owning.{booked}
use Rattle.credits.proofs.Rows.{below_from}
use Rattle.credits.proofs.Sharing.{held_small, booked_more, add_again, add_few}
use Rattle.credits.proofs.owners.book.Goals as goal

pub loop-record-preserved : goal.loop-record-preserved
loop-record-preserved g c =
    let rows = c.loop-record.amounts.rows in
    let after = c.add.new.self.rows in
    let j = c.loop-record.record-index in
    let k = c.place.result in
    let pool = c.args.pool.number in
    let cents = c.share.result in
    let stands = g.T.Placed.stands in
    let holds = g.T.Weighted.holds in
    let x = c.record-item.result in
    let light = held_small holds c.args.records.now j x cents 100000000000 c.loop-record-test.true c.record-item.is c.share.ensures c.requires.small.1 in (
      below_from _ _ c.add.new.self.wide (λ i p _ one _.
          omega (arith, light, add_few (eqb p pool) (eqb k i) (amount rows i p) (amount after i p) cents _ (c.add.ensures i p one) (c.loop-record.invariant.0 i p))),
      λ i p li one most.
          add_again (eqb p pool) (amount c.args.amounts.now.rows i p) (amount rows i p) (amount after i p) (booked stands holds i (take j c.args.records.now)) (cond (eqb k i) cents 0) _
          (c.loop-record.invariant.1 i p li one most) (c.add.ensures i p one)
          (booked_more stands holds c.args.records.now j x k cents i c.loop-record-test.true c.record-item.is c.place.ensures.value c.share.ensures),
    )

pub returns : goal.returns
returns g c =
    λ i p li one most.
    c.loop-record.invariant.1 i p li one most
    ∙ ap (λ xs. amount c.args.amounts.now.rows i p + cond (eqb p c.args.pool.number) (booked g.T.Placed.stands g.T.Weighted.holds i xs) 0)
    (take_all c.loop-record.record-index c.args.records.now c.loop-record-test.false)
