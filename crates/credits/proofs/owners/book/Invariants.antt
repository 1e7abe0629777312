use Rattle.std.proofs.Common.{◌≡◌, ℕ, ◌+◌, ◌*◌, ◌<◌, ◌≤◌, cond, eqb, take}
use Rattle.credits.specs.Grids.{amount, Below}
use Rattle.credits.specs.Owning.{booked}
use Rattle.credits.proofs.owners.book.Given as goal

abbrev pub invariant-loop-record : goal.invariant-loop-record
invariant-loop-record g l =
    Below (1000000000000000000 + l.record-index * 100000000000) l.amounts.rows
    × ((i p : ℕ) → i < 48 → 1 ≤ p → p ≤ 21 → amount l.amounts.rows i p
    ≡ amount l.initial.amounts.rows i p + cond (eqb p l.pool.number) (booked g.T.Placed.stands g.T.Weighted.holds i (take l.record-index l.records)) 0)
