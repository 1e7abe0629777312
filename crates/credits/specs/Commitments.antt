-- A Resource's commitment from hour to hour in real time.
use Rattle.std.specs.Prelude.{ℕ, ◌+◌, ◌*◌, ◌/◌, Bool, true, false, cond, Some, None, Option, nat_lt}
use Rattle.dayfile.specs.declared.record.Event.{Event}
use Rattle.dayfile.specs.declared.record.Event.TheVariants.{Off, PoolRun, SelfRun, Trip, IsoRestart, OwnRestart}
use Rattle.credits.specs.declared.commitment.Commitment.{Commitment}
use Rattle.credits.specs.declared.commitment.Commitment.TheVariants.{Down, Tripped, PoolPeriod, SelfScheduled, RestartedOnItsOwn}

-- the commitment at midnight: in a pool period of the hours on line, which has no fee, or down
abbrev pub at_midnight : ℕ → Commitment
at_midnight on_line = cond (nat_lt 0 on_line) (PoolPeriod on_line 0) Down

-- THE COMMITMENT AFTER AN HOUR, by the one before it and the hour's event; None where the event may not follow.
-- A period that begins in this hour from down or tripped has the fee `opening`.
abbrev pub moved : ℕ → Commitment → Event → Option Commitment
moved opening Down Off = Some Down
moved opening Tripped Off = Some Tripped
moved opening (PoolPeriod hours fee) Off = Some Down
moved opening SelfScheduled Off = Some Down
moved opening RestartedOnItsOwn Off = Some Down
moved opening Down PoolRun = Some (PoolPeriod 1 opening)
moved opening Tripped PoolRun = None
moved opening (PoolPeriod hours fee) PoolRun = Some (PoolPeriod (hours + 1) fee)
moved opening SelfScheduled PoolRun = Some (PoolPeriod 1 0)
moved opening RestartedOnItsOwn PoolRun = Some RestartedOnItsOwn
moved opening s SelfRun = Some SelfScheduled
moved opening Down Trip = None
moved opening Tripped Trip = None
moved opening (PoolPeriod hours fee) Trip = Some Tripped
moved opening SelfScheduled Trip = Some Tripped
moved opening RestartedOnItsOwn Trip = Some Tripped
moved opening Down IsoRestart = None
moved opening Tripped IsoRestart = Some (PoolPeriod 1 opening)
moved opening (PoolPeriod hours fee) IsoRestart = None
moved opening SelfScheduled IsoRestart = None
moved opening RestartedOnItsOwn IsoRestart = None
moved opening Down OwnRestart = None
moved opening Tripped OwnRestart = Some RestartedOnItsOwn
moved opening (PoolPeriod hours fee) OwnRestart = None
moved opening SelfScheduled OwnRestart = None
moved opening RestartedOnItsOwn OwnRestart = None

-- a fee cut at a trip: where fewer hours were run than the Minimum Run Time, it is fee × hours / Minimum Run Time, rounded down to
-- a millicent; else it is whole
abbrev pub cut_fee : ℕ → ℕ → ℕ → ℕ
cut_fee minimum hours fee = cond (nat_lt hours minimum) (fee * hours / minimum) fee

-- THE FEE THAT AN HOUR BRINGS: that of a period which its event ends, cut where it is a trip
abbrev pub closing : ℕ → Commitment → Event → ℕ
closing minimum (PoolPeriod hours fee) Off = fee
closing minimum (PoolPeriod hours fee) SelfRun = fee
closing minimum (PoolPeriod hours fee) Trip = cut_fee minimum hours fee
closing minimum (PoolPeriod hours fee) PoolRun = 0
closing minimum (PoolPeriod hours fee) IsoRestart = 0
closing minimum (PoolPeriod hours fee) OwnRestart = 0
closing minimum Down e = 0
closing minimum Tripped e = 0
closing minimum SelfScheduled e = 0
closing minimum RestartedOnItsOwn e = 0

-- an hour that ends in a pool period is eligible
abbrev pub in_period : Commitment → Bool
in_period Down = false
in_period Tripped = false
in_period (PoolPeriod hours fee) = true
in_period SelfScheduled = false
in_period RestartedOnItsOwn = false
