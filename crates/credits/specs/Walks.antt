-- The walk through the hours of a real-time day.
use Rattle.std.specs.Prelude.{◌≡◌, ℕ, ◌+◌, ◌*◌, ◌≤◌, List, ℤ, pos, neg_ℤ, ◌≤ℤ◌, Some, None, Option, Ok, Err, Result}
use Rattle.credits.specs.declared.commitment.Commitment.{Commitment}
use Rattle.credits.specs.declared.commitment.Commitment.TheVariants.{Down, Tripped, PoolPeriod, SelfScheduled, RestartedOnItsOwn}
use Rattle.credits.specs.declared.walk.Walk.{Walk}
use Rattle.dayfile.specs.declared.record.ResourceRecord.{ResourceRecord}
use Rattle.dayfile.specs.declared.record.RealTimeRecord.{RealTimeRecord}
use Rattle.credits.specs.declared.share.HourShare.{HourShare}
use Rattle.credits.specs.declared.forbidden.ForbiddenEvent.{ForbiddenEvent}
use Rattle.credits.specs.Sums.{total, net}
use Rattle.credits.specs.RealTime.{commitment, fee_brought, eligible_hour, forbidden_hour, real_time_millicents, real_time_share, real_time_shares}

-- a walk moved by an event: refused, it stays; else it has the commitment after the hour and the fee that the hour brings
abbrev pub Advances : Option Commitment → ℕ → Walk → Option (Unit {0}) → Walk → Type 0
Advances None fee before answer after = (answer ≡ None) × (after ≡ before)
Advances (Some s) fee before answer after =
    (answer ≡ Some tt) × (after ≡ record { commitment = s; fees = before.fees + fee; net = before.net })

-- a period has no more hours than some, and its fee is no more than the greatest Start-Up Fee
abbrev pub Light : ℕ → Commitment → Type 0
Light most Down = Unit {0}
Light most Tripped = Unit {0}
Light most (PoolPeriod hours fee) = (hours ≤ most) × (fee ≤ 100000000000)
Light most SelfScheduled = Unit {0}
Light most RestartedOnItsOwn = Unit {0}

-- WHERE A WALK STANDS after the first n hours: at the commitment, with the fees that the hours brought and the eligible hours' amounts
pub record Stands (g : ResourceRecord) (r : RealTimeRecord) (n : ℕ) (w : Walk) : Type 0 where
  pub at : commitment g r n ≡ Some w.commitment
  pub fees : w.fees ≡ total (fee_brought g r) n
  pub net : w.net ≡ net (eligible_hour g r) n
  pub light : Light (255 + n) w.commitment
  pub few : w.fees ≤ n * 100000000000
  pub above : neg_ℤ (pos (n * 1000000000000)) ≤ℤ w.net
  pub below : w.net ≤ℤ pos (n * 1000000000000)

-- an hour passed: the walk stands behind it and the hour shares as it is eligible, or its event, told from 1, may not follow
abbrev pub Passes : ResourceRecord → RealTimeRecord → ℕ → Result HourShare ForbiddenEvent → Walk → Type 0
Passes g r h (Err e) after = (commitment g r (h + 1) ≡ None) × (e.hour ≡ h + 1)
Passes g r h (Ok x) after = (x ≡ real_time_share g r h) × Stands g r (h + 1) after

-- the whole day passed: no event is forbidden, and the sum and the hours are those of the credit
pub record SumsUp (g : ResourceRecord) (r : RealTimeRecord) (m : ℤ) (hours : List HourShare) : Type 0 where
  pub allowed : forbidden_hour g r 24 ≡ None
  pub sum : m ≡ real_time_millicents g r
  pub shares : hours ≡ real_time_shares g r
