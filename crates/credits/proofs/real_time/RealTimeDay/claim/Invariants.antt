use Rattle.std.proofs.Common.{◌≡◌, ℕ, ◌<◌, length, get_or, None}
use Rattle.credits.specs.RealTime.{forbidden_hour, real_time_share}
use Rattle.credits.specs.Walks.{Stands}
use Rattle.credits.proofs.Allots.{no_share}
use Rattle.credits.proofs.real_time.RealTimeDay.claim.Given as goal

abbrev pub invariant-loop-hour : goal.invariant-loop-hour
invariant-loop-hour l =
    Stands l.self.resource.now l.self.real_time.now l.hour l.walk
    × (forbidden_hour l.self.resource.now l.self.real_time.now l.hour ≡ None)
    × (length l.share-items ≡ 24)
    × ((k : ℕ) → k < l.hour → get_or l.share-items k no_share ≡ real_time_share l.self.resource.now l.self.real_time.now k)
