-- The first event of a day that may not follow those before it.
use Rattle.std.specs.Prelude.{◌≡◌, ℕ, zero, suc, ◌+◌, ◌<◌, Bool, true, false, cond, not, List, length, slice_index_or, Some, None, Option, nat_lt}
use Rattle.dayfile.specs.declared.record.Event.{Event}
use Rattle.dayfile.specs.declared.record.Event.TheVariants.{Off as Rests, PoolRun, SelfRun, Trip, IsoRestart, OwnRestart}
use Rattle.explanation.specs.declared.events.Status.{Status}
use Rattle.explanation.specs.declared.events.Status.TheVariants.{Off, Running, Tripped}
use Rattle.explanation.specs.declared.events.Misfit.{Misfit}

abbrev pub is_running : Status → Bool
is_running Off = false
is_running Running = true
is_running (Tripped h) = false

abbrev pub is_tripped : Status → Bool
is_tripped Off = false
is_tripped Running = false
is_tripped (Tripped h) = true

-- AN EVENT MAY FOLLOW, but for a run for the pool of a Resource that is tripped, a trip of one that is not running, and a restart of
-- one that is not tripped
abbrev pub may_follow : Event → Status → Bool
may_follow Rests s = true
may_follow PoolRun s = not (is_tripped s)
may_follow SelfRun s = true
may_follow Trip s = is_running s
may_follow IsoRestart s = is_tripped s
may_follow OwnRestart s = is_tripped s

-- off, a Resource that is tripped stays so, and another is off line
abbrev pub resting : Status → Status
resting Off = Off
resting Running = Off
resting (Tripped h) = Tripped h

-- how a Resource stands behind an event of hour h, having stood so before it
abbrev pub behind : ℕ → Event → Status → Status
behind h Rests s = resting s
behind h PoolRun s = Running
behind h SelfRun s = Running
behind h Trip s = Tripped h
behind h IsoRestart s = Running
behind h OwnRestart s = Running

-- the event of hour k, from 0
abbrev pub event : List Event → ℕ → Event
event es k = slice_index_or es k Rests

-- how a Resource stands behind the first k hours: at midnight it runs if it has been on line for an hour or more
unfoldable pub status_behind : ℕ → List Event → ℕ → Status
status_behind on_line es zero = cond (nat_lt 0 on_line) Running Off
status_behind on_line es (suc k) = behind (k + 1) (event es k) (status_behind on_line es k)

abbrev pub may_follow_at : ℕ → List Event → ℕ → Bool
may_follow_at on_line es k = may_follow (event es k) (status_behind on_line es k)

-- THE FIRST MISFIT of a day: none where the event of each hour may follow those before it; else that of an hour, from 1, whose event
-- may not follow, while those of the hours before it may
abbrev pub IsFirstMisfit : ℕ → List Event → Option Misfit → Type 0
IsFirstMisfit on_line es None = (k : ℕ) → k < length es → may_follow_at on_line es k ≡ true
IsFirstMisfit on_line es (Some m) =
    (k : ℕ)
    × (k < length es)
    × (m ≡ record { hour = k + 1; event = event es k; before = status_behind on_line es k })
    × (may_follow_at on_line es k ≡ false)
    × ((j : ℕ) → j < k → may_follow_at on_line es j ≡ true)
