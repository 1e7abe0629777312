-- That a record keeps its limits is a fact with one proof, so that a struct may hold it.
use Rattle.std.specs.Prelude.{ℕ, List, [], ◌∷◌}
use Rattle.std.specs.Coded.{×_prop, Unit-prop, le_prop}
use Rattle.std.proofs.Props.{props}
use Rattle.dayfile.specs.declared.record.ResourceRecord.{ResourceRecord}
use Rattle.dayfile.specs.declared.record.RealTimeRecord.{RealTimeRecord}
use Rattle.dayfile.specs.Owners.{Rises}
use Rattle.dayfile.specs.Keeping.{ResourceKept, RealTimeKept}

rises_prop : (ns : List ℕ) → IsProp (Rises ns)
rises_prop [] = Unit-prop
rises_prop (n ∷ []) = Unit-prop
rises_prop (n ∷ m ∷ ns) = ×_prop le_prop (rises_prop (m ∷ ns))

pub resource_kept_prop : (limit : ℕ) (g : ResourceRecord) → IsProp (ResourceKept limit g)
resource_kept_prop limit g = hlevel (props, rises_prop)

pub real_time_kept_prop : (r : RealTimeRecord) → IsProp (RealTimeKept r)
real_time_kept_prop r = hlevel props
