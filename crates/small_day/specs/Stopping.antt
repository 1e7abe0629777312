-- What stops a program.
use Rattle.std.specs.Prelude.{⊤}
use Rattle.small_day.specs.declared.stop.Stop.{Stop}
use Rattle.small_day.specs.declared.stop.Stop.TheVariants.{Refused, Io, Usage}

-- a failed read or write, or want of memory
abbrev pub FromOutside : Stop → Type 0
FromOutside (Refused _) = ⊥
FromOutside (Io _) = ⊤
FromOutside Usage = ⊥

-- no refusal of a day
abbrev pub NoRefusal : Stop → Type 0
NoRefusal (Refused _) = ⊥
NoRefusal (Io _) = ⊤
NoRefusal Usage = ⊤
