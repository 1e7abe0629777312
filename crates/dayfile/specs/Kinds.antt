-- Kinds and letters; what stands before a block, as the code holds it.
use Rattle.std.specs.Prelude.{ℕ, option_map}
use Rattle.dayfile.specs.declared.before.Before.{Before}
use Rattle.dayfile.specs.declared.kind.Kind.{Kind}
use Rattle.dayfile.specs.declared.kind.Kind.TheVariants.{Day, Participant, Resource, RealTime}
use Rattle.dayfile.specs.Files.{Standing}

-- the letter of a kind: D, P, G or R
abbrev pub letter : Kind → ℕ
letter Day = 68
letter Participant = 80
letter Resource = 71
letter RealTime = 82

-- what stands before a block, its kind told by the letter
abbrev pub told : Before → Standing
told b =
    record {
      kind = option_map letter b.kind;
      number = b.number;
      participants = b.participants;
      resources = b.resources;
      participant = b.participant;
      resource = b.resource;
    }
