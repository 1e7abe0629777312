use Rattle.std.proofs.Common.{◌≡◌, ℕ, zero, suc, ◌<◌, Bool, true, ◌&&◌, ltb, List, [], ◌∷◌, get_or, refl, arith}
use Rattle.std.proofs.lemmas.Bool.{and_parts, ltb-true}
use Rattle.std.specs.List.{flat_map}
use Rattle.dayfile.specs.Bytes.{number, digits, weighed, each}
use Rattle.dayfile.specs.Records.{encode}
use Rattle.dayfile.specs.Layout.{fault_from, first_fault}
use Rattle.dayfile.specs.Owners.{placed, parts_of, vacant}
use Rattle.dayfile.specs.Files.{tally, latest, kind_before, number_before, blocks_fault}
use Rattle.dayfile.specs.Days.{records_from, built_in}
use Rattle.dayfile.proofs.day.AdmittedDay.built_in.Goals as goal

workings : ℕ
unfolding number digits encode weighed each fault_from first_fault placed parts_of vacant tally latest kind_before number_before blocks_fault records_from
workings = 0

abbrev all_bytes : List ℕ → Bool
all_bytes [] = true
all_bytes (b ∷ bs) = ltb b 256 && all_bytes bs

bytes_all : (bs : List ℕ) → all_bytes bs ≡ true → (i : ℕ) → get_or bs i 0 < 256
bytes_all [] e i = omega arith
bytes_all (b ∷ bs) e zero = ltb-true b 256 (and_parts (ltb b 256) (all_bytes bs) e).0
bytes_all (b ∷ bs) e (suc i) = bytes_all bs (and_parts (ltb b 256) (all_bytes bs) e).1 i

pub invariant_of-result : goal.invariant_of-result
unfolding workings
invariant_of-result c = record { kept = refl; bytes = bytes_all (flat_map encode built_in) refl }

pub returns : goal.returns
unfolding workings
returns c = record { records = refl; file = refl }
