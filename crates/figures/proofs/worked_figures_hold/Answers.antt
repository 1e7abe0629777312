use Rattle.std.proofs.Common.{ℕ, refl}
use Rattle.dayfile.specs.Bytes.{number, digits, weighed, each}
use Rattle.dayfile.specs.Layout.{fault_from, first_fault}
use Rattle.dayfile.specs.Owners.{placed, parts_of, vacant}
use Rattle.dayfile.specs.Records.{encode}
use Rattle.dayfile.specs.Files.{tally, latest, kind_before, number_before, blocks_fault}
use Rattle.division.specs.Division.{whole_part, remainder, left_over, rank, share, divided}
use Rattle.figures.proofs.worked_figures_hold.Goals as goal

-- the definitions that the figures are worked out by
workings : ℕ
unfolding number digits weighed each fault_from first_fault placed parts_of vacant encode tally latest kind_before number_before blocks_fault whole_part remainder left_over rank share divided
workings = 0

pub returns : goal.returns
unfolding workings
returns c =
    (refl, (refl, (refl, (refl, (refl, (refl, (refl, (refl, (refl, (refl, (refl, (refl, (refl, (refl, (refl, (refl, (refl, (refl, (refl, (refl, (refl, (refl, (refl, (refl, (refl, (refl, (refl, (refl, (refl, (refl, (refl, (refl, (refl, (refl, (refl, (refl, (refl, (refl, (refl, (refl, (refl, (refl, (refl, (refl, (refl, (refl, (refl, (refl, (refl, (refl, (refl, (refl, (refl, (refl, tt))))))))))))))))))))))))))))))))))))))))))))))))))))))
