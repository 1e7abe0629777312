use Rattle.std.proofs.Common.{ℕ, refl}
use Rattle.dayfile.specs.Bytes.{number, digits, weighed, each}
use Rattle.dayfile.specs.Layout.{fault_from, first_fault}
use Rattle.dayfile.specs.Owners.{placed, parts_of, vacant}
use Rattle.dayfile.specs.Records.{encode}
use Rattle.dayfile.specs.Files.{tally, latest, kind_before, number_before, blocks_fault}
use Rattle.division.specs.Division.{whole_part, remainder, left_over, rank, share, divided}
use Rattle.dayfile.specs.Days.{records_from}
use Rattle.credits.specs.Sums.{total, net}
use Rattle.credits.specs.Spells.{streak}
use Rattle.credits.specs.Allotments.{allotted}
use Rattle.credits.specs.DayAhead.{qualifies, day_ahead_millicents, day_ahead_cents}
use Rattle.credits.specs.RealTime.{commitment, forbidden_hour, real_time_millicents, real_time_cents}
use Rattle.credits.specs.Periods.{met, span}
use Rattle.credits.specs.Resources.{resources_from}
use Rattle.credits.specs.Grids.{cell}
use Rattle.credits.specs.Owning.{got, owned_cents}
use Rattle.credits.specs.Crediting.{participants_in, resource_credit, resource_cost, credit_of, pool_cost}
use Rattle.credit_figures.proofs.credit_figures_hold.Goals as goal

-- the definitions that the figures are worked out by
workings : ℕ
unfolding total net streak qualifies day_ahead_millicents day_ahead_cents allotted met span commitment forbidden_hour real_time_millicents real_time_cents records_from resources_from cell got owned_cents participants_in resource_credit resource_cost credit_of pool_cost number digits weighed each fault_from first_fault placed parts_of vacant encode tally latest kind_before number_before blocks_fault whole_part remainder left_over rank share divided
workings = 0

pub returns : goal.returns
unfolding workings
returns c =
    (refl, (refl, (refl, (refl, (refl, (refl, (refl, (refl, (refl, (refl, (refl, (refl, (refl, (refl, (refl, (refl, (refl, (refl, (refl, (refl, (refl, (refl, (refl, (refl, (refl, (refl, (refl, (refl, (refl, (refl, (refl, (refl, (refl, (refl, (refl, (refl, (refl, (refl, (refl, (refl, (refl, (refl, (refl, (refl, (refl, (refl, tt))))))))))))))))))))))))))))))))))))))))))))))
