-- A credit allotted to the hours that share it.
use Rattle.std.specs.Prelude.{ℕ, Bool, true, false, cond, List, map, is_some, unwrap_or, option_map, ℤ, sum_by, count_by, ◌==◌}
use Rattle.division.specs.Division.{divided}
use Rattle.credits.specs.declared.share.HourShare.{HourShare}
use Rattle.credits.specs.Cents.{cents}

-- the kWh by which an hour shares; 0 where it does not
abbrev pub shared_kwh : HourShare → ℕ
shared_kwh x = unwrap_or x.kwh 0

-- whether each hour that shares weighs the same, since none has kWh
abbrev pub even : List HourShare → Bool
even hours = sum_by shared_kwh hours == 0

-- what an hour weighs: its kWh, or 1 where none has kWh; an hour that does not share weighs nothing
abbrev pub weight : Bool → HourShare → ℕ
weight true x = cond (is_some x.kwh) 1 0
weight false x = shared_kwh x

abbrev pub weights : List HourShare → List ℕ
weights hours = map (weight (even hours)) hours

-- an hour with one kWh, if it shares
abbrev pub level : HourShare → HourShare
level x = record { kwh = option_map (λ _. 1) x.kwh; cents = x.cents }

-- the credit in cents; without an hour that shares it is 0
abbrev pub claimed : ℤ → List HourShare → ℕ
claimed m hours = cond (count_by (λ x. is_some x.kwh) hours == 0) 0 (cents m)

-- THE HOURS' CENTS of a credit in millicents
unfoldable pub allotted : ℤ → List HourShare → List ℕ
allotted m hours = divided (claimed m hours) (weights hours)
