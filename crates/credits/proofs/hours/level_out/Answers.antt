use Rattle.std.proofs.Common.{◌≡◌, get_or, set, option_map, sym, ap, ◌∙◌, rules, arith}
use Rattle.std.proofs.lemmas.List.{get_or_default}
use Rattle.std.proofs.lemmas.List.Edits.{map_over_more}
use Rattle.credits.specs.Allotments.{level}
use Rattle.credits.proofs.Allots.{no_share}
use Rattle.credits.proofs.hours.level_out.Goals as goal

pub loop-hour-preserved : goal.loop-hour-preserved
loop-hour-preserved c =
    let ys = c.loop-hour.hours in
    let i = c.loop-hour.hour-index in
    let x = get_or ys i no_share in
    let e : option_map (λ _. 1) x.kwh ≡ c.map-hour.result = search rules in
    ap (λ k. set ys i (record { kwh = k; cents = x.cents })) (sym e)
    ∙ map_over_more level c.args.hours.now ys i x (omega arith) c.loop-hour.invariant (get_or_default ys i no_share x (omega arith))
