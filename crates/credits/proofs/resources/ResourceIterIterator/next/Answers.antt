use Rattle.std.proofs.Common.{◌+◌, ◌<◌, ◌∷◌, length, sym, ap, ◌∙◌, subst, arith, rules, tests}
use Rattle.std.specs.Iterator.{YieldsFirst}
use Rattle.credits.specs.declared.resources.ResourceIter.{ResourceIter}
use Rattle.credits.specs.Resources.{ResourceDay, resources_behind}
use Rattle.credits.proofs.Opening.{next_found, none_found}
use Rattle.credits.proofs.resources.ResourceIterIterator.next.Goals as goal

pub returns-in_err-unit-clause-steps : goal.returns-in_err-unit-clause-steps
returns-in_err-unit-clause-steps c =
    let s = c.args.self.now in
    let none = none_found _ s.day.now.file.now _ (λ k r q h. search (rules, tests)) _ (search rules) c.in_err-unit.ensures.runs in
    subst (λ r. YieldsFirst (λ (t : ResourceIter). resources_behind t.block t.day.now.file.now) s r s) (sym c.from_residual.ensures) (none, none)

pub returns-clause-steps : goal.returns-clause-steps
returns-clause-steps c =
    let f = c.args.self.now.day.now.file.now in
    let x = c.in_ok-unit.unit in
    next_found _ f _ (λ k r q h. search (rules, tests)) _ c.find_map.new.self x (search rules) c.in_ok-unit.ensures.ran
    ∙ ap (λ (y : ResourceDay). x ∷ resources_behind (y.block + 1) f) (sym c.unit.view_is)

pub returns-clause-goes : goal.returns-clause-goes
returns-clause-goes c =
    let s = c.args.self.now in
    let f = s.day.now.file.now in
    let x = c.in_ok-unit.unit in
    let e = next_found _ f _ (λ k r q h. search (rules, tests)) _ c.find_map.new.self x (search rules) c.in_ok-unit.ensures.ran in
    let n : length (resources_behind (c.unit.inside.block + 1) f) < length (resources_behind s.block f) =
    omega (arith, ap length e, ap (λ (y : ResourceDay). length (resources_behind (y.block + 1) f)) c.unit.view_is) in
    record { on = λ _. (tt, tt, n); keeps = tt; rests = λ _. tt }
