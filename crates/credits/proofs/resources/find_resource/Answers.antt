use Rattle.std.proofs.Common.{rules, tests}
use Rattle.std.proofs.lemmas.Iterator.{first_from_find}
use Rattle.std.proofs.lemmas.Iterator.Consumers.{YieldsList-from_first}
use Rattle.credits.specs.Resources.{resources_of, resources_behind}
use Rattle.credits.proofs.Days.{day_formed}
use Rattle.credits.proofs.Finding.{Named, Other, found}
use Rattle.credits.proofs.SumLaws.{day_lawful}
use Rattle.credits.proofs.resources.find_resource.Goals as goal

pub returns-clause-value : goal.returns-clause-value
returns-clause-value c =
    let f = c.args.day.now.file.now in
    let n = c.args.number in
    let all = YieldsList-from_first (λ x. x) (λ s. resources_behind s.block s.day.now.file.now) {s = c.resources.result} (resources_of f) (search rules) in
    found n (resources_of f) c.find.result
    (first_from_find c.find.new.self _ c.find.result (Named n) (Other n) c.find.ensures.ran all (λ x q k. search (rules, tests)) (λ x q k. search (rules, tests)))

pub returns-clause-lawful : goal.returns-clause-lawful
returns-clause-lawful c = day_lawful c.args.day.now.file.now (day_formed c.args.day.now)
