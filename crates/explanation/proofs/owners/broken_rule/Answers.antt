use Rattle.std.proofs.Common.{◌≡◌, ◌+◌, rules}
use Rattle.std.specs.Option.{option_or}
use Rattle.explanation.specs.Shares.{used_rule, sum_rule, unused_rule}
use Rattle.explanation.proofs.Rules.{rule_by_halves}
use Rattle.explanation.proofs.owners.broken_rule.Goals as goal

pub returns : goal.returns
returns c =
    let used = c.split_at.result.0.now in
    let rest = c.split_at.result.1.now in
    let m : c.or_else.result ≡ option_or (used_rule 1 0 c.args.limit used) (sum_rule used) = search rules in
    let n : c.or_else-2.result ≡ option_or c.or_else.result (unused_rule (c.args.count + 1) rest) = search rules in
    let h = rule_by_halves c.args.limit c.args.count c.min.result c.args.owners.now used rest c.min.ensures c.split_at.ensures.front c.split_at.ensures.back in
    cc (m, n, h)
