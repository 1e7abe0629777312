use Rattle.std.proofs.Common.{◌≡◌, length, take, drop, ap, arith, rules}
use Rattle.dayfile.specs.Bytes.{number}
use Rattle.dayfile.proofs.Numbers.{number_four}
use Rattle.dayfile.proofs.bytes.word_inside.Goals as goal

pub returns : goal.returns
returns c =
    let e : c.unwrap.result.now ≡ take 4 (drop c.args.at c.args.bytes.now) = search rules in
    let long : length c.unwrap.result.now ≡ 4 = search rules in
    omega (arith, number_four c.unwrap.result.now long, ap number e)
