use Rattle.std.proofs.Common.{◌≡◌, refl, sym, ap, ◌∙◌, arith, rules}
use Rattle.std.proofs.lemmas.List.{length-replicate, take_all}
use Rattle.dayfile.specs.Bytes.{each}
use Rattle.dayfile.proofs.Each.{each_set}
use Rattle.dayfile.proofs.bytes.read_parts.Goals as goal

pub loop-i-init : goal.loop-i-init
unfolding each
loop-i-init g c = record { front = refl; long = length-replicate g.row.N c.default-parts.result }

pub loop-i-preserved : goal.loop-i-preserved
loop-i-preserved g c =
    record {
      front =
          each_set g.T.Part.from g.T.Part.WIDTH c.args.bytes.now c.loop-i.i c.loop-i.part-items c.read.result (omega arith)
          (cc) c.loop-i.invariant.front;
      long = search rules;
    }

pub returns : goal.returns
returns g c =
    let all : c.loop-i.i ≡ g.row.N = omega arith in
    sym (take_all c.loop-i.i c.loop-i.part-items (omega arith)) ∙ c.loop-i.invariant.front
    ∙ ap (λ n. each g.T.Part.from g.T.Part.WIDTH n c.args.bytes.now) all
