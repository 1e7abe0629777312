use Rattle.credits.proofs.Rows.{wide_added}
use Rattle.credits.proofs.table.Table.add.Goals as goal

pub invariant_of-self : goal.invariant_of-self
invariant_of-self c =
    let pool = c.args.pool in
    record { wide = wide_added c.args.self.now.rows c.args.place pool.number c.args.cents c.add.new.self c.args.self.now.wide c.requires.place pool.from_one pool.few c.add.ensures.wide c.add.ensures.value }
