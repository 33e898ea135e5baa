use Rattle.roc_journal.proofs.Endings.{gate_inside, cut_leaves, cut_done}
use Rattle.roc_journal.proofs.reader.Reader.into_journal.Goals as goal

pub returns-in-Failed-clause-any_moment : goal.returns-in-Failed-clause-any_moment
returns-in-Failed-clause-any_moment g c = λ tells name bytes records durable read journal.
    cut_leaves g.D.Disk name _ bytes records c.args.self.gate journal read.gate c.args.disk.now c.cut_through.new.disk _ _
    (c.cut_through.ensures.cut tells name bytes durable (gate_inside g.D.Disk name _ bytes records c.args.self.gate journal read.gate))

pub returns-in-Ok-clause-any_moment : goal.returns-in-Ok-clause-any_moment
returns-in-Ok-clause-any_moment g c = λ tells name bytes records durable read journal.
    cut_leaves g.D.Disk name _ bytes records c.args.self.gate journal read.gate c.args.disk.now c.cut_through.new.disk _ _
    (c.cut_through.ensures.cut tells name bytes durable (gate_inside g.D.Disk name _ bytes records c.args.self.gate journal read.gate))

pub returns-in-Ok-clause-settled : goal.returns-in-Ok-clause-settled
returns-in-Ok-clause-settled g c = λ tells name bytes records durable read journal.
    let through = c.in-Ok.ensures.cut tells name bytes durable (gate_inside g.D.Disk name _ bytes records c.args.self.gate journal read.gate) in
    cut_done g.D.Disk name _ bytes records c.args.self.gate journal read.gate c.cut_through.new.disk _ c.ending_at.ensures through.done
