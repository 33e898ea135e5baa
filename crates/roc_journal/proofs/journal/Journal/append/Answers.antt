use Rattle.std.proofs.Common.{refl}
use Rattle.roc_journal.proofs.Appending.{begun, behind_is_within, gate_is_within, first_leaves, first_done, second_leaves, second_done}
use Rattle.roc_journal.proofs.journal.Journal.append.Goals as goal

pub returns-in-Failed-clause-any_moment : goal.returns-in-Failed-clause-any_moment
returns-in-Failed-clause-any_moment g c = λ tells name tag records added settled is_of text.
    let start = begun g.D.Disk name tag records added c.args.self.now c.args.bytes.now is_of text c.args.disk.now settled in
    let within = behind_is_within g.D.Disk name tag records added c.args.self.now c.args.bytes.now is_of text c.args.disk.now settled in
    first_leaves g.D.Disk name tag records added c.args.self.now c.args.bytes.now is_of text c.args.disk.now settled c.write_through.new.disk _ _ _
    (c.write_through.ensures.written tells name _ start within)

pub returns-in-Failed-write_through-clause-any_moment : goal.returns-in-Failed-write_through-clause-any_moment
returns-in-Failed-write_through-clause-any_moment g c = λ tells name tag records added settled is_of text.
    let mid = c.write_through-in-Ok.ensures.told tells in
    let start = begun g.D.Disk name tag records added c.args.self.now c.args.bytes.now is_of text c.args.disk.now settled in
    let within = behind_is_within g.D.Disk name tag records added c.args.self.now c.args.bytes.now is_of text c.args.disk.now settled in
    let first = c.in-Ok.ensures.written mid name _ start within in
    let staged = first_done g.D.Disk name tag records added c.args.self.now c.args.bytes.now is_of text c.args.disk.now settled c.write_through.new.disk first.done in
    let inside = gate_is_within g.D.Disk name tag records added c.args.self.now c.args.bytes.now is_of text c.args.disk.now settled in
    let so_far = first_leaves g.D.Disk name tag records added c.args.self.now c.args.bytes.now is_of text c.args.disk.now settled c.write_through.new.disk _ _ _ first in
    second_leaves g.D.Disk name tag records added c.args.self.now c.args.bytes.now is_of text c.args.disk.now settled c.write_through.new.disk c.write_through-in-Ok.new.disk _ _ so_far
    (c.write_through-in-Ok.ensures.written tells name _ staged inside)

pub returns-in-Ok-write_through-clause-any_moment : goal.returns-in-Ok-write_through-clause-any_moment
returns-in-Ok-write_through-clause-any_moment g c = λ tells name tag records added settled is_of text.
    let mid = c.write_through-in-Ok.ensures.told tells in
    let start = begun g.D.Disk name tag records added c.args.self.now c.args.bytes.now is_of text c.args.disk.now settled in
    let within = behind_is_within g.D.Disk name tag records added c.args.self.now c.args.bytes.now is_of text c.args.disk.now settled in
    let first = c.in-Ok.ensures.written mid name _ start within in
    let staged = first_done g.D.Disk name tag records added c.args.self.now c.args.bytes.now is_of text c.args.disk.now settled c.write_through.new.disk first.done in
    let inside = gate_is_within g.D.Disk name tag records added c.args.self.now c.args.bytes.now is_of text c.args.disk.now settled in
    let so_far = first_leaves g.D.Disk name tag records added c.args.self.now c.args.bytes.now is_of text c.args.disk.now settled c.write_through.new.disk _ _ _ first in
    second_leaves g.D.Disk name tag records added c.args.self.now c.args.bytes.now is_of text c.args.disk.now settled c.write_through.new.disk c.write_through-in-Ok.new.disk _ _ so_far
    (c.write_through-in-Ok.ensures.written tells name _ staged inside)

pub returns-in-Ok-write_through-clause-appended : goal.returns-in-Ok-write_through-clause-appended
returns-in-Ok-write_through-clause-appended g c = λ tells name tag records added settled is_of text.
    let mid = c.write_through-in-Ok.ensures.told tells in
    let start = begun g.D.Disk name tag records added c.args.self.now c.args.bytes.now is_of text c.args.disk.now settled in
    let within = behind_is_within g.D.Disk name tag records added c.args.self.now c.args.bytes.now is_of text c.args.disk.now settled in
    let first = c.in-Ok.ensures.written mid name _ start within in
    let staged = first_done g.D.Disk name tag records added c.args.self.now c.args.bytes.now is_of text c.args.disk.now settled c.write_through.new.disk first.done in
    let inside = gate_is_within g.D.Disk name tag records added c.args.self.now c.args.bytes.now is_of text c.args.disk.now settled in
    let second = c.in-Ok-write_through.ensures.written tells name _ staged inside in
    second_done g.D.Disk name tag records added c.args.self.now c.args.bytes.now is_of text c.args.disk.now settled c.write_through-in-Ok.new.disk _ refl second.done
