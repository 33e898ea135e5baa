use Rattle.std.proofs.Common.{refl, arith}
use Rattle.roc_journal.proofs.Making.{first_leaves, first_done, second_leaves, second_done}
use Rattle.roc_journal.proofs.journal.Journal.create.Goals as goal

pub returns-in-Failed-clause-any_moment : goal.returns-in-Failed-clause-any_moment
returns-in-Failed-clause-any_moment g c = λ tells name file empty only.
    first_leaves g.D.Disk name c.args.tag c.blank_head-blank.result c.blank_head-blank.ensures.tag_length c.blank_head-blank.ensures.bytes c.args.disk.now c.write_through.new.disk _ _
    (c.write_through.ensures.written tells name _ (record { file = file; content = empty; only = only }) (omega arith))

pub returns-in-Failed-write_through-clause-any_moment : goal.returns-in-Failed-write_through-clause-any_moment
returns-in-Failed-write_through-clause-any_moment g c = λ tells name file empty only.
    let mid = c.write_through-in-Ok.ensures.told tells in
    let first = c.in-Ok.ensures.written mid name _ (record { file = file; content = empty; only = only }) (omega arith) in
    let whole = first_done g.D.Disk name c.args.tag c.blank_head-blank.result c.blank_head-blank.ensures.tag_length c.blank_head-blank.ensures.bytes c.write_through.new.disk first.done in
    let so_far = first_leaves g.D.Disk name c.args.tag c.blank_head-blank.result c.blank_head-blank.ensures.tag_length c.blank_head-blank.ensures.bytes c.args.disk.now c.write_through.new.disk _ _
    first in
    second_leaves g.D.Disk name c.args.tag c.blank_head-blank.result c.blank_head-blank.ensures.tag_length c.blank_head-blank.ensures.bytes c.args.disk.now
    c.write_through.new.disk c.write_through-in-Ok.new.disk _ _
    so_far (c.write_through-in-Ok.ensures.written tells name _ whole (omega arith))

pub returns-in-Ok-write_through-clause-any_moment : goal.returns-in-Ok-write_through-clause-any_moment
returns-in-Ok-write_through-clause-any_moment g c = λ tells name file empty only.
    let mid = c.write_through-in-Ok.ensures.told tells in
    let first = c.in-Ok.ensures.written mid name _ (record { file = file; content = empty; only = only }) (omega arith) in
    let whole = first_done g.D.Disk name c.args.tag c.blank_head-blank.result c.blank_head-blank.ensures.tag_length c.blank_head-blank.ensures.bytes c.write_through.new.disk first.done in
    let so_far = first_leaves g.D.Disk name c.args.tag c.blank_head-blank.result c.blank_head-blank.ensures.tag_length c.blank_head-blank.ensures.bytes c.args.disk.now c.write_through.new.disk _ _
    first in
    second_leaves g.D.Disk name c.args.tag c.blank_head-blank.result c.blank_head-blank.ensures.tag_length c.blank_head-blank.ensures.bytes c.args.disk.now
    c.write_through.new.disk c.write_through-in-Ok.new.disk _ _
    so_far (c.write_through-in-Ok.ensures.written tells name _ whole (omega arith))

pub returns-in-Ok-write_through-clause-made : goal.returns-in-Ok-write_through-clause-made
returns-in-Ok-write_through-clause-made g c = λ tells name file empty only.
    let mid = c.write_through-in-Ok.ensures.told tells in
    let first = c.in-Ok.ensures.written mid name _ (record { file = file; content = empty; only = only }) (omega arith) in
    let whole = first_done g.D.Disk name c.args.tag c.blank_head-blank.result c.blank_head-blank.ensures.tag_length c.blank_head-blank.ensures.bytes c.write_through.new.disk first.done in
    let second = c.in-Ok-write_through.ensures.written tells name _ whole (omega arith) in
    second_done g.D.Disk name c.args.tag c.blank_head-blank.result c.blank_head-blank.ensures.tag_length c.blank_head-blank.ensures.bytes c.write_through-in-Ok.new.disk _ refl second.done
