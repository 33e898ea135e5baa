use Rattle.std.proofs.Common.{◌≡◌, ◌∙◌, List, filter, ap, refl}
use Rattle.roc_server_rows.specs.declared.rows.Row.{Row}
use Rattle.roc_server_rows.specs.declared.rows.Parts.{Parts}
use Rattle.roc_server_rows.specs.Marks.{is_open}
use Rattle.roc_server_table.proofs.DecidedToo.{too_decided, too_kept}
use Rattle.roc_server_table.proofs.changes.decide_all.Goals as goal

pub returns-clause-kept : goal.returns-clause-kept
returns-clause-kept c =
    let p = c.args.parts.now in
    let marks = c.mark_all.new.marks in
    let q : Parts = record { alloc = p.alloc; numbers = p.numbers; rows = p.rows; undecided = c.keep_open.new.undecided; free = p.free; stamp = p.stamp } in
    let left : q.undecided.items ≡ filter (is_open p.rows.items marks) p.undecided.items
    = c.keep_open.ensures ∙ ap (λ (rs : List Row). filter (is_open rs marks) p.undecided.items) c.deref.ensures.value in
    too_kept p c.args.marks.now marks c.args.ids.now c.requires.kept c.requires.new c.mark_all.ensures q c.requires.kept.whole refl left

pub returns-clause-decided : goal.returns-clause-decided
returns-clause-decided c = too_decided c.args.parts.now c.args.marks.now c.mark_all.new.marks c.args.ids.now c.requires.kept c.requires.new c.mark_all.ensures
