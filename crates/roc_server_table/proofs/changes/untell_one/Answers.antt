use Rattle.std.proofs.Common.{◌≡◌, ◌∙◌, ℕ, List, filter, ap, refl}
use Rattle.std.specs.Prelude.{Vec}
use Rattle.std.specs.declared.alloc.Global.{Global}
use Rattle.roc_server_rows.specs.declared.rows.Row.{Row}
use Rattle.roc_server_rows.specs.declared.rows.Parts.{Parts}
use Rattle.roc_server_rows.specs.Marks.{is_open}
use Rattle.roc_server_table.proofs.TakenBack.{cut_kept, once_cut, untold_cut, untold_decided}
use Rattle.roc_server_table.proofs.changes.untell_one.Goals as goal

pub returns-clause-kept : goal.returns-clause-kept
returns-clause-kept c =
    let e = c.untell.ensures in
    let r = c.untell.new.parts in
    let q : Parts = record { alloc = r.alloc; numbers = r.numbers; rows = r.rows; undecided = c.keep_open.new.undecided; free = r.free; stamp = r.stamp } in
    let stays : r.undecided.items ≡ c.args.parts.now.undecided.items = ap (λ (v : Vec ℕ Global). v.items) e.undecided in
    let left : q.undecided.items ≡ filter (is_open r.rows.items c.args.marks.now) r.undecided.items
    = c.keep_open.ensures ∙ ap (λ (rs : List Row). filter (is_open rs c.args.marks.now) r.undecided.items) c.deref.ensures.value in
    let now = once_cut c.args.parts.now c.args.marks.now c.requires.kept in
    let cut = untold_cut c.args.parts.now r c.args.marks.now now c.requires.awake c.args.id c.requires.undecided e.whole e.each e.taken e.same stays in
    cut_kept r q c.args.marks.now cut e.whole refl left

pub returns-clause-decided : goal.returns-clause-decided
returns-clause-decided c =
    let e = c.untell.ensures in
    let now = once_cut c.args.parts.now c.args.marks.now c.requires.kept in
    untold_decided c.args.parts.now c.untell.new.parts c.args.marks.now now c.requires.awake c.args.id c.requires.undecided e.whole e.each e.taken e.same
