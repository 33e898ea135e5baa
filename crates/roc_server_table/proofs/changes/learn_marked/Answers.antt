use Rattle.std.proofs.Common.{◌≡◌, ◌<◌, ◌∙◌, ◌++◌, ◌∷◌, [], ℕ, List, length, ap, sym, subst}
use Rattle.std.specs.Prelude.{Vec}
use Rattle.std.specs.Vec.{vec_capacity, vec_len}
use Rattle.std.specs.declared.alloc.Global.{Global}
use Rattle.roc_server_rows.specs.declared.rows.Parts.{Parts}
use Rattle.roc_server_rows.specs.declared.marks.Mark.{Mark}
use Rattle.roc_server_rows.specs.Marks.{mark_in, AreMarked, AreOpen, HasWaiting, IsLearnt, Wakes}
use Rattle.roc_server_table.specs.Inner.Kept.{decided_of, IsFilled, IsKept}
use Rattle.roc_server_table.proofs.FilledMarks.{filled_waiting, grown_decided, grown_kept, learnt_decided, learnt_kept, refilled}
use Rattle.roc_server_table.proofs.changes.learn_marked.Goals as goal

pub returns-in_err-reserve-clause-kept : goal.returns-in_err-reserve-clause-kept
returns-in_err-reserve-clause-kept c =
    let p = c.args.parts.now in
    let k = c.requires.kept in
    let e = c.reserve.ensures in
    record {
      whole = k.whole;
      marked = subst (λ (ms : List Mark). AreMarked p.rows.items ms) (sym e.items) k.marked;
      each = ap length e.items ∙ k.each;
      undecided =
          subst (λ (ms : List Mark). AreOpen p.rows.items ms c.reserve.new.undecided.items) (sym e.items)
          (subst (λ (ns : List ℕ). AreOpen p.rows.items c.args.marks.now.items ns) (sym e.undecided) k.undecided);
    }

pub open_row-requires-clause-room : goal.open_row-requires-clause-room
open_row-requires-clause-room c = subst (λ (v : Vec ℕ Global). vec_len v < vec_capacity v) (sym c.in-Ok.ensures.undecided) c.in_ok-reserve.ensures.room

pub open_row-requires-clause-waiting : goal.open_row-requires-clause-waiting
open_row-requires-clause-waiting c =
    let p = c.args.parts.now in
    let same : c.learn.new.parts.undecided.items ≡ p.undecided.items = ap (λ (v : Vec ℕ Global). v.items) c.in-Ok.ensures.undecided ∙ c.reserve.ensures.undecided in
    subst (λ (ms : List Mark). HasWaiting ms c.learn.new.parts.undecided.items) (sym c.deref_mut.ensures.value)
    (subst (λ (ns : List ℕ). HasWaiting c.fill.new.marks.items ns) (sym same)
    (filled_waiting c.args.marks.now.items c.fill.new.marks.items p.undecided.items (λ n. c.fill.ensures.same n ∙ ap (λ (ms : List Mark). mark_in ms n) c.reserve.ensures.items)
    c.requires.kept.undecided.waiting))

pub returns-in-Ok-clause-kept : goal.returns-in-Ok-clause-kept
returns-in-Ok-clause-kept c =
    let p = c.args.parts.now in
    let r = c.learn.new.parts in
    let q : Parts = record { alloc = r.alloc; numbers = r.numbers; rows = r.rows; undecided = c.open_row.new.undecided; free = r.free; stamp = r.stamp } in
    let at = c.in-Ok.at in
    let l = c.in-Ok.ensures.learnt in
    let filled : IsFilled r.rows.items c.args.marks.now.items c.fill.new.marks.items
    = record { each = c.fill.ensures.each ∙ ap length c.deref.ensures.value; same = λ n. c.fill.ensures.same n ∙ ap (λ (ms : List Mark). mark_in ms n) c.reserve.ensures.items } in
    let wakes : Wakes at c.fill.new.marks.items c.open_row.new.marks = subst (λ (ms : List Mark). Wakes at ms c.open_row.new.marks) c.deref_mut.ensures.value c.open_row.ensures.wakes in
    let learnt : IsLearnt p q at = record { mid = l.mid; stamp = l.stamp; grows = l.grows; told = l.told } in
    let more : q.undecided.items ≡ p.undecided.items ++ at ∷ []
    = c.open_row.ensures.undecided ∙ ap (λ (ns : List ℕ). ns ++ at ∷ []) (ap (λ (v : Vec ℕ Global). v.items) c.in-Ok.ensures.undecided ∙ c.reserve.ensures.undecided) in
    subst (IsKept q) (sym (refilled c.fill.new.marks.len c.open_row.new.marks c.fill.new.marks.items wakes.each c.fill.new.marks.ok.0))
    (learnt_kept p q c.args.marks.now.items c.fill.new.marks.items c.requires.kept c.in-Ok.ensures.whole filled at c.open_row.new.marks learnt wakes more c.in-Ok.ensures.no_fewer)

pub returns-in-Ok-clause-learnt : goal.returns-in-Ok-clause-learnt
returns-in-Ok-clause-learnt c =
    let l = c.in-Ok.ensures.learnt in
    record { mid = l.mid; stamp = l.stamp; grows = l.grows; told = l.told }

pub returns-in-Ok-clause-decided : goal.returns-in-Ok-clause-decided
returns-in-Ok-clause-decided c =
    let p = c.args.parts.now in
    let r = c.learn.new.parts in
    let at = c.in-Ok.at in
    let l = c.in-Ok.ensures.learnt in
    let filled : IsFilled r.rows.items c.args.marks.now.items c.fill.new.marks.items
    = record { each = c.fill.ensures.each ∙ ap length c.deref.ensures.value; same = λ n. c.fill.ensures.same n ∙ ap (λ (ms : List Mark). mark_in ms n) c.reserve.ensures.items } in
    let wakes : Wakes at c.fill.new.marks.items c.open_row.new.marks = subst (λ (ms : List Mark). Wakes at ms c.open_row.new.marks) c.deref_mut.ensures.value c.open_row.ensures.wakes in
    let learnt : IsLearnt p r at = record { mid = l.mid; stamp = l.stamp; grows = l.grows; told = l.told } in
    ap (decided_of r.rows.items) (refilled c.fill.new.marks.len c.open_row.new.marks c.fill.new.marks.items wakes.each c.fill.new.marks.ok.0)
    ∙ learnt_decided p r c.args.marks.now.items c.fill.new.marks.items c.requires.kept c.in-Ok.ensures.whole filled at c.open_row.new.marks learnt wakes

pub returns-in-Err-clause-kept : goal.returns-in-Err-clause-kept
returns-in-Err-clause-kept c =
    let q = c.learn.new.parts in
    let marks = c.fill-in-Err.new.marks.items in
    let filled : IsFilled q.rows.items c.args.marks.now.items marks
    = record { each = c.fill-in-Err.ensures.each ∙ ap length c.deref-in-Err.ensures.value; same = λ n. c.fill-in-Err.ensures.same n ∙ ap (λ (ms : List Mark). mark_in ms n) c.reserve.ensures.items } in
    grown_kept c.args.parts.now q c.args.marks.now.items marks c.requires.kept c.in-Err.ensures.whole filled c.in-Err.ensures.grown
    (ap (λ (v : Vec ℕ Global). v.items) c.in-Err.ensures.undecided ∙ c.reserve.ensures.undecided) c.in-Err.ensures.no_fewer

pub returns-in-Err-clause-decided : goal.returns-in-Err-clause-decided
returns-in-Err-clause-decided c =
    let q = c.learn.new.parts in
    let marks = c.fill-in-Err.new.marks.items in
    let filled : IsFilled q.rows.items c.args.marks.now.items marks
    = record { each = c.fill-in-Err.ensures.each ∙ ap length c.deref-in-Err.ensures.value; same = λ n. c.fill-in-Err.ensures.same n ∙ ap (λ (ms : List Mark). mark_in ms n) c.reserve.ensures.items } in
    grown_decided c.args.parts.now q c.args.marks.now.items marks c.requires.kept c.in-Err.ensures.whole filled c.in-Err.ensures.grown
