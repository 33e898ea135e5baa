use Rattle.std.proofs.Common.{◌≡◌, ℕ, List, None, Some, sym, subst}
use Rattle.std.specs.Prelude.{Vec}
use Rattle.std.specs.declared.alloc.Global.{Global}
use Rattle.roc_server_rows.specs.declared.rows.Row.{Row}
use Rattle.roc_server_rows.specs.Marks.{AreMarked, AreOpen, HasWaiting}
use Rattle.roc_server_rows.proofs.OpenRows.{open_out}
use Rattle.std.specs.Map.{lookup}
use Rattle.roc_base.specs.TxnId.{is_txn}
use Rattle.roc_server_rows.proofs.KeptMarks.{marks_out}
use Rattle.roc_server_rows.proofs.EndedRows.{ends_at, ends_none}
use Rattle.roc_server_rows.proofs.marking.end_marked.Goals as goal

pub returns-in-Some-clause-marked : goal.returns-in-Some-clause-marked
returns-in-Some-clause-marked c =
    let p = c.args.parts.now in
    let here : lookup (is_txn c.args.id) p.numbers.entries ≡ Some c.in-Some.at = sym c.in-Some.ensures in
    marks_out c.in-Some.at p.rows.items c.end.new.parts.rows.items (c.end.ensures.out c.in-Some.at here) c.args.marks.now c.drop_mark.new.marks c.requires.marked c.drop_mark.ensures
    (c.requires.may c.in-Some.at here)

pub drop_mark-requires : goal.drop_mark-requires
drop_mark-requires c = record {
  marked = subst (λ (rs : List Row). AreMarked rs c.args.marks.now) (sym c.deref.ensures.value) c.requires.marked;
  waiting = subst (λ (ns : List ℕ). HasWaiting c.args.marks.now ns) (sym c.deref-in-Some.ensures.value) c.requires.undecided.waiting;
}

pub returns-in-Some-clause-undecided : goal.returns-in-Some-clause-undecided
returns-in-Some-clause-undecided c =
    let p = c.args.parts.now in
    let here : lookup (is_txn c.args.id) p.numbers.entries ≡ Some c.in-Some.at = sym c.in-Some.ensures in
    subst (λ (v : Vec ℕ Global). AreOpen c.end.new.parts.rows.items c.drop_mark.new.marks v.items) (sym c.end.ensures.undecided)
    (open_out c.in-Some.at p.rows.items c.end.new.parts.rows.items (c.end.ensures.out c.in-Some.at here) c.args.marks.now c.drop_mark.new.marks p.undecided.items c.requires.undecided
    c.drop_mark.ensures (c.requires.may c.in-Some.at here))

pub returns-in-None-clause-undecided : goal.returns-in-None-clause-undecided
returns-in-None-clause-undecided c =
    let p = c.args.parts.now in
    let absent : lookup (is_txn c.args.id) p.numbers.entries ≡ None = sym c.in-None.ensures in
    subst (λ (v : Vec ℕ Global). AreOpen c.end-in-None.new.parts.rows.items c.args.marks.now v.items) (sym c.end-in-None.ensures.undecided)
    (subst (λ (rs : List Row). AreOpen rs c.args.marks.now p.undecided.items) (sym (c.end-in-None.ensures.same absent)) c.requires.undecided)

pub returns-in-Some-clause-ends : goal.returns-in-Some-clause-ends
returns-in-Some-clause-ends c =
    let p = c.args.parts.now in
    let here : lookup (is_txn c.args.id) p.numbers.entries ≡ Some c.in-Some.at = sym c.in-Some.ensures in
    ends_at (lookup (is_txn c.args.id) p.numbers.entries) c.in-Some.at p.rows.items c.end.new.parts.rows.items c.args.marks.now c.drop_mark.new.marks here c.end.ensures.each
    (c.end.ensures.out c.in-Some.at here)
    c.drop_mark.ensures

pub returns-in-None-clause-ends : goal.returns-in-None-clause-ends
returns-in-None-clause-ends c =
    let p = c.args.parts.now in
    let absent : lookup (is_txn c.args.id) p.numbers.entries ≡ None = sym c.in-None.ensures in
    ends_none (lookup (is_txn c.args.id) p.numbers.entries) p.rows.items c.end-in-None.new.parts.rows.items c.args.marks.now absent (c.end-in-None.ensures.same absent)
