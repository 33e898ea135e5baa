use Rattle.std.proofs.Common.{◌≡◌, ◌∙◌, List, is_some, length, ap, subst, sym, arith}
use Rattle.roc_sequence.specs.Places.{is_listed}
use Rattle.roc_base.specs.declared.id.TxnId.{TxnId}
use Rattle.roc_base.specs.TxnId.{is_txn}
use Rattle.roc_server_rows.specs.Changes.{untold}
use Rattle.roc_server_table.specs.Inner.Kept.{decided_of, IsKept}
use Rattle.roc_server_table.proofs.AllLearnt.{one_untold, unknown_undecided}
use Rattle.roc_server_table.proofs.FilledMarks.{refilled}
use Rattle.roc_server_table.proofs.LeadingRows.{grow_bits, learnt_bits, same_bits, unlearnt_bits}
use Rattle.roc_server_table.proofs.changes.learn_noted.Goals as goal

pub unlearn_one-requires : goal.unlearn_one-requires
unlearn_one-requires c =
    let q = c.learn_marked.new.parts in
    let e = c.learn_marked.ensures in
    record {
      kept = subst (IsKept q) (sym c.deref_mut.ensures.value) e.kept;
      undecided = ap (λ (ids : List TxnId). is_listed is_txn ids c.args.id) (ap (decided_of q.rows.items) c.deref_mut.ensures.value ∙ e.decided)
          ∙ unknown_undecided c.args.parts.now c.args.marks.now.items c.requires.kept.kept c.args.id (ap is_some c.requires.unknown);
    }

pub returns-in-Err-note_row-clause-kept : goal.returns-in-Err-note_row-clause-kept
returns-in-Err-note_row-clause-kept c =
    let p = c.args.parts.now in
    let q = c.learn_marked.new.parts in
    let r = c.unlearn_one.new.parts in
    let marks = c.unlearn_one.new.marks in
    let u = c.unlearn_one.ensures in
    let each : length marks ≡ length c.deref_mut.result.now = omega arith in
    let many : length marks ≡ length c.learn_marked.new.marks.items = each ∙ ap length c.deref_mut.ensures.value in
    record {
      kept = subst (IsKept r) (sym (refilled c.learn_marked.new.marks.len marks c.learn_marked.new.marks.items many c.learn_marked.new.marks.ok.0)) u.kept;
      bits = same_bits r.rows.items c.args.bits.now c.note_row.new.bits
          (unlearnt_bits p q c.in-Ok.at c.in-Ok.ensures.learnt c.requires.kept.kept.whole r.rows.items c.args.bits.now (u.taken c.in-Ok.at c.in-Ok.ensures.row) c.requires.kept.bits)
          c.in-Err-note_row.ensures.err;
    }

pub returns-in-Err-note_row-clause-err : goal.returns-in-Err-note_row-clause-err
returns-in-Err-note_row-clause-err c =
    c.unlearn_one.ensures.lists ∙ (ap (untold c.args.id) c.in-Ok.ensures.ok ∙ one_untold c.args.parts.now.rows.items c.args.done.now c.args.id c.args.edges.now c.requires.unknown)

pub returns-in_default-clause-kept : goal.returns-in_default-clause-kept
returns-in_default-clause-kept c = record {
  kept = c.learn_marked.ensures.kept;
  bits = learnt_bits c.args.parts.now c.learn_marked.new.parts c.in-Ok.at c.in-Ok.ensures.learnt c.requires.kept.kept.whole c.args.bits.now
      c.note_row.new.bits c.requires.kept.bits c.in_default.ensures.ok;
}

pub returns-in-Err-clause-kept : goal.returns-in-Err-clause-kept
returns-in-Err-clause-kept c =
    let q = c.learn_marked.new.parts in
    record {
      kept = c.learn_marked.ensures.kept;
      bits = grow_bits c.args.parts.now q.rows.items q.stamp c.requires.kept.kept.whole c.in-Err.ensures.grown c.args.bits.now c.requires.kept.bits;
    }
