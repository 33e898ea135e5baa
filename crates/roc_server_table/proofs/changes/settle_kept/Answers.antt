use Rattle.std.proofs.Common.{◌≡◌, ◌∙◌, None, sym}
use Rattle.std.specs.Map.{lookup}
use Rattle.roc_base.specs.TxnId.{is_txn}
use Rattle.roc_server_rows.proofs.Ended.{absent_links}
use Rattle.roc_server_table.proofs.LeadingRows.{but_bits}
use Rattle.roc_server_table.proofs.NewIds.{settled_decided}
use Rattle.roc_server_table.proofs.changes.settle_kept.Goals as goal

pub returns-in-Some-clause-kept : goal.returns-in-Some-clause-kept
returns-in-Some-clause-kept c =
    let e = c.settle_at.ensures in
    record {
      kept = record { whole = e.whole; marked = e.settled.marked; each = e.settled.each ∙ (c.requires.kept.each ∙ sym e.settled.rows); undecided = e.undecided };
      bits = but_bits c.in-Some.at c.args.parts.now.rows.items c.settle_at.new.parts.rows.items c.args.bits.now c.clear_column.new.self e.leads c.requires.bits c.clear_column.ensures;
    }

pub returns-in-Some-clause-decided : goal.returns-in-Some-clause-decided
returns-in-Some-clause-decided c = settled_decided c.args.parts.now c.settle_at.new.parts c.args.marks.now c.settle_at.new.marks c.requires.kept c.args.id c.settle_at.ensures.settled

pub returns-in_default-clause-links : goal.returns-in_default-clause-links
returns-in_default-clause-links c =
    let p = c.args.parts.now in
    let absent : lookup (is_txn c.args.id) p.numbers.entries ≡ None = sym c.in_default.ensures in
    absent_links p.numbers.entries p.rows.items p.stamp c.requires.kept.whole c.args.id absent
