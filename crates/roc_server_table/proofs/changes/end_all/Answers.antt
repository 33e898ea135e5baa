use Rattle.std.proofs.Common.{◌&&◌, ◌∙◌, not, List, get_or, ap}
use Rattle.std.proofs.lemmas.List.{get_or_default}
use Rattle.roc_sequence.specs.Places.{is_listed}
use Rattle.roc_sequence.proofs.Fronts.{front_whole}
use Rattle.roc_base.specs.declared.id.TxnId.{TxnId}
use Rattle.roc_base.specs.TxnId.{is_txn}
use Rattle.roc_depgraph.proofs.Listed.{has_listed}
use Rattle.roc_server_table.specs.Inner.Changes.{all_ended}
use Rattle.roc_server_rows.specs.Rows.{lists_by}
use Rattle.roc_server_table.specs.Inner.Kept.{decided_of}
use Rattle.roc_server_table.proofs.AllEnded.{ended_next, none_ended}
use Rattle.roc_server_table.proofs.EndedIds.{next_decided, next_may, none_gone}
use Rattle.roc_server_rows.proofs.Waits.{has_at}
use Rattle.roc_server_table.proofs.changes.end_all.Goals as goal

abbrev none : TxnId
none = record { coord = 0; seq = 0 }

pub loop-id-init : goal.loop-id-init
loop-id-init c = record { kept = c.requires.kept; lists = none_ended (lists_by c.args.parts.now.rows.items); decided = none_gone (decided_of c.args.parts.now.rows.items c.args.marks.now) }

pub end_noted-requires : goal.end_noted-requires
end_noted-requires c =
    let ids = c.args.ids.now in
    let i = c.loop-id.id-index in
    let is = get_or_default ids i none (get_or ids i none) c.loop-id-test.true in
    record {
      kept = c.loop-id.invariant.kept;
      may = next_may c.args.parts.now c.loop-id.parts c.args.marks.now c.loop-id.marks ids i (get_or ids i none) c.loop-id-test.true is c.loop-id.invariant.lists c.loop-id.invariant.decided
          (c.requires.decided (get_or ids i none) (has_listed ids (get_or ids i none) (has_at ids i (get_or ids i none) c.loop-id-test.true is)));
    }

pub loop-id-preserved : goal.loop-id-preserved
loop-id-preserved c =
    let ids = c.args.ids.now in
    let i = c.loop-id.id-index in
    let is = get_or_default ids i none (get_or ids i none) c.loop-id-test.true in
    let e = c.end_noted.ensures in
    record {
      kept = e.kept;
      lists = ended_next ids i (get_or ids i none) (lists_by c.args.parts.now.rows.items) (lists_by c.loop-id.parts.rows.items) (lists_by c.end_noted.new.parts.rows.items) c.loop-id-test.true is
          c.loop-id.invariant.lists e.lists;
      decided = next_decided c.args.parts.now c.loop-id.parts c.args.marks.now c.loop-id.marks ids i (get_or ids i none) c.loop-id-test.true is c.loop-id.invariant.lists c.loop-id.invariant.decided
          (decided_of c.end_noted.new.parts.rows.items c.end_noted.new.marks) e.decided;
    }

pub returns-clause-lists : goal.returns-clause-lists
returns-clause-lists c =
    c.loop-id.invariant.lists ∙ ap (λ (ids : List TxnId). all_ended ids (lists_by c.args.parts.now.rows.items)) (front_whole c.args.ids.now c.loop-id.id-index c.loop-id-test.false)

pub returns-clause-decided : goal.returns-clause-decided
returns-clause-decided c = λ t.
    c.loop-id.invariant.decided t
    ∙ ap (λ (ids : List TxnId). is_listed is_txn (decided_of c.args.parts.now.rows.items c.args.marks.now) t && not (is_listed is_txn ids t))
    (front_whole c.args.ids.now c.loop-id.id-index c.loop-id-test.false)
