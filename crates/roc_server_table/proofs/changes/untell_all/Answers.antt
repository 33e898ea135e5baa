use Rattle.std.proofs.Common.{◌≡◌, ◌∙◌, ℕ, false, List, filter, ap, refl}
use Rattle.std.specs.Prelude.{Vec}
use Rattle.std.specs.declared.alloc.Global.{Global}
use Rattle.roc_sequence.specs.Places.{is_listed}
use Rattle.roc_sequence.proofs.Fronts.{front_whole}
use Rattle.roc_base.specs.declared.id.TxnId.{TxnId}
use Rattle.roc_base.specs.TxnId.{is_txn}
use Rattle.roc_depgraph.specs.declared.known.KnownList.{KnownList}
use Rattle.roc_server_table.specs.Inner.Changes.{all_untold}
use Rattle.roc_server_rows.specs.declared.rows.Row.{Row}
use Rattle.roc_server_rows.specs.declared.rows.Parts.{Parts}
use Rattle.roc_server_rows.specs.Rows.{lists_by}
use Rattle.roc_server_rows.specs.Marks.{is_open}
use Rattle.roc_server_table.specs.Inner.Kept.{decided_of}
use Rattle.roc_server_table.proofs.TakenBack.{cut_kept, none_untold, once_cut, untold_cut, untold_decided, untold_next}
use Rattle.roc_server_rows.proofs.Waits.{has_at}
use Rattle.roc_server_table.proofs.changes.untell_all.Goals as goal

pub loop-k-init : goal.loop-k-init
loop-k-init c = record {
  kept = once_cut c.args.parts.now c.args.marks.now c.requires.kept.kept;
  bits = c.requires.kept.bits;
  lists = none_untold (lists_by c.args.parts.now.rows.items);
  decided = refl;
}

pub untell_noted-requires : goal.untell_noted-requires
untell_noted-requires c = record { whole = c.loop-k.invariant.kept.whole; bits = c.loop-k.invariant.bits }

pub loop-k-preserved : goal.loop-k-preserved
loop-k-preserved c =
    let i = c.loop-k.invariant in
    let e = c.untell_noted.ensures in
    let k = c.k-item.result in
    let p = c.loop-k.parts in
    let q = c.untell_noted.new.parts in
    let undecided : is_listed is_txn (decided_of p.rows.items c.args.marks.now) k.of ≡ false
    = ap (λ (ids : List TxnId). is_listed is_txn ids k.of) i.decided ∙ c.requires.undecided k (has_at c.args.news.now c.loop-k.k-index k c.loop-k-test.true c.k-item.is) in
    record {
      kept = untold_cut p q c.args.marks.now i.kept c.requires.awake k.of undecided e.whole e.each e.taken e.same (ap (λ (v : Vec ℕ Global). v.items) e.undecided);
      bits = e.bits;
      lists = untold_next c.args.news.now c.loop-k.k-index k (lists_by c.args.parts.now.rows.items) (lists_by p.rows.items) (lists_by q.rows.items) c.loop-k-test.true c.k-item.is i.lists e.lists;
      decided = untold_decided p q c.args.marks.now i.kept c.requires.awake k.of undecided e.whole e.each e.taken e.same ∙ i.decided;
    }

pub returns-clause-kept : goal.returns-clause-kept
returns-clause-kept c =
    let r = c.loop-k.parts in
    let q : Parts = record { alloc = r.alloc; numbers = r.numbers; rows = r.rows; undecided = c.keep_open.new.undecided; free = r.free; stamp = r.stamp } in
    let left : q.undecided.items ≡ filter (is_open r.rows.items c.args.marks.now) r.undecided.items
    = c.keep_open.ensures ∙ ap (λ (rs : List Row). filter (is_open rs c.args.marks.now) r.undecided.items) c.deref.ensures.value in
    let i = c.loop-k.invariant in
    record { kept = cut_kept r q c.args.marks.now i.kept i.kept.whole refl left; bits = i.bits }

pub returns-clause-lists : goal.returns-clause-lists
returns-clause-lists c =
    c.loop-k.invariant.lists ∙ ap (λ (ks : List KnownList). all_untold ks (lists_by c.args.parts.now.rows.items)) (front_whole c.args.news.now c.loop-k.k-index c.loop-k-test.false)
