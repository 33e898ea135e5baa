use Rattle.std.proofs.Common.{◌≡◌, ◌∙◌, List, length, ap, refl, sym, subst, arith}
use Rattle.roc_sequence.proofs.Fronts.{front_whole}
use Rattle.roc_depgraph.specs.declared.known.KnownList.{KnownList}
use Rattle.roc_server_rows.specs.declared.marks.Mark.{Mark}
use Rattle.roc_server_rows.specs.Changes.{RowLists}
use Rattle.roc_server_rows.specs.Rows.{known_of, lists_by}
use Rattle.roc_server_table.specs.Inner.Kept.{decided_of, table_of}
use Rattle.roc_server_table.specs.Inner.Leading.{AreKept}
use Rattle.roc_server_table.proofs.AllLearnt.{learnable_more, lists_more, next_new, none_more, same_table, so_far_back, so_far_undecided, with_lists}
use Rattle.roc_server_table.proofs.FilledMarks.{refilled}
use Rattle.roc_server_table.proofs.changes.learn_all.Goals as goal

pub loop-at-init : goal.loop-at-init
loop-at-init c = record { kept = c.requires.kept; lists = none_more c.args.done.now (lists_by c.args.parts.now.rows.items); decided = refl; learnable = c.requires.learnable }

pub learn_noted-requires : goal.learn_noted-requires
learn_noted-requires c = record {
  kept = c.loop-at.invariant.kept;
  unknown = next_new c.args.done.now c.args.news.now c.loop-at.at c.index-news-at.result c.loop-at-test.true c.index-news-at.is (known_of c.loop-at.parts.rows.items) c.loop-at.invariant.learnable;
  rising = c.requires.rising;
}

pub unlearn_all-requires : goal.unlearn_all-requires
unlearn_all-requires c =
    let p = c.args.parts.now in
    let q = c.learn_noted.new.parts in
    let same : decided_of q.rows.items c.deref_mut.result.now ≡ decided_of p.rows.items c.args.marks.now.items
    = ap (decided_of q.rows.items) c.deref_mut.ensures.value ∙ (c.learn_noted.ensures.decided ∙ c.loop-at.invariant.decided) in
    record {
      kept = subst (λ (ms : List Mark). AreKept q ms c.learn_noted.new.bits) (sym c.deref_mut.ensures.value) c.learn_noted.ensures.kept;
      undecided = so_far_undecided p q c.args.marks.now.items c.deref_mut.result.now c.requires.kept.kept c.args.news.now c.requires.learnable c.loop-at.at same;
    }

pub returns-in-Err-clause-err : goal.returns-in-Err-clause-err
returns-in-Err-clause-err c =
    let p = c.args.parts.now in
    let q = c.learn_noted.new.parts in
    let new = c.unlearn_all.new.parts in
    let marks = c.unlearn_all.new.marks in
    let each : length marks ≡ length c.deref_mut.result.now = omega arith in
    let many : length marks ≡ length c.learn_noted.new.marks.items = each ∙ ap length c.deref_mut.ensures.value in
    let lists : lists_by new.rows.items ≡ lists_by p.rows.items
    = c.unlearn_all.ensures.lists ∙ so_far_back p q c.args.marks.now.items marks c.requires.kept.kept c.args.news.now c.requires.learnable c.loop-at.at c.args.done.now
    (lists_by q.rows.items) (c.in-Err.ensures.err ∙ c.loop-at.invariant.lists) in
    let decided : decided_of new.rows.items marks ≡ decided_of p.rows.items c.args.marks.now.items
    = c.unlearn_all.ensures.decided ∙ (ap (decided_of q.rows.items) c.deref_mut.ensures.value ∙ (c.learn_noted.ensures.decided ∙ c.loop-at.invariant.decided)) in
    ap (table_of new.rows.items) (refilled c.learn_noted.new.marks.len marks c.learn_noted.new.marks.items many c.learn_noted.new.marks.ok.0)
    ∙ same_table p.rows.items new.rows.items c.args.marks.now.items marks lists decided

pub loop-at-preserved : goal.loop-at-preserved
loop-at-preserved c =
    let i = c.loop-at.invariant in
    let k = c.index-news-at.result in
    let e = c.in_default.ensures in
    let old = lists_by c.args.parts.now.rows.items in
    let now = lists_by c.loop-at.parts.rows.items in
    let new = lists_by c.learn_noted.new.parts.rows.items in
    record {
      kept = e.kept;
      lists = lists_more c.args.done.now c.args.news.now c.loop-at.at k c.loop-at-test.true c.index-news-at.is old now new i.lists e.ok;
      decided = e.decided ∙ i.decided;
      learnable = learnable_more c.args.done.now c.args.news.now c.loop-at.at k c.loop-at-test.true c.index-news-at.is now new i.learnable e.ok;
    }

pub returns-clause-known : goal.returns-clause-known
returns-clause-known c =
    let all = front_whole c.args.news.now c.loop-at.at c.loop-at-test.false in
    ap (λ (k : RowLists). k.known) (c.loop-at.invariant.lists ∙ ap (λ (ks : List KnownList). with_lists c.args.done.now ks (lists_by c.args.parts.now.rows.items)) all)

pub returns-clause-links : goal.returns-clause-links
returns-clause-links c =
    let all = front_whole c.args.news.now c.loop-at.at c.loop-at-test.false in
    ap (λ (k : RowLists). k.links) (c.loop-at.invariant.lists ∙ ap (λ (ks : List KnownList). with_lists c.args.done.now ks (lists_by c.args.parts.now.rows.items)) all)
