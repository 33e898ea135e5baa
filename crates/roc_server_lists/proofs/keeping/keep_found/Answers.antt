use Rattle.std.proofs.Common.{◌≤◌, ◌++◌, ◌∙◌, Result, Ok, Err, IsOk, OnOk, List, length, refl, sym, ap, subst}
use Rattle.std.proofs.lemmas.Bool.{false≢true}
use Rattle.roc_sequence.specs.Places.{IsListed}
use Rattle.roc_base.specs.declared.id.TxnId.{TxnId}
use Rattle.roc_base.specs.TxnId.{is_txn}
use Rattle.roc_depgraph.specs.Closure.{IsRisingListOf}
use Rattle.roc_step.specs.Asking.{open_after, waiting_after}
use Rattle.roc_step.specs.New.{AreAllNew}
use Rattle.roc_server_lists.proofs.keeping.keep_found.Goals as goal

on_done : {A E P : Type 0} (r : Result A E) → IsOk r → OnOk r P → P
on_done (Ok a) done h = h
on_done (Err e) done h = absurd (false≢true done)

pub decide-requires : goal.decide-requires
decide-requires c =
    let t = c.args.parts.now.table in
    subst (λ (ids : List TxnId). AreAllNew (IsListed is_txn t.decided) t.links ids) (sym c.deref-2.ensures.value) c.requires.decided

pub returns : goal.returns
returns c =
    let old = c.args.parts.now in
    let news = c.args.news.now in
    let asked = c.deref.ensures.value in
    let waits = c.wait_for.ensures.succeeds (subst (λ asks. length asks ≤ old.waits.spare) (sym asked) c.requires.room.asks) in
    record {
      known = c.decide.ensures.known;
      links = c.decide.ensures.links;
      decided = subst (λ (ids : List TxnId). IsRisingListOf (IsListed is_txn (old.table.decided ++ ids)) c.decide.new.self.decided) c.deref-2.ensures.value c.decide.ensures.decided;
      waiting = on_done c.wait_for.result waits c.wait_for.ensures.waiting ∙ ap (waiting_after old.waits.waiting news) asked;
      fetches = on_done c.wait_for.result waits c.wait_for.ensures.fetches ∙ ap (open_after old.waits.fetches news) asked;
      marks = refl;
      taken = c.add.ensures;
    }
