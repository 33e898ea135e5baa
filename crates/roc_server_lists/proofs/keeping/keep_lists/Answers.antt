use Rattle.std.proofs.Common.{◌≢◌, [], List, ap, subst, sym, ◌∙◌}
use Rattle.roc_base.specs.declared.id.TxnId.{TxnId}
use Rattle.roc_base.specs.TxnId.{is_txn}
use Rattle.roc_sequence.specs.Places.{IsListed}
use Rattle.roc_sequence.proofs.Holds.{has_all}
use Rattle.roc_step.specs.New.{AreAllNew}
use Rattle.roc_server_lists.specs.Inner.Keeping.{IsOverOf, KeepsFound}
use Rattle.roc_server_lists.specs.Inner.Trials.{lists_forgetting}
use Rattle.roc_server_lists.proofs.LessonSteps.{is_over, lists_kept}
use Rattle.roc_server_lists.proofs.keeping.keep_lists.Goals as goal

pub keep_found-requires-clause-decided : goal.keep_found-requires-clause-decided
keep_found-requires-clause-decided c =
    let t = c.args.parts.now.table in
    subst (λ (ids : List TxnId). AreAllNew (IsListed is_txn t.decided) t.links ids) (sym c.requires.ids) c.requires.chosen.members

pub keep_found-requires-clause-some : goal.keep_found-requires-clause-some
keep_found-requires-clause-some c = has_all (λ m. m ≢ []) c.args.lesson.found.components.items c.requires.chosen.taken.some

pub forget_if_over-requires : goal.forget_if_over-requires
forget_if_over-requires c =
    subst (IsOverOf c.keep_found.new.parts) (sym c.deref-2.ensures.value)
    (is_over c.args.parts.now c.keep_found.new.parts c.args.lesson c.requires (subst (λ news. KeepsFound c.args.parts.now c.keep_found.new.parts news c.args.lesson.found) c.deref.ensures.value c.keep_found.ensures))

pub returns-clause-kept : goal.returns-clause-kept
returns-clause-kept c =
    c.forget_if_over.ensures.kept
    ∙ ap lists_forgetting (lists_kept c.args.parts.now c.keep_found.new.parts c.args.lesson c.requires (subst (λ news. KeepsFound c.args.parts.now c.keep_found.new.parts news c.args.lesson.found) c.deref.ensures.value c.keep_found.ensures))

pub returns-clause-sound : goal.returns-clause-sound
returns-clause-sound c = c.forget_if_over.ensures.sound
