-- The lines of an event, one after another, lead a fold behind the event
use Rattle.std.proofs.Common.{List, [], ◌∷◌, ◌++◌, refl, sym, ap, subst, ◌∙◌, append-nil, append_assoc}
use Rattle.roc_base.specs.declared.id.TxnId.{TxnId}
use Rattle.roc_msg.specs.declared.outbox.Ran.{Ran}
use Rattle.roc_plan.specs.Groups.{Plan}
use Rattle.roc_wire.specs.declared.header.Header.{Header}
use Rattle.roc_log.specs.declared.line.LogLine.{LogLine}
use Rattle.roc_fold.specs.Fold.{Core, GivenByEvent, behind_event, behind_due, takes_event, takes_due, FoldsTo, goes_on}
use Rattle.roc_law_audit.proofs.Stopped.{stood}
use Rattle.roc_law_audit.proofs.Effects.{IsWhole}

module _ (plan : Plan) (header : Header) (first : Core) where
  -- all that is due stands next
  due_come : (due lines : List LogLine) (core : Core) (decided : List TxnId) (ran : List Ran)
      → FoldsTo plan header first lines (record { core = core; due = due; decided = decided; ran = ran }) → FoldsTo plan header first (lines ++ due) (stood core decided ran)
  due_come [] lines core decided ran f = subst (λ (l : List LogLine). FoldsTo plan header first l (stood core decided ran)) (sym (append-nil lines)) f
  due_come (line ∷ due) lines core decided ran f =
      subst (λ (l : List LogLine). FoldsTo plan header first l (stood core decided ran)) (append_assoc lines (line ∷ []) due)
      (due_come due (lines ++ line ∷ []) core decided ran (goes_on line (behind_due (record { core = core; due = line ∷ due; decided = decided; ran = ran }) due) f (takes_due due refl)))

  pub event_folds : (core : Core) (decided : List TxnId) (ran : List Ran) (lines more : List LogLine) (g : GivenByEvent) → FoldsTo plan header first lines (stood core decided ran)
      → IsWhole plan header core g more
      → FoldsTo plan header first (lines ++ more) (stood g.core (decided ++ g.decided) (ran ++ g.ran))
  event_folds core decided ran lines more g f e =
      let next = goes_on e.line (behind_event (stood core decided ran) g) f (takes_event g refl e.gives) in
      subst (λ (l : List LogLine). FoldsTo plan header first l (stood g.core (decided ++ g.decided) (ran ++ g.ran)))
      (append_assoc lines (e.line ∷ []) g.due ∙ ap (λ (l : List LogLine). lines ++ l) (sym e.lines))
      (due_come g.due (lines ++ e.line ∷ []) g.core (decided ++ g.decided) (ran ++ g.ran) next)
