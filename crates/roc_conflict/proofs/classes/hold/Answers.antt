use Rattle.std.proofs.Common.{[], false, refl, sym, ap, ◌∙◌, inl, inr, get_or, Bool, List, arith}
use Rattle.std.proofs.lemmas.Bool.{cases_lt, false≢true}
use Rattle.std.proofs.lemmas.List.{get_or_past}
use Rattle.roc_conflict.proofs.classes.hold.Goals as goal

pub returns : goal.returns
returns c = (
  λ done id h. elim (cases_lt id.proc c.loop-proc.proc) [
    | inl l ↦ c.loop-proc.invariant id.proc id.piece l h
    | inr past ↦ absurd (false≢true (sym (ap (λ (row : List Bool). get_or row id.piece false) (get_or_past c.args.marks.now id.proc [] (omega (arith, c.told-marks)))) ∙ h))
  ],
  λ h. refl,
)

pub returns-then-not-hold_row : goal.returns-then-not-hold_row
returns-then-not-hold_row c = (
  λ t. absurd (false≢true t),
  λ h. absurd (false≢true (sym c.if-not-hold_row.true
      ∙ c.hold_row.ensures.1 (λ piece k. h (record { proc = c.loop-proc.proc; piece = piece }) (ap (λ n. get_or (get_or c.args.marks.now n []) piece false) (sym c.from.ensures) ∙ k)))),
)
