use Rattle.std.proofs.Common.{refl, sym, ◌∙◌, inl, inr, arith}
use Rattle.std.proofs.lemmas.Bool.{cases_lt, false≢true}
use Rattle.std.proofs.lemmas.List.{get_or_past}
use Rattle.std.proofs.Common.{false}
use Rattle.roc_conflict.proofs.classes.hold_row.Goals as goal

pub returns : goal.returns
returns c = (
  λ done piece h. elim (cases_lt piece c.loop-piece.piece) [
    | inl l ↦ c.loop-piece.invariant piece l h
    | inr past ↦ absurd (false≢true (sym (get_or_past c.args.row.now piece false (omega (arith, c.told-row))) ∙ h))
  ],
  λ h. refl,
)
