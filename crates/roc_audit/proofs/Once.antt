-- Histories that tell each id once
use Rattle.std.proofs.Common.{List, [], ◌∷◌, ◌++◌, sym, ap, subst, ◌∙◌, inl, inr, append-nil}
use Rattle.roc_audit.specs.declared.entry.Entry.{Entry}
use Rattle.roc_audit.specs.History.{MayFollow, IsToldOnce}
use Rattle.roc_audit.proofs.Splits.{not_empty, split_append, split_one}

pub told_nothing : IsToldOnce []
told_nothing = record { each = λ front behind e is. absurd (not_empty front e behind is) }

pub told_more : (h : List Entry) (e : Entry) → IsToldOnce h → MayFollow h e → IsToldOnce (h ++ e ∷ [])
told_more h e told may =
    record {
      each = λ front behind x is. elim (split_append h (e ∷ []) front x behind is) [
        | inl k ↦ told.each front k.0 x k.1
        | inr k ↦
            (let one = split_one e k.0 x behind k.2 in
            subst (λ front. MayFollow front x) (sym (k.1 ∙ ap (λ rest. h ++ rest) one.0 ∙ append-nil h)) (subst (MayFollow h) (sym one.1) may))
      ];
    }
