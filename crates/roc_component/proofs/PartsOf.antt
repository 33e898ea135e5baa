-- What was taken, in parts
use Rattle.std.proofs.Common.{◌≡◌, ◌++◌, List, [], ◌∷◌, refl, sym, ap, ◌∙◌, subst, inl, inr, append-nil}
use Rattle.std.proofs.lemmas.Grind.{flat_map-append}
use Rattle.std.specs.List.{flat_map}
use Rattle.roc_sequence.specs.Lists.{Has}
use Rattle.roc_sequence.proofs.Members.{has_more}
use Rattle.roc_base.specs.declared.id.TxnId.{TxnId}
use Rattle.roc_component.specs.declared.turn.Turn.{Turn}
use Rattle.roc_component.specs.Inner.Turns.{ArePartsOf}

pub parts_none : (turns : List Turn) → ArePartsOf turns [] []
parts_none turns = record { whole = refl; from = λ p h. absurd h }

-- one more
pub parts_more : (turns : List Turn) (order longer ids : List TxnId) (parts more : List (List TxnId)) (t : Turn) → ArePartsOf turns order parts → Has t turns → ids ≡ t.ids
    → longer ≡ order ++ ids → more ≡ parts ++ ids ∷ [] → ArePartsOf turns longer more
parts_more turns order longer ids parts more t a h is l m =
    record {
      whole = l ∙ ap (λ v. v ++ ids) a.whole ∙ ap (λ v. flat_map (λ p. p) parts ++ v) (sym (append-nil ids)) ∙ sym (ap (flat_map (λ p. p)) m ∙ flat_map-append (λ p. p) parts (ids ∷ []));
      from = λ p k. elim (has_more p ids parts (subst (Has p) m k)) [ inl q ↦ a.from p q | inr q ↦ (t, h, q ∙ is) ];
    }
