-- The round that begins with what a coordinator sends
use Rattle.std.proofs.Common.{◌≡◌, ◌∙◌, ℕ, suc, ◌+◌, ◌<◌, ◌≤◌, List, [], ◌∷◌, ◌++◌, Option, Some, None, length, take, drop, get_or, sym, ap}
use Rattle.std.proofs.lemmas.List.Elements.{filter_map-append}
use Rattle.std.specs.List.{filter_map, cons_option}
use Rattle.roc_sequence.proofs.Fronts.{front_more, front_whole, parts_at}
use Rattle.roc_base.specs.declared.id.TxnId.{TxnId}
use Rattle.roc_msg.specs.declared.outbox.Outgoing.{Outgoing}
use Rattle.roc_law_world.specs.World.{reads_for, first_look, looks_in}

abbrev pub reads_in : List Outgoing → List TxnId
reads_in outs = filter_map (λ (out : Outgoing). reads_for out.msg) outs

module _ (outs : List Outgoing) (i : ℕ) (out : Outgoing) (within : i < length outs) (is : out ≡ get_or outs i out) (before : reads_in (take i outs) ≡ []) where
  pub no_read_more : reads_for out.msg ≡ None → reads_in (take (i + 1) outs) ≡ []
  no_read_more absent =
      ap reads_in (sym (front_more outs i out within is))
      ∙ (filter_map-append (λ (out : Outgoing). reads_for out.msg) (take i outs) (out ∷ [])
      ∙ (ap (λ l. l ++ reads_in (out ∷ [])) before
      ∙ ap (λ (o : Option TxnId). cons_option o []) absent))

  pub first_read : (behind : ℕ) (id : TxnId) → reads_for out.msg ≡ Some id → record { id = id; behind = behind } ∷ [] ≡ looks_in behind outs
  first_read behind id reads =
      sym (ap (first_look behind)
      (ap reads_in (sym (parts_at outs i out within is))
      ∙ (filter_map-append (λ (out : Outgoing). reads_for out.msg) (take i outs) (out ∷ drop (suc i) outs)
      ∙ (ap (λ l. l ++ reads_in (out ∷ drop (suc i) outs)) before
      ∙ ap (λ (o : Option TxnId). cons_option o (reads_in (drop (suc i) outs))) reads))))

-- where none reads, no round begins
pub no_look : (behind : ℕ) (outs : List Outgoing) (i : ℕ) → length outs ≤ i → reads_in (take i outs) ≡ [] → looks_in behind outs ≡ []
no_look behind outs i past before = ap (first_look behind) (ap reads_in (sym (front_whole outs i past)) ∙ before)
