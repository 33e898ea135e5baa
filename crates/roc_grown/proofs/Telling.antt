-- What is told to one coordinator after another
use Rattle.std.proofs.Common.{◌≡◌, ◌∙◌, ℕ, ◌+◌, ◌<◌, List, [], ◌∷◌, ◌++◌, Option, Some, None, length, map, take, get_or, refl, sym, ap, subst}
use Rattle.std.proofs.lemmas.List.{take_more, map-append}
use Rattle.std.specs.List.{filter_map}
use Rattle.roc_base.specs.declared.id.TxnId.{TxnId}
use Rattle.roc_base.specs.declared.node.Shard.{Shard}
use Rattle.roc_msg.specs.declared.outbox.Outgoing.{Outgoing}
use Rattle.roc_msg.specs.Outbox.{Collected, HasSent}
use Rattle.roc_msg.proofs.Sent.{sent_then}
use Rattle.roc_plan.proofs.Taken.{filter_map_behind}
use Rattle.roc_grown.specs.Inner.Told.{told_back}
use Rattle.roc_grown.specs.Server.{switched_to}

module _ (shard : Shard) where
  abbrev pub told_all : List (Option TxnId) → List Outgoing
  told_all drained = map (switched_to shard) (filter_map (λ (told : Option TxnId). told) drained)

  told_one : (told : Option TxnId) → told_all (told ∷ []) ≡ told_back shard told
  told_one None = refl
  told_one (Some upto) = refl

  pub told_more : (drained : List (Option TxnId)) (i : ℕ) (first before after : Collected) → i < length drained → HasSent first before (told_all (take i drained))
      → HasSent before after (told_back shard (get_or drained i None)) → HasSent first after (told_all (take (i + 1) drained))
  told_more drained i first before after within has more =
      let told : Option TxnId = get_or drained i None in
      let front = take i drained in
      let longer : told_all (take (i + 1) drained) ≡ told_all front ++ told_back shard told =
      ap told_all (take_more drained i None within) ∙ ap (map (switched_to shard)) (filter_map_behind (λ (t : Option TxnId). t) front told)
      ∙ map-append (switched_to shard) (filter_map (λ (t : Option TxnId). t) front) (filter_map (λ (t : Option TxnId). t) (told ∷ [])) ∙ ap (λ sends. told_all front ++ sends) (told_one told) in
      subst (HasSent first after) (sym longer) (sent_then first before after (told_all front) (told_back shard told) has more)
