-- The start round's loop: what is kept and sent with one more start
use Rattle.std.proofs.Common.{◌≡◌, ℕ, ◌+◌, ◌<◌, List, [], ◌∷◌, ◌++◌, length, get_or, take, map, ap, subst, ◌∙◌, sym}
use Rattle.std.specs.List.{AllByRecursion}
use Rattle.roc_base.specs.declared.node.Shard.{Shard}
use Rattle.roc_msg.specs.declared.outbox.Outgoing.{Outgoing}
use Rattle.roc_msg.specs.Outbox.{Collected, HasSent}
use Rattle.roc_plan.specs.Groups.{Plan, groups_of}
use Rattle.roc_coord.specs.declared.transaction.SentStart.{SentStart}
use Rattle.roc_coord.specs.declared.transaction.Transaction.{Transaction}
use Rattle.roc_coord.specs.Fits.{IsTransactionOf}
use Rattle.roc_coord.specs.Starts.{shard_for, start_for, sent_start}
use Rattle.roc_readonly.proofs.Sends.{gathered_more, sent_one_more}
use Rattle.roc_sequence.proofs.Holds.{all_append}

module _ (plan : Plan) (x y : Transaction) (ready : List ℕ) (i g : ℕ) (within : i < length ready) (at : g ≡ get_or ready i 0) (kept : y ≡ record x { starts = x.starts ++ map (sent_start plan x) (take i ready) }) where
  -- the transaction keeps one more start
  pub kept_more : (shard : Shard) (starts : List SentStart) → shard ≡ shard_for plan y g → starts ≡ y.starts ++ record { group = g; shard = shard } ∷ [] → record y { starts = starts } ≡ record x { starts = x.starts ++ map (sent_start plan x) (take (i + 1) ready) }
  kept_more shard starts =
      let P : Transaction → Type 0 =
      λ v. shard ≡ shard_for plan v g → starts ≡ v.starts ++ record { group = g; shard = shard } ∷ [] → record v { starts = starts } ≡ record x { starts = x.starts ++ map (sent_start plan x) (take (i + 1) ready) }
      in subst P (sym kept) rest
    where
      rest : shard ≡ shard_for plan x g → starts ≡ (x.starts ++ map (sent_start plan x) (take i ready)) ++ record { group = g; shard = shard } ∷ [] → record x { starts = starts } ≡ record x { starts = x.starts ++ map (sent_start plan x) (take (i + 1) ready) }
      rest e f =
          let with_starts : List SentStart → Transaction = λ s. record x { starts = s } in
          let with_start : Shard → List SentStart = λ s. (x.starts ++ map (sent_start plan x) (take i ready)) ++ record { group = g; shard = s } ∷ [] in
          ap with_starts (f ∙ ap with_start e ∙ gathered_more (sent_start plan x) ready i g 0 x.starts within at)

  -- the outbox has one more start
  pub sent_more : (first before after : Collected) (sent : Outgoing) → HasSent first before (map (start_for plan x) (take i ready)) → sent ≡ start_for plan y g → HasSent before after (sent ∷ []) → HasSent first after (map (start_for plan x) (take (i + 1) ready))
  sent_more first before after sent e f h =
      let start_at : Transaction → Outgoing = λ v. start_for plan v g in
      let is_start : sent ≡ start_for plan x g = f ∙ ap start_at kept in
      sent_one_more (start_for plan x) ready i g 0 first before after sent within at e is_start h

-- a transaction of the plan is one with one more start of the plan's
pub fits_more : (plan : Plan) (x : Transaction) (start : SentStart) (starts : List SentStart) → IsTransactionOf plan x → start.group < length (groups_of plan x.proc) → starts ≡ x.starts ++ start ∷ [] → IsTransactionOf plan (record x { starts = starts })
fits_more plan x start starts h k e = record {
  procedure = h.procedure;
  args = h.args;
  starts = subst (λ s. AllByRecursion (λ v. v.group < length (groups_of plan x.proc)) s) (sym e) (all_append _ x.starts (start ∷ []) h.starts (k, tt));
  startoks = h.startoks;
}
