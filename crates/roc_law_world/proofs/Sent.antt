-- What nodes send, of transactions alone
use Rattle.std.proofs.Common.{◌≡◌, ◌∙◌, ◌+◌, ℕ, suc, Bool, true, false, not, List, [], ◌++◌, Some, length, map, sym, ap, subst}
use Rattle.std.proofs.lemmas.List.{length-map}
use Rattle.std.proofs.lemmas.List.Elements.{filter-append}
use Rattle.std.specs.Prelude.{slice_get}
use Rattle.std.specs.List.{range_with_len}
use Rattle.roc_sequence.specs.Lists.{Has}
use Rattle.roc_sequence.proofs.Members.{from_has_map}
use Rattle.roc_base.specs.declared.id.TxnId.{TxnId}
use Rattle.roc_base.specs.declared.node.Node.{Node}
use Rattle.roc_msg.specs.declared.msg.Envelope.{Envelope}
use Rattle.roc_msg.specs.declared.outbox.Outgoing.{Outgoing}
use Rattle.roc_law_protocol.specs.World as transactions
use Rattle.roc_law_protocol.specs.World.{sent_by}
use Rattle.roc_law_protocol.proofs.Rounds.{filter_none}
use Rattle.roc_law_protocol.proofs.Tells.{all_kept as filter_all}
use Rattle.roc_law_world.specs.World.{World, sends, mark_delivered}
use Rattle.roc_law_world.specs.Beside.{is_of_view, is_of_transaction, of_transactions, number_among, IsBeside}
use Rattle.roc_law_world.proofs.Ranks.{rank_there}
use Rattle.roc_law_world.proofs.RankedNumbers.{AreNumbered, numbered_more, numbered_less, numbered_still}

-- ---- messages of transactions and of views

abbrev pub AreOfTransactions : List Outgoing → Type 0
AreOfTransactions outs = (out : Outgoing) → Has out outs → is_of_view out.msg ≡ false

abbrev pub AreOfViews : List Outgoing → Type 0
AreOfViews outs = (out : Outgoing) → Has out outs → is_of_view out.msg ≡ true

abbrev pub envelopes : Node → List Outgoing → List Envelope
envelopes from outs = map (sent_by from) outs

pub all_kept : (from : Node) (outs : List Outgoing) → AreOfTransactions outs → of_transactions (envelopes from outs) ≡ envelopes from outs
all_kept from outs h = filter_all is_of_transaction (envelopes from outs) (λ m k. let q = from_has_map (sent_by from) m outs k in ap is_of_transaction q.2 ∙ ap not (h q.0 q.1))

pub none_kept : (from : Node) (outs : List Outgoing) → AreOfViews outs → of_transactions (envelopes from outs) ≡ []
none_kept from outs h = filter_none is_of_transaction (envelopes from outs) (λ m k. let q = from_has_map (sent_by from) m outs k in ap is_of_transaction q.2 ∙ ap not (h q.0 q.1))

-- ---- worlds beside

module _ (is_view : TxnId → Bool) (w : World) (t : transactions.World) (o : IsBeside is_view w t) where
  -- a node sends messages, some of which are of transactions
  pub beside_sends : (from : Node) (outs some : List Outgoing) → of_transactions (envelopes from outs) ≡ envelopes from some
      → IsBeside is_view (sends w from outs) (transactions.sends t from some)
  beside_sends from outs some of =
      record {
        servers = o.servers;
        coords = o.coords;
        sent = ap (λ l. l ++ envelopes from some) o.sent ∙ (ap (λ l. of_transactions w.sent ++ l) (sym of) ∙ sym (filter-append is_of_transaction w.sent (envelopes from outs)));
        undelivered =
            subst (λ r. AreNumbered is_of_transaction (w.sent ++ envelopes from outs) (w.undelivered ++ range_with_len (length w.sent + 1) (length outs)) (t.undelivered ++ r)) ranges
            (subst (λ n. AreNumbered is_of_transaction (w.sent ++ envelopes from outs) (w.undelivered ++ range_with_len (length w.sent + 1) n) (t.undelivered ++ range_with_len (length (of_transactions w.sent) + 1) (length (of_transactions (envelopes from outs))))) (length-map outs (sent_by from))
            (numbered_more is_of_transaction w.sent (envelopes from outs) w.undelivered t.undelivered o.undelivered));
        history = o.history;
        order = o.order;
      }
    where
      ranges : range_with_len (length (of_transactions w.sent) + 1) (length (of_transactions (envelopes from outs))) ≡ range_with_len (length t.sent + 1) (length some)
      ranges =
          ap (λ l. range_with_len (length l + 1) (length (of_transactions (envelopes from outs)))) (sym o.sent)
          ∙ ap (λ n. range_with_len (length t.sent + 1) n) (ap length of ∙ length-map some (sent_by from))

  -- a message comes
  pub beside_delivered : (k : ℕ) (m : Envelope) → slice_get w.sent k ≡ Some m → is_of_transaction m ≡ true
      → IsBeside is_view (mark_delivered w (suc k)) (transactions.mark_delivered t (suc (number_among w.sent k)))
  beside_delivered k m at of = record { servers = o.servers; coords = o.coords; sent = o.sent; undelivered = numbered_less is_of_transaction w.sent w.undelivered t.undelivered k m at of o.undelivered; history = o.history; order = o.order }

  pub beside_read : (k : ℕ) (m : Envelope) → slice_get w.sent k ≡ Some m → is_of_transaction m ≡ false → IsBeside is_view (mark_delivered w (suc k)) t
  beside_read k m at of = record { servers = o.servers; coords = o.coords; sent = o.sent; undelivered = numbered_still is_of_transaction w.sent w.undelivered t.undelivered k m at of o.undelivered; history = o.history; order = o.order }

  -- where a message of a transaction stands in the one network, it stands in the other
  pub found_beside : (k : ℕ) (m : Envelope) → slice_get w.sent k ≡ Some m → is_of_transaction m ≡ true → slice_get t.sent (number_among w.sent k) ≡ Some m
  found_beside k m at of = subst (λ l. slice_get l (number_among w.sent k) ≡ Some m) (sym o.sent) (rank_there is_of_transaction w.sent k m at of)
