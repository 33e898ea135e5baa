-- Component order keeps chains
use Rattle.std.proofs.Common.{List, refl, arith, inl, inr}
use Rattle.std.proofs.lemmas.Bool.{cases_lt}
use Rattle.roc_sequence.specs.Places.{place_of, IsListed, IsListedBefore}
use Rattle.roc_sequence.proofs.Places.{listed_by_before}
use Rattle.roc_base.specs.declared.id.TxnId.{TxnId}
use Rattle.roc_base.specs.TxnId.{is_txn}
use Rattle.roc_depgraph.specs.Reach.{Reaches}
use Rattle.roc_component.specs.Components.{Mates, among, IsComponentOrder}
use Rattle.roc_component.proofs.Relations.{mate_in}
use Rattle.roc_law_log.specs.Taking.{IsWholeOrder}
use Rattle.roc_law_log.proofs.Whole.{ancestor_first}

module _ (E I : TxnId → TxnId → Type 0) (M xs : List TxnId) (o : IsComponentOrder E I M xs) where
  -- by the edges among its members it is an order with all that precedes
  whole_among : IsWholeOrder (among M E) (among M I) xs
  whole_among =
      record {
        once = o.once;
        closed = λ u t h e. o.all u e.0;
        earlier = λ u t h e n. (o.next t h).ready u t (inl refl) e n;
        together = λ a b t h m n k. elim (cases_lt (place_of (is_txn b) xs) (place_of (is_txn t) xs)) [
          | inl l ↦ l
          | inr l ↦ absurd (n ((o.next t h).ends a b k m (mate_in E M a b (o.from a (listed_by_before is_txn xs a t k)) m) (λ q. absurd (omega arith))))
        ];
        inside = λ t h. (o.next t h).inside;
      }

  pub chained_first : (u t : TxnId) → IsListed is_txn xs t → Reaches (among M E) u t → ¬ Mates (among M E) t u → IsListedBefore is_txn xs u t
  chained_first u t h p n = ancestor_first (among M E) (among M I) xs whole_among u t h p n
