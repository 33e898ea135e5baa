-- Components as they are taken, by lists that have the same edges among the members
use Rattle.std.proofs.Common.{◌<◌, List, [], ◌∷◌, length, map, subst}
use Rattle.std.specs.List.{flat_map}
use Rattle.roc_sequence.specs.Places.{IsListed}
use Rattle.roc_base.specs.declared.id.TxnId.{TxnId}
use Rattle.roc_base.specs.TxnId.{is_txn}
use Rattle.roc_depgraph.specs.declared.known.KnownList.{KnownList}
use Rattle.roc_depgraph.specs.Closure.{IsRisingListOf}
use Rattle.roc_depgraph.specs.Deps.{Precedes, PrecedesNow}
use Rattle.roc_component.specs.Components.{among, AreTaken, HaveSameEdges}
use Rattle.roc_component.proofs.Alike.{mates_to, order_alike}
use Rattle.roc_component.proofs.ListsWithin.{among_from, among_to, among_now_from, among_now_to}
use Rattle.roc_component.proofs.OneMember.{few_taken}
use Rattle.roc_component.proofs.OneTaken.{one_taken}
use Rattle.roc_server_table.specs.Inner.Among.{links_within}

module _ (known other : List KnownList) (M : List TxnId) (same : HaveSameEdges M known other) where
  edge_on : (u t : TxnId) → among M (Precedes known) u t → among M (Precedes other) u t
  edge_on u t e = (e.0, e.1, (same.edges u t e.0 e.1).0 e.2)

  edge_off : (u t : TxnId) → among M (Precedes other) u t → among M (Precedes known) u t
  edge_off u t e = (e.0, e.1, (same.edges u t e.0 e.1).1 e.2)

  now_on : (u t : TxnId) → among M (PrecedesNow known) u t → among M (PrecedesNow other) u t
  now_on u t e = (e.0, e.1, (same.immediate u t e.0 e.1).0 e.2)

  now_off : (u t : TxnId) → among M (PrecedesNow other) u t → among M (PrecedesNow known) u t
  now_off u t e = (e.0, e.1, (same.immediate u t e.0 e.1).1 e.2)

  pub taken_alike : (cs : List (List TxnId)) → AreTaken known M cs → AreTaken other M cs
  taken_alike cs a =
      record {
        order = order_alike (Precedes known) (Precedes other) (PrecedesNow known) (PrecedesNow other) M M (flat_map (λ c. c) cs) (λ t. (λ h. h, λ h. h)) edge_on edge_off now_on now_off a.order;
        some = a.some;
        mates = λ c h t u k. (
          λ m. (a.mates c h t u k).0 (mates_to (among M (Precedes other)) (among M (Precedes known)) edge_off t u m),
          λ i. mates_to (among M (Precedes known)) (among M (Precedes other)) edge_on t u ((a.mates c h t u k).1 i),
        );
      }

-- S are the members of M, rising
module _ (known : List KnownList) (M S : List TxnId) (cs : List (List TxnId)) (all : IsRisingListOf (IsListed is_txn M) S) where
  within_alike : HaveSameEdges M (links_within known S S) known
  within_alike =
      record {
        edges = λ u t h k. (λ e. (among_from known M S all u t e).2, λ e. among_to known M S all u t (h, k, e));
        immediate = λ u t h k. (λ e. (among_now_from known M S all u t e).2, λ e. among_now_to known M S all u t (h, k, e));
      }

  -- what leads out of them does not matter
  pub taken_within : AreTaken (links_within known S S) M cs → AreTaken known M cs
  taken_within a = taken_alike (links_within known S S) known M within_alike cs a

  -- nor does anything, where they are fewer than two
  pub few_alike : (other : List KnownList) → length S < 2 → AreTaken other M cs → AreTaken known M cs
  few_alike other few a = subst (AreTaken known M) (one_taken other M (map (λ x. x ∷ []) S) cs (few_taken other M S all few) a) (few_taken known M S all few)
