-- The components as they are taken are read of the members of a set alone
use Rattle.std.proofs.Common.{List}
use Rattle.std.specs.List.{flat_map}
use Rattle.roc_base.specs.declared.id.TxnId.{TxnId}
use Rattle.roc_depgraph.specs.declared.known.KnownList.{KnownList}
use Rattle.roc_depgraph.specs.Deps.{Precedes}
use Rattle.roc_component.specs.Components.{among, AreTaken, HaveSameMembers}
use Rattle.roc_component.proofs.Alike.{order_of_same}
use Rattle.roc_component.proofs.Relations.{mates_weaker}

pub taken_of_same : (known : List KnownList) (M N : List TxnId) (cs : List (List TxnId)) → HaveSameMembers M N → AreTaken known M cs → AreTaken known N cs
taken_of_same known M N cs same a =
    record {
      order = order_of_same known M N (flat_map (λ c. c) cs) same a.order;
      some = a.some;
      mates = λ c h t u k. (
        λ m. (a.mates c h t u k).0 (mates_weaker (among N (Precedes known)) (among M (Precedes known)) (λ v w e. ((same v).1 e.0, (same w).1 e.1, e.2)) t u m),
        λ i. mates_weaker (among M (Precedes known)) (among N (Precedes known)) (λ v w e. ((same v).0 e.0, (same w).0 e.1, e.2)) t u ((a.mates c h t u k).1 i),
      );
    }

-- of the members that stand in them
pub taken_of_own : (known : List KnownList) (M : List TxnId) (cs : List (List TxnId)) → AreTaken known M cs → AreTaken known (flat_map (λ c. c) cs) cs
taken_of_own known M cs a = taken_of_same known M (flat_map (λ c. c) cs) cs (λ t. (a.order.all t, a.order.from t)) a
