-- What is newly decided, in the components in which it is taken
use Rattle.std.proofs.Common.{◌≡◌, List, [], ◌++◌, Result, Ok, Err, IfOk, sym, subst, append-nil}
use Rattle.std.specs.List.{flat_map}
use Rattle.roc_sequence.specs.Places.{IsListed}
use Rattle.roc_base.specs.declared.id.TxnId.{TxnId}
use Rattle.roc_base.specs.TxnId.{is_txn}
use Rattle.roc_base.proofs.Ids.{unlisted_none}
use Rattle.roc_component.specs.Components.{among, AreTaken, HaveSameMembers}
use Rattle.roc_component.proofs.Alike.{mates_to, order_of_same}
use Rattle.roc_component.proofs.OneTaken.{one_taken}
use Rattle.roc_depgraph.specs.declared.known.KnownList.{KnownList}
use Rattle.roc_depgraph.specs.Deps.{IsDecided, Precedes}
use Rattle.roc_step.specs.New.{AreAllNew, AreNew, AreNewTaken}

-- components depend on the members of their set alone
taken_of_same : (known : List KnownList) (M N : List TxnId) (cs : List (List TxnId)) → HaveSameMembers M N → AreTaken known M cs → AreTaken known N cs
taken_of_same known M N cs same taken =
    record {
      order = order_of_same known M N (flat_map (λ c. c) cs) same taken.order;
      some = taken.some;
      mates = λ c h t u m. (
        λ k. (taken.mates c h t u m).0 (mates_to (among N (Precedes known)) (among M (Precedes known)) (λ a b e. ((same a).1 e.0, (same b).1 e.1, e.2)) t u k),
        λ k. mates_to (among M (Precedes known)) (among N (Precedes known)) (λ a b e. ((same a).0 e.0, (same b).0 e.1, e.2)) t u ((taken.mates c h t u m).1 k),
      );
    }

-- the components of all that is new are those of what is in them
pub taken_new : {T E : Type 0} (items : T → List (List TxnId)) (known : List KnownList) (ids : List TxnId) (r : Result T E) → IfOk r (λ cs. AreTaken known ids (items cs))
    → IfOk r (λ cs. (before : List TxnId) → AreAllNew (IsListed is_txn before) known ids → AreNewTaken (IsListed is_txn before) known (items cs))
taken_new items known ids (Err e) taken = tt
taken_new items known ids (Ok x) taken = λ before new.
    record {
      members = record { only = λ t l. new.only t (taken.order.from t l); all = λ t u. taken.order.all t (new.all t u) };
      taken = taken_of_same known ids (flat_map (λ c. c) (items x)) (items x) (λ t. (taken.order.all t, taken.order.from t)) taken;
    }

-- without a new list nothing is newly decided
pub nothing_new : (known : List KnownList) → AreNewTaken (IsDecided known) (known ++ []) []
nothing_new known =
    let P : List KnownList → Type 0 = λ k. AreNewTaken (IsDecided known) k [] in
    subst P (sym (append-nil known))
    (record {
      members = record { only = λ t l. absurd (unlisted_none t l); all = λ t u. absurd (u.1 u.0) };
      taken = record {
        order = record { once = tt; from = λ x l. l; all = λ x l. l; next = λ x l. absurd (unlisted_none x l) };
        some = λ c h. absurd h;
        mates = λ c h. absurd h;
      };
    })

-- what is newly decided is one list of components
pub one_new : (before : TxnId → Type 0) (known : List KnownList) (cs ds : List (List TxnId)) → AreNewTaken before known cs → AreNewTaken before known ds → cs ≡ ds
one_new before known cs ds p q =
    let M = flat_map (λ c. c) cs in
    let N = flat_map (λ c. c) ds in
    one_taken known M cs ds p.taken
    (taken_of_same known N M ds (λ t. (λ h. p.members.all t (q.members.only t h), λ h. q.members.all t (p.members.only t h))) q.taken)

-- and one after another they are in component order
pub new_in_order : (before : TxnId → Type 0) (known : List KnownList) (cs : List (List TxnId)) → AreNewTaken before known cs → AreNew before known (flat_map (λ c. c) cs)
new_in_order before known cs p = record { members = p.members; ordered = p.taken.order }
