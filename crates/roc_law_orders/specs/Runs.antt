-- Groups that run one after another on one store, and what each sees and does: docs/PROOF.md, "The law about orders"
use Rattle.std.specs.Prelude.{ℤ, if◌then◌else◌, List, [], ◌∷◌, map}
use Rattle.roc_rows.specs.Store.{Store, read}
use Rattle.roc_law_orders.specs.Behaviour.{TxnGroup, is_txn_group, Use, Meet, Yield, Behaviour}

-- how far groups that run have come: the store, and what each of them gave
pub record Stage : Type 0 where
  pub store : Store
  pub yielded : TxnGroup → Yield

abbrev pub first_stage : Store → Stage
first_stage start = record { store = start; yielded = λ r. record { bound = []; outs = [] } }

-- the groups whose values r needs
abbrev pub needs : Behaviour → TxnGroup → List TxnGroup
needs B r = map (λ g. record { txn = r.txn; group = g }) (B.sources r)

-- and these values
abbrev pub inputs_at : Behaviour → Stage → TxnGroup → List (List ℤ)
inputs_at B s r = map (λ q. (s.yielded q).bound) (needs B r)

-- what r uses where it begins at this stage
abbrev pub uses_at : Behaviour → Stage → TxnGroup → List Use
uses_at B s r = B.uses r (inputs_at B s r) s.store

-- what it gives there
abbrev pub yield_at : Behaviour → Stage → TxnGroup → Yield
yield_at B s r = B.yields r (inputs_at B s r) s.store

-- and the stage behind it
unfoldable pub after_group : Behaviour → Stage → TxnGroup → Stage
after_group B s r =
    record {
      store = B.after r (inputs_at B s r) s.store;
      yielded = λ q. if is_txn_group r q then yield_at B s r else s.yielded q;
    }

abbrev pub after_groups : Behaviour → Stage → List TxnGroup → Stage
after_groups B s [] = s
after_groups B s (r ∷ Q) = after_groups B (after_group B s r) Q

-- the stage behind groups that run from the start store
abbrev pub stage_behind : Behaviour → Store → List TxnGroup → Stage
stage_behind B start Q = after_groups B (first_stage start) Q

-- those of Q that run before r: all, where r is not one of them
abbrev pub groups_before : TxnGroup → List TxnGroup → List TxnGroup
groups_before r [] = []
groups_before r (q ∷ Q) = if is_txn_group r q then [] else q ∷ groups_before r Q

-- the stage at which r begins among Q
abbrev pub stage_before : Behaviour → Store → List TxnGroup → TxnGroup → Stage
stage_before B start Q r = stage_behind B start (groups_before r Q)

-- what r uses among Q
abbrev pub uses_in : Behaviour → Store → List TxnGroup → TxnGroup → List Use
uses_in B start Q r = uses_at B (stage_before B start Q r) r

-- q and r use one cell, and one of them may write it
abbrev pub Conflict : Behaviour → Store → List TxnGroup → TxnGroup → TxnGroup → Type 0
Conflict B start Q q r = Meet (uses_in B start Q q) (uses_in B start Q r)

-- all that a group sees and does: its inputs, the cells that it uses, what they hold before it and behind it, and what it gives
pub record Account : Type 0 where
  pub inputs : List (List ℤ)
  pub uses : List Use
  pub found : List ℤ
  pub left : List ℤ
  pub yield : Yield

unfoldable pub account_at : Behaviour → Stage → TxnGroup → Account
account_at B s r =
    record {
      inputs = inputs_at B s r;
      uses = uses_at B s r;
      found = map (λ u. read s.store u.cell) (uses_at B s r);
      left = map (λ u. read (after_group B s r).store u.cell) (uses_at B s r);
      yield = yield_at B s r;
    }

-- what r sees and does among Q
abbrev pub account : Behaviour → Store → List TxnGroup → TxnGroup → Account
account B start Q r = account_at B (stage_before B start Q r) r
