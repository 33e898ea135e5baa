-- What is asked of a plan, as a scheme of the log machine: docs/PROOF.md, "From the log machine to the headline"
use Rattle.std.specs.Prelude.{◌≡◌, ◌↔◌, ℕ, ℤ, pos, ◌<◌, true, not, List, [], ◌∷◌, Some, length, map, filter, zip, slice_index_or}
use Rattle.std.specs.List.{range_with_len, flat_map}
use Rattle.roc_sequence.specs.Lists.{Has}
use Rattle.roc_sequence.specs.Places.{IsListed, NoneTwice}
use Rattle.roc_base.specs.declared.id.TxnId.{TxnId}
use Rattle.roc_base.specs.TxnId.{is_txn}
use Rattle.roc_rows.specs.declared.cell.Cell.{Cell}
use Rattle.roc_rows.specs.Store.{Store}
use Rattle.roc_plan.specs.declared.group.Input.{Input}
use Rattle.roc_plan.specs.Groups.{Plan, groups_of, inputs_of, outs_of, is_immediate_of, shard_of, group_place, is_transaction}
use Rattle.roc_whole.specs.Serial as whole
use Rattle.roc_group.specs.declared.access.Access.{Access}
use Rattle.roc_group.specs.GroupRun.{GroupCall, call, group_run, group_uses, bound_by_run}
use Rattle.roc_law_orders.specs.Behaviour.{TxnGroup, Use, is_group_number}
use Rattle.roc_law_orders.specs.Runs.{stage_behind}
use Rattle.roc_law_orders.specs.Orders.{one_by_one}
use Rattle.roc_law_log.specs.Scheme.{Scheme, IsSoundScheme}
use Rattle.roc_audit.specs.Witness.{reply_in}

-- what each input names, among the bound values of the groups that bind them
abbrev pub picked : List Input → List (List ℤ) → List ℤ
picked [] given = []
picked (i ∷ is) [] = []
picked (i ∷ is) (values ∷ given) = slice_index_or values i.at (pos 0) ∷ picked is given

-- a group of what a transaction calls, with what its sources bound
abbrev pub called : Plan → (TxnId → whole.Call) → TxnGroup → List (List ℤ) → GroupCall
called plan asked r given =
    call (asked r.txn).procedure r.group (asked r.txn).arguments (picked (inputs_of plan (asked r.txn).procedure r.group) given)

abbrev pub use_of : Access → Use
use_of a = record { cell = a.cell; writes = a.writes }

-- the groups of transactions do what the plan's groups do, where each transaction calls what was asked
pub record IsSchemeOf (plan : Plan) (asked : TxnId → whole.Call) (S : Scheme) : Type 0 where
  pub groups : (t : TxnId) (g : ℕ) → IsListed is_group_number (S.behaviour.groups t) g ↔ g < length (groups_of plan (asked t).procedure)
  pub some : (t : TxnId) → 0 < length (groups_of plan (asked t).procedure)
  -- those that wait stand by number
  pub later :
      (t : TxnId)
      → filter (λ g. not (is_immediate_of plan (asked t).procedure g)) (S.behaviour.groups t)
      ≡ filter (λ g. not (is_immediate_of plan (asked t).procedure g)) (range_with_len 0 (length (groups_of plan (asked t).procedure)))
  pub sources : (r : TxnGroup) → S.behaviour.sources r ≡ map (λ i. i.group) (inputs_of plan (asked r.txn).procedure r.group)
  -- inputs come from immediate groups
  pub from_immediate : (r : TxnGroup) (i : Input) → Has i (inputs_of plan (asked r.txn).procedure r.group) → is_immediate_of plan (asked r.txn).procedure i.group ≡ true
  pub uses : (r : TxnGroup) (given : List (List ℤ)) (s : Store) → S.behaviour.uses r given s ≡ map use_of (group_uses plan (called plan asked r given) s)
  pub yields :
      (r : TxnGroup) (given : List (List ℤ)) (s : Store)
      → S.behaviour.yields r given s ≡ record { bound = bound_by_run plan (called plan asked r given) s; outs = (group_run plan (called plan asked r given) s).reply }
  pub after : (r : TxnGroup) (given : List (List ℤ)) (s : Store) → S.behaviour.after r given s ≡ (group_run plan (called plan asked r given) s).store
  pub immediate : (r : TxnGroup) → S.is_immediate r ≡ is_immediate_of plan (asked r.txn).procedure r.group
  pub cell_shard : (x : Cell) → S.cell_shard x ≡ shard_of plan x.place
  pub group_shard :
      (r : TxnGroup) (given : List (List ℤ))
      → S.group_shard r given
      ≡ shard_of plan (group_place plan (asked r.txn).procedure r.group (asked r.txn).arguments (picked (inputs_of plan (asked r.txn).procedure r.group) given))
  -- a group gives as many values as it has places in the reply
  pub outs : (r : TxnGroup) (given : List (List ℤ)) (s : Store) → length (S.behaviour.yields r given s).outs ≡ length (outs_of plan (asked r.txn).procedure r.group)
  -- each place of the reply is a group's
  pub places :
      (t : TxnId) (at : ℕ) → at < length (flat_map (outs_of plan (asked t).procedure) (range_with_len 0 (length (groups_of plan (asked t).procedure))))
      → (g : ℕ) × (g < length (groups_of plan (asked t).procedure)) × Has at (outs_of plan (asked t).procedure g)
  -- there are at most 64 shards
  pub few_shards : (place : ℤ) → shard_of plan place < 64

-- the reply of a transaction where the transactions of an order run whole, one after another, is what its groups give, each value at its
-- place, where the groups of these transactions run one after another, from this store on
pub record IsWholeReplyFrom (plan : Plan) (start : Store) (asked : TxnId → whole.Call) (S : Scheme) (order : List TxnId) (t : TxnId) (reply : List ℤ) : Type 0 where
  pub is : reply_in t (whole.serial_answers plan.program start (map asked order)) ≡ Some reply
  pub count : length reply ≡ length (flat_map (outs_of plan (asked t).procedure) (range_with_len 0 (length (groups_of plan (asked t).procedure))))
  pub given :
      (g : ℕ) (at : ℕ) (value : ℤ) → g < length (groups_of plan (asked t).procedure)
      → Has (at, value)
      (zip (outs_of plan (asked t).procedure g)
      ((stage_behind S.behaviour start (one_by_one S.behaviour order)).yielded (record { txn = t; group = g })).outs)
      → slice_index_or reply at (pos 0) ≡ value

-- whatever transactions call, there is such a scheme, as the log machine asks for it, in which transactions one by one, from this store on, are whole
-- procedures
pub record HasSchemesFrom (plan : Plan) (start : Store) : Type 0 where
  pub scheme : (TxnId → whole.Call) → Scheme
  pub of : (asked : TxnId → whole.Call) → ((t : TxnId) → is_transaction plan (asked t).procedure ≡ true) → IsSchemeOf plan asked (scheme asked)
  pub sound : (asked : TxnId → whole.Call) → ((t : TxnId) → is_transaction plan (asked t).procedure ≡ true) → IsSoundScheme (scheme asked)
  pub replies :
      (asked : TxnId → whole.Call) → ((t : TxnId) → is_transaction plan (asked t).procedure ≡ true)
      → (order : List TxnId) → NoneTwice is_txn order → ((t : TxnId) → IsListed is_txn order t → (asked t).id ≡ t)
      → (t : TxnId) → IsListed is_txn order t → (reply : List ℤ) × IsWholeReplyFrom plan start asked (scheme asked) order t reply
  pub stores :
      (asked : TxnId → whole.Call) → ((t : TxnId) → is_transaction plan (asked t).procedure ≡ true)
      → (order : List TxnId)
      → (stage_behind (scheme asked).behaviour start (one_by_one (scheme asked).behaviour order)).store
      ≡ whole.serial_store plan.program start (map asked order)
