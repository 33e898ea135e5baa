-- An accepted plan as a scheme of the log machine: docs/PROOF.md, "From the log machine to the headline"
use Rattle.std.specs.Prelude.{◌≡◌, ℕ, true, List, map}
use Rattle.roc_base.specs.declared.id.TxnId.{TxnId}
use Rattle.roc_whole.specs.Serial as whole
use Rattle.roc_plan.specs.Groups.{Plan, inputs_of, is_immediate_of, shard_of, group_place, is_transaction}
use Rattle.roc_plan.specs.Turns.{AreInTurn}
use Rattle.roc_group.specs.GroupRun.{group_run, group_uses, bound_by_run}
use Rattle.roc_law_log.specs.Scheme.{Scheme}
use Rattle.roc_law_protocol.specs.PlanAssumptions.{called, picked, use_of}

-- what a group of a transaction does, where each transaction calls what was asked, and the groups of each procedure run in these orders
abbrev pub scheme_of : Plan → (orders : ℕ → List ℕ) → (TxnId → whole.Call) → Scheme
scheme_of plan orders asked =
    record {
      behaviour =
          record {
            groups = λ t. orders (asked t).procedure;
            sources = λ r. map (λ i. i.group) (inputs_of plan (asked r.txn).procedure r.group);
            uses = λ r given s. map use_of (group_uses plan (called plan asked r given) s);
            yields = λ r given s. record { bound = bound_by_run plan (called plan asked r given) s; outs = (group_run plan (called plan asked r given) s).reply };
            after = λ r given s. (group_run plan (called plan asked r given) s).store;
          };
      is_immediate = λ r. is_immediate_of plan (asked r.txn).procedure r.group;
      cell_shard = λ x. shard_of plan x.place;
      group_shard = λ r given. shard_of plan (group_place plan (asked r.txn).procedure r.group (asked r.txn).arguments (picked (inputs_of plan (asked r.txn).procedure r.group) given));
    }

-- each procedure's groups, in an order in which they may run
abbrev pub AreOrders : Plan → (ℕ → List ℕ) → Type 0
AreOrders plan orders = (proc : ℕ) → AreInTurn plan proc (orders proc)

-- each transaction calls a procedure of the plan that is no view
abbrev pub AreCalls : Plan → (TxnId → whole.Call) → Type 0
AreCalls plan asked = (t : TxnId) → is_transaction plan (asked t).procedure ≡ true
