-- What a server forgets: docs/PROTOCOL.md, "Forgetting"
use Rattle.std.specs.Prelude.{ℕ, Bool, not, List, map, filter}
use Rattle.std.specs.List.{list_all, flat_map}
use Rattle.roc_sequence.specs.Places.{is_listed}
use Rattle.roc_base.specs.declared.id.TxnId.{TxnId}
use Rattle.roc_base.specs.TxnId.{is_txn}
use Rattle.roc_step.specs.Waits.{without_asked}
use Rattle.roc_step.specs.Links.{without_links}
use Rattle.roc_step.specs.Below.{is_ended}
use Rattle.roc_step.specs.State.{ServerState, ServerStep}

-- a component is over once all its transactions are below the watermarks of their coordinators
abbrev pub is_over : (below : List ℕ) → List TxnId → Bool
is_over below c = list_all (is_ended below) c

-- the transactions of those of these components that are over
abbrev pub over : (below : List ℕ) → (taken : List (List TxnId)) → List TxnId
over below taken = flat_map (λ c. c) (filter (is_over below) taken)

-- without these transactions: their groups, their lists, and that they were asked for; entries that name them are done
abbrev pub without : (forgotten : List TxnId) → ServerState → ServerState
without forgotten s =
    record s {
      started = filter (λ e. not (is_listed is_txn forgotten e.id)) s.started;
      lists = record {
        known = filter (λ k. not (is_listed is_txn forgotten k.of)) s.lists.known;
        links = map (without_links (is_listed is_txn forgotten)) (filter (λ k. not (is_listed is_txn forgotten k.of)) s.lists.links);
        waiting = without_asked (is_listed is_txn forgotten) s.lists.waiting;
        taken = filter (λ c. not (is_over s.below c)) s.lists.taken;
      };
    }

-- what is over is forgotten; cells never are
abbrev pub forget : ServerState → ServerState
forget s = without (over s.below s.lists.taken) s

-- a step that ends so
abbrev pub forgetting : ServerStep → ServerStep
forgetting r = record r { state = forget r.state }
