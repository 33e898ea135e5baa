-- A server's state as nested pairs, by which contracts tell states apart
use Rattle.std.specs.Prelude.{ℕ, ℤ, Bool, List, Option, refl}
use Rattle.std.specs.FinMap as map
use Rattle.std.specs.Coded.{Coded, code_by, coded×, coded_ℕ, coded_ℤ, coded_bool, coded_list, coded_option}
use Rattle.roc_base.specs.declared.id.TxnId.{TxnId}
use Rattle.roc_base.specs.Edge.{Dependency}
use Rattle.roc_depgraph.specs.declared.known.KnownList.{KnownList}
use Rattle.roc_rows.specs.Codes.{coded_cell}
use Rattle.roc_rows.specs.declared.cell.Cell.{Cell}
use Rattle.roc_rows.specs.Store.{Store}
use Rattle.roc_rows.specs.Versions.{Counts}
use Rattle.roc_rows.specs.Codes.{coded_store}
use Rattle.roc_group.specs.declared.access.Access.{Access}
use Rattle.roc_step.specs.declared.started.StartedGroup.{StartedGroup}
use Rattle.roc_step.specs.declared.waits.OpenFetch.{OpenFetch}
use Rattle.roc_step.specs.declared.waits.Asker.{Asker}
use Rattle.roc_step.specs.declared.kept_read.KeptRead.{KeptRead}
use Rattle.roc_step.specs.State.{Lists, ServerState, Viewing}

abbrev coded_txn : Coded TxnId
coded_txn = code_by (ℕ × ℕ) (coded× coded_ℕ coded_ℕ) (λ t. (t.coord, t.seq)) (λ p. record { coord = p.0; seq = p.1 }) (λ _. refl)

abbrev coded_dependency : Coded Dependency
coded_dependency =
    code_by (TxnId × (Bool × (Bool × ℕ))) (coded× coded_txn (coded× coded_bool (coded× coded_bool coded_ℕ))) (λ d. (d.from, (d.imm, (d.def, d.at.0))))
    (λ p. record { from = p.0; imm = p.1.0; def = p.1.1.0; at = record { 0 = p.1.1.1 } }) (λ _. refl)

abbrev coded_known : Coded KnownList
coded_known = code_by (TxnId × List Dependency) (coded× coded_txn (coded_list coded_dependency)) (λ k. (k.of, k.edges)) (λ p. record { of = p.0; edges = p.1 }) (λ _. refl)

abbrev coded_access : Coded Access
coded_access = code_by (Cell × Bool) (coded× coded_cell coded_bool) (λ a. (a.cell, a.writes)) (λ p. record { cell = p.0; writes = p.1 }) (λ _. refl)

abbrev Told_parts : Type 0
Told_parts = List ℤ × (List ℤ × (List Dependency × (List KnownList × Option (List ℤ))))

abbrev Group_parts : Type 0
Group_parts = TxnId × (ℕ × (ℕ × (List ℤ × (List ℤ × (List Access × Told_parts)))))

abbrev coded_told : Coded Told_parts
coded_told = coded× (coded_list coded_ℤ) (coded× (coded_list coded_ℤ) (coded× (coded_list coded_dependency) (coded× (coded_list coded_known) (coded_option (coded_list coded_ℤ)))))

abbrev coded_group : Coded StartedGroup
coded_group =
    code_by Group_parts
    (coded× coded_txn (coded× coded_ℕ (coded× coded_ℕ (coded× (coded_list coded_ℤ) (coded× (coded_list coded_ℤ) (coded× (coded_list coded_access) coded_told))))))
    (λ e. (e.id, (e.proc, (e.group, (e.args, (e.inputs, (e.cells, (e.bound, (e.outs, (e.edges, (e.facts, e.later)))))))))))
    (λ p. record {
      id = p.0;
      proc = p.1.0;
      group = p.1.1.0;
      args = p.1.1.1.0;
      inputs = p.1.1.1.1.0;
      cells = p.1.1.1.1.1.0;
      bound = p.1.1.1.1.1.1.0;
      outs = p.1.1.1.1.1.1.1.0;
      edges = p.1.1.1.1.1.1.1.1.0;
      facts = p.1.1.1.1.1.1.1.1.1.0;
      later = p.1.1.1.1.1.1.1.1.1.1;
    })
    (λ _. refl)

abbrev coded_asked : Coded OpenFetch
coded_asked = code_by (TxnId × ℕ) (coded× coded_txn coded_ℕ) (λ a. (a.id, a.at.0)) (λ p. record { id = p.0; at = record { 0 = p.1 } }) (λ _. refl)

abbrev coded_asker : Coded Asker
coded_asker = code_by (TxnId × ℕ) (coded× coded_txn coded_ℕ) (λ a. (a.id, a.shard.0)) (λ p. record { id = p.0; shard = record { 0 = p.1 } }) (λ _. refl)

abbrev coded_lists : Coded Lists
coded_lists =
    code_by (List KnownList × (List KnownList × ((List OpenFetch × List Asker) × List (List TxnId))))
    (coded× (coded_list coded_known) (coded× (coded_list coded_known) (coded× (coded× (coded_list coded_asked) (coded_list coded_asker)) (coded_list (coded_list coded_txn)))))
    (λ l. (l.known, (l.links, ((l.waiting.asked, l.waiting.askers), l.taken))))
    (λ p. record { known = p.0; links = p.1.0; waiting = record { asked = p.1.1.0.0; askers = p.1.1.0.1 }; taken = p.1.1.1 }) (λ _. refl)

abbrev pub coded_state : Coded ServerState
coded_state =
    code_by (ℕ × (Store × (List StartedGroup × (Lists × List ℕ)))) (coded× coded_ℕ (coded× coded_store (coded× (coded_list coded_group) (coded× coded_lists (coded_list coded_ℕ)))))
    (λ s. (s.shard.0, (s.store, (s.started, (s.lists, s.below)))))
    (λ p. record { shard = record { 0 = p.0 }; store = p.1.0; started = p.1.1.0; lists = p.1.1.1.0; below = p.1.1.1.1 }) (λ _. refl)

abbrev coded_read : Coded KeptRead
coded_read =
    code_by (TxnId × (ℕ × (ℕ × (ℕ × List ℤ)))) (coded× coded_txn (coded× coded_ℕ (coded× coded_ℕ (coded× coded_ℕ (coded_list coded_ℤ)))))
    (λ q. (q.id, (q.round, (q.proc, (q.group, q.args)))))
    (λ p. record { id = p.0; round = p.1.0; proc = p.1.1.0; group = p.1.1.1.0; args = p.1.1.1.1 }) (λ _. refl)

abbrev pub coded_viewing : Coded Viewing
coded_viewing =
    code_by (Counts × List KeptRead) (coded× (map.code coded_cell coded_ℕ) (coded_list coded_read)) (λ v. (v.versions, v.reads)) (λ p. record { versions = p.0; reads = p.1 }) (λ _. refl)
