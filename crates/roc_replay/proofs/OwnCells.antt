-- What runs on a server leaves only cells that the program has
use Rattle.std.proofs.Common.{◌≡◌, ◌≢◌, ℕ, ℤ, pos, zero, suc, Bool, true, false, cond, List, [], ◌∷◌, ◌++◌, length, map, filter, Option, Some, None, subst, ◌∙◌, ◌⊎◌, inl, inr, arith}
use Rattle.std.proofs.lemmas.Bool.{cases_lt}
use Rattle.std.specs.Prelude.{slice_index_or, if◌then◌else◌}
use Rattle.std.specs.List.{AllByRecursion, flat_map, range_with_len}
use Rattle.roc_rows.specs.declared.cell.Cell.{Cell}
use Rattle.roc_rows.specs.Store.{Store, read, write, empty}
use Rattle.roc_program.specs.Program.{Statement, Get, Set, Out, Piece, Procedure, Init, Workload}
use Rattle.roc_program.specs.WellFormed.{IsColumn, IsBody, IsPiece, ArePieces, IsProcedure, IsInit, IsProgram, known_behind}
use Rattle.roc_program.specs.LookUps.{no_piece, no_procedure, columns_of}
use Rattle.roc_program.specs.Values.{value}
use Rattle.roc_plan.specs.Groups.{Plan, pieces_at, group_of}
use Rattle.roc_whole.specs.Run.{Progress, access_cell, after_statement, after_statements, after_piece, after_pieces}
use Rattle.roc_whole.specs.Serial.{init_cell, after_inits}
use Rattle.roc_group.specs.GroupRun.{GroupCall, call, begin, group_run}
use Rattle.roc_base.specs.declared.id.TxnId.{TxnId}
use Rattle.roc_base.specs.declared.node.Shard.{Shard}
use Rattle.roc_base.specs.Edge.{Dependency}
use Rattle.roc_depgraph.specs.Deps.{list_of}
use Rattle.roc_msg.specs.declared.msg.Msg.{Msg}
use Rattle.roc_msg.specs.declared.msg.Msg.TheVariants as msg
use Rattle.roc_msg.specs.declared.reason.Reason.TheVariants.{NotHere}
use Rattle.roc_step.specs.declared.handled.Handled.{Handled}
use Rattle.roc_step.specs.declared.handled.Handled.TheVariants.{Gone}
use Rattle.roc_step.specs.declared.started.StartedGroup.{StartedGroup}
use Rattle.roc_step.specs.State.{ServerState, ServerStep, find_group, hearing, is_here, refused, ignored, answered}
use Rattle.roc_step.specs.First.{first_server}
use Rattle.roc_step.specs.Start.{start_refusal, start_judged, start_taken, is_immediate_group}
use Rattle.roc_step.specs.Runs.{group_call, buffered_here, run_group, run_groups, take_all}
use Rattle.roc_step.specs.Lists.{decides, commit_refusal, after_commit, fetch_taken, settled_to, known_refusal, after_known, lists_settled}
use Rattle.roc_step.specs.Step as server
use Rattle.roc_step.specs.Step.{Findings}
use Rattle.roc_law_protocol.proofs.ReadsHere.{for_read}
use Rattle.roc_report.specs.ReportLine.{IsCellOf}

-- what is read of stores
pub record ReadLaws : Type 0 where
  pub nothing : (c : Cell) → read empty c ≡ pos 0
  pub other : (s : Store) (c : Cell) (v : ℤ) (d : Cell) → c ≢ d → read (write s c v) d ≡ read s d

-- each cell that the program does not have is 0
abbrev pub HoldsOwn : Workload → Store → Type 0
HoldsOwn program store = (c : Cell) → (IsCellOf program c → ⊥) → read store c ≡ pos 0

-- a cell is the program's, or not
own_or_not : (program : Workload) (c : Cell) → IsCellOf program c ⊎ (IsCellOf program c → ⊥)
own_or_not program c = elim (cases_lt c.table (length program.tables)) [
  | inl table ↦ elim (cases_lt c.column (length (columns_of program c.table))) [
    | inl column ↦ inl (record { table = table; column = column })
    | inr past ↦ inr (λ is. let column = is.column in absurd (omega (arith, past, column)))
  ]
  | inr past ↦ inr (λ is. let table = is.table in absurd (omega (arith, past, table)))
]

pub own_cell : (program : Workload) (store : Store) (c : Cell) → HoldsOwn program store → read store c ≢ pos 0 → IsCellOf program c
own_cell program store c own some = elim (own_or_not program c) [
  | inl is ↦ is
  | inr not ↦ absurd (some (own c not))
]

-- ---- programs

column_cell : (program : Workload) (table integers column : ℕ) (place : ℤ) (id : List ℤ) → IsColumn program.tables table integers column
    → IsCellOf program (record { table = table; place = place; id = id; column = column })
column_cell program table integers column place id is = record { table = is.has_table; column = is.has_column }

-- the cells of a program are among those of another, which may be a grown one
module _ (laws : ReadLaws) (program all : Workload) (wider : (c : Cell) → IsCellOf program c → IsCellOf all c) where
  written_own : (store : Store) (cell : Cell) (v : ℤ) → IsCellOf program cell → HoldsOwn all store → HoldsOwn all (write store cell v)
  written_own store cell v of own c not = laws.other store cell v c (λ e. not (subst (IsCellOf all) e (wider cell of))) ∙ own c not

  body_own : (known own : List ℕ) (place : ℤ) (body : List Statement) (p : Progress) → IsBody program.tables known own body → HoldsOwn all p.store
      → HoldsOwn all (after_statements place p body).store
  body_own known own place [] p is h = h
  body_own known own place (Get number from ∷ rest) p is h = body_own known (own ++ number ∷ []) place rest (after_statement place p (Get number from)) is.1 h
  body_own known own place (Set to v ∷ rest) p is h =
      body_own known own place rest (after_statement place p (Set to v)) is.2
      (written_own p.store (access_cell place p.environment to) (value v p.environment) (column_cell program _ _ _ _ _ is.0.column) h)
  body_own known own place (Out v ∷ rest) p is h = body_own known own place rest (after_statement place p (Out v)) is.1 h

  abbrev KeepsOwn : Piece → Type 0
  KeepsOwn piece = (p : Progress) → HoldsOwn all p.store → HoldsOwn all (after_piece p piece).store

  piece_keeps : (known : List ℕ) (piece : Piece) → IsPiece program.tables known piece → KeepsOwn piece
  piece_keeps known piece is p h = body_own known [] (value piece.place p.environment) piece.body p is.body h

  piece_at_keeps : (known : List ℕ) (pieces : List Piece) (k : ℕ) → ArePieces program.tables known pieces → KeepsOwn (slice_index_or pieces k no_piece)
  piece_at_keeps known [] k are p h = h
  piece_at_keeps known (piece ∷ rest) zero are p h = piece_keeps known piece are.0 p h
  piece_at_keeps known (piece ∷ rest) (suc k) are p h = piece_at_keeps (known_behind known piece) rest k are.1 p h

  pieces_keep : (known : List ℕ) (pieces : List Piece) → ArePieces program.tables known pieces → (numbers : List ℕ) (p : Progress) → HoldsOwn all p.store
      → HoldsOwn all (after_pieces p (map (λ k. slice_index_or pieces k no_piece) numbers)).store
  pieces_keep known pieces are [] p h = h
  pieces_keep known pieces are (k ∷ ks) p h = pieces_keep known pieces are ks (after_piece p (slice_index_or pieces k no_piece)) (piece_at_keeps known pieces k are p h)

  procedures_keep : (procedures : List Procedure) (proc : ℕ) → AllByRecursion (IsProcedure program.tables) procedures → (numbers : List ℕ) (p : Progress) → HoldsOwn all p.store
      → HoldsOwn all (after_pieces p (pieces_at (slice_index_or procedures proc no_procedure) numbers)).store
  procedures_keep [] proc fit numbers p h = pieces_keep [] [] tt numbers p h
  procedures_keep (x ∷ xs) zero fit numbers p h = pieces_keep (range_with_len 0 x.arguments) x.pieces fit.0.pieces numbers p h
  procedures_keep (x ∷ xs) (suc n) fit numbers p h = procedures_keep xs n fit.1 numbers p h

  inits_own : (chosen : Init → Bool) (inits : List Init) (store : Store) → AllByRecursion (IsInit program.tables) inits → HoldsOwn all store
      → HoldsOwn all (after_inits store (filter chosen inits))
  inits_own chosen [] store fit h = h
  inits_own chosen (i ∷ inits) store fit h = go (chosen i) (inits_own chosen inits)
    where
      go : (b : Bool) → ((s : Store) → AllByRecursion (IsInit program.tables) inits → HoldsOwn all s → HoldsOwn all (after_inits s (filter chosen inits)))
          → HoldsOwn all (after_inits store (cond b (i ∷ filter chosen inits) (filter chosen inits)))
      go true ih = ih (write store (init_cell i) i.value) fit.1 (written_own store (init_cell i) i.value (column_cell program _ _ _ _ _ fit.0.column) h)
      go false ih = ih store fit.1 h

-- ---- servers

module _ (laws : ReadLaws) (plan : Plan) (ok : IsProgram plan.program) (all : Workload) (wider : (c : Cell) → IsCellOf plan.program c → IsCellOf all c) where
  group_own : (c : GroupCall) (store : Store) → HoldsOwn all store → HoldsOwn all (group_run plan c store).store
  group_own c store h = procedures_keep laws plan.program all wider plan.program.procedures c.proc ok.procedures (group_of plan c.proc c.group).pieces (begin plan c store) h

  groups_own : (es : List StartedGroup) (s : ServerState) → HoldsOwn all s.store → HoldsOwn all (run_groups plan s es).store
  groups_own [] s h = h
  groups_own (e ∷ es) s h = groups_own es (run_group plan s e) (group_own (group_call e) s.store h)

  taken_own : (ts : List TxnId) (s : ServerState) → HoldsOwn all s.store → HoldsOwn all (take_all plan s ts).store
  taken_own [] s h = h
  taken_own (t ∷ ts) s h = taken_own ts (run_groups plan s (buffered_here plan t s.started)) (groups_own (buffered_here plan t s.started) s h)

  either_own : (b : Bool) (s t : Store) → HoldsOwn all s → HoldsOwn all t → HoldsOwn all (if b then s else t)
  either_own true s t h k = h
  either_own false s t h k = k

  either_step : (b : Bool) (r q : ServerStep) → HoldsOwn all r.state.store → HoldsOwn all q.state.store → HoldsOwn all (if b then r else q).state.store
  either_step true r q h k = h
  either_step false r q h k = k

  start_own : (left_out reached : List TxnId) (s : ServerState) (id : TxnId) (c : GroupCall) (refusal : Option Handled) → HoldsOwn all s.store
      → HoldsOwn all (start_judged plan left_out reached s id c refusal).state.store
  start_own left_out reached s id c (Some answer) h = h
  start_own left_out reached s id c None h = go (find_group id c.group s.started)
    where
      go : (here : Option StartedGroup) → HoldsOwn all (start_taken plan left_out reached s id c here).state.store
      go (Some e) = h
      go None = either_own (is_immediate_group plan c) (group_run plan c s.store).store s.store (group_own c s.store h) h

  pub message_own : (s : ServerState) (f : Findings) (m : Msg) → HoldsOwn all s.store → HoldsOwn all (server.after_message plan s f m).state.store
  message_own s f (msg.Start id proc group args inputs) h = start_own f.before f.reached s id (call proc group args inputs) (start_refusal plan s id (call proc group args inputs)) h
  message_own s f (msg.Commit id edges facts) h = go (commit_refusal s id edges facts)
    where
      go : (refusal : Option Handled) → HoldsOwn all (after_commit plan f.before f.components s id edges facts refusal).state.store
      go (Some answer) = h
      go None = taken_own (flat_map (λ c. c) f.components) _ h
  message_own s f (msg.Fetch id asker) h =
      let taken = fetch_taken s id asker (list_of id s.lists.known) in
      let unless_settled = either_step (is_here id s.started) taken (ignored s NotHere) (found (list_of id s.lists.known)) h in
      either_step _ (answered s (settled_to s id asker ∷ [])) (if is_here id s.started then taken else ignored s NotHere) h unless_settled
    where
      found : (list : Option (List Dependency)) → HoldsOwn all (fetch_taken s id asker list).state.store
      found (Some edges) = h
      found None = h
  message_own s f (msg.Known id edges) h = go (known_refusal s id edges)
    where
      go : (refusal : Option Handled) → HoldsOwn all (after_known plan f.components s id edges refusal).state.store
      go (Some answer) = h
      go None = taken_own (flat_map (λ c. c) f.components) _ h
  message_own s f (msg.Ended coord mark) h = h
  message_own s f (msg.Settled id mark) h =
      let heard = hearing s id.coord mark in
      either_step _ (decides plan heard (lists_settled s id mark f.components) f.components [] []) (refused heard Gone) (taken_own (flat_map (λ c. c) f.components) _ h) h
  message_own s f (msg.Read id round proc group args) h =
      for_read plan s (record { id = id; round = round; proc = proc; group = group; args = args }) (λ (r : ServerStep). HoldsOwn all r.state.store) (λ answer. h)
  message_own s f m h = h

  -- a server at the start
  pub start_holds : (shard : Shard) → HoldsOwn all (first_server plan shard).store
  start_holds shard = inits_own laws plan.program all wider _ plan.program.inits empty ok.inits (λ c not. laws.nothing c)
