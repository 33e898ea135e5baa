-- What comes of a message, kind by kind
use Rattle.std.proofs.Common.{◌≡◌, ℕ, ℤ, List, [], Option, Some, None, unwrap_or, Result, Ok, Err, IfOk, refl, sym, subst, ◌∙◌, append-nil}
use Rattle.roc_base.specs.declared.id.TxnId.{TxnId}
use Rattle.roc_base.specs.declared.node.Shard.{Shard}
use Rattle.roc_base.specs.Edge.{Dependency}
use Rattle.roc_depgraph.specs.declared.known.KnownList.{KnownList}
use Rattle.roc_group.specs.GroupRun.{call}
use Rattle.roc_msg.specs.declared.msg.Msg.{Msg}
use Rattle.roc_msg.specs.declared.msg.Msg.TheVariants.{Start, Commit, Fetch, Known, Ended, Settled, Read}
use Rattle.roc_msg.specs.Outbox.{Collected}
use Rattle.roc_plan.specs.Groups.{Plan}
use Rattle.roc_step.specs.declared.handled.Handled.{Handled}
use Rattle.roc_step.specs.declared.handled.Handled.TheVariants.{Done}
use Rattle.roc_server.specs.Inner.Starts.{StartTaken}
use Rattle.roc_server.specs.Inner.Taught.{Commits, Knows}
use Rattle.roc_step.specs.Lists.{after_ended, after_fetch}
use Rattle.roc_server.specs.Inner.Settled.{Settles}
use Rattle.roc_step.specs.New.{AreDecided}
use Rattle.roc_step.specs.Reads.{read_judged, read_refusal}
use Rattle.roc_step.specs.State.{ServerState, ServerStep}
use Rattle.roc_step.specs.Step.{Findings, AreFindings, after_message, Handles}
use Rattle.roc_server.specs.Inner.Shown.{ShowsStep}
use Rattle.roc_step.proofs.TakenNew.{nothing_new}
use Rattle.roc_server.proofs.StartSteps.{nothing_led}

-- what is answered, kept and sent is the step of a message
abbrev pub IsStepFor : Plan → ServerState → Msg → ServerState → Collected → Collected → Handled → Type 0
IsStepFor plan s msg state old new answer = (r : ServerStep) × Handles plan s msg r × ShowsStep r answer state old new

module _ (plan : Plan) (s state : ServerState) (decided : List TxnId) (are : AreDecided s.lists.links decided) (before sent : Collected) where
  abbrev IsStep : Msg → Handled → Type 0
  IsStep msg answer = IsStepFor plan s msg state before sent answer

  -- of a message of a kind, by what was found
  comes : (msg m : Msg) (f : Findings) (answer : Handled) → msg ≡ m → AreFindings plan s m f → ShowsStep (after_message plan s f m) answer state before sent → IsStep msg answer
  comes msg m f answer is found shown =
      let P : Msg → Type 0 = λ n. IsStep n answer in
      subst P (sym is) (after_message plan s f m, record { findings = f; found = found; is = refl }, shown)

  pub start_comes : {E : Type 0} (r : Result Handled E) (msg : Msg) (id : TxnId) (proc group : ℕ) (args inputs args2 inputs2 : List ℤ) → msg ≡ Start id proc group args inputs → args2 ≡ args → inputs2 ≡ inputs
      → IfOk r (StartTaken plan decided s state before sent id (call proc group args2 inputs2)) → IfOk r (IsStep msg)
  start_comes (Err e) msg id proc group args inputs args2 inputs2 is same same2 h = tt
  start_comes (Ok a) msg id proc group args inputs args2 inputs2 is same same2 h =
      comes msg (Start id proc group args2 inputs2) (record { before = decided; reached = h.reached; components = [] }) a (is ∙ (λ i. Start id proc group (sym same i) (sym same2 i)))
      (record { before = are; reached = h.led; components = nothing_new s.lists.links }) h.shown

  pub commit_comes : {E : Type 0} (r : Result Handled E) (msg : Msg) (id : TxnId) (edges : List Dependency) (facts facts2 : List KnownList) → msg ≡ Commit id edges facts → facts2 ≡ facts
      → IfOk r (Commits plan decided s state before sent id edges facts2) → IfOk r (IsStep msg)
  commit_comes (Err e) msg id edges facts facts2 is same h = tt
  commit_comes (Ok a) msg id edges facts facts2 is same h =
      comes msg (Commit id edges facts2) (record { before = decided; reached = []; components = h.components }) a (is ∙ (λ i. Commit id edges (sym same i)))
      (record { before = are; reached = nothing_led s.lists.links; components = h.are_new }) h.shown

  pub known_comes : {E : Type 0} (r : Result Handled E) (msg : Msg) (id : TxnId) (edges : List Dependency) → msg ≡ Known id edges → IfOk r (Knows plan s state before sent id edges) → IfOk r (IsStep msg)
  known_comes (Err e) msg id edges is h = tt
  known_comes (Ok a) msg id edges is h =
      comes msg (Known id edges) (record { before = decided; reached = []; components = h.components }) a is (record { before = are; reached = nothing_led s.lists.links; components = h.are_new }) h.shown

  pub fetch_comes : {E : Type 0} (r : Result Handled E) (msg : Msg) (id : TxnId) (asker : Shard) → msg ≡ Fetch id asker → IfOk r (λ a. ShowsStep (after_fetch s id asker) a state before sent) → IfOk r (IsStep msg)
  fetch_comes (Err e) msg id asker is h = tt
  fetch_comes (Ok a) msg id asker is h =
      comes msg (Fetch id asker) (record { before = decided; reached = []; components = [] }) a is (record { before = are; reached = nothing_led s.lists.links; components = nothing_new s.lists.links }) h

  pub ended_comes : {E : Type 0} (r : Result Handled E) (msg : Msg) (coord mark : ℕ) → msg ≡ Ended coord mark → IfOk r (λ a. ShowsStep (after_ended s coord mark) a state before sent) → IfOk r (IsStep msg)
  ended_comes (Err e) msg coord mark is h = tt
  ended_comes (Ok a) msg coord mark is h =
      comes msg (Ended coord mark) (record { before = decided; reached = []; components = [] }) a is (record { before = are; reached = nothing_led s.lists.links; components = nothing_new s.lists.links }) h

  pub settled_comes : {E : Type 0} (r : Result Handled E) (msg : Msg) (id : TxnId) (mark : ℕ) → msg ≡ Settled id mark → IfOk r (Settles plan s state before sent id mark) → IfOk r (IsStep msg)
  settled_comes (Err e) msg id mark is h = tt
  settled_comes (Ok a) msg id mark is h =
      comes msg (Settled id mark) (record { before = decided; reached = []; components = h.components }) a is (record { before = are; reached = nothing_led s.lists.links; components = h.are_new }) h.shown

-- a read is judged, and that is all
read_shown : (s : ServerState) (judged : Option Handled) (answer : Handled) (out : Collected) → answer ≡ unwrap_or judged Done → ShowsStep (read_judged s judged) answer s out out
read_shown s (Some given) answer out is = record { answers = sym is; keeps = refl; sends = sym (append-nil out.messages); decides = sym (append-nil out.decided); ran = sym (append-nil out.ran) }
read_shown s None answer out is = record { answers = sym is; keeps = refl; sends = sym (append-nil out.messages); decides = sym (append-nil out.decided); ran = sym (append-nil out.ran) }

pub read_comes : {E : Type 0} (plan : Plan) (s state : ServerState) (decided : List TxnId) → AreDecided s.lists.links decided → (out : Collected) (r : Result Handled E) (msg : Msg) (id : TxnId) (round proc group : ℕ) (args : List ℤ)
    → state ≡ s → msg ≡ Read id round proc group args → IfOk r (λ a. a ≡ unwrap_or (read_refusal plan s (record { id = id; round = round; proc = proc; group = group; args = args })) Done)
    → IfOk r (IsStepFor plan s msg state out out)
read_comes plan s state decided are out (Err e) msg id round proc group args same is judged = tt
read_comes plan s state decided are out (Ok a) msg id round proc group args same is judged =
    let read : Msg = Read id round proc group args in
    let findings : Findings = record { before = decided; reached = []; components = [] } in
    let P : ServerState → Type 0 = λ t. ShowsStep (after_message plan s findings read) a t out out in
    comes plan s state decided are out out msg read findings a is
    (record { before = are; reached = nothing_led s.lists.links; components = nothing_new s.lists.links })
    (subst P (sym same) (read_shown s (read_refusal plan s (record { id = id; round = round; proc = proc; group = group; args = args })) a out judged))
