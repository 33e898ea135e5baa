-- What comes of messages that teach lists
use Rattle.std.proofs.Common.{◌≡◌, Bool, true, false, cond, List, [], ◌∷◌, ◌++◌, Option, Some, None, refl, sym, subst, append-nil}
use Rattle.roc_sequence.specs.Places.{is_listed}
use Rattle.roc_base.specs.declared.id.TxnId.{TxnId}
use Rattle.roc_base.specs.Edge.{Dependency}
use Rattle.roc_base.specs.TxnId.{is_txn}
use Rattle.roc_depgraph.specs.declared.known.KnownList.{KnownList}
use Rattle.roc_depgraph.specs.Deps.{IsDecided}
use Rattle.roc_step.proofs.TakenNew.{nothing_new}
use Rattle.roc_msg.specs.Outbox.{Collected}
use Rattle.roc_plan.specs.Groups.{Plan}
use Rattle.roc_step.specs.declared.handled.Handled.{Handled}
use Rattle.roc_step.specs.Forgets.{forgetting}
use Rattle.roc_step.specs.Runs.{commitok_of}
use Rattle.roc_step.specs.New.{AreNewTaken}
use Rattle.roc_step.specs.Carried.{list_with, carried, unknown_of}
use Rattle.roc_step.specs.Lists.{commit_refusal, commit_taken, after_commit, known_refusal, after_known, links_of, taught}
use Rattle.roc_server.specs.Inner.Taught.{own_again, with_own, Teaches, Commits, Knows}
use Rattle.roc_step.specs.State.{refused, ServerState, ServerStep}
use Rattle.roc_step.specs.Step.{unless_refused}
use Rattle.roc_server.specs.Inner.Shown.{ShowsStep}

module _ (plan : Plan) (s : ServerState) (decided : List TxnId) (before : Collected) (id : TxnId) (edges : List Dependency) where
  pub refused_shown : (answer : Handled) → ShowsStep (refused s answer) answer s before before
  refused_shown answer = record { answers = refl; keeps = refl; sends = sym (append-nil before.messages); decides = sym (append-nil before.decided); ran = sym (append-nil before.ran) }

  -- what is followed behind these lists, unless they are refused
  abbrev behind : List KnownList → Option Handled → List KnownList
  behind lists f = s.lists.links ++ links_of s (unless_refused f lists)

  module _ (facts : List KnownList) where
    abbrev refusal : Option Handled
    refusal = commit_refusal s id edges facts

    abbrev lists : List KnownList
    lists = unknown_of s.lists.known (carried id edges facts)

    pub commit_refused : (answer : Handled) → refusal ≡ Some answer → Commits plan decided s s before before id edges facts answer
    commit_refused answer e =
        let P : Option Handled → Type 0 = λ f. AreNewTaken (IsDecided s.lists.links) (behind lists f) [] in
        let Q : Option Handled → Type 0 = λ f. ShowsStep (after_commit plan decided [] s id edges facts f) answer s before before in
        record { components = []; are_new = subst P (sym e) (nothing_new s.lists.links); shown = subst Q (sym e) (refused_shown answer) }

    -- its commitok ends the step, where its transaction was decided before
    own_if : (b : Bool) (r : ServerStep) → own_again plan r.state.shard r.state.started (cond b (Some id) None) ≡ cond b (commitok_of plan r.state id ∷ []) []
    own_if true r = refl
    own_if false r = refl

    pub commit_taught : (state : ServerState) (after : Collected) (news : List KnownList) (again : Option TxnId) (answer : Handled) → refusal ≡ None → news ≡ lists
        → again ≡ cond (is_listed is_txn decided id) (Some id) None
        → Teaches plan s state before after news again answer → Commits plan decided s state before after id edges facts answer
    commit_taught state after news again answer none is own t =
        let is_decided : Bool = is_listed is_txn decided id in
        let u : Teaches plan s state before after lists (cond is_decided (Some id) None) answer =
        subst (λ a. Teaches plan s state before after lists a answer) own (subst (λ ks. Teaches plan s state before after ks again answer) is t) in
        let step : ServerStep = taught plan s lists u.components in
        let ends : with_own plan (cond is_decided (Some id) None) step ≡ commit_taken plan decided s id step = λ i. record step { sends = step.sends ++ own_if is_decided step i } in
        let P : Option Handled → Type 0 = λ f. AreNewTaken (IsDecided s.lists.links) (behind lists f) u.components in
        let Q : Option Handled → Type 0 = λ f. ShowsStep (after_commit plan decided u.components s id edges facts f) answer state before after in
        record {
          components = u.components;
          are_new = subst P (sym none) u.are_new;
          shown = subst Q (sym none) (subst (λ (r : ServerStep). ShowsStep (forgetting r) answer state before after) ends u.shown);
        }

  abbrev known_why : Option Handled
  known_why = known_refusal s id edges

  abbrev one : List KnownList
  one = unknown_of s.lists.known (list_with id edges ∷ [])

  pub known_refused : (answer : Handled) → known_why ≡ Some answer → Knows plan s s before before id edges answer
  known_refused answer e =
      let P : Option Handled → Type 0 = λ f. AreNewTaken (IsDecided s.lists.links) (behind one f) [] in
      let Q : Option Handled → Type 0 = λ f. ShowsStep (after_known plan [] s id edges f) answer s before before in
      record { components = []; are_new = subst P (sym e) (nothing_new s.lists.links); shown = subst Q (sym e) (refused_shown answer) }

  pub known_taught : (state : ServerState) (after : Collected) (news : List KnownList) (answer : Handled) → known_why ≡ None → news ≡ one → Teaches plan s state before after news None answer
      → Knows plan s state before after id edges answer
  known_taught state after news answer none is t =
      let u : Teaches plan s state before after one None answer = subst (λ ks. Teaches plan s state before after ks None answer) is t in
      let step : ServerStep = taught plan s one u.components in
      let ends : with_own plan None step ≡ step = λ i. record step { sends = append-nil step.sends i } in
      let P : Option Handled → Type 0 = λ f. AreNewTaken (IsDecided s.lists.links) (behind one f) u.components in
      let Q : Option Handled → Type 0 = λ f. ShowsStep (after_known plan u.components s id edges f) answer state before after in
      record {
        components = u.components;
        are_new = subst P (sym none) u.are_new;
        shown = subst Q (sym none) (subst (λ (r : ServerStep). ShowsStep (forgetting r) answer state before after) ends u.shown);
      }
