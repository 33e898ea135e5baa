-- What comes of a start, case by case
use Rattle.std.proofs.Common.{◌≡◌, ◌&&◌, true, false, cond, is_none, Some, None, Option, List, [], ◌∷◌, ◌++◌, if◌then◌else◌}
use Rattle.std.proofs.Common.{Result, Ok, Err, IfOk, refl, sym, ap, subst, ◌∙◌, append-nil, arith}
use Rattle.std.proofs.lemmas.Bool.{false≢true}
use Rattle.roc_base.specs.declared.id.TxnId.{TxnId}
use Rattle.roc_base.specs.TxnId.{is_txn}
use Rattle.roc_base.specs.Edge.{Dependency}
use Rattle.roc_depgraph.specs.declared.known.KnownList.{KnownList}
use Rattle.roc_depgraph.specs.Deps.{is_known}
use Rattle.roc_group.specs.GroupRun.{GroupCall}
use Rattle.roc_msg.specs.Outbox.{Collected, HasSent}
use Rattle.roc_plan.specs.Groups.{Plan, is_immediate_of}
use Rattle.roc_rows.specs.Store.{Store}
use Rattle.roc_step.specs.declared.handled.Handled.TheVariants.{Done}
use Rattle.roc_step.specs.declared.started.StartedGroup.{StartedGroup}
use Rattle.roc_step.specs.New.{AreLedTo}
use Rattle.roc_step.specs.Start.{start_refusal, start_judged, start_taken, startok_of, edges_for}
use Rattle.roc_step.specs.Runs.{accesses_of}
use Rattle.roc_server.specs.Inner.Shown.{ShowsStep}
use Rattle.roc_step.specs.Links.{all_entries}
use Rattle.roc_step.specs.declared.handled.Handled.{Handled}
use Rattle.roc_base.proofs.Ids.{none_rise}
use Rattle.roc_sequence.proofs.Holds.{all_weaker, any_has, has_any}
use Rattle.roc_sequence.proofs.Members.{has_left}
use Rattle.roc_step.specs.Waits.{was_asked_for}
use Rattle.roc_step.proofs.Skipped.{left_still}
use Rattle.roc_server.specs.Inner.Starts.{IsNewGroup, StartTaken, StartsNew, TellsStart}
use Rattle.roc_step.specs.State.{find_group, ServerState, ServerStep, is_here}
use Rattle.roc_sequence.specs.Places.{is_listed, IsListed}
use Rattle.roc_sequence.proofs.Places.{unlisted_test}
use Rattle.roc_step.specs.New.{AreDecided}
use Rattle.roc_server_lists.specs.ListsNow.{is_missing_at, IsNoneLeft}
use Rattle.roc_step.specs.State.{Lists}

pub nothing_led : (known : List KnownList) → AreLedTo known [] []
nothing_led known = record { rising = none_rise; sound = λ u l. absurd (none u l); complete = λ u p. elim p.1.is [ ] }
  where
    none : (u : TxnId) → ¬ IsListed is_txn [] u
    none u l = omega arith

module _ (plan : Plan) (decided : List TxnId) (s : ServerState) (id : TxnId) (c : GroupCall) where
  -- the entries of a new group, by the two tests
  abbrev by_tests : Option Handled → Option StartedGroup → List Dependency
  by_tests f g = cond (is_none f && is_none g) (edges_for plan decided s id c) []

  -- it was not taken
  pub start_refused : (out : Collected) (answer : Handled) → start_refusal plan s id c ≡ Some answer → StartTaken plan decided s s out out id c answer
  start_refused out answer judged =
      let P : List Dependency → Type 0 = λ es. AreLedTo s.lists.links es [] in
      let Q : ServerStep → Type 0 = λ r. ShowsStep r answer s out out in
      record {
        reached = [];
        led = subst P (ap (λ f. by_tests f (find_group id c.group s.started)) (sym judged)) (nothing_led s.lists.links);
        shown = subst Q (ap (start_judged plan decided [] s id c) (sym judged)) (record { answers = refl; keeps = refl; sends = sym (append-nil out.messages); decides = sym (append-nil out.decided); ran = sym (append-nil out.ran) });
      }

  -- a group that is here was told again
  pub start_repeated : (old new : Collected) (e : StartedGroup) → start_refusal plan s id c ≡ None → find_group id c.group s.started ≡ Some e → HasSent old new (startok_of s.shard e ∷ []) → StartTaken plan decided s s old new id c Done
  start_repeated old new e judged there sent =
      let P : List Dependency → Type 0 = λ es. AreLedTo s.lists.links es [] in
      let Q : ServerStep → Type 0 = λ r. ShowsStep r Done s old new in
      record {
        reached = [];
        led = subst P (ap (λ g. by_tests None g) (sym there) ∙ ap (λ f. by_tests f (find_group id c.group s.started)) (sym judged)) (nothing_led s.lists.links);
        shown =
            subst Q (ap (start_taken plan decided [] s id c) (sym there) ∙ ap (start_judged plan decided [] s id c) (sym judged))
            (record { answers = refl; keeps = refl; sends = sent.0; decides = sent.1 ∙ sym (append-nil old.decided); ran = sent.2 ∙ sym (append-nil old.ran) });
      }

  -- a group that is not here started
  pub start_made : {E : Type 0} (r : Result Handled E) (state : ServerState) (old sent : Collected) → start_refusal plan s id c ≡ None → find_group id c.group s.started ≡ None
      → IfOk r (StartsNew plan decided s state old sent id c) → IfOk r (StartTaken plan decided s state old sent id c)
  start_made (Err e) state old sent judged absent h = tt
  start_made (Ok a) state old sent judged absent h =
      let P : List Dependency → Type 0 = λ es. AreLedTo s.lists.links es h.reached in
      let Q : ServerStep → Type 0 = λ r. ShowsStep r a state old sent in
      record {
        reached = h.reached;
        led = subst P (ap (λ g. by_tests None g) (sym absent) ∙ ap (λ f. by_tests f (find_group id c.group s.started)) (sym judged)) h.led;
        shown = subst Q (ap (start_taken plan decided h.reached s id c) (sym absent) ∙ ap (start_judged plan decided h.reached s id c) (sym judged)) h.shown;
      }

-- ---- a group that starts now

-- it stands behind the others, and what is told of it behind what was sent
pub start_tried : (plan : Plan) (decided : List TxnId) (s : ServerState) (store : Store) (started : List StartedGroup) (id : TxnId) (c : GroupCall) (e : StartedGroup) (old sent : Collected)
    → IsNewGroup plan decided s store id c e → started ≡ s.started ++ e ∷ [] → TellsStart plan s.shard e old sent → StartsNew plan decided s (record s { store = store; started = started }) old sent id c Done
start_tried plan decided s store started id c e old sent n is told =
    record {
      reached = n.reached;
      led = n.led;
      shown = record {
        answers = refl;
        keeps = λ i. record s { store = sym n.ran i; started = sym (is ∙ (λ j. s.started ++ n.is j ∷ [])) i };
        sends = told.messages ∙ ap (λ (g : StartedGroup). old.messages ++ startok_of s.shard g ∷ []) n.is;
        decides = told.decided ∙ sym (append-nil old.decided);
        ran = told.ran ∙ (λ i. old.ran ++ accesses_of (if is_immediate_of plan (n.is i).proc (n.is i).group then n.is i ∷ [] else []));
      };
    }

-- ---- what is kept

here_more : (id : TxnId) (xs : List StartedGroup) (e : StartedGroup) → is_here id xs ≡ true → is_here id (xs ++ e ∷ []) ≡ true
here_more id xs e h = let a = any_has (λ (x : StartedGroup). is_txn x.id id) xs h in has_any (λ (x : StartedGroup). is_txn x.id id) (xs ++ e ∷ []) a.0 (has_left a.0 xs (e ∷ []) a.1) a.2

-- with one more group nothing more is left
pub left_more : (started : List StartedGroup) (l : Lists) (e : StartedGroup) → IsNoneLeft started l → IsNoneLeft (started ++ e ∷ []) l
left_more started l e none =
    all_weaker (λ d. is_missing_at started l.links l.waiting.asked d ≡ false) (λ d. is_missing_at (started ++ e ∷ []) l.links l.waiting.asked d ≡ false)
    (λ d. left_still (is_known l.links d.from) (is_here d.from started) (was_asked_for d.from l.waiting.asked) (is_known l.links d.from) (is_here d.from (started ++ e ∷ [])) (was_asked_for d.from l.waiting.asked)
    (λ h. h) (here_more d.from started e) (λ h. h))
    (all_entries l.links) none

-- of one whose list is unknown nothing is decided
pub not_decided : (links : List KnownList) (decided : List TxnId) (id : TxnId) → AreDecided links decided → is_known links id ≡ false → is_listed is_txn decided id ≡ false
not_decided links decided id are unknown = unlisted_test is_txn decided id (λ l. false≢true (sym unknown ∙ (are.sound id l).own))
