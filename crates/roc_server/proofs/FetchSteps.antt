-- What comes of a fetch, case by case
use Rattle.std.proofs.Common.{◌≡◌, ◌&&◌, ◌++◌, Bool, true, false, not, List, [], ◌∷◌, None, Option, Some, Result, Ok, Err, IfOk, OnOk, if◌then◌else◌, refl, sym, ap, subst, ◌∙◌, append-nil}
use Rattle.roc_base.specs.declared.id.TxnId.{TxnId}
use Rattle.roc_base.specs.declared.node.Shard.{Shard}
use Rattle.roc_base.specs.Edge.{Dependency}
use Rattle.roc_depgraph.specs.Deps.{list_of}
use Rattle.roc_msg.specs.declared.reason.Reason.TheVariants.{NotHere}
use Rattle.roc_msg.specs.Outbox.{Collected, HasSent}
use Rattle.roc_step.specs.Below.{is_ended}
use Rattle.roc_step.specs.declared.handled.Handled.{Handled}
use Rattle.roc_step.specs.declared.handled.Handled.TheVariants.{Done, Ignored}
use Rattle.roc_step.specs.declared.started.StartedGroup.{StartedGroup}
use Rattle.roc_step.specs.declared.waits.Asker.{Asker}
use Rattle.roc_step.specs.Asking.{known_to}
use Rattle.roc_step.specs.Carried.{list_with}
use Rattle.roc_step.specs.Lists.{after_fetch, fetch_taken, settled_to}
use Rattle.roc_step.specs.Runs.{accesses_of}
use Rattle.roc_sequence.specs.Lists.{Has}
use Rattle.roc_server_groups.specs.GroupsNow.{groups_behind, groups_without}
use Rattle.roc_server_lists.specs.ListsNow.{lists_behind, over_of, tried_or, with_one_asking, IsNoneLeft, ListsNow}
use Rattle.roc_server.specs.declared.parts.ServerParts.{ServerParts}
use Rattle.roc_server.specs.Inner.Parts.{state_behind, state_of, CanRelease, IsIdle, IsSound}
use Rattle.roc_server.proofs.PartSteps.{all_idle, groups_idle}
use Rattle.roc_step.specs.State.{answered, ignored, is_here, ServerState, ServerStep}
use Rattle.roc_server.specs.Inner.Shown.{ShowsStep}

-- what nothing but its answer and what it sends comes of is shown
shows : (r : ServerStep) (old new : Collected) → r.decided ≡ [] → r.ran ≡ [] → HasSent old new r.sends → ShowsStep r r.answer r.state old new
shows r old new decided ran sent =
    record {
      answers = refl;
      keeps = refl;
      sends = sent.0;
      decides = sent.1 ∙ sym (ap (λ ds. old.decided ++ ds) decided ∙ append-nil old.decided);
      ran = sent.2 ∙ sym (ap (λ es. old.ran ++ accesses_of es) ran ∙ append-nil old.ran);
    }

module _ (s : ServerState) (id : TxnId) (asker : Shard) where
  -- the step by the tests
  abbrev by_tests : Bool → Bool → Option (List Dependency) → ServerStep
  by_tests here ended list =
      if not here && ended then answered s (settled_to s id asker ∷ [])
      else (if here then fetch_taken s id asker list else ignored s NotHere)

  absent_by : (ended : Bool) (old new : Collected) → HasSent old new (if ended then settled_to s id asker ∷ [] else []) → ShowsStep (by_tests false ended (list_of id s.lists.known)) (if ended then Done else Ignored NotHere) s old new
  absent_by true old new sent = shows (answered s (settled_to s id asker ∷ [])) old new refl refl sent
  absent_by false old new sent = shows (ignored s NotHere) old new refl refl sent

  -- it has no group here
  pub fetch_absent : {E : Type 0} (r : Result Handled E) (old new : Collected) → is_here id s.started ≡ false
      → IfOk r (λ answer. answer ≡ (if is_ended s.below id then Done else Ignored NotHere)) → OnOk r (HasSent old new (if is_ended s.below id then settled_to s id asker ∷ [] else []))
      → IfOk r (λ answer. ShowsStep (after_fetch s id asker) answer s old new)
  fetch_absent (Err e) old new absent answer sent = tt
  fetch_absent (Ok a) old new absent answer sent =
      subst (λ (here : Bool). ShowsStep (by_tests here (is_ended s.below id) (list_of id s.lists.known)) a s old new) (sym absent)
      (subst (λ (h : Handled). ShowsStep (by_tests false (is_ended s.below id) (list_of id s.lists.known)) h s old new) (sym answer) (absent_by (is_ended s.below id) old new sent))

  -- it has one
  by_list : (P : ServerStep → Type 0) (list : Option (List Dependency)) → is_here id s.started ≡ true → list_of id s.lists.known ≡ list → P (fetch_taken s id asker list) → P (after_fetch s id asker)
  by_list P list here is h =
      subst (λ (b : Bool). P (by_tests b (is_ended s.below id) (list_of id s.lists.known))) (sym here)
      (subst (λ (o : Option (List Dependency)). P (by_tests true (is_ended s.below id) o)) (sym is) h)

  -- whose list is known
  pub fetch_told : (edges : List Dependency) (old new : Collected) → is_here id s.started ≡ true → list_of id s.lists.known ≡ Some edges
      → HasSent old new (known_to (list_with id edges) (record { id = id; shard = asker }) ∷ []) → ShowsStep (after_fetch s id asker) Done s old new
  fetch_told edges old new here is sent =
      by_list (λ (r : ServerStep). ShowsStep r Done s old new) (Some edges) here is (shows (fetch_taken s id asker (Some edges)) old new refl refl sent)

  -- whose list is not: it waits
  pub fetch_waits : (out : Collected) → is_here id s.started ≡ true → list_of id s.lists.known ≡ None → ShowsStep (after_fetch s id asker) Done (fetch_taken s id asker None).state out out
  fetch_waits out here is =
      let none : HasSent out out [] = (sym (append-nil out.messages), refl, refl) in
      by_list (λ (r : ServerStep). ShowsStep r Done (fetch_taken s id asker None).state out out) None here is (shows (fetch_taken s id asker None) out out refl refl none)

-- ---- it is tried that one more waits

module _ (k : ServerParts) (idle : IsIdle k) (asker : Asker) (lists : ListsNow) (tried : lists.tried ≡ Some (record { kept = with_one_asking asker k.lists.kept; newly = []; asks = []; over = [] })) where
  abbrev new : ServerParts
  new = record { rows = k.rows; groups = k.groups; lists = lists }

  pub asked_started : groups_behind (over_of lists.tried) k.groups ≡ k.groups.kept
  asked_started = ap (λ t. groups_behind (over_of t) k.groups) tried ∙ groups_idle k.groups idle.groups

  asked_lists : lists_behind lists ≡ with_one_asking asker k.lists.kept
  asked_lists = ap (λ t. tried_or t lists.kept) tried

  pub asked_behind : (shard : Shard) → (fetch_taken (state_of shard k) asker.id asker.shard None).state ≡ state_behind shard new
  asked_behind shard i = record {
    shard = shard;
    store = idle.store i;
    started = sym asked_started i;
    lists = (sym asked_lists i).lists;
    below = (sym asked_lists i).below;
  }

  pub asked_can : IsSound k → ((started : List StartedGroup) → IsNoneLeft started k.lists.kept.lists → IsNoneLeft (groups_without (over_of lists.tried) started) (lists_behind lists).lists) → CanRelease new
  asked_can sound left = record {
    left = left (k.groups.ran ++ k.groups.starting) (subst (λ (es : List StartedGroup). IsNoneLeft es k.lists.kept.lists) (sym (all_idle k.groups idle.groups)) sound.left);
    starting = λ e has. absurd (subst (Has e) idle.groups.starting has);
  }
