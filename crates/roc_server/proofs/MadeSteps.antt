-- What was made ahead for a message, and what comes of it
use Rattle.std.proofs.Common.{◌≡◌, ◌++◌, Bool, true, false, if◌then◌else◌, List, [], Option, Some, None, Result, Ok, Err, IsSome, IsTrue, IfSome, OnOk, OnErr, refl, sym, ap, subst, ◌∙◌, inl, inr}
use Rattle.std.proofs.lemmas.Bool.{false≢true}
use Rattle.std.proofs.lemmas.Option.{none-some}
use Rattle.std.specs.Option.{option_map}
use Rattle.roc_base.specs.declared.node.Shard.{Shard}
use Rattle.roc_msg.specs.declared.msg.Msg.{Msg}
use Rattle.roc_msg.specs.declared.outbox.Ran.{Ran}
use Rattle.roc_msg.specs.Outbox.{Collected, HasRoomFor, HoldsAlso}
use Rattle.roc_plan.specs.Groups.{Plan}
use Rattle.roc_server.specs.declared.ahead.Ahead.{Ahead}
use Rattle.roc_server.specs.declared.ahead.Outcome.{Outcome}
use Rattle.roc_step.specs.declared.handled.Handled.{Handled}
use Rattle.roc_server.specs.declared.parts.ServerParts.{ServerParts}
use Rattle.roc_server_reads.specs.declared.views.StayingReads.{StayingReads}
use Rattle.roc_server_reads.specs.declared.views.Views.{Views}
use Rattle.roc_server.specs.Ahead.{needs_room, HasAllMade, HasRoom, IsMadeFor, ServingFits}
use Rattle.roc_step.specs.Fits.{AreGroupsOf, AreReadsOf}
use Rattle.roc_server.specs.Inner.Answering.{read_step, FindsReads}
use Rattle.roc_server.specs.Inner.Held.{made_ahead, made_of, serving, IsServed}
use Rattle.roc_server_reads.specs.Views.{reads_then, viewing_of, viewing_then}
use Rattle.roc_step.specs.Reads.{is_taken, reads_behind, with_accesses, AnswersReads, ReadStep}
use Rattle.roc_step.specs.Runs.{accesses_of}
use Rattle.roc_server.specs.State.{MadeAhead}
use Rattle.roc_step.specs.State.{ServerState, ServerStep, Viewing}
use Rattle.roc_step.specs.Step.{Handles}
use Rattle.roc_step.specs.New.{AreDecided}
use Rattle.roc_server.specs.Inner.Parts.{state_behind, IsSound}
use Rattle.roc_server.proofs.MessageSteps.{IsStepFor}

-- where nothing is ahead, the groups and the reads are all that has to be of the plan
pub idle_fits : (plan : Plan) (shard : Shard) (k : ServerParts) (v : Views) (ahead : Option Ahead) → ahead ≡ None → AreGroupsOf plan k.groups.kept → AreReadsOf plan v.reads.items → ServingFits plan (serving shard k v ahead)
idle_fits plan shard k v ahead none fits reads = subst (λ a. ServingFits plan (serving shard k v a)) (sym none) (fits, reads, tt)

-- what was made for a message is the step, where it is what is answered, kept and sent
pub served : (plan : Plan) (s t : ServerState) (v w : Viewing) (msg : Msg) (made : MadeAhead) (old new : Collected) (answer : Handled) → made.msg ≡ msg → IsMadeFor plan s v made → made.answer ≡ answer → made.state ≡ t → made.viewing ≡ w
    → HoldsAlso old new made.sends → IsServed plan s v msg answer t w old new
served plan s t v w msg made old new answer same fits answers keeps views told = (
  fits.step,
  fits.reads,
  subst (λ m. Handles plan s m fits.step) same fits.handles,
  subst (λ m. AnswersReads plan v m fits.step fits.reads) same fits.answers_reads,
  record {
    answers = fits.answers ∙ answers;
    keeps = fits.keeps ∙ keeps;
    views = fits.views ∙ views;
    sends = told.0 ∙ ap (λ ms. old.messages ++ ms) fits.sends;
    decides = told.1 ∙ ap (λ ids. old.decided ++ ids) fits.decides;
    ran = told.2 ∙ ap (λ accesses. old.ran ++ accesses) fits.ran;
  },
)

-- groups, and reads, of the plan in equal states
pub groups_from : (plan : Plan) (s t : ServerState) → s ≡ t → AreGroupsOf plan t.started → AreGroupsOf plan s.started
groups_from plan s t is fits = subst (λ (u : ServerState). AreGroupsOf plan u.started) (sym is) fits

pub reads_from : (plan : Plan) (v w : Viewing) → v ≡ w → AreReadsOf plan w.reads → AreReadsOf plan v.reads
reads_from plan v w is fits = subst (λ (u : Viewing). AreReadsOf plan u.reads) (sym is) fits

-- what it is answered
pub made_answer : (plan : Plan) (shard : Shard) (k : ServerParts) (x : Views) (ahead : Option Ahead) (s : ServerState) (v : Viewing) (msg : Msg) (answer : Handled)
    → IsSome ahead × IfSome ahead (λ made. made.msg.value ≡ msg)
    → IfSome (option_map (made_ahead shard k x) ahead) (IsMadeFor plan s v)
    → IfSome ahead (λ made. made.outcome.answer ≡ answer)
    → (r : ServerStep) × Handles plan s msg r × (r.answer ≡ answer)
made_answer plan shard k x None s v msg answer (some, same) fits told = absurd (false≢true some)
made_answer plan shard k x (Some a) s v msg answer (some, same) fits told = (fits.step, subst (λ m. Handles plan s m fits.step) same fits.handles, fits.answers ∙ told)

-- where the room is there and the kind needs it, it was made for this message
pub room_is : (shard : Shard) (k : ServerParts) (x : Views) (ahead : Option Ahead) (outbox : Collected) (msg : Msg) → needs_room msg ≡ true → HasRoom (serving shard k x ahead) outbox msg
    → IfSome ahead (λ made. (made.msg.value ≡ msg) × HasRoomFor outbox made.outcome.sends) × IsSome ahead
room_is shard k x None outbox msg kind h = elim h [ inl none ↦ absurd (false≢true (sym none ∙ kind)) | inr all ↦ absurd (none-some all.made all.is) ]
room_is shard k x (Some a) outbox msg kind h =
    elim h [
      | inl none ↦ absurd (false≢true (sym none ∙ kind))
      | inr all ↦
          let is : made_ahead shard k x a ≡ all.made = cc in
          ((ap (λ (m : MadeAhead). m.msg) is ∙ all.of, subst (λ (m : MadeAhead). HasRoomFor outbox m.sends) (sym is) all.room), refl)
    ]

-- what was made for a message is found
pub found_made : (ahead : Option Ahead) (msg : Msg) (found : Bool) → IfSome ahead (λ made. made.msg.value ≡ msg → IsTrue found) → IsSome ahead × IfSome ahead (λ made. made.msg.value ≡ msg) → IsTrue found
found_made None msg found all (some, same) = absurd (false≢true some)
found_made (Some a) msg found all (some, same) = all same

-- where the room is there, it was made for this message, and there is room for what is sent
pub room_same : (ahead : Option Ahead) (msg : Msg) (outbox : Collected) → IfSome ahead (λ made. (made.msg.value ≡ msg) × HasRoomFor outbox made.outcome.sends) × IsSome ahead → IsSome ahead × IfSome ahead (λ made. made.msg.value ≡ msg)
room_same None msg outbox (h, some) = (some, tt)
room_same (Some a) msg outbox (h, some) = (some, h.0)

pub room_for : (ahead : Option Ahead) (msg : Msg) (outbox : Collected) → IfSome ahead (λ made. (made.msg.value ≡ msg) × HasRoomFor outbox made.outcome.sends) → IfSome ahead (λ made. HasRoomFor outbox made.outcome.sends)
room_for None msg outbox h = tt
room_for (Some a) msg outbox h = h.1

-- the room that was taken
pub has_room : (shard : Shard) (k : ServerParts) (x : Views) (ahead : Option Ahead) (outbox : Collected) (msg : Msg) → IsSome ahead × IfSome ahead (λ made. made.msg.value ≡ msg) → IfSome ahead (λ made. HasRoomFor outbox made.outcome.sends)
    → HasAllMade (serving shard k x ahead) outbox msg
has_room shard k x None outbox msg (some, same) room = absurd (false≢true some)
has_room shard k x (Some a) outbox msg (some, same) room = record { made = made_ahead shard k x a; is = refl; of = same; room = room }

-- the reads that stay, and those that stayed where a message was ignored
pub then_fit : (plan : Plan) (v : Viewing) (answer : Handled) (ran : List Ran) (stays : Option StayingReads) → AreReadsOf plan v.reads → AreReadsOf plan (reads_then v.reads stays) → AreReadsOf plan (viewing_then v answer ran stays).reads
then_fit plan v answer ran stays before after = go (is_taken answer)
  where
    go : (b : Bool) → AreReadsOf plan (if b then record { versions = with_accesses v.versions ran; reads = reads_then v.reads stays } else v).reads
    go true = after
    go false = before

-- ---- what was tried is made for its message

module _ (plan : Plan) (shard : Shard) (mid : ServerParts) (sound : IsSound mid) (msg : Msg) (answer : Handled) (s : ServerState) (v : Viewing) (none core sends : Collected)
    (step : IsStepFor plan s msg (state_behind shard mid) none core answer)
    (no_messages : none.messages ≡ []) (none_decided : none.decided ≡ []) (none_ran : none.ran ≡ []) (fits : AreGroupsOf plan (state_behind shard mid).started) where
  abbrev r : ServerStep
  r = step.0

  ran : core.ran ≡ accesses_of r.ran
  ran = step.2.ran ∙ ap (λ accesses. accesses ++ accesses_of r.ran) none_ran

  -- with what comes of it for reads
  pub made_for : (x : Views) (o : Outcome) → o ≡ record { answer = answer; sends = sends; stays = o.stays } → viewing_of x ≡ v → FindsReads plan (state_behind shard mid) v msg answer core sends o.stays
      → AreReadsOf plan (viewing_then v answer core.ran o.stays).reads → IsMadeFor plan s v (made_of shard mid x msg o)
  made_for x o is same reads reads_fit =
      let ids = sound.lists.later in
      let are = sound.lists.are_later in
      let q : ReadStep = reads_behind plan ids v msg r in
      let planned_q : ReadStep = read_step plan ids v msg answer (state_behind shard mid) core.ran in
      let q_is : q ≡ planned_q = λ i. read_step plan ids v msg (step.2.answers i) (step.2.keeps i) (sym ran i) in
      let told = reads.step ids are in
      let P : Outcome → Type 0 = λ o. IsMadeFor plan s v (made_of shard mid x msg o) in
      let then_is : viewing_then v answer core.ran o.stays ≡ viewing_then (viewing_of x) answer sends.ran o.stays =
      λ i. viewing_then (sym same i) answer (sym told.1.2 i) o.stays in
      subst P (sym is)
      (record {
        step = r;
        handles = step.1;
        reads = q;
        answers_reads = record { decided = ids; found = subst (λ (t : ServerState). AreDecided t.lists.links ids) (sym step.2.keeps) are; is = refl };
        answers = step.2.answers;
        keeps = step.2.keeps;
        views = ap (λ (q : ReadStep). q.viewing) q_is ∙ told.0 ∙ then_is;
        sends = told.1.0 ∙ (λ i. (step.2.sends ∙ ap (λ ms. ms ++ r.sends) no_messages) i ++ (sym q_is i).sends);
        decides = told.1.1 ∙ step.2.decides ∙ ap (λ ids. ids ++ r.decided) none_decided;
        ran = told.1.2 ∙ ran;
        groups = fits;
        views_fit = reads_from plan (viewing_then (viewing_of x) answer sends.ran o.stays) (viewing_then v answer core.ran o.stays) (sym then_is) reads_fit;
      })

-- what was made is for the message
made_parts : (plan : Plan) (shard : Shard) (k : ServerParts) (x : Views) (ahead : Option Ahead) (s : ServerState) (v : Viewing) (msg : Msg) → IsSome ahead
    → IfSome (option_map (made_ahead shard k x) ahead) (λ made. (made.msg ≡ msg) × IsMadeFor plan s v made)
    → IfSome ahead (λ made. made.msg.value ≡ msg) × IfSome (option_map (made_ahead shard k x) ahead) (IsMadeFor plan s v)
made_parts plan shard k x None s v msg some h = (tt, tt)
made_parts plan shard k x (Some a) s v msg some h = h

pub made_msg : {A E : Type 0} (done : Result A E) (plan : Plan) (shard : Shard) (k : ServerParts) (x : Views) (ahead : Option Ahead) (s : ServerState) (v : Viewing) (msg : Msg)
    → OnOk done (IfSome (option_map (made_ahead shard k x) ahead) (λ made. (made.msg ≡ msg) × IsMadeFor plan s v made)) → OnOk done (IsSome ahead) → OnOk done (IsSome ahead × IfSome ahead (λ made. made.msg.value ≡ msg))
made_msg (Ok a) plan shard k x ahead s v msg made some = (some, (made_parts plan shard k x ahead s v msg some made).0)
made_msg (Err e) plan shard k x ahead s v msg made some = tt

pub made_once : {A E : Type 0} (done : Result A E) (plan : Plan) (shard : Shard) (k : ServerParts) (x : Views) (ahead : Option Ahead) (s t : ServerState) (v : Viewing) (msg : Msg)
    → OnOk done (IfSome (option_map (made_ahead shard k x) ahead) (λ made. (made.msg ≡ msg) × IsMadeFor plan s v made)) → OnOk done (IsSome ahead) → OnErr done (ahead ≡ None)
    → (serving shard k x ahead).state ≡ s → s ≡ t → viewing_of x ≡ v → AreGroupsOf plan t.started → AreReadsOf plan v.reads → ServingFits plan (serving shard k x ahead)
made_once (Ok a) plan shard k x ahead s t v msg made some none is same views fits reads = (
  groups_from plan (serving shard k x ahead).state t (is ∙ same) fits,
  reads_from plan (viewing_of x) v views reads,
  subst (λ w. IfSome (option_map (made_ahead shard k x) ahead) (IsMadeFor plan (serving shard k x ahead).state w)) (sym views)
      (subst (λ u. IfSome (option_map (made_ahead shard k x) ahead) (IsMadeFor plan u v)) (sym is) (made_parts plan shard k x ahead s v msg some made).1),
)
made_once (Err e) plan shard k x ahead s t v msg made some none is same views fits reads = (
  groups_from plan (serving shard k x ahead).state t (is ∙ same) fits,
  reads_from plan (viewing_of x) v views reads,
  subst (λ a. IfSome (option_map (made_ahead shard k x) a) (IsMadeFor plan (serving shard k x ahead).state (viewing_of x))) (sym none) tt,
)
