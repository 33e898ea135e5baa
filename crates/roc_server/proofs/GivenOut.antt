-- What was made ahead is given out, or given up
use Rattle.std.proofs.Common.{◌≡◌, ◌++◌, Option, Some, None, IfSome, refl, sym, ap, subst, ◌∙◌, inl, inr}
use Rattle.std.proofs.lemmas.Option.{none-some}
use Rattle.roc_base.specs.declared.node.Shard.{Shard}
use Rattle.roc_msg.specs.declared.msg.Msg.{Msg}
use Rattle.roc_msg.specs.Outbox.{Collected, HasRoomFor, HoldsAlso, HoldsSame}
use Rattle.roc_plan.specs.Groups.{Plan}
use Rattle.roc_server.specs.declared.ahead.Ahead.{Ahead}
use Rattle.roc_server.specs.declared.parts.ServerParts.{ServerParts}
use Rattle.roc_server_reads.specs.declared.views.Views.{Views}
use Rattle.roc_server.specs.Ahead.{HasRoom, HasRoomToTake, IsMadeFor, IsReady, ServingFits}
use Rattle.roc_server.specs.Inner.AtOnce.{at_once}
use Rattle.roc_server.specs.Inner.Held.{made_ahead, serving, CanCount, IsHeld, IsServed}
use Rattle.roc_server_reads.specs.Views.{viewing_of, viewing_then}
use Rattle.roc_server.specs.Inner.Parts.{state_behind, state_of}
use Rattle.roc_server.specs.State.{MadeAhead, Serving}
use Rattle.roc_step.specs.declared.handled.Handled.{Handled}
use Rattle.roc_step.specs.Fits.{AreGroupsOf, AreReadsOf}
use Rattle.roc_step.specs.Reads.{AnswersReads}
use Rattle.roc_step.specs.Runs.{accesses_of}
use Rattle.roc_step.specs.State.{ServerState, Viewing}
use Rattle.roc_step.specs.Step.{Handles}
use Rattle.roc_server.proofs.AtOnce.{served_at_once}
use Rattle.roc_server.proofs.MadeSteps.{groups_from, idle_fits, reads_from, served}

-- ---- nothing is made ahead

module _ (shard : Shard) (k : ServerParts) (x : Views) (ahead : Option Ahead) (none : ahead ≡ None) where
  pub idle_count : CanCount x ahead
  idle_count = subst (CanCount x) (sym none) tt

  pub idle_ahead : (serving shard k x ahead).ahead ≡ None
  idle_ahead = ap (λ a. (serving shard k x a).ahead) none

-- what was made ahead is given up, and the server is of the plan as before
pub let_go_fits : (plan : Plan) (shard : Shard) (k : ServerParts) (x : Views) (ahead : Option Ahead) (s : ServerState) → ahead ≡ None → state_of shard k ≡ s → AreGroupsOf plan s.started → AreReadsOf plan x.reads.items → ServingFits plan (serving shard k x ahead)
let_go_fits plan shard k x ahead s none same groups reads = idle_fits plan shard k x ahead none (groups_from plan (state_of shard k) s same groups) reads

-- ---- it is given out

module _ (plan : Plan) (shard : Shard) (k new : ServerParts) (x y : Views) (ahead : Option Ahead) (a : Ahead) (is : Some a ≡ ahead) (answer : Handled) (old sent : Collected) (answers : a.outcome.answer ≡ answer)
    (reached : (h : Shard) → state_of h new ≡ state_behind h k) (views : viewing_of y ≡ viewing_then (viewing_of x) a.outcome.answer a.outcome.sends.ran a.outcome.stays) (fits : ServingFits plan (serving shard k x ahead)) where
  abbrev made : MadeAhead
  made = made_ahead shard k x a

  made_fits : IsMadeFor plan (serving shard k x (Some a)).state (viewing_of x) made
  made_fits = (subst (λ o. ServingFits plan (serving shard k x o)) (sym is) fits).2

  -- it is for the message that was made ready
  of_message : (msg : Msg) → IsReady (serving shard k x (Some a)) old msg → made.msg ≡ msg
  of_message msg ready =
      elim ready [
        | inl none ↦ absurd (none-some made (sym none.1))
        | inr all ↦ let same : made ≡ all.made = cc in ap (λ (m : MadeAhead). m.msg) same ∙ all.of
      ]

  pub given_step : (msg : Msg) → IsReady (serving shard k x ahead) old msg → HoldsAlso old sent a.outcome.sends
      → IsServed plan (serving shard k x ahead).state (viewing_of x) msg answer (state_of shard new) (viewing_of y) old sent
  given_step msg ready told =
      let now = subst (λ o. IsReady (serving shard k x o) old msg) (sym is) ready in
      subst (λ o. IsServed plan (serving shard k x o).state (viewing_of x) msg answer (state_of shard new) (viewing_of y) old sent) is
      (served plan (serving shard k x (Some a)).state (state_of shard new) (viewing_of x) (viewing_of y) msg made old sent answer (of_message msg now) made_fits answers (sym (reached shard)) (sym views) told)

  pub given_fits : (later : Option Ahead) → later ≡ None → ServingFits plan (serving shard new y later)
  given_fits later none =
      idle_fits plan shard new y later none (groups_from plan (state_of shard new) made.state (reached shard) made_fits.groups) (reads_from plan (viewing_of y) made.viewing views made_fits.views_fit)

-- nothing was made ahead: the message was of a kind that no server takes
pub given_at_once : (plan : Plan) (shard : Shard) (k : ServerParts) (x : Views) (ahead : Option Ahead) (none : None ≡ ahead) (held : IsHeld k ahead) (msg : Msg) (out : Collected) (answer : Handled)
    → ((s : ServerState) → (at_once s).answer ≡ answer) → IsReady (serving shard k x ahead) out msg
    → IsServed plan (serving shard k x ahead).state (viewing_of x) msg answer (state_of shard k) (viewing_of x) out out
given_at_once plan shard k x ahead none held msg out answer answers ready =
    subst (λ o. IsServed plan (serving shard k x o).state (viewing_of x) msg answer (state_of shard k) (viewing_of x) out out) none
    (elim (subst (λ o. IsReady (serving shard k x o) out msg) (sym none) ready) [
      | inl at ↦ served_at_once plan (state_of shard k) k.lists.decided held.sound.lists.decided msg at.0 (viewing_of x) out answer (answers (state_of shard k))
      | inr all ↦ absurd (none-some all.made all.is)
    ])

-- ---- clauses of a server

-- a step from equal states, and from an outbox that holds the same
pub served_from : (plan : Plan) (mid s : ServerState) (w v : Viewing) (msg : Msg) (answer : Handled) (state : ServerState) (viewing : Viewing) (old now new : Collected) → mid ≡ s → w ≡ v → HoldsSame old now
    → IsServed plan mid w msg answer state viewing now new → IsServed plan s v msg answer state viewing old new
served_from plan mid s w v msg answer state viewing old now new e f same comes =
    let r = comes.0 in
    let q = comes.1 in
    let shown = comes.4 in (
      r,
      q,
      subst (λ t. Handles plan t msg r) e comes.2,
      subst (λ u. AnswersReads plan u msg r q) f comes.3,
      record {
        answers = shown.answers;
        keeps = shown.keeps;
        views = shown.views;
        sends = shown.sends ∙ ap (λ ms. ms ++ (r.sends ++ q.sends)) same.0;
        decides = shown.decides ∙ ap (λ ids. ids ++ r.decided) same.1;
        ran = shown.ran ∙ ap (λ accesses. accesses ++ accesses_of r.ran) same.2;
      },
    )

-- the room for what was made ahead is there
pub room_to_take : (v : Serving) (outbox : Collected) (msg : Msg) → IsReady v outbox msg → HasRoomToTake v outbox
room_to_take v outbox msg ready = go v.ahead refl
  where
    go : (o : Option MadeAhead) → v.ahead ≡ o → IfSome o (λ made. HasRoomFor outbox made.sends)
    go None e = tt
    go (Some made) e =
        elim ready [
          | inl none ↦ absurd (none-some made (sym none.1 ∙ e))
          | inr all ↦ let same : all.made ≡ made = cc in subst (λ (m : MadeAhead). HasRoomFor outbox m.sends) same all.room
        ]

pub room_when_ready : (v : Serving) (outbox : Collected) (msg : Msg) → IsReady v outbox msg → HasRoom v outbox msg
room_when_ready v outbox msg ready = elim ready [ inl none ↦ inl none.0 | inr all ↦ inr all ]

-- in code's terms
pub room_of_ahead : (shard : Shard) (k : ServerParts) (x : Views) (ahead : Option Ahead) (outbox : Collected) → HasRoomToTake (serving shard k x ahead) outbox → IfSome ahead (λ made. HasRoomFor outbox made.outcome.sends)
room_of_ahead shard k x None outbox h = tt
room_of_ahead shard k x (Some a) outbox h = h
