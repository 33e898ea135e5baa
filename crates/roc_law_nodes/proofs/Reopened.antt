-- A server's node that is opened on the records of the world's server at a stop goes on as the world's server does
use Rattle.std.proofs.Common.{◌≡◌, List, [], ◌∷◌, ◌++◌, Option, Some, None, refl, sym, ap, subst, ◌∙◌, append-nil, append_assoc}
use Rattle.std.specs.Prelude.{filter}
use Rattle.roc_sequence.proofs.Appended.{empty_more, same_more}
use Rattle.roc_base.specs.declared.node.Shard.{Shard}
use Rattle.roc_msg.specs.declared.msg.Msg.{Msg}
use Rattle.roc_msg.specs.declared.outbox.Outgoing.{Outgoing}
use Rattle.roc_plan.specs.Groups.{Plan}
use Rattle.roc_step.specs.First.{first_server}
use Rattle.roc_step.specs.Reads.{first_viewing}
use Rattle.roc_step.specs.Restarts.{cut_short, cut_reads, IsKeptFold, StandsFor}
use Rattle.roc_step.specs.State.{ServerState, Viewing}
use Rattle.roc_step.specs.Step.{tick_sends}
use Rattle.roc_law_protocol.specs.declared.event.Kept.{Kept}
use Rattle.roc_law_protocol.specs.declared.event.Kept.TheVariants.{Lost, Sent}
use Rattle.roc_law_nodes.specs.Own.{OwnEvent, stopped}
use Rattle.roc_law_nodes.specs.Fold.{ServerSteps, IsServerFoldFrom, IsServerFold, server_begun, server_goes_on}
use Rattle.roc_law_nodes.specs.Turns.{is_for_core}
use Rattle.roc_law_nodes.proofs.WorldFolds.{server_as}
use Rattle.roc_law_nodes.proofs.ServerFolds.{without_stops}

-- a list that is not empty, with its last apart
ends_in : {A : Type 0} (x : A) (xs : List A) → (front : List A) × (last : A) × (x ∷ xs ≡ front ++ last ∷ [])
ends_in x [] = ([], x, refl)
ends_in {A} x (y ∷ ys) = let r = ends_in y ys in (x ∷ r.0, r.1, ap (λ (zs : List A). x ∷ zs) r.2)

-- ---- a fold in parts

module _ (plan : Plan) (first : ServerState) (keeps : Viewing) (before : List Outgoing) where
  -- of events behind others, the fold goes on from where those lead
  pub parted : {all : List OwnEvent} {s : ServerState} {v : Viewing} {messages : List Outgoing} → IsServerFoldFrom plan first keeps before all s v messages
      → (front behind : List OwnEvent) → all ≡ front ++ behind
      → (t : ServerState) × (u : Viewing) × (sent : List Outgoing) × IsServerFoldFrom plan first keeps before front t u sent × IsServerFoldFrom plan t u sent behind s v messages
  parted {s = s} {v = v} {messages = messages} fold front [] e = (s, v, messages, server_as plan fold (sym (e ∙ append-nil front)) refl refl refl, server_begun)
  parted server_begun front (x ∷ xs) e =
      let r = ends_in x xs in
      absurd (empty_more (front ++ r.0) r.1 (e ∙ ap (λ (l : List OwnEvent). front ++ l) r.2 ∙ sym (append_assoc front r.0 (r.1 ∷ []))))
  parted (server_goes_on {events = events} own after kept outs fold h) front (x ∷ xs) e =
      let r = ends_in x xs in
      let ends : (events ≡ front ++ r.0) × (own ≡ r.1) =
      same_more events (front ++ r.0) own r.1 (e ∙ ap (λ (l : List OwnEvent). front ++ l) r.2 ∙ sym (append_assoc front r.0 (r.1 ∷ []))) in
      let parts = parted fold front r.0 ends.0 in (
        parts.0,
        parts.1,
        parts.2,
        parts.3,
        server_as plan (server_goes_on own after kept outs parts.4 h) (r.2 ∙ ap (λ (o : OwnEvent). r.0 ++ o ∷ []) (sym ends.1)) refl refl refl,
      )

  -- what was sent before stands before all
  pub since : (other : List Outgoing) {events : List OwnEvent} {s : ServerState} {v : Viewing} {messages : List Outgoing} → IsServerFoldFrom plan first keeps before events s v messages
      → (more : List Outgoing) × (messages ≡ before ++ more) × IsServerFoldFrom plan first keeps other events s v (other ++ more)
  since other server_begun = ([], sym (append-nil before), server_as plan server_begun refl refl refl (append-nil other))
  since other (server_goes_on own after kept outs fold h) =
      let r = since other fold in
      (r.0 ++ outs, ap (λ (l : List Outgoing). l ++ outs) r.1 ∙ append_assoc before r.0 outs, server_as plan (server_goes_on own after kept outs r.2 h) refl refl refl (sym (append_assoc other r.0 outs)))

-- ---- a stop

module _ (plan : Plan) where
  -- it ends with a tick, and no read is kept
  stop_ends : (s : ServerState) (v : Viewing) (at : Option (Msg × Kept)) (after : ServerState) (kept : Viewing) (outs : List Outgoing) → ServerSteps plan s v (stopped at) after kept outs
      → (cut : List Outgoing) × (outs ≡ cut ++ tick_sends after) × (kept.reads ≡ [])
  stop_ends s v None after kept outs (is, views, sends) = ([], sends ∙ ap tick_sends (sym is), ap (λ (v : Viewing). v.reads) views)
  stop_ends s v (Some (msg, Lost)) after kept outs (is, views, sends) = ([], sends ∙ ap tick_sends (sym is), ap (λ (v : Viewing). v.reads) views)
  stop_ends s v (Some (msg, Sent many)) after kept outs (r, q, handles, answers, is, views, sends) =
      let cut = (cut_short many r).sends ++ (cut_reads many r q).sends in
      (cut, sends ∙ ap (λ (s : ServerState). cut ++ tick_sends s) (sym is), ap (λ (v : Viewing). v.reads) views)

  pub stop_last : {first : ServerState} {keeps : Viewing} {before : List Outgoing} {all : List OwnEvent} {t : ServerState} {u : Viewing} {sent : List Outgoing}
      → IsServerFoldFrom plan first keeps before all t u sent → (front : List OwnEvent) (at : Option (Msg × Kept)) → all ≡ front ++ stopped at ∷ []
      → (early : List Outgoing) × (sent ≡ early ++ tick_sends t) × (u.reads ≡ [])
  stop_last server_begun front at e = absurd (empty_more front (stopped at) e)
  stop_last (server_goes_on {events = events} {s = s} {v = v} {messages = messages} own after kept outs fold h) front at e =
      let ends : (events ≡ front) × (own ≡ stopped at) = same_more events front own (stopped at) e in
      let r = stop_ends s v at after kept outs (subst (λ (o : OwnEvent). ServerSteps plan s v o after kept outs) ends.1 h) in
      (messages ++ r.0, ap (λ (l : List Outgoing). messages ++ l) r.1 ∙ sym (append_assoc messages r.0 (tick_sends after)), r.2)

-- ---- what is kept

same_viewing : (v u : Viewing) → v.versions ≡ u.versions → v.reads ≡ u.reads → v ≡ u
same_viewing v u versions reads i = record { versions = versions i; reads = reads i }

-- two that stand for the same records, neither of which keeps a read, are one
pub one_standing : (plan : Plan) (shard : Shard) → ((msgs : List Msg) (s t : ServerState) (v u : Viewing) → IsKeptFold plan shard msgs s v → IsKeptFold plan shard msgs t u → (s ≡ t) × (v ≡ u))
    → (records : List Msg) (s t : ServerState) (v u : Viewing) → StandsFor plan shard records s v → StandsFor plan shard records t u → v.reads ≡ [] → u.reads ≡ [] → (s ≡ t) × (v ≡ u)
one_standing plan shard one records s t v u a b none none_too =
    let same = one records s t a.viewing b.viewing a.fold b.fold in
    (same.0, same_viewing v u (a.versions ∙ (ap (λ (x : Viewing). x.versions) same.1 ∙ sym b.versions)) (none ∙ sym none_too))

-- ---- a node that is opened where the world's server starts again

-- where it comes to what the world's comes to, it sent what this sent behind the stop, from its tick on
pub record GoesOnAs (s : ServerState) (v : Viewing) (messages : List Outgoing) (state : ServerState) (viewing : Viewing) (own : List Outgoing) : Type 0 where
  pub state_is : state ≡ s
  pub viewing_is : viewing ≡ v
  pub early : List Outgoing
  pub messages_are : messages ≡ early ++ own

module _ (plan : Plan) (shard : Shard)
    (one_fold : (first : ServerState) (keeps : Viewing) (before : List Outgoing) (events : List OwnEvent) (s t : ServerState) (v u : Viewing) (messages more : List Outgoing)
    → IsServerFoldFrom plan first keeps before events s v messages → IsServerFoldFrom plan first keeps before events t u more → (s ≡ t) × (v ≡ u) × (messages ≡ more))
    (one_kept : (msgs : List Msg) (s t : ServerState) (v u : Viewing) → IsKeptFold plan shard msgs s v → IsKeptFold plan shard msgs t u → (s ≡ t) × (v ≡ u)) where
  pub reopened : (front behind : List OwnEvent) (at : Option (Msg × Kept)) (s : ServerState) (v : Viewing) (messages : List Outgoing)
      → IsServerFold plan shard (front ++ stopped at ∷ behind) s v messages
      → (records : List Msg) (t : ServerState) (u : Viewing) (sent : List Outgoing) → IsServerFold plan shard (front ++ stopped at ∷ []) t u sent → StandsFor plan shard records t u
      → (opened : ServerState) (kept : Viewing) → StandsFor plan shard records opened kept → kept.reads ≡ []
      → (state : ServerState) (viewing : Viewing) (own : List Outgoing) → IsServerFoldFrom plan opened kept (tick_sends opened) (filter is_for_core behind) state viewing own
      → GoesOnAs s v messages state viewing own
  reopened front behind at s v messages world records t u sent stops stands opened kept holds none state viewing own ran =
      let first = first_server plan shard in
      let parts = parted plan first first_viewing [] world (front ++ stopped at ∷ []) behind (sym (append_assoc front (stopped at ∷ []) behind)) in
      let there : (parts.0 ≡ t) × (parts.1 ≡ u) × (parts.2 ≡ sent) = one_fold first first_viewing [] (front ++ stopped at ∷ []) parts.0 t parts.1 u parts.2 sent parts.3 stops in
      let last = stop_last plan stops front at refl in
      let same : (opened ≡ t) × (kept ≡ u) = one_standing plan shard one_kept records opened t kept u holds stands none last.2 in
      let start : (parts.0 ≡ opened) × (parts.1 ≡ kept) = (there.0 ∙ sym same.0, there.1 ∙ sym same.1) in
      let later = since plan parts.0 parts.1 parts.2 (tick_sends opened) (without_stops plan parts.0 parts.1 parts.2 parts.4) in
      let begun = tick_sends opened in
      let moved = subst (λ (x : Viewing). IsServerFoldFrom plan opened x begun (filter is_for_core behind) s v (begun ++ later.0)) start.1
      (subst (λ (x : ServerState). IsServerFoldFrom plan x parts.1 begun (filter is_for_core behind) s v (begun ++ later.0)) start.0 later.2) in
      let one = one_fold opened kept begun (filter is_for_core behind) state s viewing v own (begun ++ later.0) ran moved in
      record {
        state_is = one.0;
        viewing_is = one.1;
        early = last.0;
        messages_are = later.1
            ∙ (ap (λ (l : List Outgoing). l ++ later.0) (there.2 ∙ (last.1 ∙ ap (λ (x : ServerState). last.0 ++ tick_sends x) (sym same.0)))
            ∙ (append_assoc last.0 begun later.0 ∙ ap (λ (l : List Outgoing). last.0 ++ l) (sym one.2)));
      }
