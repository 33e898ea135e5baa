-- What is over was answered, and what is kept is not over
use Rattle.std.proofs.Common.{◌≡◌, ◌<◌, ℕ, ℤ, Bool, true, false, not, ◌&&◌, if◌then◌else◌, List, [], ◌∷◌, ◌++◌, Option, Some, None, map, refl, sym, ap, subst, ◌∙◌, inl, inr}
use Rattle.std.proofs.lemmas.Bool.{false≢true, and_parts, and_from, not-true, not_from_false, false_from_ne_true}
use Rattle.std.proofs.lemmas.List.{append_cancel_left}
use Rattle.std.specs.Prelude.{slice_get, ◌↔◌}
use Rattle.roc_sequence.specs.Lists.{Has}
use Rattle.roc_sequence.proofs.Holds.{every_has}
use Rattle.roc_sequence.proofs.Members.{has_map, from_has_map, has_one, same_there}
use Rattle.roc_base.specs.declared.id.TxnId.{TxnId}
use Rattle.roc_base.specs.declared.node.Node.{Node}
use Rattle.roc_base.specs.declared.node.Node.TheVariants.{Server}
use Rattle.roc_base.specs.declared.node.Shard.{Shard}
use Rattle.roc_base.specs.Edge.{Dependency}
use Rattle.roc_depgraph.specs.declared.known.KnownList.{KnownList}
use Rattle.roc_depgraph.specs.Deps.{list_of, entries_of, IsDecided}
use Rattle.roc_component.proofs.Relations.{mates_weaker}
use Rattle.roc_msg.specs.declared.msg.Msg.{Msg}
use Rattle.roc_msg.specs.declared.msg.Msg.TheVariants.{Fetch, Settled}
use Rattle.roc_msg.specs.declared.msg.Envelope.{Envelope}
use Rattle.roc_msg.specs.declared.outbox.Outgoing.{Outgoing}
use Rattle.roc_plan.specs.Groups.{Plan}
use Rattle.roc_whole.specs.Serial as whole
use Rattle.roc_law_log.specs.Scheme.{Scheme}
use Rattle.roc_law_log.specs.Log.{Log, PrecedesTxn, PrecedesGroup}
use Rattle.roc_law_log.specs.Settled.{IsSettled}
use Rattle.roc_step.specs.Below.{is_ended, mark_of}
use Rattle.roc_step.specs.Forgets.{is_over}
use Rattle.roc_step.specs.State.{answered, ignored, is_here, find_group, ServerState, ServerStep}
use Rattle.roc_msg.specs.declared.reason.Reason.TheVariants.{NotHere}
use Rattle.roc_step.specs.Carried.{list_with}
use Rattle.roc_step.specs.Asking.{known_to}
use Rattle.roc_step.specs.Lists.{fetch_taken, settled_to, after_fetch}
use Rattle.roc_audit.specs.History.{WasAnswered}
use Rattle.roc_law_protocol.specs.Beginnings.{Beginning}
use Rattle.roc_law_protocol.specs.World.{World, mark_delivered, sent_by}
use Rattle.roc_law_protocol.specs.Happens.{Outcome, IsReceived}
use Rattle.roc_law_protocol.specs.Quiet.{PrecedesIn}
use Rattle.roc_law_protocol.specs.Run.{Stepped}
use Rattle.roc_law_protocol.specs.Forgotten.{IsSettledIn, IsFirstTaken, IsLastTaken}
use Rattle.roc_law_protocol.proofs.Means.{IsOther, run_of, place, Began, HasBegun, Means, ServerMeans, WorldMeans}
use Rattle.roc_law_protocol.proofs.Followed.{entry_followed}
use Rattle.roc_law_protocol.proofs.FirstTaken.{last_step}
use Rattle.roc_law_protocol.proofs.KeptRuns.{KeptHere, AreKeptIn}

-- ---- what is answered to a fetch

-- it has no group here, and is below a watermark
abbrev pub is_gone_test : ServerState → TxnId → Bool
is_gone_test s t = not (is_here t s.started) && is_ended s.below t

pub settles : (s : ServerState) (t : TxnId) (asker : Shard) → is_gone_test s t ≡ true → Has (settled_to s t asker) (after_fetch s t asker).sends
settles s t asker h = go (is_gone_test s t) h
  where
    go : (b : Bool) → b ≡ true → Has (settled_to s t asker) (if b then answered s (settled_to s t asker ∷ []) else (if is_here t s.started then fetch_taken s t asker (list_of t s.lists.known) else ignored s NotHere)).sends
    go true e = inl refl
    go false e = absurd (false≢true e)

pub settles_only : (s : ServerState) (t : TxnId) (asker : Shard) (out : Outgoing) (u : TxnId) (mark : ℕ) → Has out (after_fetch s t asker).sends → out.msg ≡ Settled u mark → is_gone_test s t ≡ true
settles_only s t asker out u mark h is = go (is_gone_test s t) refl h
  where
    taken : (x : Option (List Dependency)) → ¬ Has out (fetch_taken s t asker x).sends
    taken (Some edges) k = let e = ap (λ (out : Outgoing). out.msg) (has_one out (known_to (list_with t edges) (record { id = t; shard = asker })) k) in absurd (cc)
    taken None k = k

    here : (b : Bool) → ¬ Has out (if b then fetch_taken s t asker (list_of t s.lists.known) else ignored s NotHere).sends
    here true k = taken (list_of t s.lists.known) k
    here false k = k

    go : (b : Bool) → is_gone_test s t ≡ b
        → Has out (if b then answered s (settled_to s t asker ∷ []) else (if is_here t s.started then fetch_taken s t asker (list_of t s.lists.known) else ignored s NotHere)).sends
        → is_gone_test s t ≡ true
    go true e k = e
    go false e k = absurd (here (is_here t s.started) k)

-- ---- in a world that a log explains

module _ (plan : Plan) (asked : TxnId → whole.Call) (S : Scheme) (start : Beginning) (log : Log) (w : World) (o : WorldMeans plan asked S start log w) where
  precedes : (u t : TxnId) → PrecedesIn w.sent u t → PrecedesTxn S start.store log.past u t
  precedes u t p =
      let m = subst (λ (msg : Msg). Means plan asked S start log msg p.told.message.to) p.told.is (o.messages p.told.message p.told.has) in
      record { second = run_of t p.group; of_second = refl; by = subst (λ u. PrecedesGroup S start.store log.past u (run_of t p.group)) p.from (m.0.edges.sound p.entry p.listed).0 }

  -- what nobody has to wait for was answered, with all of its component
  pub settled_in : (t : TxnId) → IsSettled S start.store log t → IsSettledIn w t
  settled_in t z u m = (o.answers u).0 (z u (mates_weaker (PrecedesIn w.sent) (PrecedesTxn S start.store log.past) precedes t u m))

  -- and so was what is said to be settled, and what is below the watermark that is told
  pub sent_settled : (m : Envelope) (t : TxnId) (mark : ℕ) → Has m w.sent → m.msg ≡ Settled t mark
      → IsSettledIn w t × ((seq : ℕ) → ¬ IsOther asked start (record { coord = t.coord; seq = seq }) → seq < mark → (reply : List ℤ) × WasAnswered w.history (record { coord = t.coord; seq = seq }) reply)
  sent_settled m t mark has is =
      let k = subst (λ (msg : Msg). Means plan asked S start log msg m.to) is (o.messages m has) in
      (settled_in t k.0, λ seq own l. elim (k.1 seq l) [ inl h ↦ (o.answers (record { coord = t.coord; seq = seq })).0 h | inr other ↦ absurd (own other) ])

  module _ (steps : List Stepped) (a : AreKeptIn plan asked S start w log steps) (shard : Shard) (s : ServerState) (there : slice_get w.servers shard.0 ≡ Some s) where
    mine : ServerMeans plan asked S start log shard.0 s
    mine = o.servers shard.0 s there

    kept : KeptHere plan asked S start log steps shard.0 s
    kept = a.kept shard.0 s there

    -- what is decided here is in a component that it took, and that is not over
    pub decided_is_kept : (t : TxnId) → IsDecided s.lists.links t ↔ ((c : List TxnId) × IsLastTaken steps shard t c × (is_over s.below c ≡ false))
    decided_is_kept t = (
      λ d. (let c = mine.taken.all t d in (c.0, kept.kept_last c.0 t c.1 c.2, kept.none_over c.0 c.1)),
      λ (c, l, e). elim (kept.last_kept c t l) [ inl h ↦ mine.taken.decided c t h l.member | inr r ↦ absurd (false≢true (sym e ∙ r.0)) ],
    )

    -- what is over is gone
    pub over_is_gone : (t : TxnId) (c : List TxnId) → IsLastTaken steps shard t c → is_over s.below c ≡ true → (is_here t s.started ≡ false) × (¬ IsDecided s.lists.links t) × IsSettledIn w t
    over_is_gone t c l e = elim (mine.decided t (a.taken.decided l.step shard c t (last_step steps shard t c l) l.taken l.member)) [
      | inl d ↦ absurd (undecided d)
      | inr f ↦ (f.gone.nowhere, undecided, settled_in t f.settled)
    ]
      where
        undecided : ¬ IsDecided s.lists.links t
        undecided d = elim (kept.last_kept c t l) [
          | inl h ↦ false≢true (sym (kept.none_over c h) ∙ e)
          | inr r ↦ (let q = mine.taken.all t d in r.1 q.0 q.1 q.2)
        ]

    -- of what had a group here, it is gone exactly where the first component that was taken with it is over
    pub gone_is_over : (t : TxnId) → HasBegun plan asked S start log t shard.0 → (is_gone_test s t ≡ true) ↔ ((c : List TxnId) × IsFirstTaken steps shard t c × (is_over s.below c ≡ true))
    gone_is_over t begun = (
      λ g.
          (let p = and_parts (not (is_here t s.started)) (is_ended s.below t) g in
          let away = not-true (is_here t s.started) p.0 in
          let f = a.taken.first shard t (mine.forgot t begun (record { nowhere = away; ended = p.1 })).0 in
          (f.0, f.1, kept.first_over f.0 t f.1 begun away)),
      λ (c, f, e).
          and_from (not (is_here t s.started)) (is_ended s.below t)
          (not_from_false (is_here t s.started) (false_from_ne_true (is_here t s.started) (λ h. false≢true (sym (kept.none_over c (kept.first_kept c t f h)) ∙ e))))
          (every_has (is_ended s.below) c e t f.member),
    )

    -- and a group that began here stands here no more only where that is so: then nothing of its transaction stands here, which is settled
    pub vanished_over : (t : TxnId) (g : ℕ) → Began plan asked S start log (run_of t g) → place plan asked S start log (run_of t g) ≡ shard.0 → find_group t g s.started ≡ None
        → (is_here t s.started ≡ false) × IsSettledIn w t × ((c : List TxnId) × IsFirstTaken steps shard t c × (is_over s.below c ≡ true))
    vanished_over t g began on none = elim (mine.groups.finds (run_of t g) began on) [
      | inl f ↦ absurd (let found : None ≡ Some f.0 = sym none ∙ f.1 in absurd (cc))
      | inr gone ↦
          (let begun : HasBegun plan asked S start log t shard.0 = record { group = g; began = began; on = on } in
          let test = and_from (not (is_here t s.started)) (is_ended s.below t) (not_from_false (is_here t s.started) gone.nowhere) gone.ended in
          (gone.nowhere, settled_in t (mine.forgot t begun gone).1, (gone_is_over t begun).0 test))
    ]

    -- so it is as a fetch of it comes
    pub fetch_is_answered : (m : Envelope) (t : TxnId) (asker : Shard) (k : ℕ) (v : Outcome) (more : List Envelope) → Has m w.sent → m.to ≡ Server shard → m.msg ≡ Fetch t asker
        → IsReceived plan (mark_delivered w k) m.msg m.to v → v.world.sent ≡ w.sent ++ more
        → ((mark : ℕ) × (e : Envelope) × Has e more × (e.msg ≡ Settled t mark)) ↔ ((c : List TxnId) × IsFirstTaken steps shard t c × (is_over s.below c ≡ true))
    fetch_is_answered m t asker k v more has to is h on = go (subst (λ (n : Node). IsReceived plan (mark_delivered w k) (Fetch t asker) n v) to (subst (λ (msg : Msg). IsReceived plan (mark_delivered w k) msg m.to v) is h))
      where
        begun : HasBegun plan asked S start log t shard.0
        begun = subst (λ (n : Node). Means plan asked S start log (Fetch t asker) n) to (subst (λ (msg : Msg). Means plan asked S start log msg m.to) is (o.messages m has))

        go : IsReceived plan (mark_delivered w k) (Fetch t asker) (Server shard) v
            → ((mark : ℕ) × (e : Envelope) × Has e more × (e.msg ≡ Settled t mark)) ↔ ((c : List TxnId) × IsFirstTaken steps shard t c × (is_over s.below c ≡ true))
        go (u, r, at, step, comes) = (
          λ (mark, e, q, told).
              (let x = from_has_map (sent_by (Server shard)) e r.sends (subst (Has e) more_is q) in
              let out : Has x.0 (after_fetch s t asker).sends = subst (λ (r : ServerStep). Has x.0 r.sends) r_is x.1 in
              (gone_is_over t begun).0 (settles_only s t asker x.0 t mark out (sym (ap (λ (e : Envelope). e.msg) x.2) ∙ told))),
          λ c.
              (let out = settles s t asker ((gone_is_over t begun).1 c) in (
                mark_of s.below t.coord,
                sent_by (Server shard) (settled_to s t asker),
                subst (Has (sent_by (Server shard) (settled_to s t asker))) (sym more_is) (has_map (sent_by (Server shard)) (settled_to s t asker) r.sends (subst (λ (r : ServerStep). Has (settled_to s t asker) r.sends) (sym r_is) out)),
                refl,
              )),
        )
          where
            r_is : r ≡ after_fetch s t asker
            r_is = step.is ∙ ap (λ (u : ServerState). after_fetch u t asker) (same_there w.servers shard.0 u s at there)

            more_is : more ≡ map (sent_by (Server shard)) r.sends
            more_is = append_cancel_left w.sent more (map (sent_by (Server shard)) r.sends) (sym on ∙ ap (λ (v : Outcome). v.world.sent) comes)

    -- an entry that is not followed names what is settled
    pub done_is_settled : (k : KnownList) (d : Dependency) → entries_of s.lists.known k.of ≡ k.edges → Has d k.edges → ¬ Has d (entries_of s.lists.links k.of) → IsSettledIn w d.from
    done_is_settled k d same h none = elim (entry_followed (IsSettled S start.store log) s.lists.known s.lists.links mine.links k.of d (subst (Has d) (sym same) h)) [
      | inl l ↦ absurd (none l)
      | inr z ↦ settled_in d.from z
    ]
