-- What is forgotten was answered, in every run
use Rattle.std.proofs.Common.{◌≡◌, ◌<◌, ◌-◌, ℕ, ℤ, true, false, List, [], ◌++◌, Some, None, sym, subst, ◌∙◌, inl, inr, arith}
use Rattle.std.proofs.lemmas.Bool.{false≢true}
use Rattle.std.specs.Prelude.{slice_get, ◌↔◌}
use Rattle.roc_sequence.specs.Lists.{Has}
use Rattle.roc_sequence.specs.Places.{IsListed}
use Rattle.roc_sequence.proofs.Members.{has_at, same_there}
use Rattle.roc_base.specs.declared.id.TxnId.{TxnId}
use Rattle.roc_base.specs.declared.node.Node.TheVariants.{Server}
use Rattle.roc_base.specs.declared.node.Shard.{Shard}
use Rattle.roc_base.specs.TxnId.{is_txn}
use Rattle.roc_base.specs.Edge.{Dependency}
use Rattle.roc_depgraph.specs.declared.known.KnownList.{KnownList}
use Rattle.roc_depgraph.specs.Deps.{entries_of, IsDecided}
use Rattle.roc_msg.specs.declared.msg.Msg.{Msg}
use Rattle.roc_msg.specs.declared.msg.Msg.TheVariants.{StartOk, Fetch, Settled}
use Rattle.roc_msg.specs.declared.msg.Envelope.{Envelope}
use Rattle.roc_plan.specs.Groups.{Plan}
use Rattle.roc_law_log.specs.Scheme.{Scheme, IsSoundScheme}
use Rattle.roc_step.specs.Forgets.{is_over}
use Rattle.roc_step.specs.State.{is_here, find_group, ServerState}
use Rattle.roc_audit.specs.History.{WasAnswered}
use Rattle.roc_law_protocol.specs.declared.event.Event.TheVariants.{Deliver}
use Rattle.roc_law_protocol.specs.PlanAssumptions.{HasSchemesFrom}
use Rattle.roc_law_protocol.specs.Beginnings.{Beginning, IsBeginning}
use Rattle.roc_law_protocol.specs.World.{World, mark_delivered}
use Rattle.roc_law_protocol.specs.Happens.{Outcome, IsReceived, Happens}
use Rattle.roc_law_protocol.specs.Run.{Stepped}
use Rattle.roc_law_protocol.specs.Beside.{IsRunBeside}
use Rattle.roc_law_protocol.specs.Forgotten.{IsSettledIn, IsFirstTaken, IsLastTaken}
use Rattle.roc_law_protocol.specs.Inner.Given.{LogLaws, StoreLaws}
use Rattle.roc_law_protocol.proofs.Facts.{known_has}
use Rattle.roc_law_protocol.proofs.Hears.{has_known}
use Rattle.roc_law_protocol.proofs.Networks.{Good, one_union}
use Rattle.roc_law_protocol.proofs.Finals.{networked}
use Rattle.roc_law_protocol.proofs.Earlier.{taken_ordered}
use Rattle.roc_law_protocol.proofs.Answered.{IsUsedAside, other_aside}
use Rattle.roc_law_protocol.proofs.FirstTaken.{last_step}
use Rattle.roc_law_protocol.proofs.Means.{Means}
use Rattle.roc_law_protocol.proofs.WhatIsOver.{decided_is_kept, over_is_gone, vanished_over, fetch_is_answered, done_is_settled, sent_settled}
use Rattle.roc_law_protocol.proofs.Idle.{run_idle, idle_mark}
use Rattle.roc_law_protocol.proofs.Serial as serial
use Rattle.roc_law_protocol.proofs.Transactions.{transaction_or_none, HasTransaction, NoTransaction}
use Rattle.roc_law_protocol.proofs.Marks.{IsMark}

module _ (plan : Plan) (start : Beginning) (begins : IsBeginning plan start) (schemes : HasSchemesFrom plan start.store) (laws : (S : Scheme) → IsSoundScheme S → LogLaws S start.store)
    (stores : StoreLaws) (coords : ℕ) (steps : List Stepped) (w : World) (run : IsRunBeside plan start coords steps w) where
  -- where the plan has no transaction, nothing was taken
  none_taken : NoTransaction plan → (shard : Shard) (t : TxnId) (c : List TxnId) → ¬ IsLastTaken steps shard t c
  none_taken none shard t c l =
      let h = subst (λ o. IsListed is_txn o t) (run_idle plan none start begins coords steps w run).order (taken_ordered plan c t l.member start coords steps w run l.step (last_step steps shard t c l) l.taken.has) in
      absurd (omega (arith, h))

  module _ (shard : Shard) (s : ServerState) (there : slice_get w.servers shard.0 ≡ Some s) where
    pub kept : (t : TxnId) → IsDecided s.lists.links t ↔ ((c : List TxnId) × IsLastTaken steps shard t c × (is_over s.below c ≡ false))
    kept t = elim (transaction_or_none plan) [
      | inl some ↦
          (let x = serial.logged plan start begins schemes laws stores coords steps w run some in
          decided_is_kept plan (serial.asked plan start begins schemes laws stores coords steps w run some) (serial.S plan start begins schemes laws stores coords steps w run some) start x.0 w x.1.means steps x.3 shard s there t)
      | inr none ↦ (
        λ d. absurd (let k : IsDecided [] t = subst (λ l. IsDecided l t) ((run_idle plan none start begins coords steps w run).servers shard.0 s there).links d in false≢true k.own),
        λ (c, l, e). absurd (none_taken none shard t c l),
      )
    ]

    pub gone : (t : TxnId) (c : List TxnId) → IsLastTaken steps shard t c → is_over s.below c ≡ true → (is_here t s.started ≡ false) × (¬ IsDecided s.lists.links t) × IsSettledIn w t
    gone t c l e = elim (transaction_or_none plan) [
      | inl some ↦
          (let x = serial.logged plan start begins schemes laws stores coords steps w run some in
          over_is_gone plan (serial.asked plan start begins schemes laws stores coords steps w run some) (serial.S plan start begins schemes laws stores coords steps w run some) start x.0 w x.1.means steps x.3 shard s there t c l e)
      | inr none ↦ absurd (none_taken none shard t c l)
    ]

    pub settled : (k : ℕ) (m : Envelope) (t : TxnId) (asker : Shard) (o : Outcome) (more : List Envelope) → slice_get w.sent (k - 1) ≡ Some m → m.to ≡ Server shard → m.msg ≡ Fetch t asker
        → Happens plan w (Deliver k) o → o.world.sent ≡ w.sent ++ more
        → ((mark : ℕ) × (e : Envelope) × Has e more × (e.msg ≡ Settled t mark)) ↔ ((c : List TxnId) × IsFirstTaken steps shard t c × (is_over s.below c ≡ true))
    settled k m t asker o more at to is (b, first, found, h) on =
        let has = has_at w.sent (k - 1) m at in
        elim (transaction_or_none plan) [
          | inl some ↦
              (let x = serial.logged plan start begins schemes laws stores coords steps w run some in
              let same = same_there w.sent (k - 1) b m found at in
              fetch_is_answered plan (serial.asked plan start begins schemes laws stores coords steps w run some) (serial.S plan start begins schemes laws stores coords steps w run some) start x.0 w x.1.means steps x.3 shard s there m t asker k o more has to is
              (subst (λ (m : Envelope). IsReceived plan (mark_delivered w k) m.msg m.to o) same h) on)
          | inr none ↦ absurd (subst IsMark is (idle_mark plan start w (run_idle plan none start begins coords steps w run) m has))
        ]

    pub vanished : (m : Envelope) → Has m w.sent → (t : TxnId) (g : ℕ) (bound outs : List ℤ) (edges : List Dependency) (facts : List KnownList) → m.msg ≡ StartOk t g shard bound outs edges facts
        → find_group t g s.started ≡ None → (is_here t s.started ≡ false) × IsSettledIn w t × ((c : List TxnId) × IsFirstTaken steps shard t c × (is_over s.below c ≡ true))
    vanished m has t g bound outs edges facts is none = elim (transaction_or_none plan) [
      | inl some ↦
          (let x = serial.logged plan start begins schemes laws stores coords steps w run some in
          let S = serial.S plan start begins schemes laws stores coords steps w run some in
          let asked = serial.asked plan start begins schemes laws stores coords steps w run some in
          let told = subst (λ (msg : Msg). Means plan asked S start x.0 msg m.to) is (x.1.means.messages m has) in
          vanished_over plan asked S start x.0 w x.1.means steps x.3 shard s there t g told.0.began (sym told.1) none)
      | inr idle ↦ absurd (subst IsMark is (idle_mark plan start w (run_idle plan idle start begins coords steps w run) m has))
    ]

    pub done : (k : KnownList) (d : Dependency) → Has k s.lists.known → Has d k.edges → ¬ Has d (entries_of s.lists.links k.of) → IsSettledIn w d.from
    done k d has h none = elim (transaction_or_none plan) [
      | inl some ↦ followed some
      | inr idle ↦ absurd (subst (Has k) ((run_idle plan idle start begins coords steps w run).servers shard.0 s there).known has)
    ]
      where
        -- a known list is the one that is found
        followed : HasTransaction plan → IsSettledIn w d.from
        followed some =
            let x = serial.logged plan start begins schemes laws stores coords steps w run some in
            let S = serial.S plan start begins schemes laws stores coords steps w run some in
            let asked = serial.asked plan start begins schemes laws stores coords steps w run some in
            let scheme = serial.is plan start begins schemes laws stores coords steps w run some in
            let l = laws S (serial.sound plan start begins schemes laws stores coords steps w run some) in
            let nw = networked plan start begins schemes laws stores coords steps w run some in
            let q = known_has s.lists.known k.of (has_known s.lists.known k has) in
            let p : Good plan asked S start scheme l w.sent k.of q.0.edges = subst (λ t. Good plan asked S start scheme l w.sent t q.0.edges) q.2 ((nw.servers shard.0 s there).known q.0 q.1) in
            done_is_settled plan asked S start x.0 w x.1.means steps x.3 shard s there k d
            (q.3 ∙ one_union plan asked S start scheme l w x.0 x.1 nw k.of q.0.edges k.edges p ((nw.servers shard.0 s there).known k has)) h none

  pub sent : (m : Envelope) (t : TxnId) (mark : ℕ) → Has m w.sent → m.msg ≡ Settled t mark
      → IsSettledIn w t × ((seq : ℕ) → ¬ IsUsedAside start w (record { coord = t.coord; seq = seq }) → seq < mark → (reply : List ℤ) × WasAnswered w.history (record { coord = t.coord; seq = seq }) reply)
  sent m t mark has is = elim (transaction_or_none plan) [
    | inl some ↦
        (let x = serial.logged plan start begins schemes laws stores coords steps w run some in
        let k = sent_settled plan (serial.asked plan start begins schemes laws stores coords steps w run some) (serial.S plan start begins schemes laws stores coords steps w run some) start x.0 w x.1.means m t mark has is in
        (k.0, λ seq own. k.1 seq (λ other. own (other_aside plan start begins schemes laws stores coords steps w run some (record { coord = t.coord; seq = seq }) other))))
    | inr none ↦ absurd (subst IsMark is (idle_mark plan start w (run_idle plan none start begins coords steps w run) m has))
  ]
