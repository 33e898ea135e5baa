-- What a start leaves out is earlier in the order
use Rattle.std.proofs.Common.{◌≡◌, ℕ, ℤ, Bool, true, false, List, [], ◌∷◌, ◌++◌, Option, Some, None, refl, sym, ap, subst, ◌∙◌, inl, inr, append-nil, append_assoc}
use Rattle.std.proofs.lemmas.Bool.{false≢true}
use Rattle.std.specs.Prelude.{slice_get, if◌then◌else◌}
use Rattle.roc_sequence.specs.Lists.{Has}
use Rattle.roc_sequence.specs.Places.{IsListed, is_listed}
use Rattle.roc_sequence.proofs.Appended.{listed_front, listed_behind}
use Rattle.roc_sequence.proofs.Members.{has_more, has_flat_map}
use Rattle.roc_sequence.proofs.Places.{listed_true}
use Rattle.roc_depgraph.proofs.Listed.{has_listed}
use Rattle.roc_base.specs.declared.id.TxnId.{TxnId}
use Rattle.roc_base.specs.declared.node.Node.{Node}
use Rattle.roc_base.specs.declared.node.Node.TheVariants.{Server, Coord}
use Rattle.roc_base.specs.TxnId.{is_txn}
use Rattle.roc_depgraph.specs.declared.known.KnownList.{KnownList}
use Rattle.roc_depgraph.specs.Deps.{IsDecided}
use Rattle.roc_msg.specs.declared.msg.Msg.TheVariants.{Start}
use Rattle.roc_msg.specs.declared.msg.Envelope.{Envelope}
use Rattle.roc_plan.specs.Groups.{Plan}
use Rattle.roc_law_log.specs.Scheme.{Scheme, IsSoundScheme}
use Rattle.roc_law_log.specs.Invariants.{Continues}
use Rattle.roc_step.specs.State.{find_group, ServerState}
use Rattle.roc_step.specs.Below.{is_ended}
use Rattle.roc_audit.specs.Order.{noted, noted_one}
use Rattle.roc_law_protocol.specs.Aside.{after_transaction}
use Rattle.roc_law_protocol.specs.declared.event.Event.{Event}
use Rattle.roc_law_protocol.specs.declared.event.Event.TheVariants.{Submit, Deliver, Tick, Stop}
use Rattle.roc_law_protocol.specs.PlanAssumptions.{HasSchemesFrom}
use Rattle.roc_law_protocol.specs.Beginnings.{Beginning, IsBeginning}
use Rattle.roc_law_protocol.specs.World.{World, mark_delivered}
use Rattle.roc_law_protocol.specs.Happens.{Outcome, IsReceived}
use Rattle.roc_law_protocol.specs.Run.{Stepped}
use Rattle.roc_law_protocol.specs.Beside.{Moves, IsRunBeside, beside_begins, beside_goes_on}
use Rattle.roc_law_protocol.proofs.Decisions.{decided_are}
use Rattle.roc_law_protocol.specs.Inner.Given.{LogLaws, StoreLaws}
use Rattle.roc_law_protocol.proofs.Means.{run_of, Means}
use Rattle.roc_law_protocol.proofs.Starting.{shard_number}
use Rattle.roc_law_protocol.proofs.Idle.{run_idle, idle_mark}
use Rattle.roc_law_protocol.proofs.TakesOn.{submission_none}
use Rattle.roc_law_protocol.proofs.Stops.{by_stop, stop_takes}
use Rattle.roc_law_protocol.proofs.AcceptedSubmissions.{Submitting, is_refused, is_accepted, submitting}
use Rattle.roc_law_protocol.proofs.Serial.{S, asked, logged, sound}
use Rattle.roc_law_protocol.proofs.Transactions.{transaction_or_none}
use Rattle.roc_law_protocol.proofs.Marks.{IsMark}

-- ---- the order grows at its end

noted_goes_on : (order ts : List TxnId) → Continues order (noted order ts)
noted_goes_on order [] = ([], sym (append-nil order))
noted_goes_on order (t ∷ ts) = go (if is_listed is_txn order t then [] else t ∷ []) (λ o. noted_goes_on o ts)
  where
    go : (one : List TxnId) → ((o : List TxnId) → Continues o (noted o ts)) → Continues order (noted (order ++ one) ts)
    go one ih = let r = ih (order ++ one) in (one ++ r.0, r.1 ∙ append_assoc order one r.0)

same_order : (w : World) → Continues w.order w.order
same_order w = ([], sym (append-nil w.order))

pub order_goes_on : (plan : Plan) (w : World) (e : Option Event) (o : Outcome) → Moves plan w e o → Continues w.order o.world.order
order_goes_on plan w None o (inl h) = subst (λ (o : Outcome). Continues w.order o.world.order) (sym h) (same_order w)
order_goes_on plan w None o (inr x) = subst (λ (o : Outcome). Continues w.order o.world.order) (sym x.is) (same_order w)
order_goes_on plan w (Some (Submit n proc args)) o (s, there, h) = go (submitting plan w n proc args s o h)
  where
    go : Submitting plan w n proc args s o → Continues w.order o.world.order
    go (is_refused e) = subst (λ (v : World). Continues w.order v.order) (sym e) (same_order w)
    go (is_accepted known counted e) = subst (λ (v : World). Continues w.order v.order) (sym e) (same_order w)
order_goes_on plan w (Some (Deliver k)) o (m, some, there, h) = go m.to h
  where
    go : (to : Node) → IsReceived plan (mark_delivered w k) m.msg to o → Continues w.order o.world.order
    go (Server shard) (s, r, at, step, e) = subst (λ (o : Outcome). Continues w.order o.world.order) (sym e) (noted_goes_on w.order r.decided)
    go (Coord n) (s, at, e) = subst (λ (o : Outcome). Continues w.order o.world.order) (sym e) (same_order w)
order_goes_on plan w (Some (Tick (Server shard))) o (s, there, e) = subst (λ (o : Outcome). Continues w.order o.world.order) (sym e) (same_order w)
order_goes_on plan w (Some (Tick (Coord n))) o (s, there, e) = subst (λ (o : Outcome). Continues w.order o.world.order) (sym e) (same_order w)
order_goes_on plan w (Some (Stop shard during)) o x =
    by_stop plan w shard.0 (λ v. Continues w.order v.order) (same_order w) (λ k m sent. same_order w) (λ k many m s r sent there handles. noted_goes_on w.order r.decided) (λ v s p there. p) during o x

-- ---- what was taken stands in it

listed_on : (order later : List TxnId) (t : TxnId) → Continues order later → IsListed is_txn order t → IsListed is_txn later t
listed_on order later t on h = subst (λ l. IsListed is_txn l t) (sym on.1) (listed_front is_txn order on.0 t h)

noted_all : (ts order : List TxnId) (t : TxnId) → Has t ts → IsListed is_txn (noted order ts) t
noted_all [] order t h = absurd h
noted_all (u ∷ ts) order t (inr h) = noted_all ts (noted_one order u) t h
noted_all (u ∷ ts) order t (inl e) = go (is_listed is_txn order u) refl
  where
    go : (b : Bool) → is_listed is_txn order u ≡ b → IsListed is_txn (noted (order ++ (if b then [] else u ∷ [])) ts) t
    go true k = listed_on (order ++ []) (noted (order ++ []) ts) t (noted_goes_on (order ++ []) ts) (listed_front is_txn order [] t (subst (IsListed is_txn order) (sym e) (listed_true is_txn order u k)))
    go false k = listed_on (order ++ u ∷ []) (noted (order ++ u ∷ []) ts) t (noted_goes_on (order ++ u ∷ []) ts) (listed_behind is_txn order (u ∷ []) t (has_listed (u ∷ []) t (inl e)))

-- what an event decides is what it takes
module _ (plan : Plan) (c : List TxnId) (t : TxnId) (member : Has t c) where
  -- a component that an event takes is in the order then
  taken_noted : (w : World) (e : Option Event) (o : Outcome) → Moves plan w e o → Has c o.components → IsListed is_txn o.world.order t
  taken_noted w None o (inl h) k = absurd (subst (λ (o : Outcome). Has c o.components) h k)
  taken_noted w None o (inr x) k = absurd (subst (λ (o : Outcome). Has c o.components) x.is k)
  taken_noted w (Some (Submit n proc args)) o (s, there, h) k = absurd (subst (Has c) (submission_none w n proc args (after_transaction plan s proc args).state (after_transaction plan s proc args).sends (after_transaction plan s proc args).answer o h).1 k)
  taken_noted w (Some (Deliver k)) o (m, some, there, h) has = go m.to h
    where
      go : (to : Node) → IsReceived plan (mark_delivered w k) m.msg to o → IsListed is_txn o.world.order t
      go (Server shard) (s, r, at, step, e) =
          let taken : Has c r.components = subst (λ (o : Outcome). Has c o.components) e has in
          subst (λ (o : Outcome). IsListed is_txn o.world.order t) (sym e)
          (noted_all r.decided w.order t (subst (Has t) (sym (decided_are plan s m.msg r step)) (has_flat_map (λ c. c) t c r.components taken member)))
      go (Coord n) (s, at, e) = absurd (subst (λ (o : Outcome). Has c o.components) e has)
  taken_noted w (Some (Tick (Server shard))) o (s, there, e) k = absurd (subst (λ (o : Outcome). Has c o.components) e k)
  taken_noted w (Some (Tick (Coord n))) o (s, there, e) k = absurd (subst (λ (o : Outcome). Has c o.components) e k)
  taken_noted w (Some (Stop shard during)) o x k = elim (stop_takes plan w shard.0 during o x) [
    | inl none ↦ absurd (subst (Has c) none.0 k)
    | inr q ↦
        (let taken : Has c q.step.components = subst (λ (o : Outcome). Has c o.components) q.is k in
        subst (λ (o : Outcome). IsListed is_txn o.world.order t) (sym q.is)
        (noted_all q.step.decided w.order t (subst (Has t) (sym (decided_are plan q.state q.message.msg q.step q.handles)) (has_flat_map (λ c. c) t c q.step.components taken member))))
  ]

  pub taken_ordered : (start : Beginning) (coords : ℕ) (steps : List Stepped) (w : World) → IsRunBeside plan start coords steps w → (x : Stepped) → Has x steps → Has c x.outcome.components → IsListed is_txn w.order t
  taken_ordered start coords _ _ beside_begins x h k = absurd h
  taken_ordered start coords _ _ (beside_goes_on {steps = steps} {w = w} e o run h) x has k =
      elim (has_more x (record { event = e; outcome = o }) steps has) [
        | inl was ↦ listed_on w.order o.world.order t (order_goes_on plan w e o h) (taken_ordered start coords steps w run x was k)
        | inr now ↦ taken_noted w e o h (subst (λ (x : Stepped). Has c x.outcome.components) now k)
      ]

-- ---- what is decided, and what is yet to start

module _ (plan : Plan) (start : Beginning) (begins : IsBeginning plan start) (schemes : HasSchemesFrom plan start.store) (laws : (S : Scheme) → IsSoundScheme S → LogLaws S start.store) (stores : StoreLaws) (coords : ℕ) (steps : List Stepped) (w : World) (run : IsRunBeside plan start coords steps w) where
  pub decided_ordered : (n : ℕ) (s : ServerState) → slice_get w.servers n ≡ Some s → (t : TxnId) → IsDecided s.lists.links t → IsListed is_txn w.order t
  decided_ordered n s there t d = elim (transaction_or_none plan) [
    | inl some ↦
        (let x = logged plan start begins schemes laws stores coords steps w run some in
        let i = (laws (S plan start begins schemes laws stores coords steps w run some) (sound plan start begins schemes laws stores coords steps w run some)).holds x.0 x.1.means.reached in
        subst (λ l. IsListed is_txn l t) (sym x.1.means.order) (i.in_order n t ((x.1.means.servers n s there).back t d)))
    | inr none ↦ absurd (nothing s.lists.links ((run_idle plan none start begins coords steps w run).servers n s there).links d)
  ]
    where
      nothing : (links : List KnownList) → links ≡ [] → IsDecided links t → ⊥
      nothing links e d = let d2 : IsDecided [] t = subst (λ k. IsDecided k t) e d in false≢true d2.own

  pub starting_unordered : (n : ℕ) (s : ServerState) → slice_get w.servers n ≡ Some s → (m : Envelope) → Has m w.sent → m.to ≡ Server (record { 0 = n }) → (id : TxnId) (proc group : ℕ) (args inputs : List ℤ) → m.msg ≡ Start id proc group args inputs
      → find_group id group s.started ≡ None → is_ended s.below id ≡ false → ¬ IsListed is_txn w.order id
  starting_unordered n s there m has to id proc group args inputs msg none kept h = elim (transaction_or_none plan) [
    | inl some ↦
        (let x = logged plan start begins schemes laws stores coords steps w run some in
        let T = S plan start begins schemes laws stores coords steps w run some in
        let i = (laws T (sound plan start begins schemes laws stores coords steps w run some)).holds x.0 x.1.means.reached in
        let k = subst (λ msg. Means plan (asked plan start begins schemes laws stores coords steps w run some) T start x.0 msg m.to) msg (x.1.means.messages m has) in
        let began = i.whole id (subst (λ l. IsListed is_txn l id) x.1.means.order h) group k.means.listed in
        elim ((x.1.means.servers n s there).groups.finds (run_of id group) began (ap shard_number (sym k.to ∙ to))) [ inl f ↦ clash f.0 f.1 | inr gone ↦ false≢true (sym kept ∙ gone.ended) ])
    | inr none ↦ absurd (subst IsMark msg (idle_mark plan start w (run_idle plan none start begins coords steps w run) m has))
  ]
    where
      clash : (e : _) → find_group id group s.started ≡ Some e → ⊥
      clash e f = let g = none in cc
