-- Startoks in the network, and lists made of them
use Rattle.std.proofs.Common.{◌≡◌, ◌≢◌, ℕ, ℤ, ◌<◌, ◌==◌, true, List, [], ◌∷◌, ◌++◌, Option, Some, None, length, map, refl, sym, ap, subst, ◌∙◌, ◌⊎◌, inl, inr, arith, is_some}
use Rattle.std.proofs.lemmas.Bool.{false≢true, and_parts, eqb-true, eq-eqb, cases_eq}
use Rattle.std.specs.Prelude.{slice_get, slice_set, flat_map}
use Rattle.std.specs.List.{range_with_len}
use Rattle.roc_merge_groups.proofs.Elements.{has_range}
use Rattle.roc_sequence.specs.Lists.{Has}
use Rattle.roc_sequence.proofs.Holds.{every_has, all_has, has_any}
use Rattle.roc_sequence.proofs.Ranges.{range_below}
use Rattle.roc_sequence.proofs.Found.{found_has, none_found}
use Rattle.roc_sequence.proofs.Members.{has_append, has_left, from_has_map, has_flat_map, from_has_flat_map, same_there}
use Rattle.roc_base.specs.declared.id.TxnId.{TxnId}
use Rattle.roc_base.specs.declared.node.Node.{Node}
use Rattle.roc_base.specs.declared.node.Node.TheVariants.{Server}
use Rattle.roc_base.specs.declared.node.Shard.{Shard}
use Rattle.roc_base.specs.TxnId.{is_txn}
use Rattle.roc_base.specs.Equalities.{is_txn-true}
use Rattle.roc_base.specs.Edge.{Dependency}
use Rattle.roc_base.specs.Edges.{united}
use Rattle.roc_depgraph.specs.declared.known.KnownList.{KnownList}
use Rattle.roc_msg.specs.declared.msg.Msg.{Msg}
use Rattle.roc_msg.specs.declared.msg.Msg.TheVariants.{Start, StartOk, CommitOk}
use Rattle.roc_msg.specs.declared.msg.Envelope.{Envelope}
use Rattle.roc_msg.specs.declared.outbox.Outgoing.{Outgoing}
use Rattle.roc_plan.specs.Groups.{Plan, groups_of}
use Rattle.roc_whole.specs.Serial as whole
use Rattle.roc_law_log.specs.Scheme.{Scheme}
use Rattle.roc_law_log.specs.Log.{Log}
use Rattle.roc_law_log.specs.Invariants.{LogInvariants}
use Rattle.roc_step.specs.declared.started.StartedGroup.{StartedGroup}
use Rattle.roc_step.specs.Start.{startok_of}
use Rattle.roc_step.specs.State.{is_group, is_here, find_group, unrun, ServerState, ServerStep}
use Rattle.roc_coord.specs.declared.transaction.Transaction.{Transaction}
use Rattle.roc_coord.specs.declared.transaction.TakenStart.{TakenStart}
use Rattle.roc_coord.specs.State.{find_startok, CoordState}
use Rattle.roc_coord.specs.Starts.{group_numbers, all_started, all_edges}
use Rattle.roc_law_protocol.specs.PlanAssumptions.{IsSchemeOf}
use Rattle.roc_law_protocol.specs.Beginnings.{Beginning}
use Rattle.roc_law_protocol.specs.World.{World, sent_by, at_server}
use Rattle.roc_law_protocol.specs.Quiet.{IsToldIn}
use Rattle.roc_law_protocol.specs.Final.{lists_in, IsUnionIn}
use Rattle.roc_law_protocol.specs.Inner.Given.{LogLaws}
use Rattle.roc_law_protocol.proofs.Means.{run_of, place, Began, Means, StartIs, ToldMeans}
use Rattle.roc_law_protocol.proofs.Changed.{get-set_here, get-set_other, get-set_cases}
use Rattle.roc_law_protocol.proofs.Carried.{IsToldBy, StartsHere, HoldsGood, KeepsGood}
use Rattle.roc_law_protocol.proofs.Gathered.{IsGathered}
use Rattle.roc_law_protocol.proofs.Coordinators.{there}
use Rattle.roc_step.proofs.Unions.{same_members}
use Rattle.roc_law_protocol.proofs.Starting.{shard_number}
use Rattle.roc_law_protocol.proofs.Logged.{IsLogged}
use Rattle.roc_law_protocol.proofs.Gone.{IsGone, here_stays}

-- what is in the network stays there
pub told_more : (sent more : List Envelope) (t : TxnId) (g : ℕ) (es : List Dependency) (fs : List KnownList) → IsToldIn sent t g es fs → IsToldIn (sent ++ more) t g es fs
told_more sent more t g es fs k = record { message = k.message; has = has_left k.message sent more k.has; shard = k.shard; bound = k.bound; outs = k.outs; is = k.is }

pub union_more : (sent more : List Envelope) (n : ℕ) (t : TxnId) (es : List Dependency) → IsUnionIn sent n t es → IsUnionIn (sent ++ more) n t es
union_more sent more n t es u = record { told = u.told; in_network = λ g l. (let k = u.in_network g l in (k.0, told_more sent more t g (u.told g) k.0 k.1)); is_union = u.is_union }

-- a startok of the group
pub record IsStartOkOf (t : TxnId) (g : ℕ) (msg : Msg) : Type 0 where
  pub shard : Shard
  pub bound : List ℤ
  pub outs : List ℤ
  pub edges : List Dependency
  pub facts : List KnownList
  pub is : msg ≡ StartOk t g shard bound outs edges facts

-- a group that is found is the one that was sought
pub found_is : (t : TxnId) (g : ℕ) (started : List StartedGroup) (e : StartedGroup) → find_group t g started ≡ Some e → Has e started × (e.id ≡ t) × (e.group ≡ g)
found_is t g started e f =
    let q = found_has (is_group t g) started e f in
    let p = and_parts (is_txn e.id t) (e.group == g) q.1 in
    (q.0, is_txn-true e.id t p.0, eqb-true e.group g p.1)

-- so its transaction has a group here
found_here : (t : TxnId) (g : ℕ) (started : List StartedGroup) (e : StartedGroup) → find_group t g started ≡ Some e → is_here t started ≡ true
found_here t g started e f = let q = found_has (is_group t g) started e f in has_any (λ (e : StartedGroup). is_txn e.id t) started e q.0 (and_parts (is_txn e.id t) (e.group == g) q.1).0

-- the server of a shard keeps a group of which a startok told, and one of a transaction of which a commitok told, unless it is gone
abbrev pub IsToldHere : List ServerState → Msg → Type 0
IsToldHere servers (StartOk id group at bound outs edges facts) = (s : ServerState) × (slice_get servers at.0 ≡ Some s) × (((e : StartedGroup) × (find_group id group s.started ≡ Some e)) ⊎ IsGone s id)
IsToldHere servers (CommitOk id at outs) = (s : ServerState) × (slice_get servers at.0 ≡ Some s) × ((is_here id s.started ≡ true) ⊎ IsGone s id)
IsToldHere servers msg = Unit {0}

module _ (plan : Plan) (asked : TxnId → whole.Call) (S : Scheme) (start : Beginning) (is : IsSchemeOf plan asked S) (laws : LogLaws S start.store) where
  abbrev pub count : TxnId → ℕ
  count t = length (groups_of plan (asked t).procedure)

  abbrev pub Good : List Envelope → TxnId → List Dependency → Type 0
  Good sent t es = IsUnionIn sent (count t) t es

  abbrev pub Told : List Envelope → TxnId → TakenStart → Type 0
  Told sent t ok = IsToldIn sent t ok.group ok.edges ok.facts × ((k : KnownList) → Has k ok.facts → Good sent k.of k.edges)

  -- nothing is asked of where groups are
  abbrev pub Anywhere : TxnId → ℕ → Type 0
  Anywhere t g = Unit {0}

  -- the group is a shard's
  abbrev pub IsPlacedOn : Log → (shard : ℕ) → TxnId → ℕ → Type 0
  IsPlacedOn log shard t g = place plan asked S start log (run_of t g) ≡ shard

  abbrev pub Calls : TxnId → ℕ → Type 0
  Calls t proc = proc ≡ (asked t).procedure

  pub told_facts : (sent : List Envelope) (t : TxnId) (ok : TakenStart) → Told sent t ok → (k : KnownList) → Has k ok.facts → Good sent k.of k.edges
  told_facts sent t ok k = k.1

  abbrev pub IsTold : List Envelope → Transaction → Type 0
  IsTold sent x = IsGathered plan (Good sent) (Told sent) Calls (told_facts sent) x

  pub record IsNetworked (w : World) : Type 0 where
    pub told : (m : Envelope) → Has m w.sent → IsToldHere w.servers m.msg
    -- two startoks of a group are one
    pub one : (m k : Envelope) → Has m w.sent → Has k w.sent → (t : TxnId) (g : ℕ) → IsStartOkOf t g m.msg → IsStartOkOf t g k.msg → m.msg ≡ k.msg
    -- a startok of a group that is found on a server is that of its entry
    pub kept : (n : ℕ) (s : ServerState) → slice_get w.servers n ≡ Some s → (t : TxnId) (g : ℕ) (e : StartedGroup) → find_group t g s.started ≡ Some e → (m : Envelope) → Has m w.sent → IsStartOkOf t g m.msg → m.msg ≡ (startok_of s.shard e).msg
    pub lists : (m : Envelope) → Has m w.sent → (k : KnownList) → Has k (lists_in m.msg) → Good w.sent k.of k.edges
    pub servers : (n : ℕ) (s : ServerState) → slice_get w.servers n ≡ Some s → HoldsGood (Good w.sent) Anywhere s
    pub taken : (n : ℕ) (c : CoordState) → slice_get w.coords n ≡ Some c → (x : Transaction) → Has x c.pending → IsTold w.sent x

  module _ (w : World) (log : Log) (o : IsLogged plan asked S start is laws w log) (nw : IsNetworked w) where
    i : LogInvariants S start.store log
    i = laws.holds log o.means.reached

    -- ---- one startok of each group

    -- it comes from the shard of its group
    from_place : (m : Envelope) → Has m w.sent → (t : TxnId) (g : ℕ) (shard : Shard) (bound outs : List ℤ) (es : List Dependency) (fs : List KnownList) → m.msg ≡ StartOk t g shard bound outs es fs
        → ToldMeans plan asked S start log (run_of t g) bound outs es fs × (shard.0 ≡ place plan asked S start log (run_of t g))
    from_place m h t g shard bound outs es fs e = let k = subst (λ msg. Means plan asked S start log msg m.to) e (o.means.messages m h) in (k.0, k.1)

    pub one_startok : (m k : Envelope) → Has m w.sent → Has k w.sent → (t : TxnId) (g : ℕ) (shard other : Shard) (bound outs values gave : List ℤ) (es ds : List Dependency) (fs hs : List KnownList)
        → m.msg ≡ StartOk t g shard bound outs es fs → k.msg ≡ StartOk t g other values gave ds hs → m.msg ≡ k.msg
    one_startok m k h l t g shard other bound outs values gave es ds fs hs e f =
        nw.one m k h l t g (record { shard = shard; bound = bound; outs = outs; edges = es; facts = fs; is = e }) (record { shard = other; bound = values; outs = gave; edges = ds; facts = hs; is = f })

    -- it comes from the shard of its group, where the group began
    began_at : (m : Envelope) → Has m w.sent → (t : TxnId) (g : ℕ) → IsStartOkOf t g m.msg → Began plan asked S start log (run_of t g)
    began_at m h t g k = (from_place m h t g k.shard k.bound k.outs k.edges k.facts k.is).0.began

    -- a group that is found is placed there
    placed : (n : ℕ) (s : ServerState) → slice_get w.servers n ≡ Some s → (e : StartedGroup) → Has e s.started → IsPlacedOn log n e.id e.group
    placed n s there e h = ((o.means.servers n s there).groups.entries e h).on

    -- so what a server holds is where it is
    pub holds_there : (n : ℕ) (s : ServerState) → slice_get w.servers n ≡ Some s → HoldsGood (Good w.sent) (IsPlacedOn log n) s
    holds_there n s there = let g = nw.servers n s there in record { groups = placed n s there; known = g.known; facts = g.facts; same = g.same }

    -- and what is asked to start there
    pub starts_there : (m : Envelope) → Has m w.sent → (n : ℕ) → m.to ≡ Server (record { 0 = n }) → StartsHere (IsPlacedOn log n) m.msg
    starts_there m h n to = go m.msg refl
      where
        go : (msg : Msg) → m.msg ≡ msg → StartsHere (IsPlacedOn log n) msg
        go (Start id proc group args inputs) e =
            let k : StartIs plan asked S start log id proc group args inputs m.to = subst (λ msg. Means plan asked S start log msg m.to) e (o.means.messages m h) in
            ap shard_number (sym k.to ∙ to)
        go msg e = tt

    told_one : (t : TxnId) (g : ℕ) (es ds : List Dependency) (fs hs : List KnownList) → IsToldIn w.sent t g es fs → IsToldIn w.sent t g ds hs → es ≡ ds
    told_one t g es ds fs hs a b =
        let e = one_startok a.message b.message a.has b.has t g a.shard b.shard a.bound a.outs b.bound b.outs es ds fs hs a.is b.is in
        ap edges_in (sym a.is ∙ (e ∙ b.is))
      where
        edges_in : Msg → List Dependency
        edges_in (StartOk id group at bound outs edges facts) = edges
        edges_in msg = []

    -- so the union is one
    pub one_union : (t : TxnId) (es ds : List Dependency) → Good w.sent t es → Good w.sent t ds → es ≡ ds
    one_union t es ds a b = a.is_union ∙ (ap united (all_same (range_with_len 0 (count t)) (λ g h. below g h)) ∙ sym b.is_union)
      where
        below : (g : ℕ) → Has g (range_with_len 0 (count t)) → g < count t
        below g h = all_has (λ g. g < count t) g (range_with_len 0 (count t)) (range_below 0 (count t) (count t) (omega arith)) h

        all_same : (gs : List ℕ) → ((g : ℕ) → Has g gs → g < count t) → flat_map a.told gs ≡ flat_map b.told gs
        all_same [] h = refl
        all_same (g ∷ gs) h =
            let x = a.in_network g (h g (inl refl)) in
            let y = b.in_network g (h g (inl refl)) in
            let e = told_one t g (a.told g) (b.told g) x.0 y.0 x.1 y.1 in
            let r = all_same gs (λ g k. h g (inr k)) in
            λ j. e j ++ r j

    -- ---- what a coordinator gathers

    edges_of : Option TakenStart → List Dependency
    edges_of None = []
    edges_of (Some ok) = ok.edges

    pub gathered_good : (x : Transaction) → IsTold w.sent x → all_started plan x ≡ true → Good w.sent x.id (all_edges x)
    unfolding edges_of
    gathered_good x g all =
        record {
          told = λ h. edges_of (find_startok h x.startoks);
          in_network = λ h l. network h (find_startok h x.startoks) refl (every_has (λ h. is_some (find_startok h x.startoks)) (group_numbers plan x.proc) all h (subst (Has h) (ap (group_numbers plan) (sym g.calls)) (has_range 0 (count x.id) h (omega arith) (omega arith))));
          is_union = same_members (flat_map (λ (ok : TakenStart). ok.edges) x.startoks) (flat_map (λ h. edges_of (find_startok h x.startoks)) (range_with_len 0 (count x.id))) (λ d. (to_told d, from_told d));
        }
      where
        network : (h : ℕ) (ok : Option TakenStart) → find_startok h x.startoks ≡ ok → is_some ok ≡ true → (fs : List KnownList) × IsToldIn w.sent x.id h (edges_of ok) fs
        network h None e k = absurd (false≢true k)
        network h (Some ok) e k =
            let f = found_has (λ (ok : TakenStart). ok.group == h) x.startoks ok e in
            (ok.facts, subst (λ h. IsToldIn w.sent x.id h ok.edges ok.facts) (eqb-true ok.group h f.1) (g.startoks ok f.0).0)

        to_told : (d : Dependency) → Has d (flat_map (λ (ok : TakenStart). ok.edges) x.startoks) → Has d (flat_map (λ h. edges_of (find_startok h x.startoks)) (range_with_len 0 (count x.id)))
        to_told d k =
            let a = from_has_flat_map (λ (ok : TakenStart). ok.edges) d x.startoks k in
            let t = (g.startoks a.0 a.1).0 in
            let began = (from_place t.message t.has x.id a.0.group t.shard t.bound t.outs a.0.edges a.0.facts t.is).0.began in
            let l = (is.groups x.id a.0.group).0 (i.are_groups (run_of x.id a.0.group) began) in
            has_flat_map (λ h. edges_of (find_startok h x.startoks)) d a.0.group (range_with_len 0 (count x.id)) (has_range 0 (count x.id) a.0.group (omega arith) (omega arith))
            (first a.0 a.1 a.2 (find_startok a.0.group x.startoks) refl)
          where
            first : (ok : TakenStart) → Has ok x.startoks → Has d ok.edges → (o : Option TakenStart) → find_startok ok.group x.startoks ≡ o → Has d (edges_of o)
            first ok h k None e = absurd (false≢true (sym (none_found (λ (b : TakenStart). b.group == ok.group) x.startoks e ok h) ∙ eq-eqb ok.group ok.group refl))
            first ok h k (Some b) e =
                let f = found_has (λ (b : TakenStart). b.group == ok.group) x.startoks b e in
                let same = told_one x.id ok.group ok.edges b.edges ok.facts b.facts (g.startoks ok h).0 (subst (λ h. IsToldIn w.sent x.id h b.edges b.facts) (eqb-true b.group ok.group f.1) (g.startoks b f.0).0) in
                subst (Has d) same k

        from_told : (d : Dependency) → Has d (flat_map (λ h. edges_of (find_startok h x.startoks)) (range_with_len 0 (count x.id))) → Has d (flat_map (λ (ok : TakenStart). ok.edges) x.startoks)
        from_told d k =
            let a = from_has_flat_map (λ h. edges_of (find_startok h x.startoks)) d (range_with_len 0 (count x.id)) k in
            back a.0 (find_startok a.0 x.startoks) refl a.2
          where
            back : (h : ℕ) (o : Option TakenStart) → find_startok h x.startoks ≡ o → Has d (edges_of o) → Has d (flat_map (λ (ok : TakenStart). ok.edges) x.startoks)
            back h None e k = absurd k
            back h (Some b) e k = has_flat_map (λ (ok : TakenStart). ok.edges) d b x.startoks (found_has (λ (b : TakenStart). b.group == h) x.startoks b e).0 k

    -- ---- events

    pub lists_after : (from : Node) (outs : List Outgoing) → ((out : Outgoing) → Has out outs → (k : KnownList) → Has k (lists_in out.msg) → Good w.sent k.of k.edges) → (m : Envelope) → Has m (w.sent ++ map (sent_by from) outs) → (k : KnownList) → Has k (lists_in m.msg) → Good (w.sent ++ map (sent_by from) outs) k.of k.edges
    lists_after from outs f m h k j = union_more w.sent (map (sent_by from) outs) (count k.of) k.of k.edges (elim (has_append m w.sent (map (sent_by from) outs) h) [
      | inl l ↦ nw.lists m l k j
      | inr l ↦ (let q = from_has_map (sent_by from) m outs l in f q.0 q.1 k (subst (λ (m : Envelope). Has k (lists_in m.msg)) q.2 j))
    ])

    pub told_later : (more : List Envelope) (x : Transaction) → IsTold w.sent x → IsTold (w.sent ++ more) x
    told_later more x g = record { calls = g.calls; startoks = λ ok h. (let t = g.startoks ok h in (told_more w.sent more x.id ok.group ok.edges ok.facts t.0, λ k j. union_more w.sent more (count k.of) k.of k.edges (t.1 k j))) }

    pub holds_later : (more : List Envelope) (s : ServerState) → HoldsGood (Good w.sent) Anywhere s → HoldsGood (Good (w.sent ++ more)) Anywhere s
    holds_later more s g = record { groups = g.groups; known = λ k h. union_more w.sent more (count k.of) k.of k.edges (g.known k h); facts = λ e h k j. union_more w.sent more (count k.of) k.of k.edges (g.facts e h k j); same = g.same }

    pub anywhere : (s : ServerState) (n : ℕ) → HoldsGood (Good w.sent) (IsPlacedOn log n) s → HoldsGood (Good w.sent) Anywhere s
    anywhere s n g = record { groups = λ e h. tt; known = g.known; facts = g.facts; same = g.same }

    -- ---- startoks behind a step of a server

    module _ (n : ℕ) (s : ServerState) (there : slice_get w.servers n ≡ Some s) (r : ServerStep) (g : KeepsGood plan (Good w.sent) (IsPlacedOn log n) s r) where
      abbrev more : List Envelope
      more = map (sent_by (Server (record { 0 = n }))) r.sends

      -- one that is sent is of an entry
      new_entry : (m : Envelope) → Has m more → (t : TxnId) (h : ℕ) → IsStartOkOf t h m.msg → (e : StartedGroup) × (find_group t h r.state.started ≡ Some e) × (m.msg ≡ (startok_of r.state.shard e).msg)
      new_entry m j t h k =
          let q = from_has_map (sent_by (Server (record { 0 = n }))) m r.sends j in
          let b = subst (IsToldBy s.shard r.state) (ap (λ (m : Envelope). m.msg) (sym q.2) ∙ k.is) (g.told q.0 q.1) in
          let f = found_is t h r.state.started b.1 b.2 in
          (b.1, b.2, k.is ∙ (λ j. StartOk (sym f.1 j) (sym f.2 j) ((b.0 ∙ sym g.shard) j) (sym b.3 j) (sym b.4 j) (sym b.5 j) (sym b.6 j)))

      -- what is found now is placed here
      placed_now : (t : TxnId) (h : ℕ) (e : StartedGroup) → find_group t h r.state.started ≡ Some e → IsPlacedOn log n t h
      placed_now t h e f = let q = found_is t h r.state.started e f in subst (λ t. IsPlacedOn log n t h) q.1 (subst (IsPlacedOn log n e.id) q.2 (g.state.groups e q.0))

      -- one that was sent is of the entry that is found now: it was found before, or began now and was not told of
      old_says : (t : TxnId) (h : ℕ) (e : StartedGroup) → find_group t h r.state.started ≡ Some e → (m : Envelope) → Has m w.sent → IsStartOkOf t h m.msg → m.msg ≡ (startok_of r.state.shard e).msg
      old_says t h e f m j k = go (find_group t h s.started) refl
        where
          just : {a b : StartedGroup} → Some a ≡ Some b → a ≡ b
          just e = cc

          nothing : {a : StartedGroup} → Some a ≡ None → ⊥
          nothing e = cc

          go : (x : Option StartedGroup) → find_group t h s.started ≡ x → m.msg ≡ (startok_of r.state.shard e).msg
          go (Some was) k2 = elim (g.kept t h was k2) [
            | inl a ↦
                (let same : unrun was ≡ unrun e = sym a.2 ∙ ap unrun (just (sym a.1 ∙ f)) in
                nw.kept n s there t h was k2 m j k ∙ (ap (λ (e : StartedGroup). (startok_of s.shard e).msg) same ∙ ap (λ (at : Shard). (startok_of at e).msg) (sym g.shard)))
            | inr gone ↦ absurd (here_stays r.state t (found_here t h r.state.started e f) gone)
          ]
          go None k2 = elim ((o.means.servers n s there).groups.finds (run_of t h) (began_at m j t h k) (placed_now t h e f)) [
            | inl was ↦ absurd (nothing (sym was.1 ∙ k2))
            | inr gone ↦ absurd (here_stays r.state t (found_here t h r.state.started e f) (g.gone t gone))
          ]

      says_now : (t : TxnId) (h : ℕ) (e : StartedGroup) → find_group t h r.state.started ≡ Some e → (m : Envelope) → Has m (w.sent ++ more) → IsStartOkOf t h m.msg → m.msg ≡ (startok_of r.state.shard e).msg
      says_now t h e f m j k = elim (has_append m w.sent more j) [
        | inl i ↦ old_says t h e f m i k
        | inr i ↦
            (let q = new_entry m i t h k in
            let same : Some q.0 ≡ Some e = sym q.1 ∙ f in
            q.2 ∙ ap (λ (e : StartedGroup). (startok_of r.state.shard e).msg) (just same))
      ]
        where
          just : {a b : StartedGroup} → Some a ≡ Some b → a ≡ b
          just e = cc

      one_now : (m k : Envelope) → Has m (w.sent ++ more) → Has k (w.sent ++ more) → (t : TxnId) (h : ℕ) → IsStartOkOf t h m.msg → IsStartOkOf t h k.msg → m.msg ≡ k.msg
      one_now m k i j t h a b = elim (has_append m w.sent more i) [
        | inr x ↦ (let q = new_entry m x t h a in q.2 ∙ sym (says_now t h q.0 q.1 k j b))
        | inl x ↦ elim (has_append k w.sent more j) [
          | inr y ↦ (let q = new_entry k y t h b in says_now t h q.0 q.1 m i a ∙ sym q.2)
          | inl y ↦ nw.one m k x y t h a b
        ]
      ]

      -- what another server keeps is not told here
      kept_elsewhere : (l : ℕ) (v : ServerState) → n ≢ l → slice_get w.servers l ≡ Some v → (t : TxnId) (h : ℕ) (e : StartedGroup) → find_group t h v.started ≡ Some e → (m : Envelope) → Has m (w.sent ++ more) → IsStartOkOf t h m.msg → m.msg ≡ (startok_of v.shard e).msg
      kept_elsewhere l v other at t h e f m j k = elim (has_append m w.sent more j) [
        | inl i ↦ nw.kept l v at t h e f m i k
        | inr i ↦
            (let q = new_entry m i t h k in
            let a = placed_now t h q.0 q.1 in
            let x = found_is t h v.started e f in
            let b : IsPlacedOn log l t h = subst (λ t. IsPlacedOn log l t h) x.1 (subst (IsPlacedOn log l e.id) x.2 (placed l v at e x.0)) in
            absurd (other (sym a ∙ b)))
      ]

      kept_now : (l : ℕ) (v : ServerState) → slice_get (slice_set w.servers n r.state) l ≡ Some v → (t : TxnId) (h : ℕ) (e : StartedGroup) → find_group t h v.started ≡ Some e → (m : Envelope) → Has m (w.sent ++ more) → IsStartOkOf t h m.msg → m.msg ≡ (startok_of v.shard e).msg
      kept_now l v at t h e f m j k = elim (get-set_cases w.servers n l s r.state v there at) [
        | inl x ↦
            (let f2 = subst (λ (v : ServerState). find_group t h v.started ≡ Some e) x.1 f in
            says_now t h e f2 m j k ∙ ap (λ (v : ServerState). (startok_of v.shard e).msg) (sym x.1))
        | inr x ↦ kept_elsewhere l v x.0 x.1 t h e f m j k
      ]

    pub served_networked : (n : ℕ) (s : ServerState) (there : slice_get w.servers n ≡ Some s) (r : ServerStep) → KeepsGood plan (Good w.sent) (IsPlacedOn log n) s r → IsNetworked (at_server w n r)
    served_networked n s there r g =
        let more = map (sent_by (Server (record { 0 = n }))) r.sends in
        record {
          one = one_now n s there r g;
          kept = kept_now n s there r g;
          told = λ m h. elim (has_append m w.sent more h) [ inl k ↦ still m.msg (nw.told m k) | inr k ↦ (let q = from_has_map (sent_by (Server (record { 0 = n }))) m r.sends k in subst (λ (m : Envelope). IsToldHere (slice_set w.servers n r.state) m.msg) (sym q.2) (new q.0.msg (g.told q.0 q.1))) ];
          lists = lists_after (Server (record { 0 = n })) r.sends g.sends;
          servers = λ m v h. holds_later more v (elim (get-set_cases w.servers n m s r.state v there h) [ inl k ↦ subst (HoldsGood (Good w.sent) Anywhere) (sym k.1) (anywhere r.state n g.state) | inr k ↦ nw.servers m v k.1 ]);
          taken = λ m c e x h. told_later more x (nw.taken m c e x h);
        }
      where
        number : s.shard.0 ≡ n
        number = (o.means.servers n s there).number

        new : (msg : Msg) → IsToldBy s.shard r.state msg → IsToldHere (slice_set w.servers n r.state) msg
        new (StartOk id group at bound outs edges facts) k = (r.state, subst (λ m. slice_get (slice_set w.servers n r.state) m ≡ Some r.state) (sym (ap (λ (s : Shard). s.0) k.0 ∙ number)) (get-set_here w.servers n s r.state there), inl (k.1, k.2))
        new (CommitOk id at outs) k = (r.state, subst (λ m. slice_get (slice_set w.servers n r.state) m ≡ Some r.state) (sym (ap (λ (s : Shard). s.0) k.0 ∙ number)) (get-set_here w.servers n s r.state there), k.1)
        new msg k = tt

        still_found : (id : TxnId) (group : ℕ) → ((e : StartedGroup) × (find_group id group s.started ≡ Some e)) ⊎ IsGone s id → ((e : StartedGroup) × (find_group id group r.state.started ≡ Some e)) ⊎ IsGone r.state id
        still_found id group (inl k) = elim (g.kept id group k.0 k.1) [ inl f ↦ inl (f.0, f.1) | inr gone ↦ inr gone ]
        still_found id group (inr gone) = inr (g.gone id gone)

        still : (msg : Msg) → IsToldHere w.servers msg → IsToldHere (slice_set w.servers n r.state) msg
        still (StartOk id group at bound outs edges facts) (v, e, k) = elim (cases_eq n at.0) [
          | inl same ↦
              (let mine = same_there w.servers n v s (subst (λ m. slice_get w.servers m ≡ Some v) (sym same) e) there in (
                r.state,
                subst (λ m. slice_get (slice_set w.servers n r.state) m ≡ Some r.state) same (get-set_here w.servers n s r.state there),
                still_found id group (subst (λ (v : ServerState). ((e : StartedGroup) × (find_group id group v.started ≡ Some e)) ⊎ IsGone v id) mine k),
              ))
          | inr other ↦ (v, get-set_other w.servers n at.0 r.state other ∙ e, k)
        ]
        still (CommitOk id at outs) (v, e, k) = elim (cases_eq n at.0) [
          | inl same ↦
              (let mine = same_there w.servers n v s (subst (λ m. slice_get w.servers m ≡ Some v) (sym same) e) there in (
                r.state,
                subst (λ m. slice_get (slice_set w.servers n r.state) m ≡ Some r.state) same (get-set_here w.servers n s r.state there),
                elim (subst (λ (v : ServerState). (is_here id v.started ≡ true) ⊎ IsGone v id) mine k) [ inl here ↦ g.here id here | inr gone ↦ inr (g.gone id gone) ],
              ))
          | inr other ↦ (v, get-set_other w.servers n at.0 r.state other ∙ e, k)
        ]
        still msg k = tt
