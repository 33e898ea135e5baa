-- A server takes a step: what it keeps and tells for views still says of the log what it has to
use Rattle.std.proofs.Common.{◌≡◌, ◌≢◌, ◌∙◌, ◌⊎◌, inl, inr, ℕ, ℤ, ◌+◌, ◌≤◌, min, Bool, true, false, not, cond, List, [], ◌∷◌, ◌++◌, Some, map, refl, sym, ap, subst, arith, append-nil}
use Rattle.std.proofs.lemmas.Bool.{false≢true}
use Rattle.std.specs.Prelude.{slice_get, slice_set, if◌then◌else◌}
use Rattle.std.specs.List.{filter, list_any}
use Rattle.roc_sequence.specs.Lists.{Has}
use Rattle.roc_sequence.proofs.Members.{has_append, has_one, from_has_map, from_has_filter}
use Rattle.roc_base.specs.declared.id.TxnId.{TxnId}
use Rattle.roc_base.specs.declared.node.Node.TheVariants.{Server, Coord}
use Rattle.roc_base.specs.declared.node.Shard.{Shard}
use Rattle.roc_msg.specs.declared.msg.Msg.{Msg}
use Rattle.roc_msg.specs.declared.msg.Msg.TheVariants.{Read, ReadOk}
use Rattle.roc_msg.specs.declared.msg.Envelope.{Envelope}
use Rattle.roc_msg.specs.declared.outbox.Outgoing.{Outgoing}
use Rattle.roc_rows.specs.declared.cell.Cell.{Cell}
use Rattle.roc_rows.specs.Versions.{Counts, version}
use Rattle.roc_plan.specs.Groups.{Plan, is_view_of, shard_of, group_place}
use Rattle.roc_whole.specs.Serial as whole
use Rattle.roc_law_log.specs.Scheme.{Scheme, IsSoundScheme}
use Rattle.roc_law_log.specs.Log.{Log}
use Rattle.roc_law_log.specs.Steps.{LogSteps, no_steps}
use Rattle.roc_law_log.specs.Invariants.{LogInvariants, LogGrows}
use Rattle.roc_law_log.specs.Clean.{writes_to, writes_among}
use Rattle.roc_law_log.proofs.Following.{AreFound}
use Rattle.roc_step.specs.declared.handled.Handled.{Handled}
use Rattle.roc_step.specs.declared.handled.Handled.TheVariants as server_answer
use Rattle.roc_step.specs.declared.kept_read.KeptRead.{KeptRead}
use Rattle.roc_step.specs.declared.started.StartedGroup.{StartedGroup}
use Rattle.roc_step.specs.State.{ServerStep, Viewing}
use Rattle.roc_step.specs.Runs.{accesses_of}
use Rattle.roc_step.specs.Reads.{is_taken, with_accesses, is_same_read, reads_with, is_free, is_read_before, put_read, in_turn, readok_of, answering, AnswersReads, ReadStep}
use Rattle.roc_audit.specs.Order.{noted}
use Rattle.roc_law_protocol.specs.PlanAssumptions.{IsSchemeOf}
use Rattle.roc_law_protocol.specs.Beginnings as protocol
use Rattle.roc_law_protocol.specs.Happens.{ran_at}
use Rattle.roc_law_protocol.specs.World.{sent_by}
use Rattle.roc_law_protocol.proofs.Means.{entry_run, RanMeans, ServerMeans}
use Rattle.roc_law_world.specs.World.{World, at_server}
use Rattle.roc_law_world.specs.Beside.{is_of_view}
use Rattle.roc_law_world.proofs.Sent.{AreOfTransactions}
use Rattle.roc_law_world.proofs.Versions.{most, writes_in, count_accesses, ran_counts, writes_more, none_elsewhere}
use Rattle.roc_law_world.proofs.Readings.{ViewLaws, AreVersions, version_in, IsReading, reading_made}
use Rattle.roc_law_world.proofs.ViewMeans.{proc_of, args_of, IsReadFor, MessageIsFor, IsOfRounds, ViewsMean}
use Rattle.roc_law_world.proofs.ViewsStay.{steps_then, kept_on, answered_on, rounds_on, for_on, of_transactions_for, no_read, no_ok}
use Rattle.roc_law_protocol.proofs.Changed.{get-set_cases}

-- ---- reads

put_has : (q x : KeptRead) (rs : List KeptRead) → Has x (put_read q rs) → Has x (q ∷ rs)
put_has q x [] h = h
put_has q x (r ∷ rs) h = go (is_read_before r q) h (put_has q x rs)
  where
    go : (b : Bool) → Has x (cond b (r ∷ put_read q rs) (q ∷ r ∷ rs)) → (Has x (put_read q rs) → Has x (q ∷ rs)) → Has x (q ∷ r ∷ rs)
    go true (inl e) ih = inr (inl e)
    go true (inr k) ih = elim (ih k) [ inl e ↦ inl e | inr j ↦ inr (inr j) ]
    go false k ih = k

pub turn_has : (x : KeptRead) (qs : List KeptRead) → Has x (in_turn qs) → Has x qs
turn_has x [] h = h
turn_has x (q ∷ qs) h = elim (put_has q x (in_turn qs) h) [ inl e ↦ inl e | inr k ↦ inr (turn_has x qs k) ]

-- what is kept with a message was kept, or is its read
pub with_cases : (x : KeptRead) (msg : Msg) (answer : Handled) (reads : List KeptRead) → Has x (reads_with msg answer reads) → Has x reads ⊎ (msg ≡ Read x.id x.round x.proc x.group x.args)
with_cases x (Read id round proc group args) server_answer.Done reads h = go (list_any (is_same_read q) reads) h
  where
    q : KeptRead
    q = record { id = id; round = round; proc = proc; group = group; args = args }

    go : (b : Bool) → Has x (cond b reads (reads ++ q ∷ [])) → Has x reads ⊎ (Read id round proc group args ≡ Read x.id x.round x.proc x.group x.args)
    go true k = inl k
    go false k = elim (has_append x reads (q ∷ []) k) [ inl j ↦ inl j | inr j ↦ inr (ap (λ (r : KeptRead). Read r.id r.round r.proc r.group r.args) (sym (has_one x q j))) ]
with_cases x (Read id round proc group args) server_answer.Gone reads h = inl h
with_cases x (Read id round proc group args) (server_answer.Ignored reason) reads h = inl h
with_cases x msg answer reads h = inl h

module _ (plan : Plan) (calls : TxnId → whole.Call) (asked : TxnId → whole.Call) (S : Scheme) (start : protocol.Beginning) (before : ℕ → Counts) where
  abbrev Reads : World → Log → Log → TxnId → ℕ → Type 0
  Reads w since log id round = IsOfRounds plan calls asked S start before w since log id round

  -- ---- a server takes a message

  module _ (is : IsSchemeOf plan asked S) (sound : IsSoundScheme S) (found : AreFound S start.store) (laws : ViewLaws plan)
      (w : World) (log later : Log) (m : ViewsMean plan calls asked S start before w log) (steps : LogSteps S start.store log later)
      (i : LogInvariants S start.store log) (j : LogInvariants S start.store later) (g : LogGrows S start.store log later)
      (n : ℕ) (v : Viewing) (keeps : slice_get w.viewing n ≡ Some v) (e : Envelope) (has : Has e w.sent) (to : e.to ≡ Server (record { 0 = n }))
      (r : ServerStep) (q : ReadStep) (a : AnswersReads plan v e.msg r q) (ours : AreOfTransactions r.sends) (ignored : is_taken r.answer ≡ false → r.ran ≡ [])
      (means : ServerMeans plan asked S start later n r.state) (groups : later.past.ran ≡ log.past.ran ++ map entry_run r.ran)
      (each : (d : StartedGroup) → Has d r.ran → RanMeans plan asked S start later (ran_at n d)) (ts : List TxnId) (order : noted w.order r.decided ≡ w.order ++ ts) where
    abbrev u : World
    u = at_server w n r q

    abbrev reads : List KeptRead
    reads = reads_with e.msg r.answer v.reads

    abbrev counts : Counts
    counts = with_accesses v.versions (accesses_of r.ran)

    -- each read that was kept, or comes, is for a view
    read_for : (x : KeptRead) → Has x (reads_with e.msg r.answer v.reads) → IsReadFor plan calls w.history x.id x.proc x.group x.args n
    read_for x h = elim (with_cases x e.msg r.answer v.reads h) [
      | inl k ↦ m.are_for.kept n v keeps x k
      | inr k ↦
          (let f : MessageIsFor plan calls w.history (Read x.id x.round x.proc x.group x.args) e.to = subst (λ (msg : Msg). MessageIsFor plan calls w.history msg e.to) k (m.are_for.messages e has) in
          let same : f.0 ≡ n = the_server f.0 n (sym f.1 ∙ to) in
          subst (IsReadFor plan calls w.history x.id x.proc x.group x.args) same f.2)
    ]
      where
        the_shard : (a b : Shard) → Server a ≡ Server b → a ≡ b
        the_shard a b e = cc

        the_server : (a b : ℕ) → Server (record { 0 = a }) ≡ Server (record { 0 = b }) → a ≡ b
        the_server a b e = ap (λ (s : Shard). s.0) (the_shard (record { 0 = a }) (record { 0 = b }) e)

    -- and of no later round than is under way
    read_round : (since : Log) (id : TxnId) (round : ℕ) → Reads w since log id round → (x : KeptRead) → Has x (reads_with e.msg r.answer v.reads) → x.id ≡ id → x.round ≤ round
    read_round since id round k x h same = elim (with_cases x e.msg r.answer v.reads h) [
      | inl f ↦ k.kept n v keeps x f same
      | inr f ↦ k.reads e has x.round x.proc x.group x.args (f ∙ ap (λ t. Read t x.round x.proc x.group x.args) same)
    ]

    -- ---- versions

    abbrev counted : Cell → ℕ
    counted x = version (before (S.cell_shard x)) x + writes_to S start.store log x

    more_writes : (x : Cell) → writes_to S start.store later x ≡ writes_to S start.store log x + writes_among S.behaviour start.store later.past.ran x (map entry_run r.ran)
    more_writes x = writes_more plan asked S start log later (map entry_run r.ran) x i g groups

    counts_here : (x : Cell) → S.cell_shard x ≡ n → version counts x ≡ version_in plan asked S start before later x
    counts_here x at =
        let old = count_accesses v.versions (accesses_of r.ran) x (counted x) (m.versions n v keeps x at) in
        let ran = ran_counts plan asked S start later n x r.ran each in
        let all = more_writes x in
        old ∙ ap (λ k. min k most) (total (version (before (S.cell_shard x)) x) (writes_to S start.store log x) (writes_in x (accesses_of r.ran)) (writes_to S start.store later x) (all ∙ ap (λ k. writes_to S start.store log x + k) ran))
      where
        total : (b o c l : ℕ) → l ≡ o + c → b + o + c ≡ b + l
        total b o c l e = omega arith

    counts_elsewhere : (k : ℕ) → n ≢ k → (z : Viewing) → slice_get w.viewing k ≡ Some z → (x : Cell) → S.cell_shard x ≡ k → version z.versions x ≡ version_in plan asked S start before later x
    counts_elsewhere k other z there x at =
        let none = none_elsewhere plan asked S start sound found later j n k x at other r.ran each in
        let all = more_writes x in
        m.versions k z there x at ∙ ap (λ c. min c most) (total (version (before (S.cell_shard x)) x) (writes_to S start.store log x) (writes_to S start.store later x) (all ∙ ap (λ c. writes_to S start.store log x + c) none))
      where
        total : (b o l : ℕ) → l ≡ o + 0 → b + o ≡ b + l
        total b o l e = omega arith

    -- what is kept for views behind the step, and what is told
    pub record IsRight : Type 0 where
      pub versions : AreVersions plan asked S start before later n q.viewing.versions
      pub kept : (x : KeptRead) → Has x q.viewing.reads → Has x (reads_with e.msg r.answer v.reads)
      -- each that is told answers a read, by the log behind the step
      pub told : (out : Outgoing) → Has out q.sends → (x : KeptRead) × Has x (reads_with e.msg r.answer v.reads) × (vs : List ℕ) × (outs : List ℤ)
          × (out ≡ record { to = Coord x.id.coord; msg = ReadOk x.id x.round x.group r.state.shard vs outs }) × IsReading plan asked S start before later x.proc x.group x.args vs outs

    right : IsRight
    right = go (is_taken r.answer) refl
      where
        go : (b : Bool) → is_taken r.answer ≡ b → IsRight
        go false k =
            let same : q ≡ record { viewing = v; sends = [] } = a.is ∙ ap (λ b. if b then answering plan a.decided r.state counts reads else record { viewing = v; sends = [] }) k in
            record {
              versions = subst (λ (q : ReadStep). AreVersions plan asked S start before later n q.viewing.versions) (sym same)
                  (λ x at. ap (λ c. version c x) (sym (ap (λ es. with_accesses v.versions (accesses_of es)) (ignored k))) ∙ counts_here x at);
              kept = λ x h. kept_still x (subst (λ (q : ReadStep). Has x q.viewing.reads) same h) (r.answer) k;
              told = λ out h. absurd (subst (λ (q : ReadStep). Has out q.sends) same h);
            }
          where
            kept_still : (x : KeptRead) → Has x v.reads → (answer : Handled) → is_taken answer ≡ false → Has x (reads_with e.msg answer v.reads)
            kept_still x h server_answer.Done k = absurd (false≢true (sym k))
            kept_still x h server_answer.Gone k = absurd (false≢true (sym k))
            kept_still x h (server_answer.Ignored reason) k = ignored_with e.msg reason
              where
                ignored_with : (msg : Msg) (reason : _) → Has x (reads_with msg (server_answer.Ignored reason) v.reads)
                ignored_with (Read id round proc group args) reason = h
                ignored_with msg reason = h
        go true k =
            let same : q ≡ answering plan a.decided r.state counts reads = a.is ∙ ap (λ b. if b then answering plan a.decided r.state counts reads else record { viewing = v; sends = [] }) k in
            record {
              versions = subst (λ (q : ReadStep). AreVersions plan asked S start before later n q.viewing.versions) (sym same) counts_here;
              kept = λ x h. (from_has_filter (λ (x : KeptRead). not (is_free plan a.decided r.state x)) x reads (subst (λ (q : ReadStep). Has x q.viewing.reads) same h)).0;
              told = λ out h.
                  (let p = from_has_map (readok_of plan r.state counts) out (in_turn (filter (is_free plan a.decided r.state) reads)) (subst (λ (q : ReadStep). Has out q.sends) same h) in
                  let f = from_has_filter (is_free plan a.decided r.state) p.0 reads (turn_has p.0 (filter (is_free plan a.decided r.state) reads) p.1) in
                  let x = read_for p.0 f.0 in (
                    p.0,
                    f.0,
                    _,
                    _,
                    p.2,
                    reading_made plan asked S start before is sound found laws later j n r.state means counts counts_here p.0
                        (ap (is_view_of plan) x.procedure ∙ x.view) (placed_here p.0 x) a.decided a.found f.1,
                  ));
            }
          where
            placed_here : (x : KeptRead) → IsReadFor plan calls w.history x.id x.proc x.group x.args n → shard_of plan (group_place plan x.proc x.group x.args []) ≡ n
            placed_here x f = ap (λ p. shard_of plan (group_place plan p x.group x.args [])) f.procedure ∙ (ap (λ l. shard_of plan (group_place plan (proc_of plan calls x.id) x.group l [])) f.arguments ∙ f.here)

    -- ---- all of it

    viewing_cases : (k : ℕ) (z : Viewing) → slice_get (slice_set w.viewing n q.viewing) k ≡ Some z → ((n ≡ k) × (z ≡ q.viewing)) ⊎ ((n ≢ k) × (slice_get w.viewing k ≡ Some z))
    viewing_cases k z there = get-set_cases w.viewing n k v q.viewing z keeps there

    new_messages : (x : Envelope) → Has x (map (sent_by (Server (record { 0 = n }))) (r.sends ++ q.sends))
        → (is_of_view x.msg ≡ false) ⊎ ((out : Outgoing) × Has out q.sends × (x ≡ sent_by (Server (record { 0 = n })) out))
    new_messages x h =
        let p = from_has_map (sent_by (Server (record { 0 = n }))) x (r.sends ++ q.sends) h in
        elim (has_append p.0 r.sends q.sends p.1) [
          | inl k ↦ inl (ap (λ (x : Envelope). is_of_view x.msg) p.2 ∙ ours p.0 k)
          | inr k ↦ inr (p.0, k, p.2)
        ]

    same_calls : (x : KeptRead) → IsReadFor plan calls w.history x.id x.proc x.group x.args n → (vs : List ℕ) (outs : List ℤ) → IsReading plan asked S start before later x.proc x.group x.args vs outs
        → IsReading plan asked S start before later (proc_of plan calls x.id) x.group (args_of plan calls x.id) vs outs
    same_calls x f vs outs k =
        subst (λ l. IsReading plan asked S start before later (proc_of plan calls x.id) x.group l vs outs) f.arguments (subst (λ p. IsReading plan asked S start before later p x.group x.args vs outs) f.procedure k)

    fresh_for : (x : Envelope) → Has x (map (sent_by (Server (record { 0 = n }))) (r.sends ++ q.sends)) → MessageIsFor plan calls w.history x.msg x.to
    fresh_for x h = elim (new_messages x h) [
      | inl k ↦ of_transactions_for plan calls asked S start before w.history x.msg x.to k
      | inr k ↦
          (let t = right.told k.0 k.1 in
          let f = read_for t.0 t.1 in
          subst (λ (y : Envelope). MessageIsFor plan calls w.history y.msg y.to) (sym (k.2 ∙ ap (sent_by (Server (record { 0 = n }))) t.4))
          (record { submitted = f.submitted; view = f.view; there = f.there; here = f.here ∙ sym means.number }, refl))
    ]

    kept_for : (k : ℕ) (z : Viewing) → slice_get (slice_set w.viewing n q.viewing) k ≡ Some z → (x : KeptRead) → Has x z.reads → IsReadFor plan calls w.history x.id x.proc x.group x.args k
    kept_for k z there x h = elim (viewing_cases k z there) [
      | inl c ↦ subst (IsReadFor plan calls w.history x.id x.proc x.group x.args) c.0 (read_for x (right.kept x (subst (λ (z : Viewing). Has x z.reads) c.1 h)))
      | inr c ↦ m.are_for.kept k z c.1 x h
    ]

    -- what a readok says
    record OkParts (x : KeptRead) (vs : List ℕ) (outs : List ℤ) (id : TxnId) (round group : ℕ) (us : List ℕ) (gave : List ℤ) : Type 0 where
      same_id : x.id ≡ id
      same_round : x.round ≡ round
      same_group : x.group ≡ group
      same_versions : vs ≡ us
      same_outs : outs ≡ gave

    parts : (x : KeptRead) (shard at : Shard) (vs us : List ℕ) (outs gave : List ℤ) (id : TxnId) (round group : ℕ) → ReadOk x.id x.round x.group shard vs outs ≡ ReadOk id round group at us gave
        → OkParts x vs outs id round group us gave
    parts x shard at vs us outs gave id round group e = record { same_id = cc; same_round = cc; same_group = cc; same_versions = cc; same_outs = cc }

    as_told : (x : KeptRead) → IsReadFor plan calls w.history x.id x.proc x.group x.args n → (vs us : List ℕ) (outs gave : List ℤ) (id : TxnId) (round group : ℕ) → IsReading plan asked S start before later x.proc x.group x.args vs outs
        → OkParts x vs outs id round group us gave → IsReading plan asked S start before later (proc_of plan calls id) group (args_of plan calls id) us gave
    as_told x f vs us outs gave id round group k p =
        subst (λ t. IsReading plan asked S start before later (proc_of plan calls t) group (args_of plan calls t) us gave) p.same_id
        (subst (λ c. IsReading plan asked S start before later (proc_of plan calls x.id) c (args_of plan calls x.id) us gave) p.same_group
        (subst (λ l. IsReading plan asked S start before later (proc_of plan calls x.id) x.group (args_of plan calls x.id) l gave) p.same_versions
        (subst (λ l. IsReading plan asked S start before later (proc_of plan calls x.id) x.group (args_of plan calls x.id) vs l) p.same_outs (same_calls x f vs outs k))))

    rounds_served : (id : TxnId) (round : ℕ) (since : Log) → LogSteps S start.store since log → Reads w since log id round → Reads (at_server w n r q) since later id round
    rounds_served id round since from k =
        rounds_on plan calls asked S start before w (at_server w n r q) log later steps id round since (map (sent_by (Server (record { 0 = n }))) (r.sends ++ q.sends)) refl
        (λ x h c proc group args f. elim (new_messages x h) [
          | inl y ↦ absurd (no_read plan calls asked S start before x.msg y id c proc group args f)
          | inr y ↦ (let t = right.told y.0 y.1 in absurd (not_a_read (sym (ap (λ (x : Envelope). x.msg) (y.2 ∙ ap (sent_by (Server (record { 0 = n }))) t.4)) ∙ f)))
        ])
        (λ x h c group shard vs outs f. elim (new_messages x h) [
          | inl y ↦ absurd (no_ok plan calls asked S start before x.msg y id c group shard vs outs f)
          | inr y ↦
              (let t = right.told y.0 y.1 in
              let p = parts t.0 r.state.shard shard t.2 vs t.3 outs id c group (sym (ap (λ (x : Envelope). x.msg) (y.2 ∙ ap (sent_by (Server (record { 0 = n }))) t.4)) ∙ f) in (
                subst (λ (c : ℕ). c ≤ round) p.same_round (read_round since id round k t.0 t.1 p.same_id),
                λ same. record { log = later; since = steps_then S start.store since log later from steps; until = no_steps; reading = as_told t.0 (read_for t.0 t.1) t.2 vs t.3 outs id c group t.5 p },
              ))
        ])
        (λ c z there x h same. elim (viewing_cases c z there) [
          | inl d ↦ read_round since id round k x (right.kept x (subst (λ (z : Viewing). Has x z.reads) d.1 h)) same
          | inr d ↦ k.kept c z d.1 x h same
        ])
        k
      where
        not_a_read : {a b : TxnId} {c g c2 p2 g2 : ℕ} {s : Shard} {vs : List ℕ} {outs args : List ℤ} → ReadOk a c g s vs outs ≡ Read b c2 p2 g2 args → ⊥
        not_a_read e = cc

    -- after a server has taken a message the same holds
    pub views_served : ViewsMean plan calls asked S start before (at_server w n r q) later
    views_served =
        record {
          versions = λ k z there. elim (viewing_cases k z there) [
            | inl c ↦ subst (λ k. AreVersions plan asked S start before later k z.versions) c.0 (subst (λ (z : Viewing). AreVersions plan asked S start before later n z.versions) (sym c.1) right.versions)
            | inr c ↦ (λ x at. counts_elsewhere k c.0 z c.1 x at)
          ];
          are_for = for_on plan calls asked S start before w (at_server w n r q) log later steps [] (sym (append-nil w.history)) (map (sent_by (Server (record { 0 = n }))) (r.sends ++ q.sends)) refl fresh_for kept_for m.are_for;
          views = λ k c there x h. let z = m.views k c there x h in
              kept_on plan calls asked S start before w (at_server w n r q) log later steps x [] (sym (append-nil w.looks)) (λ l h. absurd h) [] (sym (append-nil w.history)) (λ reply h. h)
              (λ since from rounds. rounds_served x.id x.round since from rounds) z;
          answered = λ id reply view h. answered_on plan calls asked S start before w (at_server w n r q) log later steps id reply [] (sym (append-nil w.looks)) (λ l h. absurd h) ts order (m.answered id reply view h);
          given = m.given;
          numbers = m.numbers;
          told = m.told;
          own = m.own;
          one = m.one;
        }
