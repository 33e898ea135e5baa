-- What a server's step does with kept reads: each is kept still or answered, and what is kept waits for who is not decided
use Rattle.std.proofs.Common.{◌≡◌, ◌∙◌, ◌⊎◌, inl, inr, ◌==◌, ◌&&◌, Bool, true, false, not, cond, List, [], ◌∷◌, ◌++◌, refl, sym, subst}
use Rattle.std.proofs.lemmas.Bool.{false≢true, and_parts, eqb-true, not-true, not_from_false}
use Rattle.std.specs.Prelude.{if◌then◌else◌}
use Rattle.std.specs.List.{filter, list_any}
use Rattle.roc_sequence.specs.Lists.{Has}
use Rattle.roc_sequence.specs.Places.{is_listed}
use Rattle.roc_sequence.proofs.Holds.{any_has}
use Rattle.roc_sequence.proofs.Members.{has_left, has_right, has_map, from_has_map, has_filter, from_has_filter}
use Rattle.roc_sequence.proofs.Places.{listed_test}
use Rattle.roc_base.specs.Equality.{is_nums}
use Rattle.roc_base.specs.Equalities.{is_txn-true, Decides-is_nums}
use Rattle.roc_base.specs.TxnId.{is_txn}
use Rattle.roc_depgraph.specs.Deps.{IsDecided}
use Rattle.roc_msg.specs.declared.msg.Msg.{Msg}
use Rattle.roc_msg.specs.declared.msg.Msg.TheVariants.{Read}
use Rattle.roc_msg.specs.declared.outbox.Outgoing.{Outgoing}
use Rattle.roc_rows.specs.Versions.{Counts}
use Rattle.roc_plan.specs.Groups.{Plan}
use Rattle.roc_step.specs.declared.handled.Handled.{Handled}
use Rattle.roc_step.specs.declared.handled.Handled.TheVariants as server_answer
use Rattle.roc_step.specs.declared.kept_read.KeptRead.{KeptRead}
use Rattle.roc_step.specs.declared.started.StartedGroup.{StartedGroup}
use Rattle.roc_step.specs.State.{ServerState, ServerStep, Viewing}
use Rattle.roc_step.specs.Runs.{accesses_of}
use Rattle.roc_step.specs.Reads.{is_taken, with_accesses, is_same_read, with_read, reads_with, holds_up, is_free, is_read_before, put_read, in_turn, readok_of, answering, AnswersReads, ReadStep}
use Rattle.roc_law_world.proofs.ViewServed.{turn_has}

-- a group that started here, of a transaction that is not decided here, writes a cell that the read's group reads
pub record IsHeld (plan : Plan) (s : ServerState) (x : KeptRead) : Type 0 where
  pub by : StartedGroup
  pub has : Has by s.started
  pub undecided : ¬ IsDecided s.lists.links by.id
  pub writes : holds_up plan s x by ≡ true

-- ---- lists

put_there : (q x : KeptRead) (rs : List KeptRead) → Has x (q ∷ rs) → Has x (put_read q rs)
put_there q x [] h = h
put_there q x (r ∷ rs) h = go (is_read_before r q) h (put_there q x rs)
  where
    go : (b : Bool) → Has x (q ∷ r ∷ rs) → (Has x (q ∷ rs) → Has x (put_read q rs)) → Has x (cond b (r ∷ put_read q rs) (q ∷ r ∷ rs))
    go true (inl e) ih = inr (ih (inl e))
    go true (inr (inl e)) ih = inl e
    go true (inr (inr k)) ih = inr (ih (inr k))
    go false k ih = k

turn_there : (x : KeptRead) (qs : List KeptRead) → Has x qs → Has x (in_turn qs)
turn_there x [] h = h
turn_there x (q ∷ qs) (inl e) = put_there q x (in_turn qs) (inl e)
turn_there x (q ∷ qs) (inr h) = put_there q x (in_turn qs) (inr (turn_there x qs h))

same_read : (q r : KeptRead) → is_same_read q r ≡ true → q ≡ r
same_read q r h =
    let a = and_parts (is_txn q.id r.id) (q.round == r.round && (q.proc == r.proc && (q.group == r.group && is_nums q.args r.args))) h in
    let b = and_parts (q.round == r.round) (q.proc == r.proc && (q.group == r.group && is_nums q.args r.args)) a.1 in
    let c = and_parts (q.proc == r.proc) (q.group == r.group && is_nums q.args r.args) b.1 in
    let d = and_parts (q.group == r.group) (is_nums q.args r.args) c.1 in
    let id = is_txn-true q.id r.id a.0 in
    let round = eqb-true q.round r.round b.0 in
    let proc = eqb-true q.proc r.proc c.0 in
    let group = eqb-true q.group r.group d.0 in
    let args = (Decides-is_nums q.args r.args).0 d.1 in
    λ i. record { id = id i; round = round i; proc = proc i; group = group i; args = args i }

-- a read that is taken is kept, or was
read_there : (q : KeptRead) (reads : List KeptRead) → Has q (with_read q reads)
read_there q reads = go (list_any (is_same_read q) reads) refl
  where
    go : (b : Bool) → list_any (is_same_read q) reads ≡ b → Has q (cond b reads (reads ++ q ∷ []))
    go true e = let p = any_has (is_same_read q) reads e in subst (λ x. Has x reads) (sym (same_read q p.0 p.2)) p.1
    go false e = has_right q reads (q ∷ []) (inl refl)

-- and what was kept is
pub was_there : (x : KeptRead) (msg : Msg) (answer : Handled) (reads : List KeptRead) → Has x reads → Has x (reads_with msg answer reads)
was_there x (Read id round proc group args) server_answer.Done reads h = go (list_any (is_same_read q) reads)
  where
    q : KeptRead
    q = record { id = id; round = round; proc = proc; group = group; args = args }

    go : (b : Bool) → Has x (cond b reads (reads ++ q ∷ []))
    go true = h
    go false = has_left x reads (q ∷ []) h
was_there x (Read id round proc group args) server_answer.Gone reads h = h
was_there x (Read id round proc group args) (server_answer.Ignored reason) reads h = h
was_there x msg answer reads h = h

module _ (plan : Plan) (v : Viewing) (msg : Msg) (r : ServerStep) (q : ReadStep) (a : AnswersReads plan v msg r q) where
  abbrev reads : List KeptRead
  reads = reads_with msg r.answer v.reads

  abbrev counts : Counts
  counts = with_accesses v.versions (accesses_of r.ran)

  abbrev free : KeptRead → Bool
  free = is_free plan a.decided r.state

  -- what comes of it for reads, by whether the message was ignored
  abbrev behind : Bool → ReadStep
  behind b = if b then answering plan a.decided r.state (with_accesses v.versions (accesses_of r.ran)) (reads_with msg r.answer v.reads) else record { viewing = v; sends = [] }

  -- a message that is ignored teaches no read
  ignored_reads : is_taken r.answer ≡ false → (x : KeptRead) → Has x (reads_with msg r.answer v.reads) → Has x v.reads
  ignored_reads e x h = go msg r.answer e h
    where
      go : (msg : Msg) (answer : Handled) → is_taken answer ≡ false → Has x (reads_with msg answer v.reads) → Has x v.reads
      go (Read id round proc group args) (server_answer.Ignored reason) e k = k
      go (Read id round proc group args) server_answer.Done e k = absurd (false≢true (sym e))
      go (Read id round proc group args) server_answer.Gone e k = absurd (false≢true (sym e))
      go msg answer e k = k

  -- each is kept still, or answered
  pub kept_or_told : (x : KeptRead) → Has x (reads_with msg r.answer v.reads) → Has x q.viewing.reads ⊎ Has (readok_of plan r.state (with_accesses v.versions (accesses_of r.ran)) x) q.sends
  kept_or_told x h = subst (λ (q : ReadStep). Has x q.viewing.reads ⊎ Has (readok_of plan r.state counts x) q.sends) (sym a.is) (go (is_taken r.answer) refl)
    where
      either : (b : Bool) → is_free plan a.decided r.state x ≡ b
          → Has x (behind true).viewing.reads ⊎ Has (readok_of plan r.state (with_accesses v.versions (accesses_of r.ran)) x) (behind true).sends
      either true e = inr (has_map (readok_of plan r.state counts) x (in_turn (filter free reads)) (turn_there x (filter free reads) (has_filter free x reads h e)))
      either false e = inl (has_filter (λ x. not (is_free plan a.decided r.state x)) x reads h (not_from_false (free x) e))

      go : (b : Bool) → is_taken r.answer ≡ b → Has x (behind b).viewing.reads ⊎ Has (readok_of plan r.state (with_accesses v.versions (accesses_of r.ran)) x) (behind b).sends
      go true e = either (is_free plan a.decided r.state x) refl
      go false e = inl (ignored_reads e x h)

  -- what is kept was, or comes
  pub kept_was : (x : KeptRead) → Has x q.viewing.reads → Has x (reads_with msg r.answer v.reads)
  kept_was x h = go (is_taken r.answer) refl (subst (λ (q : ReadStep). Has x q.viewing.reads) a.is h)
    where
      go : (b : Bool) → is_taken r.answer ≡ b → Has x (behind b).viewing.reads → Has x (reads_with msg r.answer v.reads)
      go true e k = (from_has_filter (λ x. not (is_free plan a.decided r.state x)) x reads k).0
      go false e k = was_there x msg r.answer v.reads k

  -- behind a message that is ignored it was
  pub ignored_was : is_taken r.answer ≡ false → (x : KeptRead) → Has x q.viewing.reads → Has x v.reads
  ignored_was e x h = ignored_reads e x (kept_was x h)

  -- what is sent answers one of them
  pub told_is : (out : Outgoing) → Has out q.sends → (x : KeptRead) × Has x (reads_with msg r.answer v.reads) × (out ≡ readok_of plan r.state (with_accesses v.versions (accesses_of r.ran)) x)
  told_is out h = go (is_taken r.answer) (subst (λ (q : ReadStep). Has out q.sends) a.is h)
    where
      go : (b : Bool) → Has out (behind b).sends → (x : KeptRead) × Has x (reads_with msg r.answer v.reads) × (out ≡ readok_of plan r.state (with_accesses v.versions (accesses_of r.ran)) x)
      go true k =
          let p = from_has_map (readok_of plan r.state counts) out (in_turn (filter free reads)) k in
          (p.0, (from_has_filter free p.0 reads (turn_has p.0 (filter free reads) p.1)).0, p.2)
      go false k = absurd k

  -- and what is kept behind a step that took its message is not free
  pub kept_is_held : is_taken r.answer ≡ true → (x : KeptRead) → Has x q.viewing.reads → IsHeld plan r.state x
  kept_is_held taken x h =
      let k : Has x (behind true).viewing.reads = subst (λ b. Has x (behind b).viewing.reads) taken (subst (λ (q : ReadStep). Has x q.viewing.reads) a.is h) in
      let f = (from_has_filter (λ x. not (is_free plan a.decided r.state x)) x reads k).1 in
      held (list_any (λ e. not (is_listed is_txn a.decided e.id) && holds_up plan r.state x e) r.state.started) refl (not-true (is_free plan a.decided r.state x) f)
    where
      held : (b : Bool) → list_any (λ e. not (is_listed is_txn a.decided e.id) && holds_up plan r.state x e) r.state.started ≡ b → not b ≡ false → IsHeld plan r.state x
      held true e k =
          let p = any_has (λ (e : StartedGroup). not (is_listed is_txn a.decided e.id) && holds_up plan r.state x e) r.state.started e in
          let both = and_parts (not (is_listed is_txn a.decided p.0.id)) (holds_up plan r.state x p.0) p.2 in
          record {
            by = p.0;
            has = p.1;
            undecided = λ d. false≢true (sym (not-true (is_listed is_txn a.decided p.0.id) both.0) ∙ listed_test is_txn a.decided p.0.id (a.found.complete p.0.id d));
            writes = both.1;
          }
      held false e k = absurd (false≢true (sym k))

  -- the read that a message brings is kept, or answered
  pub brought : (x : KeptRead) → msg ≡ Read x.id x.round x.proc x.group x.args → r.answer ≡ server_answer.Done → Has x (reads_with msg r.answer v.reads)
  brought x is done = subst (λ answer. Has x (reads_with msg answer v.reads)) (sym done) (subst (λ msg. Has x (reads_with msg server_answer.Done v.reads)) (sym is) (read_there x v.reads))
