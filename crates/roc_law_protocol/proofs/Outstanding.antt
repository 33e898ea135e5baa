-- What was sent for a pending transaction, and what it waits for
use Rattle.std.proofs.Common.{◌≡◌, ℕ, ℤ, ◌<◌, ◌==◌, ◌&&◌, Bool, true, false, cond, List, [], ◌++◌, Option, Some, None, map, refl, sym, ap, subst, ◌∙◌, inl, inr, is_some, is_none}
use Rattle.std.proofs.lemmas.Bool.{false≢true, and_parts, and_from, eq-eqb, false_from_ne_true}
use Rattle.std.specs.Prelude.{find, if◌then◌else◌}
use Rattle.roc_sequence.specs.Lists.{Has}
use Rattle.roc_sequence.proofs.Holds.{any_has, every_has}
use Rattle.roc_sequence.proofs.Found.{found_has, none_found}
use Rattle.roc_sequence.proofs.Members.{has_append, has_left, has_right, has_map, has_filter, from_has_map}
use Rattle.roc_base.specs.declared.id.TxnId.{TxnId}
use Rattle.roc_base.specs.declared.node.Node.{Node}
use Rattle.roc_base.specs.declared.node.Node.TheVariants.{Server}
use Rattle.roc_base.specs.declared.node.Shard.{Shard}
use Rattle.roc_base.specs.Edge.{Dependency}
use Rattle.roc_depgraph.specs.declared.known.KnownList.{KnownList}
use Rattle.roc_msg.specs.declared.msg.Msg.TheVariants.{Start, Commit}
use Rattle.roc_msg.specs.declared.msg.Envelope.{Envelope}
use Rattle.roc_msg.specs.declared.outbox.Outgoing.{Outgoing}
use Rattle.roc_plan.specs.Groups.{Plan}
use Rattle.roc_coord.specs.declared.transaction.Transaction.{Transaction}
use Rattle.roc_coord.specs.declared.transaction.SentStart.{SentStart}
use Rattle.roc_coord.specs.declared.transaction.TakenStart.{TakenStart}
use Rattle.roc_coord.specs.declared.transaction.TakenCommit.{TakenCommit}
use Rattle.roc_coord.specs.State.{find_start, find_startok, was_asked, has_commitok}
use Rattle.roc_coord.specs.Starts.{group_numbers, inputs_for, is_ready, can_start, ready_groups, start_for, sent_start, with_starts, starts_of, all_started, all_edges, all_facts, shards_of, commit_to, commits_of}
use Rattle.roc_coord.specs.Commits.{all_committed}
use Rattle.roc_coord.specs.Step.{with_commits, commits_for, with_startok, sends_after, with_commitok}
use Rattle.roc_coord.specs.Submit.{unstarted}
use Rattle.roc_law_protocol.specs.World.{sent_by}
use Rattle.roc_law_protocol.proofs.Replies.{shard_listed}

-- a start of a group of t went to the shard
pub record IsStartOut (sent : List Envelope) (t : TxnId) (group : ℕ) (shard : Shard) : Type 0 where
  pub message : Envelope
  pub has : Has message sent
  pub to : message.to ≡ Server shard
  pub proc : ℕ
  pub args : List ℤ
  pub inputs : List ℤ
  pub is : message.msg ≡ Start t proc group args inputs

-- a commit of t went to the shard
pub record IsCommitOut (sent : List Envelope) (t : TxnId) (shard : Shard) : Type 0 where
  pub message : Envelope
  pub has : Has message sent
  pub to : message.to ≡ Server shard
  pub edges : List Dependency
  pub facts : List KnownList
  pub is : message.msg ≡ Commit t edges facts

-- what stands between a transaction and its reply was sent
pub record IsOutstanding (plan : Plan) (sent : List Envelope) (x : Transaction) : Type 0 where
  -- each group whose inputs are known was asked to start, and the start was sent
  pub asks : (g : ℕ) → Has g (group_numbers plan x.proc) → is_ready plan x g ≡ true → is_some (find_start g x.starts) ≡ true
  pub starts : (z : SentStart) → Has z x.starts → IsStartOut sent x.id z.group z.shard
  -- once every group has started, a commit was sent to each shard
  pub asked : all_started plan x ≡ true → x.asked ≡ shards_of x
  pub commits : (s : Shard) → Has s x.asked → IsCommitOut sent x.id s
  -- no shard answers before, and not all have answered
  pub early : (ok : TakenCommit) → Has ok x.commitoks → all_started plan x ≡ true
  pub waits : all_started plan x ≡ true → all_committed x ≡ false

-- ---- what is sent stays

start_stays : (sent more : List Envelope) (t : TxnId) (g : ℕ) (s : Shard) → IsStartOut sent t g s → IsStartOut (sent ++ more) t g s
start_stays sent more t g s k = record { message = k.message; has = has_left k.message sent more k.has; to = k.to; proc = k.proc; args = k.args; inputs = k.inputs; is = k.is }

commit_stays : (sent more : List Envelope) (t : TxnId) (s : Shard) → IsCommitOut sent t s → IsCommitOut (sent ++ more) t s
commit_stays sent more t s k = record { message = k.message; has = has_left k.message sent more k.has; to = k.to; edges = k.edges; facts = k.facts; is = k.is }

-- so a transaction that waits still does as more is sent
pub outstanding_stays : (plan : Plan) (sent more : List Envelope) (x : Transaction) → IsOutstanding plan sent x → IsOutstanding plan (sent ++ more) x
outstanding_stays plan sent more x o =
    record {
      asks = o.asks;
      starts = λ z h. start_stays sent more x.id z.group z.shard (o.starts z h);
      asked = o.asked;
      commits = λ s h. commit_stays sent more x.id s (o.commits s h);
      early = o.early;
      waits = o.waits;
    }

-- ---- what is found

-- what passes the test is found
pub is_found : {A : Type 0} (p : A → Bool) (xs : List A) (a : A) → Has a xs → p a ≡ true → is_some (find p xs) ≡ true
is_found {A = A} p xs a h e = go (find p xs) refl
  where
    go : (o : Option A) → find p xs ≡ o → is_some o ≡ true
    go None f = absurd (false≢true (sym (none_found p xs f a h) ∙ e))
    go (Some b) f = refl

module _ (plan : Plan) (sent : List Envelope) (from : Node) (x : Transaction) where
  abbrev y : Transaction
  y = with_starts plan x

  abbrev new_starts : List SentStart
  new_starts = map (sent_start plan x) (ready_groups plan x)

  -- ---- the starts of ready groups are sent

  asks_all : (g : ℕ) → Has g (group_numbers plan x.proc) → is_ready plan x g ≡ true → is_some (find_start g y.starts) ≡ true
  asks_all g h ready = go (find_start g x.starts) refl
    where
      go : (o : Option SentStart) → find_start g x.starts ≡ o → is_some (find_start g y.starts) ≡ true
      go (Some z) e =
          let f = found_has (λ (z : SentStart). z.group == g) x.starts z e in
          is_found (λ (z : SentStart). z.group == g) y.starts z (has_left z x.starts new_starts f.0) f.1
      go None e =
          let due : Has g (ready_groups plan x) =
          has_filter (can_start plan x) g (group_numbers plan x.proc) h (and_from (is_ready plan x g) (is_none (find_start g x.starts)) ready (ap is_none e)) in
          is_found (λ (z : SentStart). z.group == g) y.starts (sent_start plan x g)
          (has_right (sent_start plan x g) x.starts new_starts (has_map (sent_start plan x) g (ready_groups plan x) due)) (eq-eqb g g refl)

  starts_out : (outs : List Outgoing) → ((out : Outgoing) → Has out (starts_of plan x) → Has out outs) → ((z : SentStart) → Has z x.starts → IsStartOut sent x.id z.group z.shard)
      → (z : SentStart) → Has z y.starts → IsStartOut (sent ++ map (sent_by from) outs) x.id z.group z.shard
  starts_out outs among old z h = elim (has_append z x.starts new_starts h) [
    | inl k ↦ start_stays sent (map (sent_by from) outs) x.id z.group z.shard (old z k)
    | inr k ↦
        (let q = from_has_map (sent_start plan x) z (ready_groups plan x) k in
        subst (λ (z : SentStart). IsStartOut (sent ++ map (sent_by from) outs) x.id z.group z.shard) (sym q.2)
        (record {
          message = sent_by from (start_for plan x q.0);
          has = has_right (sent_by from (start_for plan x q.0)) sent (map (sent_by from) outs)
              (has_map (sent_by from) (start_for plan x q.0) outs (among (start_for plan x q.0) (has_map (start_for plan x) q.0 (ready_groups plan x) q.1)));
          to = refl;
          proc = x.proc;
          args = x.args;
          inputs = inputs_for plan x q.0;
          is = refl;
        }))
  ]

-- ---- a transaction is new

pub new_outstanding : (plan : Plan) (sent : List Envelope) (from : Node) (id : TxnId) (proc : ℕ) (args : List ℤ) (g : ℕ) → Has g (group_numbers plan proc)
    → IsOutstanding plan (sent ++ map (sent_by from) (starts_of plan (unstarted id proc args))) (with_starts plan (unstarted id proc args))
new_outstanding plan sent from id proc args g number =
    let x = unstarted id proc args in
    record {
      asks = asks_all plan sent from x;
      starts = starts_out plan sent from x (starts_of plan x) (λ out h. h) (λ z h. absurd h);
      asked = λ all. absurd (none all);
      commits = λ s h. absurd h;
      early = λ ok h. absurd h;
      waits = λ all. absurd (none all);
    }
  where
    none : all_started plan (unstarted id proc args) ≡ true → ⊥
    none all = false≢true (every_has (λ g. is_some (find_startok g [])) (group_numbers plan proc) all g number)

-- ---- a startok is taken, and what follows is sent

module _ (plan : Plan) (sent : List Envelope) (from : Node) (x : Transaction) (o : IsOutstanding plan sent x) where
  module _ (ok : TakenStart) (shard : Shard) (fresh : is_some (find_startok ok.group x.startoks) ≡ false) (was : was_asked x ok.group shard ≡ true) (few : shard.0 < 64) (number : Has ok.group (group_numbers plan x.proc)) where
    abbrev told : Transaction
    told = with_startok x ok

    abbrev started : Transaction
    started = with_starts plan told

    abbrev now : List Envelope
    now = sent ++ map (sent_by from) (sends_after plan told)

    -- one group had no startok
    not_all : all_started plan x ≡ true → ⊥
    not_all all = false≢true (sym fresh ∙ every_has (λ g. is_some (find_startok g x.startoks)) (group_numbers plan x.proc) all ok.group number)

    some_shard : Has shard (shards_of started)
    some_shard =
        let a = any_has (λ (z : SentStart). z.group == ok.group && z.shard.0 == shard.0) x.starts was in
        let p = and_parts (a.0.group == ok.group) (a.0.shard.0 == shard.0) a.2 in
        shard_listed started.starts shard a.0 (has_left a.0 x.starts (map (sent_start plan told) (ready_groups plan told)) a.1) p.1 few

    -- the one that told is yet to be heard
    uncommitted : (shards : List Shard) → Has shard shards → all_committed (record started { asked = shards }) ≡ false
    uncommitted shards h =
        false_from_ne_true (all_committed (record started { asked = shards }))
        (λ all.
        let a = any_has (λ (c : TakenCommit). c.shard.0 == shard.0) x.commitoks (every_has (λ s. has_commitok s x.commitoks) shards all shard h) in
        not_all (o.early a.0 a.1))

    sent_commit : (s : Shard) → Has s (shards_of started) → Has (commit_to started s) (sends_after plan told) → IsCommitOut now x.id s
    sent_commit s h k =
        record {
          message = sent_by from (commit_to started s);
          has = has_right (sent_by from (commit_to started s)) sent (map (sent_by from) (sends_after plan told)) (has_map (sent_by from) (commit_to started s) (sends_after plan told) k);
          to = refl;
          edges = all_edges started;
          facts = all_facts started;
          is = refl;
        }

    -- what follows from it was sent in the same step
    pub startok_outstanding : IsOutstanding plan now (with_commits plan started)
    startok_outstanding = go (all_started plan started) refl
      where
        starts : (z : SentStart) → Has z started.starts → IsStartOut now x.id z.group z.shard
        starts = starts_out plan sent from told (sends_after plan told) (λ out h. has_left out (starts_of plan told) (commits_for plan started) h) o.starts

        out : (b : Bool) → all_started plan started ≡ b → b ≡ true → (s : Shard) → Has s (shards_of started) → Has (commit_to started s) (commits_for plan started)
        out b e f s h = subst (λ b. Has (commit_to started s) (if b then commits_of started else [])) (sym (e ∙ f)) (has_map (commit_to started) s (shards_of started) h)

        go : (b : Bool) → all_started plan started ≡ b → IsOutstanding plan now (cond b (record started { asked = shards_of started }) started)
        go true e =
            record {
              asks = asks_all plan sent from told;
              starts = starts;
              asked = λ all. refl;
              commits = λ s h. sent_commit s h (has_right (commit_to started s) (starts_of plan told) (commits_for plan started) (out true e refl s h));
              early = λ c h. absurd (not_all (o.early c h));
              waits = λ all. uncommitted (shards_of started) some_shard;
            }
        go false e =
            record {
              asks = asks_all plan sent from told;
              starts = starts;
              asked = λ all. absurd (false≢true (sym e ∙ all));
              commits = λ s h. commit_stays sent (map (sent_by from) (sends_after plan told)) x.id s (o.commits s h);
              early = λ c h. absurd (not_all (o.early c h));
              waits = λ all. absurd (false≢true (sym e ∙ all));
            }

  -- ---- a commitok is taken, and it is not the last

  pub commitok_outstanding : (more : List Envelope) (ok : TakenCommit) → all_started plan x ≡ true → all_committed (with_commitok x ok) ≡ false → IsOutstanding plan (sent ++ more) (with_commitok x ok)
  commitok_outstanding more ok all unheard =
      record {
        asks = o.asks;
        starts = λ z h. start_stays sent more x.id z.group z.shard (o.starts z h);
        asked = o.asked;
        commits = λ s h. commit_stays sent more x.id s (o.commits s h);
        early = λ c h. all;
        waits = λ a. unheard;
      }
