-- What is kept and told for views says of the log what it has to still, where the log goes on and nothing is done for them
use Rattle.std.proofs.Common.{◌≡◌, ◌≢◌, ◌∙◌, ◌⊎◌, inl, inr, ℕ, ℤ, ◌+◌, ◌<◌, ◌≤◌, min, true, false, List, [], ◌∷◌, ◌++◌, Some, length, take, sym, ap, subst, arith, append-nil, append_assoc}
use Rattle.std.proofs.lemmas.Bool.{false≢true}
use Rattle.std.proofs.lemmas.List.{length-append, take-append-le}
use Rattle.std.specs.Prelude.{slice_get}
use Rattle.roc_sequence.specs.Lists.{Has}
use Rattle.roc_sequence.proofs.Members.{has_append, has_left}
use Rattle.roc_base.specs.declared.id.TxnId.{TxnId}
use Rattle.roc_base.specs.declared.node.Node.{Node}
use Rattle.roc_base.specs.declared.node.Shard.{Shard}
use Rattle.roc_msg.specs.declared.msg.Msg.{Msg}
use Rattle.roc_msg.specs.declared.msg.Msg.TheVariants.{Read, ReadOk}
use Rattle.roc_msg.specs.declared.msg.Envelope.{Envelope}
use Rattle.roc_rows.specs.declared.cell.Cell.{Cell}
use Rattle.roc_rows.specs.Store.{Store}
use Rattle.roc_rows.specs.Versions.{Counts, version}
use Rattle.roc_plan.specs.Groups.{Plan}
use Rattle.roc_whole.specs.Serial as whole
use Rattle.roc_law_log.specs.Scheme.{Scheme}
use Rattle.roc_law_log.specs.Log.{Log}
use Rattle.roc_law_log.specs.Steps.{LogSteps, no_steps, one_step_more}
use Rattle.roc_law_log.specs.Clean.{writes_to}
use Rattle.roc_step.specs.declared.kept_read.KeptRead.{KeptRead}
use Rattle.roc_step.specs.State.{Viewing}
use Rattle.roc_coord.specs.State.{CoordState}
use Rattle.roc_readonly.specs.declared.view.View.{View}
use Rattle.roc_audit.specs.declared.entry.Entry.{Entry}
use Rattle.roc_audit.specs.declared.entry.Entry.TheVariants.{Submitted, Answered}
use Rattle.roc_audit.specs.History.{WasSubmitted}
use Rattle.roc_audit.specs.Woven.{Look}
use Rattle.roc_law_protocol.specs.Beginnings as protocol
use Rattle.roc_law_world.specs.World.{World}
use Rattle.roc_law_world.specs.Beside.{is_of_view}
use Rattle.roc_law_world.proofs.Versions.{most}
use Rattle.roc_law_world.proofs.ViewMeans.{IsLastLook, is_view_id, IsReadFor, MessageIsFor, AreFor, IsReadBetween, IsOfRounds, IsViewKept, IsViewAnswered, reply_behind, ViewsMean}

-- ---- logs

pub steps_then : (S : Scheme) (start : Store) (a b c : Log) → LogSteps S start a b → LogSteps S start b c → LogSteps S start a c
steps_then S start a b c ab no_steps = ab
steps_then S start a b c ab (one_step_more {some = s} bs step) = one_step_more (steps_then S start a b s ab bs) step

-- ---- places

module _ (plan : Plan) (calls : TxnId → whole.Call) (asked : TxnId → whole.Call) (S : Scheme) (start : protocol.Beginning) (before : ℕ → Counts) where
  abbrev Reads : World → Log → Log → TxnId → ℕ → Type 0
  Reads w since log id round = IsOfRounds plan calls asked S start before w since log id round

  abbrev Kept : World → Log → View → Type 0
  Kept w log v = IsViewKept plan calls asked S start before w log v

  -- ---- what stays

  pub look_on : (looks more : List Look) (id : TxnId) (behind : ℕ) → ((k : Look) → Has k more → k.id ≢ id) → IsLastLook looks id behind → IsLastLook (looks ++ more) id behind
  look_on looks more id behind none l =
      record {
        front = l.front;
        back = l.back ++ more;
        is = ap (λ ks. ks ++ more) l.is ∙ append_assoc l.front ((record { id = id; behind = behind }) ∷ l.back) more;
        none = λ k h. elim (has_append k l.back more h) [ inl j ↦ l.none k j | inr j ↦ none k j ];
      }

  pub between_on : (since log later : Log) (id : TxnId) (group : ℕ) (vs : List ℕ) (outs : List ℤ) → LogSteps S start.store log later
      → IsReadBetween plan calls asked S start before since log id group vs outs → IsReadBetween plan calls asked S start before since later id group vs outs
  between_on since log later id group vs outs steps b = record { log = b.log; since = b.since; until = steps_then S start.store b.log log later b.until steps; reading = b.reading }

  module _ (w u : World) (log later : Log) (steps : LogSteps S start.store log later) where
    -- what a coordinator keeps of a view, where nobody looks for it, and it is not answered
    pub kept_on : (v : View) → (more : List Look) → u.looks ≡ w.looks ++ more → ((k : Look) → Has k more → k.id ≢ v.id)
        → (told : List Entry) → u.history ≡ w.history ++ told → ((reply : List ℤ) → ¬ Has (Answered v.id reply) told)
        → ((since : Log) → LogSteps S start.store since log → Reads w since log v.id v.round → Reads u since later v.id v.round) → Kept w log v → Kept u later v
    kept_on v more looks none told history silent rounds k =
        record {
          since = k.since;
          reached = k.reached;
          grows = steps_then S start.store k.since log later k.grows steps;
          last_look = subst (λ l. IsLastLook l v.id (length k.since.order)) (sym looks) (look_on w.looks more v.id (length k.since.order) none k.last_look);
          submitted = (k.submitted.0, k.submitted.1, subst (λ h. Has (Submitted v.id k.submitted.0 k.submitted.1) h) (sym history) (has_left (Submitted v.id k.submitted.0 k.submitted.1) w.history told k.submitted.2));
          unanswered = λ reply h. elim (has_append (Answered v.id reply) w.history told (subst (λ h. Has (Answered v.id reply) h) history h)) [ inl j ↦ k.unanswered reply j | inr j ↦ silent reply j ];
          view = k.view;
          procedure = k.procedure;
          arguments = k.arguments;
          rounds = rounds k.since k.grows k.rounds;
          got = λ ok h. between_on k.since log later v.id ok.group ok.versions ok.outs steps (k.got ok h);
          last = k.last;
        }

    -- what holds of an answered view
    pub answered_on : (id : TxnId) (reply : List ℤ) → (more : List Look) → u.looks ≡ w.looks ++ more → ((k : Look) → Has k more → k.id ≢ id) → (ts : List TxnId) → u.order ≡ w.order ++ ts
        → IsViewAnswered plan calls asked S start before w id reply → IsViewAnswered plan calls asked S start before u id reply
    answered_on id reply more looks none ts order a =
        record {
          behind = a.behind;
          last_look = subst (λ l. IsLastLook l id a.behind) (sym looks) (look_on w.looks more id a.behind none a.last_look);
          few = subst (λ l. a.behind ≤ length l) (sym order) (let f = a.few in let l = length-append w.order ts in omega arith);
          is = a.is ∙ ap (λ l. reply_behind plan calls asked S start before l id) (sym (ap (take a.behind) order ∙ take-append-le a.behind w.order ts a.few));
        }

    -- rounds go on where of a view's messages and reads none is of a later round, and what is told of this one was read since it began
    pub rounds_on : (id : TxnId) (round : ℕ) (since : Log) → (new : List Envelope) → u.sent ≡ w.sent ++ new
        → ((m : Envelope) → Has m new → (r proc group : ℕ) (args : List ℤ) → m.msg ≡ Read id r proc group args → r ≤ round)
        → ((m : Envelope) → Has m new → (r group : ℕ) (shard : Shard) (vs : List ℕ) (outs : List ℤ) → m.msg ≡ ReadOk id r group shard vs outs → (r ≤ round) × (r ≡ round → IsReadBetween plan calls asked S start before since later id group vs outs))
        → ((n : ℕ) (v : Viewing) → slice_get u.viewing n ≡ Some v → (q : KeptRead) → Has q v.reads → q.id ≡ id → q.round ≤ round)
        → Reads w since log id round → Reads u since later id round
    rounds_on id round since new sent reads oks kept k =
        record {
          reads = λ m h r proc group args e. elim (has_append m w.sent new (subst (λ l. Has m l) sent h)) [ inl j ↦ k.reads m j r proc group args e | inr j ↦ reads m j r proc group args e ];
          kept = kept;
          oks = λ m h r group shard vs outs e. elim (has_append m w.sent new (subst (λ l. Has m l) sent h)) [
            | inl j ↦ (let o = k.oks m j r group shard vs outs e in (o.0, λ same. between_on since log later id group vs outs steps (o.1 same)))
            | inr j ↦ oks m j r group shard vs outs e
          ];
        }

    -- messages and reads are for views still
    pub for_on : (told : List Entry) → u.history ≡ w.history ++ told → (new : List Envelope) → u.sent ≡ w.sent ++ new
        → ((m : Envelope) → Has m new → MessageIsFor plan calls u.history m.msg m.to)
        → ((n : ℕ) (v : Viewing) → slice_get u.viewing n ≡ Some v → (q : KeptRead) → Has q v.reads → IsReadFor plan calls w.history q.id q.proc q.group q.args n)
        → AreFor plan calls w → AreFor plan calls u
    for_on told history new sent fresh kept a =
        record {
          messages = λ m h. elim (has_append m w.sent new (subst (λ l. Has m l) sent h)) [ inl j ↦ message_later m.msg m.to (a.messages m j) | inr j ↦ fresh m j ];
          kept = λ n v there q h. read_later q.id q.proc q.group q.args n (kept n v there q h);
        }
      where
        later_submitted : (t : TxnId) → WasSubmitted w.history t → WasSubmitted u.history t
        later_submitted t k = (k.0, k.1, subst (λ h. Has (Submitted t k.0 k.1) h) (sym history) (has_left (Submitted t k.0 k.1) w.history told k.2))

        read_later : (id : TxnId) (proc group : ℕ) (args : List ℤ) (n : ℕ) → IsReadFor plan calls w.history id proc group args n → IsReadFor plan calls u.history id proc group args n
        read_later id proc group args n r = record { submitted = later_submitted id r.submitted; view = r.view; procedure = r.procedure; arguments = r.arguments; there = r.there; here = r.here }

        message_later : (msg : Msg) (to : Node) → MessageIsFor plan calls w.history msg to → MessageIsFor plan calls u.history msg to
        message_later (Read id round proc group args) to (n, at, r) = (n, at, read_later id proc group args n r)
        message_later (ReadOk id round group shard vs outs) to (r, at) = (record { submitted = later_submitted id r.submitted; view = r.view; there = r.there; here = r.here }, at)
        message_later msg to k = k

  -- ---- nothing is done for views

  -- messages of transactions are for no view
  pub of_transactions_for : (history : List Entry) (msg : Msg) (to : Node) → is_of_view msg ≡ false → MessageIsFor plan calls history msg to
  of_transactions_for history (Read id round proc group args) to e = absurd (false≢true (sym e))
  of_transactions_for history (ReadOk id round group shard vs outs) to e = absurd (false≢true (sym e))
  of_transactions_for history msg to e = tt

  pub no_read : (msg : Msg) → is_of_view msg ≡ false → (id : TxnId) (r proc group : ℕ) (args : List ℤ) → msg ≢ Read id r proc group args
  no_read msg e id r proc group args f = false≢true (sym e ∙ ap is_of_view f)

  pub no_ok : (msg : Msg) → is_of_view msg ≡ false → (id : TxnId) (r group : ℕ) (shard : Shard) (vs : List ℕ) (outs : List ℤ) → msg ≢ ReadOk id r group shard vs outs
  no_ok msg e id r group shard vs outs f = false≢true (sym e ∙ ap is_of_view f)

  -- a world where nothing was done for views, but that the log went on, and more was told and sent of transactions
  pub record GoesOnForTransactions (w u : World) (log later : Log) : Type 0 where
    pub steps : LogSteps S start.store log later
    pub as_often : (x : Cell) → writes_to S start.store later x ≡ writes_to S start.store log x
    pub viewing : u.viewing ≡ w.viewing
    pub new : List Envelope
    pub sent : u.sent ≡ w.sent ++ new
    pub of_transactions : (m : Envelope) → Has m new → is_of_view m.msg ≡ false
    pub looks : u.looks ≡ w.looks
    pub told : List Entry
    pub history : u.history ≡ w.history ++ told
    pub silent : (id : TxnId) (reply : List ℤ) → is_view_id plan calls id ≡ true → ¬ Has (Answered id reply) told
    pub ts : List TxnId
    pub order : u.order ≡ w.order ++ ts
    pub views : (n : ℕ) (c : CoordState) → slice_get u.coords n ≡ Some c → (v : View) → Has v c.views → (b : CoordState) × (slice_get w.coords n ≡ Some b) × Has v b.views
    pub given : (t : TxnId) → WasSubmitted u.history t → (c : CoordState) × (slice_get u.coords t.coord ≡ Some c) × (c.number ≡ t.coord) × (t.seq < c.next)
    pub answers : (t : TxnId) (reply : List ℤ) → Has (Answered t reply) u.history → WasSubmitted u.history t
    pub numbers : (n : ℕ) (c : CoordState) → slice_get u.coords n ≡ Some c → c.number ≡ n

  pub goes_on : (w u : World) (log later : Log) → GoesOnForTransactions w u log later → ViewsMean plan calls asked S start before w log → ViewsMean plan calls asked S start before u later
  goes_on w u log later g m =
      record {
        versions = λ n v there x at. m.versions n v (subst (λ l. slice_get l n ≡ Some v) g.viewing there) x at ∙ ap (λ k. min (version (before (S.cell_shard x)) x + k) most) (sym (g.as_often x));
        are_for = for_on w u log later g.steps g.told g.history g.new g.sent (λ e h. of_transactions_for u.history e.msg e.to (g.of_transactions e h)) (λ n v there. m.are_for.kept n v (subst (λ l. slice_get l n ≡ Some v) g.viewing there)) m.are_for;
        views = λ n c there v h. let b = g.views n c there v h in let k = m.views n b.0 b.1 v b.2 in
            kept_on w u log later g.steps v [] (g.looks ∙ sym (append-nil w.looks)) (λ k h. absurd h) g.told g.history (λ reply. g.silent v.id reply k.view)
            (λ since from rounds. rounds_on w u log later g.steps v.id v.round since g.new g.sent
            (λ e j r proc group args f. absurd (no_read e.msg (g.of_transactions e j) v.id r proc group args f))
            (λ e j r group shard vs outs f. absurd (no_ok e.msg (g.of_transactions e j) v.id r group shard vs outs f))
            (λ n z at. rounds.kept n z (subst (λ l. slice_get l n ≡ Some z) g.viewing at)) rounds) k;
        answered = λ id reply view h. answered_on w u log later g.steps id reply [] (g.looks ∙ sym (append-nil w.looks)) (λ k h. absurd h) g.ts g.order
            (m.answered id reply view (before_told id reply view (has_append (Answered id reply) w.history g.told (subst (λ h. Has (Answered id reply) h) g.history h))));
        given = g.given;
        numbers = g.numbers;
        told = g.answers;
        own = λ n c there v h. let b = g.views n c there v h in m.own n b.0 b.1 v b.2;
        one = λ n c there v x h k same. let b = g.views n c there v h in let d = g.views n c there x k in
            m.one n b.0 b.1 v x b.2 (subst (λ (c : CoordState). Has x c.views) (same_found d.0 b.0 (sym d.1 ∙ b.1)) d.2) same;
      }
    where
      same_found : (a b : CoordState) → Some a ≡ Some b → a ≡ b
      same_found a b e = cc

      before_told : (id : TxnId) (reply : List ℤ) → is_view_id plan calls id ≡ true → Has (Answered id reply) w.history ⊎ Has (Answered id reply) g.told → Has (Answered id reply) w.history
      before_told id reply view (inl h) = h
      before_told id reply view (inr h) = absurd (g.silent id reply view h)
