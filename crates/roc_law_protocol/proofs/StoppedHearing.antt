-- What was delivered and what servers wait for, behind a stop of a server
use Rattle.std.proofs.Common.{◌≡◌, ◌≢◌, ℕ, ◌+◌, ◌<◌, not, List, ◌++◌, Some, length, map, refl, sym, ap, subst, ◌∙◌, inl, inr, arith}
use Rattle.std.proofs.lemmas.Bool.{not_from_false, false_from_ne_true}
use Rattle.std.proofs.lemmas.List.{length-append}
use Rattle.std.specs.Prelude.{slice_get, slice_set, filter}
use Rattle.roc_sequence.specs.Lists.{Has}
use Rattle.roc_sequence.proofs.Members.{has_append, has_left, has_map, has_filter, from_has_map}
use Rattle.roc_base.specs.declared.id.TxnId.{TxnId}
use Rattle.roc_base.specs.declared.node.Node.{Node}
use Rattle.roc_base.specs.declared.node.Node.TheVariants.{Server, Coord}
use Rattle.roc_base.specs.declared.node.Shard.{Shard}
use Rattle.roc_depgraph.specs.Deps.{is_known, IsKnown}
use Rattle.roc_step.specs.declared.waits.OpenFetch.{OpenFetch}
use Rattle.roc_msg.specs.declared.msg.Msg.{Msg}
use Rattle.roc_msg.specs.declared.msg.Msg.TheVariants.{Start, Commit, Fetch, Settled}
use Rattle.roc_msg.specs.declared.msg.Envelope.{Envelope}
use Rattle.roc_msg.specs.declared.outbox.Outgoing.{Outgoing}
use Rattle.roc_plan.specs.Groups.{Plan}
use Rattle.roc_step.specs.Asking.{fetch_from}
use Rattle.roc_step.specs.State.{ServerState, ServerStep}
use Rattle.roc_step.specs.Step.{tick_sends}
use Rattle.roc_law_protocol.specs.World.{sent_by}
use Rattle.roc_law_protocol.proofs.Changed.{get-front, get-set_other, get-set_cases}
use Rattle.roc_law_protocol.proofs.Carried.{IsToldBy, HoldsGood, KeepsGood}
use Rattle.roc_law_protocol.proofs.Networks.{told_more}
use Rattle.roc_law_protocol.proofs.Hears.{SeeksAll, AreWaiting}
use Rattle.roc_law_protocol.proofs.Delivered.{front_was, place_behind, At, IsStartedIn, Fresh, HasCommit, HasAsker, IsTaken, Awaits, awaits_more, IsMarked, Heard}

module _ (plan : Plan) (marks : ℕ) (servers : List ServerState) (sent : List Envelope) (Came : ℕ → Type 0) (o : Heard marks servers sent Came) (n : ℕ) (s : ServerState) (there : slice_get servers n ≡ Some s) (number : s.shard.0 ≡ n)
    (r : ServerStep) (waits : AreWaiting s → AreWaiting r.state) (seeks : SeeksAll s → SeeksAll r.state) (g : KeepsGood plan (λ t es. Unit {0}) (IsStartedIn sent n) s r) where
  abbrev me : Node
  me = Server (record { 0 = n })

  -- what it sends of the step, and what it sends as it starts again
  abbrev more : List Envelope
  more = map (sent_by me) r.sends

  abbrev again : List Envelope
  again = map (sent_by me) (tick_sends r.state)

  abbrev after : List ServerState
  after = slice_set servers n r.state

  abbrev all : List Envelope
  all = (sent ++ more) ++ again

  many : length all ≡ length sent + length more + length again
  many = let a = length-append sent more in let b = length-append (sent ++ more) again in omega arith

  stands : (k : ℕ) (m : Envelope) → slice_get sent k ≡ Some m → slice_get all k ≡ Some m
  stands k m e = get-front (sent ++ more) again k m (get-front sent more k m e)

  stood : (k : ℕ) (m : Envelope) → k < length sent → slice_get all k ≡ Some m → slice_get sent k ≡ Some m
  stood k m l e = front_was k m sent more l (front_was k m (sent ++ more) again (let a = length-append sent more in omega arith) e)

  kept : (m : Envelope) → Has m sent → Has m all
  kept m h = has_left m (sent ++ more) again (has_left m sent more h)

  -- ---- what came to another node is left alone

  apart : (shard : Shard) → Server shard ≢ me → n ≢ shard.0
  apart shard ne e = ne (λ i. Server (record { 0 = sym e i }))

  elsewhere : (shard : Shard) (P Q : ServerState → Type 0) → Server shard ≢ me → ((v : ServerState) → P v → Q v) → At servers shard.0 P → At after shard.0 Q
  elsewhere shard P Q ne f (v, e, p) = (v, get-set_other servers n shard.0 r.state (apart shard ne) ∙ e, f v p)

  commit_kept : (t : TxnId) (shard : Shard) (v : ServerState) → HasCommit sent t shard v → HasCommit all t shard v
  commit_kept t shard v (inl p) = inl (p.0, p.1, λ d. (let q = p.2 d in (q.0, q.1, kept q.1 q.2, q.3)))
  commit_kept t shard v (inr gone) = inr gone

  taken_elsewhere : (k : ℕ) (msg : Msg) (to : Node) → to ≢ me → IsTaken servers sent k msg to → IsTaken after all k msg to
  taken_elsewhere k (Start id proc group args inputs) (Server shard) ne (inl t) = inl (t.0, t.1, told_more (sent ++ more) again id group t.0 t.1 (told_more sent more id group t.0 t.1 t.2))
  taken_elsewhere k (Start id proc group args inputs) (Server shard) ne (inr t) = inr (elsewhere shard _ _ ne (λ v e. e) t)
  taken_elsewhere k (Start id proc group args inputs) (Coord m) ne t = tt
  taken_elsewhere k (Commit id edges facts) (Server shard) ne t = elsewhere shard (HasCommit sent id shard) (HasCommit all id shard) ne (commit_kept id shard) t
  taken_elsewhere k (Commit id edges facts) (Coord m) ne t = tt
  taken_elsewhere k (Fetch id asker) (Server shard) ne (inl t) = inl (record { at = t.at; message = t.message; stands = stands t.at t.message t.stands; tells = t.tells; behind = t.behind })
  taken_elsewhere k (Fetch id asker) (Server shard) ne (inr t) = inr (elsewhere shard (HasAsker id asker) (HasAsker id asker) ne (λ v e. e) t)
  taken_elsewhere k (Fetch id asker) (Coord m) ne t = tt
  taken_elsewhere k msg to ne t = tt

  -- ---- what is sent

  marked_step : (m : Envelope) → Has m more → IsMarked marks m.msg
  marked_step m k =
      let q = from_has_map (sent_by me) m r.sends k in
      subst (λ (m : Envelope). IsMarked marks m.msg) (sym q.2) (go q.0.msg (g.told q.0 q.1))
    where
      go : (msg : Msg) → IsToldBy s.shard r.state msg → IsMarked marks msg
      go (Settled id mark) t = (t.0, subst (λ l. id.coord < l) (g.marks ∙ o.keeps n s there) t.1)
      go msg t = tt

  marked_again : (m : Envelope) → Has m again → IsMarked marks m.msg
  marked_again m k =
      let q = from_has_map (sent_by me) m (tick_sends r.state) k in
      let f = from_has_map (fetch_from r.state.shard) q.0 (filter (λ (a : OpenFetch). not (is_known r.state.lists.known a.id)) r.state.lists.waiting.asked) q.1 in
      subst (λ (m : Envelope). IsMarked marks m.msg) (sym q.2) (subst (λ (out : Outgoing). IsMarked marks out.msg) (sym f.2) tt)

  -- ---- the server that stopped

  holds_all : HoldsGood (λ t es. Unit {0}) (IsStartedIn all n) r.state
  holds_all =
      record {
        groups = λ b h. (let j = g.state.groups b h in (j.0, j.1, j.2, j.3, kept j.3 j.4, j.5, j.6));
        known = λ b h. tt;
        facts = λ b h j i. tt;
        same = g.state.same;
      }

  module _ (Now : ℕ → Type 0) (less : (k : ℕ) → Now k → Came k × ((m : Envelope) → slice_get sent k ≡ Some m → m.to ≢ me)) where
    -- what it asks for and does not know it fetches again, and behind that nothing came
    fetched_again : (a : OpenFetch) → Has a r.state.lists.waiting.asked → ¬ IsKnown r.state.lists.known a.id → Fresh all Now n a
    fetched_again a h unknown =
        let out = fetch_from r.state.shard a in
        let open_ = has_filter (λ (a : OpenFetch). not (is_known r.state.lists.known a.id)) a r.state.lists.waiting.asked h (not_from_false (is_known r.state.lists.known a.id) (false_from_ne_true (is_known r.state.lists.known a.id) unknown)) in
        let h2 = has_map (sent_by me) out (tick_sends r.state) (has_map (fetch_from r.state.shard) a (filter (λ (a : OpenFetch). not (is_known r.state.lists.known a.id)) r.state.lists.waiting.asked) open_) in
        let p = place_behind (sent_by me out) (sent ++ more) again h2 in
        let to_shard : ℕ → Shard = λ n. record { 0 = n } in
        let own : r.state.shard ≡ record { 0 = n } = g.shard ∙ ap to_shard number in
        record {
          at = p.0;
          message = sent_by me out;
          stands = p.1;
          to = refl;
          is = ap (λ (at : Shard). Fetch a.id at) own;
          unanswered = λ j m b at tells c. (let within = o.placed j (less j c).0 in let far = p.2 in let long = length-append sent more in absurd (omega arith));
        }

    pub stopped_heard : Heard marks after all Now
    stopped_heard =
        record {
          keeps = λ m z e. elim (get-set_cases servers n m s r.state z there e) [ inl k ↦ ap (λ (z : ServerState). length z.below) k.1 ∙ (g.marks ∙ o.keeps n s there) | inr k ↦ o.keeps m z k.1 ];
          marked = λ m h. elim (has_append m (sent ++ more) again h) [
            | inl j ↦ elim (has_append m sent more j) [ inl i ↦ o.marked m i | inr i ↦ marked_step m i ]
            | inr j ↦ marked_again m j
          ];
          placed = λ k c. (let within = o.placed k (less k c).0 in let long = many in omega arith);
          taken = λ k m c e. (let q = less k c in let at = stood k m (o.placed k q.0) e in taken_elsewhere k m.msg m.to (q.1 m at) (o.taken k m q.0 at));
          fresh = λ m z e a h unknown. elim (get-set_cases servers n m s r.state z there e) [
            | inl k ↦ subst (λ m. Fresh all Now m a) k.0 (fetched_again a (subst (λ (z : ServerState). Has a z.lists.waiting.asked) k.1 h) (subst (λ (z : ServerState). ¬ IsKnown z.lists.known a.id) k.1 unknown))
            | inr k ↦
                (let f = o.fresh m z k.1 a h unknown in
                record {
                  at = f.at;
                  message = f.message;
                  stands = stands f.at f.message f.stands;
                  to = f.to;
                  is = f.is;
                  unanswered = λ j x b at tells c. f.unanswered j x b (stood j x (o.placed j (less j c).0) at) tells (less j c).0;
                })
          ];
          awaits = λ m z e. elim (get-set_cases servers n m s r.state z there e) [
            | inl k ↦ subst (λ m. Awaits all m z) k.0 (subst (Awaits all n) (sym k.1) (let a = o.awaits n s there in record { starts = holds_all; askers = waits a.askers; seeks = seeks a.seeks }))
            | inr k ↦ awaits_more (sent ++ more) again m z (awaits_more sent more m z (o.awaits m z k.1))
          ];
        }
