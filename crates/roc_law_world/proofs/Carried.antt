-- What is said of the world beside is said of the world with views
use Rattle.std.proofs.Common.{◌≡◌, ◌∙◌, inl, inr, ℕ, ℤ, Bool, true, false, not, List, [], ◌∷◌, ◌++◌, Some, refl, sym, ap, subst}
use Rattle.std.specs.Prelude.{slice_get}
use Rattle.roc_sequence.specs.Lists.{Has}
use Rattle.roc_sequence.specs.Places.{IsListed}
use Rattle.roc_sequence.proofs.Members.{has_filter, from_has_filter}
use Rattle.roc_base.specs.declared.id.TxnId.{TxnId}
use Rattle.roc_base.specs.declared.node.Shard.{Shard}
use Rattle.roc_base.specs.TxnId.{is_txn}
use Rattle.roc_base.specs.Edge.{Dependency}
use Rattle.roc_depgraph.specs.Reach.{Reaches, direct, through}
use Rattle.roc_depgraph.specs.declared.known.KnownList.{KnownList}
use Rattle.roc_msg.specs.declared.msg.Envelope.{Envelope}
use Rattle.roc_msg.specs.declared.msg.Msg.{Msg}
use Rattle.roc_msg.specs.declared.msg.Msg.TheVariants.{Read, ReadOk}
use Rattle.roc_plan.specs.Groups.{Plan}
use Rattle.roc_audit.specs.declared.entry.Entry.TheVariants.{Submitted, Answered}
use Rattle.roc_audit.specs.History.{WasAnswered}
use Rattle.roc_audit.specs.Woven.{entry_id}
use Rattle.roc_law_protocol.specs.Final.{lists_in, IsFinalIn}
use Rattle.roc_law_protocol.specs.Forgotten.{HasStartedOn, IsSettledIn}
use Rattle.roc_law_protocol.specs.Happens.{RanAt}
use Rattle.roc_law_protocol.specs.Kept.{ran_in, RanBefore, KeepsWhatRan}
use Rattle.roc_law_protocol.specs.Quiet.{IsToldIn, PrecedesIn}
use Rattle.roc_law_protocol.specs.Run as their_runs
use Rattle.roc_law_protocol.specs.World as transactions
use Rattle.roc_law_world.specs.World.{World}
use Rattle.roc_law_world.specs.Run.{Stepped}
use Rattle.roc_law_world.specs.Beside.{is_of_view, is_of_transaction, IsBeside, AreStepsBeside, none_stepped, one_more_stepped}
use Rattle.roc_law_world.specs.Bare.{bare, bare_step, bare_steps}

-- of views is no message that carries lists
pub no_lists : (msg : Msg) → is_of_view msg ≡ true → lists_in msg ≡ []
no_lists (Read id round proc group args) e = refl
no_lists (ReadOk id round group shard versions outs) e = refl
no_lists msg e = absurd (cc)

module _ (is_view : TxnId → Bool) (w : World) (t : transactions.World) (o : IsBeside is_view w t) where
  -- ---- messages

  pub sent_there : (m : Envelope) → is_of_view m.msg ≡ false → Has m w.sent → Has m t.sent
  sent_there m e h = subst (Has m) (sym o.sent) (has_filter is_of_transaction m w.sent h (ap not e))

  pub sent_here : (m : Envelope) → Has m t.sent → Has m w.sent
  sent_here m h = (from_has_filter is_of_transaction m w.sent (subst (Has m) o.sent h)).0

  told_here : (x : TxnId) (g : ℕ) (edges : List Dependency) (facts : List KnownList) → IsToldIn t.sent x g edges facts → IsToldIn w.sent x g edges facts
  told_here x g edges facts k = record { message = k.message; has = sent_here k.message k.has; shard = k.shard; bound = k.bound; outs = k.outs; is = k.is }

  told_there : (x : TxnId) (g : ℕ) (edges : List Dependency) (facts : List KnownList) → IsToldIn w.sent x g edges facts → IsToldIn t.sent x g edges facts
  told_there x g edges facts k = record { message = k.message; has = sent_there k.message (ap is_of_view k.is) k.has; shard = k.shard; bound = k.bound; outs = k.outs; is = k.is }

  pub started_there : (x : TxnId) (shard : Shard) → HasStartedOn w.sent x shard → HasStartedOn t.sent x shard
  started_there x shard k =
      record { message = k.message; has = sent_there k.message (ap is_of_view k.is) k.has; group = k.group; bound = k.bound; outs = k.outs; edges = k.edges; facts = k.facts; is = k.is }

  -- ---- what was submitted and answered

  pub submitted_here : (x : TxnId) (p : ℕ) (a : List ℤ) → Has (Submitted x p a) t.history → Has (Submitted x p a) w.history × (is_view x ≡ false)
  submitted_here x p a h =
      let f = from_has_filter (λ e. not (is_view (entry_id e))) (Submitted x p a) w.history (subst (Has (Submitted x p a)) o.history h) in
      (f.0, plain (is_view x) f.1)
    where
      plain : (b : Bool) → not b ≡ true → b ≡ false
      plain true e = absurd (cc)
      plain false e = refl

  pub answered_here : (x : TxnId) (reply : List ℤ) → WasAnswered t.history x reply → WasAnswered w.history x reply
  answered_here x reply h = (from_has_filter (λ e. not (is_view (entry_id e))) (Answered x reply) w.history (subst (Has (Answered x reply)) o.history h)).0

  pub answered_there : (x : TxnId) (reply : List ℤ) → is_view x ≡ false → WasAnswered w.history x reply → WasAnswered t.history x reply
  answered_there x reply e h = subst (Has (Answered x reply)) (sym o.history) (has_filter (λ e. not (is_view (entry_id e))) (Answered x reply) w.history h (ap not e))

  -- ---- lists

  pub final_here : (plan : Plan) (x : TxnId) (list : List Dependency) → IsFinalIn plan t x list → IsFinalIn plan (bare w) x list
  final_here plan x list k =
      record {
        proc = k.proc;
        args = k.args;
        submitted = (submitted_here x k.proc k.args k.submitted).0;
        union = record {
          told = k.union.told;
          in_network = λ g l. (let q = k.union.in_network g l in (q.0, told_here x g (k.union.told g) q.0 q.1));
          is_union = k.union.is_union;
        };
      }

  -- ---- components

  precedes_there : (u x : TxnId) → PrecedesIn w.sent u x → PrecedesIn t.sent u x
  precedes_there u x p = record { group = p.group; edges = p.edges; facts = p.facts; told = told_there x p.group p.edges p.facts p.told; entry = p.entry; listed = p.listed; from = p.from }

  reaches_there : (u x : TxnId) → Reaches (PrecedesIn w.sent) u x → Reaches (PrecedesIn t.sent) u x
  reaches_there u x (direct e) = direct (precedes_there u x e)
  reaches_there u x (through {s = s} r e) = through (reaches_there u s r) (precedes_there s x e)

  pub settled_here : (x : TxnId) → IsSettledIn t x → IsSettledIn (bare w) x
  settled_here x k u mates =
      let r = k u (elim mates [ inl e ↦ inl e | inr c ↦ inr (reaches_there x u c.0, reaches_there u x c.1) ]) in
      (r.0, answered_here u r.0 r.1)

-- ---- what ran

append_map : (front : List Stepped) (x : Stepped) → bare_steps (front ++ x ∷ []) ≡ bare_steps front ++ bare_step x ∷ []
append_map [] x = refl
append_map (y ∷ front) x = ap (λ l. bare_step y ∷ l) (append_map front x)

ran_more : (front : List their_runs.Stepped) (x : their_runs.Stepped) → ran_in (front ++ x ∷ []) ≡ ran_in front ++ (x.outcome.ran ++ [])
ran_more [] x = refl
ran_more (y ∷ front) x = ap (λ l. y.outcome.ran ++ l) (ran_more front x) ∙ sym (assoc y.outcome.ran (ran_in front) (x.outcome.ran ++ []))
  where
    assoc : (a b c : List RanAt) → (a ++ b) ++ c ≡ a ++ (b ++ c)
    assoc [] b c = refl
    assoc (z ∷ a) b c = ap (λ l. z ∷ l) (assoc a b c)

pub ran_alike : (steps : List Stepped) (others : List their_runs.Stepped) → AreStepsBeside steps others → ran_in (bare_steps steps) ≡ ran_in others
ran_alike steps others none_stepped = refl
ran_alike steps others (one_more_stepped {steps = front} {others = before} x y s components decided ran) =
    ap ran_in (append_map front x)
    ∙ (ran_more (bare_steps front) (bare_step x)
    ∙ ((λ i. ran_alike front before s i ++ (sym ran i ++ []))
    ∙ sym (ran_more before y)))

-- an order that keeps what ran in the one does so in the other, where the same ran, on the same servers
module _ (plan : Plan) (xs ys : List their_runs.Stepped) (v u : transactions.World) (ran : ran_in xs ≡ ran_in ys) (servers : v.servers ≡ u.servers) (order : v.order ≡ u.order) (O : List TxnId) where
  before_too : (q r : RanAt) → RanBefore ys q r → RanBefore xs q r
  before_too q r k =
      record {
        first = k.first;
        second = k.second;
        in_order = k.in_order;
        is_first = subst (λ l. slice_get l k.first ≡ Some q) (sym ran) k.is_first;
        is_second = subst (λ l. slice_get l k.second ≡ Some r) (sym ran) k.is_second;
        same_shard = k.same_shard;
      }

  pub keeps_too : KeepsWhatRan plan xs v O → KeepsWhatRan plan ys u O
  keeps_too k =
      record {
        once = k.once;
        from = λ t h. subst (λ l. IsListed is_txn l t) order (k.from t h);
        all = λ t h. k.all t (subst (λ l. IsListed is_txn l t) (sym order) h);
        ran_first = λ q r b c. k.ran_first q r (before_too q r b) c;
        ran_alone = λ q e h y c. k.ran_alone q e (subst (Has q) (sym ran) h) (record {
          server = y.server;
          there = subst (λ l. slice_get l q.shard ≡ Some y.server) (sym servers) y.there;
          here = y.here;
          deferrable = y.deferrable;
          undecided = y.undecided;
        }) c;
      }
