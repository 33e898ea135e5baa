-- Lists changed at one place, and what a changed world keeps
use Rattle.std.proofs.Common.{◌≡◌, ◌≢◌, ◌↔◌, ℕ, ℤ, zero, suc, Bool, true, false, not, cond, List, [], ◌∷◌, ◌++◌, Some, map, refl, sym, ap, subst, ◌∙◌, ◌⊎◌, inl, inr, append-nil, append_assoc}
use Rattle.std.proofs.lemmas.Bool.{cases_eq, cond-true, cond-false, not_from_false}
use Rattle.std.specs.Prelude.{slice_get, slice_set}
use Rattle.roc_sequence.specs.Lists.{Has}
use Rattle.roc_sequence.specs.Places.{IsListed, is_listed, NoneTwice}
use Rattle.roc_sequence.proofs.Places.{listed_test, unlisted_test, listed_true, listed_false}
use Rattle.roc_sequence.proofs.Appended.{listed_front, listed_either}
use Rattle.roc_sequence.proofs.Members.{has_append, from_has_map}
use Rattle.roc_base.specs.declared.id.TxnId.{TxnId}
use Rattle.roc_base.specs.declared.node.Node.{Node}
use Rattle.roc_base.specs.declared.node.Node.TheVariants.{Server, Coord}
use Rattle.roc_base.specs.TxnId.{is_txn}
use Rattle.roc_depgraph.proofs.Listed.{listed_one, has_listed}
use Rattle.roc_msg.specs.declared.msg.Envelope.{Envelope}
use Rattle.roc_msg.specs.declared.outbox.Outgoing.{Outgoing}
use Rattle.roc_plan.specs.Groups.{Plan}
use Rattle.roc_whole.specs.Serial as whole
use Rattle.roc_law_log.specs.Scheme.{Scheme}
use Rattle.roc_law_log.specs.Log.{Log}
use Rattle.roc_law_log.specs.Steps.{IsReachedLog, new_in}
use Rattle.roc_law_log.specs.Invariants.{LogInvariants, LogGrows}
use Rattle.roc_step.specs.State.{ServerState, ServerStep}
use Rattle.roc_coord.specs.State.{CoordState}
use Rattle.roc_audit.specs.declared.entry.Entry.{Entry}
use Rattle.roc_audit.specs.declared.entry.Entry.TheVariants.{Answered}
use Rattle.roc_audit.specs.Order.{noted}
use Rattle.roc_law_protocol.specs.PlanAssumptions.{IsSchemeOf}
use Rattle.roc_law_protocol.specs.Beginnings.{Beginning}
use Rattle.roc_law_protocol.specs.World.{World, sent_by, mark_delivered, at_server, at_coord}
use Rattle.roc_law_protocol.proofs.Means.{Means, ServerMeans, CoordMeans, AnswerMeans, WorldMeans}
use Rattle.roc_law_protocol.proofs.Grows.{means_grow, coord_grows, answer_grows}

-- ---- lists changed at one place

pub get-set_here : {A : Type 0} (xs : List A) (i : ℕ) (a b : A) → slice_get xs i ≡ Some a → slice_get (slice_set xs i b) i ≡ Some b
get-set_here [] i a b e = absurd (cc)
get-set_here (x ∷ xs) zero a b e = refl
get-set_here (x ∷ xs) (suc i) a b e = get-set_here xs i a b e

pub get-set_other : {A : Type 0} (xs : List A) (i j : ℕ) (b : A) → i ≢ j → slice_get (slice_set xs i b) j ≡ slice_get xs j
get-set_other [] i j b n = refl
get-set_other (x ∷ xs) zero zero b n = absurd (n refl)
get-set_other (x ∷ xs) zero (suc j) b n = refl
get-set_other (x ∷ xs) (suc i) zero b n = refl
get-set_other (x ∷ xs) (suc i) (suc j) b n = get-set_other xs i j b (λ e. n (ap suc e))

-- what is found after a change is the change, or was there
pub get-set_cases : {A : Type 0} (xs : List A) (i j : ℕ) (a b c : A) → slice_get xs i ≡ Some a → slice_get (slice_set xs i b) j ≡ Some c → ((i ≡ j) × (c ≡ b)) ⊎ ((i ≢ j) × (slice_get xs j ≡ Some c))
get-set_cases xs i j a b c e f = elim (cases_eq i j) [
  | inl same ↦
      (let here : slice_get (slice_set xs i b) i ≡ Some c = subst (λ (n : ℕ). slice_get (slice_set xs i b) n ≡ Some c) (sym same) f in
      let is = get-set_here xs i a b e in
      inl (same, cc))
  | inr other ↦ inr (other, sym (get-set_other xs i j b other) ∙ f)
]

-- what stands in a list stands there in a longer one
pub get-front : {A : Type 0} (xs ys : List A) (i : ℕ) (a : A) → slice_get xs i ≡ Some a → slice_get (xs ++ ys) i ≡ Some a
get-front [] ys i a e = absurd (cc)
get-front (x ∷ xs) ys zero a e = e
get-front (x ∷ xs) ys (suc i) a e = get-front xs ys i a e

-- ---- an order that grows

pub noted-new : (order ts : List TxnId) → NoneTwice is_txn ts → noted order ts ≡ order ++ new_in order ts
noted-new order [] once = sym (append-nil order)
noted-new order (t ∷ ts) once = go (is_listed is_txn order t) refl (λ o. noted-new o ts once.1)
  where
    alike : (order : List TxnId) (t : TxnId) (ts : List TxnId) → ((u : TxnId) → Has u ts → u ≢ t) → new_in (order ++ t ∷ []) ts ≡ new_in order ts
    alike order t [] h = refl
    alike order t (u ∷ ts) h = two (is_listed is_txn order u) refl (alike order t ts (λ v k. h v (inr k)))
      where
        two : (b : Bool) → is_listed is_txn order u ≡ b → new_in (order ++ t ∷ []) ts ≡ new_in order ts → cond (not (is_listed is_txn (order ++ t ∷ []) u)) (u ∷ new_in (order ++ t ∷ []) ts) (new_in (order ++ t ∷ []) ts) ≡ cond (not b) (u ∷ new_in order ts) (new_in order ts)
        two true e ih =
            cond-false (not (is_listed is_txn (order ++ t ∷ []) u)) (u ∷ new_in (order ++ t ∷ []) ts) (new_in (order ++ t ∷ []) ts) (ap not (listed_test is_txn (order ++ t ∷ []) u (listed_front is_txn order (t ∷ []) u (listed_true is_txn order u e)))) ∙ ih
        two false e ih =
            cond-true (not (is_listed is_txn (order ++ t ∷ []) u)) (u ∷ new_in (order ++ t ∷ []) ts) (new_in (order ++ t ∷ []) ts)
            (not_from_false (is_listed is_txn (order ++ t ∷ []) u) (unlisted_test is_txn (order ++ t ∷ []) u (λ k. elim (listed_either is_txn order (t ∷ []) u k) [ inl a ↦ listed_false is_txn order u e a | inr a ↦ h u (inl refl) (listed_one t u a.1) ])))
            ∙ ap (λ l. u ∷ l) ih

    go : (b : Bool) → is_listed is_txn order t ≡ b → ((o : List TxnId) → noted o ts ≡ o ++ new_in o ts) → noted (order ++ cond b [] (t ∷ [])) ts ≡ order ++ cond (not b) (t ∷ new_in order ts) (new_in order ts)
    go true e ih = ap (λ o. noted o ts) (append-nil order) ∙ ih order
    go false e ih =
        ih (order ++ t ∷ [])
        ∙ (append_assoc order (t ∷ []) (new_in (order ++ t ∷ []) ts) ∙ ap (λ l. order ++ t ∷ l) (alike order t ts (λ u h same. once.0 (has_listed ts t (subst (λ u. Has u ts) same h)))))

-- what is new to a list is new to one that has less
pub new_in-less : (less order ts : List TxnId) → ((t : TxnId) → IsListed is_txn less t → IsListed is_txn order t) → new_in order (new_in less ts) ≡ new_in order ts
new_in-less less order [] within = refl
new_in-less less order (t ∷ ts) within = go (is_listed is_txn less t) refl (new_in-less less order ts within)
  where
    go : (b : Bool) → is_listed is_txn less t ≡ b → new_in order (new_in less ts) ≡ new_in order ts → new_in order (cond (not b) (t ∷ new_in less ts) (new_in less ts)) ≡ new_in order (t ∷ ts)
    go true e ih = ih ∙ sym (cond-false (not (is_listed is_txn order t)) (t ∷ new_in order ts) (new_in order ts) (ap not (listed_test is_txn order t (within t (listed_true is_txn less t e)))))
    go false e ih = ap (λ l. cond (not (is_listed is_txn order t)) (t ∷ l) l) ih

-- ---- worlds

module _ (plan : Plan) (asked : TxnId → whole.Call) (S : Scheme) (start : Beginning) (is : IsSchemeOf plan asked S) where
  -- a message comes
  pub comes_means : (c : Log) (w : World) (k : ℕ) → WorldMeans plan asked S start c w → WorldMeans plan asked S start c (mark_delivered w k)
  comes_means c w k o = record { reached = o.reached; order = o.order; servers = o.servers; messages = o.messages; coords = o.coords; answered = o.answered; answers = o.answers }

  messages_after : (c : Log) (sent : List Envelope) (from : Node) (outs : List Outgoing) → ((m : Envelope) → Has m sent → Means plan asked S start c m.msg m.to) → ((o : Outgoing) → Has o outs → Means plan asked S start c o.msg o.to)
      → (m : Envelope) → Has m (sent ++ map (sent_by from) outs) → Means plan asked S start c m.msg m.to
  messages_after c sent from outs f g m h = elim (has_append m sent (map (sent_by from) outs) h) [
    | inl k ↦ f m k
    | inr k ↦ (let r = from_has_map (sent_by from) m outs k in subst (λ (m : Envelope). Means plan asked S start c m.msg m.to) (sym r.2) (g r.0 r.1))
  ]

  -- a server takes a step, and the log one that agrees with it
  pub server_means :
      (c d : Log) (i : LogInvariants S start.store c) (j : LogInvariants S start.store d) (g : LogGrows S start.store c d) → IsReachedLog S start.store d
      → (w : World) → WorldMeans plan asked S start c w → (n : ℕ) (s : ServerState) (r : ServerStep) → slice_get w.servers n ≡ Some s
      → ServerMeans plan asked S start d n r.state
      → ((m : ℕ) → n ≢ m → (v : ServerState) → slice_get w.servers m ≡ Some v → ServerMeans plan asked S start d m v)
      → ((o : Outgoing) → Has o r.sends → Means plan asked S start d o.msg o.to)
      → noted w.order r.decided ≡ d.order
      → d.answered ≡ c.answered
      → WorldMeans plan asked S start d (at_server w n r)
  server_means c d i j g reached w o n s r there mine others sends order answers =
      record {
        reached = reached;
        order = order;
        servers = λ m v h. elim (get-set_cases w.servers n m s r.state v there h) [
          | inl k ↦ subst (λ m. ServerMeans plan asked S start d m v) k.0 (subst (ServerMeans plan asked S start d n) (sym k.1) mine)
          | inr k ↦ others m k.0 v k.1
        ];
        messages = messages_after d w.sent (Server (record { 0 = n })) r.sends (λ m h. means_grow plan asked S start is c d i j g m.msg m.to (o.messages m h)) sends;
        coords = λ m v h. coord_grows plan asked S start is c d i j g v (o.coords m v h);
        answered = λ t reply h. answer_grows plan asked S start is c d i j g t reply (o.answered t reply h);
        answers = λ t. subst (λ l. IsListed is_txn l t ↔ ((reply : List ℤ) × Has (Answered t reply) w.history)) (sym answers) (o.answers t);
      }

  -- a coordinator does, and the log one that agrees with it
  pub coord_means :
      (c d : Log) (i : LogInvariants S start.store c) (j : LogInvariants S start.store d) (g : LogGrows S start.store c d) → IsReachedLog S start.store d
      → (w : World) → WorldMeans plan asked S start c w → (n : ℕ) (s after : CoordState) (outs : List Outgoing) (told : List Entry) → slice_get w.coords n ≡ Some s
      → ((m : ℕ) (v : ServerState) → slice_get w.servers m ≡ Some v → ServerMeans plan asked S start d m v)
      → w.order ≡ d.order
      → CoordMeans plan asked S start d after
      → ((o : Outgoing) → Has o outs → Means plan asked S start d o.msg o.to)
      → ((t : TxnId) (reply : List ℤ) → Has (Answered t reply) told → AnswerMeans plan asked S start d t reply)
      → ((t : TxnId) → IsListed is_txn d.answered t ↔ ((reply : List ℤ) × Has (Answered t reply) (w.history ++ told)))
      → WorldMeans plan asked S start d (at_coord w n after outs told)
  coord_means c d i j g reached w o n s after outs told there servers order mine sends replies answers =
      record {
        reached = reached;
        order = order;
        servers = servers;
        messages = messages_after d w.sent (Coord n) outs (λ m h. means_grow plan asked S start is c d i j g m.msg m.to (o.messages m h)) sends;
        coords = λ m v h. elim (get-set_cases w.coords n m s after v there h) [
          | inl e ↦ subst (CoordMeans plan asked S start d) (sym e.1) mine
          | inr e ↦ coord_grows plan asked S start is c d i j g v (o.coords m v e.1)
        ];
        answered = λ t reply h. elim (has_append (Answered t reply) w.history told h) [
          | inl k ↦ answer_grows plan asked S start is c d i j g t reply (o.answered t reply k)
          | inr k ↦ replies t reply k
        ];
        answers = answers;
      }
