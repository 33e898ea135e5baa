-- What a server's step keeps for those who wait, and what it says
use Rattle.std.proofs.Common.{◌≡◌, ℕ, ℤ, Bool, true, false, not, cond, List, [], ◌∷◌, ◌++◌, Some, map, refl, sym, ap, subst, ◌∙◌, ◌⊎◌, inl, inr, is_some}
use Rattle.std.proofs.lemmas.Bool.{cond-true, not_from_false, not-true, false≢true, false_from_ne_true}
use Rattle.std.specs.Prelude.{filter, flat_map}
use Rattle.roc_sequence.specs.Lists.{Has}
use Rattle.roc_sequence.proofs.Places.{listed_or_not, listed_true}
use Rattle.roc_sequence.proofs.Members.{has_append, has_left, has_right, has_map, from_has_map, has_filter, from_has_filter, has_flat_map, from_has_flat_map}
use Rattle.roc_base.specs.declared.id.TxnId.{TxnId}
use Rattle.roc_base.specs.declared.node.Shard.{Shard}
use Rattle.roc_base.specs.declared.node.Node.TheVariants.{Server, Coord}
use Rattle.roc_base.specs.TxnId.{is_txn}
use Rattle.roc_base.proofs.Ids.{is_txn-eq}
use Rattle.roc_base.specs.Edge.{Dependency}
use Rattle.roc_depgraph.specs.declared.known.KnownList.{KnownList}
use Rattle.roc_depgraph.specs.Deps.{list_of, IsKnown, IsDecided}
use Rattle.roc_depgraph.proofs.Listed.{listed_has, has_listed}
use Rattle.roc_step.specs.declared.waits.OpenFetch.{OpenFetch}
use Rattle.roc_step.specs.declared.waits.Asker.{Asker}
use Rattle.roc_step.specs.Waits.{was_asked_for}
use Rattle.roc_msg.specs.declared.msg.Msg.TheVariants.{CommitOk, Known, Settled}
use Rattle.roc_msg.specs.declared.outbox.Outgoing.{Outgoing}
use Rattle.roc_msg.specs.InPlace.{in_place}
use Rattle.roc_plan.specs.Groups.{Plan}
use Rattle.roc_step.specs.New.{AreNewTaken, AreDecided}
use Rattle.roc_step.specs.Links.{without_links}
use Rattle.roc_step.proofs.SameIds.{ids_of, known_alike}
use Rattle.roc_step.proofs.ForgottenLinks.{left_known, left_decided}
use Rattle.roc_step.specs.Forgets.{is_over, over, forget, forgetting}
use Rattle.roc_step.specs.State.{is_here, Lists, ServerState, ServerStep}
use Rattle.roc_step.specs.Runs.{commitok, commitok_of, outs_here}
use Rattle.roc_step.specs.Asking.{fetch_from}
use Rattle.roc_step.specs.Lists.{decides}
use Rattle.roc_law_protocol.proofs.Facts.{known_has}
use Rattle.roc_law_protocol.proofs.KeptGroups.{take_keeps, take_same}
use Rattle.roc_law_protocol.proofs.Gone.{IsGone}
use Rattle.roc_law_protocol.proofs.ForgottenHere.{forgotten, asked_some, gone_still, gone_now, here_kept}

-- ---- lists

-- what is put into its place is there, or was
pub from_has_in_place : {A : Type 0} (before : A → A → Bool) (b : A) (xs : List A) (a : A) → Has a (in_place before b xs) → (a ≡ b) ⊎ Has a xs
from_has_in_place before b xs a h = elim (has_append a (filter (λ x. before x b) xs) (b ∷ filter (λ x. before b x) xs) h) [
  | inl k ↦ inr (from_has_filter (λ x. before x b) a xs k).0
  | inr (inl e) ↦ inl e
  | inr (inr k) ↦ inr (from_has_filter (λ x. before b x) a xs k).0
]

-- and it is there
pub in_place_has : {A : Type 0} (before : A → A → Bool) (b : A) (xs : List A) → Has b (in_place before b xs)
in_place_has before b xs = has_right b (filter (λ x. before x b) xs) (b ∷ filter (λ x. before b x) xs) (inl refl)

-- a list among the known ones is known
pub has_known : (known : List KnownList) (k : KnownList) → Has k known → IsKnown known k.of
has_known [] k h = absurd h
has_known (x ∷ known) k (inl e) = ap is_some (cond-true (is_txn x.of k.of) (Some x.edges) (list_of k.of known) (is_txn-eq x.of k.of (ap (λ (k : KnownList). k.of) (sym e))))
has_known (x ∷ known) k (inr h) = go (is_txn x.of k.of) (has_known known k h)
  where
    go : (b : Bool) → IsKnown known k.of → is_some (cond b (Some x.edges) (list_of k.of known)) ≡ true
    go true j = refl
    go false j = j

-- ---- what a server seeks

-- the list of u is known, or a group of it is here, or its list was asked for
abbrev pub IsSought : ServerState → TxnId → Type 0
IsSought v u = IsKnown v.lists.links u ⊎ ((is_here u v.started ≡ true) ⊎ (was_asked_for u v.lists.waiting.asked ≡ true))

-- so it is of each that is followed
abbrev pub SeeksAll : ServerState → Type 0
SeeksAll v = (k : KnownList) → Has k v.lists.links → (d : Dependency) → Has d k.edges → IsSought v d.from

-- who asks here waits for a list that is unknown, of a transaction that has a group here
abbrev pub AreWaiting : ServerState → Type 0
AreWaiting v = (a : Asker) → Has a v.lists.waiting.askers → (is_here a.id v.started ≡ true) × (¬ IsKnown v.lists.known a.id)

-- what was asked for of t is known
abbrev pub AwaitsNone : TxnId → ServerState → Type 0
AwaitsNone t v = (a : OpenFetch) → Has a v.lists.waiting.asked → a.id ≡ t → IsKnown v.lists.known a.id

-- who asked is told the list, or that nobody has to wait for it
abbrev pub IsAnswered : List Outgoing → Asker → Type 0
IsAnswered outs a = (out : Outgoing) × Has out outs × (out.to ≡ Server a.shard) × (((edges : List Dependency) × (out.msg ≡ Known a.id edges)) ⊎ ((mark : ℕ) × (out.msg ≡ Settled a.id mark)))

-- the coordinator of t is told by the shard that it is done here
abbrev pub IsSaid : List Outgoing → Shard → TxnId → Type 0
IsSaid outs shard t = (given : List ℤ) × Has (record { to = Coord t.coord; msg = CommitOk t shard given }) outs

-- what is kept as taken is decided
abbrev pub AreKept : ServerState → Type 0
AreKept v = (c : List TxnId) (t : TxnId) → Has c v.lists.taken → Has t c → IsDecided v.lists.links t

-- ---- a step

pub record Hears (s : ServerState) (r : ServerStep) : Type 0 where
  pub known : (t : TxnId) → IsKnown s.lists.known t → IsKnown r.state.lists.known t ⊎ IsGone r.state t
  -- what is decided behind the step and has a group here is told of, or was decided
  pub says : (t : TxnId) → is_here t s.started ≡ true → IsDecided r.state.lists.links t → IsDecided s.lists.links t ⊎ IsSaid r.sends s.shard t
  -- who asked is answered, or asks still
  pub askers : (a : Asker) → Has a s.lists.waiting.askers → IsAnswered r.sends a ⊎ Has a r.state.lists.waiting.askers
  -- what is asked for was, and its list is known where it was; or its fetch is sent
  pub asked : (a : OpenFetch) → Has a r.state.lists.waiting.asked → (Has a s.lists.waiting.asked × (IsKnown s.lists.known a.id → IsKnown r.state.lists.known a.id)) ⊎ Has (fetch_from s.shard a) r.sends
  pub waits : AreWaiting s → AreWaiting r.state
  pub seeks : SeeksAll s → SeeksAll r.state

-- ---- a server forgets

module _ (v : ServerState) (kept : AreKept v) (same : ids_of v.lists.links ≡ ids_of v.lists.known) where
  abbrev gone : TxnId → Bool
  gone = forgotten v

  were : (t : TxnId) → gone t ≡ true → IsDecided v.lists.links t
  were t h =
      let q = from_has_flat_map (λ c. c) t (filter (is_over v.below) v.lists.taken) (listed_has (over v.below v.lists.taken) t (listed_true is_txn (over v.below v.lists.taken) t h)) in
      kept q.0 t (from_has_filter (is_over v.below) q.0 v.lists.taken q.1).0 q.2

  -- a list that is unknown is of none that is forgotten
  unknown_kept : (t : TxnId) → ¬ IsKnown v.lists.known t → gone t ≡ false
  unknown_kept t n = false_from_ne_true (gone t) (λ h. n (sym (known_alike v.lists.known v.lists.links same t) ∙ (were t h).own))

  known_kept : (t : TxnId) → IsKnown v.lists.known t → gone t ≡ false → IsKnown (forget v).lists.known t
  known_kept t h n =
      let k = known_has v.lists.known t h in
      subst (IsKnown (forget v).lists.known) k.2
      (has_known (forget v).lists.known k.0 (has_filter (λ k. not (gone k.of)) k.0 v.lists.known k.1 (not_from_false (gone k.0.of) (ap gone k.2 ∙ n))))

  known_was : (t : TxnId) → IsKnown (forget v).lists.known t → IsKnown v.lists.known t
  known_was t h = let k = known_has (forget v).lists.known t h in subst (IsKnown v.lists.known) k.2 (has_known v.lists.known k.0 (from_has_filter (λ k. not (gone k.of)) k.0 v.lists.known k.1).0)

  pub known_or_gone : (t : TxnId) → IsKnown v.lists.known t → IsKnown (forget v).lists.known t ⊎ IsGone (forget v) t
  known_or_gone t h = go (gone t) refl
    where
      go : (b : Bool) → gone t ≡ b → IsKnown (forget v).lists.known t ⊎ IsGone (forget v) t
      go true e = inr (gone_now v t e)
      go false e = inl (known_kept t h e)

  -- forgetting makes nothing decided
  pub decided_was : (t : TxnId) → IsDecided (forget v).lists.links t → IsDecided v.lists.links t
  decided_was t d = (left_decided gone v.lists.links were t d).0

  asked_was : (a : OpenFetch) → Has a (forget v).lists.waiting.asked → Has a v.lists.waiting.asked × (gone a.id ≡ false)
  asked_was a h = let q = from_has_filter (λ (a : OpenFetch). not (gone a.id)) a v.lists.waiting.asked h in (q.0, not-true (gone a.id) q.1)

  pub awaits_none : (t : TxnId) → AwaitsNone t v → AwaitsNone t (forget v)
  awaits_none t none a h e = let q = asked_was a h in known_kept a.id (none a q.0 e) q.1

  waits_left : AreWaiting v → AreWaiting (forget v)
  waits_left w a h = let k = w a h in (here_kept v a.id (unknown_kept a.id k.1) k.0, λ j. k.1 (known_was a.id j))

  -- no entry that is left names what is forgotten, so what it names is sought as before
  seeks_left : SeeksAll v → SeeksAll (forget v)
  seeks_left sought k h d m =
      let q = from_has_map (without_links gone) k (filter (λ k. not (gone k.of)) v.lists.links) h in
      let j = (from_has_filter (λ k. not (gone k.of)) q.0 v.lists.links q.1).0 in
      let f = from_has_filter (λ (d : Dependency). not (gone d.from)) d q.0.edges (subst (λ (k : KnownList). Has d k.edges) q.2 m) in
      let n = not-true (gone d.from) f.1 in
      elim (sought q.0 j d f.0) [
        | inl known ↦ inl (left_known gone v.lists.links d.from known n)
        | inr (inl here) ↦ inr (inl (here_kept v d.from n here))
        | inr (inr asked) ↦ elim (asked_some gone d.from v.lists.waiting.asked asked) [ inl e ↦ inr (inr e) | inr e ↦ absurd (false≢true (sym n ∙ e)) ]
      ]

module _ (s : ServerState) (r : ServerStep) (kept : AreKept r.state) (same : ids_of r.state.lists.links ≡ ids_of r.state.lists.known) where
  -- a step that ends with it keeps as much for those who wait
  pub hears_left : Hears s r → Hears s (forgetting r)
  hears_left h =
      record {
        known = λ t k. elim (h.known t k) [ inl j ↦ known_or_gone r.state kept same t j | inr z ↦ inr (gone_still r.state t z) ];
        says = λ t here d. h.says t here (decided_was r.state kept same t d);
        askers = h.askers;
        asked = λ a k.
            (let q = asked_was r.state kept same a k in
            elim (h.asked a q.0) [ inl was ↦ inl (was.0, λ j. known_kept r.state kept same a.id (was.1 j) q.1) | inr new ↦ inr new ]);
        waits = λ w. waits_left r.state kept same (h.waits w);
        seeks = λ k. seeks_left r.state kept same (h.seeks k);
      }

-- ---- the lists change, and what they newly decide runs

-- what lists lead to that change so: nothing known is lost, who asked is answered or asks still, and what was asked for and is not fetched now was
pub record IsHeard (s : ServerState) (lists : Lists) (components : List (List TxnId)) (told asks : List Outgoing) : Type 0 where
  pub same : ids_of lists.links ≡ ids_of lists.known
  pub new : AreNewTaken (IsDecided s.lists.links) lists.links components
  pub taken : lists.taken ≡ s.lists.taken ++ components
  pub stays : (t : TxnId) → IsDecided s.lists.links t → IsDecided lists.links t
  pub known : (t : TxnId) → IsKnown s.lists.known t → IsKnown lists.known t
  pub askers : (a : Asker) → Has a s.lists.waiting.askers → IsAnswered told a ⊎ Has a lists.waiting.askers
  pub asked : (a : OpenFetch) → Has a lists.waiting.asked → Has a s.lists.waiting.asked ⊎ Has (fetch_from s.shard a) asks
  pub waits : AreWaiting s → (a : Asker) → Has a lists.waiting.askers → (is_here a.id s.started ≡ true) × (¬ IsKnown lists.known a.id)
  pub seeks : SeeksAll s → (k : KnownList) → Has k lists.links → (d : Dependency) → Has d k.edges → IsSought (record s { lists = lists }) d.from

module _ (plan : Plan) (s : ServerState) (kept : AreKept s) (before : List TxnId) (was : AreDecided s.lists.links before) (lists : Lists) (components : List (List TxnId)) (told asks : List Outgoing) (h : IsHeard s lists components told asks) where
  abbrev ts : List TxnId
  ts = flat_map (λ c. c) components

  abbrev before_run : ServerState
  before_run = record s { lists = lists }

  abbrev r : ServerStep
  r = decides plan s lists components told asks

  lists_are : r.state.lists ≡ lists
  lists_are = (take_keeps plan ts before_run).0

  pub kept_after : AreKept r.state
  kept_after c t k m =
      subst (λ (l : Lists). IsDecided l.links t) (sym lists_are)
      (elim (has_append c s.lists.taken components (subst (Has c) (ap (λ (l : Lists). l.taken) lists_are ∙ h.taken) k)) [
        | inl old ↦ h.stays t (kept c t old m)
        | inr now ↦ (h.new.members.only t (has_listed ts t (has_flat_map (λ c. c) t c components now m))).0
      ])

  decided_says : (t : TxnId) → is_here t s.started ≡ true → IsDecided r.state.lists.links t → IsDecided s.lists.links t ⊎ IsSaid r.sends s.shard t
  decided_says t here d = elim (listed_or_not is_txn before t) [
    | inl l ↦ inl (was.sound t l)
    | inr n ↦
        (let l = h.new.members.all t (subst (λ (l : Lists). IsDecided l.links t) lists_are d, λ x. n (was.complete t x)) in
        let commitoks = map (commitok_of plan r.state) (filter (λ t. is_here t s.started) ts) in
        let said = has_right (commitok_of plan r.state t) told (commitoks ++ asks)
        (has_left (commitok_of plan r.state t) commitoks asks (has_map (commitok_of plan r.state) t (filter (λ t. is_here t s.started) ts) (has_filter (λ t. is_here t s.started) t ts (listed_has ts t l) here))) in
        inr (outs_here plan t r.state.started, subst (λ at. Has (commitok plan at r.state.started t) r.sends) (take_keeps plan ts before_run).1 said))
  ]

  -- so it is then, whatever else is sent
  pub decided_hears : (more : List Outgoing) → Hears s (record r { sends = r.sends ++ more })
  decided_hears more =
      record {
        known = λ t k. inl (subst (λ (l : Lists). IsKnown l.known t) (sym lists_are) (h.known t k));
        says = λ t here d. elim (decided_says t here d) [ inl k ↦ inl k | inr k ↦ inr (k.0, has_left _ r.sends more k.1) ];
        askers = λ a k. elim (h.askers a k) [
          | inl q ↦ inl (q.0, has_left q.0 r.sends more (has_left q.0 told (map (commitok_of plan r.state) (filter (λ t. is_here t s.started) ts) ++ asks) q.1), q.2, q.3)
          | inr j ↦ inr (subst (λ (l : Lists). Has a l.waiting.askers) (sym lists_are) j)
        ];
        asked = λ a k. elim (h.asked a (subst (λ (l : Lists). Has a l.waiting.asked) lists_are k)) [
          | inl j ↦ inl (j, λ e. subst (λ (l : Lists). IsKnown l.known a.id) (sym lists_are) (h.known a.id e))
          | inr j ↦ inr (has_left (fetch_from s.shard a) r.sends more (has_right (fetch_from s.shard a) told (map (commitok_of plan r.state) (filter (λ t. is_here t s.started) ts) ++ asks)
              (has_right (fetch_from s.shard a) (map (commitok_of plan r.state) (filter (λ t. is_here t s.started) ts)) asks j)))
        ];
        waits = λ w a k.
            (let q = h.waits w a (subst (λ (l : Lists). Has a l.waiting.askers) lists_are k) in
            ((take_same plan ts before_run).here a.id q.0, λ e. q.1 (subst (λ (l : Lists). IsKnown l.known a.id) lists_are e)));
        seeks = λ k j m d e. elim (h.seeks k j (subst (λ (l : Lists). Has j l.links) lists_are m) d e) [
          | inl known ↦ inl (subst (λ (l : Lists). IsKnown l.links d.from) (sym lists_are) known)
          | inr (inl here) ↦ inr (inl ((take_same plan ts before_run).here d.from here))
          | inr (inr asked) ↦ inr (inr (subst (λ (l : Lists). was_asked_for d.from l.waiting.asked ≡ true) (sym lists_are) asked))
        ];
      }

  pub same_after : ids_of r.state.lists.links ≡ ids_of r.state.lists.known
  same_after = subst (λ (l : Lists). ids_of l.links ≡ ids_of l.known) (sym lists_are) h.same

  -- and where the server forgets then
  pub forgetting_hears : (more : List Outgoing) → Hears s (forgetting (record r { sends = r.sends ++ more }))
  forgetting_hears more = hears_left s (record r { sends = r.sends ++ more }) kept_after same_after (decided_hears more)
