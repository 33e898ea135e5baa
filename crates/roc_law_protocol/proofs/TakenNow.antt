-- The components that a shard decides now, and those that its server keeps then
use Rattle.std.proofs.Common.{◌≡◌, ℕ, true, not, List, ◌++◌, refl, subst, ◌⊎◌, inl, inr}
use Rattle.std.proofs.lemmas.Bool.{not_from_false}
use Rattle.std.proofs.lemmas.List.Concat.{flat_map-append}
use Rattle.roc_sequence.specs.Lists.{Has}
use Rattle.roc_sequence.specs.Places.{IsListed, IsListedBefore, is_listed}
use Rattle.roc_sequence.proofs.Places.{listed_or_not, unlisted_test}
use Rattle.roc_sequence.proofs.Filtered.{before_filter}
use Rattle.roc_sequence.proofs.Members.{has_append, has_left, has_right}
use Rattle.roc_sequence.proofs.Appended.{before_front, from_before_front, before_new, before_behind, from_before_behind}
use Rattle.roc_base.specs.declared.id.TxnId.{TxnId}
use Rattle.roc_base.specs.TxnId.{is_txn}
use Rattle.roc_base.specs.Equalities.{is_txn-true}
use Rattle.roc_depgraph.specs.Deps.{Precedes, PrecedesNow, IsAncestor, IsDecided}
use Rattle.roc_depgraph.specs.Reach.{Reaches, direct, through}
use Rattle.roc_depgraph.proofs.Chains.{other_chain}
use Rattle.roc_depgraph.proofs.Laws.{ancestor_decided}
use Rattle.roc_component.specs.Components.{among, Mates}
use Rattle.roc_component.proofs.Relations.{mates_weaker}
use Rattle.roc_plan.specs.Groups.{Plan}
use Rattle.roc_whole.specs.Serial as whole
use Rattle.roc_law_log.specs.Scheme.{Scheme}
use Rattle.roc_law_log.specs.Log.{Log, PrecedesTxn}
use Rattle.roc_law_log.specs.Settled.{IsSettled}
use Rattle.roc_law_log.specs.Steps.{IsReachedLog}
use Rattle.roc_law_log.proofs.Components.{chain_mates}
use Rattle.roc_law_log.proofs.Chained.{chained_first}
use Rattle.roc_step.specs.State.{is_here, ServerState, Lists}
use Rattle.roc_law_protocol.specs.PlanAssumptions.{IsSchemeOf}
use Rattle.roc_law_protocol.specs.Beginnings.{Beginning}
use Rattle.roc_law_protocol.specs.Inner.Given.{LogLaws}
use Rattle.roc_law_protocol.proofs.Means.{ServerMeans}
use Rattle.roc_law_protocol.proofs.SaidOfServers.{here_decided, taken_decided}
use Rattle.roc_law_protocol.proofs.FollowedEdges.{sound, follow}
use Rattle.roc_law_protocol.proofs.Flattened.{flat, listed_in, in_listed, one_of_them}
use Rattle.roc_law_protocol.proofs.Grows.{mates_grow, settled_grows}
use Rattle.roc_law_protocol.proofs.Deciding.{IsChange}
use Rattle.roc_law_protocol.proofs.Deciding as deciding

module _ (plan : Plan) (asked : TxnId → whole.Call) (S : Scheme) (start : Beginning) (is : IsSchemeOf plan asked S) (laws : LogLaws S start.store) (c : Log) (reached : IsReachedLog S start.store c) (n : ℕ) (s : ServerState) (o : ServerMeans plan asked S start c n s) (lists : Lists) (comps : List (List TxnId)) (change : IsChange plan asked S start c s lists comps) where
  abbrev L : TxnId → TxnId → Type 0
  L = Precedes s.lists.links

  abbrev K : TxnId → TxnId → Type 0
  K = Precedes lists.links

  abbrev E : TxnId → TxnId → Type 0
  E = PrecedesTxn S start.store c.past

  abbrev all : List TxnId
  all = flat comps

  abbrev ts : List TxnId
  ts = deciding.ts plan asked S start is laws c reached n s o lists comps change

  abbrev d : Log
  d = deciding.d plan asked S start is laws c reached n s o lists comps change

  abbrev F : TxnId → TxnId → Type 0
  F = PrecedesTxn S start.store d.past

  decided_of : (t : TxnId) → IsListed is_txn all t → IsDecided lists.links t
  decided_of t h = (change.new.members.only t h).0

  -- ---- chains of what is followed

  -- one that leads to what was decided was followed then
  pub old_chain : (u t : TxnId) → IsDecided s.lists.links t → Reaches K u t → Reaches L u t
  old_chain u t d p =
      other_chain K L (IsDecided s.lists.links)
      (λ a b k e. ancestor_decided s.lists.links a b k (direct (change.was a b k.own e)))
      (λ a b k e. change.was a b k.own e)
      u t d p

  -- so what was decided stays so
  pub still : (t : TxnId) → IsDecided s.lists.links t → IsDecided lists.links t
  still t d = record { own = change.keeps t d.own; ancestors = λ u p. change.keeps u (d.ancestors u (old_chain u t d p)) }

  -- and one from what was not is one of what is newly decided
  new_chain : (u t : TxnId) → IsDecided lists.links t → IsListed is_txn all t → ¬ IsDecided s.lists.links u → Reaches K u t → Reaches (among all K) u t
  new_chain u _ d h n (direct {t = t} e) = direct (change.new.members.all u (ancestor_decided lists.links u t d (direct e), n), h, e)
  new_chain u _ d h n (through {s = x} {t = t} p e) =
      let dx = ancestor_decided lists.links x t d (direct e) in
      let hx = change.new.members.all x (dx, λ y. n (ancestor_decided s.lists.links u x y (old_chain u x y p))) in
      through (new_chain u x dx hx n p) (hx, h, e)

  among_mates : (t u : TxnId) → Mates (among all K) t u → Mates E t u
  among_mates t u m = mates_weaker (among all K) E (λ a b e. sound plan asked S start c lists.known lists.links change.known change.links a b e.2) t u m

  -- ---- components

  -- edges are as they were
  same_edges : (u t : TxnId) → F u t → E u t
  same_edges u t p =
      record {
        second = p.second;
        of_second = p.of_second;
        by = ((deciding.g plan asked S start is laws c reached n s o lists comps change).precedes u p.second p.by.began).1 p.by;
      }

  grown : (t u : TxnId) → Mates E t u → Mates F t u
  grown t u m = mates_grow plan asked S start is c d (deciding.i plan asked S start is laws c reached n s o lists comps change) (deciding.j plan asked S start is laws c reached n s o lists comps change) (deciding.g plan asked S start is laws c reached n s o lists comps change) t u m

  settled_then : (t : TxnId) → IsSettled S start.store c t → IsSettled S start.store d t
  settled_then t z = settled_grows plan asked S start is c d (deciding.i plan asked S start is laws c reached n s o lists comps change) (deciding.j plan asked S start is laws c reached n s o lists comps change) (deciding.g plan asked S start is laws c reached n s o lists comps change) t z

  -- the members of a component are mates
  pub new_mates : (k : List TxnId) (t u : TxnId) → Has k comps → Has t k → Has u k → Mates F t u
  new_mates k t u h x y = grown t u (among_mates t u ((change.new.taken.mates k h t u x).1 y))

  -- and it is whole, or all is settled
  pub new_whole : (k : List TxnId) (t u : TxnId) → Has k comps → Has t k → Mates F t u → Has u k ⊎ IsSettled S start.store d t
  new_whole k t u h x m = go (mates_weaker F E same_edges t u m)
    where
      ht : IsListed is_txn all t
      ht = in_listed comps k t h x

      dt : IsDecided lists.links t
      dt = decided_of t ht

      go : Mates E t u → Has u k ⊎ IsSettled S start.store d t
      go (inl e) = inl (subst (λ u. Has u k) e x)
      go (inr p) = elim (follow plan asked S start c lists.known lists.links change.known change.links t u t dt (chain_mates E t u t p.1 (inl refl) (inr p.0))) [
        | inr z ↦ inr (settled_then t z)
        | inl q ↦ elim (follow plan asked S start c lists.known lists.links change.known change.links t t u q.1 (chain_mates E t t u p.0 (inr p.1) (inl refl))) [
          | inr z ↦ inr (settled_then t z)
          | inl r ↦
              (let was : ¬ IsDecided s.lists.links t = (change.new.members.only t ht).1 in
              let fresh : ¬ IsDecided s.lists.links u = λ y. was (ancestor_decided s.lists.links t u y (old_chain t u y r.0)) in
              let hu = change.new.members.all u (q.1, fresh) in
              inl ((change.new.taken.mates k h t u x).0 (inr (new_chain t u q.1 hu was r.0, new_chain u t dt ht fresh q.0))))
        ]
      ]

  -- ---- what is kept

  abbrev kept : List (List TxnId)
  kept = s.lists.taken ++ comps

  pub kept_decided : (k : List TxnId) (t : TxnId) → Has k kept → Has t k → IsDecided lists.links t
  kept_decided k t h x = elim (has_append k s.lists.taken comps h) [ inl y ↦ still t (o.taken.decided k t y x) | inr y ↦ decided_of t (in_listed comps k t y x) ]

  pub kept_all : (t : TxnId) → IsDecided lists.links t → (k : List TxnId) × Has k kept × Has t k
  kept_all t h = elim (listed_or_not is_txn (flat s.lists.taken) t) [
    | inl y ↦ (let q = listed_in s.lists.taken t y in (q.0, has_left q.0 s.lists.taken comps q.1, q.2))
    | inr y ↦
        (let fresh : ¬ IsDecided s.lists.links t = λ was. (let q = o.taken.all t was in y (in_listed s.lists.taken q.0 t q.1 q.2)) in
        let q = listed_in comps t (change.new.members.all t (h, fresh)) in
        (q.0, has_right q.0 s.lists.taken comps q.1, q.2))
  ]

  apart : (k e : List TxnId) (t : TxnId) → Has k s.lists.taken → Has e comps → Has t k → Has t e → ⊥
  apart k e t h l x y = (change.new.members.only t (in_listed comps e t l y)).1 (o.taken.decided k t h x)

  pub kept_one : (k e : List TxnId) (t : TxnId) → Has k kept → Has e kept → Has t k → Has t e → k ≡ e
  kept_one k e t h l x y = elim (has_append k s.lists.taken comps h) [
    | inl a ↦ elim (has_append e s.lists.taken comps l) [ inl b ↦ o.taken.one k e t a b x y | inr b ↦ absurd (apart k e t a b x y) ]
    | inr a ↦ elim (has_append e s.lists.taken comps l) [ inl b ↦ absurd (apart e k t b a y x) | inr b ↦ one_of_them comps change.new.taken.order.once k e t a b x y ]
  ]

  pub kept_mates : (k : List TxnId) (t u : TxnId) → Has k kept → Has t k → Has u k → Mates F t u
  kept_mates k t u h x y = elim (has_append k s.lists.taken comps h) [ inl a ↦ grown t u (o.taken.mates k t u a x y) | inr a ↦ new_mates k t u a x y ]

  pub kept_whole : (k : List TxnId) (t u : TxnId) → Has k kept → Has t k → Mates F t u → Has u k ⊎ IsSettled S start.store d t
  kept_whole k t u h x m = elim (has_append k s.lists.taken comps h) [
    | inl a ↦ elim (o.taken.whole k t u a x (mates_weaker F E same_edges t u m)) [ inl y ↦ inl y | inr z ↦ inr (settled_then t z) ]
    | inr a ↦ new_whole k t u a x m
  ]

  -- ---- the order

  -- what is new in the lists is new in the log
  before_new_ones : (t u : TxnId) → ¬ IsListed is_txn (c.decided n) t → ¬ IsListed is_txn (c.decided n) u → IsListedBefore is_txn all t u → IsListedBefore is_txn (c.decided n ++ ts) t u
  before_new_ones t u a b l =
      before_behind is_txn (c.decided n) ts t u a b
      (before_filter is_txn is_txn-true (λ t. not (is_listed is_txn (c.decided n) t)) all t u (not_from_false (is_listed is_txn (c.decided n) t) (unlisted_test is_txn (c.decided n) t a)) (not_from_false (is_listed is_txn (c.decided n) u) (unlisted_test is_txn (c.decided n) u b)) l)

  pub kept_order : (t u : TxnId) → is_here t s.started ≡ true → is_here u s.started ≡ true → IsListedBefore is_txn (flat kept) t u → IsListedBefore is_txn (c.decided n ++ ts) t u
  kept_order t u x y l = go (subst (λ l. IsListedBefore is_txn l t u) (flat_map-append (λ (c : List TxnId). c) s.lists.taken comps) l)
    where
      -- what the kept components do not hold was not decided
      fresh : (t : TxnId) → is_here t s.started ≡ true → ¬ IsListed is_txn (flat s.lists.taken) t → ¬ IsListed is_txn (c.decided n) t
      fresh t h a k = let q = o.taken.all t (here_decided plan asked S start c n s o t h k) in a (in_listed s.lists.taken q.0 t q.1 q.2)

      go : IsListedBefore is_txn (flat s.lists.taken ++ all) t u → IsListedBefore is_txn (c.decided n ++ ts) t u
      go l = elim (listed_or_not is_txn (flat s.lists.taken) u) [
        | inl b ↦ before_front is_txn (c.decided n) ts t u (o.taken.order t u x y (from_before_front is_txn (flat s.lists.taken) all t u b l))
        | inr b ↦ elim (listed_or_not is_txn (flat s.lists.taken) t) [
          | inl a ↦ before_new is_txn (c.decided n) ts t u (taken_decided plan asked S start c n s o t a) (fresh u y b)
          | inr a ↦ before_new_ones t u (fresh t x a) (fresh u y b) (from_before_behind is_txn (flat s.lists.taken) all t u a b l)
        ]
      ]

  -- what is followed from one that has a group here leads to what is decided first
  pub follows_now : (u t : TxnId) → is_here t s.started ≡ true → IsDecided lists.links t → IsAncestor lists.links u t → ¬ Mates F t u → IsListedBefore is_txn (c.decided n ++ ts) u t
  follows_now u t x h p m = elim (listed_or_not is_txn (c.decided n) t) [
    | inl k ↦ (let was = here_decided plan asked S start c n s o t x k in before_front is_txn (c.decided n) ts u t (o.follows u t x was (old_chain u t was p) (λ y. m (grown t u y))))
    | inr k ↦ elim (listed_or_not is_txn (c.decided n) u) [
      | inl l ↦ before_new is_txn (c.decided n) ts u t l k
      | inr l ↦
          (let ht = change.new.members.all t (h, λ y. k (o.back t y)) in
          before_new_ones u t l k
          (chained_first K (PrecedesNow lists.links) all all change.new.taken.order u t ht (new_chain u t h ht (λ y. l (o.back u y)) p) (λ y. m (grown t u (among_mates t u y)))))
    ]
  ]
