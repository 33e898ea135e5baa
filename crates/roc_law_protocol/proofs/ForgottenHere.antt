-- What stays of a server's state as it forgets
use Rattle.std.proofs.Common.{◌≡◌, ℕ, ◌==◌, Bool, true, false, not, cond, List, [], ◌∷◌, ◌++◌, Some, refl, sym, ap, ◌∙◌, ◌⊎◌, inl, inr}
use Rattle.std.proofs.lemmas.List.{map-append}
use Rattle.std.specs.Prelude.{filter, find}
use Rattle.std.proofs.lemmas.Bool.{false≢true, and_parts, not-true, not_from_false, false_from_ne_true}
use Rattle.roc_sequence.specs.Lists.{Has}
use Rattle.roc_sequence.specs.Places.{is_listed}
use Rattle.roc_sequence.proofs.Holds.{any_has, has_any, every_has}
use Rattle.roc_sequence.proofs.Members.{has_filter, from_has_filter, has_flat_map, from_has_flat_map}
use Rattle.roc_sequence.proofs.Places.{listed_true, listed_test}
use Rattle.roc_base.specs.declared.id.TxnId.{TxnId}
use Rattle.roc_base.specs.TxnId.{is_txn}
use Rattle.roc_base.specs.Equalities.{is_txn-true}
use Rattle.roc_depgraph.proofs.Listed.{has_listed, listed_has}
use Rattle.roc_step.specs.declared.waits.OpenFetch.{OpenFetch}
use Rattle.roc_step.specs.Waits.{was_asked_for}
use Rattle.roc_step.specs.declared.started.StartedGroup.{StartedGroup}
use Rattle.roc_step.specs.Below.{is_ended}
use Rattle.roc_depgraph.specs.declared.known.KnownList.{KnownList}
use Rattle.roc_step.specs.Forgets.{is_over, over, forget}
use Rattle.roc_step.specs.Lists.{is_done, links_of}
use Rattle.roc_step.specs.State.{is_group, find_group, is_here, ServerState}
use Rattle.roc_step.proofs.SameIds.{ids_of, ids_without, ids_some}
use Rattle.roc_law_protocol.proofs.Gone.{IsGone, gone_without}

-- what is forgotten is below a watermark
pub over_ended : (below : List ℕ) (taken : List (List TxnId)) (t : TxnId) → is_listed is_txn (over below taken) t ≡ true → is_ended below t ≡ true
over_ended below taken t h =
    let q = from_has_flat_map (λ c. c) t (filter (is_over below) taken) (listed_has (over below taken) t (listed_true is_txn (over below taken) t h)) in
    every_has (is_ended below) q.0 (from_has_filter (is_over below) q.0 taken q.1).1 t q.2

-- what is sought is found as well among those that pass a test, if all that could be sought do
pub find_left : {A : Type 0} (p q : A → Bool) → ((x : A) → p x ≡ true → q x ≡ true) → (xs : List A) → find p (filter q xs) ≡ find p xs
find_left p q all [] = refl
find_left p q all (x ∷ xs) = go (p x) refl (q x) refl (find_left p q all xs)
  where
    go : (b : Bool) → p x ≡ b → (d : Bool) → q x ≡ d → find p (filter q xs) ≡ find p xs → find p (cond d (x ∷ filter q xs) (filter q xs)) ≡ cond b (Some x) (find p xs)
    go true e true f ih = ap (λ b. cond b (Some x) (find p (filter q xs))) e
    go true e false f ih = absurd (false≢true (sym f ∙ all x e))
    go false e true f ih = ap (λ b. cond b (Some x) (find p (filter q xs))) e ∙ ih
    go false e false f ih = ih

-- what was asked for stays so, but for what such a test leaves out
pub asked_some : (passes : TxnId → Bool) (id : TxnId) (asked : List OpenFetch) → was_asked_for id asked ≡ true
    → (was_asked_for id (filter (λ (a : OpenFetch). not (passes a.id)) asked) ≡ true) ⊎ (passes id ≡ true)
asked_some passes id asked h = go (passes id) refl
  where
    go : (b : Bool) → passes id ≡ b → (was_asked_for id (filter (λ (a : OpenFetch). not (passes a.id)) asked) ≡ true) ⊎ (passes id ≡ true)
    go true e = inr e
    go false e =
        let q = any_has (λ (a : OpenFetch). is_txn a.id id) asked h in
        let n : not (passes q.0.id) ≡ true = not_from_false (passes q.0.id) (ap passes (is_txn-true q.0.id id q.2) ∙ e) in
        inl (has_any (λ (a : OpenFetch). is_txn a.id id) (filter (λ (a : OpenFetch). not (passes a.id)) asked) q.0 (has_filter (λ (a : OpenFetch). not (passes a.id)) q.0 asked q.1 n) q.2)

module _ (v : ServerState) where
  -- it is forgotten now
  abbrev pub forgotten : TxnId → Bool
  forgotten t = is_listed is_txn (over v.below v.lists.taken) t

  -- what is forgotten is of a component all of whose transactions are below a watermark
  pub record IsOver (t : TxnId) : Type 0 where
    pub component : List TxnId
    pub has : Has component v.lists.taken
    pub over : is_over v.below component ≡ true
    pub member : Has t component

  pub over_of : (t : TxnId) → forgotten t ≡ true → IsOver t
  over_of t h =
      let q = from_has_flat_map (λ c. c) t (filter (is_over v.below) v.lists.taken) (listed_has (over v.below v.lists.taken) t (listed_true is_txn (over v.below v.lists.taken) t h)) in
      let f = from_has_filter (is_over v.below) q.0 v.lists.taken q.1 in
      record { component = q.0; has = f.0; over = f.1; member = q.2 }

  pub forgets : (k : List TxnId) (t : TxnId) → Has k v.lists.taken → is_over v.below k ≡ true → Has t k → forgotten t ≡ true
  forgets k t h e x =
      listed_test is_txn (over v.below v.lists.taken) t
      (has_listed (over v.below v.lists.taken) t (has_flat_map (λ c. c) t k (filter (is_over v.below) v.lists.taken) (has_filter (is_over v.below) k v.lists.taken h e) x))

  abbrev pub left : List StartedGroup
  left = filter (λ (e : StartedGroup). not (forgotten e.id)) v.started

  -- a group that is left was there, and is of none that is forgotten
  pub was_there : (e : StartedGroup) → Has e (forget v).started → Has e v.started × (forgotten e.id ≡ false)
  was_there e h = let q = from_has_filter (λ (e : StartedGroup). not (forgotten e.id)) e v.started h in (q.0, not-true (forgotten e.id) q.1)

  pub was_here : (t : TxnId) → is_here t (forget v).started ≡ true → (is_here t v.started ≡ true) × (forgotten t ≡ false)
  was_here t h =
      let q = any_has (λ (e : StartedGroup). is_txn e.id t) (forget v).started h in
      let k = was_there q.0 q.1 in
      (has_any (λ (e : StartedGroup). is_txn e.id t) v.started q.0 k.0 q.2, ap forgotten (sym (is_txn-true q.0.id t q.2)) ∙ k.1)

  -- what is gone stays so, and so is what is forgotten
  pub gone_still : (t : TxnId) → IsGone v t → IsGone (forget v) t
  gone_still t = gone_without v (over v.below v.lists.taken) t

  pub gone_now : (t : TxnId) → forgotten t ≡ true → IsGone (forget v) t
  gone_now t f = record { nowhere = false_from_ne_true (is_here t (forget v).started) (λ h. false≢true (sym (was_here t h).1 ∙ f)); ended = over_ended v.below v.lists.taken t f }

  -- the groups of others stay
  pub here_kept : (t : TxnId) → forgotten t ≡ false → is_here t v.started ≡ true → is_here t (forget v).started ≡ true
  here_kept t f h =
      let q = any_has (λ (e : StartedGroup). is_txn e.id t) v.started h in
      has_any (λ (e : StartedGroup). is_txn e.id t) (forget v).started q.0 (has_filter (λ (e : StartedGroup). not (forgotten e.id)) q.0 v.started q.1 (not_from_false (forgotten q.0.id) (ap forgotten (is_txn-true q.0.id t q.2) ∙ f))) q.2

  pub here_or_gone : (t : TxnId) → is_here t v.started ≡ true → (is_here t (forget v).started ≡ true) ⊎ IsGone (forget v) t
  here_or_gone t h = go (forgotten t) refl
    where
      go : (b : Bool) → forgotten t ≡ b → (is_here t (forget v).started ≡ true) ⊎ IsGone (forget v) t
      go true f = inr (gone_now t f)
      go false f = inl (here_kept t f h)

  pub found_or_gone : (t : TxnId) (g : ℕ) (e : StartedGroup) → find_group t g v.started ≡ Some e → (find_group t g (forget v).started ≡ Some e) ⊎ IsGone (forget v) t
  found_or_gone t g e f = go (forgotten t) refl
    where
      go : (b : Bool) → forgotten t ≡ b → (find_group t g (forget v).started ≡ Some e) ⊎ IsGone (forget v) t
      go true k = inr (gone_now t k)
      go false k = inl (find_left (is_group t g) (λ (x : StartedGroup). not (forgotten x.id))
          (λ x p. not_from_false (forgotten x.id) (ap forgotten (is_txn-true x.id t (and_parts (is_txn x.id t) (x.group == g) p).0) ∙ k)) v.started ∙ f)

  -- what is followed is of the lists that are known
  pub same_left : ids_of v.lists.links ≡ ids_of v.lists.known → ids_of (forget v).lists.links ≡ ids_of (forget v).lists.known
  same_left same =
      ids_without forgotten (filter (λ k. not (forgotten k.of)) v.lists.links)
      ∙ ids_some (λ t. not (forgotten t)) v.lists.links
      ∙ ap (filter (λ t. not (forgotten t))) same
      ∙ sym (ids_some (λ t. not (forgotten t)) v.lists.known)

-- and stays so as lists are learnt
pub same_learnt : (v : ServerState) (news : List KnownList) → ids_of v.lists.links ≡ ids_of v.lists.known → ids_of (v.lists.links ++ links_of v news) ≡ ids_of (v.lists.known ++ news)
same_learnt v news same =
    map-append (λ (k : KnownList). k.of) v.lists.links (links_of v news)
    ∙ (λ i. same i ++ ids_without (is_done v (v.lists.known ++ news)) news i)
    ∙ sym (map-append (λ (k : KnownList). k.of) v.lists.known news)
