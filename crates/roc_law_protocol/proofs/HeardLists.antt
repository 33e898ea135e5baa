-- Lists that are taught, and a transaction that nobody has to wait for, as those who wait see them
use Rattle.std.proofs.Common.{◌≡◌, ℕ, Bool, true, false, not, ◌&&◌, List, [], ◌∷◌, ◌++◌, map, refl, sym, ap, subst, ◌∙◌, ◌⊎◌, inl, inr}
use Rattle.std.proofs.lemmas.Bool.{not_from_false, not-true, and_from, false≢true}
use Rattle.std.specs.Prelude.{filter, flat_map, if◌then◌else◌}
use Rattle.std.specs.List.{list_any}
use Rattle.roc_sequence.specs.Lists.{Has}
use Rattle.roc_sequence.proofs.Holds.{any_has, has_any}
use Rattle.roc_sequence.proofs.Members.{has_append, has_map, from_has_map, has_filter, from_has_filter, has_flat_map}
use Rattle.roc_base.specs.declared.id.TxnId.{TxnId}
use Rattle.roc_base.specs.TxnId.{is_txn}
use Rattle.roc_base.specs.Equalities.{is_txn-true}
use Rattle.roc_base.proofs.Ids.{is_txn-eq}
use Rattle.roc_base.proofs.Members.{has-united}
use Rattle.roc_base.specs.Edge.{Dependency}
use Rattle.roc_base.specs.Edges.{united}
use Rattle.roc_depgraph.specs.declared.known.KnownList.{KnownList}
use Rattle.roc_depgraph.specs.Deps.{is_known, IsKnown, Precedes, IsDecided}
use Rattle.roc_depgraph.proofs.Chains.{weaker_chain}
use Rattle.roc_depgraph.proofs.Laws.{known_stays, decided_stays}
use Rattle.roc_step.specs.declared.waits.OpenFetch.{OpenFetch}
use Rattle.roc_step.specs.declared.waits.Asker.{Asker}
use Rattle.roc_step.specs.Waits.{is_asked_before, was_asked_for, with_asked, with_all_asked, without_asked, askers_of}
use Rattle.roc_msg.specs.declared.msg.Msg.TheVariants.{Known}
use Rattle.roc_step.specs.New.{AreNewTaken}
use Rattle.roc_step.specs.Links.{all_entries, without_links}
use Rattle.roc_step.proofs.SameIds.{ids_of, ids_without}
use Rattle.roc_step.specs.State.{is_here, hearing, ServerState}
use Rattle.roc_step.specs.Asking.{known_to, knowns_for, fetch_from, asked_of}
use Rattle.roc_step.specs.Lists.{links_of, lists_after, is_missing, missing_after, is_settled, lists_settled}
use Rattle.roc_law_protocol.proofs.Facts.{known_has}
use Rattle.roc_step.proofs.Asking.{asked_still, asked_all}
use Rattle.roc_law_protocol.proofs.Deciding.{more_keeps}
use Rattle.roc_law_protocol.proofs.ForgottenHere.{asked_some, same_learnt}
use Rattle.roc_law_protocol.proofs.Followed.{known_marked, precedes_marked}
use Rattle.roc_law_protocol.proofs.Hears.{from_has_in_place, has_known, IsSought, SeeksAll, AreWaiting, IsAnswered, IsHeard}

-- ---- lists

-- what is known of more lists was known, or is new
pub known_either : (known news : List KnownList) (t : TxnId) → IsKnown (known ++ news) t → IsKnown known t ⊎ ((k : KnownList) × Has k news × (k.of ≡ t))
known_either known news t h =
    let k = known_has (known ++ news) t h in
    elim (has_append k.0 known news k.1) [ inl j ↦ inl (subst (IsKnown known) k.2 (has_known known k.0 j)) | inr j ↦ inr (k.0, j, k.2) ]

-- what was asked for by now is of these, or was asked for
pub asked_either : (a : OpenFetch) (more old : List OpenFetch) → Has a (with_all_asked more old) → Has a more ⊎ Has a old
asked_either a [] old h = inr h
asked_either a (b ∷ more) old h = elim (asked_either a more (with_asked b old) h) [
  | inl k ↦ inl (inr k)
  | inr k ↦ elim (from_has_in_place is_asked_before b old a k) [ inl e ↦ inl (inl e) | inr j ↦ inr j ]
]

-- ---- lists that are taught

module _ (s : ServerState) (same : ids_of s.lists.links ≡ ids_of s.lists.known) (news : List KnownList) (components : List (List TxnId)) (new : AreNewTaken (IsDecided s.lists.links) (s.lists.links ++ links_of s news) components) where
  abbrev K : List KnownList
  K = s.lists.known ++ news

  abbrev L : List KnownList
  L = s.lists.links ++ links_of s news

  abbrev asks : List OpenFetch
  asks = missing_after s news

  taught_askers : (a : Asker) → Has a s.lists.waiting.askers → IsAnswered (flat_map (knowns_for s.lists.waiting.askers) news) a ⊎ Has a (lists_after s news components).waiting.askers
  taught_askers a h = go (list_any (λ (k : KnownList). is_txn k.of a.id) news) refl
    where
      go : (b : Bool) → list_any (λ (k : KnownList). is_txn k.of a.id) news ≡ b → IsAnswered (flat_map (knowns_for s.lists.waiting.askers) news) a ⊎ Has a (lists_after s news components).waiting.askers
      go true e =
          let q = any_has (λ (k : KnownList). is_txn k.of a.id) news e in
          let same = is_txn-true q.0.of a.id q.2 in
          inl (
            known_to q.0 a,
            has_flat_map (knowns_for s.lists.waiting.askers) (known_to q.0 a) q.0 news q.1
                (has_map (known_to q.0) a (askers_of q.0.of s.lists.waiting.askers) (has_filter (λ (a : Asker). is_txn a.id q.0.of) a s.lists.waiting.askers h (is_txn-eq a.id q.0.of (sym same)))),
            refl,
            inl (q.0.edges, ap (λ t. Known t q.0.edges) same),
          )
      go false e = inr (has_filter (λ (a : Asker). not (list_any (λ (k : KnownList). is_txn k.of a.id) news)) a s.lists.waiting.askers h (not_from_false (list_any (λ (k : KnownList). is_txn k.of a.id) news) e))

  taught_waits : AreWaiting s → (a : Asker) → Has a (lists_after s news components).waiting.askers → (is_here a.id s.started ≡ true) × (¬ IsKnown K a.id)
  taught_waits was a h =
      let q = from_has_filter (λ (a : Asker). not (list_any (λ (k : KnownList). is_txn k.of a.id) news)) a s.lists.waiting.askers h in
      let w = was a q.0 in (
        w.0,
        λ k. elim (known_either s.lists.known news a.id k) [
          | inl j ↦ w.1 j
          | inr z ↦ false≢true (sym (not-true (list_any (λ (k : KnownList). is_txn k.of a.id) news) q.1) ∙ has_any (λ (k : KnownList). is_txn k.of a.id) news z.0 z.1 (is_txn-eq z.0.of a.id z.2))
        ],
      )

  -- what is followed is sought, since what is missing is asked for
  taught_seeks : (k : KnownList) → Has k L → (d : Dependency) → Has d k.edges → IsSought (record s { lists = lists_after s news components }) d.from
  taught_seeks k h d m =
      let z = has-united (all_entries L) d (has_flat_map (λ (k : KnownList). k.edges) d k L h m) in
      subst (IsSought (record s { lists = lists_after s news components })) z.2.from (sought z.0 z.1 (is_known L z.0.from) (is_here z.0.from s.started) (was_asked_for z.0.from s.lists.waiting.asked) refl refl refl)
    where
      sought : (z : Dependency) → Has z (united (all_entries L)) → (a b c : Bool) → is_known L z.from ≡ a → is_here z.from s.started ≡ b → was_asked_for z.from s.lists.waiting.asked ≡ c → IsSought (record s { lists = lists_after s news components }) z.from
      sought z h true b c e f g = inl e
      sought z h false true c e f g = inr (inl f)
      sought z h false false true e f g = inr (inr (asked_still z.from asks s.lists.waiting.asked g))
      sought z h false false false e f g =
          let is = has_filter (is_missing s L) z (united (all_entries L)) h
          (and_from (not (is_known L z.from)) (not (is_here z.from s.started) && not (was_asked_for z.from s.lists.waiting.asked)) (not_from_false (is_known L z.from) e)
          (and_from (not (is_here z.from s.started)) (not (was_asked_for z.from s.lists.waiting.asked)) (not_from_false (is_here z.from s.started) f) (not_from_false (was_asked_for z.from s.lists.waiting.asked) g))) in
          inr (inr (asked_all (asked_of K z) asks s.lists.waiting.asked (has_map (asked_of K) z (filter (is_missing s L) (united (all_entries L))) is)))

  pub taught_heard : IsHeard s (lists_after s news components) components (flat_map (knowns_for s.lists.waiting.askers) news) (map (fetch_from s.shard) asks)
  taught_heard =
      record {
        same = same_learnt s news same;
        new = new;
        taken = refl;
        stays = decided_stays s.lists.links L (more_keeps s.lists.links (links_of s news));
        known = known_stays s.lists.known K (more_keeps s.lists.known news);
        askers = taught_askers;
        asked = λ a h. elim (asked_either a asks s.lists.waiting.asked h) [ inl k ↦ inr (has_map (fetch_from s.shard) a asks k) | inr k ↦ inl k ];
        waits = taught_waits;
        seeks = λ before. taught_seeks;
      }

module _ (s : ServerState) (same : ids_of s.lists.links ≡ ids_of s.lists.known) (id : TxnId) (mark : ℕ) (components : List (List TxnId)) (new : AreNewTaken (IsDecided s.lists.links) (map (without_links (is_settled s id mark)) s.lists.links) components) where
  abbrev done : TxnId → Bool
  done = is_settled s id mark

  abbrev marked : List KnownList
  marked = map (without_links done) s.lists.links

  left_asked : (b : Bool) (a : OpenFetch) → Has a (if b then s.lists.waiting else without_asked done s.lists.waiting).asked → Has a s.lists.waiting.asked
  left_asked true a h = h
  left_asked false a h = (from_has_filter (λ (a : OpenFetch). not (done a.id)) a s.lists.waiting.asked h).0

  left_askers : (b : Bool) → (if b then s.lists.waiting else without_asked done s.lists.waiting).askers ≡ s.lists.waiting.askers
  left_askers true = refl
  left_askers false = refl

  asked_left : (b : Bool) (u : TxnId) → done u ≡ false → was_asked_for u s.lists.waiting.asked ≡ true → was_asked_for u (if b then s.lists.waiting else without_asked done s.lists.waiting).asked ≡ true
  asked_left true u n h = h
  asked_left false u n h = elim (asked_some done u s.lists.waiting.asked h) [ inl e ↦ e | inr e ↦ absurd (false≢true (sym n ∙ e)) ]

  settled_seeks : SeeksAll s → (k : KnownList) → Has k marked → (d : Dependency) → Has d k.edges → IsSought (record s { lists = lists_settled s id mark components }) d.from
  settled_seeks sought k h d m =
      let q = from_has_map (without_links done) k s.lists.links h in
      let f = from_has_filter (λ (d : Dependency). not (done d.from)) d q.0.edges (subst (λ (k : KnownList). Has d k.edges) q.2 m) in
      elim (sought q.0 q.1 d f.0) [
        | inl known ↦ inl (known_marked done s.lists.links d.from known)
        | inr (inl here) ↦ inr (inl here)
        | inr (inr asked) ↦ inr (inr (asked_left (is_known s.lists.known id) d.from (not-true (done d.from) f.1) asked))
      ]

  pub settled_heard : IsHeard (hearing s id.coord mark) (lists_settled s id mark components) components [] []
  settled_heard =
      record {
        same = ids_without done s.lists.links ∙ same;
        new = new;
        taken = refl;
        stays = λ t d. record { own = known_marked done s.lists.links t d.own; ancestors = λ u p. known_marked done s.lists.links u (d.ancestors u (weaker_chain (Precedes marked) (Precedes s.lists.links) (precedes_marked done s.lists.links) u t p)) };
        known = λ t h. h;
        askers = λ a h. inr (subst (Has a) (sym (left_askers (is_known s.lists.known id))) h);
        asked = λ a h. inl (left_asked (is_known s.lists.known id) a h);
        waits = λ w a h. w a (subst (Has a) (left_askers (is_known s.lists.known id)) h);
        seeks = settled_seeks;
      }
