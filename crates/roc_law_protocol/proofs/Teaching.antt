-- Lists that are taught, and what a transaction that is settled leaves of what is followed, as changes of a server's lists
use Rattle.std.proofs.Common.{◌≡◌, ℕ, suc, ◌==◌, Bool, true, false, not, cond, ◌&&◌, List, ◌++◌, map, refl, sym, subst, ◌∙◌, arith, inl, inr}
use Rattle.std.proofs.lemmas.Bool.{and_parts, eqb-true, not-true}
use Rattle.std.specs.Prelude.{filter}
use Rattle.roc_sequence.specs.Lists.{Has}
use Rattle.roc_sequence.proofs.Members.{from_has_map, has_append, from_has_filter, from_has_flat_map}
use Rattle.roc_sequence.proofs.Places.{listed_by_before}
use Rattle.roc_base.specs.declared.id.TxnId.{TxnId}
use Rattle.roc_base.specs.declared.node.Shard.{Shard}
use Rattle.roc_base.specs.TxnId.{is_txn}
use Rattle.roc_base.specs.Equalities.{is_txn-true}
use Rattle.roc_base.specs.Edge.{Dependency}
use Rattle.roc_base.specs.Edges.{united}
use Rattle.roc_base.proofs.Members.{IsAllOf-united}
use Rattle.roc_depgraph.specs.declared.known.KnownList.{KnownList}
use Rattle.roc_depgraph.specs.Deps.{is_known, IsDecided}
use Rattle.roc_depgraph.proofs.Laws.{known_stays, precedes_back}
use Rattle.roc_step.specs.declared.waits.OpenFetch.{OpenFetch}
use Rattle.roc_step.specs.Waits.{without_asked}
use Rattle.roc_plan.specs.Groups.{Plan}
use Rattle.roc_whole.specs.Serial as whole
use Rattle.roc_law_orders.specs.Behaviour.{is_txn_group}
use Rattle.roc_law_log.specs.Scheme.{Scheme}
use Rattle.roc_law_log.specs.Log.{Log}
use Rattle.roc_law_log.specs.Settled.{IsSettled}
use Rattle.roc_law_log.specs.Invariants.{LogInvariants}
use Rattle.roc_step.specs.Links.{all_entries, least_naming, without_links}
use Rattle.roc_step.specs.New.{AreNewTaken}
use Rattle.roc_step.specs.Asking.{asked_of}
use Rattle.roc_step.proofs.LeastNaming.{least_is}
use Rattle.roc_step.specs.State.{is_here, ServerState, hearing}
use Rattle.roc_step.specs.Below.{is_ended}
use Rattle.roc_step.specs.Lists.{is_done, links_of, is_missing, missing_after, lists_after, is_settled, lists_settled}
use Rattle.roc_law_protocol.specs.Beginnings.{Beginning}
use Rattle.roc_law_protocol.specs.Inner.Given.{LogLaws}
use Rattle.roc_law_protocol.proofs.Means.{HasBegun, AllMean, ServerMeans}
use Rattle.roc_law_protocol.proofs.Gone.{IsGone}
use Rattle.roc_law_protocol.proofs.Followed.{AreFollowedOf, followed_learnt, followed_marked, among_known, known_marked, precedes_marked}
use Rattle.roc_law_protocol.proofs.Deciding.{IsChange, more_keeps}
use Rattle.roc_law_protocol.proofs.HeardLists.{asked_either}

module _ (plan : Plan) (asked : TxnId → whole.Call) (S : Scheme) (start : Beginning) (laws : LogLaws S start.store) (c : Log) (i : LogInvariants S start.store c) where
  -- what an entry names began on the entry's shard
  pub entry_begun : (known : List KnownList) → AllMean plan asked S start c known → (d : Dependency) → Has d (all_entries known) → HasBegun plan asked S start c d.from d.at.0
  entry_begun known means d h =
      let k = from_has_flat_map (λ (k : KnownList). k.edges) d known h in
      let m = ((means k.0 k.1).sound d k.2).placed in
      let p = m.2 in
      subst (λ t. HasBegun plan asked S start c t d.at.0) p.of_first
      (record { group = p.first.group; began = listed_by_before is_txn_group c.past.started p.first m.0 p.before; on = laws.one_shard c i p.first m.0 p.conflict ∙ sym m.3 })

  -- so did it on the least shard of all entries that name it
  pub least_begun : (known : List KnownList) → AllMean plan asked S start c known → (t : TxnId) (at : ℕ) → HasBegun plan asked S start c t at → HasBegun plan asked S start c t (least_naming t at (all_entries known))
  least_begun known means t at first = elim (least_is t at (all_entries known)) [
    | inl e ↦ subst (HasBegun plan asked S start c t) (sym e) first
    | inr q ↦ subst (HasBegun plan asked S start c t) q.3 (subst (λ u. HasBegun plan asked S start c u q.0.at.0) q.2 (entry_begun known means q.0 q.1))
  ]

  module _ (n : ℕ) (s : ServerState) (o : ServerMeans plan asked S start c n s) where
    -- ---- lists are taught

    module _ (news : List KnownList) (lists : AllMean plan asked S start c news) (comps : List (List TxnId)) (new : AreNewTaken (IsDecided s.lists.links) (s.lists.links ++ links_of s news) comps) where
      abbrev known : List KnownList
      known = s.lists.known ++ news

      abbrev links : List KnownList
      links = s.lists.links ++ links_of s news

      pub known_mean : AllMean plan asked S start c known
      known_mean k h = elim (has_append k s.lists.known news h) [ inl j ↦ o.known k j | inr j ↦ lists k j ]

      -- what is done as it is learnt had a group here, and is gone
      done_settled : (t : TxnId) → is_done s known t ≡ true → IsSettled S start.store c t
      done_settled t h =
          let p = and_parts (is_ended s.below t) (not (is_here t s.started) && least_naming t (suc s.shard.0) (all_entries known) == s.shard.0) h in
          let q = and_parts (not (is_here t s.started)) (least_naming t (suc s.shard.0) (all_entries known) == s.shard.0) p.1 in
          let least = eqb-true (least_naming t (suc s.shard.0) (all_entries known)) s.shard.0 q.1 in
          let gone : IsGone s t = record { nowhere = not-true (is_here t s.started) q.0; ended = p.0 } in
          elim (least_is t (suc s.shard.0) (all_entries known)) [
            | inl e ↦ absurd (omega (arith, least, e))
            | inr e ↦
                (let here : HasBegun plan asked S start c t n = subst (HasBegun plan asked S start c t) (e.3 ∙ least ∙ o.number) (subst (λ u. HasBegun plan asked S start c u e.0.at.0) e.2 (entry_begun known known_mean e.0 e.1)) in
                (o.forgot t here gone).1)
          ]

      followed : AreFollowedOf (IsSettled S start.store c) known links
      followed = followed_learnt (IsSettled S start.store c) (is_done s known) done_settled s.lists.known s.lists.links news o.links

      -- what is missing began where it is asked for
      pub missing_begun : (a : OpenFetch) → Has a (missing_after s news) → HasBegun plan asked S start c a.id a.at.0
      missing_begun a h =
          let q = from_has_map (asked_of known) a (filter (is_missing s links) (united (all_entries links))) h in
          let z = (from_has_filter (is_missing s links) q.0 (united (all_entries links)) q.1).0 in
          let d = (IsAllOf-united (all_entries links) q.0 z).at in
          let first = entry_begun known known_mean d.0 (among_known (IsSettled S start.store c) known links followed d.0 d.1) in
          let there : HasBegun plan asked S start c q.0.from q.0.at.0 = subst (λ t. HasBegun plan asked S start c t q.0.at.0) d.2 (subst (λ (s : Shard). HasBegun plan asked S start c d.0.from s.0) d.3 first) in
          subst (λ (a : OpenFetch). HasBegun plan asked S start c a.id a.at.0) (sym q.2) (least_begun known known_mean q.0.from q.0.at.0 there)

      pub taught_change : IsChange plan asked S start c s (lists_after s news comps) comps
      taught_change =
          record {
            known = known_mean;
            links = followed;
            keeps = λ t h. known_stays s.lists.links links (more_keeps s.lists.links (links_of s news)) t h;
            was = λ u t h p. precedes_back s.lists.links links (more_keeps s.lists.links (links_of s news)) u t h p;
            asked_begun = λ a h. elim (asked_either a (missing_after s news) s.lists.waiting.asked h) [ inl k ↦ missing_begun a k | inr k ↦ o.fetched a k ];
            new = new;
            taken = refl;
          }

  -- ---- a transaction is settled

  -- in a state that has heard the watermark
  module _ (n : ℕ) (s : ServerState) (id : TxnId) (mark : ℕ) (o : ServerMeans plan asked S start c n (hearing s id.coord mark)) (settled : IsSettled S start.store c id) (comps : List (List TxnId)) (new : AreNewTaken (IsDecided s.lists.links) (map (without_links (is_settled s id mark)) s.lists.links) comps) where
    abbrev done : TxnId → Bool
    done = is_settled s id mark

    abbrev left : List KnownList
    left = map (without_links done) s.lists.links

    done_is : (t : TxnId) → done t ≡ true → IsSettled S start.store c t
    done_is t h = subst (IsSettled S start.store c) (sym (is_txn-true t id (and_parts (is_txn t id) _ h).0)) settled

    pub settled_change : IsChange plan asked S start c (hearing s id.coord mark) (lists_settled s id mark comps) comps
    settled_change =
        record {
          known = o.known;
          links = followed_marked (IsSettled S start.store c) done done_is s.lists.known s.lists.links o.links;
          keeps = λ t h. known_marked done s.lists.links t h;
          was = λ u t h p. precedes_marked done s.lists.links u t p;
          asked_begun = λ a h. asked_then a (is_known s.lists.known id) h;
          new = new;
          taken = refl;
        }
      where
        asked_then : (a : OpenFetch) (b : Bool) → Has a (cond b s.lists.waiting (without_asked done s.lists.waiting)).asked → HasBegun plan asked S start c a.id a.at.0
        asked_then a true h = o.fetched a h
        asked_then a false h = o.fetched a (from_has_filter (λ (a : OpenFetch). not (done a.id)) a s.lists.waiting.asked h).0
