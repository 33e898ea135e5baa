-- What is missing once new lists are learnt, as it is read off the new ones
use Rattle.std.proofs.Common.{◌≡◌, ◌≢◌, ◌==◌, ◌&&◌, suc, Bool, true, false, not, List, ◌++◌, map, filter, if◌then◌else◌, refl, sym, ap, subst, ◌∙◌}
use Rattle.std.proofs.lemmas.Bool.{false≢true, and_parts, not-true}
use Rattle.roc_sequence.specs.Lists.{Has}
use Rattle.roc_sequence.specs.Places.{is_listed}
use Rattle.roc_sequence.proofs.Holds.{all_has}
use Rattle.roc_sequence.proofs.Members.{from_has_filter, has_filter}
use Rattle.roc_base.specs.declared.id.TxnId.{TxnId}
use Rattle.roc_base.specs.declared.node.Shard.{Shard}
use Rattle.roc_base.specs.TxnId.{is_txn}
use Rattle.roc_base.specs.Edge.{Dependency}
use Rattle.roc_base.specs.Edges.{united}
use Rattle.roc_base.proofs.Members.{IsAllOf-united}
use Rattle.roc_step.specs.declared.started.StartedGroup.{StartedGroup}
use Rattle.roc_step.specs.declared.waits.OpenFetch.{OpenFetch}
use Rattle.roc_step.specs.Waits.{was_asked_for}
use Rattle.roc_depgraph.specs.declared.known.KnownList.{KnownList}
use Rattle.roc_depgraph.specs.Deps.{is_known}
use Rattle.roc_depgraph.proofs.Laws.{known_stays}
use Rattle.roc_step.specs.Asking.{asked_of}
use Rattle.roc_step.specs.Below.{is_ended}
use Rattle.roc_step.specs.Links.{all_entries, least_naming}
use Rattle.roc_step.specs.State.{is_here}
use Rattle.roc_step.proofs.LeastNaming.{least_of_news}
use Rattle.roc_step.proofs.WithoutLinks.{entries_left, united_left}
use Rattle.roc_server_groups.proofs.IndexSteps.{filter_both}
use Rattle.roc_server_lists.specs.declared.parts.ListParts.{ListParts}
use Rattle.roc_server_lists.specs.ListsNow.{is_missing_at, IsNoneLeft}
use Rattle.roc_server_lists.specs.Inner.Finding.{asked_by, is_done_at, links_at}
use Rattle.roc_server_lists.specs.Inner.Parts.{kept_in, AreRightParts}
use Rattle.roc_server_lists.proofs.AlikeTests.{filter_alike, map_alike}
use Rattle.roc_server_news.proofs.FollowedLinks.{followed_among_all}
use Rattle.roc_server_news.proofs.Learning.{keeps_front}
use Rattle.roc_server_lists.proofs.LeftOut.{missing_at, missing_of_news}

module _ (shard : Shard) (started : List StartedGroup) (old : ListParts) (h : AreRightParts old) (left : IsNoneLeft started (kept_in old).lists) (news : List KnownList) where
  abbrev known : List KnownList
  known = old.table.known ++ news

  abbrev done : TxnId → Bool
  done = is_done_at shard started old.marks known

  abbrev linked : List KnownList
  linked = links_at shard started old news

  abbrev links : List KnownList
  links = old.table.links ++ linked

  abbrev asked : List OpenFetch
  asked = old.waits.waiting.asked

  abbrev named : List Dependency
  named = united (all_entries news)

  abbrev missing : Dependency → Bool
  missing = is_missing_at started links asked

  abbrev lacking : Dependency → Bool
  lacking d = not (done d.from) && missing d

  -- what new lists name and is missing
  lacking_is : filter lacking named ≡ filter missing (united (all_entries links))
  lacking_is =
      sym (filter_both (λ d. not (done d.from)) missing lacking (λ d. refl) named)
      ∙ ap (filter missing) (sym (united_left (λ d. not (done d.from)) (λ a b e. ap (λ t. not (done t)) e) (all_entries news)) ∙ ap united (sym (entries_left done news)))
      ∙ missing_of_news started asked old.table.links linked (keeps_front old.table.links linked) left

  -- what is not ended is followed wherever it is named
  not_done : (t : TxnId) → is_ended old.marks t ≡ false → done t ≡ false
  not_done t e = ap (λ b. b && (not (is_here t started) && least_naming t (suc shard.0) (all_entries known) == shard.0)) e

  -- so of what is missing and not ended no list was known before
  unnamed : (d : Dependency) → missing d ≡ true → is_ended old.marks d.from ≡ false → (e : Dependency) → Has e (all_entries old.table.known) → e.from ≢ d.from
  unnamed d is n e has same =
      let followed = followed_among_all (is_ended old.marks) old.table.known old.table.links h.linked e has (ap (is_ended old.marks) same ∙ n) in
      let none : is_missing_at started old.table.links asked e ≡ false = all_has (λ d. is_missing_at started old.table.links asked d ≡ false) e (all_entries old.table.links) left followed in
      let now = and_parts (not (is_known links d.from)) (not (is_here d.from started) && not (was_asked_for d.from asked)) is in
      let rest = and_parts (not (is_here d.from started)) (not (was_asked_for d.from asked)) now.1 in
      let none2 : (not (is_known old.table.links d.from) && (not (is_here d.from started) && not (was_asked_for d.from asked))) ≡ false =
      subst (λ (t : TxnId). (not (is_known old.table.links t) && (not (is_here t started) && not (was_asked_for t asked))) ≡ false) same none in
      clash (is_known old.table.links d.from) refl none2 (not-true (is_known links d.from) now.0) rest.0 rest.1
    where
      clash : (b : Bool) → is_known old.table.links d.from ≡ b → (not (is_known old.table.links d.from) && (not (is_here d.from started) && not (was_asked_for d.from asked))) ≡ false
          → is_known links d.from ≡ false → not (is_here d.from started) ≡ true → not (was_asked_for d.from asked) ≡ true → ⊥
      clash true e l k a b = false≢true (sym k ∙ known_stays old.table.links links (keeps_front old.table.links linked) d.from e)
      clash false e l k a b = false≢true (sym l ∙ (λ i. not (e i) && (a i && b i)))

  -- the shard that is asked is the least of all
  asked_is : (d : Dependency) → Has d (filter lacking named) → asked_by old.marks known d ≡ asked_of known d
  asked_is d has = go (is_ended old.marks d.from) refl
    where
      go : (b : Bool) → is_ended old.marks d.from ≡ b → (if is_ended old.marks d.from then asked_of known d else record { id = d.from; at = d.at }) ≡ asked_of known d
      go true e = ap (λ b. if b then asked_of known d else record { id = d.from; at = d.at }) e
      go false e =
          let f = from_has_filter lacking d named has in
          let p = and_parts (not (done d.from)) (missing d) f.1 in
          let there : Has d (united (all_entries linked)) =
          subst (Has d) (sym (united_left (λ d. not (done d.from)) (λ a b e. ap (λ t. not (done t)) e) (all_entries news)) ∙ ap united (sym (entries_left done news)))
          (has_filter (λ d. not (done d.from)) d named f.0 p.0) in
          ap (λ b. if b then asked_of known d else record { id = d.from; at = d.at }) e
          ∙ (λ i. record { id = d.from; at = record { 0 = sym (least_of_news done old.table.known news d (unnamed d p.1 e) (not_done d.from e) there) i } })

  pub missing_is : (asks : List OpenFetch) (edges : List Dependency) (listed : List TxnId) → edges ≡ named → ((d : Dependency) → Has d (all_entries news) → is_listed is_txn listed d.from ≡ done d.from)
      → asks ≡ map (asked_by old.marks known) (filter (λ d. not (is_listed is_txn listed d.from) && missing d) edges) → asks ≡ missing_at started known links asked
  missing_is asks edges listed are alike found =
      found
      ∙ ap (λ es. map (asked_by old.marks known) (filter (λ d. not (is_listed is_txn listed d.from) && missing d) es)) are
      ∙ ap (map (asked_by old.marks known)) (filter_alike (λ d. not (is_listed is_txn listed d.from) && missing d) lacking named
      (λ d has. let a = (IsAllOf-united (all_entries news) d has).at in
      ap (λ b. not b && missing d) (subst (λ t. is_listed is_txn listed t ≡ done t) a.2 (alike a.0 a.1))))
      ∙ map_alike (asked_by old.marks known) (asked_of known) (filter lacking named) asked_is
      ∙ ap (map (asked_of known)) lacking_is
