-- What known lists name and is unknown, not here and not asked for
use Rattle.std.proofs.Common.{◌≡◌, Bool, true, false, not, ◌&&◌, List, ◌++◌, map, filter, refl, sym, ap, subst, ◌∙◌}
use Rattle.std.proofs.lemmas.Bool.{and_parts}
use Rattle.std.proofs.lemmas.Grind.{flat_map-append}
use Rattle.std.specs.List.{AllByRecursion}
use Rattle.roc_sequence.specs.Lists.{Has}
use Rattle.roc_sequence.proofs.Holds.{all_weaker, has_all}
use Rattle.roc_sequence.proofs.Members.{from_has_map, from_has_filter, has_map}
use Rattle.roc_base.specs.declared.id.TxnId.{TxnId}
use Rattle.roc_base.specs.Edge.{Dependency}
use Rattle.roc_base.specs.Edges.{united}
use Rattle.roc_step.specs.declared.started.StartedGroup.{StartedGroup}
use Rattle.roc_step.specs.declared.waits.OpenFetch.{OpenFetch}
use Rattle.roc_step.specs.Waits.{was_asked_for, with_all_asked}
use Rattle.roc_step.specs.Asking.{asked_of}
use Rattle.roc_depgraph.specs.declared.known.KnownList.{KnownList}
use Rattle.roc_depgraph.specs.Deps.{is_known}
use Rattle.roc_depgraph.proofs.Laws.{KeepsLists, known_stays}
use Rattle.roc_step.proofs.Asking.{asked_still, asked_all}
use Rattle.roc_step.proofs.Skipped.{left_still, left_by_third, passed, all_skipped}
use Rattle.roc_step.specs.Links.{all_entries}
use Rattle.roc_step.specs.State.{is_here}
use Rattle.roc_server_lists.specs.ListsNow.{is_missing_at}

-- what is missing of what is followed, as it is asked for
abbrev pub missing_at : List StartedGroup → (known links : List KnownList) → (asked : List OpenFetch) → List OpenFetch
missing_at started known links asked = map (asked_of known) (filter (is_missing_at started links asked) (united (all_entries links)))

module _ (started : List StartedGroup) (asked : List OpenFetch) where
  -- that an entry's transaction is missing is a test of that transaction
  missing_of : (links : List KnownList) (a b : Dependency) → a.from ≡ b.from → is_missing_at started links asked a ≡ is_missing_at started links asked b
  missing_of links a b e = ap (λ t. not (is_known links t) && (not (is_here t started) && not (was_asked_for t asked))) e

  -- of all lists the new ones name what is missing, where the old ones named nothing that is
  pub missing_of_news : (old news : List KnownList) → KeepsLists old (old ++ news) → AllByRecursion (λ d. is_missing_at started old asked d ≡ false) (all_entries old)
      → filter (is_missing_at started (old ++ news) asked) (united (all_entries news)) ≡ filter (is_missing_at started (old ++ news) asked) (united (all_entries (old ++ news)))
  missing_of_news old news keeps none =
      let still : (d : Dependency) → is_missing_at started old asked d ≡ false → is_missing_at started (old ++ news) asked d ≡ false =
      λ d h. left_still (is_known old d.from) (is_here d.from started) (was_asked_for d.from asked) (is_known (old ++ news) d.from) (is_here d.from started) (was_asked_for d.from asked)
      (λ k. known_stays old (old ++ news) keeps d.from k) (λ k. k) (λ k. k) h in
      let skipped = all_skipped (is_missing_at started (old ++ news) asked) (missing_of (old ++ news)) (all_entries old) (all_entries news)
      (all_weaker (λ d. is_missing_at started old asked d ≡ false) (λ d. is_missing_at started (old ++ news) asked d ≡ false) still (all_entries old) none) in
      sym (ap (λ es. filter (is_missing_at started (old ++ news) asked) (united es)) (flat_map-append (λ (k : KnownList). k.edges) old news) ∙ skipped)

  -- what is missing is unknown
  pub missing_unknown : (known links : List KnownList) → AllByRecursion (λ a. not (is_known links a.id) ≡ true) (missing_at started known links asked)
  missing_unknown known links =
      let named = united (all_entries links) in
      has_all (λ (a : OpenFetch). not (is_known links a.id) ≡ true) (missing_at started known links asked)
      (λ a h.
      let q = from_has_map (asked_of known) a (filter (is_missing_at started links asked) named) h in
      let f = from_has_filter (is_missing_at started links asked) q.0 named q.1 in
      subst (λ (a : OpenFetch). not (is_known links a.id) ≡ true) (sym q.2) (and_parts (not (is_known links q.0.from)) _ f.1).0)

  -- and once it was asked for nothing is
  module _ (known links : List KnownList) where
    abbrev asks : List OpenFetch
    asks = missing_at started known links asked

    abbrev after : List OpenFetch
    after = with_all_asked asks asked

    abbrev missing : Dependency → Bool
    missing = is_missing_at started links asked

    one_after : (d : Dependency) → Has d (all_entries links) → is_missing_at started links after d ≡ false
    one_after d named = go (missing d) refl
      where
        go : (b : Bool) → missing d ≡ b → is_missing_at started links after d ≡ false
        go true e =
            let u = passed missing (λ a b f. missing_of links a b f) (all_entries links) d named e in
            let a : was_asked_for u.0.from after ≡ true =
            asked_all (asked_of known u.0) asks asked (has_map (asked_of known) u.0 (filter missing (united (all_entries links))) u.1) in
            left_by_third (is_known links d.from) (is_here d.from started) (was_asked_for d.from after)
            (subst (λ (t : TxnId). was_asked_for t after ≡ true) u.2 a)
        go false e =
            left_still (is_known links d.from) (is_here d.from started) (was_asked_for d.from asked) (is_known links d.from) (is_here d.from started) (was_asked_for d.from after)
            (λ k. k) (λ k. k) (λ k. asked_still d.from asks asked k) e

    pub none_after : AllByRecursion (λ d. is_missing_at started links after d ≡ false) (all_entries links)
    none_after = has_all (λ d. is_missing_at started links after d ≡ false) (all_entries links) one_after
