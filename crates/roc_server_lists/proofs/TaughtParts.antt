-- Lists that are taught, from the parts of what is done
use Rattle.std.proofs.Common.{◌≡◌, ◌++◌, ◌+◌, ◌-◌, ◌==◌, ◌&&◌, ℕ, suc, true, false, not, List, [], length, map, filter, take, refl, sym, ap, subst, ◌∙◌, arith}
use Rattle.std.proofs.lemmas.Bool.{and_parts}
use Rattle.std.proofs.lemmas.List.{length-append, length-map, take_at}
use Rattle.std.specs.List.{AllByRecursion}
use Rattle.roc_sequence.specs.Lists.{Has}
use Rattle.roc_sequence.specs.Places.{is_listed, IsListed}
use Rattle.roc_base.specs.declared.id.TxnId.{TxnId}
use Rattle.roc_base.specs.declared.node.Shard.{Shard}
use Rattle.roc_base.specs.TxnId.{is_txn}
use Rattle.roc_depgraph.specs.declared.known.KnownList.{KnownList}
use Rattle.roc_depgraph.specs.Deps.{is_known}
use Rattle.roc_step.specs.declared.started.StartedGroup.{StartedGroup}
use Rattle.roc_step.specs.declared.waits.OpenFetch.{OpenFetch}
use Rattle.roc_step.specs.Asking.{waiting_after}
use Rattle.roc_step.specs.Below.{is_ended}
use Rattle.roc_step.specs.Forgets.{over}
use Rattle.roc_step.specs.Learning.{AreLearnable}
use Rattle.roc_step.specs.Links.{all_entries, least_naming, without_links, AreLinksOf}
use Rattle.roc_step.specs.New.{AreNewTaken}
use Rattle.roc_step.specs.State.{is_here, ServerState}
use Rattle.roc_step.proofs.SameIds.{ids_without}
use Rattle.roc_server_groups.specs.GroupsNow.{groups_without}
use Rattle.roc_server_table.specs.Kept.{TableLists}
use Rattle.roc_server_table.proofs.Unlearnt.{unlearnt as taken_out}
use Rattle.roc_server_lists.specs.declared.teaching.Named.{Named}
use Rattle.roc_server_lists.specs.declared.parts.ListParts.{ListParts}
use Rattle.roc_server_lists.specs.declared.trial.Lesson.{Lesson}
use Rattle.roc_server_lists.specs.declared.trial.Trial.TheVariants.{Lists}
use Rattle.roc_server_lists.specs.ListsNow.{is_missing_at, lists_of, IsNoneLeft, IsTaught, KeptLists}
use Rattle.roc_server_taken.specs.Components.{AreOver}
use Rattle.roc_server_lists.specs.Inner.Finding.{asked_by, is_done_at, links_at, AreAlike, AreIdsSame, FindsOfNews, Learns}
use Rattle.roc_server_lists.specs.Inner.Parts.{kept_in, AreConsistent}
use Rattle.roc_server_lists.specs.Inner.Trials.{after, front, lists_forgetting, tried_of, unlearnt, with_lists, AreLearnt, AreListsTried, HasRoomToKeep}
use Rattle.roc_server_news.proofs.FollowedLinks.{links_ids, links_learnable, links_learnt}
use Rattle.roc_server_lists.proofs.LeftOut.{missing_at, missing_unknown, none_after}
use Rattle.roc_server_lists.proofs.MissingSteps.{missing_is}
use Rattle.roc_server_lists.proofs.NoneLeft.{left_forgetting}
use Rattle.roc_server_lists.proofs.RoomAside.{alike_sound}
use Rattle.roc_server_lists.proofs.Undone.{none_decided}

-- what was put behind is what is left out
front_is : {A : Type 0} (known news all : List A) (count : ℕ) → count ≡ length news → all ≡ known ++ news → front count all ≡ known
front_is known news all count c e =
    let n : length all ≡ length known + length news = ap length e ∙ length-append known news in
    ap (λ ks. take (length all - count) ks) e ∙ take_at known news (length all - count) (omega (arith, n, c))

module _ (shard : Shard) (started : List StartedGroup) (old mid : ListParts) (news : List KnownList) (named : Named) (sound : AreConsistent old) (learnable : AreLearnable old.table.known news)
    (l : Learns shard started old mid news named) where
  -- ---- the lists are learnt

  abbrev known : List KnownList
  known = old.table.known ++ news

  abbrev linked : List KnownList
  linked = links_at shard started old news

  abbrev links : List KnownList
  links = old.table.links ++ linked

  -- all else is as it was
  abbrev was : ListParts
  was = record old { table = record old.table { known = known; links = links } }

  linked_learnable : AreLearnable old.table.links linked
  linked_learnable = links_learnable (is_ended old.marks) (is_done_at shard started old.marks known) old.table.known old.table.links news sound.right.linked learnable

  ids_are : map (λ (k : KnownList). k.of) linked ≡ map (λ (k : KnownList). k.of) news
  ids_are = ids_without (is_done_at shard started old.marks known) news

  links_are : AreLinksOf (is_ended old.marks) known links
  links_are =
      links_learnt (is_ended old.marks) (is_done_at shard started old.marks known)
      (λ u e. (and_parts (is_ended old.marks u) (not (is_here u started) && least_naming u (suc shard.0) (all_entries known) == shard.0) e).0) old.table.known old.table.links news sound.right.linked

  -- what a look at them needs
  pub same_ids : AreIdsSame mid.table
  same_ids = subst (λ (k : ListParts). AreIdsSame k.table) (sym l.is) (links_ids (is_ended old.marks) known links links_are)

  pub still_open : over mid.marks mid.taken.components ≡ []
  still_open = ap (λ (k : ListParts). over k.marks k.taken.components) l.is ∙ sound.none_over

  -- ---- what is found is what the definitions say

  module _ (new : ListParts) (b : AreAlike mid new) where
    table_is : new.table ≡ was.table
    table_is = b.table ∙ ap (λ (k : ListParts). k.table) l.is

    known_is : new.table.known ≡ known
    known_is i = (table_is i).known

    links_is : new.table.links ≡ links
    links_is i = (table_is i).links

    waiting_is : new.waits.waiting ≡ old.waits.waiting
    waiting_is = b.waiting ∙ ap (λ (k : ListParts). k.waits.waiting) l.is

    marks_is : new.marks ≡ old.marks
    marks_is = b.marks ∙ ap (λ (k : ListParts). k.marks) l.is

    taken_is : new.taken.components ≡ old.taken.components
    taken_is = b.taken ∙ ap (λ (k : ListParts). k.taken.components) l.is

    pub decided_is : new.table.decided ≡ old.table.decided
    decided_is i = (table_is i).decided

    -- without what was learnt all is as it was
    beside : (table : TableLists) → table ≡ old.table → AreAlike old (record new { table = table })
    beside table same =
        record { table = same; waiting = waiting_is; fetches = b.fetches ∙ ap (λ (k : ListParts). k.waits.fetches) l.is; marks = marks_is; taken = taken_is }

    -- and nothing that was learnt is decided
    module _ (items : List KnownList) (same : items ≡ news) where
      pub none_learnt : (n : KnownList) → Has n items → is_listed is_txn new.table.decided n.of ≡ false
      none_learnt n has =
          ap (λ ids. is_listed is_txn ids n.of) decided_is
          ∙ none_decided old.table.decided old.table.links linked news sound.right.decided.sound ids_are linked_learnable n (subst (Has n) same has)

      abbrev others_of : List KnownList → List KnownList
      others_of ks = filter (λ (k : KnownList). not (is_known items k.of)) ks

      -- where it is taken back, all is as it was
      pub taken_back : (table : TableLists) → table.known ≡ others_of new.table.known → table.links ≡ others_of new.table.links → table.decided ≡ new.table.decided
          → AreAlike old (record new { table = table })
      taken_back table by_known by_links by_decided =
          let some : List KnownList → List KnownList → List KnownList = λ ns ks. filter (λ (k : KnownList). not (is_known ns k.of)) ks in
          let known_back : table.known ≡ old.table.known = by_known ∙ (λ i. some (same i) (known_is i)) ∙ taken_out old.table.known news news refl learnable in
          let links_back : table.links ≡ old.table.links = by_links ∙ (λ i. some (same i) (links_is i)) ∙ taken_out old.table.links linked news ids_are linked_learnable in
          let decided_back : table.decided ≡ old.table.decided = by_decided ∙ decided_is in
          beside table (λ i. record { known = known_back i; links = links_back i; decided = decided_back i })

    module _ (x : Lesson) (same : x.news.items ≡ news) (f : FindsOfNews started mid named x.found) (left : IsNoneLeft started (kept_in old).lists)
        (over_is : AreOver mid.marks (mid.taken.components ++ x.found.components.items) x.over.items) where
      abbrev components : List (List TxnId)
      components = x.found.components.items

      abbrev missing : List OpenFetch
      missing = missing_at started known links old.waits.waiting.asked

      asks_are : x.found.asks.items ≡ missing
      asks_are =
          missing_is shard started old sound.right left news x.found.asks.items named.edges named.done.items l.edges l.done
          (subst (λ (k : ListParts). x.found.asks.items
          ≡ map (asked_by k.marks k.table.known) (filter (λ d. not (is_listed is_txn named.done.items d.from) && is_missing_at started k.table.links k.waits.waiting.asked d) named.edges)) l.is f.missing)

      chosen : AreNewTaken (IsListed is_txn old.table.decided) links components
      chosen = subst (λ (k : ListParts). AreNewTaken (IsListed is_txn k.table.decided) k.table.links components) l.is f.chosen

      over_then : AreOver old.marks (old.taken.components ++ components) x.over.items
      over_then = subst (λ (k : ListParts). AreOver k.marks (k.taken.components ++ components) x.over.items) l.is over_is

      -- the lists behind it, before anything is forgotten
      abbrev then : KeptLists
      then = record {
        lists = record { known = known; links = links; waiting = waiting_after old.waits.waiting news missing; taken = old.taken.components ++ components };
        below = old.marks;
      }

      lists_are : with_lists new x ≡ then
      lists_are i = record {
        lists = record { known = known_is i; links = links_is i; waiting = waiting_after (waiting_is i) (same i) (asks_are i); taken = taken_is i ++ components };
        below = marks_is i;
      }

      -- a state with these lists, watermarks and groups on this shard
      abbrev at : ServerState → ServerState
      at s = record { shard = shard; store = s.store; started = started; lists = (kept_in old).lists; below = old.marks }

      at_teaches : (s : ServerState) → IsTaught (at s) old.table.decided news (tried_of new (Lists x))
      at_teaches s = record { components = components; chosen = chosen; kept = ap lists_forgetting lists_are; newly = f.ids; asks = asks_are; over = over_then }

      pub teaches : (s : ServerState) → s.shard ≡ shard → s.started ≡ started → lists_of s ≡ kept_in old → IsTaught s old.table.decided news (tried_of new (Lists x))
      teaches s own groups is =
          let same : at s ≡ s = λ i. record { shard = sym own i; store = s.store; started = sym groups i; lists = (sym is i).lists; below = (sym is i).below } in
          subst (λ s. IsTaught s old.table.decided news (tried_of new (Lists x))) same (at_teaches s)

      -- nothing is left behind it
      pub taught_left : IsNoneLeft (groups_without x.over.items started) (after new (Lists x)).lists
      taught_left =
          subst (λ k. IsNoneLeft (groups_without x.over.items started) (lists_forgetting k).lists) (sym lists_are)
          (left_forgetting started then x.over.items over_then (none_after started old.waits.waiting.asked known links))

      -- ---- it can be kept, or taken back

      count : length x.news.items ≡ length news
      count = ap length same

      abbrev undone : ListParts
      undone = unlearnt new x

      undone_known : undone.table.known ≡ old.table.known
      undone_known = front_is old.table.known news new.table.known (length x.news.items) count known_is

      undone_links : undone.table.links ≡ old.table.links
      undone_links =
          front_is old.table.links linked new.table.links (length x.news.items)
          (count ∙ sym (length-map news (without_links (is_done_at shard started old.marks known)))) links_is

      pub undone_alike : AreAlike old undone
      undone_alike = beside undone.table (λ i. record { known = undone_known i; links = undone_links i; decided = decided_is i })

      are_learnt : AreLearnt new x.news.items
      are_learnt = record {
        known = record {
          before = undone.table.known;
          known_are = known_is ∙ (λ i. sym undone_known i ++ sym same i);
          learnable = subst (λ ks. AreLearnable ks x.news.items) (sym undone_known) (subst (AreLearnable old.table.known) (sym same) learnable);
        };
        links = record {
          before = undone.table.links;
          linked = linked;
          links_are = links_is ∙ ap (λ ks. ks ++ linked) (sym undone_links);
          of = ids_are ∙ ap (map (λ (k : KnownList). k.of)) (sym same);
          learnable = subst (λ ks. AreLearnable ks linked) (sym undone_links) linked_learnable;
        };
      }

      pub lists_tried : HasRoomToKeep new x.found → AreListsTried new x
      unfolding are_learnt
      lists_tried room = record {
        sound = alike_sound old undone undone_alike sound;
        learnt = are_learnt;
        known_before = refl;
        links_before = refl;
        unknown =
            subst (λ asks. AllByRecursion (λ a. not (is_known new.table.links a.id) ≡ true) asks) (sym asks_are)
            (subst (λ ks. AllByRecursion (λ a. not (is_known ks a.id) ≡ true) missing) (sym links_is) (missing_unknown started old.waits.waiting.asked known links));
        chosen = subst (λ (t : TableLists). AreNewTaken (IsListed is_txn t.decided) t.links components) (sym table_is) chosen;
        ids = f.ids;
        linked =
            subst (λ marks. AreLinksOf (is_ended marks) new.table.known new.table.links) (sym marks_is)
            (subst (λ (t : TableLists). AreLinksOf (is_ended old.marks) t.known t.links) (sym table_is) links_are);
        room = room;
        over = subst (λ marks. AreOver marks (new.taken.components ++ components) x.over.items) (sym marks_is)
            (subst (λ (taken : List (List TxnId)). AreOver old.marks (taken ++ components) x.over.items) (sym taken_is) over_then);
      }
