-- Lists that are taken in one after another, and the lacks then
use Rattle.std.proofs.Common.{◌≡◌, ◌==◌, not, List, [], ◌∷◌, ◌++◌, length, map, filter, Some, None, sym, ap, subst, ◌∙◌, append-nil, append_assoc, arith}
use Rattle.std.proofs.lemmas.Option.{none-some}
use Rattle.std.specs.List.{flat_map}
use Rattle.roc_sequence.specs.Places.{IsListed}
use Rattle.roc_base.specs.declared.id.TxnId.{TxnId}
use Rattle.roc_base.specs.TxnId.{is_txn}
use Rattle.roc_base.specs.Edge.{Dependency}
use Rattle.roc_depgraph.specs.declared.known.KnownList.{KnownList}
use Rattle.roc_depgraph.specs.Closure.{IsRisingListOf}
use Rattle.roc_depgraph.specs.Deps.{list_of, learnt}
use Rattle.roc_await.specs.declared.group.Group.{Group}
use Rattle.roc_await.specs.declared.lack.Lack.{Lack}
use Rattle.roc_await.specs.Lacks.{IsMissing, AreLacks, AreDecidedBy}
use Rattle.roc_await.specs.Learning.{AreLacksBefore}
use Rattle.roc_await.specs.Inner.Grown.{AreListed, IsMissingFor, AreGrown}
use Rattle.roc_await.specs.Inner.Groups.{all_lacks, missing_if_named, is_other_unknown, misses_nothing, decided_of}
use Rattle.roc_await.specs.Inner.Taken.{AreLacksNow, AreLacksSince, AreLacksTaken}
use Rattle.roc_await.proofs.GrownLacks.{lacks_since, since_now, grown_since, some_left, newly, same_decided}
use Rattle.roc_await.proofs.InGroups.{lacks_of_filter, decided_are}
use Rattle.roc_await.proofs.NamedMissing.{are_listed, all_missing}
use Rattle.roc_await.proofs.NextList.{ofs, IsNext, next_is, IsFirstNew, first_new}

-- at first all new lists are left
pub first_taken : (all : List KnownList) (ids : List TxnId) (lacks : List Lack) (were : AreLacksBefore all ids lacks) → AreLacksTaken were.before all ids lacks
first_taken all ids lacks were = record {
  known = were.before;
  news = were.news;
  all_are = were.known_are;
  left_are = were.ids_are;
  learnable = were.learnable;
  since = lacks_since were.before lacks were.lacks_were;
}

-- and at last none
pub last_taken : (before all : List KnownList) (left : List TxnId) (lacks : List Lack) → length left ≡ 0 → AreLacksTaken before all left lacks → AreLacksSince before all lacks
last_taken before all (u ∷ left) lacks none taken = absurd (omega arith)
last_taken before all [] lacks none taken = go taken.news taken.all_are taken.left_are
  where
    go : (news : List KnownList) → all ≡ taken.known ++ news → [] ≡ ofs news → AreLacksSince before all lacks
    go [] a e = subst (λ ks. AreLacksSince before ks lacks) (sym (a ∙ append-nil taken.known)) taken.since
    go (k ∷ ks) a e = absurd (cc)

-- the same of other words for the same lacks
pub taken_others : (before all : List KnownList) (left : List TxnId) (lacks others : List Lack) → lacks ≡ others → AreLacksTaken before all left lacks → AreLacksTaken before all left others
taken_others before all left lacks others e taken = record {
  known = taken.known;
  news = taken.news;
  all_are = taken.all_are;
  left_are = taken.left_are;
  learnable = taken.learnable;
  since = subst (AreLacksSince before taken.known) e taken.since;
}

pub missing_others : (before all : List KnownList) (u : TxnId) (later : List TxnId) (edges : List Dependency) (ids : List TxnId) (lacks others : List Lack) → lacks ≡ others
    → ((taken : AreLacksTaken before all (u ∷ later) others) → IsRisingListOf (IsMissing (learnt taken.known u edges) u) ids)
    → (taken : AreLacksTaken before all (u ∷ later) lacks) → IsRisingListOf (IsMissing (learnt taken.known u edges) u) ids
unfolding taken_others
missing_others before all u later edges ids lacks others e h taken = h (taken_others before all (u ∷ later) lacks others e taken)

module _ (before all : List KnownList) (u : TxnId) (later : List TxnId) where
  -- the list of the next one is there
  pub next_there : (lacks : List Lack) → AreLacksTaken before all (u ∷ later) lacks → list_of u all ≡ None → ⊥
  next_there lacks taken none = none-some (first_new before all u later lacks taken).first.edges (sym none ∙ (first_new before all u later lacks taken).list)

  module _ (edges : List Dependency) (is : list_of u all ≡ Some edges) where
    -- what is missing for it is what was found
    pub found_missing : (groups : List Group) (taken : AreLacksTaken before all (u ∷ later) (all_lacks groups)) (found ids : List TxnId)
        → found ≡ flat_map (missing_if_named u edges) groups ++ filter (is_other_unknown all later u) (map (λ d. d.from) edges)
        → IsRisingListOf (IsListed is_txn found) ids → IsRisingListOf (IsMissing (learnt taken.known u edges) u) ids
    found_missing groups taken found ids e rising =
        let next : IsNext taken.known all u later = next_is before all u later (all_lacks groups) taken in
        all_missing taken.known u edges next.none found ids
        (subst (AreListed (IsMissingFor taken.known u edges)) (sym e) (are_listed before taken.known all u edges later groups taken.since next)) rising

    -- it is taken in
    pub one_taken : (olds news : List Lack) (fresh : List TxnId) (taken : AreLacksTaken before all (u ∷ later) olds) → IsRisingListOf (IsMissing (learnt taken.known u edges) u) fresh → AreGrown u fresh olds news
        → AreLacksTaken before all later news
    one_taken olds news fresh taken are_fresh g = record {
      known = taken.known ++ new.first ∷ [];
      news = new.behind;
      all_are = new.all_are ∙ sym (append_assoc taken.known (new.first ∷ []) new.behind);
      left_are = new.later_are;
      learnable = new.learnable;
      since = subst (λ (k : KnownList). AreLacksSince before (taken.known ++ k ∷ []) news) same (grown_since taken.known u edges next.none fresh are_fresh before olds news taken.since g);
    }
      where
        next : IsNext taken.known all u later
        next = next_is before all u later olds taken

        new : IsFirstNew before all u later olds taken
        new = first_new before all u later olds taken

        edges_are : edges ≡ new.first.edges
        edges_are = let e : Some edges ≡ Some new.first.edges = sym is ∙ new.list in cc

        same : record { of = u; edges = edges } ≡ new.first
        same =
            let with_of : TxnId → KnownList = λ t. record { of = t; edges = edges } in
            let with_edges : List Dependency → KnownList = λ es. record { of = new.first.of; edges = es } in
            ap with_of new.of ∙ ap with_edges edges_are

-- what is left to wait, and what is decided now
pub left_lacks : (before known : List KnownList) (groups after : List Group) → AreLacksNow before known (all_lacks groups) → after ≡ filter (λ g. not (misses_nothing g)) groups → AreLacks known (all_lacks after)
left_lacks before known groups after now e =
    subst (AreLacks known) (sym (ap all_lacks e ∙ lacks_of_filter (λ ids. not (length ids == 0)) groups)) (some_left before known (all_lacks groups) now)

pub now_decided : (before known : List KnownList) (groups : List Group) (ids : List TxnId) → AreLacksNow before known (all_lacks groups) → IsRisingListOf (IsListed is_txn (flat_map decided_of groups)) ids → AreDecidedBy before known ids
now_decided before known groups ids now r =
    same_decided before known (flat_map decided_of groups) ids (subst (AreDecidedBy before known) (decided_are groups) (newly before known (all_lacks groups) now)) r

pub were_others : (all : List KnownList) (ids : List TxnId) (lacks others new : List Lack) → lacks ≡ others → ((were : AreLacksBefore all ids others) → AreLacksSince were.before all new) → (were : AreLacksBefore all ids lacks) → AreLacksNow were.before all new
were_others all ids lacks others new e h were =
    since_now were.before all new
    (h (record { before = were.before; news = were.news; known_are = were.known_are; ids_are = were.ids_are; learnable = were.learnable; lacks_were = subst (AreLacks were.before) e were.lacks_were }))
