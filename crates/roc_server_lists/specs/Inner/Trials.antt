-- A step that is tried: the parts that it led away from, what it is to leave, and that there is room for it
use Rattle.std.specs.Prelude.{◌≡◌, ◌<◌, ◌≤◌, ◌-◌, ◌++◌, ◌∷◌, [], ℕ, List, Option, Some, None, length, map, filter, not, true, take, if◌then◌else◌}
use Rattle.std.specs.List.{flat_map, AllByRecursion}
use Rattle.std.specs.Option.{option_map}
use Rattle.roc_sequence.specs.Places.{IsListed, is_listed}
use Rattle.roc_base.specs.declared.id.TxnId.{TxnId}
use Rattle.roc_base.specs.TxnId.{is_txn}
use Rattle.roc_depgraph.specs.declared.known.KnownList.{KnownList}
use Rattle.roc_depgraph.specs.Deps.{is_known}
use Rattle.roc_step.specs.declared.waits.OpenFetch.{OpenFetch}
use Rattle.roc_step.specs.Asking.{waiting_after}
use Rattle.roc_step.specs.Below.{is_ended, raised}
use Rattle.roc_step.specs.Forgets.{is_over, over}
use Rattle.roc_step.specs.Links.{without_links, AreLinksOf}
use Rattle.roc_step.specs.New.{AreLearntLast, AreLinkedLast, AreNewTaken}
use Rattle.roc_step.specs.Waits.{without_asked}
use Rattle.roc_server_lists.specs.declared.parts.ListParts.{ListParts}
use Rattle.roc_server_lists.specs.declared.trial.Found.{Found}
use Rattle.roc_server_lists.specs.declared.trial.Heard.{Heard}
use Rattle.roc_server_lists.specs.declared.trial.Lesson.{Lesson}
use Rattle.roc_server_lists.specs.declared.trial.Settling.{Settling}
use Rattle.roc_server_lists.specs.declared.trial.Trial.{Trial}
use Rattle.roc_server_lists.specs.declared.trial.Trial.TheVariants.{Asker, Lists, Marks, Settled}
use Rattle.roc_server_lists.specs.ListsNow.{with_one_asking, KeptLists, ListsNow, TriedLists}
use Rattle.roc_server_taken.specs.Components.{AreOver}
use Rattle.roc_server_lists.specs.Inner.Parts.{kept_in, AreConsistent}

-- ---- before a trial

-- all but the last of these
abbrev pub front : {A : Type 0} → (news : ℕ) → List A → List A
front news xs = take (length xs - news) xs

-- without what was learnt
abbrev pub unlearnt : ListParts → Lesson → ListParts
unlearnt k l = record k { table = record k.table { known = front (length l.news.items) k.table.known; links = front (length l.news.items) k.table.links } }

-- what is kept, less what was tried
abbrev pub before_trial : ListParts → Trial → ListParts
before_trial k (Asker asker) = k
before_trial k (Lists l) = unlearnt k l
before_trial k (Marks h) = k
before_trial k (Settled s) = k

-- the same, where something was tried
abbrev pub before : ListParts → Option Trial → ListParts
before k None = k
before k (Some trial) = before_trial k trial

-- ---- behind a trial

-- without the lists of these transactions: entries that name them are done, and they were not asked for
abbrev pub lists_without : (forgotten : List TxnId) → KeptLists → KeptLists
lists_without forgotten k =
    record k {
      lists = record {
        known = filter (λ l. not (is_listed is_txn forgotten l.of)) k.lists.known;
        links = map (without_links (is_listed is_txn forgotten)) (filter (λ l. not (is_listed is_txn forgotten l.of)) k.lists.links);
        waiting = without_asked (is_listed is_txn forgotten) k.lists.waiting;
        taken = filter (λ c. not (is_over k.below c)) k.lists.taken;
      };
    }

-- what is over is forgotten
abbrev pub lists_forgetting : KeptLists → KeptLists
lists_forgetting k = lists_without (over k.below k.lists.taken) k

-- the lists behind new ones, before anything is forgotten
abbrev pub with_lists : ListParts → Lesson → KeptLists
with_lists k l =
    record {
      lists = record {
        known = k.table.known;
        links = k.table.links;
        waiting = waiting_after k.waits.waiting l.news.items l.found.asks.items;
        taken = k.taken.components ++ l.found.components.items;
      };
      below = k.marks;
    }

-- what is followed where the entries that name these are done
abbrev pub links_settled : List KnownList → (settled : List TxnId) → List KnownList
links_settled links settled = map (without_links (is_listed is_txn settled)) links

-- behind a settled transaction
abbrev pub with_settled : ListParts → Settling → KeptLists
with_settled k s =
    record {
      lists = record {
        known = k.table.known;
        links = links_settled k.table.links s.settled.items;
        waiting = if s.is_known then k.waits.waiting else without_asked (is_listed is_txn s.settled.items) k.waits.waiting;
        taken = k.taken.components ++ s.components.items;
      };
      below = s.marks;
    }

-- what is kept behind it
abbrev pub after : ListParts → Trial → KeptLists
after k (Asker asker) = with_one_asking asker (kept_in k)
after k (Lists l) = lists_forgetting (with_lists k l)
after k (Marks h) = lists_forgetting (record (kept_in k) { below = h.marks })
after k (Settled s) = lists_forgetting (with_settled k s)

-- what it newly decides, one component after another
abbrev pub newly : Trial → List TxnId
newly (Lists l) = l.found.ids.items
newly (Settled s) = s.ids.items
newly trial = []

-- what it asks for
abbrev pub asks : Trial → List OpenFetch
asks (Lists l) = l.found.asks.items
asks trial = []

-- what it forgets
abbrev pub over_by : Trial → List TxnId
over_by (Asker asker) = []
over_by (Lists l) = l.over.items
over_by (Marks h) = h.over.items
over_by (Settled s) = s.over.items

-- all of it, as contracts see it
abbrev pub tried_of : ListParts → Trial → TriedLists
tried_of k trial = record { kept = after k trial; newly = newly trial; asks = asks trial; over = over_by trial }

-- what is kept and what is tried, as contracts see it
abbrev pub lists_now : ListParts → Option Trial → ListsNow
lists_now k trial = record { kept = kept_in (before k trial); decided = k.table.decided; tried = option_map (tried_of k) trial }

-- ---- what is tried is right, and there is room for it

-- these lists were learnt last, and what is followed of them
pub record AreLearnt (k : ListParts) (news : List KnownList) : Type 0 where
  pub known : AreLearntLast k.table.known news
  pub links : AreLinkedLast k.table.links news

-- there is room for what was found
pub record HasRoomToKeep (k : ListParts) (found : Found) : Type 0 where
  pub asks : length found.asks.items ≤ k.waits.spare
  pub components : length found.components.items ≤ k.taken.spare

-- all is right without the lists that were learnt; what was found of them is right, and there is room for it
pub record AreListsTried (k : ListParts) (l : Lesson) : Type 0 where
  pub sound : AreConsistent (unlearnt k l)
  pub learnt : AreLearnt k l.news.items
  pub known_before : learnt.known.before ≡ (unlearnt k l).table.known
  pub links_before : learnt.links.before ≡ (unlearnt k l).table.links
  pub unknown : AllByRecursion (λ a. not (is_known k.table.links a.id) ≡ true) l.found.asks.items
  pub chosen : AreNewTaken (IsListed is_txn k.table.decided) k.table.links l.found.components.items
  pub ids : l.found.ids.items ≡ flat_map (λ c. c) l.found.components.items
  pub linked : AreLinksOf (is_ended k.marks) k.table.known k.table.links
  pub room : HasRoomToKeep k l.found
  pub over : AreOver k.marks (k.taken.components ++ l.found.components.items) l.over.items

-- all is right; the watermarks only rise, and this is over by them
pub record AreMarksTried (k : ListParts) (h : Heard) : Type 0 where
  pub sound : AreConsistent k
  pub risen : (t : TxnId) → is_ended k.marks t ≡ true → is_ended h.marks t ≡ true
  pub over : AreOver h.marks k.taken.components h.over.items

-- what comes of a settled transaction: the watermarks; the transaction itself, where its watermark ends it; whether its list is known; the components
-- that become decided, and all their transactions; and what is over then
pub record IsSettling (k : ListParts) (id : TxnId) (mark : ℕ) (f : Settling) : Type 0 where
  pub marks : f.marks ≡ raised k.marks id.coord mark
  pub settled : f.settled.items ≡ (if is_ended f.marks id then id ∷ [] else [])
  pub is_known : f.is_known ≡ is_known k.table.known id
  pub chosen : AreNewTaken (IsListed is_txn k.table.decided) (links_settled k.table.links f.settled.items) f.components.items
  pub ids : f.ids.items ≡ flat_map (λ c. c) f.components.items
  pub over : AreOver f.marks (k.taken.components ++ f.components.items) f.over.items

-- all is right; this comes of some settled transaction, and there is room for it
pub record IsSettledTried (k : ListParts) (s : Settling) : Type 0 where
  pub sound : AreConsistent k
  pub id : TxnId
  pub mark : ℕ
  pub found : IsSettling k id mark s
  pub room : length s.components.items ≤ k.taken.spare

-- what is tried is right, whatever it is
abbrev pub IsTrial : ListParts → Trial → Type 0
IsTrial k (Asker asker) = AreConsistent k × (0 < k.waits.spare)
IsTrial k (Lists l) = AreListsTried k l
IsTrial k (Marks h) = AreMarksTried k h
IsTrial k (Settled s) = IsSettledTried k s

-- what is tried is right, where something is, and else what is kept
abbrev pub AreHeld : ListParts → Option Trial → Type 0
AreHeld k None = AreConsistent k
AreHeld k (Some trial) = IsTrial k trial
