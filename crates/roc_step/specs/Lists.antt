-- Lists that are taught, and fetches: docs/PROTOCOL.md, "Lists" and "Fetches"
use Rattle.std.specs.Prelude.{ℕ, Bool, not, suc, ◌==◌, ◌&&◌, ◌||◌, List, [], ◌∷◌, ◌++◌, Option, Some, None, map, filter, if◌then◌else◌}
use Rattle.std.specs.List.{list_any, flat_map}
use Rattle.roc_sequence.specs.Places.{is_listed}
use Rattle.roc_base.specs.declared.id.TxnId.{TxnId}
use Rattle.roc_base.specs.declared.node.Shard.{Shard}
use Rattle.roc_base.specs.declared.node.Node.TheVariants.{Server}
use Rattle.roc_base.specs.TxnId.{is_txn}
use Rattle.roc_base.specs.Edge.{Dependency}
use Rattle.roc_base.specs.Edges.{united}
use Rattle.roc_base.specs.Equality.{is_edges}
use Rattle.roc_depgraph.specs.declared.known.KnownList.{KnownList}
use Rattle.roc_depgraph.specs.Deps.{list_of, is_known}
use Rattle.roc_step.specs.declared.waits.OpenFetch.{OpenFetch}
use Rattle.roc_step.specs.Waits.{was_asked_for, with_asker, without_asked}
use Rattle.roc_msg.specs.declared.msg.Msg.TheVariants.{Settled}
use Rattle.roc_msg.specs.declared.outbox.Outgoing.{Outgoing}
use Rattle.roc_msg.specs.declared.reason.Reason.TheVariants.{NotHere, Differs}
use Rattle.roc_step.specs.Carried.{list_with, is_unlike, carried, unknown_of}
use Rattle.roc_step.specs.Asking.{known_to, knowns_for, asked_of, fetch_from, waiting_after}
use Rattle.roc_step.specs.Links.{all_entries, least_naming, without_links}
use Rattle.roc_plan.specs.Groups.{Plan}
use Rattle.roc_step.specs.declared.handled.Handled.{Handled}
use Rattle.roc_step.specs.declared.handled.Handled.TheVariants.{Done, Ignored, Gone}
use Rattle.roc_step.specs.Below.{is_ended, mark_of}
use Rattle.roc_step.specs.Forgets.{forgetting}
use Rattle.roc_step.specs.Runs.{take_all, all_buffered, commitok_of}
use Rattle.roc_step.specs.State.{refused, ignored, answered, first_answer, hearing, is_here, Lists, ServerState, ServerStep}

-- ---- what is followed of lists that are taught

-- Entries that name this transaction are done as they are learnt: it is ended, has no group here, and of the shards that entries of known
-- lists tell of it this is the least, so it was forgotten here
abbrev pub is_done : ServerState → (known : List KnownList) → TxnId → Bool
is_done s known id = is_ended s.below id && (not (is_here id s.started) && least_naming id (suc s.shard.0) (all_entries known) == s.shard.0)

-- what is followed of new lists
abbrev pub links_of : ServerState → (news : List KnownList) → List KnownList
links_of s news = map (without_links (is_done s (s.lists.known ++ news))) news

-- ---- teaching

-- Whose lists are missing: they are named by what is followed, unknown, have no group here and were not asked for. Each with the least shard
-- that saw it
abbrev pub is_missing : ServerState → (links : List KnownList) → Dependency → Bool
is_missing s links d = not (is_known links d.from) && (not (is_here d.from s.started) && not (was_asked_for d.from s.lists.waiting.asked))

abbrev pub missing_from : ServerState → (known links : List KnownList) → List OpenFetch
missing_from s known links = map (asked_of known) (filter (is_missing s links) (united (all_entries links)))

-- what is missing once new lists are taught
abbrev pub missing_after : ServerState → (news : List KnownList) → List OpenFetch
missing_after s news = missing_from s (s.lists.known ++ news) (s.lists.links ++ links_of s news)

abbrev pub lists_after : ServerState → (news : List KnownList) → (components : List (List TxnId)) → Lists
lists_after s news components =
    record {
      known = s.lists.known ++ news;
      links = s.lists.links ++ links_of s news;
      waiting = waiting_after s.lists.waiting news (missing_after s news);
      taken = s.lists.taken ++ components;
    }

-- The lists change to these, which newly decide these components: their buffered groups run, and each transaction with a group here is answered,
-- behind what is told and before what is asked for
abbrev pub decides : Plan → (before : ServerState) → Lists → (components : List (List TxnId)) → (told asks : List Outgoing) → ServerStep
decides plan s lists components told asks =
    let ts = flat_map (λ c. c) components in
    let after = take_all plan (record s { lists = lists }) ts in
    record {
      answer = Done;
      state = after;
      sends = told ++ (map (commitok_of plan after) (filter (λ t. is_here t s.started) ts) ++ asks);
      components = components;
      decided = ts;
      ran = all_buffered plan s.started ts;
    }

-- Lists that are new are taught. The askers are told, and what is missing is asked for
abbrev pub taught : Plan → ServerState → (news : List KnownList) → (components : List (List TxnId)) → ServerStep
taught plan s news components =
    decides plan s (lists_after s news components) components (flat_map (knowns_for s.lists.waiting.askers) news) (map (fetch_from s.shard) (missing_after s news))

-- ---- a commit

-- an unlike list is known of one that it carries, or two that it carries are unlike
abbrev pub commit_differs : ServerState → TxnId → List Dependency → List KnownList → Bool
commit_differs s id edges facts =
    list_any (is_unlike s.lists.known) (list_with id edges ∷ facts) || list_any (λ f. is_txn f.of id && not (is_edges f.edges edges)) facts

-- what a commit is answered that is not taken
abbrev pub commit_refusal : ServerState → TxnId → List Dependency → List KnownList → Option Handled
commit_refusal s id edges facts =
    first_answer (
    (not (is_here id s.started) && is_ended s.below id, Gone)
    ∷ (not (is_here id s.started), Ignored NotHere)
    ∷ (commit_differs s id edges facts, Ignored Differs)
    ∷ [])

-- one whose transaction was decided before ends with its commitok
abbrev pub commit_taken : Plan → (before : List TxnId) → ServerState → TxnId → ServerStep → ServerStep
commit_taken plan before s id r = record r { sends = r.sends ++ (if is_listed is_txn before id then commitok_of plan r.state id ∷ [] else []) }

abbrev pub after_commit : Plan → (before : List TxnId) → (components : List (List TxnId)) → ServerState → TxnId → List Dependency → List KnownList → Option Handled → ServerStep
after_commit plan before components s id edges facts (Some answer) = refused s answer
after_commit plan before components s id edges facts None =
    forgetting (commit_taken plan before s id (taught plan s (unknown_of s.lists.known (carried id edges facts)) components))

-- ---- a fetch, and what answers it

abbrev pub fetch_taken : ServerState → TxnId → Shard → Option (List Dependency) → ServerStep
fetch_taken s id asker (Some edges) = answered s (known_to (list_with id edges) (record { id = id; shard = asker }) ∷ [])
fetch_taken s id asker None =
    answered (record s { lists = record s.lists { waiting = record s.lists.waiting { askers = with_asker (record { id = id; shard = asker }) s.lists.waiting.askers } } }) []

-- nobody has to wait for a transaction that is ended and has no group here
abbrev pub settled_to : ServerState → TxnId → Shard → Outgoing
settled_to s id asker = record { to = Server asker; msg = Settled id (mark_of s.below id.coord) }

abbrev pub after_fetch : ServerState → TxnId → Shard → ServerStep
after_fetch s id asker =
    if not (is_here id s.started) && is_ended s.below id then answered s (settled_to s id asker ∷ [])
    else (if is_here id s.started then fetch_taken s id asker (list_of id s.lists.known) else ignored s NotHere)

-- what a list that answers a fetch is answered, where it is not taken
abbrev pub known_refusal : ServerState → TxnId → List Dependency → Option Handled
known_refusal s id edges =
    first_answer (
    (not (was_asked_for id s.lists.waiting.asked) && is_ended s.below id, Gone)
    ∷ (not (was_asked_for id s.lists.waiting.asked), Ignored NotHere)
    ∷ (is_unlike s.lists.known (list_with id edges), Ignored Differs)
    ∷ [])

abbrev pub after_known : Plan → (components : List (List TxnId)) → ServerState → TxnId → List Dependency → Option Handled → ServerStep
after_known plan components s id edges (Some answer) = refused s answer
after_known plan components s id edges None = forgetting (taught plan s (unknown_of s.lists.known (list_with id edges ∷ [])) components)

-- ---- watermarks

abbrev pub after_ended : ServerState → (coord mark : ℕ) → ServerStep
after_ended s coord mark = forgetting (answered (hearing s coord mark) [])

-- it is the transaction that a fetch asked for, and the watermark ends it
abbrev pub is_settled : ServerState → (settled : TxnId) → (mark : ℕ) → TxnId → Bool
is_settled s settled mark id = is_txn id settled && is_ended (hearing s settled.coord mark).below id

-- each entry that names it is done, and while its list is unknown it is waited for no longer
abbrev pub lists_settled : ServerState → TxnId → (mark : ℕ) → (components : List (List TxnId)) → Lists
lists_settled s id mark components =
    record {
      known = s.lists.known;
      links = map (without_links (is_settled s id mark)) s.lists.links;
      waiting = if is_known s.lists.known id then s.lists.waiting else without_asked (is_settled s id mark) s.lists.waiting;
      taken = s.lists.taken ++ components;
    }

abbrev pub after_settled : Plan → (components : List (List TxnId)) → ServerState → TxnId → (mark : ℕ) → ServerStep
after_settled plan components s id mark =
    forgetting
    (if was_asked_for id s.lists.waiting.asked then decides plan (hearing s id.coord mark) (lists_settled s id mark components) components [] []
    else refused (hearing s id.coord mark) Gone)

-- ---- a tick: what was asked for and is not known is asked for again

abbrev pub fetched_again : ServerState → List Outgoing
fetched_again s = map (fetch_from s.shard) (filter (λ a. not (is_known s.lists.known a.id)) s.lists.waiting.asked)
