-- And it goes on with a view, which reads the cell and is answered; then the transaction is forgotten, and its start comes too late. Each step computes,
-- but for what stores and counts hold
use Rattle.std.proofs.Common.{zero, suc, inl, ◌++◌, ◌≡◌, ◌∙◌, ◌+◌, ◌-◌, ◌^◌, min, ℕ, pos, List, [], ◌∷◌, Option, Some, map, refl, sym, ap, subst, arith}
use Rattle.std.specs.List.{AllByRecursion}
use Rattle.std.specs.Prelude.{slice_get, take, drop}
use Rattle.roc_sequence.specs.Lists.{Has}
use Rattle.roc_sequence.proofs.Holds.{all_has}
use Rattle.roc_base.specs.declared.node.Node.TheVariants.{Coord}
use Rattle.roc_msg.specs.declared.msg.Envelope.{Envelope}
use Rattle.roc_msg.specs.declared.msg.Msg.{Msg}
use Rattle.roc_msg.specs.declared.msg.Msg.TheVariants.{Start, Read, ReadOk, Ended}
use Rattle.roc_msg.specs.declared.outbox.Outgoing.{Outgoing}
use Rattle.roc_rows.specs.Store.{empty, write}
use Rattle.roc_rows.specs.Versions.{unwritten, counted, version}
use Rattle.roc_rows.proofs.Counts.{version-unwritten, version-counted_same}
use Rattle.roc_rows.proofs.Stored.{read-write_same}
use Rattle.roc_step.specs.Below.{none_below, raised}
use Rattle.roc_step.specs.Reads.{AnswersReads}
use Rattle.roc_step.specs.declared.handled.Handled.TheVariants.{Gone}
use Rattle.roc_step.specs.State.{answered, refused, ServerState}
use Rattle.roc_step.specs.Step.{Handles}
use Rattle.roc_readonly.specs.declared.view.View.{View}
use Rattle.roc_readonly.specs.Round.{first_round}
use Rattle.roc_coord.specs.State.{CoordState}
use Rattle.roc_audit.specs.declared.entry.Entry.TheVariants.{Submitted, Answered}
use Rattle.roc_law_protocol.specs.declared.event.Event.{Event}
use Rattle.roc_law_protocol.specs.declared.event.Event.TheVariants.{Submit, Deliver, Tick}
use Rattle.roc_law_protocol.specs.declared.event.Seen.TheVariants as seen
use Rattle.roc_law_protocol.specs.Forgotten.{IsLastTaken, delivers}
use Rattle.roc_law_protocol.specs.Quiet.{Counts}
use Rattle.roc_law_protocol.specs.Run as their_runs
use Rattle.roc_law_plans.specs.SmallPlans.{observed}
use Rattle.roc_law_world.specs.Bare.{bare_step, bare_steps}
use Rattle.roc_law_world.specs.World.{World}
use Rattle.roc_law_world.specs.Happens.{Outcome, undecided, Happens}
use Rattle.roc_law_world.specs.Run.{Stepped, IsRun, at_beginning, steps_on}
use Rattle.roc_law_world.specs.Quiet.{IsQuiet, IsInLastRound}
use Rattle.roc_law_world.proofs.WithoutStops.{counts_at}
use Rattle.roc_law_world.proofs.Alone.{decided_of_none, decided_alone, led_to_none, new_of_none, none_new}
use Rattle.roc_law_world.proofs.ObservedTransaction.{shard, id, view, cell, server, coord, to_server, to_coord, submitted_coord, start, startok, none_found, commit, one_list, decided_server, written_viewing, commitok, decides, answered_world, submits, starts, commits, runs, answers}

-- ---- a view begins its first round

abbrev first_view : View
first_view = first_round view 1 []

abbrev viewing_coord : View → CoordState
viewing_coord v = record coord { next = 2; views = v ∷ []; unanswered = view ∷ [] }

abbrev read_in : ℕ → Msg
read_in round = Read view round 1 0 []

abbrev readok_in : ℕ → Msg
readok_in round = ReadOk view round 0 shard (1 ∷ []) (pos 1 ∷ [])

abbrev asked_view_world : World
asked_view_world =
    record answered_world {
      coords = viewing_coord first_view ∷ [];
      sent = start ∷ startok ∷ commit ∷ commitok ∷ to_server (read_in 1) ∷ [];
      undelivered = 5 ∷ [];
      history = Submitted id 0 [] ∷ Answered id [] ∷ Submitted view 1 [] ∷ [];
      looks = (record { id = view; behind = 1 }) ∷ [];
    }

asks_view : Happens observed answered_world (Submit 0 1 []) (undecided (seen.Submitted view) asked_view_world)
asks_view = (record submitted_coord { pending = []; unanswered = [] }, refl, refl)

-- ---- what a read finds

is_version : version (counted unwritten cell) cell ≡ 1
is_version = version-counted_same unwritten cell ∙ ap (λ n. min (n + 1) (2 ^ 64 - 1)) (version-unwritten cell)

abbrev readok_out : ℕ → Outgoing
readok_out round = record { to = Coord 0; msg = readok_in round }

read_handled : (round : ℕ) → Handles observed decided_server (read_in round) (answered decided_server [])
read_handled round =
    record { findings = record { before = id ∷ []; reached = []; components = [] }; found = record { before = decided_alone id; reached = led_to_none one_list; components = none_new one_list }; is = refl }

read_answered : (round : ℕ) → AnswersReads observed written_viewing (read_in round) (answered decided_server []) (record { viewing = written_viewing; sends = readok_out round ∷ [] })
read_answered round =
    record {
      decided = id ∷ [];
      found = decided_alone id;
      is = λ i. record {
        viewing = written_viewing;
        sends = (record { to = Coord 0; msg = ReadOk view round 0 shard (sym is_version i ∷ []) (sym (read-write_same empty cell (pos 1)) i ∷ []) }) ∷ [];
      };
    }

abbrev read_once_world : World
read_once_world = record asked_view_world { sent = start ∷ startok ∷ commit ∷ commitok ∷ to_server (read_in 1) ∷ to_coord (readok_in 1) ∷ []; undelivered = 6 ∷ [] }

reads_once : Happens observed asked_view_world (Deliver 5) (undecided seen.Done read_once_world)
reads_once = (
  to_server (read_in 1),
  omega arith,
  refl,
  record { state = decided_server; there = refl; viewing = written_viewing; keeps = refl; step = _; handles = read_handled 1; reads = _; answers = read_answered 1; is = refl },
)

-- ---- the second round finds the same

abbrev second_view : View
second_view = record first_view { round = 2; last = (record { group = 0; versions = 1 ∷ []; outs = pos 1 ∷ [] }) ∷ [] }

abbrev going_world : World
going_world =
    record read_once_world {
      coords = viewing_coord second_view ∷ [];
      sent = start ∷ startok ∷ commit ∷ commitok ∷ to_server (read_in 1) ∷ to_coord (readok_in 1) ∷ to_server (read_in 2) ∷ [];
      undelivered = 7 ∷ [];
      looks = (record { id = view; behind = 1 }) ∷ (record { id = view; behind = 1 }) ∷ [];
    }

goes_on : Happens observed read_once_world (Deliver 6) (undecided seen.Done going_world)
goes_on = (to_coord (readok_in 1), omega arith, refl, (viewing_coord first_view, refl, refl))

abbrev read_again_world : World
read_again_world =
    record going_world {
      sent = start ∷ startok ∷ commit ∷ commitok ∷ to_server (read_in 1) ∷ to_coord (readok_in 1) ∷ to_server (read_in 2) ∷ to_coord (readok_in 2) ∷ [];
      undelivered = 8 ∷ [];
    }

reads_again : Happens observed going_world (Deliver 7) (undecided seen.Done read_again_world)
reads_again = (
  to_server (read_in 2),
  omega arith,
  refl,
  record { state = decided_server; there = refl; viewing = written_viewing; keeps = refl; step = _; handles = read_handled 2; reads = _; answers = read_answered 2; is = refl },
)

abbrev done_coord : CoordState
done_coord = record coord { next = 2 }

abbrev viewed_world : World
viewed_world =
    record read_again_world {
      coords = done_coord ∷ [];
      undelivered = [];
      history = Submitted id 0 [] ∷ Answered id [] ∷ Submitted view 1 [] ∷ Answered view (pos 1 ∷ []) ∷ [];
    }

ends : Happens observed read_again_world (Deliver 8) (undecided (seen.Answered view (pos 1 ∷ [])) viewed_world)
ends = (to_coord (readok_in 2), omega arith, refl, (viewing_coord second_view, refl, refl))

-- ---- the watermark is told, and the server forgets the transaction

abbrev ended : Envelope
ended = to_server (Ended 0 2)

abbrev told_world : World
told_world =
    record viewed_world {
      sent = start ∷ startok ∷ commit ∷ commitok ∷ to_server (read_in 1) ∷ to_coord (readok_in 1) ∷ to_server (read_in 2) ∷ to_coord (readok_in 2) ∷ ended ∷ [];
      undelivered = 9 ∷ [];
    }

tells : Happens observed viewed_world (Tick (Coord 0)) (undecided seen.Done told_world)
tells = (done_coord, refl, refl)

abbrev pub forgetful_server : ServerState
forgetful_server = record server { store = write empty cell (pos 1); below = raised none_below 0 2 }

abbrev forgotten_world : World
forgotten_world = record told_world { servers = forgetful_server ∷ []; undelivered = [] }

ended_handled : Handles observed decided_server (Ended 0 2) (answered forgetful_server [])
ended_handled =
    record { findings = record { before = id ∷ []; reached = []; components = [] }; found = record { before = decided_alone id; reached = led_to_none one_list; components = none_new one_list }; is = refl }

forgets : Happens observed told_world (Deliver 9) (undecided seen.Done forgotten_world)
forgets = (
  ended,
  omega arith,
  refl,
  record {
    state = decided_server;
    there = refl;
    viewing = written_viewing;
    keeps = refl;
    step = _;
    handles = ended_handled;
    reads = record { viewing = written_viewing; sends = [] };
    answers = record { decided = []; found = decided_of_none; is = refl };
    is = refl;
  },
)

-- ---- a start that comes once more comes too late

late_handled : Handles observed forgetful_server (Start id 0 0 [] []) (refused forgetful_server Gone)
late_handled = record { findings = none_found; found = record { before = decided_of_none; reached = led_to_none []; components = new_of_none }; is = refl }

comes_late : Happens observed forgotten_world (Deliver 1) (undecided seen.Gone forgotten_world)
comes_late = (
  start,
  omega arith,
  refl,
  record {
    state = forgetful_server;
    there = refl;
    viewing = written_viewing;
    keeps = refl;
    step = _;
    handles = late_handled;
    reads = record { viewing = written_viewing; sends = [] };
    answers = record { decided = []; found = decided_of_none; is = refl };
    is = refl;
  },
)

-- ---- the run

abbrev pub last_world : World
last_world = forgotten_world

pub run : (steps : List Stepped) × IsRun observed 1 steps last_world
run =
    let one = steps_on (Some (Submit 0 0 [])) _ at_beginning submits in
    let two = steps_on (Some (Deliver 1)) _ one starts in
    let three = steps_on (Some (Deliver 2)) _ two commits in
    let four = steps_on (Some (Deliver 3)) _ three runs in
    let five = steps_on (Some (Deliver 4)) _ four answers in
    let six = steps_on (Some (Submit 0 1 [])) _ five asks_view in
    let seven = steps_on (Some (Deliver 5)) _ six reads_once in
    let eight = steps_on (Some (Deliver 6)) _ seven goes_on in
    let nine = steps_on (Some (Deliver 7)) _ eight reads_again in
    let ten = steps_on (Some (Deliver 8)) _ nine ends in
    let eleven = steps_on (Some (Tick (Coord 0))) _ ten tells in
    let twelve = steps_on (Some (Deliver 9)) _ eleven forgets in
    (_, steps_on (Some (Deliver 1)) _ twelve comes_late)

-- each message was delivered, and no server stopped
abbrev its_events : List (Option Event)
its_events =
    Some (Submit 0 0 []) ∷ Some (Deliver 1) ∷ Some (Deliver 2) ∷ Some (Deliver 3) ∷ Some (Deliver 4) ∷ Some (Submit 0 1 []) ∷ Some (Deliver 5) ∷ Some (Deliver 6) ∷ Some (Deliver 7) ∷ Some (Deliver 8)
    ∷ Some (Tick (Coord 0)) ∷ Some (Deliver 9) ∷ Some (Deliver 1) ∷ []

events_are : map (λ (s : Stepped). s.event) run.0 ≡ its_events
unfolding run
events_are = refl

all_count : (k : ℕ) (m : Envelope) → slice_get last_world.sent k ≡ Some m → Counts its_events last_world.sent (suc k)
all_count zero m e = counts_at its_events last_world.sent 1 1 refl refl
all_count (suc zero) m e = counts_at its_events last_world.sent 2 2 refl refl
all_count (suc (suc zero)) m e = counts_at its_events last_world.sent 3 3 refl refl
all_count (suc (suc (suc zero))) m e = counts_at its_events last_world.sent 4 4 refl refl
all_count (suc (suc (suc (suc zero)))) m e = counts_at its_events last_world.sent 6 5 refl refl
all_count (suc (suc (suc (suc (suc zero))))) m e = counts_at its_events last_world.sent 7 6 refl refl
all_count (suc (suc (suc (suc (suc (suc zero)))))) m e = counts_at its_events last_world.sent 8 7 refl refl
all_count (suc (suc (suc (suc (suc (suc (suc zero))))))) m e = counts_at its_events last_world.sent 9 8 refl refl
all_count (suc (suc (suc (suc (suc (suc (suc (suc zero)))))))) m e = counts_at its_events last_world.sent 11 9 refl refl
all_count (suc (suc (suc (suc (suc (suc (suc (suc (suc k))))))))) m e = absurd (cc)

pub quiet : IsQuiet observed run.0 last_world view
quiet = record { each = λ k m u h e r. subst (λ events. Counts events last_world.sent (suc k)) (sym events_are) (all_count k m h) }

-- no view is open
pub not_last : ¬ IsInLastRound last_world view
not_last r = go r.number r.there r.has
  where
    go : (n : ℕ) → slice_get (done_coord ∷ []) n ≡ Some r.coord → Has r.view r.coord.views → ⊥
    go zero e h = subst (λ (c : CoordState). Has r.view c.views) (sym (the e)) h
      where
        the : Some done_coord ≡ Some r.coord → done_coord ≡ r.coord
        the e = cc
    go (suc n) e h = absurd (cc)

-- the component of the transaction was taken last in the fourth step
abbrev behind : List their_runs.Stepped
behind = drop 4 (bare_steps run.0)

none_behind : AllByRecursion (λ (x : their_runs.Stepped). x.outcome.components ≡ []) behind
unfolding run
none_behind = (refl, (refl, (refl, (refl, (refl, (refl, (refl, (refl, (refl, tt)))))))))

pub taken_last : IsLastTaken (bare_steps run.0) shard id (id ∷ [])
unfolding run
taken_last =
    record {
      front = take 3 (bare_steps run.0);
      step = bare_step (record { event = Some (Deliver 3); outcome = decides });
      behind = drop 4 (bare_steps run.0);
      at = refl;
      taken = record { k = 3; brings = delivers 3; message = commit; is = refl; to = refl; has = inl refl };
      member = inl refl;
      none = λ x c h t. absurd (subst (Has c) (all_has (λ (x : their_runs.Stepped). x.outcome.components ≡ []) x behind none_behind h) t.has);
    }

-- and the last step is gone
pub late_last : (front : List Stepped) × (o : Outcome) × (run.0 ≡ front ++ (record { event = Some (Deliver 1); outcome = o }) ∷ []) × (o.seen ≡ seen.Gone)
unfolding run
late_last = (take 12 run.0, undecided seen.Gone forgotten_world, refl, refl)
