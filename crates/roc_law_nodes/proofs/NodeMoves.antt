-- A move of one node is so many events of the world: a server's turn, and what a coordinator's receive gave
use Rattle.std.proofs.Common.{◌≡◌, ℕ, zero, suc, Bool, true, false, List, [], ◌∷◌, ◌++◌, Some, map, refl, sym, ap, subst, ◌∙◌, append-nil}
use Rattle.std.proofs.lemmas.Option.{slice_get-map}
use Rattle.std.proofs.lemmas.Grind.{flat_map-append}
use Rattle.std.proofs.lemmas.List.{map-append}
use Rattle.std.specs.Prelude.{slice_get, slice_set, filter, option_map, if◌then◌else◌}
use Rattle.roc_base.specs.declared.node.Node.{Node}
use Rattle.roc_base.specs.declared.node.Node.TheVariants.{Server, Coord}
use Rattle.roc_base.specs.declared.node.Shard.{Shard}
use Rattle.roc_base.specs.Node.{is_node}
use Rattle.roc_io.specs.Packet.{Packet}
use Rattle.roc_msg.specs.declared.msg.Msg.{Msg}
use Rattle.roc_msg.specs.declared.msg.Msg.TheVariants.{Stop}
use Rattle.roc_msg.specs.declared.reason.Reason.TheVariants.{Foreign}
use Rattle.roc_msg.specs.declared.outbox.Outgoing.{Outgoing}
use Rattle.roc_plan.specs.Groups.{Plan}
use Rattle.roc_report.specs.Line.{Line}
use Rattle.roc_replay.specs.Readback.{entries_in, history_in}
use Rattle.roc_step.specs.Reads.{AnswersReads}
use Rattle.roc_step.specs.State.{ServerState, Viewing}
use Rattle.roc_step.specs.Step.{Handles, tick_sends}
use Rattle.roc_coord.specs.declared.handled.Handled.{Handled}
use Rattle.roc_coord.specs.declared.handled.Handled.TheVariants.{Done, Answered, Ignored}
use Rattle.roc_coord.specs.State.{CoordState, CoordStep, ignored}
use Rattle.roc_coord.specs.Step.{after_message}
use Rattle.roc_audit.specs.declared.entry.Entry.{Entry}
use Rattle.roc_law_protocol.specs.Happens.{answer_entries}
use Rattle.roc_law_protocol.specs.World.{sent_by}
use Rattle.roc_node.specs.Judgement.{judged}
use Rattle.roc_node.specs.declared.judging.Judged.{Judged}
use Rattle.roc_node.specs.declared.judging.Judged.TheVariants.{Delivery, Skipped}
use Rattle.roc_node.specs.NodeEvent.{NodeEvent, took, silent}
use Rattle.roc_node_serve.specs.ServerRun.{ServerNodeState, is_stop, server_heard, server_received, TakesMessage, TakesJudged, AfterTurn}
use Rattle.roc_node_submit.specs.CoordRun.{step_of_judged, step_of_event, reply_lines, coord_took}
use Rattle.roc_law_nodes.specs.Own.{OwnEvent, delivered}
use Rattle.roc_law_nodes.specs.Turns.{judged_brings, turn_brings, is_for_core}
use Rattle.roc_law_nodes.specs.Interleaved.{AllSettings, setting_at, CoordPlace, between, node_at, AllNodes, server_moved, coord_moved, IsMessageSent, IsJudgedSent, IsCaused}
use Rattle.roc_law_nodes.proofs.ServerFolds.{of_message}
use Rattle.roc_law_nodes.proofs.SideBySide.{all_gained}
use Rattle.roc_law_nodes.proofs.WorldMoves.{with_own, WorldStands, stands_as, server_delivers, server_ticks, coord_delivers, coord_ticks}
use Rattle.roc_law_protocol.proofs.Stops.{set_there}

-- ---- lists

pub map_set : {A B : Type 0} (f : A → B) (xs : List A) (i : ℕ) (a : A) → slice_set (map f xs) i (f a) ≡ map f (slice_set xs i a)
map_set f [] i a = refl
map_set f (x ∷ xs) zero a = refl
map_set f (x ∷ xs) (suc i) a = ap (λ l. f x ∷ l) (map_set f xs i a)

pub map_get : {A B : Type 0} (f : A → B) (xs : List A) (i : ℕ) (a : A) → slice_get xs i ≡ Some a → slice_get (map f xs) i ≡ Some (f a)
map_get f xs i a e = slice_get-map f xs i ∙ ap (option_map f) e

-- nothing more
pub none_own : (owned : Node → List OwnEvent) (at node : Node) → owned node ≡ with_own owned at [] node
none_own owned at node = go (is_node at node)
  where
    go : (b : Bool) → owned node ≡ owned node ++ (if b then [] else [])
    go true = sym (append-nil (owned node))
    go false = sym (append-nil (owned node))

-- what a coordinator writes of an answer is what the history gains
answers_shown : (a : Handled) → history_in (reply_lines a) ≡ answer_entries a
answers_shown Done = refl
answers_shown (Answered id reply) = refl
answers_shown (Ignored reason) = refl

-- a coordinator does not know stops
stop_ignored : (plan : Plan) (c : CoordState) (msg : Msg) → is_stop msg ≡ true → after_message plan c msg ≡ ignored c Foreign
stop_ignored plan c Stop e = refl
stop_ignored plan c msg e = absurd (cc)

abbrev pub line_in : ℕ × Line → Line
line_in t = t.1

-- lines, each with its coordinator
pub lines_in : (number : ℕ) (told : List (ℕ × Line)) (lines : List Line) → map line_in (told ++ map (λ line. (number, line)) lines) ≡ map line_in told ++ lines
lines_in number told lines = map-append line_in told (map (λ line. (number, line)) lines) ∙ ap (λ (l : List Line). map line_in told ++ l) (go lines)
  where
    go : (lines : List Line) → map line_in (map (λ line. (number, line)) lines) ≡ lines
    go [] = refl
    go (line ∷ lines) = ap (λ (l : List Line). line ∷ l) (go lines)

abbrev state_of : ServerNodeState → ServerState
state_of n = n.state

abbrev viewing_of : ServerNodeState → Viewing
viewing_of n = n.viewing

abbrev core_of : CoordPlace → CoordState
core_of c = (node_at c).state

module _ (N : AllSettings) where
  -- a run led to a world of these nodes
  abbrev pub Mirrors : AllNodes → (Node → List OwnEvent) → Type 0
  Mirrors all owned =
      WorldStands N.plan N.coords (map (λ n. n.state) all.servers) (map (λ n. n.viewing) all.servers) (map (λ c. (node_at c).state) all.coords) all.sent
      (history_in (map (λ t. t.1) all.told)) owned

  -- ---- a server

  module _ (all : AllNodes) (owned : Node → List OwnEvent) (r : Mirrors all owned) (shard : Shard) (node : ServerNodeState) (at : slice_get all.servers shard.0 ≡ Some node) where
    abbrev Served : ServerNodeState → List OwnEvent → Type 0
    Served next owns = Mirrors (server_moved all shard node next) (with_own owned (Server shard) owns)

    server_as : (next : ServerNodeState) (owns : List OwnEvent) (state : ServerState) (viewing : Viewing) (outs : List Outgoing) → next.state ≡ state → next.viewing ≡ viewing
        → next.messages ≡ node.messages ++ outs
        → WorldStands N.plan N.coords (slice_set (map state_of all.servers) shard.0 state) (slice_set (map viewing_of all.servers) shard.0 viewing) (map core_of all.coords)
        (all.sent ++ map (sent_by (Server shard)) outs)
        (history_in (map line_in all.told)) (with_own owned (Server shard) owns)
        → Served next owns
    server_as next owns state viewing outs a b c reached =
        stands_as N.plan N.coords reached
        (ap (λ (s : ServerState). slice_set (map state_of all.servers) shard.0 s) (sym a) ∙ map_set state_of all.servers shard.0 next)
        (ap (λ (v : Viewing). slice_set (map viewing_of all.servers) shard.0 v) (sym b) ∙ map_set viewing_of all.servers shard.0 next)
        refl
        (ap (λ (l : List Outgoing). all.sent ++ map (sent_by (Server shard)) l) (sym (all_gained node.messages next.messages outs c)))
        refl (λ n. refl)

    state_there : slice_get (map state_of all.servers) shard.0 ≡ Some node.state
    state_there = map_get state_of all.servers shard.0 node at

    viewing_there : slice_get (map viewing_of all.servers) shard.0 ≡ Some node.viewing
    viewing_there = map_get viewing_of all.servers shard.0 node at

    -- nothing came to its core
    server_still : (next : ServerNodeState) → next.state ≡ node.state → next.viewing ≡ node.viewing → next.messages ≡ node.messages → Served next []
    server_still next a b c =
        server_as next [] node.state node.viewing [] a b (c ∙ sym (append-nil node.messages))
        (stands_as N.plan N.coords r (sym (set_there (map state_of all.servers) shard.0 node.state state_there))
        (sym (set_there (map viewing_of all.servers) shard.0 node.viewing viewing_there)) refl
        (sym (append-nil all.sent)) refl (none_own owned (Server shard)))

    message_served : (heard : ServerNodeState) (bytes : List ℕ) (msg : Msg) (next : ServerNodeState) → heard.state ≡ node.state → heard.viewing ≡ node.viewing
        → heard.messages ≡ node.messages → (b : Bool) → is_stop msg ≡ b
        → IsMessageSent all.sent (Server shard) b msg → TakesMessage (setting_at N (Server shard)) heard b bytes msg next → Served next (filter is_for_core (delivered msg ∷ []))
    message_served heard bytes msg next state viewing messages true e was h =
        subst (Served next) (sym (of_message msg true e))
        (server_still next (ap (λ (n : ServerNodeState). n.state) h ∙ state) (ap (λ (n : ServerNodeState). n.viewing) h ∙ viewing) (ap (λ (n : ServerNodeState). n.messages) h ∙ messages))
    message_served heard bytes msg next state viewing messages false e was (step, q, handles, answers, is) =
        subst (Served next) (sym (of_message msg false e))
        (server_as next (delivered msg ∷ []) step.state q.viewing (step.sends ++ q.sends) (ap (λ (n : ServerNodeState). n.state) is) (ap (λ (n : ServerNodeState). n.viewing) is)
        (ap (λ (n : ServerNodeState). n.messages) is ∙ ap (λ (l : List Outgoing). l ++ (step.sends ++ q.sends)) messages)
        (server_delivers N.plan N.coords r shard node.state node.viewing state_there viewing_there msg step q
        (subst (λ (s : ServerState). Handles N.plan s msg step) state handles) (subst (λ (v : Viewing). AnswersReads N.plan v msg step q) viewing answers) was))

    judged_served : (packet : Packet) (j : Judged) (heard next : ServerNodeState) → heard.state ≡ node.state → heard.viewing ≡ node.viewing → heard.messages ≡ node.messages
        → IsJudgedSent all.sent (Server shard) j → TakesJudged (setting_at N (Server shard)) heard packet j next → Served next (filter is_for_core (judged_brings j))
    judged_served packet (Delivery header msg) heard next state viewing messages was h =
        message_served (server_heard heard header packet.address) packet.bytes msg next state viewing messages (is_stop msg) refl was h
    judged_served packet (Skipped skip) heard next state viewing messages was h =
        server_still next (ap (λ (n : ServerNodeState). n.state) h ∙ state) (ap (λ (n : ServerNodeState). n.viewing) h ∙ viewing) (ap (λ (n : ServerNodeState). n.messages) h ∙ messages)

    pub turn_served : (event : NodeEvent) (next : ServerNodeState) → IsCaused N.tag all.sent (Server shard) event → AfterTurn (setting_at N (Server shard)) node event next
        → Served next (filter is_for_core (turn_brings N.tag event))
    turn_served (took packet) next was h = judged_served packet (judged N.tag packet.bytes) (server_received node (took packet)) next refl refl refl was h
    turn_served silent next was h =
        server_as next _ node.state node.viewing (tick_sends node.state) (ap (λ (n : ServerNodeState). n.state) h) (ap (λ (n : ServerNodeState). n.viewing) h)
        (ap (λ (n : ServerNodeState). n.messages) h)
        (server_ticks N.plan N.coords r shard node.state node.viewing state_there viewing_there)

  -- ---- a coordinator

  module _ (all : AllNodes) (owned : Node → List OwnEvent) (r : Mirrors all owned) (number : ℕ) (old : CoordPlace) (at : slice_get all.coords number ≡ Some old) where
    pub core_there : slice_get (map core_of all.coords) number ≡ Some (node_at old).state
    core_there = map_get core_of all.coords number old at

    pub coord_as : (new : CoordPlace) (owns : List OwnEvent) (state : CoordState) (outs : List Outgoing) (lines : List Line) (told : List Entry) → (node_at new).state ≡ state
        → (node_at new).messages ≡ (node_at old).messages ++ outs
        → (node_at new).lines ≡ (node_at old).lines ++ lines → history_in lines ≡ told
        → WorldStands N.plan N.coords (map state_of all.servers) (map viewing_of all.servers) (slice_set (map core_of all.coords) number state) (all.sent ++ map (sent_by (Coord number)) outs)
        (history_in (map line_in all.told) ++ told) (with_own owned (Coord number) owns)
        → Mirrors (coord_moved all number old new) (with_own owned (Coord number) owns)
    coord_as new owns state outs lines told a b c d reached =
        stands_as N.plan N.coords reached refl refl
        (ap (λ (s : CoordState). slice_set (map core_of all.coords) number s) (sym a) ∙ map_set core_of all.coords number new)
        (ap (λ (l : List Outgoing). all.sent ++ map (sent_by (Coord number)) l) (sym (all_gained (node_at old).messages (node_at new).messages outs b)))
        (ap (λ (l : List Entry). history_in (map line_in all.told) ++ l) (sym d)
        ∙ (sym (flat_map-append entries_in (map line_in all.told) lines)
        ∙ (ap history_in (sym (lines_in number all.told lines))
        ∙ ap (λ (l : List Line). history_in (map line_in (all.told ++ map (λ line. (number, line)) l))) (sym (all_gained (node_at old).lines (node_at new).lines lines c)))))
        (λ n. refl)

    -- its core took this step
    abbrev CoreTook : CoordStep → List OwnEvent → Type 0
    CoreTook step owns =
        WorldStands N.plan N.coords (map state_of all.servers) (map viewing_of all.servers) (slice_set (map core_of all.coords) number step.state)
        (all.sent ++ map (sent_by (Coord number)) step.sends) (history_in (map line_in all.told) ++ answer_entries step.answer)
        (with_own owned (Coord number) owns)

    -- nothing came of it
    core_still : (a : Handled) → answer_entries a ≡ [] → CoreTook (record { answer = a; state = (node_at old).state; sends = [] }) []
    core_still a e =
        stands_as N.plan N.coords r refl refl (sym (set_there (map core_of all.coords) number (node_at old).state core_there)) (sym (append-nil all.sent))
        (sym (ap (λ (l : List Entry). history_in (map line_in all.told) ++ l) e ∙ append-nil (history_in (map line_in all.told)))) (none_own owned (Coord number))

    message_stepped : (msg : Msg) (b : Bool) → is_stop msg ≡ b → IsMessageSent all.sent (Coord number) b msg
        → CoreTook (after_message N.plan (node_at old).state msg) (filter is_for_core (delivered msg ∷ []))
    message_stepped msg true e was =
        subst (CoreTook (after_message N.plan (node_at old).state msg)) (sym (of_message msg true e))
        (subst (λ (s : CoordStep). CoreTook s []) (sym (stop_ignored N.plan (node_at old).state msg e)) (core_still (Ignored Foreign) refl))
    message_stepped msg false e was =
        subst (CoreTook (after_message N.plan (node_at old).state msg)) (sym (of_message msg false e)) (coord_delivers N.plan N.coords r number (node_at old).state core_there msg was)

    judged_stepped : (j : Judged) → IsJudgedSent all.sent (Coord number) j → CoreTook (step_of_judged N.plan (node_at old).state j) (filter is_for_core (judged_brings j))
    judged_stepped (Delivery header msg) was = message_stepped msg (is_stop msg) refl was
    judged_stepped (Skipped skip) was = core_still Done refl

    event_stepped : (event : NodeEvent) → IsCaused N.tag all.sent (Coord number) event
        → CoreTook (step_of_event (setting_at N (Coord number)) (node_at old).state event) (filter is_for_core (turn_brings N.tag event))
    event_stepped (took packet) was = judged_stepped (judged N.tag packet.bytes) was
    event_stepped silent was =
        stands_as N.plan N.coords (coord_ticks N.plan N.coords r number (node_at old).state core_there) refl refl
        (sym (set_there (map core_of all.coords) number (node_at old).state core_there)) refl
        (sym (append-nil (history_in (map line_in all.told)))) (λ n. refl)

    pub receive_taken : (event : NodeEvent) → IsCaused N.tag all.sent (Coord number) event
        → Mirrors (coord_moved all number old (between (coord_took (setting_at N (Coord number)) (node_at old) event)))
        (with_own owned (Coord number) (filter is_for_core (turn_brings N.tag event)))
    receive_taken event was =
        let step = step_of_event (setting_at N (Coord number)) (node_at old).state event in
        coord_as (between (coord_took (setting_at N (Coord number)) (node_at old) event)) (filter is_for_core (turn_brings N.tag event)) step.state step.sends (reply_lines step.answer)
        (answer_entries step.answer)
        refl refl refl (answers_shown step.answer) (event_stepped event was)
