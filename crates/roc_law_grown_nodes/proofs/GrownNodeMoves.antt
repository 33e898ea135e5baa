-- A move of one node is so many events of the world of two files: a server's turn, and what a coordinator's receive gave
use Rattle.std.proofs.Common.{◌≡◌, ℕ, Bool, true, false, List, [], ◌∷◌, ◌++◌, Some, map, refl, sym, ap, subst, ◌∙◌, append-nil}
use Rattle.std.proofs.lemmas.Grind.{flat_map-append}
use Rattle.std.specs.Prelude.{slice_get, slice_set, if◌then◌else◌}
use Rattle.roc_base.specs.declared.node.Node.{Node}
use Rattle.roc_base.specs.declared.node.Node.TheVariants.{Server, Coord}
use Rattle.roc_base.specs.declared.node.Shard.{Shard}
use Rattle.roc_io.specs.Packet.{Packet}
use Rattle.roc_msg.specs.declared.msg.Msg.{Msg}
use Rattle.roc_msg.specs.declared.msg.Msg.TheVariants.{Stop, Drained, Switched}
use Rattle.roc_msg.specs.declared.reason.Reason.TheVariants.{Foreign}
use Rattle.roc_msg.specs.declared.outbox.Outgoing.{Outgoing}
use Rattle.roc_plan.specs.Groups.{Plan}
use Rattle.roc_report.specs.Line.{Line}
use Rattle.roc_replay.specs.Readback.{entries_in, history_in}
use Rattle.roc_audit.specs.declared.entry.Entry.{Entry}
use Rattle.roc_epoch.specs.declared.file.File.{File}
use Rattle.roc_epoch.specs.declared.next.Next.{Next}
use Rattle.roc_epoch.specs.Files.{own_file, own_plan, is_file}
use Rattle.roc_two_files.specs.Sealed.{Sealed, sealed_by}
use Rattle.roc_grown.specs.declared.handled.GrownAnswer.{GrownAnswer}
use Rattle.roc_grown.specs.declared.handled.GrownAnswer.TheVariants as answer
use Rattle.roc_grown.specs.Server.{GrownServerState, GrownHandles, grown_server_tick}
use Rattle.roc_coord.specs.Step.{after_message}
use Rattle.roc_grown.specs.Coord.{GrownCoordState, GrownCoordStep, unchanged, of_core, after_grown_message}
use Rattle.roc_growth.specs.Happens.{answer_entries}
use Rattle.roc_node.specs.NodeEvent.{NodeEvent, took, silent}
use Rattle.roc_node_serve.specs.ServerRun.{is_stop}
use Rattle.roc_grown_node.specs.Posting.{Filed, filed}
use Rattle.roc_grown_node.specs.Judgement.{grown_judged}
use Rattle.roc_grown_node.specs.declared.judging.GrownJudged.{GrownJudged}
use Rattle.roc_grown_node.specs.declared.judging.GrownJudged.TheVariants.{Delivery, Skipped}
use Rattle.roc_grown_serve.specs.GrownRun.{GrownNodeState, grown_heard, grown_received, TakesGrownMessage, TakesGrownJudged, AfterGrownTurn}
use Rattle.roc_grown_submit.specs.GrownCoordRun.{grown_step_of_judged, grown_step_of_event, grown_reply_lines, grown_coord_took}
use Rattle.roc_law_nodes.proofs.NodeMoves.{map_set, map_get, line_in, lines_in}
use Rattle.roc_law_nodes.proofs.SideBySide.{all_gained}
use Rattle.roc_law_grown_nodes.specs.GrownInterleaved.{AllGrownSettings, next_at, grown_setting_at, GrownCoordPlace, between, grown_node_at, AllGrownNodes, sealed_of, grown_server_moved}
use Rattle.roc_law_grown_nodes.specs.GrownInterleaved.{grown_coord_moved, IsFiledSent, IsGrownJudgedSent, IsGrownCaused}
use Rattle.roc_law_grown_nodes.proofs.GrownStands.{GrownStands, stands_as, server_delivers, server_ticks, coord_delivers, coord_ticks}
use Rattle.roc_law_protocol.proofs.Stops.{set_there}

-- ---- messages and lines

pub seals_are : (from : Node) (switched : Bool) (outs : List Outgoing) → map (sealed_of from) (map (filed switched) outs) ≡ map (sealed_by switched from) outs
seals_are from switched [] = refl
seals_are from switched (out ∷ outs) = ap (λ (l : List Sealed). sealed_by switched from out ∷ l) (seals_are from switched outs)

-- what a coordinator writes of an answer is what the history gains
answers_shown : (a : GrownAnswer) → history_in (grown_reply_lines a) ≡ answer_entries a
answers_shown answer.Done = refl
answers_shown (answer.Answered id reply) = refl
answers_shown answer.Skipped = refl
answers_shown (answer.Ignored reason) = refl

-- a coordinator does not read how many there are
no_count : (plan : Plan) (next : Next) (count : ℕ) (c : GrownCoordState) (file : File) (msg : Msg)
    → after_grown_message plan (Some (record next { coords = count })) c file msg ≡ after_grown_message plan (Some next) c file msg
no_count plan next count c file (Drained upto) = refl
no_count plan next count c file (Switched upto shard) = refl
no_count plan next count c file msg = refl

abbrev state_of : GrownNodeState → GrownServerState
state_of n = n.state

abbrev core_of : GrownCoordPlace → GrownCoordState
core_of c = (grown_node_at c).state

module _ (N : AllGrownSettings) where
  -- a run led to a world of these nodes
  abbrev pub Mirrors : AllGrownNodes → Type 0
  Mirrors all = GrownStands N.plan N.next (map (λ n. n.state) all.servers) (map (λ c. (grown_node_at c).state) all.coords) all.sent (history_in (map (λ t. t.1) all.told))

  -- ---- a server

  module _ (all : AllGrownNodes) (r : Mirrors all) (shard : Shard) (node : GrownNodeState) (at : slice_get all.servers shard.0 ≡ Some node) where
    abbrev Served : GrownNodeState → Type 0
    Served next = Mirrors (grown_server_moved all shard node next)

    server_as : (next : GrownNodeState) (state : GrownServerState) (switched : Bool) (outs : List Outgoing) → next.state ≡ state
        → next.messages ≡ node.messages ++ map (filed switched) outs
        → GrownStands N.plan N.next (slice_set (map state_of all.servers) shard.0 state) (map core_of all.coords) (all.sent ++ map (sealed_by switched (Server shard)) outs)
        (history_in (map line_in all.told))
        → Served next
    server_as next state switched outs a b reached =
        stands_as N.plan N.next reached
        (ap (λ (s : GrownServerState). slice_set (map state_of all.servers) shard.0 s) (sym a) ∙ map_set state_of all.servers shard.0 next)
        refl
        (ap (λ (l : List Sealed). all.sent ++ l) (sym (seals_are (Server shard) switched outs))
        ∙ ap (λ (l : List Filed). all.sent ++ map (sealed_of (Server shard)) l) (sym (all_gained node.messages next.messages (map (filed switched) outs) b)))
        refl

    state_there : slice_get (map state_of all.servers) shard.0 ≡ Some node.state
    state_there = map_get state_of all.servers shard.0 node at

    -- nothing came to its core
    server_still : (next : GrownNodeState) → next.state ≡ node.state → next.messages ≡ node.messages → Served next
    server_still next a b =
        server_as next node.state false [] a (b ∙ sym (append-nil node.messages))
        (stands_as N.plan N.next r (sym (set_there (map state_of all.servers) shard.0 node.state state_there)) refl (sym (append-nil all.sent)) refl)

    message_served : (heard : GrownNodeState) (file : File) (msg : Msg) (next : GrownNodeState) → heard.state ≡ node.state → heard.messages ≡ node.messages → (b : Bool)
        → IsFiledSent all.sent (Server shard) b file msg → TakesGrownMessage (grown_setting_at N (Server shard)) heard b file msg next → Served next
    message_served heard file msg next state messages true was h =
        server_still next (ap (λ (n : GrownNodeState). n.state) h ∙ state) (ap (λ (n : GrownNodeState). n.messages) h ∙ messages)
    message_served heard file msg next state messages false was (g, handles, is) =
        server_as next g.state g.state.switched g.sends (ap (λ (n : GrownNodeState). n.state) is)
        (ap (λ (n : GrownNodeState). n.messages) is ∙ ap (λ (l : List Filed). l ++ map (filed g.state.switched) g.sends) messages)
        (server_delivers N.plan N.next r shard node.state state_there file msg g (subst (λ (s : GrownServerState). GrownHandles N.plan (Some N.next) s file msg g) state handles) was)

    judged_served : (packet : Packet) (j : GrownJudged) (heard next : GrownNodeState) → heard.state ≡ node.state → heard.messages ≡ node.messages
        → IsGrownJudgedSent all.sent (Server shard) j → TakesGrownJudged (grown_setting_at N (Server shard)) heard packet j next → Served next
    judged_served packet (Delivery header file msg) heard next state messages was h =
        message_served (grown_heard heard header packet.address) file msg next state messages (is_stop msg) was h
    judged_served packet (Skipped skip) heard next state messages was h =
        server_still next (ap (λ (n : GrownNodeState). n.state) h ∙ state) (ap (λ (n : GrownNodeState). n.messages) h ∙ messages)

    pub turn_served : (event : NodeEvent) (next : GrownNodeState) → IsGrownCaused (grown_setting_at N (Server shard)) node.state.switched all.sent (Server shard) event
        → AfterGrownTurn (grown_setting_at N (Server shard)) node event next → Served next
    turn_served (took packet) next was h =
        judged_served packet (grown_judged (grown_setting_at N (Server shard)) node.state.switched packet.bytes) (grown_received node (took packet)) next refl refl was h
    turn_served silent next was h =
        server_as next node.state node.state.switched (grown_server_tick node.state) (ap (λ (n : GrownNodeState). n.state) h) (ap (λ (n : GrownNodeState). n.messages) h)
        (server_ticks N.plan N.next r shard node.state state_there)

  -- ---- a coordinator

  module _ (all : AllGrownNodes) (r : Mirrors all) (number : ℕ) (old : GrownCoordPlace) (at : slice_get all.coords number ≡ Some old) where
    pub core_there : slice_get (map core_of all.coords) number ≡ Some (grown_node_at old).state
    core_there = map_get core_of all.coords number old at

    pub coord_as : (new : GrownCoordPlace) (state : GrownCoordState) (switched : Bool) (outs : List Outgoing) (lines : List Line) (told : List Entry) → (grown_node_at new).state ≡ state
        → (grown_node_at new).messages ≡ (grown_node_at old).messages ++ map (filed switched) outs
        → (grown_node_at new).lines ≡ (grown_node_at old).lines ++ lines → history_in lines ≡ told
        → GrownStands N.plan N.next (map state_of all.servers) (slice_set (map core_of all.coords) number state) (all.sent ++ map (sealed_by switched (Coord number)) outs)
        (history_in (map line_in all.told) ++ told)
        → Mirrors (grown_coord_moved all number old new)
    coord_as new state switched outs lines told a b c d reached =
        stands_as N.plan N.next reached refl
        (ap (λ (s : GrownCoordState). slice_set (map core_of all.coords) number s) (sym a) ∙ map_set core_of all.coords number new)
        (ap (λ (l : List Sealed). all.sent ++ l) (sym (seals_are (Coord number) switched outs))
        ∙ ap (λ (l : List Filed). all.sent ++ map (sealed_of (Coord number)) l)
        (sym (all_gained (grown_node_at old).messages (grown_node_at new).messages (map (filed switched) outs) b)))
        (ap (λ (l : List Entry). history_in (map line_in all.told) ++ l) (sym d)
        ∙ (sym (flat_map-append entries_in (map line_in all.told) lines)
        ∙ (ap history_in (sym (lines_in number all.told lines))
        ∙ ap (λ (l : List Line). history_in (map line_in (all.told ++ map (λ line. (number, line)) l))) (sym (all_gained (grown_node_at old).lines (grown_node_at new).lines lines c)))))

    -- its core took this step
    abbrev CoreTook : GrownCoordStep → Type 0
    CoreTook step =
        GrownStands N.plan N.next (map state_of all.servers) (slice_set (map core_of all.coords) number step.state)
        (all.sent ++ map (sealed_by step.state.switched (Coord number)) step.sends) (history_in (map line_in all.told) ++ answer_entries step.answer)

    -- nothing came of it
    core_still : (a : GrownAnswer) → answer_entries a ≡ [] → CoreTook (record { answer = a; state = (grown_node_at old).state; sends = [] })
    core_still a e =
        stands_as N.plan N.next r refl (sym (set_there (map core_of all.coords) number (grown_node_at old).state core_there)) (sym (append-nil all.sent))
        (sym (ap (λ (l : List Entry). history_in (map line_in all.told) ++ l) e ∙ append-nil (history_in (map line_in all.told))))

    -- a stop is for servers
    stop_took : (plan : Plan) (b : Bool) → CoreTook (if b then of_core N.plan (grown_node_at old).state (after_message plan (grown_node_at old).state.core Stop)
        else unchanged (grown_node_at old).state answer.Skipped)
    stop_took plan true = core_still (answer.Ignored Foreign) refl
    stop_took plan false = core_still answer.Skipped refl

    abbrev of_msg : File → Msg → GrownCoordStep
    of_msg file msg = after_grown_message N.plan (Some (next_at N (Coord number))) (grown_node_at old).state file msg

    stop_stepped : (file : File) (msg : Msg) → is_stop msg ≡ true → CoreTook (of_msg file msg)
    stop_stepped file Stop e = stop_took (own_plan N.plan (Some N.next) (grown_node_at old).state.switched) (is_file (own_file (grown_node_at old).state.switched) file)
    stop_stepped file msg e = absurd (cc)

    message_stepped : (file : File) (msg : Msg) (b : Bool) → is_stop msg ≡ b → IsFiledSent all.sent (Coord number) b file msg → CoreTook (of_msg file msg)
    message_stepped file msg true e was = stop_stepped file msg e
    message_stepped file msg false e was =
        subst CoreTook (sym (no_count N.plan N.next 16 (grown_node_at old).state file msg)) (coord_delivers N.plan N.next r number (grown_node_at old).state core_there file msg was)

    judged_stepped : (j : GrownJudged) → IsGrownJudgedSent all.sent (Coord number) j → CoreTook (grown_step_of_judged (grown_setting_at N (Coord number)) (grown_node_at old).state j)
    judged_stepped (Delivery header file msg) was = message_stepped file msg (is_stop msg) refl was
    judged_stepped (Skipped skip) was = core_still answer.Skipped refl

    event_stepped : (event : NodeEvent) → IsGrownCaused (grown_setting_at N (Coord number)) (grown_node_at old).state.switched all.sent (Coord number) event
        → CoreTook (grown_step_of_event (grown_setting_at N (Coord number)) (grown_node_at old).state event)
    event_stepped (took packet) was = judged_stepped (grown_judged (grown_setting_at N (Coord number)) (grown_node_at old).state.switched packet.bytes) was
    event_stepped silent was =
        stands_as N.plan N.next (coord_ticks N.plan N.next r number (grown_node_at old).state core_there) refl
        (sym (set_there (map core_of all.coords) number (grown_node_at old).state core_there)) refl (sym (append-nil (history_in (map line_in all.told))))

    pub receive_taken : (event : NodeEvent) → IsGrownCaused (grown_setting_at N (Coord number)) (grown_node_at old).state.switched all.sent (Coord number) event
        → Mirrors (grown_coord_moved all number old (between (grown_coord_took (grown_setting_at N (Coord number)) (grown_node_at old) event)))
    receive_taken event was =
        let step = grown_step_of_event (grown_setting_at N (Coord number)) (grown_node_at old).state event in
        coord_as (between (grown_coord_took (grown_setting_at N (Coord number)) (grown_node_at old) event)) step.state step.state.switched step.sends (grown_reply_lines step.answer)
        (answer_entries step.answer) refl refl refl (answers_shown step.answer) (event_stepped event was)
