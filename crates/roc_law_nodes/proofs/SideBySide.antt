-- Each node of an interleaving has a run of its own loop, and the network has what it sent
use Rattle.std.proofs.Common.{◌≡◌, ◌≢◌, ℕ, ◌==◌, Bool, true, false, cond, List, [], ◌∷◌, ◌++◌, Option, Some, None, map, refl, sym, ap, subst, ◌∙◌, append-nil, inl, inr, arith}
use Rattle.std.proofs.lemmas.Bool.{eq-eqb, ne_eqb}
use Rattle.std.proofs.lemmas.List.{map-append}
use Rattle.std.proofs.lemmas.List.Elements.{filter-append, filter_map-append}
use Rattle.std.proofs.Math.Seq.{drop-append_seam}
use Rattle.std.specs.Prelude.{slice_get, filter, if◌then◌else◌}
use Rattle.std.specs.List.{cons_option}
use Rattle.roc_base.specs.declared.node.Node.{Node}
use Rattle.roc_base.specs.declared.node.Node.TheVariants.{Server, Coord}
use Rattle.roc_base.specs.declared.node.Shard.{Shard}
use Rattle.roc_base.specs.Node.{is_node}
use Rattle.roc_io.specs.Packet.{Packet}
use Rattle.roc_msg.specs.declared.msg.Msg.{Msg}
use Rattle.roc_msg.specs.declared.msg.Envelope.{Envelope}
use Rattle.roc_msg.specs.declared.outbox.Outgoing.{Outgoing}
use Rattle.roc_report.specs.Line.{Line}
use Rattle.roc_law_protocol.specs.World.{sent_by}
use Rattle.roc_law_protocol.proofs.Changed.{get-set_cases}
use Rattle.roc_law_protocol.proofs.Firsts.{found_at}
use Rattle.roc_step.specs.Step.{tick_sends}
use Rattle.roc_node.specs.Judgement.{judged}
use Rattle.roc_node.specs.declared.judging.Judged.{Judged}
use Rattle.roc_node.specs.declared.judging.Judged.TheVariants.{Delivery, Skipped}
use Rattle.roc_node.specs.NodeEvent.{NodeEvent, took, silent, NodeSetting}
use Rattle.roc_node_serve.specs.ServerRun as serve
use Rattle.roc_node_serve.specs.ServerRun.{ServerNodeState, first_server_node_state, is_stop, server_heard, server_received, TakesMessage, TakesJudged, AfterEvent, AfterTurn, IsServerRun}
use Rattle.roc_node_submit.specs.CoordRun as submit
use Rattle.roc_node_submit.specs.CoordRun.{CoordNodeState, first_coord_node_state, is_answered, submissions_of, coord_submitted, coord_took, step_of_event, reply_lines, IsCoordRun}
use Rattle.roc_law_nodes.specs.Own.{messages_of}
use Rattle.roc_law_nodes.specs.Interleaved.{AllSettings, setting_at, CoordPlace, between, within, node_at, AllNodes, Move, serves, submits, takes, gained, server_moved, coord_moved, AreInterleaved, none_moved, server_moves, coord_submits, coord_takes, taken_in, events_at, lines_by, IsCoordAt}
use Rattle.roc_law_nodes.proofs.Owned.{sent_here, sent_elsewhere, more_messages}

abbrev second : ℕ × Line → Line
second t = t.1

-- ---- what a move is to a node

abbrev pub to_shard : ℕ → Shard
to_shard n = record { 0 = n }

pub takes_one : (node : Node) (moves : List Move) (move : Move) (event : NodeEvent) → taken_in node move ≡ Some event → events_at node (moves ++ move ∷ []) ≡ events_at node moves ++ event ∷ []
takes_one node moves move event e = filter_map-append (taken_in node) moves (move ∷ []) ∙ ap (λ (p : Option NodeEvent). events_at node moves ++ cons_option p []) e

pub takes_none : (node : Node) (moves : List Move) (move : Move) → taken_in node move ≡ None → events_at node (moves ++ move ∷ []) ≡ events_at node moves
takes_none node moves move e =
    filter_map-append (taken_in node) moves (move ∷ []) ∙ (ap (λ (p : Option NodeEvent). events_at node moves ++ cons_option p []) e ∙ append-nil (events_at node moves))

pub here : (n : ℕ) (event : NodeEvent) → (if n == n then Some event else None) ≡ Some event
here n event = ap (λ (b : Bool). if b then Some event else None) (eq-eqb n n refl)

pub elsewhere : (n m : ℕ) (event : NodeEvent) → n ≢ m → (if n == m then Some event else None) ≡ None
elsewhere n m event apart = ap (λ (b : Bool). if b then Some event else None) (ne_eqb n m apart)

-- ---- what a turn adds to the messages

pub LongerBy : {A : Type 0} → List A → List A → Type 0
LongerBy {A} before after = (more : List A) × (after ≡ before ++ more)

pub all_gained : {A : Type 0} (before after more : List A) → after ≡ before ++ more → gained before after ≡ more
all_gained before after more e = ap (gained before) e ∙ drop-append_seam before more

pub with_gained : {A : Type 0} (before after : List A) → LongerBy before after → before ++ gained before after ≡ after
unfolding LongerBy
with_gained before after g = ap (λ l. before ++ l) (all_gained before after g.0 g.1) ∙ sym g.1

module _ (S : NodeSetting) where
  message_grows : (node : ServerNodeState) (bytes : List ℕ) (msg : Msg) (next : ServerNodeState) → (b : Bool) → TakesMessage S node b bytes msg next → LongerBy node.messages next.messages
  unfolding LongerBy
  message_grows node bytes msg next true h = ([], ap (λ (n : ServerNodeState). n.messages) h ∙ sym (append-nil node.messages))
  message_grows node bytes msg next false (r, q, handles, answers, is) = (r.sends ++ q.sends, ap (λ (n : ServerNodeState). n.messages) is)

  judged_grows : (node : ServerNodeState) (packet : Packet) (j : Judged) (next : ServerNodeState) → TakesJudged S node packet j next → LongerBy node.messages next.messages
  unfolding LongerBy
  judged_grows node packet (Delivery header msg) next h = message_grows (server_heard node header packet.address) packet.bytes msg next (is_stop msg) h
  judged_grows node packet (Skipped skip) next h = ([], ap (λ (n : ServerNodeState). n.messages) h ∙ sym (append-nil node.messages))

  event_grows : (node : ServerNodeState) (event : NodeEvent) (next : ServerNodeState) → AfterEvent S node event next → LongerBy node.messages next.messages
  unfolding LongerBy
  event_grows node (took packet) next h = judged_grows node packet (judged S.header.tag packet.bytes) next h
  event_grows node silent next h = (tick_sends node.state, ap (λ (n : ServerNodeState). n.messages) h)

  pub turn_grows : (node : ServerNodeState) (event : NodeEvent) (next : ServerNodeState) → AfterTurn S node event next → LongerBy node.messages next.messages
  turn_grows node event next h = event_grows (server_received node event) event next h

  pub submissions_grow : (node : CoordNodeState) → LongerBy node.messages (coord_submitted S node).messages
  unfolding LongerBy
  submissions_grow node = ((submissions_of S node).messages, refl)

  pub submissions_show : (node : CoordNodeState) → LongerBy node.lines (coord_submitted S node).lines
  unfolding LongerBy
  submissions_show node = ((submissions_of S node).lines, refl)

  pub receive_shows : (node : CoordNodeState) (event : NodeEvent) → LongerBy node.lines (coord_took S node event).lines
  unfolding LongerBy
  receive_shows node event = (reply_lines (step_of_event S node.state event).answer, refl)

  pub receive_grows : (node : CoordNodeState) (event : NodeEvent) → LongerBy node.messages (coord_took S node event).messages
  unfolding LongerBy
  receive_grows node event = ((step_of_event S node.state event).sends, refl)

-- ---- lines

pub lines_more : (number : ℕ) (told more : List (ℕ × Line)) → lines_by number (told ++ more) ≡ lines_by number told ++ lines_by number more
lines_more number told more =
    ap (map second) (filter-append (λ (t : ℕ × Line). t.0 == number) told more) ∙ map-append second (filter (λ (t : ℕ × Line). t.0 == number) told) (filter (λ (t : ℕ × Line). t.0 == number) more)

pub lines_here : (number : ℕ) (lines : List Line) → lines_by number (map (λ line. (number, line)) lines) ≡ lines
lines_here number [] = refl
lines_here number (line ∷ lines) =
    let rest : List (ℕ × Line) = filter (λ t. t.0 == number) (map (λ line. (number, line)) lines) in
    ap (λ (b : Bool). map second (cond b ((number, line) ∷ rest) rest)) (eq-eqb number number refl) ∙ ap (λ (l : List Line). line ∷ l) (lines_here number lines)

pub lines_elsewhere : (number other : ℕ) → (number == other) ≡ false → (lines : List Line) → lines_by other (map (λ line. (number, line)) lines) ≡ []
lines_elsewhere number other e [] = refl
lines_elsewhere number other e (line ∷ lines) =
    let rest : List (ℕ × Line) = filter (λ t. t.0 == other) (map (λ line. (number, line)) lines) in
    ap (λ (b : Bool). map second (cond b ((number, line) ∷ rest) rest)) e ∙ lines_elsewhere number other e lines

-- ---- each node by itself

module _ (N : AllSettings) where
  -- a server's node has its own run, and the network what it sent
  abbrev ServerRan : List Move → List Envelope → Shard → ServerNodeState → Type 0
  ServerRan moves sent shard node =
      IsServerRun (setting_at N (Server shard)) shard (events_at (Server shard) moves) node × (messages_of (Server shard) sent ≡ node.messages)

  abbrev ServersRan : List Move → AllNodes → Type 0
  ServersRan moves all = (shard : Shard) (node : ServerNodeState) → slice_get all.servers shard.0 ≡ Some node → ServerRan moves all.sent shard node

  -- and so has a coordinator's
  abbrev CoordRan : List Move → List Envelope → List (ℕ × Line) → ℕ → CoordPlace → Type 0
  CoordRan moves sent told number place =
      IsCoordAt (setting_at N (Coord number)) number (N.requests number) (events_at (Coord number) moves) place × (messages_of (Coord number) sent ≡ (node_at place).messages)
      × (lines_by number told ≡ (node_at place).lines)

  abbrev CoordsRan : List Move → AllNodes → Type 0
  CoordsRan moves all = (number : ℕ) (place : CoordPlace) → slice_get all.coords number ≡ Some place → CoordRan moves all.sent all.told number place

  -- another node's move
  server_rests : (moves : List Move) (move : Move) (sent : List Envelope) (from : Node) (outs : List Outgoing) (shard : Shard) (node : ServerNodeState)
      → taken_in (Server shard) move ≡ None → is_node from (Server shard) ≡ false → ServerRan moves sent shard node → ServerRan (moves ++ move ∷ []) (sent ++ map (sent_by from) outs) shard node
  server_rests moves move sent from outs shard node none other was = (
    subst (λ (l : List NodeEvent). IsServerRun (setting_at N (Server shard)) shard l node) (sym (takes_none (Server shard) moves move none)) was.0,
    more_messages (Server shard) sent (map (sent_by from) outs)
        ∙ (ap (λ (l : List Outgoing). messages_of (Server shard) sent ++ l) (sent_elsewhere (Server shard) from other outs) ∙ (append-nil (messages_of (Server shard) sent) ∙ was.1)),
  )

  coord_rests : (moves : List Move) (move : Move) (sent : List Envelope) (from : Node) (outs : List Outgoing) (told after : List (ℕ × Line)) (number : ℕ) (place : CoordPlace)
      → taken_in (Coord number) move ≡ None → is_node from (Coord number) ≡ false → lines_by number after ≡ lines_by number told
      → CoordRan moves sent told number place → CoordRan (moves ++ move ∷ []) (sent ++ map (sent_by from) outs) after number place
  coord_rests moves move sent from outs told after number place none other lines was = (
    subst (λ (l : List NodeEvent). IsCoordAt (setting_at N (Coord number)) number (N.requests number) l place) (sym (takes_none (Coord number) moves move none)) was.0,
    more_messages (Coord number) sent (map (sent_by from) outs)
        ∙ (ap (λ (l : List Outgoing). messages_of (Coord number) sent ++ l) (sent_elsewhere (Coord number) from other outs) ∙ (append-nil (messages_of (Coord number) sent) ∙ was.1)),
    lines ∙ was.2,
  )

  -- what the network has of a node, with what it sent in a move
  sent_more : (from : Node) → is_node from from ≡ true → (sent : List Envelope) (before after : List Outgoing) → LongerBy before after → messages_of from sent ≡ before
      → messages_of from (sent ++ map (sent_by from) (gained before after)) ≡ after
  sent_more from one sent before after g was =
      more_messages from sent (map (sent_by from) (gained before after))
      ∙ (ap (λ (l : List Outgoing). messages_of from sent ++ l) (sent_here from from one (gained before after))
      ∙ (ap (λ (l : List Outgoing). l ++ gained before after) was ∙ with_gained before after g))

  -- ---- a server's turn

  module _ (moves : List Move) (all : AllNodes) (shard : Shard) (node next : ServerNodeState) (event : NodeEvent) (at : slice_get all.servers shard.0 ≡ Some node) where
    abbrev served : AllNodes
    served = server_moved all shard node next

    abbrev turned : List Move
    turned = moves ++ serves shard event ∷ []

    serves_servers : ServersRan moves all → node.stopped ≡ false → AfterTurn (setting_at N (Server shard)) node event next → ServersRan turned served
    serves_servers was goes after other n there = elim (get-set_cases all.servers shard.0 other.0 node next n at there) [
      | inl same ↦
          (let before = was shard node at in
          let run : IsServerRun (setting_at N (Server shard)) shard (events_at (Server shard) turned) next = subst (λ (l : List NodeEvent). IsServerRun (setting_at N (Server shard)) shard l next)
          (sym (takes_one (Server shard) moves (serves shard event) event (here shard.0 event))) (serve.goes_on event next before.0 goes after) in
          let ran : ServerRan turned served.sent shard next =
          (run, sent_more (Server shard) (eq-eqb shard.0 shard.0 refl) all.sent node.messages next.messages (turn_grows (setting_at N (Server shard)) node event next after) before.1) in
          let one : shard ≡ other = ap to_shard same.0 in
          subst (λ (s : Shard). ServerRan turned served.sent s n) one (subst (λ (m : ServerNodeState). ServerRan turned served.sent shard m) (sym same.1) ran))
      | inr apart ↦
          server_rests moves (serves shard event) all.sent (Server shard) (gained node.messages next.messages) other n (elsewhere shard.0 other.0 event apart.0)
          (ne_eqb shard.0 other.0 apart.0) (was other n apart.1)
    ]

    serves_coords : CoordsRan moves all → CoordsRan turned served
    serves_coords was number place there = coord_rests moves (serves shard event) all.sent (Server shard) (gained node.messages next.messages) all.told all.told number place refl refl refl
        (was number place there)

  -- ---- a coordinator's move

  module _ (moves : List Move) (move : Move) (all : AllNodes) (number : ℕ) (old new : CoordPlace) (at : slice_get all.coords number ≡ Some old) where
    abbrev moved : AllNodes
    moved = coord_moved all number old new

    abbrev longer : List Move
    longer = moves ++ move ∷ []

    moves_servers : ((shard : Shard) → taken_in (Server shard) move ≡ None) → ServersRan moves all → ServersRan longer moved
    moves_servers none was shard node there = server_rests moves move all.sent (Coord number) (gained (node_at old).messages (node_at new).messages) shard node (none shard) refl
        (was shard node there)

    new_lines : List (ℕ × Line)
    new_lines = map (λ line. (number, line)) (gained (node_at old).lines (node_at new).lines)

    lines_then : LongerBy (node_at old).lines (node_at new).lines → lines_by number all.told ≡ (node_at old).lines → lines_by number moved.told ≡ (node_at new).lines
    unfolding new_lines
    lines_then grows was =
        lines_more number all.told new_lines
        ∙ (ap (λ (l : List Line). lines_by number all.told ++ l) (lines_here number (gained (node_at old).lines (node_at new).lines))
        ∙ (ap (λ (l : List Line). l ++ gained (node_at old).lines (node_at new).lines) was ∙ with_gained (node_at old).lines (node_at new).lines grows))

    lines_still : (other : ℕ) → (number == other) ≡ false → lines_by other moved.told ≡ lines_by other all.told
    unfolding new_lines
    lines_still other e =
        lines_more other all.told new_lines
        ∙ (ap (λ (l : List Line). lines_by other all.told ++ l) (lines_elsewhere number other e (gained (node_at old).lines (node_at new).lines)) ∙ append-nil (lines_by other all.told))

    moves_coords : ((other : ℕ) → number ≢ other → taken_in (Coord other) move ≡ None) → LongerBy (node_at old).messages (node_at new).messages → LongerBy (node_at old).lines (node_at new).lines
        → IsCoordAt (setting_at N (Coord number)) number (N.requests number) (events_at (Coord number) longer) new → CoordsRan moves all → CoordsRan longer moved
    moves_coords none grows shows run was other place there = elim (get-set_cases all.coords number other old new place at there) [
      | inl same ↦
          (let before = was number old at in
          let ran : CoordRan longer moved.sent moved.told number new =
          (run, sent_more (Coord number) (eq-eqb number number refl) all.sent (node_at old).messages (node_at new).messages grows before.1, lines_then shows before.2) in
          subst (λ (n : ℕ). CoordRan longer moved.sent moved.told n place) same.0 (subst (λ (p : CoordPlace). CoordRan longer moved.sent moved.told number p) (sym same.1) ran))
      | inr apart ↦
          coord_rests moves move all.sent (Coord number) (gained (node_at old).messages (node_at new).messages) all.told moved.told other place (none other apart.0) (ne_eqb number other apart.0)
          (lines_still other (ne_eqb number other apart.0)) (was other place apart.1)
    ]

  -- ---- all moves

  submits_run : (number : ℕ) (moves : List Move) (node : CoordNodeState) → is_answered node ≡ false
      → IsCoordRun (setting_at N (Coord number)) number (N.requests number) (events_at (Coord number) moves) node
      → IsCoordAt (setting_at N (Coord number)) number (N.requests number) (events_at (Coord number) (moves ++ submits number ∷ []))
      (within node (coord_submitted (setting_at N (Coord number)) node))
  submits_run number moves node goes run =
      (subst (λ (l : List NodeEvent). IsCoordRun (setting_at N (Coord number)) number (N.requests number) l node) (sym (takes_none (Coord number) moves (submits number) refl)) run, goes, refl)

  takes_run : (number : ℕ) (moves : List Move) (before node : CoordNodeState) (event : NodeEvent)
      → IsCoordAt (setting_at N (Coord number)) number (N.requests number) (events_at (Coord number) moves) (within before node)
      → IsCoordAt (setting_at N (Coord number)) number (N.requests number) (events_at (Coord number) (moves ++ takes number event ∷ []))
      (between (coord_took (setting_at N (Coord number)) node event))
  takes_run number moves before node event (run, goes, is) =
      let S = setting_at N (Coord number) in
      let next = subst (λ (n : CoordNodeState). IsCoordRun S number (N.requests number) (events_at (Coord number) moves ++ event ∷ []) (coord_took S n event)) (sym is)
      (submit.goes_on event run goes) in
      subst (λ (l : List NodeEvent). IsCoordRun S number (N.requests number) l (coord_took S node event))
      (sym (takes_one (Coord number) moves (takes number event) event (here number event))) next

  pub all_ran : {moves : List Move} {all : AllNodes} → AreInterleaved N moves all → ServersRan moves all × CoordsRan moves all
  all_ran none_moved = (
    λ shard node there. (
        let is : node ≡ first_server_node_state N.plan shard = found_at (λ n. first_server_node_state N.plan (record { 0 = n })) 0 N.plan.program.shards shard.0 node there
        ∙ ap (λ n. first_server_node_state N.plan (record { 0 = n })) (omega arith) in
        subst (λ (n : ServerNodeState). ServerRan [] [] shard n) (sym is) (serve.begun, refl)),
    λ number place there. (
        let is : place ≡ between (first_coord_node_state number (N.requests number)) = found_at (λ n. between (first_coord_node_state n (N.requests n))) 0 N.coords number place there
        ∙ ap (λ n. between (first_coord_node_state n (N.requests n))) (omega arith) in
        subst (λ (p : CoordPlace). CoordRan [] [] [] number p) (sym is) (submit.begun, refl, refl)),
  )
  all_ran (server_moves {moves = moves} {all = all} shard node next event r at goes caused after) =
      let was = all_ran r in
      (serves_servers moves all shard node next event at was.0 goes after, serves_coords moves all shard node next event at was.1)
  all_ran (coord_submits {moves = moves} {all = all} number node r at goes) =
      let was = all_ran r in
      let S = setting_at N (Coord number) in
      let new = within node (coord_submitted S node) in (
        moves_servers moves (submits number) all number (between node) new at (λ shard. refl) was.0,
        moves_coords moves (submits number) all number (between node) new at (λ other apart. refl) (submissions_grow S node) (submissions_show S node)
            (submits_run number moves node goes (was.1 number (between node) at).0) was.1,
      )
  all_ran (coord_takes {moves = moves} {all = all} number before node event r at caused) =
      let was = all_ran r in
      let S = setting_at N (Coord number) in
      let new = between (coord_took S node event) in (
        moves_servers moves (takes number event) all number (within before node) new at (λ shard. refl) was.0,
        moves_coords moves (takes number event) all number (within before node) new at (λ other apart. elsewhere number other event apart) (receive_grows S node event)
            (receive_shows S node event)
            (takes_run number moves before node event (was.1 number (within before node) at).0) was.1,
      )
