-- Each node of an interleaving has a run of its own loop
use Rattle.std.proofs.Common.{◌≡◌, ◌≢◌, ℕ, ◌==◌, false, List, [], ◌∷◌, ◌++◌, Some, None, map, refl, sym, ap, subst, ◌∙◌, append-nil, inl, inr, arith}
use Rattle.std.proofs.lemmas.Bool.{ne_eqb}
use Rattle.std.specs.Prelude.{slice_get}
use Rattle.roc_base.specs.declared.node.Node.TheVariants.{Server, Coord}
use Rattle.roc_base.specs.declared.node.Shard.{Shard}
use Rattle.roc_report.specs.Line.{Line}
use Rattle.roc_law_protocol.proofs.Changed.{get-set_cases}
use Rattle.roc_law_protocol.proofs.Firsts.{found_at}
use Rattle.roc_node.specs.NodeEvent.{NodeEvent}
use Rattle.roc_grown_node.specs.Setting.{GrownNodeSetting}
use Rattle.roc_grown_serve.specs.GrownRun as serve
use Rattle.roc_grown_serve.specs.GrownRun.{GrownNodeState, first_grown_node, AfterGrownTurn, IsGrownServerRun}
use Rattle.roc_grown_submit.specs.GrownCoordRun as submit
use Rattle.roc_grown_submit.specs.GrownCoordRun.{GrownCoordNodeState, first_grown_coord_node_state, are_all_answered, grown_submitted_node, grown_submissions_of, grown_coord_took}
use Rattle.roc_grown_submit.specs.GrownCoordRun.{grown_step_of_event, grown_reply_lines, IsGrownCoordRun}
use Rattle.roc_law_nodes.specs.Interleaved.{Move, serves, submits, takes, gained, taken_in, events_at, lines_by}
use Rattle.roc_law_nodes.proofs.SideBySide.{all_gained, takes_one, takes_none, here, elsewhere, to_shard, lines_more, lines_here, lines_elsewhere}
use Rattle.roc_law_grown_nodes.specs.GrownInterleaved.{AllGrownSettings, grown_setting_at, GrownCoordPlace, between, within, grown_node_at, AllGrownNodes, grown_server_moved, grown_coord_moved}
use Rattle.roc_law_grown_nodes.specs.GrownInterleaved.{AreGrownInterleaved, none_moved, server_moves, coord_submits, coord_takes, IsGrownCoordAt}

-- it is longer, by these
abbrev HasMore : {A : Type 0} → List A → List A → Type 0
HasMore {A} before after = (more : List A) × (after ≡ before ++ more)

with_more : {A : Type 0} (before after : List A) → HasMore before after → before ++ gained before after ≡ after
with_more before after g = ap (λ l. before ++ l) (all_gained before after g.0 g.1) ∙ sym g.1

module _ (S : GrownNodeSetting) where
  submissions_show : (node : GrownCoordNodeState) → HasMore node.lines (grown_submitted_node S node).lines
  submissions_show node = ((grown_submissions_of S node).lines, refl)

  receive_shows : (node : GrownCoordNodeState) (event : NodeEvent) → HasMore node.lines (grown_coord_took S node event).lines
  receive_shows node event = (grown_reply_lines (grown_step_of_event S node.state event).answer, refl)

module _ (N : AllGrownSettings) where
  -- a server's node has its own run
  abbrev ServerRan : List Move → Shard → GrownNodeState → Type 0
  ServerRan moves shard node = IsGrownServerRun (grown_setting_at N (Server shard)) shard (events_at (Server shard) moves) node

  abbrev ServersRan : List Move → AllGrownNodes → Type 0
  ServersRan moves all = (shard : Shard) (node : GrownNodeState) → slice_get all.servers shard.0 ≡ Some node → ServerRan moves shard node

  -- and so has a coordinator's, which told its lines
  abbrev CoordRan : List Move → List (ℕ × Line) → ℕ → GrownCoordPlace → Type 0
  CoordRan moves told number place =
      IsGrownCoordAt (grown_setting_at N (Coord number)) number (N.requests number) (N.later number) (events_at (Coord number) moves) place
      × (lines_by number told ≡ (grown_node_at place).lines)

  abbrev CoordsRan : List Move → AllGrownNodes → Type 0
  CoordsRan moves all = (number : ℕ) (place : GrownCoordPlace) → slice_get all.coords number ≡ Some place → CoordRan moves all.told number place

  -- another node's move
  server_rests : (moves : List Move) (move : Move) (shard : Shard) (node : GrownNodeState) → taken_in (Server shard) move ≡ None → ServerRan moves shard node
      → ServerRan (moves ++ move ∷ []) shard node
  server_rests moves move shard node none was =
      subst (λ (l : List NodeEvent). IsGrownServerRun (grown_setting_at N (Server shard)) shard l node) (sym (takes_none (Server shard) moves move none)) was

  coord_rests : (moves : List Move) (move : Move) (told after : List (ℕ × Line)) (number : ℕ) (place : GrownCoordPlace) → taken_in (Coord number) move ≡ None
      → lines_by number after ≡ lines_by number told → CoordRan moves told number place → CoordRan (moves ++ move ∷ []) after number place
  coord_rests moves move told after number place none lines was = (
    subst (λ (l : List NodeEvent). IsGrownCoordAt (grown_setting_at N (Coord number)) number (N.requests number) (N.later number) l place) (sym (takes_none (Coord number) moves move none)) was.0,
    lines ∙ was.1,
  )

  -- ---- a server's turn

  module _ (moves : List Move) (all : AllGrownNodes) (shard : Shard) (node next : GrownNodeState) (event : NodeEvent) (at : slice_get all.servers shard.0 ≡ Some node) where
    abbrev served : AllGrownNodes
    served = grown_server_moved all shard node next

    abbrev turned : List Move
    turned = moves ++ serves shard event ∷ []

    serves_servers : ServersRan moves all → node.stopped ≡ false → AfterGrownTurn (grown_setting_at N (Server shard)) node event next → ServersRan turned served
    serves_servers was goes after other n there = elim (get-set_cases all.servers shard.0 other.0 node next n at there) [
      | inl same ↦
          (let ran : ServerRan turned shard next = subst (λ (l : List NodeEvent). IsGrownServerRun (grown_setting_at N (Server shard)) shard l next)
          (sym (takes_one (Server shard) moves (serves shard event) event (here shard.0 event))) (serve.goes_on event next (was shard node at) goes after) in
          let one : shard ≡ other = ap to_shard same.0 in
          subst (λ (s : Shard). ServerRan turned s n) one (subst (λ (m : GrownNodeState). ServerRan turned shard m) (sym same.1) ran))
      | inr apart ↦ server_rests moves (serves shard event) other n (elsewhere shard.0 other.0 event apart.0) (was other n apart.1)
    ]

    serves_coords : CoordsRan moves all → CoordsRan turned served
    serves_coords was number place there = coord_rests moves (serves shard event) all.told all.told number place refl refl (was number place there)

  -- ---- a coordinator's move

  module _ (moves : List Move) (move : Move) (all : AllGrownNodes) (number : ℕ) (old new : GrownCoordPlace) (at : slice_get all.coords number ≡ Some old) where
    abbrev moved : AllGrownNodes
    moved = grown_coord_moved all number old new

    abbrev longer : List Move
    longer = moves ++ move ∷ []

    moves_servers : ((shard : Shard) → taken_in (Server shard) move ≡ None) → ServersRan moves all → ServersRan longer moved
    moves_servers none was shard node there = server_rests moves move shard node (none shard) (was shard node there)

    new_lines : List (ℕ × Line)
    new_lines = map (λ line. (number, line)) (gained (grown_node_at old).lines (grown_node_at new).lines)

    lines_then : HasMore (grown_node_at old).lines (grown_node_at new).lines → lines_by number all.told ≡ (grown_node_at old).lines
        → lines_by number moved.told ≡ (grown_node_at new).lines
    unfolding new_lines
    lines_then grows was =
        lines_more number all.told new_lines
        ∙ (ap (λ (l : List Line). lines_by number all.told ++ l) (lines_here number (gained (grown_node_at old).lines (grown_node_at new).lines))
        ∙ (ap (λ (l : List Line). l ++ gained (grown_node_at old).lines (grown_node_at new).lines) was ∙ with_more (grown_node_at old).lines (grown_node_at new).lines grows))

    lines_still : (other : ℕ) → (number == other) ≡ false → lines_by other moved.told ≡ lines_by other all.told
    unfolding new_lines
    lines_still other e =
        lines_more other all.told new_lines
        ∙ (ap (λ (l : List Line). lines_by other all.told ++ l) (lines_elsewhere number other e (gained (grown_node_at old).lines (grown_node_at new).lines))
        ∙ append-nil (lines_by other all.told))

    moves_coords : ((other : ℕ) → number ≢ other → taken_in (Coord other) move ≡ None) → HasMore (grown_node_at old).lines (grown_node_at new).lines
        → IsGrownCoordAt (grown_setting_at N (Coord number)) number (N.requests number) (N.later number) (events_at (Coord number) longer) new → CoordsRan moves all → CoordsRan longer moved
    moves_coords none shows run was other place there = elim (get-set_cases all.coords number other old new place at there) [
      | inl same ↦
          (let ran : CoordRan longer moved.told number new = (run, lines_then shows (was number old at).1) in
          subst (λ (n : ℕ). CoordRan longer moved.told n place) same.0 (subst (λ (p : GrownCoordPlace). CoordRan longer moved.told number p) (sym same.1) ran))
      | inr apart ↦
          coord_rests moves move all.told moved.told other place (none other apart.0) (lines_still other (ne_eqb number other apart.0)) (was other place apart.1)
    ]

  -- ---- all moves

  submits_run : (number : ℕ) (moves : List Move) (node : GrownCoordNodeState)
      → IsGrownCoordRun (grown_setting_at N (Coord number)) number (N.requests number) (N.later number) (events_at (Coord number) moves) node
      → IsGrownCoordAt (grown_setting_at N (Coord number)) number (N.requests number) (N.later number) (events_at (Coord number) (moves ++ submits number ∷ []))
      (within node (grown_submitted_node (grown_setting_at N (Coord number)) node))
  submits_run number moves node run = (
    subst (λ (l : List NodeEvent). IsGrownCoordRun (grown_setting_at N (Coord number)) number (N.requests number) (N.later number) l node)
        (sym (takes_none (Coord number) moves (submits number) refl)) run,
    refl,
  )

  takes_run : (number : ℕ) (moves : List Move) (before node : GrownCoordNodeState) (event : NodeEvent) → are_all_answered node ≡ false
      → IsGrownCoordAt (grown_setting_at N (Coord number)) number (N.requests number) (N.later number) (events_at (Coord number) moves) (within before node)
      → IsGrownCoordAt (grown_setting_at N (Coord number)) number (N.requests number) (N.later number) (events_at (Coord number) (moves ++ takes number event ∷ []))
      (between (grown_coord_took (grown_setting_at N (Coord number)) node event))
  takes_run number moves before node event goes (run, is) =
      let S = grown_setting_at N (Coord number) in
      let next = subst (λ (n : GrownCoordNodeState). IsGrownCoordRun S number (N.requests number) (N.later number) (events_at (Coord number) moves ++ event ∷ []) (grown_coord_took S n event)) (sym is)
      (submit.goes_on event run (subst (λ (n : GrownCoordNodeState). are_all_answered n ≡ false) is goes)) in
      subst (λ (l : List NodeEvent). IsGrownCoordRun S number (N.requests number) (N.later number) l (grown_coord_took S node event))
      (sym (takes_one (Coord number) moves (takes number event) event (here number event))) next

  pub all_ran : {moves : List Move} {all : AllGrownNodes} → AreGrownInterleaved N moves all → ServersRan moves all × CoordsRan moves all
  all_ran none_moved = (
    λ shard node there. (
        let is : node ≡ first_grown_node N.plan shard = found_at (λ n. first_grown_node N.plan (record { 0 = n })) 0 N.plan.program.shards shard.0 node there
        ∙ ap (λ n. first_grown_node N.plan (record { 0 = n })) (omega arith) in
        subst (λ (n : GrownNodeState). ServerRan [] shard n) (sym is) serve.begun),
    λ number place there. (
        let first = λ (n : ℕ). first_grown_coord_node_state n (N.requests n) (N.later n) in
        let is : place ≡ between (first number) = found_at (λ n. between (first n)) 0 N.next.coords number place there ∙ ap (λ n. between (first n)) (omega arith) in
        subst (λ (p : GrownCoordPlace). CoordRan [] [] number p) (sym is) (submit.begun, refl)),
  )
  all_ran (server_moves {moves = moves} {all = all} shard node next event r at goes caused after) =
      let was = all_ran r in
      (serves_servers moves all shard node next event at was.0 goes after, serves_coords moves all shard node next event at was.1)
  all_ran (coord_submits {moves = moves} {all = all} number node r at) =
      let was = all_ran r in
      let S = grown_setting_at N (Coord number) in
      let new = within node (grown_submitted_node S node) in (
        moves_servers moves (submits number) all number (between node) new at (λ shard. refl) was.0,
        moves_coords moves (submits number) all number (between node) new at (λ other apart. refl) (submissions_show S node)
            (submits_run number moves node (was.1 number (between node) at).0) was.1,
      )
  all_ran (coord_takes {moves = moves} {all = all} number before node event r at goes caused) =
      let was = all_ran r in
      let S = grown_setting_at N (Coord number) in
      let new = between (grown_coord_took S node event) in (
        moves_servers moves (takes number event) all number (within before node) new at (λ shard. refl) was.0,
        moves_coords moves (takes number event) all number (within before node) new at (λ other apart. elsewhere number other event apart) (receive_shows S node event)
            (takes_run number moves before node event goes (was.1 number (within before node) at).0) was.1,
      )
