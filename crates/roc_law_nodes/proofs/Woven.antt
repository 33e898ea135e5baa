-- The runs of all nodes, interleaved, are a run of the world
use Rattle.std.proofs.Common.{◌≡◌, ℕ, ◌==◌, Bool, true, false, List, [], ◌∷◌, ◌++◌, Option, Some, None, refl, sym, ap, subst, ◌∙◌, append-nil, inl, inr, arith}
use Rattle.std.proofs.lemmas.Bool.{eq-eqb, ne_eqb}
use Rattle.std.proofs.lemmas.List.Elements.{filter-append, filter_map-append}
use Rattle.std.specs.Prelude.{slice_get, slice_set, option_map, if◌then◌else◌}
use Rattle.std.specs.List.{cons_option, range_with_len}
use Rattle.roc_base.specs.declared.node.Node.{Node}
use Rattle.roc_base.specs.declared.node.Node.TheVariants.{Server, Coord}
use Rattle.roc_base.specs.declared.node.Shard.{Shard}
use Rattle.roc_program.specs.LookUps.{procedure_named}
use Rattle.roc_program.proofs.Ranges.{map_map}
use Rattle.roc_plan.specs.Groups.{Plan}
use Rattle.roc_sched.specs.declared.line.Request.{Request}
use Rattle.roc_law_protocol.proofs.Changed.{get-set_cases}
use Rattle.roc_law_protocol.proofs.Firsts.{found_at}
use Rattle.roc_law_world.specs.Run.{Stepped, at_beginning}
use Rattle.roc_law_world.specs.World.{World, first_world}
use Rattle.roc_node.specs.NodeEvent.{NodeEvent}
use Rattle.roc_node_submit.specs.CoordRun.{CoordNodeState, first_coord_node_state, coord_submitted, coord_took, IsCoordRun}
use Rattle.roc_law_nodes.specs.Own.{OwnEvent, requested}
use Rattle.roc_law_nodes.specs.Turns.{turn_brings, turns_bring, is_for_core, own_requests, next_requests, coord_owns}
use Rattle.roc_law_nodes.specs.Interleaved.{AllSettings, setting_at, CoordPlace, between, within, AllNodes, first_nodes, Move, serves, submits, takes, AreInterleaved, none_moved, server_moves, coord_submits, coord_takes, taken_in, events_at}
use Rattle.roc_law_nodes.specs.WorldOf.{owns_to, IsWorldOf}
use Rattle.roc_law_nodes.proofs.CoordFolds.{owns_with_turn}
use Rattle.roc_law_nodes.proofs.NodeMoves.{Mirrors, turn_served, receive_taken}
use Rattle.roc_law_nodes.proofs.ServerFolds.{for_core, core_more}
use Rattle.roc_law_nodes.proofs.SideBySide.{takes_one, takes_none, here, all_ran}
use Rattle.roc_law_nodes.proofs.SubmitMoves.{submissions_made}
use Rattle.roc_law_nodes.proofs.WorldMoves.{with_own}

-- ---- lists

-- each request is for a core
requests_kept : (plan : Plan) (requests : List Request) → for_core (own_requests plan requests) ≡ own_requests plan requests
requests_kept plan [] = refl
requests_kept plan (request ∷ rest) = go (procedure_named plan.program request.name) (requests_kept plan rest)
  where
    go : (p : Option ℕ) → for_core (own_requests plan rest) ≡ own_requests plan rest
        → for_core (cons_option (option_map (λ n. requested n request.args) p) (own_requests plan rest)) ≡ cons_option (option_map (λ n. requested n request.args) p) (own_requests plan rest)
    go None e = e
    go (Some n) e = ap (λ (l : List OwnEvent). requested n request.args ∷ l) e

-- what one node's events bring, with one event more or none
brought_more : (tag : List ℕ) (events : List NodeEvent) (event : NodeEvent) (owned : List OwnEvent) (b : Bool) → owned ≡ for_core (turns_bring tag events)
    → owned ++ (if b then for_core (turn_brings tag event) else []) ≡ for_core (turns_bring tag (events ++ cons_option (if b then Some event else None) []))
brought_more tag events event owned true e = ap (λ l. l ++ for_core (turn_brings tag event)) e ∙ sym (core_more tag events event)
brought_more tag events event owned false e = append-nil owned ∙ (e ∙ ap (λ (l : List NodeEvent). for_core (turns_bring tag l)) (sym (append-nil events)))

own_here : (owned : Node → List OwnEvent) (number : ℕ) (owns : List OwnEvent) → with_own owned (Coord number) owns (Coord number) ≡ owned (Coord number) ++ owns
own_here owned number owns = ap (λ (b : Bool). owned (Coord number) ++ (if b then owns else [])) (eq-eqb number number refl)

own_elsewhere : (owned : Node → List OwnEvent) (number other : ℕ) (owns : List OwnEvent) → (number == other) ≡ false → with_own owned (Coord number) owns (Coord other) ≡ owned (Coord other)
own_elsewhere owned number other owns e = ap (λ (b : Bool). owned (Coord other) ++ (if b then owns else [])) e ∙ append-nil (owned (Coord other))

module _ (N : AllSettings) where
  abbrev ServersOwn : List Move → (Node → List OwnEvent) → Type 0
  ServersOwn moves owned = (shard : Shard) → owned (Server shard) ≡ for_core (turns_bring N.tag (events_at (Server shard) moves))

  abbrev CoordOwns : List Move → (Node → List OwnEvent) → (number : ℕ) → CoordPlace → Type 0
  CoordOwns moves owned number place = owned (Coord number) ≡ for_core (owns_to (setting_at N (Coord number)) number (N.requests number) (events_at (Coord number) moves) place)

  abbrev CoordsOwn : List Move → (Node → List OwnEvent) → List CoordPlace → Type 0
  CoordsOwn moves owned coords = (number : ℕ) (place : CoordPlace) → slice_get coords number ≡ Some place → CoordOwns moves owned number place

  -- a world has the nodes, and each node's own events are those of its moves
  record Woven (moves : List Move) (all : AllNodes) : Type 0 where
    pub owned : Node → List OwnEvent
    pub mirrors : Mirrors N all owned
    pub servers : ServersOwn moves owned
    pub coords : CoordsOwn moves owned all.coords

  woven_first : Woven [] (first_nodes N)
  woven_first =
      record {
        owned = λ node. [];
        mirrors = record {
          steps = [];
          world = first_world N.plan N.coords;
          run = at_beginning;
          servers_are = sym (map_map (λ n. n.state) _ (range_with_len 0 N.plan.program.shards));
          viewing_are = sym (map_map (λ n. n.viewing) _ (range_with_len 0 N.plan.program.shards));
          coords_are = sym (map_map _ _ (range_with_len 0 N.coords));
          sent_are = refl;
          history_is = refl;
          owned_are = λ node. refl;
        };
        servers = λ shard. refl;
        coords = λ number place there. (
            let first : ℕ → CoordPlace = λ n. between (first_coord_node_state n (N.requests n)) in
            let is : place ≡ first number = found_at first 0 N.coords number place there ∙ ap first (omega arith) in
            subst (λ (p : CoordPlace). CoordOwns [] (λ node. []) number p) (sym is) refl);
      }

  -- ---- a server's turn

  module _ (moves : List Move) (all : AllNodes) (w : Woven moves all) (shard : Shard) (event : NodeEvent) where
    abbrev served : Node → List OwnEvent
    served = with_own w.owned (Server shard) (for_core (turn_brings N.tag event))

    served_servers : ServersOwn (moves ++ serves shard event ∷ []) served
    served_servers other =
        brought_more N.tag (events_at (Server other) moves) event (w.owned (Server other)) (shard.0 == other.0) (w.servers other)
        ∙ ap (λ (l : List NodeEvent). for_core (turns_bring N.tag l)) (sym (filter_map-append (taken_in (Server other)) moves (serves shard event ∷ [])))

    served_coords : CoordsOwn (moves ++ serves shard event ∷ []) served all.coords
    served_coords number place there =
        append-nil (w.owned (Coord number)) ∙ (w.coords number place there
        ∙ ap (λ (l : List NodeEvent). for_core (owns_to (setting_at N (Coord number)) number (N.requests number) l place)) (sym (takes_none (Coord number) moves (serves shard event) refl)))

  -- ---- a coordinator's move

  module _ (moves : List Move) (all : AllNodes) (w : Woven moves all) (number : ℕ) (old new : CoordPlace) (at : slice_get all.coords number ≡ Some old) (move : Move) (owns : List OwnEvent) where
    abbrev moved : Node → List OwnEvent
    moved = with_own w.owned (Coord number) owns

    moved_servers : ((shard : Shard) → taken_in (Server shard) move ≡ None) → ServersOwn (moves ++ move ∷ []) moved
    moved_servers none shard =
        append-nil (w.owned (Server shard)) ∙ (w.servers shard ∙ ap (λ (l : List NodeEvent). for_core (turns_bring N.tag l)) (sym (takes_none (Server shard) moves move (none shard))))

    moved_coords : ((other : ℕ) → (number == other) ≡ false → taken_in (Coord other) move ≡ None) → CoordOwns (moves ++ move ∷ []) moved number new
        → CoordsOwn (moves ++ move ∷ []) moved (slice_set all.coords number new)
    moved_coords none is other place there = elim (get-set_cases all.coords number other old new place at there) [
      | inl same ↦ subst (λ (n : ℕ). CoordOwns (moves ++ move ∷ []) moved n place) same.0 (subst (λ (p : CoordPlace). CoordOwns (moves ++ move ∷ []) moved number p) (sym same.1) is)
      | inr apart ↦
          (let else_ : (number == other) ≡ false = ne_eqb number other apart.0 in
          own_elsewhere w.owned number other owns else_ ∙ (w.coords other place apart.1
          ∙ ap (λ (l : List NodeEvent). for_core (owns_to (setting_at N (Coord other)) other (N.requests other) l place)) (sym (takes_none (Coord other) moves move (none other else_)))))
    ]

  submits_owns : (moves : List Move) (all : AllNodes) (w : Woven moves all) (number : ℕ) (node now : CoordNodeState) → slice_get all.coords number ≡ Some (between node)
      → CoordOwns (moves ++ submits number ∷ []) (with_own w.owned (Coord number) (own_requests N.plan (next_requests (setting_at N (Coord number)) node))) number (within node now)
  submits_owns moves all w number node now at =
      let S = setting_at N (Coord number) in
      let new = own_requests N.plan (next_requests S node) in
      let before = coord_owns S (first_coord_node_state number (N.requests number)) (events_at (Coord number) moves) in
      own_here w.owned number new
      ∙ (ap (λ l. l ++ new) (w.coords number (between node) at)
      ∙ (ap (λ l. for_core before ++ l) (sym (requests_kept N.plan (next_requests S node)))
      ∙ (sym (filter-append is_for_core before new)
      ∙ ap (λ (l : List NodeEvent). for_core (owns_to S number (N.requests number) l (within node now))) (sym (takes_none (Coord number) moves (submits number) refl)))))

  takes_owns : (moves : List Move) (all : AllNodes) (w : Woven moves all) (number : ℕ) (before node next : CoordNodeState) (event : NodeEvent)
      → slice_get all.coords number ≡ Some (within before node)
      → IsCoordRun (setting_at N (Coord number)) number (N.requests number) (events_at (Coord number) moves) before
      → CoordOwns (moves ++ takes number event ∷ []) (with_own w.owned (Coord number) (for_core (turn_brings N.tag event))) number (between next)
  takes_owns moves all w number before node next event at run =
      let S = setting_at N (Coord number) in
      let events = events_at (Coord number) moves in
      let brings = turn_brings N.tag event in
      let front = coord_owns S (first_coord_node_state number (N.requests number)) events ++ own_requests N.plan (next_requests S before) in
      own_here w.owned number (for_core brings)
      ∙ (ap (λ l. l ++ for_core brings) (w.coords number (within before node) at)
      ∙ (sym (filter-append is_for_core front brings)
      ∙ (ap for_core (sym (owns_with_turn S number run event))
      ∙ ap (λ (l : List NodeEvent). for_core (coord_owns S (first_coord_node_state number (N.requests number)) l))
      (sym (takes_one (Coord number) moves (takes number event) event (here number event))))))

  woven : {moves : List Move} {all : AllNodes} → AreInterleaved N moves all → Woven moves all
  woven none_moved = woven_first
  woven (server_moves {moves = moves} {all = all} shard node next event r at goes caused after) =
      let w = woven r in
      record {
        owned = with_own w.owned (Server shard) (for_core (turn_brings N.tag event));
        mirrors = turn_served N all w.owned w.mirrors shard node at event next caused after;
        servers = served_servers moves all w shard event;
        coords = served_coords moves all w shard event;
      }
  woven (coord_submits {moves = moves} {all = all} number node r at goes) =
      let w = woven r in
      let S = setting_at N (Coord number) in
      let new = within node (coord_submitted S node) in
      let owns = own_requests N.plan (next_requests S node) in
      record {
        owned = with_own w.owned (Coord number) owns;
        mirrors = submissions_made N all w.owned w.mirrors number node at;
        servers = moved_servers moves all w number (between node) new at (submits number) owns (λ shard. refl);
        coords = moved_coords moves all w number (between node) new at (submits number) owns (λ other e. refl) (submits_owns moves all w number node (coord_submitted S node) at);
      }
  woven (coord_takes {moves = moves} {all = all} number before node event r at caused) =
      let w = woven r in
      let S = setting_at N (Coord number) in
      let new = between (coord_took S node event) in
      let owns = for_core (turn_brings N.tag event) in
      record {
        owned = with_own w.owned (Coord number) owns;
        mirrors = receive_taken N all w.owned w.mirrors number (within before node) at event caused;
        servers = moved_servers moves all w number (within before node) new at (takes number event) owns (λ shard. refl);
        coords = moved_coords moves all w number (within before node) new at (takes number event) owns (λ other e. ap (λ (b : Bool). if b then Some event else None) e)
            (takes_owns moves all w number before node (coord_took S node event) event at ((all_ran N r).1 number (within before node) at).0.0);
      }

  pub world_of : {moves : List Move} {all : AllNodes} → AreInterleaved N moves all → (steps : List Stepped) × (w : World) × IsWorldOf N moves all steps w
  world_of r =
      let v = woven r in
      let m = v.mirrors in (
        m.steps,
        m.world,
        record {
          run = m.run;
          servers = m.servers_are;
          viewing = m.viewing_are;
          coords = m.coords_are;
          sent = m.sent_are;
          history = m.history_is;
          server_owns = λ shard. m.owned_are (Server shard) ∙ v.servers shard;
          coord_owns = λ number place there. m.owned_are (Coord number) ∙ v.coords number place there;
        },
      )
