-- A coordinator's node is the fold of its core's step over its submissions and what its turns bring
use Rattle.std.proofs.Common.{◌≡◌, ℕ, ◌-◌, arith, Bool, true, false, not, List, [], ◌∷◌, ◌++◌, Option, Some, None, length, refl, sym, ap, subst, ◌∙◌, append-nil, append_assoc}
use Rattle.std.proofs.lemmas.List.Elements.{filter-append, filter_map-append}
use Rattle.std.proofs.lemmas.List.{length-append}
use Rattle.std.proofs.Math.Seq.{take-append_seam}
use Rattle.std.specs.Prelude.{take, filter, option_map, if◌then◌else◌}
use Rattle.std.specs.List.{cons_option}
use Rattle.roc_msg.specs.declared.outbox.Outgoing.{Outgoing}
use Rattle.roc_plan.specs.Groups.{Plan}
use Rattle.roc_program.specs.LookUps.{procedure_named}
use Rattle.roc_sched.specs.declared.line.Request.{Request}
use Rattle.roc_coord.specs.State.{CoordState}
use Rattle.roc_coord.specs.Submit.{after_submit}
use Rattle.roc_node.specs.Judgement.{judged}
use Rattle.roc_node.specs.declared.judging.Judged.{Judged}
use Rattle.roc_node.specs.declared.judging.Judged.TheVariants.{Delivery, Skipped}
use Rattle.roc_node.specs.NodeEvent.{NodeEvent, took, silent, NodeSetting}
use Rattle.roc_node_submit.specs.CoordRun.{CoordNodeState, Submissions, accepts, submitted, submitted_call, submitted_all, none_submitted, submissions_of, coord_submitted, first_coord_node_state, step_of_judged, step_of_event, coord_turn, IsCoordRun, begun, goes_on}
use Rattle.roc_law_nodes.specs.Own.{OwnEvent, delivered, ticked, requested}
use Rattle.roc_law_nodes.specs.Fold.{IsCoordFold, coord_begun, coord_goes_on}
use Rattle.roc_law_nodes.specs.Turns.{judged_brings, turn_brings, is_request, own_request, own_requests, next_requests, coord_owns, AreBrought}
use Rattle.roc_law_nodes.proofs.WorldFolds.{coord_as}
use Rattle.roc_law_nodes.proofs.ServerFolds.{turns_more}

abbrev is_other : OwnEvent → Bool
is_other e = not (is_request e)

-- ---- what is a request

requests_only : (plan : Plan) (requests : List Request) → (filter is_request (own_requests plan requests) ≡ own_requests plan requests) × (filter is_other (own_requests plan requests) ≡ [])
requests_only plan [] = (refl, refl)
requests_only plan (request ∷ requests) = go (procedure_named plan.program request.name) (requests_only plan requests)
  where
    go : (proc : Option ℕ) → (filter is_request (own_requests plan requests) ≡ own_requests plan requests) × (filter is_other (own_requests plan requests) ≡ [])
        → (filter is_request (cons_option (option_map (λ p. requested p request.args) proc) (own_requests plan requests)) ≡ cons_option (option_map (λ p. requested p request.args) proc) (own_requests plan requests)) × (filter is_other (cons_option (option_map (λ p. requested p request.args) proc) (own_requests plan requests)) ≡ [])
    go None rest = rest
    go (Some p) rest = (ap (λ (l : List OwnEvent). requested p request.args ∷ l) rest.0, rest.1)

turn_only : (tag : List ℕ) (event : NodeEvent) → (filter is_other (turn_brings tag event) ≡ turn_brings tag event) × (filter is_request (turn_brings tag event) ≡ [])
turn_only tag (took packet) = go (judged tag packet.bytes)
  where
    go : (j : Judged) → (filter is_other (judged_brings j) ≡ judged_brings j) × (filter is_request (judged_brings j) ≡ [])
    go (Delivery header msg) = (refl, refl)
    go (Skipped skip) = (refl, refl)
turn_only tag silent = (refl, refl)

-- ---- submissions

module _ (S : NodeSetting) (number : ℕ) (before : List Outgoing) where
  -- the core with these submissions
  abbrev Stands : List OwnEvent → Submissions → Type 0
  Stands own s = IsCoordFold S.plan number own s.state (before ++ s.messages)

  call_stands : (own : List OwnEvent) (s : Submissions) (request : Request) → Stands own s → (proc : Option ℕ)
      → Stands (own ++ cons_option (option_map (λ p. requested p request.args) proc) []) (submitted_call S s request.args proc)
  call_stands own s request fold None = coord_as S.plan fold (append-nil own) refl refl
  call_stands own s request fold (Some proc) =
      let sub = after_submit S.plan s.state proc request.args in
      coord_as S.plan (coord_goes_on (requested proc request.args) sub.state sub.sends fold (refl, refl)) refl refl (sym (append_assoc before s.messages sub.sends))

  -- of these requests the first were submitted
  record Made (own : List OwnEvent) (requests : List Request) (after : Submissions) : Type 0 where
    pub taken : List Request
    pub all : requests ≡ taken ++ after.left
    pub stands : Stands (own ++ own_requests S.plan taken) after

  made : (requests : List Request) (own : List OwnEvent) (s : Submissions) → Stands own s → Made own requests (submitted_all S s requests)
  unfolding submitted_all
  made [] own s fold = record { taken = []; all = refl; stands = coord_as S.plan fold (append-nil own) refl refl }
  made (request ∷ rest) own s fold =
      go (accepts S.plan s.state request)
      (made rest (own ++ cons_option (own_request S.plan request) []) (submitted S s request) (call_stands own s request fold (procedure_named S.plan.program request.name)))
    where
      go : (b : Bool) → Made (own ++ cons_option (own_request S.plan request) []) rest (submitted_all S (submitted S s request) rest)
          → Made own (request ∷ rest) (if b then submitted_all S (submitted S s request) rest else record s { left = request ∷ rest })
      go true m =
          record {
            taken = request ∷ m.taken;
            all = ap (λ (l : List Request). request ∷ l) m.all;
            stands = coord_as S.plan m.stands (sym (append_assoc own (cons_option (own_request S.plan request) []) (own_requests S.plan m.taken) ∙ ap (λ l. own ++ l) (one (own_request S.plan request) (own_requests S.plan m.taken)))) refl refl;
          }
        where
          one : (p : Option OwnEvent) (l : List OwnEvent) → cons_option p [] ++ l ≡ cons_option p l
          one None l = refl
          one (Some p) l = refl
      go false m = record { taken = []; all = refl; stands = coord_as S.plan fold (append-nil own) refl refl }

-- ---- turns

module _ (S : NodeSetting) (number : ℕ) where
  judged_folds : (own : List OwnEvent) (c : CoordState) (messages : List Outgoing) → IsCoordFold S.plan number own c messages → (j : Judged)
      → IsCoordFold S.plan number (own ++ judged_brings j) (step_of_judged S.plan c j).state (messages ++ (step_of_judged S.plan c j).sends)
  judged_folds own c messages fold (Delivery header msg) = coord_goes_on (delivered msg) _ _ fold (refl, refl)
  judged_folds own c messages fold (Skipped skip) = coord_as S.plan fold (append-nil own) refl (append-nil messages)

  event_folds : (own : List OwnEvent) (c : CoordState) (messages : List Outgoing) → IsCoordFold S.plan number own c messages → (event : NodeEvent)
      → IsCoordFold S.plan number (own ++ turn_brings S.header.tag event) (step_of_event S c event).state (messages ++ (step_of_event S c event).sends)
  event_folds own c messages fold (took packet) = judged_folds own c messages fold (judged S.header.tag packet.bytes)
  event_folds own c messages fold silent = coord_goes_on ticked _ _ fold (refl, refl)

  -- the same of lists: the submissions before a turn, and what it brings
  two_more : (own : List OwnEvent) (taken : List Request) (event : NodeEvent)
      → (filter is_other ((own ++ own_requests S.plan taken) ++ turn_brings S.header.tag event) ≡ filter is_other own ++ turn_brings S.header.tag event)
      × (filter is_request ((own ++ own_requests S.plan taken) ++ turn_brings S.header.tag event) ≡ filter is_request own ++ own_requests S.plan taken)
  two_more own taken event =
      let tag = S.header.tag in
      let calls = requests_only S.plan taken in
      let brings = turn_only tag event in
      let others : filter is_other (own ++ own_requests S.plan taken) ≡ filter is_other own = filter-append is_other own (own_requests S.plan taken) ∙ (ap (λ (l : List OwnEvent). filter is_other own ++ l) calls.1 ∙ append-nil (filter is_other own)) in
      let asked : filter is_request (own ++ own_requests S.plan taken) ≡ filter is_request own ++ own_requests S.plan taken = filter-append is_request own (own_requests S.plan taken) ∙ ap (λ (l : List OwnEvent). filter is_request own ++ l) calls.0 in (
        filter-append is_other (own ++ own_requests S.plan taken) (turn_brings tag event) ∙ (ap (λ (l : List OwnEvent). l ++ filter is_other (turn_brings tag event)) others ∙ ap (λ (l : List OwnEvent). filter is_other own ++ l) brings.0),
        filter-append is_request (own ++ own_requests S.plan taken) (turn_brings tag event)
            ∙ (ap (λ (l : List OwnEvent). filter is_request (own ++ own_requests S.plan taken) ++ l) brings.1 ∙ (append-nil (filter is_request (own ++ own_requests S.plan taken)) ∙ asked)),
      )

  -- what a run's own events are, one turn later
  unfoldable pub later : CoordNodeState → List NodeEvent → CoordNodeState
  later node [] = node
  later node (event ∷ events) = later (coord_turn S node event) events

  later_more : (node : CoordNodeState) (events : List NodeEvent) (event : NodeEvent) → later node (events ++ event ∷ []) ≡ coord_turn S (later node events) event
  unfolding later
  later_more node [] event = refl
  later_more node (e ∷ es) event = later_more (coord_turn S node e) es event

  new_owns : CoordNodeState → NodeEvent → List OwnEvent
  new_owns node event = own_requests S.plan (next_requests S node) ++ turn_brings S.header.tag event

  owns_more : (node : CoordNodeState) (events : List NodeEvent) (event : NodeEvent) → coord_owns S node (events ++ event ∷ []) ≡ coord_owns S node events ++ new_owns (later node events) event
  unfolding new_owns later
  owns_more node [] event = ap (λ l. own_requests S.plan (next_requests S node) ++ l) (append-nil (turn_brings S.header.tag event))
  owns_more node (e ∷ es) event =
      let calls = own_requests S.plan (next_requests S node) in
      let brings = turn_brings S.header.tag e in
      let behind = coord_owns S (coord_turn S node e) es in
      let new = new_owns (later (coord_turn S node e) es) event in
      ap (λ l. calls ++ (brings ++ l)) (owns_more (coord_turn S node e) es event)
      ∙ (ap (λ l. calls ++ l) (sym (append_assoc brings behind new)) ∙ sym (append_assoc calls (brings ++ behind) new))

  -- the requests taken before a turn are those that are left no more
  pub taken_are : (left taken rest : List Request) → left ≡ taken ++ rest → take (length left - length rest) left ≡ taken
  taken_are left taken rest e =
      let count : length left - length rest ≡ length taken = rw e (let n = length-append taken rest in omega arith) in
      ap (λ n. take n left) count ∙ (ap (λ l. take (length taken) l) e ∙ take-append_seam taken rest)

  -- a node of a run, with its own events
  record Ran (requests : List Request) (events : List NodeEvent) (node : CoordNodeState) : Type 0 where
    pub own : List OwnEvent
    pub fold : IsCoordFold S.plan number own node.state node.messages
    pub brought : AreBrought S requests node.left events own
    pub is : own ≡ coord_owns S (first_coord_node_state number requests) events
    pub reached : later (first_coord_node_state number requests) events ≡ node

  ran : {requests : List Request} {events : List NodeEvent} {node : CoordNodeState} → IsCoordRun S number requests events node → Ran requests events node
  unfolding new_owns later
  ran begun = record { own = []; fold = coord_begun; brought = record { turns = refl; taken = []; all = refl; submissions = refl }; is = refl; reached = refl }
  ran {requests} (goes_on {events = events} {node = node} event r going) = go (ran r)
    where
      go : Ran requests events node → Ran requests (events ++ event ∷ []) (coord_turn S node event)
      go f =
          let own = f.own in
          let first = first_coord_node_state number requests in
          let m = made S number node.messages node.left own (none_submitted node.state) (coord_as S.plan f.fold refl refl (append-nil node.messages)) in
          let lists = two_more own m.taken event in
          let calls : next_requests S node ≡ m.taken = taken_are node.left m.taken (submissions_of S node).left m.all in
          let brings = turn_brings S.header.tag event in
          record {
            own = (own ++ own_requests S.plan m.taken) ++ brings;
            fold = event_folds (own ++ own_requests S.plan m.taken) (coord_submitted S node).state (coord_submitted S node).messages m.stands event;
            brought = record {
              turns = lists.0 ∙ (ap (λ (l : List OwnEvent). l ++ brings) f.brought.turns ∙ sym (turns_more S.header.tag events event));
              taken = f.brought.taken ++ m.taken;
              all = f.brought.all ∙ (ap (λ (l : List Request). f.brought.taken ++ l) m.all ∙ sym (append_assoc f.brought.taken m.taken (submissions_of S node).left));
              submissions = lists.1 ∙ (ap (λ (l : List OwnEvent). l ++ own_requests S.plan m.taken) f.brought.submissions ∙ sym (filter_map-append (own_request S.plan) f.brought.taken m.taken));
            };
            is =
                append_assoc own (own_requests S.plan m.taken) brings
                ∙ (ap (λ (l : List OwnEvent). l ++ (own_requests S.plan m.taken ++ brings)) f.is
                ∙ (ap (λ (l : List Request). coord_owns S first events ++ (own_requests S.plan l ++ brings)) (sym calls)
                ∙ (ap (λ (n : CoordNodeState). coord_owns S first events ++ new_owns n event) (sym f.reached)
                ∙ sym (owns_more first events event))));
            reached = later_more first events event ∙ ap (λ (n : CoordNodeState). coord_turn S n event) f.reached;
          }

  -- the own events with one turn more
  pub owns_with_turn : {requests : List Request} {events : List NodeEvent} {node : CoordNodeState} → IsCoordRun S number requests events node → (event : NodeEvent)
      → coord_owns S (first_coord_node_state number requests) (events ++ event ∷ [])
      ≡ (coord_owns S (first_coord_node_state number requests) events ++ own_requests S.plan (next_requests S node)) ++ turn_brings S.header.tag event
  unfolding new_owns
  owns_with_turn {requests} {events} {node} r event =
      let first = first_coord_node_state number requests in
      let before = coord_owns S first events in
      owns_more first events event
      ∙ (ap (λ (n : CoordNodeState). before ++ new_owns n event) (ran r).reached ∙ sym (append_assoc before (own_requests S.plan (next_requests S node)) (turn_brings S.header.tag event)))

  pub coord_run_folds : {requests : List Request} {events : List NodeEvent} {node : CoordNodeState} → IsCoordRun S number requests events node
      → IsCoordFold S.plan number (coord_owns S (first_coord_node_state number requests) events) node.state node.messages
  coord_run_folds r = let f = ran r in coord_as S.plan f.fold (sym f.is) refl refl

  pub coord_run_brings : {requests : List Request} {events : List NodeEvent} {node : CoordNodeState} → IsCoordRun S number requests events node
      → AreBrought S requests node.left events (coord_owns S (first_coord_node_state number requests) events)
  coord_run_brings {requests} {events} {node} r = let f = ran r in subst (λ (l : List OwnEvent). AreBrought S requests node.left events l) f.is f.brought

  pub run_reaches : {requests : List Request} {events : List NodeEvent} {node : CoordNodeState} → IsCoordRun S number requests events node → later (first_coord_node_state number requests) events ≡ node
  run_reaches r = (ran r).reached
