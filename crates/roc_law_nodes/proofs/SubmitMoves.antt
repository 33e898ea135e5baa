-- The submissions before a coordinator's receive are so many events of the world
use Rattle.std.proofs.Common.{◌≡◌, ℕ, ℤ, zero, suc, Bool, true, false, List, [], ◌∷◌, ◌++◌, Option, Some, None, Result, Ok, Err, map, refl, sym, ap, subst, ◌∙◌, append-nil, append_assoc}
use Rattle.std.proofs.lemmas.Bool.{false≢true}
use Rattle.std.proofs.lemmas.Grind.{flat_map-append}
use Rattle.std.proofs.lemmas.List.{map-append}
use Rattle.std.proofs.lemmas.List.Elements.{filter_map-append}
use Rattle.std.specs.Prelude.{slice_get, slice_set, option_map, if◌then◌else◌}
use Rattle.std.specs.List.{cons_option}
use Rattle.std.specs.Result.{is_ok}
use Rattle.roc_base.specs.declared.id.TxnId.{TxnId}
use Rattle.roc_base.specs.declared.node.Node.{Node}
use Rattle.roc_base.specs.declared.node.Node.TheVariants.{Coord}
use Rattle.roc_base.specs.Node.{is_node}
use Rattle.roc_msg.specs.declared.msg.Envelope.{Envelope}
use Rattle.roc_program.specs.LookUps.{procedure_named}
use Rattle.roc_replay.specs.Readback.{entries_in, history_in}
use Rattle.roc_sched.specs.declared.line.Request.{Request}
use Rattle.roc_step.specs.State.{ServerState, Viewing}
use Rattle.roc_coord.specs.declared.handled.SubmitFault.{SubmitFault}
use Rattle.roc_coord.specs.State.{CoordState}
use Rattle.roc_coord.specs.Submit.{after_submit}
use Rattle.roc_audit.specs.declared.entry.Entry.{Entry}
use Rattle.roc_audit.specs.declared.entry.Entry.TheVariants.{Submitted}
use Rattle.roc_law_protocol.specs.World.{sent_by}
use Rattle.roc_law_protocol.proofs.Changed.{get-set_here}
use Rattle.roc_node.specs.NodeEvent.{NodeSetting}
use Rattle.roc_node_submit.specs.CoordRun.{CoordNodeState, Submissions, submit_lines, submitted_call, submitted, accepts_call, accepts, submitted_all, none_submitted, submissions_of, coord_submitted}
use Rattle.roc_law_nodes.specs.Own.{OwnEvent, requested}
use Rattle.roc_law_nodes.specs.Turns.{own_request, own_requests, next_requests}
use Rattle.roc_law_nodes.specs.Interleaved.{AllSettings, setting_at, between, within, AllNodes, coord_moved}
use Rattle.roc_law_nodes.proofs.CoordFolds.{taken_are}
use Rattle.roc_law_nodes.proofs.NodeMoves.{line_in, none_own, Mirrors, core_there, coord_as}
use Rattle.roc_law_nodes.proofs.WorldMoves.{with_own, WorldStands, stands_as, coord_requests}
use Rattle.roc_law_protocol.proofs.Stops.{set_there}

-- ---- lists

pub set_again : {A : Type 0} (xs : List A) (i : ℕ) (a b : A) → slice_set (slice_set xs i a) i b ≡ slice_set xs i b
set_again [] i a b = refl
set_again (x ∷ xs) zero a b = refl
set_again (x ∷ xs) (suc i) a b = ap (λ l. x ∷ l) (set_again xs i a b)

-- own events of one node, in two parts
own_twice : (owned : Node → List OwnEvent) (at node : Node) (xs ys : List OwnEvent) → with_own (with_own owned at xs) at ys node ≡ with_own owned at (xs ++ ys) node
own_twice owned at node xs ys = go (is_node at node)
  where
    go : (b : Bool) → (owned node ++ (if b then xs else [])) ++ (if b then ys else []) ≡ owned node ++ (if b then xs ++ ys else [])
    go true = append_assoc (owned node) xs ys
    go false = append-nil (owned node ++ [])

has_id : (a : Result TxnId SubmitFault) → is_ok a ≡ true → (id : TxnId) × (a ≡ Ok id)
has_id (Ok id) e = (id, refl)
has_id (Err fault) e = absurd (false≢true e)

module _ (S : NodeSetting) (coords number : ℕ) (servers : List ServerState) (viewing : List Viewing) (cores : List CoordState) (sent : List Envelope) (history : List Entry)
    (owned : Node → List OwnEvent)
    (c : CoordState) (there : slice_get cores number ≡ Some c) where
  -- these own events led to what comes of submissions
  abbrev Stands : List OwnEvent → Submissions → Type 0
  Stands own s =
      WorldStands S.plan coords servers viewing (slice_set cores number s.state) (sent ++ map (sent_by (Coord number)) s.messages) (history ++ history_in s.lines)
      (with_own owned (Coord number) own)

  call_stands : (own : List OwnEvent) (s : Submissions) (args : List ℤ) → Stands own s → (proc : Option ℕ) → accepts_call S.plan s.state args proc ≡ true
      → Stands (own ++ cons_option (option_map (λ p. requested p args) proc) []) (submitted_call S s args proc)
  call_stands own s args st None e = absurd (false≢true e)
  call_stands own s args st (Some proc) e =
      let sub = after_submit S.plan s.state proc args in
      let ok = has_id sub.answer e in
      let gains : List Entry = Submitted ok.0 proc args ∷ [] in
      let shown : history_in (submit_lines proc args sub.answer) ≡ gains = ap (λ (a : Result TxnId SubmitFault). history_in (submit_lines proc args a)) ok.1 in
      let lines : history_in (s.lines ++ submit_lines proc args sub.answer) ≡ history_in s.lines ++ gains =
      flat_map-append entries_in s.lines (submit_lines proc args sub.answer) ∙ ap (λ (l : List Entry). history_in s.lines ++ l) shown in
      stands_as S.plan coords (coord_requests S.plan coords st number s.state (get-set_here cores number c s.state there) proc args ok.0 ok.1) refl refl
      (set_again cores number s.state sub.state)
      (append_assoc sent (map (sent_by (Coord number)) s.messages) (map (sent_by (Coord number)) sub.sends) ∙ ap (λ l. sent ++ l) (sym (map-append (sent_by (Coord number)) s.messages sub.sends)))
      (append_assoc history (history_in s.lines) gains ∙ ap (λ (l : List Entry). history ++ l) (sym lines))
      (λ node. own_twice owned (Coord number) node own (requested proc args ∷ []))

  -- of these requests the first were submitted
  record Made (own : List OwnEvent) (requests : List Request) (after : Submissions) : Type 0 where
    pub taken : List Request
    pub all : requests ≡ taken ++ after.left
    pub stands : Stands (own ++ own_requests S.plan taken) after

  none_more : (own : List OwnEvent) (s : Submissions) → Stands own s → Stands (own ++ []) s
  none_more own s st = subst (λ (l : List OwnEvent). Stands l s) (sym (append-nil own)) st

  made : (requests : List Request) (own : List OwnEvent) (s : Submissions) → Stands own s → Made own requests (submitted_all S s requests)
  unfolding submitted_all
  made [] own s st = record { taken = []; all = refl; stands = none_more own s st }
  made (request ∷ rest) own s st =
      go (accepts S.plan s.state request) refl (made rest (own ++ cons_option (own_request S.plan request) []) (submitted S s request))
    where
      go : (b : Bool) → accepts S.plan s.state request ≡ b
          → (Stands (own ++ cons_option (own_request S.plan request) []) (submitted S s request)
          → Made (own ++ cons_option (own_request S.plan request) []) rest (submitted_all S (submitted S s request) rest))
          → Made own (request ∷ rest) (if b then submitted_all S (submitted S s request) rest else record s { left = request ∷ rest })
      go true e more =
          let m = more (call_stands own s request.args st (procedure_named S.plan.program request.name) e) in
          let after = submitted_all S (submitted S s request) rest in
          record {
            taken = request ∷ m.taken;
            all = ap (λ (l : List Request). request ∷ l) m.all;
            stands = subst (λ (l : List OwnEvent). Stands l after)
                (append_assoc own (cons_option (own_request S.plan request) []) (own_requests S.plan m.taken)
                ∙ ap (λ (l : List OwnEvent). own ++ l) (sym (filter_map-append (own_request S.plan) (request ∷ []) m.taken)))
                m.stands;
          }
      go false e more = record { taken = []; all = refl; stands = none_more own s st }

module _ (N : AllSettings) (all : AllNodes) (owned : Node → List OwnEvent) (r : Mirrors N all owned) (number : ℕ) (node : CoordNodeState)
    (at : slice_get all.coords number ≡ Some (between node)) where
  pub submissions_made : Mirrors N (coord_moved all number (between node) (within node (coord_submitted (setting_at N (Coord number)) node)))
      (with_own owned (Coord number) (own_requests N.plan (next_requests (setting_at N (Coord number)) node)))
  submissions_made =
      let S = setting_at N (Coord number) in
      let begins = stands_as N.plan N.coords r refl refl
      (sym (set_there _ number node.state (core_there N all owned r number (between node) at))) (sym (append-nil all.sent)) (sym (append-nil (history_in (map line_in all.told))))
      (none_own owned (Coord number)) in
      let m = made S N.coords number _ _ _ all.sent (history_in (map line_in all.told)) owned node.state (core_there N all owned r number (between node) at) node.left []
      (none_submitted node.state) begins in
      let calls : next_requests S node ≡ m.taken = taken_are S number node.left m.taken (submissions_of S node).left m.all in
      let s = submissions_of S node in
      coord_as N all owned r number (between node) at (within node (coord_submitted S node)) (own_requests N.plan (next_requests S node)) s.state s.messages s.lines
      (history_in s.lines) refl refl refl refl
      (stands_as N.plan N.coords m.stands refl refl refl refl refl (λ n. ap (λ (l : List Request). with_own owned (Coord number) (own_requests N.plan l) n) (sym calls)))
