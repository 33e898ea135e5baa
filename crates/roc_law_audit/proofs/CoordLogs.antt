-- A coordinator's log folds to the coordinator of the world, and tells a part of the history
use Rattle.std.proofs.Common.{◌≡◌, ◌≢◌, ℕ, ℤ, ◌+◌, ◌==◌, Bool, true, false, List, [], ◌∷◌, ◌++◌, Some, Ok, refl, sym, ap, subst, ◌∙◌, inl, inr, append-nil, arith}
use Rattle.std.proofs.lemmas.Bool.{eqb-true, eq-eqb, false≢true}
use Rattle.std.specs.Prelude.{slice_get, slice_set}
use Rattle.roc_sequence.specs.Lists.{Has}
use Rattle.roc_sequence.proofs.Members.{same_there, has_left, has_right, has_append}
use Rattle.roc_base.specs.declared.id.TxnId.{TxnId}
use Rattle.roc_base.specs.declared.node.Node.{Node}
use Rattle.roc_base.specs.declared.node.Node.TheVariants.{Server, Coord}
use Rattle.roc_msg.specs.declared.msg.Msg.{Msg}
use Rattle.roc_plan.specs.Groups.{Plan}
use Rattle.roc_wire.specs.declared.header.Header.{Header}
use Rattle.roc_wire.specs.Laws.{Spells}
use Rattle.roc_wire.specs.Reading.{datagram, pair}
use Rattle.roc_coord.specs.State.{first_coord, CoordState}
use Rattle.roc_audit.specs.declared.entry.Entry.{Entry}
use Rattle.roc_audit.specs.declared.entry.Entry.TheVariants.{Submitted, Answered}
use Rattle.roc_audit.specs.History.{WasSubmitted, WasAnswered, IsAnsweredBefore}
use Rattle.roc_audit.proofs.Histories.{before_cases}
use Rattle.roc_law_protocol.proofs.Changed.{get-set_here, get-set_other}
use Rattle.roc_law_protocol.proofs.Firsts.{found_at}
use Rattle.roc_law_world.specs.World.{World, first_world}
use Rattle.roc_law_world.specs.Run.{Stepped, IsRun, at_beginning, steps_on}
use Rattle.roc_log.specs.declared.line.LogLine.{LogLine}
use Rattle.roc_fold.specs.Told.{told_from, submissions}
use Rattle.roc_fold.specs.Fold.{coordinating, first_core, FoldsTo, begins}
use Rattle.roc_fold.proofs.Counted.{counted}
use Rattle.roc_fold.proofs.ToldLines.{told_append}
use Rattle.roc_law_audit.specs.LogsOfRuns.{node_of_event, is_step_of, LogsOwn, LogsWhere, LogsStep, AreStops, AreAllLogged}
use Rattle.roc_law_audit.proofs.Effects.{CoordTurn, CoordLogs, Effect, nobody, a_server, a_coord, effect}
use Rattle.roc_law_audit.proofs.Events.{event_folds}
use Rattle.roc_law_audit.proofs.Stopped.{stood, stops_fold, stops_tell}
use Rattle.roc_law_audit.proofs.Fronts.{run_behind, logged_parts, own_lines}

-- ---- a part of a history

-- all that is told is in the history, in its order
pub record IsToldIn (told history : List Entry) : Type 0 where
  pub has : (e : Entry) → Has e told → Has e history
  pub in_time : (t u : TxnId) → IsAnsweredBefore told t u → IsAnsweredBefore history t u

submitted_there : (told history : List Entry) → ((e : Entry) → Has e told → Has e history) → (u : TxnId) → WasSubmitted told u → WasSubmitted history u
submitted_there told history has u s = (s.0, s.1, has (Submitted u s.0 s.1) s.2)

before_left : (xs ys : List Entry) (t u : TxnId) → IsAnsweredBefore xs t u → IsAnsweredBefore (xs ++ ys) t u
before_left [] ys t u h = elim h [ ]
before_left (x ∷ xs) ys t u (inl (reply, e, s)) = inl (reply, e, submitted_there xs (xs ++ ys) (λ e h. has_left e xs ys h) u s)
before_left (x ∷ xs) ys t u (inr h) = inr (before_left xs ys t u h)

before_right : (xs ys : List Entry) (t u : TxnId) → IsAnsweredBefore ys t u → IsAnsweredBefore (xs ++ ys) t u
before_right [] ys t u h = h
before_right (x ∷ xs) ys t u h = inr (before_right xs ys t u h)

before_across : (xs ys : List Entry) (t u : TxnId) (reply : List ℤ) → WasAnswered xs t reply → WasSubmitted ys u → IsAnsweredBefore (xs ++ ys) t u
before_across [] ys t u reply a s = elim a [ ]
before_across (x ∷ xs) ys t u reply (inl e) s = inl (reply, sym e, submitted_there ys (xs ++ ys) (λ e h. has_right e xs ys h) u s)
before_across (x ∷ xs) ys t u reply (inr a) s = inr (before_across xs ys t u reply a s)

pub told_both : (told history more : List Entry) → IsToldIn told history → IsToldIn (told ++ more) (history ++ more)
told_both told history more is =
    record {
      has = λ e h. elim (has_append e told more h) [ inl k ↦ has_left e history more (is.has e k) | inr k ↦ has_right e history more k ];
      in_time = λ t u h. elim (before_cases told more t u h) [
        | inl k ↦ before_left history more t u (is.in_time t u k)
        | inr k ↦ elim k [
          | inl j ↦ before_across history more t u j.0 (is.has (Answered t j.0) j.1) j.2
          | inr j ↦ before_right history more t u j
        ]
      ];
    }

pub told_still : (told history more : List Entry) → IsToldIn told history → IsToldIn told (history ++ more)
told_still told history more is = record { has = λ e h. has_left e history more (is.has e h); in_time = λ t u h. before_left history more t u (is.in_time t u h) }

pub told_as : (told others history histories : List Entry) → others ≡ told → histories ≡ history → IsToldIn told history → IsToldIn others histories
told_as told others history histories e f is = subst (λ (h : List Entry). IsToldIn others h) (sym f) (subst (λ (l : List Entry). IsToldIn l history) (sym e) is)

module _ (reads : (bytes : List ℕ) (header : Header) (msg : Msg) → Spells bytes header msg → datagram bytes ≡ Ok (pair header msg)) (plan : Plan) (coords : ℕ) (tag : List ℕ) (number : ℕ) where
  abbrev at : Node
  at = Coord number

  abbrev header : Header
  header = record { tag = tag; from = Coord number }

  abbrev begun : World
  begun = first_world plan coords

  pub record CoordStands (w : World) (lines : List LogLine) (c : CoordState) : Type 0 where
    pub folds : FoldsTo plan header (first_core plan at) lines (stood (coordinating c) [] [])
    pub told : IsToldIn (told_from number 0 lines) w.history

  -- it has the log's number, and has accepted as many submissions as the log has
  pub same_count : (w : World) (lines : List LogLine) (c : CoordState) → CoordStands w lines c → (c.number ≡ number) × (c.next ≡ 0 + submissions lines)
  same_count w lines c st = let k = (counted plan header number lines _ st.folds).core in let n = k.1 in (k.0, omega (arith, n))

  coord_as : {lines others : List LogLine} {c d : CoordState} → FoldsTo plan header (first_core plan at) lines (stood (coordinating c) [] []) → others ≡ lines → d ≡ c
      → FoldsTo plan header (first_core plan at) others (stood (coordinating d) [] [])
  coord_as {lines} {others} {c} {d} f l st =
      subst (λ (x : List LogLine). FoldsTo plan header (first_core plan at) x (stood (coordinating d) [] [])) (sym l)
      (subst (λ (x : CoordState). FoldsTo plan header (first_core plan at) lines (stood (coordinating x) [] [])) (sym st) f)

  with_stops : (w : World) (lines others stops : List LogLine) (c : CoordState) → CoordStands w lines c → AreStops header stops → others ≡ lines ++ stops → CoordStands w others c
  with_stops w lines others stops c st idle parts =
      let tells : told_from number 0 others ≡ told_from number 0 lines = ap (told_from number 0) parts
      ∙ (told_append number 0 lines stops
      ∙ (ap (λ (l : List Entry). told_from number 0 lines ++ l) (stops_tell header number (0 + submissions lines) stops idle) ∙ append-nil (told_from number 0 lines))) in
      record {
        folds = coord_as (stops_fold reads plan header (first_core plan at) (coordinating c) [] [] lines stops st.folds idle) parts refl;
        told = told_as _ _ _ _ tells refl st.told;
      }

  module _ (w : World) (x : Stepped) (front more lines : List LogLine) (parts : lines ≡ front ++ more)
      (was : (d : CoordState) → slice_get w.coords number ≡ Some d → CoordStands w front d) (c : CoordState) (after : slice_get x.outcome.world.coords number ≡ Some c) where
    abbrev Is : Type 0
    Is = CoordStands x.outcome.world lines c

    rests : slice_get x.outcome.world.coords number ≡ slice_get w.coords number → (told : List Entry) → x.outcome.world.history ≡ w.history ++ told → more ≡ [] → Is
    rests coords told history none =
        let d = was c (sym coords ∙ after) in
        let same : lines ≡ front = parts ∙ (ap (λ (l : List LogLine). front ++ l) none ∙ append-nil front) in
        record {
          folds = coord_as d.folds same refl;
          told = told_as _ _ _ _ (ap (told_from number 0) same) history (told_still _ _ told d.told);
        }

    moves : (other : ℕ) (d next : CoordState) (told : List Entry) → slice_get w.coords other ≡ Some d → CoordTurn w x.outcome other next told
        → ((header : Header) (more : List LogLine) → LogsOwn header w x.event x.outcome more → CoordLogs plan header d next told more)
        → (b : Bool) → (other == number) ≡ b → LogsWhere b header w x.event x.outcome more → Is
    moves other d next told there turn logs true e l =
        let here : other ≡ number = eqb-true other number e in
        let there_here : slice_get w.coords number ≡ Some d = subst (λ (n : ℕ). slice_get w.coords n ≡ Some d) here there in
        let put : slice_get x.outcome.world.coords number ≡ Some next =
        ap (λ l. slice_get l number) turn.coords ∙ (ap (λ (n : ℕ). slice_get (slice_set w.coords n next) number) here ∙ get-set_here w.coords number d next there_here) in
        let f = was d there_here in
        let g = logs header more l in
        let is : c ≡ next = same_there x.outcome.world.coords number c next after put in
        let later = event_folds plan header (first_core plan at) (coordinating d) [] [] front more (record { core = coordinating next; due = g.due; decided = []; ran = [] }) f.folds g.whole in
        let count = same_count w front d f in
        let tells : told_from number 0 lines ≡ told_from number 0 front ++ told =
        ap (told_from number 0) parts ∙ (told_append number 0 front more
        ∙ ap (λ (l : List Entry). told_from number 0 front ++ l) ((λ i. told_from (sym count.0 i) (sym count.1 i) more) ∙ g.tells)) in
        record {
          folds = coord_as later parts is;
          told = told_as _ _ _ _ tells turn.history (told_both _ _ told f.told);
        }
    moves other d next told there turn logs false e l =
        let apart : other ≢ number = λ same. false≢true (sym e ∙ eq-eqb other number same) in
        rests (ap (λ l. slice_get l number) turn.coords ∙ get-set_other w.coords other number next apart) told turn.history l

    coord_after : LogsStep header w x more → Effect plan w x.event x.outcome → Is
    coord_after l (nobody same decided ran none) =
        rests (ap (λ (u : World). slice_get u.coords number) same) [] (ap (λ (u : World). u.history) same ∙ sym (append-nil w.history)) (go (is_step_of at (node_of_event w.sent x.event)) l)
      where
        go : (b : Bool) → LogsWhere b header w x.event x.outcome more → more ≡ []
        go true h = none header more h
        go false h = h
    coord_after l (a_server other t v r q is there keeps turn whole) =
        rests (ap (λ l. slice_get l number) turn.coords) [] (turn.history ∙ sym (append-nil w.history)) (own_lines header w x more (Server other) is l)
    coord_after l (a_coord other d next told is there turn logs) = moves other d next told there turn logs (other == number) refl (own_lines header w x more (Coord other) is l)

  pub coord_stands : {steps : List Stepped} {w : World} → IsRun plan coords steps w → (lines : List LogLine) → AreAllLogged header begun steps lines → (c : CoordState)
      → slice_get w.coords number ≡ Some c → CoordStands w lines c
  coord_stands at_beginning lines idle c there =
      let is : c ≡ first_coord number = found_at first_coord 0 coords number c there ∙ ap first_coord (omega arith) in
      let none : CoordStands begun [] c = record { folds = coord_as begins refl is; told = record { has = λ e h. h; in_time = λ t u h. h } } in
      with_stops begun [] lines lines c none idle refl
  coord_stands (steps_on {steps = steps} {w = w} e o r h) lines logged c after =
      let x : Stepped = record { event = e; outcome = o } in
      let p = logged_parts header begun steps x lines logged in
      let last = coord_after w x p.front p.more (p.front ++ p.more) refl (coord_stands r p.front p.logged) c after (subst (λ (u : World). LogsStep header u x p.more) (run_behind r) p.last)
      (effect reads plan w e o h) in
      with_stops o.world (p.front ++ p.more) lines p.stops c last p.idle p.parts
