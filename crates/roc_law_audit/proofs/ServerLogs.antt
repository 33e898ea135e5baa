-- A server's log folds to the server of the world
use Rattle.std.proofs.Common.{◌≡◌, ◌≢◌, ℕ, zero, suc, ◌+◌, ◌==◌, Bool, true, false, List, [], ◌∷◌, ◌++◌, Some, Ok, map, refl, sym, ap, subst, ◌∙◌, append-nil, arith}
use Rattle.std.proofs.lemmas.Bool.{eqb-true, eq-eqb, false≢true}
use Rattle.std.proofs.lemmas.Grind.{flat_map-append}
use Rattle.std.specs.Prelude.{slice_get, slice_set, if◌then◌else◌}
use Rattle.std.specs.List.{range_with_len}
use Rattle.roc_sequence.proofs.Members.{same_there}
use Rattle.roc_base.specs.declared.id.TxnId.{TxnId}
use Rattle.roc_base.specs.declared.node.Shard.{Shard}
use Rattle.roc_base.specs.declared.node.Node.{Node}
use Rattle.roc_base.specs.declared.node.Node.TheVariants.{Server, Coord}
use Rattle.roc_group.specs.declared.access.Access.{Access}
use Rattle.roc_msg.specs.declared.msg.Msg.{Msg}
use Rattle.roc_msg.specs.declared.outbox.Ran.{Ran}
use Rattle.roc_plan.specs.Groups.{Plan}
use Rattle.roc_wire.specs.declared.header.Header.{Header}
use Rattle.roc_wire.specs.Laws.{Spells}
use Rattle.roc_wire.specs.Reading.{datagram, pair}
use Rattle.roc_step.specs.First.{first_server}
use Rattle.roc_step.specs.Reads.{first_viewing, ReadStep}
use Rattle.roc_step.specs.Runs.{accesses_of}
use Rattle.roc_step.specs.State.{ServerState, ServerStep, Viewing}
use Rattle.roc_step.specs.declared.started.StartedGroup.{StartedGroup}
use Rattle.roc_law_protocol.proofs.Changed.{get-set_here, get-set_other}
use Rattle.roc_law_protocol.proofs.Firsts.{found_at}
use Rattle.roc_law_protocol.specs.Happens.{RanAt, ran_at}
use Rattle.roc_law_world.specs.World.{World, first_world}
use Rattle.roc_law_world.specs.Run.{Stepped, IsRun, at_beginning, steps_on}
use Rattle.roc_log.specs.declared.line.LogLine.{LogLine}
use Rattle.roc_fold.specs.Fold.{serving, first_core, FoldsTo, begins}
use Rattle.roc_law_audit.specs.InTheWorld.{ran_on, all_ran}
use Rattle.roc_law_audit.specs.LogsOfRuns.{node_of_event, is_step_of, LogsOwn, LogsWhere, LogsStep, AreStops, AreAllLogged}
use Rattle.roc_law_audit.proofs.Effects.{IsWhole, given_by, ServerTurn, Effect, nobody, a_server, a_coord, effect}
use Rattle.roc_law_audit.proofs.Events.{event_folds}
use Rattle.roc_law_audit.proofs.Stopped.{stood, stops_fold}
use Rattle.roc_law_audit.proofs.Fronts.{behind, run_behind, logged_parts, own_lines, taken_where, taken_in, taken_from, taken_more, own_taken, none_taken, ran_more}

-- ---- what ran on a shard

pub on_append : (n : ℕ) (xs ys : List RanAt) → ran_on n (xs ++ ys) ≡ ran_on n xs ++ ran_on n ys
on_append n [] ys = refl
on_append n (x ∷ xs) ys = go (x.shard == n) (on_append n xs ys)
  where
    go : (b : Bool) → ran_on n (xs ++ ys) ≡ ran_on n xs ++ ran_on n ys
        → (if b then x.group ∷ ran_on n (xs ++ ys) else ran_on n (xs ++ ys)) ≡ (if b then x.group ∷ ran_on n xs else ran_on n xs) ++ ran_on n ys
    go true e = ap (λ (l : List StartedGroup). x.group ∷ l) e
    go false e = e

on_here : (m n : ℕ) → (m == n) ≡ true → (gs : List StartedGroup) → ran_on n (map (ran_at m) gs) ≡ gs
on_here m n e [] = refl
on_here m n e (g ∷ gs) = ap (λ (b : Bool). if b then g ∷ ran_on n (map (ran_at m) gs) else ran_on n (map (ran_at m) gs)) e ∙ ap (λ (l : List StartedGroup). g ∷ l) (on_here m n e gs)

on_elsewhere : (m n : ℕ) → (m == n) ≡ false → (gs : List StartedGroup) → ran_on n (map (ran_at m) gs) ≡ []
on_elsewhere m n e [] = refl
on_elsewhere m n e (g ∷ gs) = ap (λ (b : Bool). if b then g ∷ ran_on n (map (ran_at m) gs) else ran_on n (map (ran_at m) gs)) e ∙ on_elsewhere m n e gs

accesses_append : (xs ys : List StartedGroup) → accesses_of (xs ++ ys) ≡ accesses_of xs ++ accesses_of ys
accesses_append xs ys = flat_map-append (λ (e : StartedGroup). map (λ (a : Access). record { id = e.id; cell = a.cell; writes = a.writes }) e.cells) xs ys

-- where one list of numbered things has something, so has another of as many
pub found_too : {A B : Type 0} (f : ℕ → A) (g : ℕ → B) (a n number : ℕ) (x : A) → slice_get (map f (range_with_len a n)) number ≡ Some x
    → slice_get (map g (range_with_len a n)) number ≡ Some (g (a + number))
found_too f g a zero number x e = absurd (cc)
found_too f g a (suc n) zero x e = let same : a ≡ a + 0 = omega arith in ap (λ k. Some (g k)) same
found_too f g a (suc n) (suc number) x e = let same : (a + 1) + number ≡ a + suc number = omega arith in found_too f g (a + 1) n number x e ∙ ap (λ k. Some (g k)) same

module _ (reads : (bytes : List ℕ) (header : Header) (msg : Msg) → Spells bytes header msg → datagram bytes ≡ Ok (pair header msg)) (plan : Plan) (coords : ℕ) (tag : List ℕ) (shard : Shard) where
  abbrev at : Node
  at = Server shard

  abbrev header : Header
  header = record { tag = tag; from = Server shard }

  abbrev begun : World
  begun = first_world plan coords

  pub record ServerStands (w : World) (steps : List Stepped) (lines : List LogLine) (s : ServerState) : Type 0 where
    pub viewing : Viewing
    pub keeps : slice_get w.viewing shard.0 ≡ Some viewing
    pub folds : FoldsTo plan header (first_core plan at) lines (stood (serving s viewing) (taken_from at begun steps) (accesses_of (ran_on shard.0 (all_ran steps))))

  stands_as : {lines others : List LogLine} {s t : ServerState} {v u : Viewing} {taken ids : List TxnId} {ran more : List Ran}
      → FoldsTo plan header (first_core plan at) lines (stood (serving s v) taken ran) → others ≡ lines → t ≡ s → u ≡ v → ids ≡ taken → more ≡ ran
      → FoldsTo plan header (first_core plan at) others (stood (serving t u) ids more)
  stands_as {lines} {others} {s} {t} {v} {u} {taken} {ids} {ran} {more} f l st vi d r =
      subst (λ (x : List LogLine). FoldsTo plan header (first_core plan at) x (stood (serving t u) ids more)) (sym l)
      (subst (λ (x : ServerState). FoldsTo plan header (first_core plan at) lines (stood (serving x u) ids more)) (sym st)
      (subst (λ (x : Viewing). FoldsTo plan header (first_core plan at) lines (stood (serving s x) ids more)) (sym vi)
      (subst (λ (x : List TxnId). FoldsTo plan header (first_core plan at) lines (stood (serving s v) x more)) (sym d)
      (subst (λ (x : List Ran). FoldsTo plan header (first_core plan at) lines (stood (serving s v) taken x)) (sym r) f))))

  with_stops : (w : World) (steps : List Stepped) (lines others stops : List LogLine) (s : ServerState) → ServerStands w steps lines s → AreStops header stops → others ≡ lines ++ stops
      → ServerStands w steps others s
  with_stops w steps lines others stops s st idle parts =
      record {
        viewing = st.viewing;
        keeps = st.keeps;
        folds = stands_as
            (stops_fold reads plan header (first_core plan at) (serving s st.viewing) (taken_from at begun steps) (accesses_of (ran_on shard.0 (all_ran steps))) lines stops st.folds idle)
            parts refl refl refl refl;
      }

  module _ (w : World) (steps : List Stepped) (x : Stepped) (same : behind begun steps ≡ w) (front more lines : List LogLine) (parts : lines ≡ front ++ more)
      (was : (t : ServerState) → slice_get w.servers shard.0 ≡ Some t → ServerStands w steps front t) (s : ServerState) (after : slice_get x.outcome.world.servers shard.0 ≡ Some s) where
    abbrev Is : Type 0
    Is = ServerStands x.outcome.world (steps ++ x ∷ []) lines s

    taken_later : taken_from at begun (steps ++ x ∷ []) ≡ taken_from at begun steps ++ taken_in at w x
    taken_later = taken_more at begun steps x ∙ ap (λ (w : World). taken_from at begun steps ++ taken_in at w x) same

    ran_later : accesses_of (ran_on shard.0 (all_ran (steps ++ x ∷ []))) ≡ accesses_of (ran_on shard.0 (all_ran steps)) ++ accesses_of (ran_on shard.0 x.outcome.ran)
    ran_later =
        ap (λ (l : List RanAt). accesses_of (ran_on shard.0 l)) (ran_more steps x)
        ∙ (ap accesses_of (on_append shard.0 (all_ran steps) x.outcome.ran) ∙ accesses_append (ran_on shard.0 (all_ran steps)) (ran_on shard.0 x.outcome.ran))

    rests : slice_get x.outcome.world.servers shard.0 ≡ slice_get w.servers shard.0 → slice_get x.outcome.world.viewing shard.0 ≡ slice_get w.viewing shard.0 → more ≡ []
        → taken_in at w x ≡ [] → ran_on shard.0 x.outcome.ran ≡ [] → Is
    rests servers views none taken ran =
        let t = was s (sym servers ∙ after) in
        record {
          viewing = t.viewing;
          keeps = views ∙ t.keeps;
          folds = stands_as t.folds (parts ∙ (ap (λ (l : List LogLine). front ++ l) none ∙ append-nil front)) refl refl
              (taken_later ∙ (ap (λ (l : List TxnId). taken_from at begun steps ++ l) taken ∙ append-nil (taken_from at begun steps)))
              (ran_later ∙ (ap (λ (l : List StartedGroup). accesses_of (ran_on shard.0 (all_ran steps)) ++ accesses_of l) ran ∙ append-nil (accesses_of (ran_on shard.0 (all_ran steps)))));
        }

    moves : (other : Shard) (t : ServerState) (v : Viewing) (r : ServerStep) (q : ReadStep) → node_of_event w.sent x.event ≡ Some (Server other)
        → slice_get w.servers other.0 ≡ Some t → slice_get w.viewing other.0 ≡ Some v → ServerTurn w x.outcome other r q
        → ((header : Header) (more : List LogLine) → LogsOwn header w x.event x.outcome more → IsWhole plan header (serving t v) (given_by header r q) more)
        → (b : Bool) → (other.0 == shard.0) ≡ b → LogsWhere b header w x.event x.outcome more → Is
    moves other t v r q is there keeps turn whole true e l =
        let here : other.0 ≡ shard.0 = eqb-true other.0 shard.0 e in
        let there_here : slice_get w.servers shard.0 ≡ Some t = subst (λ (n : ℕ). slice_get w.servers n ≡ Some t) here there in
        let keeps_here : slice_get w.viewing shard.0 ≡ Some v = subst (λ (n : ℕ). slice_get w.viewing n ≡ Some v) here keeps in
        let put : slice_get x.outcome.world.servers shard.0 ≡ Some r.state =
        ap (λ l. slice_get l shard.0) turn.servers ∙ (ap (λ (n : ℕ). slice_get (slice_set w.servers n r.state) shard.0) here ∙ get-set_here w.servers shard.0 t r.state there_here) in
        let put_too : slice_get x.outcome.world.viewing shard.0 ≡ Some q.viewing =
        ap (λ l. slice_get l shard.0) turn.viewing ∙ (ap (λ (n : ℕ). slice_get (slice_set w.viewing n q.viewing) shard.0) here ∙ get-set_here w.viewing shard.0 v q.viewing keeps_here) in
        let f = was t there_here in
        let before = stands_as f.folds refl refl (same_there w.viewing shard.0 v f.viewing keeps_here f.keeps) refl refl in
        let later = event_folds plan header (first_core plan at) (serving t v) (taken_from at begun steps) (accesses_of (ran_on shard.0 (all_ran steps))) front more (given_by header r q) before
        (whole header more l) in
        let taken : taken_in at w x ≡ r.decided = own_taken at (Server other) w x is ∙ (ap (λ (b : Bool). taken_where b x.outcome.decided) e ∙ turn.decided) in
        let ran : ran_on shard.0 x.outcome.ran ≡ r.ran = ap (ran_on shard.0) turn.ran ∙ on_here other.0 shard.0 e r.ran in
        record {
          viewing = q.viewing;
          keeps = put_too;
          folds = stands_as later parts (same_there x.outcome.world.servers shard.0 s r.state after put) refl
              (taken_later ∙ ap (λ (l : List TxnId). taken_from at begun steps ++ l) taken)
              (ran_later ∙ ap (λ (l : List StartedGroup). accesses_of (ran_on shard.0 (all_ran steps)) ++ accesses_of l) ran);
        }
    moves other t v r q is there keeps turn whole false e l =
        let apart : other.0 ≢ shard.0 = λ same. false≢true (sym e ∙ eq-eqb other.0 shard.0 same) in
        rests (ap (λ l. slice_get l shard.0) turn.servers ∙ get-set_other w.servers other.0 shard.0 r.state apart)
        (ap (λ l. slice_get l shard.0) turn.viewing ∙ get-set_other w.viewing other.0 shard.0 q.viewing apart) l
        (own_taken at (Server other) w x is ∙ ap (λ (b : Bool). taken_where b x.outcome.decided) e) (ap (ran_on shard.0) turn.ran ∙ on_elsewhere other.0 shard.0 e r.ran)

    server_after : LogsStep header w x more → Effect plan w x.event x.outcome → Is
    server_after l (nobody same decided ran none) =
        rests (ap (λ (u : World). slice_get u.servers shard.0) same) (ap (λ (u : World). slice_get u.viewing shard.0) same) (go (is_step_of at (node_of_event w.sent x.event)) l)
        (none_taken at w x decided) (ap (ran_on shard.0) ran)
      where
        go : (b : Bool) → LogsWhere b header w x.event x.outcome more → more ≡ []
        go true h = none header more h
        go false h = h
    server_after l (a_server other t v r q is there keeps turn whole) = moves other t v r q is there keeps turn whole (other.0 == shard.0) refl (own_lines header w x more (Server other) is l)
    server_after l (a_coord number c next told is there turn logs) =
        rests (ap (λ l. slice_get l shard.0) turn.servers) (ap (λ l. slice_get l shard.0) turn.viewing) (own_lines header w x more (Coord number) is l) (none_taken at w x turn.decided)
        (ap (ran_on shard.0) turn.ran)

  pub server_stands : {steps : List Stepped} {w : World} → IsRun plan coords steps w → (lines : List LogLine) → AreAllLogged header begun steps lines → (s : ServerState)
      → slice_get w.servers shard.0 ≡ Some s → ServerStands w steps lines s
  server_stands at_beginning lines idle s there =
      let first : ℕ → ServerState = λ n. first_server plan (record { 0 = n }) in
      let views : ℕ → Viewing = λ n. first_viewing in
      let none : ServerStands begun [] [] s = record {
        viewing = first_viewing;
        keeps = found_too first views 0 plan.program.shards shard.0 s there;
        folds = stands_as begins refl (found_at first 0 plan.program.shards shard.0 s there ∙ ap first (omega arith)) refl refl refl;
      } in
      with_stops begun [] [] lines lines s none idle refl
  server_stands (steps_on {steps = steps} {w = w} e o r h) lines logged s after =
      let x : Stepped = record { event = e; outcome = o } in
      let p = logged_parts header begun steps x lines logged in
      let same = run_behind r in
      let last = server_after w steps x same p.front p.more (p.front ++ p.more) refl (server_stands r p.front p.logged) s after (subst (λ (u : World). LogsStep header u x p.more) same p.last)
      (effect reads plan w e o h) in
      with_stops o.world (steps ++ x ∷ []) (p.front ++ p.more) lines p.stops s last p.idle p.parts
