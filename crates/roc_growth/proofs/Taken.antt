-- What comes of a message that comes to a node of its file, or of a drained or a switched: nothing is refused
use Rattle.std.proofs.Common.{◌≡◌, ◌≢◌, ◌∙◌, ◌⊎◌, inl, inr, ℕ, ℤ, zero, suc, ◌-◌, ◌<◌, Bool, true, false, cond, not, ◌&&◌, List, [], ◌∷◌, ◌++◌, Option, Some, None, length, refl, sym, ap, subst, arith}
use Rattle.std.proofs.lemmas.Bool.{false≢true}
use Rattle.std.proofs.lemmas.Option.{slice_get_within}
use Rattle.std.specs.Prelude.{slice_get, nat_lt, ◌==◌}
use Rattle.std.specs.List.{list_any}
use Rattle.roc_sequence.specs.Lists.{Has}
use Rattle.roc_sequence.proofs.Members.{has_at, from_has_map, same_there}
use Rattle.roc_base.specs.declared.id.TxnId.{TxnId}
use Rattle.roc_base.specs.declared.node.Node.{Node}
use Rattle.roc_base.specs.declared.node.Node.TheVariants.{Server, Coord}
use Rattle.roc_base.specs.declared.node.Shard.{Shard}
use Rattle.roc_base.specs.Equalities.{is_txn-same}
use Rattle.roc_msg.specs.declared.msg.Envelope.{Envelope}
use Rattle.roc_msg.specs.declared.msg.Msg.{Msg}
use Rattle.roc_msg.specs.declared.msg.Msg.TheVariants.{Drained, Switched}
use Rattle.roc_msg.specs.declared.reason.Reason.{Reason}
use Rattle.roc_msg.specs.declared.reason.Reason.TheVariants.{Foreign, Stale}
use Rattle.roc_plan.specs.Groups.{Plan}
use Rattle.roc_coord.specs.declared.handled.Handled.{Handled}
use Rattle.roc_coord.specs.declared.handled.Handled.TheVariants as core_answer
use Rattle.roc_coord.specs.State.{CoordState, CoordStep}
use Rattle.roc_coord.specs.Step.{after_message}
use Rattle.roc_step.specs.declared.handled.Handled.{Handled as ServerHandled}
use Rattle.roc_step.specs.declared.handled.Handled.TheVariants as core_server_answer
use Rattle.roc_step.specs.State.{ServerState, ServerStep, Viewing}
use Rattle.roc_step.specs.Reads.{ReadStep, AnswersReads}
use Rattle.roc_step.specs.Step as step
use Rattle.roc_law_protocol.specs.declared.event.Event.TheVariants as their_event
use Rattle.roc_law_protocol.specs.declared.event.Seen.TheVariants as their_seen
use Rattle.roc_law_protocol.specs.Happens as their_seeing
use Rattle.roc_law_world.specs.World as views
use Rattle.roc_law_world.specs.Happens as theirs
use Rattle.roc_law_world.proofs.Runs.{less_of}
use Rattle.roc_epoch.specs.declared.file.File.{File}
use Rattle.roc_epoch.specs.declared.file.File.TheVariants.{First, Second, Neither}
use Rattle.roc_epoch.specs.declared.next.Next.{Next}
use Rattle.roc_epoch.specs.Files.{is_between, is_file, own_file, own_plan, last_plan}
use Rattle.roc_epoch.proofs.Files.{same_file}
use Rattle.roc_two_files.specs.Left.{AreDrained}
use Rattle.roc_two_files.specs.Sealed.{Sealed, is_of, of_file, place_in_file}
use Rattle.roc_grown.specs.declared.handled.GrownHandled.TheVariants as server_answer
use Rattle.roc_grown.specs.declared.handled.GrownAnswer.TheVariants as coord_answer
use Rattle.roc_grown.specs.Server as server
use Rattle.roc_grown.specs.Server.{GrownServerState, GrownStep, GrownHandles, of_drained, of_switched, of_other, of_own, after_drained}
use Rattle.roc_grown.specs.Coord as coord
use Rattle.roc_grown.specs.Coord.{GrownCoordState, after_grown_message, after_switched}
use Rattle.roc_growth.specs.declared.event.Event.TheVariants.{Deliver}
use Rattle.roc_growth.specs.declared.event.Seen.{Seen}
use Rattle.roc_growth.specs.declared.event.Seen.TheVariants as seen
use Rattle.roc_growth.specs.World.{GrownWorld, mark_delivered}
use Rattle.roc_growth.specs.Happens.{Outcome, server_seen, coord_seen, IsServed, IsReceived, Happens}
use Rattle.roc_growth.specs.Run.{Stepped, AreCoordsOf, IsGrownRun, at_first, steps_on}
use Rattle.roc_growth.specs.Without.{plain_world, sealed_plain}
use Rattle.roc_growth.specs.Told.{HasTold, IsToldRight}
use Rattle.roc_growth.specs.Epochs.{AreEpochs}
use Rattle.roc_growth.proofs.Counted.{file_there}
use Rattle.roc_growth.proofs.Halves.{all_drained, own_first, own_second}

-- ---- files

pub file_is : (f g : File) → is_file f g ≡ true → g ≡ f
file_is First First e = refl
file_is First Second e = absurd (false≢true e)
file_is First Neither e = absurd (false≢true e)
file_is Second First e = absurd (false≢true e)
file_is Second Second e = refl
file_is Second Neither e = absurd (false≢true e)
file_is Neither First e = absurd (false≢true e)
file_is Neither Second e = absurd (false≢true e)
file_is Neither Neither e = refl

-- ---- servers

-- it was taken, or it came too late, or it was skipped
abbrev pub IsServedSo : Seen → Type 0
IsServedSo s = (s ≡ seen.Done) ⊎ ((s ≡ seen.Gone) ⊎ (s ≡ seen.Skipped))

-- so it is not ignored
done_ignored : (why : Reason) → seen.Done ≡ seen.Ignored why → ⊥
done_ignored why e = cc

gone_ignored : (why : Reason) → seen.Gone ≡ seen.Ignored why → ⊥
gone_ignored why e = cc

skipped_ignored : (why : Reason) → seen.Skipped ≡ seen.Ignored why → ⊥
skipped_ignored why e = cc

answered_ignored : (id : TxnId) (reply : List ℤ) (why : Reason) → seen.Answered id reply ≡ seen.Ignored why → ⊥
answered_ignored id reply why e = cc

the_reason : (a b : Reason) → seen.Ignored a ≡ seen.Ignored b → a ≡ b
the_reason a b e = cc

not_served : (s : Seen) (why : Reason) → IsServedSo s → s ≡ seen.Ignored why → ⊥
not_served s why (inl e) f = done_ignored why (sym e ∙ f)
not_served s why (inr (inl e)) f = gone_ignored why (sym e ∙ f)
not_served s why (inr (inr e)) f = skipped_ignored why (sym e ∙ f)

none_below : {X : Type 0} → 0 < 0 → X
none_below p = absurd (omega (arith, p))

served_so : (answer : ServerHandled) → (their_seeing.server_seen answer ≡ their_seen.Done) ⊎ (their_seeing.server_seen answer ≡ their_seen.Gone) → IsServedSo (server_seen (server.handled_so answer))
served_so core_server_answer.Done h = inl refl
served_so core_server_answer.Gone h = inr (inl refl)
served_so (core_server_answer.Ignored why) (inl e) = absurd (cc)
served_so (core_server_answer.Ignored why) (inr e) = absurd (cc)

positive : (n : ℕ) → 0 < suc n
positive n = omega arith

-- ---- the world of a file

module _ (plan : Plan) (w : views.World) (f : File) (sent : List Sealed) (messages : w.sent ≡ of_file f sent) (k : ℕ) (m : Sealed) (at : slice_get sent k ≡ Some m) (of : is_of f m ≡ true) where
  abbrev number : ℕ
  number = suc (place_in_file f sent k)

  came : slice_get w.sent (number - 1) ≡ Some m.message
  came = subst (λ i. slice_get w.sent i ≡ Some m.message) (sym (less_of (place_in_file f sent k)))
      (subst (λ l. slice_get l (place_in_file f sent k) ≡ Some m.message) (sym messages) (file_there f sent k m at of))

  -- what its server takes, or finds too late
  pub core_serves : ((k : ℕ) (m : Envelope) (shard : Shard) (o : theirs.Outcome) → slice_get w.sent (k - 1) ≡ Some m → m.to ≡ Server shard → theirs.Happens plan w (their_event.Deliver k) o
      → (o.seen ≡ their_seen.Done) ⊎ (o.seen ≡ their_seen.Gone))
      → (shard : Shard) → m.message.to ≡ Server shard → (s : ServerState) (v : Viewing) → slice_get w.servers shard.0 ≡ Some s → slice_get w.viewing shard.0 ≡ Some v
      → (r : ServerStep) (q : ReadStep) → step.Handles plan s m.message.msg r → AnswersReads plan v m.message.msg r q → IsServedSo (server_seen (server.handled_so r.answer))
  core_serves takes shard to s v there keeps r q handles answers =
      let o = theirs.served (views.mark_delivered w number) shard.0 r q in
      served_so r.answer
      (takes number m.message shard o came to (
        m.message,
        positive (place_in_file f sent k),
        came,
        subst (λ (to : Node). theirs.IsReceived plan (views.mark_delivered w number) m.message.msg to o) (sym to)
            (record { state = s; there = there; viewing = v; keeps = keeps; step = r; handles = handles; reads = q; answers = answers; is = refl }),
      ))

  -- what its coordinator ignores is stale
  pub core_ignores : ((k : ℕ) (o : theirs.Outcome) (why : Reason) → theirs.Happens plan w (their_event.Deliver k) o → o.seen ≡ their_seen.Ignored why → why ≡ Stale)
      → (n : ℕ) → m.message.to ≡ Coord n → (s : CoordState) → slice_get w.coords n ≡ Some s → (why : Reason) → (after_message plan s m.message.msg).answer ≡ core_answer.Ignored why → why ≡ Stale
  core_ignores stale n to s there why ignored =
      let o = theirs.coordinated (views.mark_delivered w number) n (after_message plan s m.message.msg) in
      stale number o why
      (m.message, positive (place_in_file f sent k), came, subst (λ (to : Node). theirs.IsReceived plan (views.mark_delivered w number) m.message.msg to o) (sym to) (s, there, refl))
      (ap their_seeing.coord_seen ignored)

-- ---- what is between the files

-- a drained that is for a server is taken
told_done : (next : Next) (s : GrownServerState) (upto : TxnId) → (server.told_drained next s upto).answer ≡ server_answer.Done
told_done next s upto = go s.switched
  where
    kept : GrownServerState
    kept = record s { drained = server.with_drained upto s.drained }

    over : (b : Bool) → (cond b (server.taken_at (server.gone_over kept) (server.switched_sends kept.core.shard next.coords kept.drained)) (server.taken_at kept [])).answer ≡ server_answer.Done
    over true = refl
    over false = refl

    go : (b : Bool) → (cond b (server.taken_at s (server.switched_to s.core.shard upto ∷ [])) (server.over_if_all next kept)).answer ≡ server_answer.Done
    go true = refl
    go false = over (server.have_all_drained next.coords kept.drained)

drained_so : (next : Option Next) (coords : List GrownCoordState) (s : GrownServerState) (upto : TxnId) → AreCoordsOf next (length coords) → (next ≡ None → true ≡ false) → HasTold coords upto
    → IsServedSo (server_seen (after_drained next s upto).answer)
drained_so None coords s upto counted none told = absurd (false≢true (sym (none refl)))
drained_so (Some next) coords s upto counted none told =
    let l = slice_get_within coords upto.coord told.0 told.1 in
    inl (ap (λ b. server_seen (cond b (server.told_drained next s upto) (server.foreign_at s)).answer) (below upto.coord next.coords (subst (λ n. upto.coord < n) counted l)) ∙ ap server_seen (told_done next s upto))
  where
    below : (n k : ℕ) → n < k → nat_lt n k ≡ true
    below n k l = grind arith

no_server : (shard : Shard) (n : ℕ) → Server shard ≡ Coord n → ⊥
no_server shard n e = cc

module _ (plan : Plan) (next : Option Next) (g : GrownWorld) (counted : AreCoordsOf next (length g.coords)) where
  -- what comes to a server
  handled_so : (s : GrownServerState) (file : File) (msg : Msg) (shard : Shard) (r : GrownStep) → GrownHandles plan next s file msg r → IsToldRight g.servers g.coords msg (Server shard)
      → (next ≡ None → is_between msg ≡ false)
      → ((r : ServerStep) (q : ReadStep) → file ≡ own_file s.switched → step.Handles (own_plan plan next s.switched) s.core msg r → AnswersReads (own_plan plan next s.switched) s.viewing msg r q
      → IsServedSo (server_seen (server.handled_so r.answer)))
      → IsServedSo (server_seen r.answer)
  handled_so s file _ shard _ (of_drained upto r e) told none own = subst (λ (r : GrownStep). IsServedSo (server_seen r.answer)) (sym e) (drained_so next g.coords s upto counted none told.3)
  handled_so s file _ shard _ (of_switched upto at r e) told none own = absurd (no_server shard upto.coord told.0)
  handled_so s file _ shard _ (of_other msg r between other e) told none own = inr (inr (ap (λ (r : GrownStep). server_seen r.answer) e))
  handled_so s file _ shard _ (of_own msg c q r between same handles answers e) told none own =
      subst (λ (r : GrownStep). IsServedSo (server_seen r.answer)) (sym e) (own c q same handles answers)

  -- what comes to a coordinator
  core_so : (answer : Handled) → ((why : Reason) → answer ≡ core_answer.Ignored why → why ≡ Stale) → (why : Reason) → coord_seen (coord.handled_so answer) ≡ seen.Ignored why → why ≡ Stale
  core_so core_answer.Done own why e = absurd (done_ignored why e)
  core_so (core_answer.Answered id reply) own why e = absurd (answered_ignored id reply why e)
  core_so (core_answer.Ignored reason) own why e = sym (the_reason reason why e) ∙ own reason refl

  switched_so : (c : GrownCoordState) (upto : TxnId) (shard : Shard) → shard.0 < plan.program.shards → c.upto ≡ Some upto → (why : Reason)
      → coord_seen (after_switched plan c upto shard).answer ≡ seen.Ignored why → why ≡ Stale
  switched_so c upto shard l told why e = go (list_any (λ told. told.0 == shard.0) c.at) (sym (ap answer_of known) ∙ e)
    where
      answer_of : Option Reason → Seen
      answer_of o = coord_seen (coord.unless_refused c o (coord.over_if_all plan (record c { at = c.at ++ shard ∷ [] }))).answer

      below : (n k : ℕ) → n < k → nat_lt n k ≡ true
      below n k l = grind arith

      known : coord.switched_refusal plan c upto shard ≡ cond (list_any (λ told. told.0 == shard.0) c.at) (Some Stale) None
      known =
          (λ i. cond (not (below shard.0 plan.program.shards l i && coord.was_told upto (told i))) (Some Foreign) (cond (list_any (λ told. told.0 == shard.0) c.at) (Some Stale) None))
          ∙ ap (λ b. cond (not b) (Some Foreign) (cond (list_any (λ told. told.0 == shard.0) c.at) (Some Stale) None)) (is_txn-same upto)

      go : (b : Bool) → answer_of (cond b (Some Stale) None) ≡ seen.Ignored why → why ≡ Stale
      go true e = sym (the_reason Stale why e)
      go false e = absurd (done_ignored why e)

  coord_so : (shards : length g.servers ≡ plan.program.shards) (n : ℕ) (c : GrownCoordState) (file : File) → slice_get g.coords n ≡ Some c → (msg : Msg) → IsToldRight g.servers g.coords msg (Coord n)
      → (file ≡ own_file c.switched → (why : Reason) → (after_message (own_plan plan next c.switched) c.core msg).answer ≡ core_answer.Ignored why → why ≡ Stale)
      → (why : Reason) → coord_seen (after_grown_message plan next c file msg).answer ≡ seen.Ignored why → why ≡ Stale
  coord_so shards n c file at (Drained upto) told own why e = absurd (no_server told.0 n (sym told.1))
  coord_so shards n c file at (Switched upto shard) told own why e =
      let s = told.1 in
      let within = slice_get_within g.servers shard.0 s.0 s.1 in
      let c2 = told.2 in
      let same = same_there g.coords n c2.0 c (subst (λ n. slice_get g.coords n ≡ Some c2.0) (same_coord n upto.coord told.0) c2.1) at in
      switched_so c upto shard (omega (arith, shards, within)) (ap (λ (c : GrownCoordState). c.upto) (sym same) ∙ c2.2) why e
    where
      same_coord : (n k : ℕ) → Coord n ≡ Coord k → k ≡ n
      same_coord n k e = cc
  coord_so shards n c file at msg told own why e = go (is_file (own_file c.switched) file) refl e
    where
      core : CoordStep
      core = after_message (own_plan plan next c.switched) c.core msg

      go : (b : Bool) → is_file (own_file c.switched) file ≡ b → coord_seen (cond b (coord.of_core plan c core) (coord.unchanged c coord_answer.Skipped)).answer ≡ seen.Ignored why → why ≡ Stale
      go true is e = core_so core.answer (own (file_is (own_file c.switched) file is)) why e
      go false is e = absurd (skipped_ignored why e)

-- ---- a world of two files

module _ (plan : Plan) (next : Option Next) (coords : ℕ) (steps : List Stepped) (g : GrownWorld) (e : AreEpochs plan next coords steps g) (counted : AreCoordsOf next (length g.coords))
    (none : next ≡ None → (m : Sealed) → Has m g.sent → is_between m.message.msg ≡ false) (shards : length g.servers ≡ plan.program.shards) (some : 0 < length e.w.servers) where
  abbrev Takes : Plan → views.World → Type 0
  Takes plan w = (k : ℕ) (m : Envelope) (shard : Shard) (o : theirs.Outcome) → slice_get w.sent (k - 1) ≡ Some m → m.to ≡ Server shard → theirs.Happens plan w (their_event.Deliver k) o
      → (o.seen ≡ their_seen.Done) ⊎ (o.seen ≡ their_seen.Gone)

  abbrev Ignores : Plan → views.World → Type 0
  Ignores plan w = (k : ℕ) (o : theirs.Outcome) (why : Reason) → theirs.Happens plan w (their_event.Deliver k) o → o.seen ≡ their_seen.Ignored why → why ≡ Stale

  of_its_file : (f : File) (m : Sealed) → m.file ≡ f → is_of f m ≡ true
  of_its_file f m is = ap (is_file f) is ∙ same_file f

  pub servers_take : Takes plan e.w → (AreDrained e.w.coords → Takes (last_plan plan next) e.v)
      → (k : ℕ) (m : Sealed) (shard : Shard) (o : Outcome) → slice_get g.sent (k - 1) ≡ Some m → m.message.to ≡ Server shard → Happens plan next g (Deliver k) o → IsServedSo o.seen
  servers_take first second zero m shard o at to h = none_below h.1
  servers_take first second (suc k) m shard o at to (a, p, there, h) =
      let same = same_there g.sent (suc k - 1) a m there at in
      go (subst (λ (to : Node). IsReceived plan next (mark_delivered g (suc k)) m.file m.message.msg to o) to
      (subst (λ (a : Sealed). IsReceived plan next (mark_delivered g (suc k)) a.file a.message.msg a.message.to o) same h))
    where
      here : slice_get g.sent k ≡ Some m
      here = subst (λ k. slice_get g.sent k ≡ Some m) (less_of k) at

      has : Has m g.sent
      has = has_at g.sent k m here

      own : (s : GrownServerState) → slice_get g.servers shard.0 ≡ Some s → (b : Bool) → s.switched ≡ b → (r : ServerStep) (q : ReadStep) → m.file ≡ own_file b
          → step.Handles (own_plan plan next b) s.core m.message.msg r → AnswersReads (own_plan plan next b) s.viewing m.message.msg r q → IsServedSo (server_seen (server.handled_so r.answer))
      own s found false is r q file handles answers =
          let core = e.two.first_servers shard.0 s found is in
          core_serves plan e.w First g.sent e.two.first_sent k m here (of_its_file First m file) first shard to s.core s.viewing core.0 core.1 r q
          (subst (λ P. step.Handles P s.core m.message.msg r) (own_first plan next) handles) (subst (λ P. AnswersReads P s.viewing m.message.msg r q) (own_first plan next) answers)
      own s found true is r q file handles answers =
          let core = e.two.second_servers shard.0 s found is in
          core_serves (last_plan plan next) e.v Second g.sent e.two.second_sent k m here (of_its_file Second m file) (second (e.drained shard.0 s found is)) shard to s.core s.viewing core.0 core.1 r q
          (subst (λ P. step.Handles P s.core m.message.msg r) (own_second plan next) handles) (subst (λ P. AnswersReads P s.viewing m.message.msg r q) (own_second plan next) answers)

      go : IsServed plan next (mark_delivered g (suc k)) m.file m.message.msg shard.0 o → IsServedSo o.seen
      go x =
          subst (λ (o : Outcome). IsServedSo o.seen) (sym x.is)
          (handled_so plan next g counted x.state m.file m.message.msg shard x.step x.handles (subst (IsToldRight g.servers g.coords m.message.msg) to (e.told.messages m has)) (λ e. none e m has)
          (λ r q. own x.state x.there x.state.switched refl r q))

  pub coordinators_ignore : Takes plan e.w → (AreDrained e.w.coords → Takes (last_plan plan next) e.v) → Ignores plan e.w → (AreDrained e.w.coords → Ignores (last_plan plan next) e.v)
      → (k : ℕ) (o : Outcome) (why : Reason) → Happens plan next g (Deliver k) o → o.seen ≡ seen.Ignored why → why ≡ Stale
  coordinators_ignore take_first take_second first second zero o why h ignored = none_below h.1
  coordinators_ignore take_first take_second first second (suc k) o why (m, p, there, h) ignored = by_node m.message.to refl h
    where
      here : slice_get g.sent k ≡ Some m
      here = subst (λ k. slice_get g.sent k ≡ Some m) (less_of k) there

      has : Has m g.sent
      has = has_at g.sent k m here

      own : (n : ℕ) (c : GrownCoordState) → m.message.to ≡ Coord n → slice_get g.coords n ≡ Some c → (b : Bool) → c.switched ≡ b → m.file ≡ own_file b
          → (why : Reason) → (after_message (own_plan plan next b) c.core m.message.msg).answer ≡ core_answer.Ignored why → why ≡ Stale
      own n c to found false is file why ignored =
          core_ignores plan e.w First g.sent e.two.first_sent k m here (of_its_file First m file) first n to c.core (e.two.first_coords n c found is) why
          (subst (λ P. (after_message P c.core m.message.msg).answer ≡ core_answer.Ignored why) (own_first plan next) ignored)
      own n c to found true is file why ignored =
          core_ignores (last_plan plan next) e.v Second g.sent e.two.second_sent k m here (of_its_file Second m file)
          (second (all_drained plan next coords steps g e some (e.told.by_coord n c found is))) n to c.core (e.two.second_coords n c found is) why
          (subst (λ P. (after_message P c.core m.message.msg).answer ≡ core_answer.Ignored why) (own_second plan next) ignored)

      by_node : (to : Node) → m.message.to ≡ to → IsReceived plan next (mark_delivered g (suc k)) m.file m.message.msg to o → why ≡ Stale
      by_node (Server shard) to x =
          absurd (not_served o.seen why (servers_take take_first take_second (suc k) m shard o there to
          (m, p, there, subst (λ (to : Node). IsReceived plan next (mark_delivered g (suc k)) m.file m.message.msg to o) (sym to) x)) ignored)
      by_node (Coord n) to (c, found, is) =
          coord_so plan next g counted shards n c m.file found m.message.msg (subst (IsToldRight g.servers g.coords m.message.msg) to (e.told.messages m has))
          (λ file. own n c to found c.switched refl file) why (ap (λ (o : Outcome). o.seen) (sym is) ∙ ignored)

-- ---- where nothing comes next

-- the run tells how many coordinators there are
pub counted_run : (plan : Plan) (next : Option Next) (coords : ℕ) (steps : List Stepped) (w : GrownWorld) → IsGrownRun plan next coords steps w → AreCoordsOf next coords
counted_run plan next coords steps w (at_first counted) = counted
counted_run plan next coords steps w (steps_on {steps = old} {w = v} e o run moves) = counted_run plan next coords old v run

-- a world without growth has the messages of the one that it is
pub none_between : (w : GrownWorld) (v : views.World) → w ≡ plain_world v → ((m : Envelope) → Has m v.sent → is_between m.msg ≡ false) → (m : Sealed) → Has m w.sent → is_between m.message.msg ≡ false
none_between w v same none m h =
    let x = from_has_map sealed_plain m v.sent (subst (λ (w : GrownWorld). Has m w.sent) same h) in
    ap (λ (m : Sealed). is_between m.message.msg) x.2 ∙ none x.0 x.1
