-- The fold over a list of own events is one
use Rattle.std.proofs.Common.{◌≡◌, ℕ, List, ◌++◌, Some, None, refl, sym, ap, subst, ◌∙◌}
use Rattle.roc_sequence.proofs.Appended.{empty_more, same_more}
use Rattle.roc_msg.specs.declared.msg.Msg.{Msg}
use Rattle.roc_msg.specs.declared.outbox.Outgoing.{Outgoing}
use Rattle.roc_plan.specs.Groups.{Plan}
use Rattle.roc_step.specs.Reads.{AnswersReads, ReadStep}
use Rattle.roc_step.specs.Restarts.{without_reads, cut_short, cut_reads}
use Rattle.roc_step.specs.State.{ServerState, ServerStep, Viewing}
use Rattle.roc_step.specs.Step.{Handles, tick_sends}
use Rattle.roc_coord.specs.State.{CoordState}
use Rattle.roc_law_protocol.specs.declared.event.Kept.TheVariants.{Lost, Sent}
use Rattle.roc_law_nodes.specs.Own.{OwnEvent, delivered, ticked, requested, stopped}
use Rattle.roc_law_nodes.specs.Fold.{ServerSteps, IsServerFoldFrom, server_begun, server_goes_on, CoordSteps, IsCoordFold, coord_begun, coord_goes_on}

module _ (plan : Plan) (one : (s : ServerState) (msg : Msg) (r other : ServerStep) → Handles plan s msg r → Handles plan s msg other → r ≡ other)
    (one_read : (v : Viewing) (msg : Msg) (r : ServerStep) (q other : ReadStep) → AnswersReads plan v msg r q → AnswersReads plan v msg r other → q ≡ other) where
  one_server_step : (s : ServerState) (v : Viewing) (own : OwnEvent) (after next : ServerState) (kept held : Viewing) (outs others : List Outgoing) → ServerSteps plan s v own after kept outs → ServerSteps plan s v own next held others
      → (after ≡ next) × (kept ≡ held) × (outs ≡ others)
  one_server_step s v (delivered msg) after next kept held outs others (r, q, handles, answers, is, views, sends) (r2, q2, handles2, answers2, is2, views2, sends2) =
      let same : r ≡ r2 = one s msg r r2 handles handles2 in
      let reads : q ≡ q2 = one_read v msg r2 q q2 (subst (λ (r : ServerStep). AnswersReads plan v msg r q) same answers) answers2 in (
        is ∙ (ap (λ (r : ServerStep). r.state) same ∙ sym is2),
        views ∙ (ap (λ (q : ReadStep). q.viewing) reads ∙ sym views2),
        sends ∙ (ap (λ (r : ServerStep). r.sends ++ q.sends) same ∙ (ap (λ (q : ReadStep). r2.sends ++ q.sends) reads ∙ sym sends2)),
      )
  one_server_step s v ticked after next kept held outs others (is, views, sends) (is2, views2, sends2) = (is ∙ sym is2, views ∙ sym views2, sends ∙ sym sends2)
  one_server_step s v (requested proc args) after next kept held outs others h k = absurd h
  one_server_step s v (stopped None) after next kept held outs others (is, views, sends) (is2, views2, sends2) = (is ∙ sym is2, views ∙ sym views2, sends ∙ sym sends2)
  one_server_step s v (stopped (Some (msg, Lost))) after next kept held outs others (is, views, sends) (is2, views2, sends2) = (is ∙ sym is2, views ∙ sym views2, sends ∙ sym sends2)
  one_server_step s v (stopped (Some (msg, Sent many))) after next kept held outs others (r, q, handles, answers, is, views, sends) (r2, q2, handles2, answers2, is2, views2, sends2) =
      let same : r ≡ r2 = one s msg r r2 handles handles2 in
      let reads : q ≡ q2 = one_read v msg r2 q q2 (subst (λ (r : ServerStep). AnswersReads plan v msg r q) same answers) answers2 in
      let sent : ServerStep → ReadStep → List Outgoing = λ r q. ((cut_short many r).sends ++ (cut_reads many r q).sends) ++ tick_sends r.state in (
        is ∙ (ap (λ (r : ServerStep). r.state) same ∙ sym is2),
        views ∙ (ap (λ (q : ReadStep). without_reads q.viewing) reads ∙ sym views2),
        sends ∙ (ap (λ (r : ServerStep). sent r q) same ∙ (ap (λ (q : ReadStep). sent r2 q) reads ∙ sym sends2)),
      )

  module _ (first : ServerState) (keeps : Viewing) (before : List Outgoing) where
    pub one_server_fold : {events others : List OwnEvent} {s t : ServerState} {v u : Viewing} {messages more : List Outgoing} → IsServerFoldFrom plan first keeps before events s v messages
        → IsServerFoldFrom plan first keeps before others t u more → events ≡ others → (s ≡ t) × (v ≡ u) × (messages ≡ more)
    one_server_fold server_begun server_begun e = (refl, refl, refl)
    one_server_fold server_begun (server_goes_on {events = ys} own after kept outs f k) e = absurd (empty_more ys own e)
    one_server_fold (server_goes_on {events = xs} own after kept outs f h) server_begun e = absurd (empty_more xs own (sym e))
    one_server_fold (server_goes_on {events = xs} {s = s} {v = v} {messages = m} own after kept outs f h) (server_goes_on {events = ys} {s = t} {v = u} {messages = n} other next held others g k) e =
        let ends = same_more xs ys own other e in
        go (one_server_fold f g ends.0) ends.1
      where
        go : (s ≡ t) × (v ≡ u) × (m ≡ n) → own ≡ other → (after ≡ next) × (kept ≡ held) × (m ++ outs ≡ n ++ others)
        go front same =
            let P : ServerState → Viewing → OwnEvent → Type 0 = λ s v x. ServerSteps plan s v x after kept outs in
            let moved : ServerSteps plan t u other after kept outs = subst (P t u) same (subst (λ (v : Viewing). P t v own) front.1 (subst (λ (s : ServerState). P s v own) front.0 h)) in
            let step = one_server_step t u other after next kept held outs others moved k in
            let both : List Outgoing → List Outgoing → List Outgoing = λ a b. a ++ b in
            (step.0, step.1, (λ i. both (front.2 i) (step.2 i)))

module _ (plan : Plan) (number : ℕ) where
  one_coord_step : (c : CoordState) (own : OwnEvent) (after next : CoordState) (outs others : List Outgoing) → CoordSteps plan c own after outs → CoordSteps plan c own next others → (after ≡ next) × (outs ≡ others)
  one_coord_step c (delivered msg) after next outs others (is, sends) (is2, sends2) = (is ∙ sym is2, sends ∙ sym sends2)
  one_coord_step c ticked after next outs others (is, sends) (is2, sends2) = (is ∙ sym is2, sends ∙ sym sends2)
  one_coord_step c (requested proc args) after next outs others (is, sends) (is2, sends2) = (is ∙ sym is2, sends ∙ sym sends2)
  one_coord_step c (stopped at) after next outs others h k = absurd h

  pub one_coord_fold : {events others : List OwnEvent} {c d : CoordState} {messages more : List Outgoing} → IsCoordFold plan number events c messages → IsCoordFold plan number others d more → events ≡ others → (c ≡ d) × (messages ≡ more)
  one_coord_fold coord_begun coord_begun e = (refl, refl)
  one_coord_fold coord_begun (coord_goes_on {events = ys} own after outs f k) e = absurd (empty_more ys own e)
  one_coord_fold (coord_goes_on {events = xs} own after outs f h) coord_begun e = absurd (empty_more xs own (sym e))
  one_coord_fold (coord_goes_on {events = xs} {s = c} {messages = m} own after outs f h) (coord_goes_on {events = ys} {s = d} {messages = n} other next others g k) e =
      let ends = same_more xs ys own other e in
      go (one_coord_fold f g ends.0) ends.1
    where
      go : (c ≡ d) × (m ≡ n) → own ≡ other → (after ≡ next) × (m ++ outs ≡ n ++ others)
      go front same =
          let P : CoordState → OwnEvent → Type 0 = λ u x. CoordSteps plan u x after outs in
          let moved : CoordSteps plan d other after outs = subst (P d) same (subst (λ (u : CoordState). P u own) front.0 h) in
          let step = one_coord_step d other after next outs others moved k in
          let both : List Outgoing → List Outgoing → List Outgoing = λ a b. a ++ b in
          (step.0, (λ i. both (front.1 i) (step.1 i)))
