-- A transaction whose messages are delivered and heard is asked to commit, and answered
use Rattle.std.proofs.Common.{◌≡◌, ◌≢◌, ℕ, ℤ, zero, suc, ◌<◌, ◌==◌, true, List, [], ◌∷◌, Some, length, refl, sym, ap, subst, ◌∙◌, inl, inr, arith, is_some, Option, map}
use Rattle.std.proofs.lemmas.Bool.{false≢true, eqb-true}
use Rattle.std.specs.Prelude.{slice_get}
use Rattle.roc_merge_groups.proofs.Elements.{has_range}
use Rattle.roc_sequence.specs.Lists.{Has}
use Rattle.roc_sequence.specs.Places.{place_of, IsListed, IsListedBefore}
use Rattle.roc_sequence.proofs.Holds.{all_has, has_every}
use Rattle.roc_sequence.proofs.Found.{found_has}
use Rattle.roc_sequence.proofs.Members.{has_map}
use Rattle.roc_sequence.proofs.Places.{listed_by_before}
use Rattle.roc_base.specs.declared.id.TxnId.{TxnId}
use Rattle.roc_base.specs.declared.node.Node.TheVariants.{Coord}
use Rattle.roc_msg.specs.declared.msg.Envelope.{Envelope}
use Rattle.roc_msg.specs.Msg.{id_of}
use Rattle.roc_plan.specs.declared.group.Input.{Input}
use Rattle.roc_plan.specs.Groups.{Plan, groups_of, inputs_of}
use Rattle.roc_whole.specs.Serial as whole
use Rattle.roc_law_orders.specs.Behaviour.{is_group_number}
use Rattle.roc_law_log.specs.Scheme.{Scheme, IsSoundScheme}
use Rattle.roc_law_log.specs.Log.{Log}
use Rattle.roc_law_log.specs.Invariants.{LogInvariants}
use Rattle.roc_coord.specs.declared.transaction.Transaction.{Transaction}
use Rattle.roc_coord.specs.declared.transaction.SentStart.{SentStart}
use Rattle.roc_coord.specs.State.{find_start, find_startok, has_commitok, CoordState}
use Rattle.roc_coord.specs.Starts.{group_numbers, all_started}
use Rattle.roc_coord.specs.Commits.{all_committed}
use Rattle.roc_audit.specs.declared.entry.Entry.TheVariants.{Submitted, Answered}
use Rattle.roc_audit.specs.History.{WasSubmitted}
use Rattle.roc_law_protocol.specs.PlanAssumptions.{IsSchemeOf, HasSchemesFrom}
use Rattle.roc_law_protocol.specs.Beginnings.{Beginning, IsBeginning}
use Rattle.roc_law_protocol.specs.World.{World}
use Rattle.roc_law_protocol.specs.Run.{Stepped}
use Rattle.roc_law_protocol.specs.Beside.{IsRunBeside}
use Rattle.roc_law_protocol.specs.Inner.Given.{LogLaws, StoreLaws}
use Rattle.roc_law_protocol.proofs.Heard.{AreDelivered, StartsHeard, CommitsAreOut, CommitsHeard}
use Rattle.roc_law_protocol.proofs.Means.{run_of, Means, TxnMeans}
use Rattle.roc_law_protocol.proofs.Rounds.{told}
use Rattle.roc_law_protocol.proofs.Coordinators.{there, number_below}
use Rattle.roc_law_protocol.proofs.Served.{StartsAre}
use Rattle.roc_law_protocol.proofs.Idle.{run_idle, idle_mark}
use Rattle.roc_law_protocol.proofs.Logged.{IsLogged}
use Rattle.roc_law_protocol.proofs.Serial as serial
use Rattle.roc_law_protocol.proofs.Pending.{IsPending}
use Rattle.roc_law_protocol.proofs.PendingRuns.{run_pending}
use Rattle.roc_law_protocol.proofs.Taken.{IsTakenBy}
use Rattle.roc_law_protocol.proofs.Outstanding.{IsOutstanding}
use Rattle.roc_law_protocol.proofs.Undelivered.{number_of}
use Rattle.roc_law_protocol.proofs.Ongoing.{IsOngoing, whole_out}
use Rattle.roc_law_protocol.proofs.OngoingRuns.{AreTaken, run_ongoing}
use Rattle.roc_law_protocol.proofs.Transactions.{transaction_or_none, HasTransaction}
use Rattle.roc_law_protocol.proofs.Marks.{IsMark}
use Rattle.roc_law_protocol.specs.declared.event.Event.{Event}
use Rattle.roc_law_protocol.specs.Quiet.{WasDelivered, Counts}
use Rattle.roc_law_protocol.proofs.Deliveries.{counts_delivered}

module _ (plan : Plan) (asked : TxnId → whole.Call) (S : Scheme) (start : Beginning) (is : IsSchemeOf plan asked S) (laws : LogLaws S start.store) (sound : IsSoundScheme S) (events : List (Option Event)) (w : World) (was : (k : ℕ) → Counts events w.sent k → WasDelivered w k) (log : Log) (l : IsLogged plan asked S start is laws w log) (g : IsOngoing plan w) (a : AreTaken w) where
  i : LogInvariants S start.store log
  i = laws.holds log l.means.reached

  -- a pending transaction whose messages are delivered and heard
  module _ (c : CoordState) (x : Transaction) (at : slice_get w.coords x.id.coord ≡ Some c) (has : Has x c.pending) (heard : StartsHeard events w x.id) (delivered : AreDelivered events w x.id) where
    abbrev groups : List ℕ
    groups = S.behaviour.groups x.id

    abbrev Started : ℕ → Type 0
    Started h = is_some (find_startok h x.startoks) ≡ true

    means : TxnMeans plan asked S start log x
    means = (l.means.coords x.id.coord c at).pending x has

    held : IsOutstanding plan w.sent x
    held = g.holds x.id.coord c at x has

    -- what is said to it in the network was taken
    is_taken : (m : Envelope) → Has m w.sent → id_of m.msg ≡ Some x.id → m.to ≡ Coord x.id.coord → IsTakenBy c.pending m.msg
    is_taken m h id to = let k = number_of w.sent m h in a.each k.0 x.id.coord m c k.1 (was (suc k.0) (delivered.each k.0 m k.1 id)) to at

    -- a group that was asked to start has its startok
    heard_of : (h : ℕ) → is_some (find_start h x.starts) ≡ true → Started h
    heard_of h e =
        let z = there (find_start h x.starts) e in
        let f = found_has (λ (z : SentStart). z.group == h) x.starts z.0 z.1 in
        let s = held.starts z.0 f.0 in
        let k = number_of w.sent s.message s.has in
        let answer = heard.each k.0 s.message s.proc z.0.group s.args s.inputs k.1 s.is (delivered.each k.0 s.message k.1 (ap id_of s.is)) in
        let ok = answer.2 in
        let to = (subst (λ msg. Means plan asked S start log msg ok.message.to) ok.is (l.means.messages ok.message ok.has)).2 in
        let taken = subst (IsTakenBy c.pending) ok.is (is_taken ok.message ok.has (ap id_of ok.is) to) in
        subst Started (eqb-true z.0.group h f.1) (taken x has refl)

    -- each group after those that it takes values from
    started_below : (n h : ℕ) → place_of (is_group_number h) groups < n → IsListed is_group_number groups h → Started h
    started_below zero h p listed = absurd (omega arith)
    started_below (suc n) h p listed =
        let number : Has h (group_numbers plan x.proc) = subst (λ proc. Has h (group_numbers plan proc)) (sym means.proc) (in_numbers h ((is.groups x.id h).0 listed)) in
        heard_of h (held.asks h number (has_every (λ (b : Input). is_some (find_startok b.group x.startoks)) (inputs_of plan x.proc h)
        (λ b k. source b.group (before b (subst (λ proc. Has b (inputs_of plan proc h)) means.proc k)) (started_below n b.group))))
      where
        in_numbers : (h : ℕ) → h < length (groups_of plan (asked x.id).procedure) → Has h (group_numbers plan (asked x.id).procedure)
        in_numbers h l = has_range 0 (length (groups_of plan (asked x.id).procedure)) h (omega arith) (omega arith)

        before : (b : Input) → Has b (inputs_of plan (asked x.id).procedure h) → IsListedBefore is_group_number groups b.group h
        before b k =
            let sources = sound.lawful.needed_first (run_of x.id h) listed in
            all_has (λ d. IsListedBefore is_group_number groups d h) b.group (S.behaviour.sources (run_of x.id h)) sources
            (subst (Has b.group) (sym (is.sources (run_of x.id h))) (has_map (λ (b : Input). b.group) b (inputs_of plan (asked x.id).procedure h) k))

        source : (d : ℕ) → IsListedBefore is_group_number groups d h → (place_of (is_group_number d) groups < n → IsListed is_group_number groups d → Started d) → Started d
        source d b ih = ih (omega arith) (listed_by_before is_group_number groups d h b)

    all_heard : all_started plan x ≡ true
    all_heard =
        has_every (λ h. is_some (find_startok h x.startoks)) (group_numbers plan x.proc)
        (λ h k.
        let below = number_below plan asked S start is log i x (told plan asked S start is log i x means) h k in
        let listed = (is.groups x.id h).1 below in
        started_below (suc (place_of (is_group_number h) groups)) h (omega arith) listed)

    -- each shard has said that it is done
    all_done : CommitsHeard events w x.id → all_committed x ≡ true
    all_done said =
        has_every (λ s. has_commitok s x.commitoks) x.asked
        (λ s k.
        let b = held.commits s k in
        let j = number_of w.sent b.message b.has in
        let done = said.each j.0 b.message s b.edges b.facts j.1 b.to b.is (delivered.each j.0 b.message j.1 (ap id_of b.is)) in
        let to = (subst (λ msg. Means plan asked S start log msg done.1.to) done.3 (l.means.messages done.1 done.2)).1 in
        subst (IsTakenBy c.pending) done.3 (is_taken done.1 done.2 (ap id_of done.3) to) x has refl)

    never_done : CommitsHeard events w x.id → ⊥
    never_done said = false≢true (sym (held.waits all_heard) ∙ all_done said)

  -- unless it is answered, each delivered start of it has its startok
  abbrev IsHeardOf : TxnId → Type 0
  IsHeardOf t = ((reply : List ℤ) → ¬ Has (Answered t reply) w.history) → StartsHeard events w t

  -- where it was answered its commits were sent before, and where it is pending they were sent as the last startok came
  submitted_out : IsPending plan w → (t : TxnId) → WasSubmitted w.history t → IsHeardOf t → AreDelivered events w t → CommitsAreOut w t
  submitted_out o t (proc, args, h) heard delivered = elim (g.submitted t proc args h) [
    | inl k ↦ g.out t k.0 k.1
    | inr p ↦
        (let at = subst (λ t. slice_get w.coords t.coord ≡ Some p.coord) (sym p.is) p.there in
        subst (CommitsAreOut w) p.is
        (whole_out plan asked S start is laws w log l o g.holds p.coord p.transaction at p.has
        (all_heard p.coord p.transaction at p.has (subst (StartsHeard events w) (sym p.is) (heard (λ reply k. g.gone t reply k p.coord p.transaction p.there p.has p.is))) (subst (AreDelivered events w) (sym p.is) delivered))))
  ]

  -- it is enough to know it of submitted transactions, since only these are started
  all_out : IsPending plan w → (t : TxnId) → IsHeardOf t → AreDelivered events w t → CommitsAreOut w t
  all_out o t heard delivered =
      record {
        each = λ m shard proc group args inputs h to is_start.
            (submitted_out o t (subst (StartsAre (WasSubmitted w.history)) is_start (l.starts m h)) heard delivered).each m shard proc group args inputs h to is_start;
      }

  -- no transaction waits for ever, so it was answered
  all_answered : (t : TxnId) (proc : ℕ) (args : List ℤ) → Has (Submitted t proc args) w.history → (((reply : List ℤ) → ¬ Has (Answered t reply) w.history) → StartsHeard events w t) → (((reply : List ℤ) → ¬ Has (Answered t reply) w.history) → CommitsHeard events w t) → AreDelivered events w t → (reply : List ℤ) × Has (Answered t reply) w.history
  all_answered t proc args h heard said delivered = elim (g.submitted t proc args h) [
    | inl k ↦ k
    | inr p ↦
        (let unanswered : (reply : List ℤ) → ¬ Has (Answered t reply) w.history = λ reply k. g.gone t reply k p.coord p.transaction p.there p.has p.is in
        absurd (never_done p.coord p.transaction (subst (λ t. slice_get w.coords t.coord ≡ Some p.coord) (sym p.is) p.there) p.has
        (subst (StartsHeard events w) (sym p.is) (heard unanswered)) (subst (AreDelivered events w) (sym p.is) delivered) (subst (CommitsHeard events w) (sym p.is) (said unanswered))))
  ]

-- ---- every run

module _ (plan : Plan) (start : Beginning) (begins : IsBeginning plan start) (schemes : HasSchemesFrom plan start.store) (laws : (S : Scheme) → IsSoundScheme S → LogLaws S start.store) (stores : StoreLaws) (coords : ℕ) (steps : List Stepped) (w : World) (run : IsRunBeside plan start coords steps w) where
  module _ (some : HasTransaction plan) where
    abbrev T : Scheme
    T = serial.S plan start begins schemes laws stores coords steps w run some

    abbrev calls : TxnId → whole.Call
    calls = serial.asked plan start begins schemes laws stores coords steps w run some

    abbrev sound : IsSoundScheme T
    sound = serial.sound plan start begins schemes laws stores coords steps w run some

    abbrev is : IsSchemeOf plan calls T
    is = serial.is plan start begins schemes laws stores coords steps w run some

    pending : IsPending plan w
    pending = run_pending plan calls T start is (laws T sound) stores begins coords steps w run (serial.agrees plan some.0 w (serial.submissions plan start begins schemes laws stores coords steps w run some))

    ongoing : IsOngoing plan w × AreTaken w
    ongoing = run_ongoing plan calls T start is (laws T sound) stores begins coords steps w run (serial.agrees plan some.0 w (serial.submissions plan start begins schemes laws stores coords steps w run some))

  -- where, unless t is answered, each delivered start of it has its startok, and all of its messages are delivered, its shards were asked to commit
  pub commits_are_out : (t : TxnId) → (((reply : List ℤ) → ¬ Has (Answered t reply) w.history) → StartsHeard (map (λ s. s.event) steps) w t) → AreDelivered (map (λ s. s.event) steps) w t → CommitsAreOut w t
  commits_are_out t heard delivered = elim (transaction_or_none plan) [
    | inl some ↦
        (let x = serial.logged plan start begins schemes laws stores coords steps w run some in
        all_out plan (calls some) (T some) start (is some) (laws (T some) (sound some)) (sound some) (map (λ s. s.event) steps) w (counts_delivered plan start coords steps w run) x.0 x.1 (ongoing some).0 (ongoing some).1 (pending some) t heard delivered)
    | inr none ↦ record { each = λ m shard proc group args inputs h to is_start. absurd (subst IsMark is_start (idle_mark plan start w (run_idle plan none start begins coords steps w run) m h)) }
  ]

  -- and where, unless it is answered, each delivered commit has its commitok too, it is answered
  pub heard_is_answered : (t : TxnId) (proc : ℕ) (args : List ℤ) → Has (Submitted t proc args) w.history → (((reply : List ℤ) → ¬ Has (Answered t reply) w.history) → StartsHeard (map (λ s. s.event) steps) w t) → (((reply : List ℤ) → ¬ Has (Answered t reply) w.history) → CommitsHeard (map (λ s. s.event) steps) w t) → AreDelivered (map (λ s. s.event) steps) w t → (reply : List ℤ) × Has (Answered t reply) w.history
  heard_is_answered t proc args h heard said delivered = elim (transaction_or_none plan) [
    | inl some ↦
        (let x = serial.logged plan start begins schemes laws stores coords steps w run some in
        all_answered plan (calls some) (T some) start (is some) (laws (T some) (sound some)) (sound some) (map (λ s. s.event) steps) w (counts_delivered plan start coords steps w run) x.0 x.1 (ongoing some).0 (ongoing some).1 t proc args h heard said delivered)
    | inr none ↦ absurd (subst (Has (Submitted t proc args)) (run_idle plan none start begins coords steps w run).history h)
  ]

  -- who is answered is pending nowhere
  pub answered_gone : (t : TxnId) (reply : List ℤ) → Has (Answered t reply) w.history → (n : ℕ) (c : CoordState) → slice_get w.coords n ≡ Some c → (x : Transaction) → Has x c.pending → x.id ≢ t
  answered_gone t reply h n c there x has same = elim (transaction_or_none plan) [
    | inl some ↦ (ongoing some).0.gone t reply h c x (subst (λ m. slice_get w.coords m ≡ Some c) (sym ((pending some).own n c there x has) ∙ ap (λ (t : TxnId). t.coord) same) there) has same
    | inr none ↦ absurd (subst (Has (Answered t reply)) (run_idle plan none start begins coords steps w run).history h)
  ]

  -- where all are answered, nothing is pending
  pub all_gone : ((t : TxnId) → WasSubmitted w.history t → (reply : List ℤ) × Has (Answered t reply) w.history) → (n : ℕ) (c : CoordState) → slice_get w.coords n ≡ Some c → c.pending ≡ []
  all_gone all n c there = elim (transaction_or_none plan) [
    | inl some ↦ go some c.pending refl
    | inr none ↦ (run_idle plan none start begins coords steps w run).coords n c there
  ]
    where
      go : HasTransaction plan → (xs : List Transaction) → c.pending ≡ xs → c.pending ≡ []
      go some [] e = e
      go some (x ∷ xs) e =
          let has : Has x c.pending = subst (Has x) (sym e) (inl refl) in
          let a = all x.id ((serial.logged plan start begins schemes laws stores coords steps w run some).1.pending n c there x has) in
          absurd (answered_gone x.id a.0 a.1 n c there x has refl)
