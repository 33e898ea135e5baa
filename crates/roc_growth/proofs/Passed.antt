-- Which messages were skipped where they came
use Rattle.std.proofs.Common.{◌≡◌, ◌≢◌, ◌∙◌, inl, inr, ℕ, suc, ◌-◌, ◌<◌, Bool, true, false, ◌||◌, List, [], Option, Some, length, refl, sym, ap, subst, arith}
use Rattle.std.proofs.lemmas.Bool.{false≢true}
use Rattle.std.specs.Prelude.{slice_get}
use Rattle.roc_sequence.specs.Lists.{Has}
use Rattle.roc_sequence.proofs.Members.{has_at, same_there}
use Rattle.roc_base.specs.declared.id.TxnId.{TxnId}
use Rattle.roc_base.specs.declared.node.Node.{Node}
use Rattle.roc_base.specs.declared.node.Node.TheVariants.{Server, Coord}
use Rattle.roc_msg.specs.declared.msg.Envelope.{Envelope}
use Rattle.roc_msg.specs.declared.msg.Msg.{Msg}
use Rattle.roc_msg.specs.declared.msg.Msg.TheVariants.{StartOk, CommitOk, ReadOk}
use Rattle.roc_msg.specs.declared.reason.Reason.{Reason}
use Rattle.roc_msg.specs.declared.reason.Reason.TheVariants.{Foreign, Stale}
use Rattle.roc_plan.specs.Groups.{Plan}
use Rattle.roc_coord.specs.declared.handled.Handled.TheVariants.{Ignored}
use Rattle.roc_coord.specs.Renewed.{renewed_coord}
use Rattle.roc_coord.specs.State.{CoordState}
use Rattle.roc_coord.specs.Step.{after_message}
use Rattle.roc_audit.specs.declared.entry.Entry.{Entry}
use Rattle.roc_audit.specs.History.{WasSubmitted}
use Rattle.roc_law_protocol.specs.declared.event.Event.TheVariants as their_event
use Rattle.roc_law_protocol.specs.declared.event.Seen.TheVariants as their_seen
use Rattle.roc_law_protocol.proofs.Changed.{get-front}
use Rattle.roc_law_world.specs.World as views
use Rattle.roc_law_world.specs.Happens as theirs
use Rattle.roc_law_world.proofs.Outcomes.{there as stands_within}
use Rattle.roc_law_world.proofs.Runs.{less_of}
use Rattle.roc_epoch.specs.declared.file.File.{File}
use Rattle.roc_epoch.specs.declared.file.File.TheVariants.{First, Second}
use Rattle.roc_epoch.specs.declared.next.Next.{Next}
use Rattle.roc_epoch.specs.Files.{is_between, is_file, is_for, own_file, last_plan}
use Rattle.roc_epoch.proofs.Files.{same_file}
use Rattle.roc_two_files.specs.Home.{GoesHome}
use Rattle.roc_two_files.specs.Left.{AreDrained}
use Rattle.roc_two_files.specs.Sealed.{Sealed, is_of, place_in_file}
use Rattle.roc_grown.specs.Server.{GrownServerState}
use Rattle.roc_grown.specs.Coord.{GrownCoordState}
use Rattle.roc_growth.specs.World.{GrownWorld, mark_delivered}
use Rattle.roc_growth.specs.Happens.{IsReceived}
use Rattle.roc_growth.specs.Run.{Stepped, Transition, IsGrownRun}
use Rattle.roc_growth.specs.Epochs.{AreEpochs}
use Rattle.roc_growth.specs.Inner.Both.{AreBoth}
use Rattle.roc_growth.specs.Told.{HasSwitched, AreTold}
use Rattle.roc_growth.specs.Receivers.{StandsAs}
use Rattle.roc_growth.specs.Quiet.{IsPassed}
use Rattle.roc_growth.proofs.Counted.{file_there}
use Rattle.roc_growth.proofs.Cuts.{IsLater, cut, placed_step}
use Rattle.roc_growth.proofs.Halves.{all_drained, second_switched}
use Rattle.roc_growth.proofs.Skips.{skips, receiver}
use Rattle.roc_growth.proofs.Taken.{file_is, core_ignores}

-- ---- files

-- a message of a file is for each node that runs it
is_for_own : (switched : Bool) (f : File) (msg : Msg) → f ≡ own_file switched → is_for switched f msg ≡ true
is_for_own switched f msg own = ap (λ b. is_between msg || b) (ap (is_file (own_file switched)) own ∙ same_file (own_file switched)) ∙ either (is_between msg)
  where
    either : (b : Bool) → (b || true) ≡ true
    either true = refl
    either false = refl

-- who skips a message of the first file has switched, and who skips one of the second has not
skips_first : (switched : Bool) (m : Sealed) → is_of First m ≡ true → is_for switched m.file m.message.msg ≡ false → switched ≡ true
skips_first true m of none = refl
skips_first false m of none = absurd (false≢true (sym none ∙ is_for_own false m.file m.message.msg (file_is First m.file of)))

skips_second : (switched : Bool) (m : Sealed) → is_of Second m ≡ true → is_for switched m.file m.message.msg ≡ false → switched ≡ false
skips_second false m of none = refl
skips_second true m of none = absurd (false≢true (sym none ∙ is_for_own true m.file m.message.msg (file_is Second m.file of)))

-- ---- what a coordinator takes

same_coord : (n k : ℕ) → Coord n ≡ Coord k → k ≡ n
same_coord n k e = cc

-- a message that goes home, and is no other than a stale one where it is ignored, is of an id of the coordinator to which it goes
home_of : (plan : Plan) (s : CoordState) (history : List Entry) (n : ℕ) (msg : Msg) → GoesHome history msg (Coord n) → ((why : Reason) → (after_message plan s msg).answer ≡ Ignored why → why ≡ Stale)
    → (t : TxnId) × WasSubmitted history t × (t.coord ≡ n)
home_of plan s history n (StartOk id group shard bound outs edges facts) home stale = (id, home.0, same_coord n id.coord home.1)
home_of plan s history n (CommitOk id shard outs) home stale = (id, home.0, same_coord n id.coord home.1)
home_of plan s history n (ReadOk id round group shard versions outs) home stale = (id, home.0, same_coord n id.coord home.1)
home_of plan s history n msg home stale = absurd (apart (stale Foreign refl))
  where
    apart : Foreign ≡ Stale → ⊥
    apart e = cc

-- one that has switched is none that has not
not_one : (c d : GrownCoordState) → c ≡ d → c.switched ≡ true → d.switched ≡ false → ⊥
not_one c d same is not = false≢true (sym not ∙ (ap (λ (c : GrownCoordState). c.switched) (sym same) ∙ is))

-- ---- a step that skipped

pub nothing_there : {A : Type 0} (k : ℕ) (a : A) → slice_get [] k ≡ Some a → ⊥
nothing_there k a e = cc

-- a step that skipped a message: the world that it met, and where the receiver stood
record IsSkip (plan : Plan) (next : Option Next) (coords : ℕ) (k : ℕ) (m : Sealed) (w : GrownWorld) : Type 0 where
  front : List Stepped
  before : GrownWorld
  run : IsGrownRun plan next coords front before
  later : IsLater before w
  there : slice_get before.sent k ≡ Some m
  switched : Bool
  stands : StandsAs before m.message.to switched
  none : is_for switched m.file m.message.msg ≡ false

skip_of : (plan : Plan) (next : Option Next) (coords : ℕ) → ((steps : List Stepped) (w : GrownWorld) → IsGrownRun plan next coords steps w → AreTold w)
    → (steps : List Stepped) (w : GrownWorld) → IsGrownRun plan next coords steps w → (k : ℕ) (m : Sealed) → slice_get w.sent k ≡ Some m → IsPassed steps w (suc k) → IsSkip plan next coords k m w
skip_of plan next coords told steps w run k m at q =
    let place = placed_step steps q.step q.has in
    let c = cut plan next coords told steps w run place.0 q.step place.1 place.2 in
    let moves = subst (λ e. Transition plan next c.before e q.step.outcome) q.delivers c.moves in
    let came = subst (λ i. slice_get c.before.sent i ≡ Some moves.0) (less_of k) moves.2 in
    let same = same_there w.sent k moves.0 m (subst (λ l. slice_get l k ≡ Some moves.0) (sym c.later.sent) (get-front c.before.sent c.later.more k moves.0 came)) at in
    let there = subst (λ m. slice_get c.before.sent k ≡ Some m) same came in
    let received = subst (λ (a : Sealed). IsReceived plan next (mark_delivered c.before (suc k)) a.file a.message.msg a.message.to q.step.outcome) same moves.3 in
    let stands = receiver plan next c.before (suc k) m q.step.outcome m.message.to received in
    record {
      front = place.0;
      before = c.before;
      run = c.run;
      later = c.later;
      there = there;
      switched = stands.0;
      stands = stands.1;
      none = (skips plan next c.before (suc k) m stands.0 q.step.outcome (subst (λ i. slice_get c.before.sent i ≡ Some m) (sym (less_of k)) there) stands.1 moves).0 q.skipped;
    }

module _ (plan : Plan) (next : Option Next) (coords : ℕ) (both : (steps : List Stepped) (w : GrownWorld) → IsGrownRun plan next coords steps w → AreBoth plan next coords steps w) where
  module _ (steps : List Stepped) (w : GrownWorld) (run : IsGrownRun plan next coords steps w) where
    -- where a message of the first file was skipped a server has switched
    pub skipped_first : (k : ℕ) (m : Sealed) → slice_get w.sent k ≡ Some m → is_of First m ≡ true → IsPassed steps w (suc k) → (n : ℕ) × HasSwitched w.servers n
    skipped_first k m at of q = by_node m.message.to x.stands
      where
        x : IsSkip plan next coords k m w
        x = skip_of plan next coords (λ steps w run. (both steps w run).epochs.told) steps w run k m at q

        by_node : (to : Node) → StandsAs x.before to x.switched → (n : ℕ) × HasSwitched w.servers n
        by_node (Server shard) (s, there, is) = (shard.0, x.later.switched shard.0 (s, there, is ∙ skips_first x.switched m of x.none))
        by_node (Coord n) (c, there, is) =
            let y = both x.front x.before x.run in
            let e = y.epochs in
            let long = e.two.servers in
            let few = y.fits.some_server in
            let within : 0 < length x.before.servers = omega arith in
            let s = stands_within x.before.servers 0 within in
            (0, x.later.switched 0 (s.0, s.1, e.told.by_coord n c there (is ∙ skips_first x.switched m of x.none) 0 s.0 s.1))

    -- no message of the second file is skipped
    pub skipped_second : (home : (steps : List Stepped) (w : GrownWorld) (y : AreBoth plan next coords steps w) → AreDrained y.epochs.w.coords → (m : Envelope) → Has m y.epochs.v.sent
        → GoesHome y.epochs.v.history m.msg m.to)
        → (stale : (steps : List Stepped) (w : GrownWorld) (y : AreBoth plan next coords steps w) → AreDrained y.epochs.w.coords
        → (k : ℕ) (o : theirs.Outcome) (why : Reason) → theirs.Happens (last_plan plan next) y.epochs.v (their_event.Deliver k) o → o.seen ≡ their_seen.Ignored why → why ≡ Stale)
        → (k : ℕ) (m : Sealed) → slice_get w.sent k ≡ Some m → is_of Second m ≡ true → ¬ IsPassed steps w (suc k)
    skipped_second home stale k m at of q = elim e.begun [
      | inl none ↦ nothing_there place m.message (subst (λ l. slice_get l place ≡ Some m.message) (ap (λ (v : views.World). v.sent) none) there)
      | inr all ↦ by_node (all_drained plan next coords x.front x.before e y.fits.some_server all) all m.message.to refl x.stands
    ]
      where
        x : IsSkip plan next coords k m w
        x = skip_of plan next coords (λ steps w run. (both steps w run).epochs.told) steps w run k m at q

        y : AreBoth plan next coords x.front x.before
        y = both x.front x.before x.run

        e : AreEpochs plan next coords x.front x.before
        e = y.epochs

        place : ℕ
        place = place_in_file Second x.before.sent k

        there : slice_get e.v.sent place ≡ Some m.message
        there = subst (λ l. slice_get l place ≡ Some m.message) (sym e.two.second_sent) (file_there Second x.before.sent k m x.there of)

        unswitched : x.switched ≡ false
        unswitched = skips_second x.switched m of x.none

        by_node : AreDrained e.w.coords → ((n : ℕ) (s : GrownServerState) → slice_get x.before.servers n ≡ Some s → s.switched ≡ true) → (to : Node) → m.message.to ≡ to → StandsAs x.before to x.switched → ⊥
        by_node drained all (Server shard) to (s, stands, is) = false≢true (sym (is ∙ unswitched) ∙ all shard.0 s stands)
        by_node drained all (Coord n) to (c, stands, is) =
            let core = renewed_coord c.core in
            let found = e.two.awaited_coords n c stands (is ∙ unswitched) in
            let home_here = subst (GoesHome e.v.history m.message.msg) to (home x.front x.before y drained m.message (has_at e.v.sent place m.message there)) in
            let t = home_of (last_plan plan next) core e.v.history n m.message.msg home_here
            (core_ignores (last_plan plan next) e.v Second x.before.sent e.two.second_sent k m x.there of (stale x.front x.before y drained) n to core found) in
            let own = second_switched plan next coords x.front x.before e t.0 t.1 in
            let same = same_there x.before.coords n own.0 c (subst (λ n. slice_get x.before.coords n ≡ Some own.0) t.2 own.1) stands in
            not_one own.0 c same own.2 (is ∙ unswitched)
