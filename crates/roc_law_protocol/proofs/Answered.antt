-- Who is pending, and who was answered
use Rattle.std.proofs.Common.{◌≤◌, ◌≡◌, ℕ, ℤ, ◌<◌, true, List, Option, Some, None, refl, sym, subst, ◌∙◌, ◌⊎◌, inl, inr, arith}
use Rattle.std.specs.Prelude.{slice_get}
use Rattle.roc_sequence.specs.Lists.{Has}
use Rattle.roc_sequence.proofs.Holds.{has_any}
use Rattle.roc_sequence.specs.Places.{IsListed}
use Rattle.roc_base.specs.declared.id.TxnId.{TxnId}
use Rattle.roc_base.specs.TxnId.{is_txn}
use Rattle.roc_base.proofs.Ids.{is_txn-eq}
use Rattle.roc_depgraph.specs.Deps.{IsDecided}
use Rattle.roc_plan.specs.Groups.{Plan}
use Rattle.roc_whole.specs.Serial as whole
use Rattle.roc_law_log.specs.Scheme.{Scheme, IsSoundScheme}
use Rattle.roc_law_log.specs.Log.{Log}
use Rattle.roc_law_log.specs.Invariants.{LogInvariants}
use Rattle.roc_step.specs.declared.started.StartedGroup.{StartedGroup}
use Rattle.roc_step.specs.State.{ServerState}
use Rattle.roc_coord.specs.declared.transaction.Transaction.{Transaction}
use Rattle.roc_coord.specs.State.{CoordState}
use Rattle.roc_audit.specs.declared.entry.Entry.TheVariants.{Submitted, Answered}
use Rattle.roc_audit.specs.History.{WasSubmitted, WasAnswered}
use Rattle.roc_law_protocol.specs.PlanAssumptions.{IsSchemeOf, HasSchemesFrom}
use Rattle.roc_law_protocol.specs.Beginnings.{Beginning, IsBeginning, next_in}
use Rattle.roc_law_protocol.specs.World.{World}
use Rattle.roc_law_protocol.specs.Run.{Stepped}
use Rattle.roc_law_protocol.specs.Beside.{IsRunBeside}
use Rattle.roc_law_protocol.specs.Inner.Given.{LogLaws, StoreLaws}
use Rattle.roc_msg.specs.declared.msg.Envelope.{Envelope}
use Rattle.roc_msg.specs.declared.msg.Msg.{Msg}
use Rattle.roc_msg.specs.declared.msg.Msg.TheVariants.{Ended}
use Rattle.roc_step.specs.Below.{is_ended}
use Rattle.roc_law_protocol.proofs.Means.{entry_run, Means, IsOther}
use Rattle.roc_law_protocol.proofs.Gone.{here_stays}
use Rattle.roc_law_protocol.proofs.Submissions.{AreSubmissions}
use Rattle.roc_law_protocol.proofs.Idle.{IsUsed, run_idle}
use Rattle.roc_law_protocol.proofs.Logged.{IsLogged}
use Rattle.roc_law_protocol.proofs.Serial as serial
use Rattle.roc_law_protocol.proofs.Transactions.{transaction_or_none, HasTransaction, NoTransaction}
use Rattle.std.proofs.lemmas.Bool.{cases_lt}

-- its sequence was used for no submission: before the run began, or aside in it
abbrev pub IsUsedAside : Beginning → World → TxnId → Type 0
IsUsedAside start w t = (t.seq < start.nexts t.coord) ⊎ ((c : CoordState) × (slice_get w.coords t.coord ≡ Some c) × (t.seq < c.next) × (¬ WasSubmitted w.history t))

-- t is pending at this coordinator, or was answered
abbrev pub IsPendingOrAnswered : World → CoordState → TxnId → Type 0
IsPendingOrAnswered w c t = ((x : Transaction) × Has x c.pending × (x.id ≡ t)) ⊎ ((reply : List ℤ) × WasAnswered w.history t reply)

module _ (plan : Plan) (asked : TxnId → whole.Call) (S : Scheme) (start : Beginning) (is : IsSchemeOf plan asked S) (laws : LogLaws S start.store) (w : World) (log : Log) (o : IsLogged plan asked S start is laws w log) (subs : AreSubmissions plan w.history w.coords) where
  i : LogInvariants S start.store log
  i = laws.holds log o.means.reached

  number_kept : (n q : ℕ) (c : CoordState) → slice_get w.coords n ≡ Some c → q < c.next → (WasSubmitted w.history (record { coord = n; seq = q }) × IsPendingOrAnswered w c (record { coord = n; seq = q })) ⊎ (¬ WasSubmitted w.history (record { coord = n; seq = q }))
  number_kept n q c there below = elim ((o.means.coords n c there).all q below) [
    | inl p ↦
        (let id = p.2 ∙ (λ k. record { coord = subs.numbers n c there k; seq = q }) in
        inl (subst (WasSubmitted w.history) id (o.pending n c there p.0 p.1), inl (p.0, p.1, id)))
    | inr (inr other) ↦ inr (λ was. o.called (record { coord = n; seq = q }) was (subst (λ n. IsOther asked start (record { coord = n; seq = q })) (subs.numbers n c there) other))
    | inr (inl h) ↦
        (let t : TxnId = record { coord = c.number; seq = q } in
        let id : t ≡ record { coord = n; seq = q } = λ k. record { coord = subs.numbers n c there k; seq = q } in
        let a = (o.means.answers t).0 h in
        let began = i.whole t (o.means.answered t a.0 a.1).throughout.in_order 0 ((is.groups t 0).1 (is.some t)) in
        inl (subst (WasSubmitted w.history) id (o.began (record { txn = t; group = 0 }) began), inr (a.0, subst (λ t. WasAnswered w.history t a.0) id a.1)))
  ]

module _ (plan : Plan) (start : Beginning) (begins : IsBeginning plan start) (schemes : HasSchemesFrom plan start.store) (laws : (S : Scheme) → IsSoundScheme S → LogLaws S start.store) (stores : StoreLaws) (coords : ℕ) (steps : List Stepped) (w : World) (run : IsRunBeside plan start coords steps w) where
  pub numbers_kept : (n q : ℕ) (c : CoordState) → slice_get w.coords n ≡ Some c → q < c.next → (WasSubmitted w.history (record { coord = n; seq = q }) × IsPendingOrAnswered w c (record { coord = n; seq = q })) ⊎ (¬ WasSubmitted w.history (record { coord = n; seq = q }))
  numbers_kept n q c there below = elim (transaction_or_none plan) [
    | inl some ↦
        (let S = serial.S plan start begins schemes laws stores coords steps w run some in
        let l = serial.logged plan start begins schemes laws stores coords steps w run some in
        number_kept plan (serial.asked plan start begins schemes laws stores coords steps w run some) S start (serial.is plan start begins schemes laws stores coords steps w run some) (laws S (serial.sound plan start begins schemes laws stores coords steps w run some)) w l.0 l.1
        (serial.submissions plan start begins schemes laws stores coords steps w run some) n q c there below)
    | inr none ↦ inr (λ was. absurd (subst (λ h. WasSubmitted h (record { coord = n; seq = q })) (run_idle plan none start begins coords steps w run).history was).2)
  ]

  -- what was submitted is none that was used before
  pub submitted_late : (t : TxnId) → WasSubmitted w.history t → start.nexts t.coord ≤ t.seq
  submitted_late t h = elim (transaction_or_none plan) [
    | inl some ↦ elim (cases_lt t.seq (start.nexts t.coord)) [ inl early ↦ absurd ((serial.logged plan start begins schemes laws stores coords steps w run some).1.called t h (inl early)) | inr late ↦ late ]
    | inr none ↦ absurd (subst (λ h. WasSubmitted h t) (run_idle plan none start begins coords steps w run).history h).2
  ]

  -- a next sequence only rises
  pub nexts_onward : (n : ℕ) (c : CoordState) → slice_get w.coords n ≡ Some c → start.nexts n ≤ c.next
  nexts_onward n c there = elim (transaction_or_none plan) [
    | inl some ↦
        (let l = serial.logged plan start begins schemes laws stores coords steps w run some in
        subst (λ n. start.nexts n ≤ c.next) ((serial.submissions plan start begins schemes laws stores coords steps w run some).numbers n c there) (l.1.means.coords n c there).onward)
    | inr none ↦ (run_idle plan none start begins coords steps w run).nexts n c there
  ]

  pub submitted_kept : (t : TxnId) → WasSubmitted w.history t → (c : CoordState) × (slice_get w.coords t.coord ≡ Some c) × IsPendingOrAnswered w c t
  submitted_kept t (p, a, h) = elim (transaction_or_none plan) [
    | inl some ↦ (let k = (serial.submissions plan start begins schemes laws stores coords steps w run some).numbered t p a h in (k.coord, k.there, elim (numbers_kept t.coord t.seq k.coord k.there k.below) [ inl kept ↦ kept.1 | inr none ↦ absurd (none (p, a, h)) ]))
    | inr none ↦ absurd (subst (Has (Submitted t p a)) (run_idle plan none start begins coords steps w run).history h)
  ]

  pub answered_decided : (t : TxnId) (reply : List ℤ) → WasAnswered w.history t reply → (n : ℕ) (s : ServerState) → slice_get w.servers n ≡ Some s → (e : StartedGroup) → Has e s.started → e.id ≡ t → IsDecided s.lists.links t
  answered_decided t reply h n s there e has same = elim (transaction_or_none plan) [
    | inl some ↦
        (let S = serial.S plan start begins schemes laws stores coords steps w run some in
        let l = serial.logged plan start begins schemes laws stores coords steps w run some in
        let i = (laws S (serial.sound plan start begins schemes laws stores coords steps w run some)).holds l.0 l.1.means.reached in
        let mine = l.1.means.servers n s there in
        let m = mine.groups.entries e has in
        let d = (l.1.means.answered e.id reply (subst (λ t. WasAnswered w.history t reply) (sym same) h)).throughout in
        let here = d.everywhere e.group (i.are_groups (entry_run e) m.told.began) in
        subst (IsDecided s.lists.links) same (elim (mine.decided e.id (subst (λ n. IsListed is_txn (l.0.decided n) e.id) m.on here)) [ inl k ↦ k | inr f ↦ absurd (here_stays s e.id (has_any (λ (f : StartedGroup). is_txn f.id e.id) s.started e has (is_txn-eq e.id e.id refl)) f.gone) ]))
    | inr none ↦ absurd (subst (Has (Answered t reply)) (run_idle plan none start begins coords steps w run).history h)
  ]

  -- ---- what is below a watermark

  -- what is of no transaction of the run was used aside
  pub other_aside : (some : HasTransaction plan) (t : TxnId) → IsOther (serial.asked plan start begins schemes laws stores coords steps w run some) start t → IsUsedAside start w t
  other_aside some t other = elim other [
    | inl early ↦ inl early
    | inr apart ↦
        (let subs = serial.submissions plan start begins schemes laws stores coords steps w run some in
        let u = serial.other_used plan some.0 w subs t apart in
        inr (u.0, u.1, u.2, λ was. apart (serial.ids plan some.0 w subs t was)))
  ]

  idle_aside : NoTransaction plan → (t : TxnId) → IsUsed start w.coords t → IsUsedAside start w t
  idle_aside none t used = go (slice_get w.coords t.coord) refl used
    where
      go : (c : Option CoordState) → slice_get w.coords t.coord ≡ c → t.seq < next_in (start.nexts t.coord) c → IsUsedAside start w t
      go (Some c) at l = inr (c, at, l, λ was. absurd (subst (λ h. WasSubmitted h t) (run_idle plan none start begins coords steps w run).history was).2)
      go None at l = inl l

  -- and what was submitted was not
  pub submitted_own : (t : TxnId) → WasSubmitted w.history t → ¬ IsUsedAside start w t
  submitted_own t was aside = elim aside [ inl early ↦ absurd (let late = submitted_late t was in omega arith) | inr used ↦ used.3 was ]

  pub mark_answered : (m : Envelope) → Has m w.sent → (coord mark : ℕ) → m.msg ≡ Ended coord mark → (q : ℕ) → ¬ IsUsedAside start w (record { coord = coord; seq = q }) → q < mark → (reply : List ℤ) × WasAnswered w.history (record { coord = coord; seq = q }) reply
  mark_answered m has coord mark is q own below = elim (transaction_or_none plan) [
    | inl some ↦
        (let S = serial.S plan start begins schemes laws stores coords steps w run some in
        let l = serial.logged plan start begins schemes laws stores coords steps w run some in
        let asked = serial.asked plan start begins schemes laws stores coords steps w run some in
        let told = subst (λ (msg : Msg). Means plan asked S start l.0 msg m.to) is (l.1.means.messages m has) in
        elim (told.0 q below) [ inl k ↦ (l.1.means.answers (record { coord = coord; seq = q })).0 k | inr other ↦ absurd (own (other_aside some (record { coord = coord; seq = q }) other)) ])
    | inr none ↦
        (let told = (run_idle plan none start begins coords steps w run).sent m has in
        let e = told.is in
        let who : told.coord ≡ coord = cc in
        let same : told.mark ≡ mark = cc in
        let used = told.used q (subst (λ n. q < n) (sym same) below) in
        absurd (own (idle_aside none (record { coord = coord; seq = q }) (subst (λ n. IsUsed start w.coords (record { coord = n; seq = q })) who used))))
  ]

  pub heard_answered : (n : ℕ) (s : ServerState) → slice_get w.servers n ≡ Some s → (t : TxnId) → ¬ IsUsedAside start w t → is_ended s.below t ≡ true → (reply : List ℤ) × WasAnswered w.history t reply
  heard_answered n s there t own e = elim (transaction_or_none plan) [
    | inl some ↦ (let l = serial.logged plan start begins schemes laws stores coords steps w run some in elim ((l.1.means.servers n s there).ended t e) [ inl k ↦ (l.1.means.answers t).0 k | inr other ↦ absurd (own (other_aside some t other)) ])
    | inr none ↦ absurd (own (idle_aside none t (((run_idle plan none start begins coords steps w run).servers n s there).ended t e)))
  ]
