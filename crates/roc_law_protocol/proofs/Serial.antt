-- The order of every run is a serial witness of its history
use Rattle.std.proofs.Common.{◌≡◌, ◌≢◌, ◌+◌, ◌<◌, Bool, true, false, cond, nat_lt, ℕ, ℤ, List, [], Option, Some, None, refl, sym, ap, subst, ◌∙◌, inl, inr, arith, unwrap_or, true}
use Rattle.std.proofs.lemmas.Bool.Decides.{nat_tests}
use Rattle.std.specs.Prelude.{slice_get}
use Rattle.roc_sequence.specs.Lists.{Has}
use Rattle.roc_sequence.specs.Places.{IsListed}
use Rattle.roc_base.specs.declared.id.TxnId.{TxnId}
use Rattle.roc_plan.specs.Groups.{Plan, is_transaction}
use Rattle.roc_whole.specs.Serial as whole
use Rattle.roc_law_log.specs.Scheme.{Scheme, IsSoundScheme}
use Rattle.roc_law_log.specs.Log.{Log}
use Rattle.roc_audit.specs.declared.entry.Entry.TheVariants.{Submitted}
use Rattle.roc_audit.specs.History.{WasSubmitted}
use Rattle.roc_audit.specs.Witness.{submitted_call, IsSerialWitnessFrom}
use Rattle.roc_audit.proofs.Histories.{call_of-is, call_of-id, call_of-from}
use Rattle.roc_base.specs.Equalities.{is_txn-true}
use Rattle.roc_base.specs.TxnId.{is_txn}
use Rattle.roc_coord.specs.State.{CoordState}
use Rattle.roc_law_protocol.specs.PlanAssumptions.{IsSchemeOf, HasSchemesFrom}
use Rattle.roc_law_protocol.specs.Beginnings.{Beginning, IsBeginning}
use Rattle.roc_law_protocol.specs.World.{World}
use Rattle.roc_law_protocol.specs.Run.{Stepped}
use Rattle.roc_law_protocol.specs.Beside.{IsRunBeside}
use Rattle.roc_law_protocol.specs.Kept.{ran_in}
use Rattle.roc_law_protocol.specs.Inner.Given.{LogLaws}
use Rattle.roc_law_protocol.specs.Inner.Given.{SerialLaws, StoreLaws}
use Rattle.roc_law_protocol.proofs.Means.{AreRan}
use Rattle.roc_law_protocol.proofs.KeptRuns.{AreKeptIn}
use Rattle.roc_law_protocol.proofs.Submissions.{AreSubmissions}
use Rattle.roc_law_protocol.proofs.Idle.{IsIdle, run_idle}
use Rattle.roc_law_protocol.proofs.AcceptedSubmissions.{submissions_from}
use Rattle.roc_law_protocol.proofs.Logged.{Agrees, IsLogged, ordered_submitted}
use Rattle.roc_law_protocol.proofs.Witness.{run_logged, witness}
use Rattle.roc_law_protocol.proofs.Transactions.{transaction_or_none, HasTransaction}

-- an id that was used for no submission: its call is of another one
abbrev called_by : Option CoordState → TxnId → TxnId
called_by None t = t
called_by (Some c) t = cond (nat_lt t.seq c.next) (record { coord = t.coord; seq = t.seq + 1 }) t

-- what transactions call in a world; those that were not submitted, this procedure
pub call_in : (other : ℕ) → World → TxnId → whole.Call
call_in other w t = unwrap_or (submitted_call t w.history) (record { id = called_by (slice_get w.coords t.coord) t; procedure = other; arguments = [] })

module _ (plan : Plan) (other : ℕ) (w : World) (a : AreSubmissions plan w.history w.coords) where
  abbrev uncalled : TxnId → whole.Call
  uncalled t = record { id = called_by (slice_get w.coords t.coord) t; procedure = other; arguments = [] }

  call_is : (t : TxnId) (p : ℕ) (x : List ℤ) → Has (Submitted t p x) w.history → submitted_call t w.history ≡ Some (record { id = t; procedure = p; arguments = x })
  call_is t p x h = call_of-is w.history t p x (λ q b k. a.one t q p b x k h) h

  pub ids : (t : TxnId) → WasSubmitted w.history t → (call_in other w t).id ≡ t
  unfolding call_in
  ids t (p, x, h) = ap (λ (o : Option whole.Call). (unwrap_or o (uncalled t)).id) (call_is t p x h)

  pub agrees : Agrees (call_in other w) w
  unfolding call_in
  agrees = record {
    proc = λ t p x h. ap (λ (o : Option whole.Call). (unwrap_or o (uncalled t)).procedure) (sym (call_is t p x h));
    args = λ t p x h. ap (λ (o : Option whole.Call). (unwrap_or o (uncalled t)).arguments) (sym (call_is t p x h));
    id = λ t p x h. ids t (p, x, h);
    used = used;
  }
    where
      other_id : (t : TxnId) (c : CoordState) → t.seq < c.next → (b : Bool) → nat_lt t.seq c.next ≡ b → (cond b (record { coord = t.coord; seq = t.seq + 1 }) t).seq ≡ t.seq → ⊥
      other_id t c below true e same = absurd (omega (arith, same))
      other_id t c below false e same = grind (arith, nat_tests)

      used : (t : TxnId) (c : CoordState) → slice_get w.coords t.coord ≡ Some c → t.seq < c.next → (call_in other w t).id ≡ t → WasSubmitted w.history t
      used t c at below own = go (submitted_call t w.history) refl own
        where
          go : (o : Option whole.Call) → submitted_call t w.history ≡ o → (unwrap_or o (uncalled t)).id ≡ t → WasSubmitted w.history t
          go (Some c) e own = (c.procedure, c.arguments, call_of-from is_txn-true w.history t c e)
          go None e own =
              let same : (called_by (Some c) t).seq ≡ t.seq = ap (λ (o : Option CoordState). (called_by o t).seq) (sym at) ∙ ap (λ (t : TxnId). t.seq) own in
              absurd (other_id t c below (nat_lt t.seq c.next) refl same)

  pub calls : (t : TxnId) → WasSubmitted w.history t → submitted_call t w.history ≡ Some (call_in other w t)
  unfolding call_in
  calls t (p, x, h) = call_is t p x h ∙ ap (λ (o : Option whole.Call). Some (unwrap_or o (uncalled t))) (sym (call_is t p x h))

  -- whose call is of another id, its sequence was used
  pub other_used : (t : TxnId) → (call_in other w t).id ≢ t → (c : CoordState) × (slice_get w.coords t.coord ≡ Some c) × (t.seq < c.next)
  unfolding call_in
  other_used t apart = submitted (submitted_call t w.history) refl apart
    where
      coord : (o : Option CoordState) → slice_get w.coords t.coord ≡ o → called_by o t ≢ t → (c : CoordState) × (slice_get w.coords t.coord ≡ Some c) × (t.seq < c.next)
      coord None at n = absurd (n refl)
      coord (Some c) at n = (c, at, below (nat_lt t.seq c.next) refl n)
        where
          below : (b : Bool) → nat_lt t.seq c.next ≡ b → cond b (record { coord = t.coord; seq = t.seq + 1 }) t ≢ t → t.seq < c.next
          below true e n = grind (arith, nat_tests)
          below false e n = absurd (n refl)

      submitted : (o : Option whole.Call) → submitted_call t w.history ≡ o → (unwrap_or o (uncalled t)).id ≢ t → (c : CoordState) × (slice_get w.coords t.coord ≡ Some c) × (t.seq < c.next)
      submitted (Some c) e n = absurd (n (call_of-id w.history t c e))
      submitted None e n = coord (slice_get w.coords t.coord) refl n

  pub procedures : is_transaction plan other ≡ true → (t : TxnId) → is_transaction plan (call_in other w t).procedure ≡ true
  unfolding call_in
  procedures known t = go (submitted_call t w.history) refl
    where
      go : (o : Option whole.Call) → submitted_call t w.history ≡ o → is_transaction plan (unwrap_or o (uncalled t)).procedure ≡ true
      go None e = known
      go (Some c) e = a.procedure t c.procedure c.arguments (call_of-from is_txn-true w.history t c e)

-- a world of a run, explained by a log
module _ (plan : Plan) (start : Beginning) (begins : IsBeginning plan start) (schemes : HasSchemesFrom plan start.store) (laws : (S : Scheme) → IsSoundScheme S → LogLaws S start.store) (stores : StoreLaws) (coords : ℕ) (steps : List Stepped) (w : World) (run : IsRunBeside plan start coords steps w) (some : HasTransaction plan) where
  abbrev pub asked : TxnId → whole.Call
  asked = call_in some.0 w

  pub submissions : AreSubmissions plan w.history w.coords
  submissions = submissions_from plan start coords steps w run

  pub known : (t : TxnId) → is_transaction plan (asked t).procedure ≡ true
  known = procedures plan some.0 w submissions some.1

  abbrev pub S : Scheme
  S = schemes.scheme asked

  pub is : IsSchemeOf plan asked S
  is = schemes.of asked known

  pub sound : IsSoundScheme S
  sound = schemes.sound asked known

  pub logged : (log : Log) × IsLogged plan asked S start is (laws S sound) w log × AreRan plan asked S start log (ran_in steps) × AreKeptIn plan asked S start w log steps
  logged = run_logged plan asked S start is (laws S sound) stores begins coords steps w run (agrees plan some.0 w submissions)

  pub serial : ((S : Scheme) → IsSoundScheme S → SerialLaws S start.store) → IsSerialWitnessFrom plan.program start.store w.history w.order
  serial serials =
      let i = (laws S sound).holds logged.0 logged.1.means.reached in
      let submitted_in = λ (u : TxnId) (k : IsListed is_txn logged.0.order u). ordered_submitted plan asked S start is (laws S sound) w logged.0 logged.1 u (subst (λ l. IsListed is_txn l u) (sym logged.1.means.order) k) in
      witness plan asked S start is (laws S sound) (serials S sound) w logged.0 logged.1 (calls plan some.0 w submissions)
      (λ t h. schemes.replies asked known logged.0.order i.order.once (λ u k. ids plan some.0 w submissions u (submitted_in u k)) t h)

idle_serial : (plan : Plan) (start : Beginning) (w : World) → IsIdle plan start w → IsSerialWitnessFrom plan.program start.store w.history w.order
idle_serial plan start w i =
    subst (λ order. IsSerialWitnessFrom plan.program start.store w.history order) (sym i.order)
    (subst (λ history. IsSerialWitnessFrom plan.program start.store history []) (sym i.history)
    (record { once = tt; submitted = λ t h. absurd (omega arith); answered = λ t reply h. absurd h; replies = λ t reply h. absurd h; real_time = λ t u b l. absurd b }))

pub order_serial :
    (plan : Plan) (start : Beginning) → IsBeginning plan start → HasSchemesFrom plan start.store → ((S : Scheme) → IsSoundScheme S → LogLaws S start.store) → ((S : Scheme) → IsSoundScheme S → SerialLaws S start.store) → StoreLaws
    → (coords : ℕ) (steps : List Stepped) (w : World) → IsRunBeside plan start coords steps w → IsSerialWitnessFrom plan.program start.store w.history w.order
order_serial plan start begins schemes laws serials stores coords steps w run = elim (transaction_or_none plan) [
  | inl some ↦ serial plan start begins schemes laws stores coords steps w run some serials
  | inr none ↦ idle_serial plan start w (run_idle plan none start begins coords steps w run)
]
