-- Where all are answered, the nodes as they stand are a beginning
use Rattle.std.proofs.Common.{◌≡◌, ◌≢◌, ℕ, pos, ◌<◌, ◌≤◌, true, List, Option, Some, None, length, refl, sym, subst, inl, inr, arith}
use Rattle.std.specs.Prelude.{slice_get}
use Rattle.roc_base.specs.declared.id.TxnId.{TxnId}
use Rattle.roc_rows.specs.declared.cell.Cell.{Cell}
use Rattle.roc_rows.specs.Store.{read}
use Rattle.roc_plan.specs.Groups.{Plan, shard_of}
use Rattle.roc_whole.specs.Serial.{serial_store}
use Rattle.roc_law_log.specs.Scheme.{Scheme, IsSoundScheme}
use Rattle.roc_step.specs.Below.{is_ended}
use Rattle.roc_step.specs.State.{ServerState}
use Rattle.roc_coord.specs.State.{CoordState}
use Rattle.roc_coord.specs.Submit.{most_transactions}
use Rattle.roc_audit.specs.Witness.{submitted_calls}
use Rattle.roc_law_protocol.specs.PlanAssumptions.{HasSchemesFrom}
use Rattle.roc_law_protocol.specs.Beginnings.{Beginning, IsBeginning, store_in, next_in, below_in, left_by}
use Rattle.roc_law_protocol.specs.World.{World}
use Rattle.roc_law_protocol.specs.Run.{Stepped}
use Rattle.roc_law_protocol.specs.Beside.{IsRunBeside}
use Rattle.roc_law_protocol.specs.Inner.Given.{LogLaws, SerialLaws, StoreLaws}
use Rattle.roc_law_protocol.proofs.Idle.{run_idle}
use Rattle.roc_law_protocol.proofs.AcceptedSubmissions.{submissions_from}
use Rattle.roc_law_protocol.proofs.Counted.{run_counted}
use Rattle.roc_law_protocol.proofs.Named.{shard_below}
use Rattle.roc_law_protocol.proofs.Serial.{order_serial}
use Rattle.roc_law_protocol.proofs.Serial as serial
use Rattle.roc_law_protocol.proofs.Answered.{nexts_onward}
use Rattle.roc_law_protocol.proofs.Cells.{AreAllAnswered, cells_serial, cells_apart, run_servers}
use Rattle.roc_law_protocol.proofs.Hearing.{run_heard}
use Rattle.roc_law_protocol.proofs.Transactions.{transaction_or_none}

module _ (plan : Plan) (start : Beginning) (begins : IsBeginning plan start) (schemes : HasSchemesFrom plan start.store) (laws : (S : Scheme) → IsSoundScheme S → LogLaws S start.store) (serials : (S : Scheme) → IsSoundScheme S → SerialLaws S start.store) (stores : StoreLaws) (coords : ℕ) (steps : List Stepped) (w : World) (run : IsRunBeside plan start coords steps w) where
  -- a next sequence only rises
  onward : (n : ℕ) → start.nexts n ≤ next_in (start.nexts n) (slice_get w.coords n)
  onward n = go (slice_get w.coords n) refl
    where
      go : (o : Option CoordState) → slice_get w.coords n ≡ o → start.nexts n ≤ next_in (start.nexts n) o
      go (Some c) e = nexts_onward plan start begins schemes laws stores coords steps w run n c e
      go None e = let l : start.nexts n ≤ start.nexts n = omega arith in l

  -- what a server has heard of as ended is below it
  heard_below : (n : ℕ) (t : TxnId) → is_ended (below_in (start.below n) (slice_get w.servers n)) t ≡ true → t.seq < next_in (start.nexts t.coord) (slice_get w.coords t.coord)
  heard_below n t = go (slice_get w.servers n) refl
    where
      early : t.seq < start.nexts t.coord → t.seq < next_in (start.nexts t.coord) (slice_get w.coords t.coord)
      early l = let k = onward t.coord in omega arith

      go : (o : Option ServerState) → slice_get w.servers n ≡ o → is_ended (below_in (start.below n) o) t ≡ true → t.seq < next_in (start.nexts t.coord) (slice_get w.coords t.coord)
      go None e h = early (begins.ended n t h)
      go (Some s) e h = elim (transaction_or_none plan) [
        | inl some ↦ elim (((serial.logged plan start begins schemes laws stores coords steps w run some).1.means.servers n s e).ended t h) [
          | inl answered ↦
              (let a = ((serial.logged plan start begins schemes laws stores coords steps w run some).1.means.answers t).0 answered in
              let o = order_serial plan start begins schemes laws serials stores coords steps w run in
              let was = o.submitted t (o.answered t a.0 a.1) in
              let k = (submissions_from plan start coords steps w run).numbered t was.0 was.1 was.2 in
              used k.coord k.there k.below)
          | inr other ↦ elim other [
            | inl before ↦ early before
            | inr apart ↦ (let c = serial.other_used plan some.0 w (submissions_from plan start coords steps w run) t apart in used c.0 c.1 c.2)
          ]
        ]
        | inr none ↦ ((run_idle plan none start begins coords steps w run).servers n s e).ended t h
      ]
        where
          used : (c : CoordState) → slice_get w.coords t.coord ≡ Some c → t.seq < c.next → t.seq < next_in (start.nexts t.coord) (slice_get w.coords t.coord)
          used c at l = subst (λ (o : Option CoordState). t.seq < next_in (start.nexts t.coord) o) (sym at) l

  pub begins_anew : 0 < plan.program.shards → AreAllAnswered w → IsBeginning plan (left_by start w (serial_store plan.program start.store (submitted_calls w.history w.order)))
  begins_anew some all = record { cells = cells; elsewhere = elsewhere; marks = marks; ended = heard_below; few = few }
    where
      cells : (n : ℕ) (x : Cell) → shard_of plan x.place ≡ n → read (store_in (start.stores n) (slice_get w.servers n)) x ≡ read (serial_store plan.program start.store (submitted_calls w.history w.order)) x
      cells n x e =
          let s = run_servers plan start coords steps w run (shard_of plan x.place) (shard_below plan some x.place) in
          let at : slice_get w.servers n ≡ Some s.0 = subst (λ n. slice_get w.servers n ≡ Some s.0) e s.1 in
          subst (λ (o : Option ServerState). read (store_in (start.stores n) o) x ≡ read (serial_store plan.program start.store (submitted_calls w.history w.order)) x) (sym at)
          (cells_serial plan start begins schemes laws serials stores coords steps w run all x s.0 s.1)

      elsewhere : (n : ℕ) (x : Cell) → shard_of plan x.place ≢ n → read (store_in (start.stores n) (slice_get w.servers n)) x ≡ pos 0
      elsewhere n x apart = go (slice_get w.servers n) refl
        where
          go : (o : Option ServerState) → slice_get w.servers n ≡ o → read (store_in (start.stores n) o) x ≡ pos 0
          go (Some s) e = cells_apart plan start begins schemes laws stores coords steps w run n s e x apart
          go None e = begins.elsewhere n x apart

      marks : (n : ℕ) → length (below_in (start.below n) (slice_get w.servers n)) ≡ 16
      marks n = go (slice_get w.servers n) refl
        where
          go : (o : Option ServerState) → slice_get w.servers n ≡ o → length (below_in (start.below n) o) ≡ 16
          go (Some s) e = (run_heard plan start begins schemes laws stores 16 begins.marks coords steps w run).keeps n s e
          go None e = begins.marks n

      few : (n : ℕ) → next_in (start.nexts n) (slice_get w.coords n) ≤ most_transactions
      few n = go (slice_get w.coords n) refl
        where
          go : (o : Option CoordState) → slice_get w.coords n ≡ o → next_in (start.nexts n) o ≤ most_transactions
          go (Some c) e = ((run_counted plan start begins coords steps w run).few n c e).0
          go None e = begins.few n
