-- Where all are answered, the servers hold what the serial order leaves
use Rattle.std.proofs.Common.{◌≡◌, ◌≢◌, ℕ, ℤ, pos, zero, suc, ◌+◌, ◌<◌, Bool, true, false, List, Option, Some, None, map, refl, sym, ap, subst, ◌∙◌, inl, inr, arith}
use Rattle.std.proofs.lemmas.Bool.{cases_eq}
use Rattle.std.specs.Prelude.{slice_get, slice_set}
use Rattle.std.specs.List.{range_with_len}
use Rattle.roc_sequence.specs.Places.{IsListed}
use Rattle.roc_base.specs.declared.id.TxnId.{TxnId}
use Rattle.roc_base.specs.declared.node.Node.{Node}
use Rattle.roc_base.specs.declared.node.Node.TheVariants.{Server, Coord}
use Rattle.roc_base.specs.TxnId.{is_txn}
use Rattle.roc_depgraph.proofs.Listed.{has_listed}
use Rattle.roc_rows.specs.declared.cell.Cell.{Cell}
use Rattle.roc_rows.specs.Store.{Store, read}
use Rattle.roc_plan.specs.Groups.{Plan, shard_of}
use Rattle.roc_whole.specs.Serial as whole
use Rattle.roc_whole.specs.Serial.{serial_store}
use Rattle.roc_law_orders.specs.Behaviour.{TxnGroup, is_txn_group, is_group_number}
use Rattle.roc_law_orders.specs.Runs.{stage_behind}
use Rattle.roc_law_orders.specs.Orders.{one_by_one}
use Rattle.roc_law_log.specs.Scheme.{Scheme, IsSoundScheme}
use Rattle.roc_law_log.specs.Log.{Log, IsDecidedThroughout}
use Rattle.roc_law_log.specs.Invariants.{LogInvariants}
use Rattle.roc_step.specs.State.{ServerState}
use Rattle.roc_audit.specs.History.{WasSubmitted, WasAnswered}
use Rattle.roc_audit.specs.Witness.{submitted_call, submitted_calls}
use Rattle.roc_law_protocol.specs.PlanAssumptions.{IsSchemeOf, HasSchemesFrom}
use Rattle.roc_law_protocol.specs.declared.event.Event.{Event}
use Rattle.roc_law_protocol.specs.declared.event.Event.TheVariants.{Submit, Deliver, Tick, Stop}
use Rattle.roc_law_protocol.specs.Beginnings.{Beginning, IsBeginning, begun_server}
use Rattle.roc_law_protocol.specs.World.{World, mark_delivered}
use Rattle.roc_law_protocol.specs.Happens.{Outcome, IsReceived}
use Rattle.roc_law_protocol.specs.Run.{Stepped}
use Rattle.roc_law_protocol.specs.Beside.{Moves, IsRunBeside, beside_begins, beside_goes_on}
use Rattle.roc_law_protocol.specs.Inner.Given.{LogLaws, SerialLaws, StoreLaws}
use Rattle.roc_law_protocol.proofs.Means.{Began}
use Rattle.roc_law_protocol.proofs.Changed.{get-set_here, get-set_other}
use Rattle.roc_law_protocol.proofs.Idle.{IsIdle, run_idle}
use Rattle.roc_law_protocol.proofs.AcceptedSubmissions.{Submitting, is_refused, is_accepted, submitting}
use Rattle.roc_law_protocol.proofs.Logged.{IsLogged, ordered_submitted}
use Rattle.roc_law_protocol.proofs.Witness.{calls_are}
use Rattle.roc_law_protocol.proofs.Serial as serial
use Rattle.roc_law_protocol.proofs.Transactions.{transaction_or_none}
use Rattle.roc_law_protocol.proofs.Stops.{by_stop}

-- each that was submitted was answered
abbrev pub AreAllAnswered : World → Type 0
AreAllAnswered w = (t : TxnId) → WasSubmitted w.history t → (reply : List ℤ) × WasAnswered w.history t reply

-- the server of the cell's place holds what the serial order leaves there
abbrev pub IsCellSerial : Plan → Beginning → World → Cell → Type 0
IsCellSerial plan start w x =
    (s : ServerState) → slice_get w.servers (shard_of plan x.place) ≡ Some s
    → read s.store x ≡ read (serial_store plan.program start.store (submitted_calls w.history w.order)) x

module _ (plan : Plan) (asked : TxnId → whole.Call) (S : Scheme) (start : Beginning) (is : IsSchemeOf plan asked S) (laws : LogLaws S start.store) (serials : SerialLaws S start.store) (w : World) (log : Log) (o : IsLogged plan asked S start is laws w log) (all : AreAllAnswered w) where
  i : LogInvariants S start.store log
  i = laws.holds log o.means.reached

  throughout : (q : TxnGroup) → Began plan asked S start log q → IsDecidedThroughout S start.store log q.txn
  throughout q began = let a = all q.txn (o.began q began) in (o.means.answered q.txn a.0 a.1).throughout

  -- all groups of the order's transactions ran, and no others
  of_order : (q : TxnGroup) → IsListed is_txn_group log.past.ran q → IsListed is_txn log.order q.txn
  of_order q h = (throughout q (i.ran_started q h)).in_order

  all_ran : (q : TxnGroup) → IsListed is_txn log.order q.txn → IsListed is_group_number (S.behaviour.groups q.txn) q.group → IsListed is_txn_group log.past.ran q
  all_ran q h l = go (S.is_immediate q) refl
    where
      began : Began plan asked S start log q
      began = i.whole q.txn h q.group l

      go : (b : Bool) → S.is_immediate q ≡ b → IsListed is_txn_group log.past.ran q
      go true e = i.now_ran q began e
      go false e = i.later_ran q began e ((throughout q began).everywhere q.group l)

  pub cells_by_log : ((t : TxnId) → WasSubmitted w.history t → submitted_call t w.history ≡ Some (asked t))
      → ((stage_behind S.behaviour start.store (one_by_one S.behaviour log.order)).store ≡ serial_store plan.program start.store (map asked log.order)) → (x : Cell) → IsCellSerial plan start w x
  cells_by_log calls whole_stores x s there =
      (o.means.servers (shard_of plan x.place) s there).part.cells x (is.cell_shard x)
      ∙ (sym (serials.last log o.means.reached x of_order all_ran)
      ∙ (ap (λ (store : Store). read store x) whole_stores
      ∙ ap (λ cs. read (serial_store plan.program start.store cs) x)
      (sym (calls_are asked w.history w.order (λ u k. calls u (ordered_submitted plan asked S start is laws w log o u (has_listed w.order u k))) ∙ ap (map asked) o.means.order))))

idle_cells : (plan : Plan) (start : Beginning) → IsBeginning plan start → (w : World) → IsIdle plan start w → (x : Cell) → IsCellSerial plan start w x
idle_cells plan start begins w i x s there =
    ap (λ (store : Store). read store x) (i.servers (shard_of plan x.place) s there).store
    ∙ (begins.cells (shard_of plan x.place) x refl
    ∙ ap (λ order. read (serial_store plan.program start.store (submitted_calls w.history order)) x) (sym i.order))

pub cells_serial :
    (plan : Plan) (start : Beginning) → IsBeginning plan start → HasSchemesFrom plan start.store → ((S : Scheme) → IsSoundScheme S → LogLaws S start.store) → ((S : Scheme) → IsSoundScheme S → SerialLaws S start.store) → StoreLaws
    → (coords : ℕ) (steps : List Stepped) (w : World) → IsRunBeside plan start coords steps w → AreAllAnswered w → (x : Cell) → IsCellSerial plan start w x
cells_serial plan start begins schemes laws serials stores coords steps w run all x = elim (transaction_or_none plan) [
  | inl some ↦
      (let asked = serial.asked plan start begins schemes laws stores coords steps w run some in
      let S = serial.S plan start begins schemes laws stores coords steps w run some in
      let sound = serial.sound plan start begins schemes laws stores coords steps w run some in
      let l = serial.logged plan start begins schemes laws stores coords steps w run some in
      cells_by_log plan asked S start (serial.is plan start begins schemes laws stores coords steps w run some) (laws S sound) (serials S sound) w l.0 l.1 all
      (serial.calls plan some.0 w (serial.submissions plan start begins schemes laws stores coords steps w run some))
      (schemes.stores asked (serial.known plan start begins schemes laws stores coords steps w run some) l.0.order) x)
  | inr none ↦ idle_cells plan start begins w (run_idle plan none start begins coords steps w run) x
]

-- a server holds nothing of the cells of other shards
pub cells_apart :
    (plan : Plan) (start : Beginning) → IsBeginning plan start → HasSchemesFrom plan start.store → ((S : Scheme) → IsSoundScheme S → LogLaws S start.store) → (stores : StoreLaws)
    → (coords : ℕ) (steps : List Stepped) (w : World) → IsRunBeside plan start coords steps w
    → (n : ℕ) (s : ServerState) → slice_get w.servers n ≡ Some s → (x : Cell) → shard_of plan x.place ≢ n → read s.store x ≡ pos 0
cells_apart plan start begins schemes laws stores coords steps w run n s there x apart = elim (transaction_or_none plan) [
  | inl some ↦
      (let is = serial.is plan start begins schemes laws stores coords steps w run some in
      let l = serial.logged plan start begins schemes laws stores coords steps w run some in
      (l.1.means.servers n s there).part.elsewhere x (λ e. apart (sym (is.cell_shard x) ∙ e)))
  | inr none ↦
      ap (λ (store : Store). read store x) ((run_idle plan none start begins coords steps w run).servers n s there).store
      ∙ begins.elsewhere n x apart
]

-- ---- each shard has its server

-- what is found at each place below a number
abbrev HasAll : {A : Type 0} → List A → ℕ → Type 0
HasAll {A} xs count = (n : ℕ) → n < count → (a : A) × (slice_get xs n ≡ Some a)

all_ranged : {A : Type 0} (f : ℕ → A) (a count : ℕ) → HasAll (map f (range_with_len a count)) count
all_ranged f a zero n l = absurd (omega (arith, l))
all_ranged f a (suc count) zero l = (f a, refl)
all_ranged f a (suc count) (suc n) l = all_ranged f (a + 1) count n (omega (arith, l))

all_set : {A : Type 0} (xs : List A) (count i : ℕ) (a b : A) → slice_get xs i ≡ Some a → HasAll xs count → HasAll (slice_set xs i b) count
all_set xs count i a b e h n l = elim (cases_eq i n) [
  | inl same ↦ (b, subst (λ n. slice_get (slice_set xs i b) n ≡ Some b) same (get-set_here xs i a b e))
  | inr other ↦ (let x = h n l in (x.0, get-set_other xs i n b other ∙ x.1))
]

step_servers : (plan : Plan) (w : World) (count : ℕ) → HasAll w.servers count → (e : Option Event) (o : Outcome) → Moves plan w e o → HasAll o.world.servers count
step_servers plan w count h None o (inl c) = subst (λ (o : Outcome). HasAll o.world.servers count) (sym c) h
step_servers plan w count h None o (inr x) = subst (λ (o : Outcome). HasAll o.world.servers count) (sym x.is) h
step_servers plan w count h (Some (Submit n proc args)) o (s, there, c) = go (submitting plan w n proc args s o c)
  where
    go : Submitting plan w n proc args s o → HasAll o.world.servers count
    go (is_refused e) = subst (λ (v : World). HasAll v.servers count) (sym e) h
    go (is_accepted known counted e) = subst (λ (v : World). HasAll v.servers count) (sym e) h
step_servers plan w count h (Some (Deliver k)) o (m, some, there, c) = go m.to c
  where
    go : (to : Node) → IsReceived plan (mark_delivered w k) m.msg to o → HasAll o.world.servers count
    go (Server shard) (s, r, at, step, e) = subst (λ (o : Outcome). HasAll o.world.servers count) (sym e) (all_set w.servers count shard.0 s r.state at h)
    go (Coord n) (s, at, e) = subst (λ (o : Outcome). HasAll o.world.servers count) (sym e) h
step_servers plan w count h (Some (Tick (Server shard))) o (s, there, e) = subst (λ (o : Outcome). HasAll o.world.servers count) (sym e) (all_set w.servers count shard.0 s s there h)
step_servers plan w count h (Some (Tick (Coord n))) o (s, there, e) = subst (λ (o : Outcome). HasAll o.world.servers count) (sym e) h
step_servers plan w count h (Some (Stop shard during)) o x =
    by_stop plan w shard.0 (λ v. HasAll v.servers count) h (λ k m sent. h) (λ k many m s r sent there handles. all_set w.servers count shard.0 s r.state there h) (λ v s p there. all_set v.servers count shard.0 s s there p) during o x

all_servers : (plan : Plan) (start : Beginning) (coords : ℕ) (steps : List Stepped) (w : World) → IsRunBeside plan start coords steps w → HasAll w.servers plan.program.shards
all_servers plan start coords steps w beside_begins = all_ranged (begun_server start) 0 plan.program.shards
all_servers plan start coords steps w (beside_goes_on {w = v} e o r h) = step_servers plan v plan.program.shards (all_servers plan start coords _ v r) e o h

pub run_servers : (plan : Plan) (start : Beginning) (coords : ℕ) (steps : List Stepped) (w : World) → IsRunBeside plan start coords steps w → (n : ℕ) → n < plan.program.shards → (s : ServerState) × (slice_get w.servers n ≡ Some s)
run_servers plan start coords steps w run = all_servers plan start coords steps w run
