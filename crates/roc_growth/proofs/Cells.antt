-- What the servers of two files hold is what their order leaves
use Rattle.std.proofs.Common.{◌≡◌, ◌≢◌, ◌∙◌, inl, inr, ℕ, ℤ, ◌<◌, ◌≤◌, Bool, true, false, List, ◌++◌, Option, Some, length, map, refl, sym, ap, subst, arith}
use Rattle.std.specs.Prelude.{slice_get, pos, unsigned_abs}
use Rattle.std.specs.Int.{int_rem_euclid}
use Rattle.roc_sequence.specs.Lists.{Has}
use Rattle.roc_sequence.proofs.Members.{has_append, has_right}
use Rattle.roc_base.specs.declared.id.TxnId.{TxnId}
use Rattle.roc_base.specs.declared.node.Shard.{Shard}
use Rattle.roc_rows.specs.declared.cell.Cell.{Cell}
use Rattle.roc_rows.specs.Store.{Store, read, empty}
use Rattle.roc_program.specs.Program.{Procedure}
use Rattle.roc_plan.specs.Groups.{Plan, is_view_of, shard_of}
use Rattle.roc_whole.specs.Serial.{after_inits, start_store, serial_store}
use Rattle.roc_whole.proofs.SerialRuns.{serial_store-append}
use Rattle.roc_step.specs.Renewed.{renewed}
use Rattle.roc_step.specs.State.{ServerState}
use Rattle.roc_audit.specs.declared.entry.Entry.{Entry}
use Rattle.roc_audit.specs.declared.entry.Entry.TheVariants.{Submitted, Answered}
use Rattle.roc_audit.specs.History.{WasAnswered}
use Rattle.roc_audit.specs.Witness.{submitted_calls, IsSerialWitnessFrom}
use Rattle.roc_audit.specs.Woven.{Look}
use Rattle.roc_law_world.specs.World.{World, first_beginning}
use Rattle.roc_law_world.specs.Witness as views
use Rattle.roc_law_world.proofs.Outcomes.{there as stands_within}
use Rattle.roc_epoch.specs.declared.next.Next.{Next}
use Rattle.roc_epoch.specs.Files.{IsNextOf, last_plan}
use Rattle.roc_two_files.specs.Left.{AreDrained, left_behind}
use Rattle.roc_two_files.specs.Orders.{witness_of_both}
use Rattle.roc_two_files.proofs.Composed.{calls}
use Rattle.roc_two_files.proofs.GrownRuns.{procedure_stays, same_store, witness_stays}
use Rattle.roc_two_files.proofs.Late.{run_late}
use Rattle.roc_two_files.proofs.TwoRuns.{order_joined}
use Rattle.roc_grown.specs.Server.{GrownServerState}
use Rattle.roc_growth.specs.World.{GrownWorld}
use Rattle.roc_growth.specs.Run.{Stepped}
use Rattle.roc_growth.specs.Epochs.{AreEpochs, second_begun}
use Rattle.roc_growth.specs.Witness.{witness_of}
use Rattle.roc_growth.proofs.Halves.{last_grows, all_drained, apart}
use Rattle.roc_growth.proofs.Plainly.{from_map}
use Rattle.roc_growth.proofs.Headline.{first_history, first_witness, both_witness}

module _ (plan : Plan) (next : Option Next) (coords : ℕ) (steps : List Stepped) (g : GrownWorld) (e : AreEpochs plan next coords steps g) where
  -- a server holds in the second world what it holds in the grown one
  pub second_holds : (n : ℕ) (s : GrownServerState) → slice_get g.servers n ≡ Some s → (y : ServerState) × (slice_get e.v.servers n ≡ Some y) × (y.store ≡ s.core.store)
  second_holds n s at = go s.switched refl
    where
      go : (b : Bool) → s.switched ≡ b → (y : ServerState) × (slice_get e.v.servers n ≡ Some y) × (y.store ≡ s.core.store)
      go true is = (s.core, (e.two.second_servers n s at is).0, refl)
      go false is = (renewed s.core, (e.two.awaited_servers n s at is).0, refl)

  -- where nothing happened there, it holds that in the first world
  pub first_holds : (second_begun plan next coords e.w).servers ≡ map renewed e.w.servers → e.v ≡ second_begun plan next coords e.w
      → (n : ℕ) (s : GrownServerState) → slice_get g.servers n ≡ Some s → (z : ServerState) × (slice_get e.w.servers n ≡ Some z) × (z.store ≡ s.core.store)
  first_holds anew none n s at =
      let y = second_holds n s at in
      let z = from_map renewed e.w.servers n y.0 (subst (λ l. slice_get l n ≡ Some y.0) (ap (λ (v : World). v.servers) none ∙ anew) y.1) in
      (z.0, z.1, ap (λ (y : ServerState). y.store) (sym z.2) ∙ y.2)

  module _ (of : IsNextOf plan next) where
    abbrev last : Plan
    last = last_plan plan next

    pub placed_alike : (place : ℤ) → shard_of last place ≡ shard_of plan place
    placed_alike place = ap (λ k. unsigned_abs (int_rem_euclid place (pos k))) (last_grows plan next of).shards

    -- each shard has its server, without any cell of another one
    pub each_shard : length e.w.servers ≡ plan.program.shards → (n : ℕ) → n < last.program.shards → (s : GrownServerState) × (slice_get g.servers n ≡ Some s)
    each_shard shards n l =
        let long = e.two.servers in
        let same = (last_grows plan next of).shards in
        let within : n < length g.servers = omega arith in
        stands_within g.servers n within

    pub none_elsewhere : ((shard : Shard) (s : ServerState) → slice_get e.w.servers shard.0 ≡ Some s → (x : Cell) → shard_of plan x.place ≢ shard.0 → read s.store x ≡ pos 0)
        → (AreDrained e.w.coords → (shard : Shard) (s : ServerState) → slice_get e.v.servers shard.0 ≡ Some s → (x : Cell) → shard_of last x.place ≢ shard.0 → read s.store x ≡ pos 0)
        → (shard : Shard) (s : GrownServerState) → slice_get g.servers shard.0 ≡ Some s → (x : Cell) → shard_of last x.place ≢ shard.0 → read s.core.store x ≡ pos 0
    none_elsewhere first second shard s at x off = go s.switched refl
      where
        go : (b : Bool) → s.switched ≡ b → read s.core.store x ≡ pos 0
        go false is = first shard s.core (e.two.first_servers shard.0 s at is).0 x (λ on. off (placed_alike x.place ∙ on))
        go true is = second (e.drained shard.0 s at is) shard s.core (e.two.second_servers shard.0 s at is).0 x off

    known : (t : TxnId) (proc : ℕ) (args : List ℤ) → Has (Submitted t proc args) e.w.history → proc < length plan.program.procedures
    known t proc args h = ((run_late plan (first_beginning plan) coords e.first_steps e.w e.first).known t proc args h).0

    -- a procedure of the first file is a view where it is one of the last
    pub viewed_alike : (proc : ℕ) → proc < length plan.program.procedures → is_view_of last proc ≡ is_view_of plan proc
    viewed_alike proc l = ap (λ (p : Procedure). p.is_view) (procedure_stays plan.program last.program (last_grows plan next of) proc l)

    starts_alike : start_store last.program ≡ start_store plan.program
    starts_alike = ap (after_inits empty) (last_grows plan next of).inits

    abbrev leaves : List Entry → List TxnId → Store
    leaves history order = serial_store last.program (start_store plan.program) (submitted_calls history order)

    -- what is left in the end
    in_the_end : serial_store last.program (start_store last.program) (submitted_calls g.history (witness_of g)) ≡ leaves g.history (witness_of g)
    in_the_end = ap (λ s. serial_store last.program s (submitted_calls g.history (witness_of g))) starts_alike

    first_leaves : leaves e.w.history (views.witness_of e.w) ≡ serial_store plan.program (start_store plan.program) (submitted_calls e.w.history (views.witness_of e.w))
    first_leaves = same_store plan.program last.program (last_grows plan next of) e.w.history known (start_store plan.program) (views.witness_of e.w)

    abbrev left : Store
    left = (left_behind plan (first_beginning plan) e.w).of_transactions.store

    module _ (alone : IsSerialWitnessFrom plan.program (start_store plan.program) e.w.history (views.witness_of e.w)) (few : (l : Look) → Has l (views.shown e.w) → l.behind ≤ length e.w.order)
        (second : IsSerialWitnessFrom last.program left e.v.history (views.witness_of e.v)) where
      both_leave : leaves (e.w.history ++ e.v.history) (witness_of_both e.w e.v) ≡ serial_store last.program left (submitted_calls e.v.history (views.witness_of e.v))
      both_leave =
          ap (leaves (e.w.history ++ e.v.history))
          (order_joined plan last (first_beginning plan) coords e.first_steps e.second_steps e.w e.v e.first e.second (last_grows plan next of) alone second few)
          ∙ (ap (serial_store last.program (start_store plan.program))
          (calls last.program (start_store plan.program) e.w.history e.v.history (views.witness_of e.w) (views.witness_of e.v)
          (witness_stays plan.program last.program (last_grows plan next of) e.w.history known (start_store plan.program) (views.witness_of e.w) alone)
          (subst (λ s. IsSerialWitnessFrom last.program s e.v.history (views.witness_of e.v)) (sym first_leaves) second)
          (apart plan next coords steps g e))
          ∙ (serial_store-append last.program (start_store plan.program) (submitted_calls e.w.history (views.witness_of e.w)) (submitted_calls e.v.history (views.witness_of e.v))
          ∙ ap (λ s. serial_store last.program s (submitted_calls e.v.history (views.witness_of e.v))) first_leaves))

    -- each transaction of a history is answered
    abbrev pub AreAllAnswered : Plan → List Entry → Type 0
    AreAllAnswered plan history = (t : TxnId) (proc : ℕ) (args : List ℤ) → Has (Submitted t proc args) history → is_view_of plan proc ≡ false → (reply : List ℤ) × WasAnswered history t reply

    -- the servers of a world hold what an order leaves
    abbrev pub Hold : Plan → List ServerState → Store → Type 0
    Hold plan servers store = (x : Cell) (s : ServerState) → slice_get servers (shard_of plan x.place) ≡ Some s → read s.store x ≡ read store x

    module _ (some : 0 < length e.w.servers) (anew : (second_begun plan next coords e.w).servers ≡ map renewed e.w.servers)
        (alone : IsSerialWitnessFrom plan.program (start_store plan.program) e.w.history (views.witness_of e.w)) (few : (l : Look) → Has l (views.shown e.w) → l.behind ≤ length e.w.order)
        (second : AreDrained e.w.coords → IsSerialWitnessFrom last.program left e.v.history (views.witness_of e.v))
        (first_cells : AreAllAnswered plan e.w.history → Hold plan e.w.servers (serial_store plan.program (start_store plan.program) (submitted_calls e.w.history (views.witness_of e.w))))
        (second_cells : AreDrained e.w.coords → AreAllAnswered last e.v.history → Hold last e.v.servers (serial_store last.program left (submitted_calls e.v.history (views.witness_of e.v)))) where
      module _ (all : AreAllAnswered last g.history) where
        first_answered : e.v ≡ second_begun plan next coords e.w → AreAllAnswered plan e.w.history
        first_answered none t proc args h plain =
            let r = all t proc args (subst (Has (Submitted t proc args)) (sym (first_history plan next coords steps g e none)) h) (viewed_alike proc (known t proc args h) ∙ plain) in
            (r.0, subst (Has (Answered t r.0)) (first_history plan next coords steps g e none) r.1)

        second_answered : AreAllAnswered last e.v.history
        second_answered t proc args h plain =
            let r = all t proc args (subst (Has (Submitted t proc args)) (sym e.two.history) (has_right (Submitted t proc args) e.w.history e.v.history h)) plain in
            elim (has_append (Answered t r.0) e.w.history e.v.history (subst (Has (Answered t r.0)) e.two.history r.1)) [
              | inl k ↦ absurd (apart plan next coords steps g e t (alone.submitted t (alone.answered t r.0 k)) (proc, args, h))
              | inr k ↦ (r.0, k)
            ]

        pub hold : (x : Cell) (s : GrownServerState) → slice_get g.servers (shard_of last x.place) ≡ Some s
            → read s.core.store x ≡ read (serial_store last.program (start_store last.program) (submitted_calls g.history (witness_of g))) x
        hold x s at = elim e.begun [
          | inl none ↦
              (let z = first_holds anew none (shard_of last x.place) s at in
              let there = subst (λ n. slice_get e.w.servers n ≡ Some z.0) (placed_alike x.place) z.1 in
              let store = in_the_end ∙ ((λ i. leaves (first_history plan next coords steps g e none i) (first_witness plan next coords steps g e none i)) ∙ first_leaves) in
              ap (λ s. read s x) (sym z.2) ∙ (first_cells (first_answered none) x z.0 there ∙ ap (λ s. read s x) (sym store)))
          | inr switched ↦
              (let drained = all_drained plan next coords steps g e some switched in
              let y = second_holds (shard_of last x.place) s at in
              let store = in_the_end ∙ ((λ i. leaves (e.two.history i) (both_witness plan next coords steps g e i)) ∙ both_leave alone few (second drained)) in
              ap (λ s. read s x) (sym y.2) ∙ (second_cells drained second_answered x y.0 y.1 ∙ ap (λ s. read s x) (sym store)))
        ]
