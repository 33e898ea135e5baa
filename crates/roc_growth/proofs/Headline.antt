-- The order of a world of two files explains its history
use Rattle.std.proofs.Common.{◌≡◌, ◌∙◌, inl, inr, ℕ, ℤ, ◌<◌, true, List, ◌++◌, Option, length, map, sym, ap, subst, append-nil}
use Rattle.roc_sequence.specs.Lists.{Has}
use Rattle.roc_sequence.specs.Places.{IsListed, IsListedBefore}
use Rattle.roc_sequence.proofs.Places.{listed_by_before}
use Rattle.roc_base.specs.declared.id.TxnId.{TxnId}
use Rattle.roc_base.specs.TxnId.{is_txn}
use Rattle.roc_rows.specs.Store.{Store, empty}
use Rattle.roc_plan.specs.Groups.{Plan}
use Rattle.roc_whole.specs.Serial.{after_inits, start_store}
use Rattle.roc_audit.specs.declared.entry.Entry.{Entry}
use Rattle.roc_audit.specs.declared.entry.Entry.TheVariants.{Submitted}
use Rattle.roc_audit.specs.History.{WasSubmitted}
use Rattle.roc_audit.specs.Witness.{IsSerialWitness, IsSerialWitnessFrom}
use Rattle.roc_law_world.specs.World.{World, first_beginning}
use Rattle.roc_law_world.specs.Witness as views
use Rattle.roc_epoch.specs.declared.next.Next.{Next}
use Rattle.roc_epoch.specs.Files.{IsNextOf, last_plan}
use Rattle.roc_two_files.specs.Left.{AreDrained}
use Rattle.roc_two_files.specs.Filed.{IsFiledWitness}
use Rattle.roc_two_files.specs.Orders.{later_by, witness_of_both}
use Rattle.roc_two_files.proofs.FiledRuns.{filed}
use Rattle.roc_two_files.proofs.GrownRuns.{witness_stays}
use Rattle.roc_two_files.proofs.Late.{run_late}
use Rattle.roc_growth.specs.World.{GrownWorld, is_second}
use Rattle.roc_growth.specs.Run.{Stepped}
use Rattle.roc_growth.specs.Epochs.{AreEpochs, second_begun}
use Rattle.roc_growth.specs.Witness.{witness_of}
use Rattle.roc_growth.proofs.Halves.{last_grows, all_drained, second_true, of_second, old_procedure}

module _ (plan : Plan) (next : Option Next) (coords : ℕ) (steps : List Stepped) (g : GrownWorld) (e : AreEpochs plan next coords steps g) where
  -- ---- where nothing happened in the second world

  module _ (none : e.v ≡ second_begun plan next coords e.w) where
    pub first_history : g.history ≡ e.w.history
    first_history = e.two.history ∙ (ap (λ (v : World). e.w.history ++ v.history) none ∙ append-nil e.w.history)

    first_order : g.order ≡ e.w.order
    first_order = e.two.order ∙ (ap (λ (v : World). e.w.order ++ v.order) none ∙ append-nil e.w.order)

    first_looks : g.looks ≡ e.w.looks
    first_looks = e.two.looks ∙ (ap (λ (v : World). e.w.looks ++ map (later_by (length e.w.order)) v.looks) none ∙ append-nil e.w.looks)

    pub first_witness : witness_of g ≡ views.witness_of e.w
    first_witness = λ i. views.witness_in (first_history i) (first_order i) (first_looks i)

  -- ---- where all servers have switched

  pub both_witness : witness_of g ≡ witness_of_both e.w e.v
  both_witness = λ i. views.witness_in (e.two.history i) (e.two.order i) (e.two.looks i)

  -- ---- the witness

  module _ (of : IsNextOf plan next) (some : 0 < length e.w.servers) (alone : IsSerialWitnessFrom plan.program (start_store plan.program) e.w.history (views.witness_of e.w))
      (both : AreDrained e.w.coords → IsSerialWitness (last_plan plan next).program (e.w.history ++ e.v.history) (witness_of_both e.w e.v)) where
    starts_alike : start_store (last_plan plan next).program ≡ start_store plan.program
    starts_alike = ap (after_inits empty) (last_grows plan next of).inits

    known : (t : TxnId) (proc : ℕ) (args : List ℤ) → Has (Submitted t proc args) e.w.history → proc < length plan.program.procedures
    known t proc args h = ((run_late plan (first_beginning plan) coords e.first_steps e.w e.first).known t proc args h).0

    abbrev Explains : List Entry → List TxnId → Type 0
    Explains history order = IsSerialWitnessFrom (last_plan plan next).program (start_store plan.program) history order

    -- it explains the history from the first file's cells on
    from_first : Explains g.history (witness_of g)
    from_first = elim e.begun [
      | inl none ↦
          (let w = witness_stays plan.program (last_plan plan next).program (last_grows plan next of) e.w.history known (start_store plan.program) (views.witness_of e.w) alone in
          subst (λ h. Explains h (witness_of g)) (sym (first_history none)) (subst (Explains e.w.history) (sym (first_witness none)) w))
      | inr all ↦
          (let w = subst (λ (s : Store). IsSerialWitnessFrom (last_plan plan next).program s (e.w.history ++ e.v.history) (witness_of_both e.w e.v)) starts_alike
          (both (all_drained plan next coords steps g e some all)) in
          subst (λ h. Explains h (witness_of g)) (sym e.two.history) (subst (Explains (e.w.history ++ e.v.history)) (sym both_witness) w))
    ]

    pub serial : IsSerialWitness (last_plan plan next).program g.history (witness_of g)
    serial = subst (λ (s : Store). IsSerialWitnessFrom (last_plan plan next).program s g.history (witness_of g)) (sym starts_alike) from_first

    pub filed_so : IsFiledWitness plan.program (last_plan plan next).program (is_second g) (start_store plan.program) g.history (witness_of g)
    filed_so =
        filed plan.program (last_plan plan next).program (last_grows plan next of) (is_second g) g.history (old_procedure plan next coords steps g e) (start_store plan.program) (witness_of g)
        from_first

    -- none of the second file stands before one of the first
    pub in_turn : (AreDrained e.w.coords → (u t : TxnId) → IsListed is_txn (witness_of_both e.w e.v) t → IsListedBefore is_txn (witness_of_both e.w e.v) u t → WasSubmitted e.v.history u → WasSubmitted e.v.history t)
        → (u t : TxnId) → IsListed is_txn (witness_of g) t → IsListedBefore is_txn (witness_of g) u t → is_second g u ≡ true → is_second g t ≡ true
    in_turn turns u t there before second = elim e.begun [
      | inl none ↦ absurd (let k = subst (λ (v : World). WasSubmitted v.history u) none late in k.2)
      | inr all ↦
          second_true plan next coords steps g e t
          (turns (all_drained plan next coords steps g e some all) u t (subst (λ o. IsListed is_txn o t) both_witness there) (subst (λ o. IsListedBefore is_txn o u t) both_witness before) late)
    ]
      where
        late : WasSubmitted e.v.history u
        late = of_second plan next coords steps g e u (serial.submitted u (listed_by_before is_txn (witness_of g) u t before)) second
