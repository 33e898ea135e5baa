-- Where nothing is unanswered nothing is pending and no view is open, and the world leaves a beginning
use Rattle.std.proofs.Common.{◌≡◌, ◌∙◌, ◌⊎◌, inl, inr, ℕ, ℤ, ◌≤◌, Bool, not, List, [], ◌∷◌, Option, Some, None, map, refl, sym, ap, subst}
use Rattle.std.specs.Prelude.{slice_get, pos, unsigned_abs}
use Rattle.std.specs.List.{filter}
use Rattle.std.specs.Int.{int_rem_euclid}
use Rattle.roc_sequence.specs.Lists.{Has}
use Rattle.roc_sequence.specs.Places.{IsListed}
use Rattle.roc_base.specs.declared.id.TxnId.{TxnId}
use Rattle.roc_base.specs.TxnId.{is_txn}
use Rattle.roc_plan.specs.Groups.{Plan, shard_of}
use Rattle.roc_plan.specs.Accepted.{IsAccepted}
use Rattle.roc_rows.specs.Store.{Store}
use Rattle.roc_whole.specs.Serial.{serial_store}
use Rattle.roc_step.specs.State.{ServerState, Viewing}
use Rattle.roc_coord.specs.declared.transaction.Transaction.{Transaction}
use Rattle.roc_coord.specs.State.{CoordState}
use Rattle.roc_audit.specs.History.{WasSubmitted, WasAnswered}
use Rattle.roc_audit.specs.Witness.{submitted_calls, IsSerialWitnessFrom}
use Rattle.roc_audit.specs.Woven.{without_views}
use Rattle.roc_law_protocol.specs.Beginnings as protocol
use Rattle.roc_rows.specs.Versions.{version}
use Rattle.roc_rows.specs.declared.cell.Cell.{Cell}
use Rattle.roc_law_world.specs.World.{World, Beginning}
use Rattle.roc_law_world.specs.Beginnings.{IsViewBeginning}
use Rattle.roc_law_world.specs.Run.{Stepped, IsRunFrom}
use Rattle.roc_law_world.specs.Witness.{witness_of}
use Rattle.roc_law_world.proofs.AnsweringRuns.{told_in_runs}
use Rattle.roc_law_world.proofs.LooksLeave.{answered_beside, witness_leaves}
use Rattle.roc_law_world.proofs.WovenOrder.{is_view, tells_them, run_beside}
use Rattle.roc_law_world.proofs.Versions.{most}
use Rattle.roc_two_files.specs.Left.{AreDrained, versions_in, left_behind}
use Rattle.roc_two_files.proofs.SmallVersions.{run_small}

pub nobody : {A : Type 0} (xs : List A) → ((x : A) → ¬ Has x xs) → xs ≡ []
nobody [] f = refl
nobody (x ∷ xs) f = absurd (f x (inl refl))

no_map : {A B : Type 0} (f : A → B) (xs : List A) → map f xs ≡ [] → xs ≡ []
no_map f [] e = refl
no_map f (x ∷ xs) e = absurd (cc)

module _ (plan : Plan) (b : Beginning) (coords : ℕ) (steps : List Stepped) (w : World) (run : IsRunFrom plan b coords steps w) where
  abbrev v : TxnId → Bool
  v = is_view plan b coords steps w run

  -- a coordinator of which nothing is unanswered
  pub at_rest : (n : ℕ) (c : CoordState) → slice_get w.coords n ≡ Some c → c.unanswered ≡ [] → (c.pending ≡ []) × (c.views ≡ [])
  at_rest n c there none = (
    no_map (λ (x : Transaction). x.id) c.pending (((run_beside plan b coords steps w run).holds.coords n c there).pending ∙ ap (filter (λ t. not (v t))) none),
    nobody c.views (λ x h. subst (Has x.id) none ((told_in_runs plan b coords v steps w run (tells_them plan b coords steps w run)).views n c there x h)),
  )

  -- where nothing is, whatever was submitted was answered
  pub all_answered : AreDrained w.coords → (t : TxnId) → WasSubmitted w.history t → (reply : List ℤ) × WasAnswered w.history t reply
  all_answered drained t s = go ((told_in_runs plan b coords v steps w run (tells_them plan b coords steps w run)).kept t s)
    where
      go : (c : CoordState) × (slice_get w.coords t.coord ≡ Some c) × (Has t c.unanswered ⊎ ((reply : List ℤ) × WasAnswered w.history t reply)) → (reply : List ℤ) × WasAnswered w.history t reply
      go (c, there, inl h) = absurd (subst (Has t) (drained t.coord c there) h)
      go (c, there, inr r) = r

  module _ (accepted : IsAccepted plan) (begins : IsViewBeginning plan b) (drained : AreDrained w.coords)
      (ordered : IsSerialWitnessFrom plan.program b.of_transactions.store (run_beside plan b coords steps w run).world.history (run_beside plan b coords steps w run).world.order)
      (left : ((t : TxnId) → WasSubmitted (run_beside plan b coords steps w run).world.history t → (reply : List ℤ) × WasAnswered (run_beside plan b coords steps w run).world.history t reply)
      → protocol.IsBeginning plan (protocol.left_by b.of_transactions (run_beside plan b coords steps w run).world
      (serial_store plan.program b.of_transactions.store (submitted_calls (run_beside plan b coords steps w run).world.history (run_beside plan b coords steps w run).world.order)))) where
    submitted : (t : TxnId) → IsListed is_txn w.order t → WasSubmitted (without_views v w.history) t
    submitted t h =
        let r = run_beside plan b coords steps w run in
        subst (λ l. WasSubmitted l t) r.holds.beside.history (ordered.submitted t (subst (λ l. IsListed is_txn l t) (sym r.holds.beside.order) h))

    answered : (t : TxnId) → WasSubmitted (run_beside plan b coords steps w run).world.history t → (reply : List ℤ) × WasAnswered (run_beside plan b coords steps w run).world.history t reply
    answered =
        let r = run_beside plan b coords steps w run in
        subst (λ l. (t : TxnId) → WasSubmitted l t → (reply : List ℤ) × WasAnswered l t reply) (sym r.holds.beside.history)
        (answered_beside plan v w.history (tells_them plan b coords steps w run) (λ t p a h plain. all_answered drained t (p, a, h)))

    -- what is left, by parts
    abbrev parts : List ServerState → List CoordState → Store → protocol.Beginning
    parts servers coordinators store =
        record {
          store = store;
          stores = λ n. protocol.store_in (b.of_transactions.stores n) (slice_get servers n);
          nexts = λ n. protocol.next_in (b.of_transactions.nexts n) (slice_get coordinators n);
          below = λ n. protocol.below_in (b.of_transactions.below n) (slice_get servers n);
        }

    store_same :
        serial_store plan.program b.of_transactions.store (submitted_calls (run_beside plan b coords steps w run).world.history (run_beside plan b coords steps w run).world.order)
        ≡ serial_store plan.program b.of_transactions.store (submitted_calls w.history (witness_of w))
    store_same =
        let r = run_beside plan b coords steps w run in
        (λ i. serial_store plan.program b.of_transactions.store (submitted_calls (r.holds.beside.history i) (r.holds.beside.order i)))
        ∙ sym (witness_leaves plan b coords v steps w accepted run (tells_them plan b coords steps w run) submitted b.of_transactions.store)

    pub begins_again : IsViewBeginning plan (left_behind plan b w)
    begins_again =
        let r = run_beside plan b coords steps w run in
        record {
          of_transactions = subst (protocol.IsBeginning plan) (λ i. parts (r.holds.beside.servers i) (r.holds.beside.coords i) (store_same i)) (left answered);
          versions = λ n x. few n x (slice_get w.viewing n) refl;
        }
      where
        few : (n : ℕ) (x : Cell) (o : Option Viewing) → slice_get w.viewing n ≡ o → version (versions_in (b.versions n) o) x ≤ most
        few n x None e = begins.versions n x
        few n x (Some z) e = run_small plan b begins.versions coords steps w run n z e x

-- a beginning speaks of the number of shards alone
pub begins_grown : (plan grown : Plan) → grown.program.shards ≡ plan.program.shards → (b : Beginning) → IsViewBeginning plan b → IsViewBeginning grown b
begins_grown plan grown same b begins =
    record {
      of_transactions = record {
        cells = λ n x on. begins.of_transactions.cells n x (placed x ∙ on);
        elsewhere = λ n x off. begins.of_transactions.elsewhere n x (λ on. off (sym (placed x) ∙ on));
        marks = begins.of_transactions.marks;
        ended = begins.of_transactions.ended;
        few = begins.of_transactions.few;
      };
      versions = begins.versions;
    }
  where
    placed : (x : Cell) → shard_of plan x.place ≡ shard_of grown x.place
    placed x = ap (λ k. unsigned_abs (int_rem_euclid x.place (pos k))) (sym same)
