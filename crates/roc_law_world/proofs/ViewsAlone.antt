-- Where no procedure may write nothing is ordered, and what views call is a scheme
use Rattle.std.proofs.Common.{◌≡◌, ◌∙◌, ◌⊎◌, inl, inr, ℕ, ℤ, zero, suc, Bool, true, false, not, List, [], ◌∷◌, map, take, refl, sym, ap, subst, arith}
use Rattle.std.proofs.lemmas.Bool.{false≢true}
use Rattle.roc_sequence.specs.Lists.{Has}
use Rattle.roc_sequence.specs.Places.{IsListed}
use Rattle.roc_sequence.proofs.Members.{has_filter}
use Rattle.roc_base.specs.declared.id.TxnId.{TxnId}
use Rattle.roc_base.specs.TxnId.{is_txn}
use Rattle.roc_depgraph.proofs.Listed.{has_listed}
use Rattle.roc_plan.specs.Groups.{Plan, is_view_of}
use Rattle.roc_program.specs.Program.{Workload}
use Rattle.roc_rows.specs.Store.{Store}
use Rattle.roc_whole.specs.Serial as whole
use Rattle.roc_law_orders.specs.Runs.{stage_behind}
use Rattle.roc_law_orders.specs.Orders.{one_by_one}
use Rattle.roc_law_log.specs.Scheme.{Scheme, IsSoundScheme}
use Rattle.roc_audit.specs.declared.entry.Entry.{Entry}
use Rattle.roc_audit.specs.declared.entry.Entry.TheVariants.{Submitted, Answered}
use Rattle.roc_audit.specs.Witness.{IsSerialWitnessFrom}
use Rattle.roc_audit.specs.Woven.{Look, entry_id, without_views, AreLooks}
use Rattle.roc_law_protocol.specs.PlanAssumptions.{IsSchemeOf}
use Rattle.roc_law_protocol.proofs.Transactions.{NoTransaction}
use Rattle.roc_law_world.specs.World.{World, Beginning}
use Rattle.roc_law_world.specs.Run.{Stepped, IsRunFrom}
use Rattle.roc_law_world.specs.Witness.{was_answered, last_looks, shown}
use Rattle.roc_law_world.proofs.WovenOrder.{is_view, run_beside, submissions, called_in, LooksFit, IsCalled}

-- a call of this procedure, whose id is of the sequence behind
abbrev pub next_call : (proc : ℕ) → TxnId → whole.Call
next_call proc t = record { id = record { coord = t.coord; seq = suc t.seq }; procedure = proc; arguments = [] }

-- where nothing was told nobody was answered
none_shown : (looks : List Look) → last_looks (was_answered []) looks ≡ []
none_shown [] = refl
none_shown (l ∷ ls) = none_shown ls

-- and no look has to fit
no_looks : (program : Workload) (start : Store) (viewed : TxnId → Bool) (order : List TxnId) → AreLooks program start viewed [] order []
no_looks program start viewed order =
    record {
      once = tt;
      rising = tt;
      views = λ l h. absurd h;
      replies = λ v reply e h. absurd h;
      after = λ t l h. absurd h;
      before = λ u l h. absurd h;
      in_time = λ v u e f g h. absurd (omega arith);
    }

module _ (plan : Plan) (b : Beginning) (coords : ℕ) (steps : List Stepped) (w : World) (run : IsRunFrom plan b coords steps w) (none : NoTransaction plan)
    (base : IsSerialWitnessFrom plan.program b.of_transactions.store (without_views (is_view plan b coords steps w run) w.history) w.order) where
  abbrev viewed : TxnId → Bool
  viewed = is_view plan b coords steps w run

  -- no transaction was submitted
  none_submitted : (t : TxnId) (p : ℕ) (a : List ℤ) → ¬ Has (Submitted t p a) (run_beside plan b coords steps w run).world.history
  none_submitted t p a h = false≢true (sym (none p) ∙ (submissions plan b coords steps w run).procedure t p a h)

  none_told : (t : TxnId) (p : ℕ) (a : List ℤ) → ¬ Has (Submitted t p a) (without_views (is_view plan b coords steps w run) w.history)
  none_told t p a h = none_submitted t p a (subst (λ l. Has (Submitted t p a) l) (sym (run_beside plan b coords steps w run).holds.beside.history) h)

  none_ordered : w.order ≡ []
  none_ordered = go w.order refl
    where
      go : (order : List TxnId) → w.order ≡ order → order ≡ []
      go [] e = refl
      go (t ∷ ts) e = let s = base.submitted t (subst (λ l. IsListed is_txn l t) (sym e) (has_listed (t ∷ ts) t (inl refl))) in absurd (none_told t s.0 s.1 s.2)

  -- whatever is told is of views
  views_told : (e : Entry) → Has e w.history → viewed (entry_id e) ≡ true
  views_told e h = go (viewed (entry_id e)) refl
    where
      untold : (e : Entry) → ¬ Has e (without_views (is_view plan b coords steps w run) w.history)
      untold (Submitted t p a) k = none_told t p a k
      untold (Answered t reply) k = nobody t (subst (λ l. IsListed is_txn l t) none_ordered (base.answered t reply k))
        where
          nobody : (t : TxnId) → ¬ IsListed is_txn [] t
          nobody t l = omega arith

      go : (b : Bool) → viewed (entry_id e) ≡ b → viewed (entry_id e) ≡ true
      go true f = f
      go false f = absurd (untold e (has_filter (λ e. not (viewed (entry_id e))) e w.history h (ap not f)))

  -- so there is a view, or nothing was told
  pub view_or_none : ((proc : ℕ) × (is_view_of plan proc ≡ true)) ⊎ (w.history ≡ [])
  view_or_none = go w.history refl
    where
      go : (history : List Entry) → w.history ≡ history → ((proc : ℕ) × (is_view_of plan proc ≡ true)) ⊎ (w.history ≡ [])
      go [] e = inr e
      go (x ∷ xs) e = inl ((called_in w.history (entry_id x)).procedure, views_told x (subst (λ l. Has x l) (sym e) (inl refl)))

  pub views_called : (proc : ℕ) (S : Scheme) → IsSchemeOf plan (next_call proc) S → IsSoundScheme S → IsCalled plan b coords steps w run (next_call proc) S
  views_called proc S is sound =
      record {
        is = is;
        sound = sound;
        agrees = record {
          proc = λ t p a h. absurd (none_submitted t p a h);
          args = λ t p a h. absurd (none_submitted t p a h);
          id = λ t p a h. absurd (none_submitted t p a h);
          used = λ t c at below same. (let e = ap (λ (t : TxnId). t.seq) same in absurd (omega (arith, e)));
        };
        stages = λ k. subst (Leaves k) (sym none_ordered) (nothing k);
      }
    where
      Leaves : ℕ → List TxnId → Type 0
      Leaves k order =
          (stage_behind S.behaviour b.of_transactions.store (one_by_one S.behaviour (take k order))).store
          ≡ whole.serial_store plan.program b.of_transactions.store (map (next_call proc) (take k order))

      nothing : (k : ℕ) → Leaves k []
      nothing zero = refl
      nothing (suc k) = refl

  pub nothing_fits : w.history ≡ [] → LooksFit plan b coords steps w run
  nothing_fits untold =
      let empty : shown w ≡ [] = ap (λ h. last_looks (was_answered h) w.looks) untold ∙ none_shown w.looks in (
        subst (λ looks. AreLooks plan.program b.of_transactions.store viewed w.history w.order looks) (sym empty) (subst (λ h. AreLooks plan.program b.of_transactions.store viewed h w.order []) (sym untold) (no_looks plan.program b.of_transactions.store viewed w.order)),
        λ l h. absurd (subst (λ looks. Has l looks) empty h),
      )
