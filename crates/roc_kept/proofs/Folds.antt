-- Messages that a server took, one by one: each of them was taken behind those before it
use Rattle.std.proofs.Common.{◌≡◌, ◌⊎◌, inl, inr, Bool, true, false, List, [], ◌∷◌, ◌++◌, refl, sym, ap, subst, ◌∙◌, append_assoc}
use Rattle.std.proofs.lemmas.Bool.{false≢true}
use Rattle.std.proofs.lemmas.List.{append-nil, map-append}
use Rattle.roc_sequence.proofs.Appended.{same_more}
use Rattle.roc_base.specs.declared.node.Shard.{Shard}
use Rattle.roc_journal.specs.declared.record.Record.{Record}
use Rattle.roc_msg.specs.declared.msg.Msg.{Msg}
use Rattle.roc_plan.specs.Groups.{Plan}
use Rattle.roc_step.specs.Reads.{is_taken}
use Rattle.roc_step.specs.Restarts.{IsKeptFold, nothing_kept, one_more_kept}
use Rattle.roc_step.specs.State.{ServerState, ServerStep, Viewing}
use Rattle.roc_step.specs.Step.{Handles}
use Rattle.roc_kept.specs.Kept.{messages_in, ComesOf}
use Rattle.roc_kept.proofs.Keeping.{OneStep}

-- a list is empty or has a last
pub ends_with : {A : Type 0} (xs : List A) → (xs ≡ []) ⊎ ((front : List A) × (last : A) × (xs ≡ front ++ last ∷ []))
ends_with [] = inl refl
ends_with {A} (x ∷ xs) = go (ends_with xs)
  where
    go : (xs ≡ []) ⊎ ((front : List A) × (last : A) × (xs ≡ front ++ last ∷ [])) → (x ∷ xs ≡ []) ⊎ ((front : List A) × (last : A) × (x ∷ xs ≡ front ++ last ∷ []))
    go (inl e) = inr ([], x, ap (λ l. x ∷ l) e)
    go (inr (front, last, e)) = inr (x ∷ front, last, ap (λ l. x ∷ l) e)

-- the messages before this one, and that it was taken behind them
pub record WasTaken (plan : Plan) (shard : Shard) (front : List Msg) (m : Msg) : Type 0 where
  pub state : ServerState
  pub viewing : Viewing
  pub fold : IsKeptFold plan shard front state viewing
  pub step : ServerStep
  pub handles : Handles plan state m step
  pub taken : is_taken step.answer ≡ true

module _ (plan : Plan) (shard : Shard) where
  taken_there : {msgs : List Msg} {s : ServerState} {v : Viewing} → IsKeptFold plan shard msgs s v → (front more : List Msg) (m : Msg) → msgs ≡ front ++ m ∷ more → WasTaken plan shard front m
  taken_there nothing_kept front more m e = absurd (none front e)
    where
      none : (front : List Msg) → [] ≡ front ++ m ∷ more → ⊥
      none [] e = absurd cc
      none (x ∷ xs) e = absurd cc
  taken_there (one_more_kept {msgs = xs} {s = t} {v = u} n r q f handles reads taken) front more m e = go (ends_with more) (λ init is. taken_there f front init m is)
    where
      go : (more ≡ []) ⊎ ((init : List Msg) × (last : Msg) × (more ≡ init ++ last ∷ [])) → ((init : List Msg) → xs ≡ front ++ m ∷ init → WasTaken plan shard front m) → WasTaken plan shard front m
      go (inl none) rec =
          let same = same_more xs front n m (e ∙ ap (λ ms. front ++ m ∷ ms) none) in
          record { state = t; viewing = u; fold = subst (λ ms. IsKeptFold plan shard ms t u) same.0 f; step = r; handles = subst (λ m. Handles plan t m r) same.1 handles; taken = taken }
      go (inr (init, last, is)) rec = rec init (same_more xs (front ++ m ∷ init) n last (e ∙ ap (λ ms. front ++ m ∷ ms) is ∙ sym (append_assoc front (m ∷ init) (last ∷ [])))).0

abbrev pub OneFold : Type 0
OneFold = (plan : Plan) (shard : Shard) (msgs : List Msg) (s t : ServerState) (v u : Viewing) → IsKeptFold plan shard msgs s v → IsKeptFold plan shard msgs t u → (s ≡ t) × (v ≡ u)

module _ (one : OneStep) (one_fold : OneFold) (plan : Plan) (shard : Shard) where
  -- a record that is ignored behind others is none of those that a server took
  pub not_taken_here : (records more all : List Record) (r : Record) (s t : ServerState) (v u : Viewing) (step : ServerStep) → IsKeptFold plan shard (messages_in all) s v → all ≡ records ++ r ∷ more
      → IsKeptFold plan shard (messages_in records) t u → Handles plan t r.msg step → is_taken step.answer ≡ false → ⊥
  not_taken_here records more all r s t v u step fold e before handles ignored =
      let w = taken_there plan shard fold (messages_in records) (messages_in more) r.msg (ap (λ rs. messages_in rs) e ∙ map-append (λ (r : Record). r.msg) records (r ∷ more)) in
      let same = (one_fold plan shard (messages_in records) w.state t w.viewing u w.fold before).0 in
      let steps : w.step ≡ step = one plan t r.msg w.step step (subst (λ s. Handles plan s r.msg w.step) same w.handles) handles in
      false≢true (sym ignored ∙ (ap (λ (r : ServerStep). is_taken r.answer) (sym steps) ∙ w.taken))

-- ---- what comes of records, one by one

-- all were taken, or one was ignored behind those before it
pub record FirstIgnored (plan : Plan) (shard : Shard) (all : List Record) : Type 0 where
  pub before : List Record
  pub ignored : Record
  pub more : List Record
  pub is : all ≡ before ++ ignored ∷ more
  pub state : ServerState
  pub viewing : Viewing
  pub fold : IsKeptFold plan shard (messages_in before) state viewing
  pub step : ServerStep
  pub handles : Handles plan state ignored.msg step
  pub not_taken : is_taken step.answer ≡ false

abbrev pub AllTaken : Plan → Shard → List Record → Type 0
AllTaken plan shard all = (s : ServerState) × (v : Viewing) × IsKeptFold plan shard (messages_in all) s v

module _ (plan : Plan) (shard : Shard) (out : (s : ServerState) (v : Viewing) (msg : Msg) → ComesOf plan msg s v) (all : List Record) where
  taken_or_ignored_from : (left front : List Record) (s : ServerState) (v : Viewing) → all ≡ front ++ left → IsKeptFold plan shard (messages_in front) s v → AllTaken plan shard all ⊎ FirstIgnored plan shard all
  taken_or_ignored_from [] front s v e f = inl (s, v, subst (λ rs. IsKeptFold plan shard (messages_in rs) s v) (sym (e ∙ append-nil front)) f)
  taken_or_ignored_from (r ∷ rs) front s v e f =
      go (is_taken c.step.answer) refl (λ g. taken_or_ignored_from rs (front ++ r ∷ []) c.step.state c.reads.viewing (e ∙ sym (append_assoc front (r ∷ []) rs)) g)
    where
      c : ComesOf plan r.msg s v
      c = out s v r.msg

      go : (b : Bool) → is_taken c.step.answer ≡ b → (IsKeptFold plan shard (messages_in (front ++ r ∷ [])) c.step.state c.reads.viewing → AllTaken plan shard all ⊎ FirstIgnored plan shard all) → AllTaken plan shard all ⊎ FirstIgnored plan shard all
      go true taken rec =
          rec (subst (λ ms. IsKeptFold plan shard ms c.step.state c.reads.viewing) (sym (map-append (λ (r : Record). r.msg) front (r ∷ []))) (one_more_kept r.msg c.step c.reads f c.handles c.answers taken))
      go false ignored rec = inr (record { before = front; ignored = r; more = rs; is = e; state = s; viewing = v; fold = f; step = c.step; handles = c.handles; not_taken = ignored })

  pub taken_or_ignored : AllTaken plan shard all ⊎ FirstIgnored plan shard all
  taken_or_ignored = taken_or_ignored_from all [] _ _ refl nothing_kept
