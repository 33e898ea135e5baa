-- What stays of a server's state as buffered groups run
use Rattle.std.proofs.Common.{◌≡◌, ℕ, ℤ, Bool, true, false, not, cond, ◌||◌, List, [], ◌∷◌, ◌++◌, Option, Some, None, refl, sym, ap, subst, ◌∙◌, inl, inr}
use Rattle.std.proofs.lemmas.Bool.{false≢true, false_from_ne_true, cond-true, cond-false, or_left, or_right}
use Rattle.std.specs.Prelude.{if◌then◌else◌, filter, find, filter_map}
use Rattle.std.specs.List.{range_with_len}
use Rattle.roc_sequence.specs.Lists.{Has}
use Rattle.roc_sequence.proofs.Holds.{any_has, has_any}
use Rattle.roc_sequence.proofs.Found.{found_has}
use Rattle.roc_sequence.proofs.Members.{from_has_map}
use Rattle.roc_base.specs.declared.id.TxnId.{TxnId}
use Rattle.roc_base.specs.TxnId.{is_txn}
use Rattle.roc_plan.specs.Groups.{Plan, is_immediate_of}
use Rattle.roc_group.specs.GroupRun.{group_run}
use Rattle.roc_step.specs.declared.started.StartedGroup.{StartedGroup}
use Rattle.roc_step.specs.State.{is_here, is_group, find_group, ServerState, unrun}
use Rattle.roc_step.specs.Runs.{group_call, with_later, run_group, run_groups, buffered_here, all_buffered, take_all, count_of_groups}

-- running groups leaves the lists, the number and the watermarks alone
groups_keep : (plan : Plan) (es : List StartedGroup) (st : ServerState) → ((run_groups plan st es).lists ≡ st.lists) × ((run_groups plan st es).shard ≡ st.shard) × ((run_groups plan st es).below ≡ st.below)
groups_keep plan [] st = (refl, refl, refl)
groups_keep plan (e ∷ es) st = groups_keep plan es (run_group plan st e)

pub take_keeps : (plan : Plan) (ts : List TxnId) (st : ServerState) → ((take_all plan st ts).lists ≡ st.lists) × ((take_all plan st ts).shard ≡ st.shard) × ((take_all plan st ts).below ≡ st.below)
take_keeps plan [] st = (refl, refl, refl)
take_keeps plan (t ∷ ts) st =
    let a = take_keeps plan ts (run_groups plan st (buffered_here plan t st.started)) in
    let b = groups_keep plan (buffered_here plan t st.started) st in
    (a.0 ∙ b.0, a.1 ∙ b.1, a.2 ∙ b.2)

-- ---- what is kept of a started group stays, but what it gave later

abbrev later_if : StartedGroup → List ℤ → StartedGroup → StartedGroup
later_if e outs g = if is_group e.id e.group g then record g { later = Some outs } else g

later_same : (e : StartedGroup) (outs : List ℤ) (g : StartedGroup) → unrun (later_if e outs g) ≡ unrun g
later_same e outs g = go (is_group e.id e.group g)
  where
    go : (b : Bool) → unrun (if b then record g { later = Some outs } else g) ≡ unrun g
    go true = refl
    go false = refl

-- the groups of the one list are those of the other
pub record SameGroups (old new : List StartedGroup) : Type 0 where
  pub from : (e : StartedGroup) → Has e new → (f : StartedGroup) × Has f old × (unrun e ≡ unrun f)
  pub found : (id : TxnId) (g : ℕ) (e : StartedGroup) → find_group id g old ≡ Some e → (f : StartedGroup) × (find_group id g new ≡ Some f) × (unrun f ≡ unrun e)
  pub here : (id : TxnId) → is_here id old ≡ true → is_here id new ≡ true

pub same_itself : (es : List StartedGroup) → SameGroups es es
same_itself es = record { from = λ e h. (e, h, refl); found = λ id g e h. (e, h, refl); here = λ id h. h }

pub same_chain : (a b c : List StartedGroup) → SameGroups a b → SameGroups b c → SameGroups a c
same_chain a b c p q =
    record {
      from = λ e h. (let x = q.from e h in let y = p.from x.0 x.1 in (y.0, y.1, x.2 ∙ y.2));
      found = λ id g e h. (let x = p.found id g e h in let y = q.found id g x.0 x.1 in (y.0, y.1, y.2 ∙ x.2));
      here = λ id h. q.here id (p.here id h);
    }

with_later_same : (e : StartedGroup) (outs : List ℤ) (es : List StartedGroup) → SameGroups es (with_later e outs es)
with_later_same e outs es =
    record {
      from = λ f h. (let g = from_has_map (later_if e outs) f es h in (g.0, g.1, ap unrun g.2 ∙ later_same e outs g.0));
      found = λ id g f h. (later_if e outs f, find_it es id g f h, later_same e outs f);
      here = λ id h. here_it es id h;
    }
  where
    same_test : (id : TxnId) (g : ℕ) (f : StartedGroup) → is_group id g (later_if e outs f) ≡ is_group id g f
    same_test id g f = ap (λ (f : StartedGroup). is_group id g f) (later_same e outs f)

    find_it : (es : List StartedGroup) (id : TxnId) (g : ℕ) (f : StartedGroup) → find_group id g es ≡ Some f → find_group id g (with_later e outs es) ≡ Some (later_if e outs f)
    find_it [] id g f h = absurd (cc)
    find_it (x ∷ es) id g f h = go (is_group id g x) (same_test id g x) h (find_it es id g f)
      where
        go : (b : Bool) → is_group id g (later_if e outs x) ≡ b → cond b (Some x) (find_group id g es) ≡ Some f → (find_group id g es ≡ Some f → find_group id g (with_later e outs es) ≡ Some (later_if e outs f)) → cond (is_group id g (later_if e outs x)) (Some (later_if e outs x)) (find_group id g (with_later e outs es)) ≡ Some (later_if e outs f)
        go true t k ih = cond-true (is_group id g (later_if e outs x)) (Some (later_if e outs x)) (find_group id g (with_later e outs es)) t ∙ ap (λ y. Some (later_if e outs y)) (just k)
          where
            just : Some x ≡ Some f → x ≡ f
            just k = cc
        go false t k ih = cond-false (is_group id g (later_if e outs x)) (Some (later_if e outs x)) (find_group id g (with_later e outs es)) t ∙ ih k

    here_it : (es : List StartedGroup) (id : TxnId) → is_here id es ≡ true → is_here id (with_later e outs es) ≡ true
    here_it [] id h = h
    here_it (x ∷ es) id h = go (is_txn x.id id) (ap (λ (f : StartedGroup). is_txn f.id id) (later_same e outs x)) h (here_it es id)
      where
        go : (b : Bool) → is_txn (later_if e outs x).id id ≡ b → (b || is_here id es) ≡ true → (is_here id es ≡ true → is_here id (with_later e outs es) ≡ true) → (is_txn (later_if e outs x).id id || is_here id (with_later e outs es)) ≡ true
        go true t k ih = or_left (is_txn (later_if e outs x).id id) (is_here id (with_later e outs es)) t
        go false t k ih = or_right (is_txn (later_if e outs x).id id) (is_here id (with_later e outs es)) (ih k)

groups_same : (plan : Plan) (es : List StartedGroup) (st : ServerState) → SameGroups st.started (run_groups plan st es).started
groups_same plan [] st = same_itself st.started
groups_same plan (e ∷ es) st = same_chain st.started (run_group plan st e).started (run_groups plan (run_group plan st e) es).started (with_later_same e (group_run plan (group_call e) st.store).reply st.started) (groups_same plan es (run_group plan st e))

pub take_same : (plan : Plan) (ts : List TxnId) (st : ServerState) → SameGroups st.started (take_all plan st ts).started
take_same plan [] st = same_itself st.started
take_same plan (t ∷ ts) st =
    let es = buffered_here plan t st.started in
    same_chain st.started (run_groups plan st es).started (take_all plan (run_groups plan st es) ts).started (groups_same plan es st) (take_same plan ts (run_groups plan st es))

-- and no others have groups
pub same_here : (old new : List StartedGroup) → SameGroups old new → (id : TxnId) → is_here id new ≡ true → is_here id old ≡ true
same_here old new same id h =
    let q = any_has (λ (e : StartedGroup). is_txn e.id id) new h in
    let f = same.from q.0 q.1 in
    has_any (λ (e : StartedGroup). is_txn e.id id) old f.0 f.1 (subst (λ (e : StartedGroup). is_txn e.id id ≡ true) f.2 q.2)

-- ---- transactions without a group here run nothing

pub buffered_none : (plan : Plan) (t : TxnId) (started : List StartedGroup) → is_here t started ≡ false → buffered_here plan t started ≡ []
buffered_none plan t started none = go (find (λ (e : StartedGroup). is_txn e.id t) started) refl
  where
    go : (o : Option StartedGroup) → find (λ (e : StartedGroup). is_txn e.id t) started ≡ o
        → filter (λ (e : StartedGroup). not (is_immediate_of plan e.proc e.group)) (filter_map (λ g. find_group t g started) (range_with_len 0 (count_of_groups plan o))) ≡ []
    go None f = refl
    go (Some e) f = let k = found_has (λ (e : StartedGroup). is_txn e.id t) started e f in absurd (false≢true (sym none ∙ has_any (λ (e : StartedGroup). is_txn e.id t) started e k.0 k.1))

module _ (plan : Plan) (p : TxnId → Bool) where
  pub take_some : (ts : List TxnId) (st : ServerState) → ((t : TxnId) → Has t ts → p t ≡ false → is_here t st.started ≡ false) → take_all plan st ts ≡ take_all plan st (filter p ts)
  take_some [] st none = refl
  take_some (t ∷ ts) st none = go (p t) refl (take_some ts)
    where
      after : ServerState
      after = run_groups plan st (buffered_here plan t st.started)

      go : (b : Bool) → p t ≡ b → ((st : ServerState) → ((u : TxnId) → Has u ts → p u ≡ false → is_here u st.started ≡ false) → take_all plan st ts ≡ take_all plan st (filter p ts))
          → take_all plan after ts ≡ take_all plan st (cond b (t ∷ filter p ts) (filter p ts))
      go true e ih = ih after (λ u h f. false_from_ne_true (is_here u after.started) (λ k. false≢true (sym (none u (inr h) f) ∙ same_here st.started after.started (groups_same plan (buffered_here plan t st.started) st) u k)))
      go false e ih = ap (λ es. take_all plan (run_groups plan st es) ts) (buffered_none plan t st.started (none t (inl refl) e)) ∙ ih st (λ u h f. none u (inr h) f)

  pub buffered_some : (started : List StartedGroup) (ts : List TxnId) → ((t : TxnId) → Has t ts → p t ≡ false → is_here t started ≡ false) → all_buffered plan started ts ≡ all_buffered plan started (filter p ts)
  buffered_some started [] none = refl
  buffered_some started (t ∷ ts) none = go (p t) refl (buffered_some started ts (λ u h f. none u (inr h) f))
    where
      go : (b : Bool) → p t ≡ b → all_buffered plan started ts ≡ all_buffered plan started (filter p ts) → buffered_here plan t started ++ all_buffered plan started ts ≡ all_buffered plan started (cond b (t ∷ filter p ts) (filter p ts))
      go true e ih = ap (λ es. buffered_here plan t started ++ es) ih
      go false e ih = ap (λ es. es ++ all_buffered plan started ts) (buffered_none plan t started (none t (inl refl) e)) ∙ ih
