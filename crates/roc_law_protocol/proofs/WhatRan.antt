-- Orders that keep what servers tell as run are those that keep what ran in the log
use Rattle.std.proofs.Common.{◌≡◌, ◌≢◌, ℕ, zero, suc, ◌<◌, Bool, true, false, List, [], ◌∷◌, Some, length, map, refl, sym, ap, subst, ◌∙◌, inl, inr, arith, cond}
use Rattle.std.proofs.lemmas.Bool.{or_cases, or_left, or_right, false_from_ne_true}
use Rattle.std.proofs.lemmas.Option.{slice_get-map}
use Rattle.std.specs.Prelude.{slice_get, option_map}
use Rattle.roc_sequence.specs.Lists.{Has}
use Rattle.roc_sequence.specs.Places.{place_of, IsListed, IsListedBefore, NoneTwice}
use Rattle.roc_sequence.proofs.Found.{found_has}
use Rattle.roc_sequence.proofs.Members.{has_at, has_map}
use Rattle.roc_sequence.proofs.Places.{place_of-here, place_of-there}
use Rattle.roc_base.specs.declared.id.TxnId.{TxnId}
use Rattle.roc_base.specs.TxnId.{is_txn}
use Rattle.roc_group.specs.Accesses.{do_conflict}
use Rattle.roc_plan.specs.Groups.{Plan, is_immediate_of}
use Rattle.roc_whole.specs.Serial as whole
use Rattle.roc_law_orders.specs.Behaviour.{TxnGroup, is_txn_group, is_group_number, Use, is_written, Meet}
use Rattle.roc_law_orders.specs.Runs.{uses_in, Conflict}
use Rattle.roc_law_orders.proofs.SameGroups.{same_group, is_group-same}
use Rattle.roc_law_log.specs.Scheme.{Scheme}
use Rattle.roc_law_log.specs.Log.{Log}
use Rattle.roc_law_log.specs.Invariants.{LogInvariants}
use Rattle.roc_law_log.specs.Kept.{KeepsRan}
use Rattle.roc_step.specs.declared.started.StartedGroup.{StartedGroup}
use Rattle.roc_step.specs.State.{is_group, ServerState}
use Rattle.roc_law_protocol.specs.PlanAssumptions.{IsSchemeOf, use_of}
use Rattle.roc_law_protocol.specs.Beginnings.{Beginning}
use Rattle.roc_law_protocol.specs.World.{World}
use Rattle.roc_law_protocol.specs.Happens.{RanAt}
use Rattle.roc_law_protocol.specs.Run.{Stepped}
use Rattle.roc_law_protocol.specs.Kept.{ran_in, RanBefore, IsYetToRun, ConflictIn, KeepsWhatRan}
use Rattle.roc_law_protocol.specs.Inner.Given.{LogLaws}
use Rattle.roc_law_protocol.proofs.Means.{entry_run, place, Ran, Began, EntryMeans, ServerMeans, AreRan}
use Rattle.roc_law_protocol.proofs.SaidOfServers.{found_run, group_decided, found_or_decided}
use Rattle.roc_law_protocol.proofs.Meets.{meet_of, of_meet}
use Rattle.roc_law_protocol.proofs.Logged.{IsLogged}
use Rattle.roc_law_protocol.proofs.Witness.{run_listed}

-- ---- lists

abbrev group_of : RanAt → TxnGroup
group_of r = entry_run r.group

-- in a list without repeats each stands at its place
place_at : (rs : List TxnGroup) → NoneTwice is_txn_group rs → (n : ℕ) (r : TxnGroup) → slice_get rs n ≡ Some r → place_of (is_txn_group r) rs ≡ n
place_at [] once n r e = cc
place_at (q ∷ rs) once zero r e =
    let same : q ≡ r = cc in
    place_of-here (is_txn_group r) q rs (subst (λ r. is_txn_group r q ≡ true) same (is_group-same q))
place_at (q ∷ rs) once (suc n) r e =
    let apart : is_txn_group r q ≡ false = false_from_ne_true (is_txn_group r q) (λ t. once.0 (subst (IsListed is_txn_group rs) (same_group r q t) (run_listed rs r (has_at rs n r e)))) in
    place_of-there (is_txn_group r) q rs apart ∙ ap suc (place_at rs once.1 n r e)

-- what is listed was told, at its place
told_at : (rs : List RanAt) (q : TxnGroup) → IsListed is_txn_group (map group_of rs) q
    → (x : RanAt) × (slice_get rs (place_of (is_txn_group q) (map group_of rs)) ≡ Some x) × (group_of x ≡ q)
told_at [] q h = absurd (omega (arith, h))
told_at (z ∷ rs) q h = go (is_txn_group q (group_of z)) refl h (told_at rs q)
  where
    go : (b : Bool) → is_txn_group q (group_of z) ≡ b → cond b 0 (suc (place_of (is_txn_group q) (map group_of rs))) < suc (length (map group_of rs))
        → (IsListed is_txn_group (map group_of rs) q → (x : RanAt) × (slice_get rs (place_of (is_txn_group q) (map group_of rs)) ≡ Some x) × (group_of x ≡ q))
        → (x : RanAt) × (slice_get (z ∷ rs) (cond b 0 (suc (place_of (is_txn_group q) (map group_of rs)))) ≡ Some x) × (group_of x ≡ q)
    go true e l ih = (z, refl, sym (same_group q (group_of z) e))
    go false e l ih = let r = ih (omega (arith, l)) in (r.0, r.1, r.2)

other_way : (a b : List Use) → Meet a b → Meet b a
other_way a b m =
    record {
      cell = m.cell;
      first = m.second;
      second = m.first;
      one_writes = elim (or_cases (is_written m.cell a) (is_written m.cell b) m.one_writes) [
        | inl h ↦ or_right (is_written m.cell b) (is_written m.cell a) h
        | inr h ↦ or_left (is_written m.cell b) (is_written m.cell a) h
      ];
    }

module _ (plan : Plan) (asked : TxnId → whole.Call) (S : Scheme) (start : Beginning) (is : IsSchemeOf plan asked S) (laws : LogLaws S start.store) (steps : List Stepped) (w : World) (log : Log) (o : IsLogged plan asked S start is laws w log) (a : AreRan plan asked S start log (ran_in steps)) where
  i : LogInvariants S start.store log
  i = laws.holds log o.means.reached

  abbrev uses : StartedGroup → List Use
  uses e = uses_in S.behaviour start.store log.past.ran (entry_run e)

  -- what is kept of a group says what it uses in the log
  abbrev IsKept : StartedGroup → Type 0
  IsKept e = map use_of e.cells ≡ uses e

  to_conflict : (q r : StartedGroup) → IsKept q → IsKept r → do_conflict q.cells r.cells ≡ true → Conflict S.behaviour start.store log.past.ran (entry_run q) (entry_run r)
  to_conflict q r e f h = subst (λ l. Meet l (uses r)) e (subst (λ l. Meet (map use_of q.cells) l) f (meet_of q.cells r.cells h))

  of_conflict : (q r : StartedGroup) → IsKept q → IsKept r → Conflict S.behaviour start.store log.past.ran (entry_run q) (entry_run r) → do_conflict q.cells r.cells ≡ true
  of_conflict q r e f m = of_meet q.cells r.cells (subst (λ l. Meet l (map use_of r.cells)) (sym e) (subst (λ l. Meet (uses q) l) (sym f) m))

  told_ran : (q : RanAt) → Has q (ran_in steps) → Ran plan asked S start log (group_of q)
  told_ran q h = subst (λ l. IsListed is_txn_group l (group_of q)) (sym a.groups) (run_listed (map group_of (ran_in steps)) (group_of q) (has_map group_of q (ran_in steps) h))

  -- the log's list and the told one
  abbrev InTold : TxnGroup → Type 0
  InTold q = IsListed is_txn_group (map group_of (ran_in steps)) q

  in_told : (q : TxnGroup) → Ran plan asked S start log q → InTold q
  in_told q h = subst (λ l. IsListed is_txn_group l q) a.groups h

  -- the class of a group that is kept
  class : (e : StartedGroup) (n : ℕ) → EntryMeans plan asked S start log n e → S.is_immediate (entry_run e) ≡ is_immediate_of plan e.proc e.group
  class e n m = is.immediate (entry_run e) ∙ ap (λ p. is_immediate_of plan p e.group) (sym m.proc)

  -- ---- from the log

  module _ (O : List TxnId) (k : KeepsRan S start.store log O) where
    before : (q r : RanAt) → RanBefore steps q r → IsListedBefore is_txn_group log.past.ran (group_of q) (group_of r)
    before q r b =
        let once : NoneTwice is_txn_group (map group_of (ran_in steps)) = subst (NoneTwice is_txn_group) a.groups i.ran_once in
        let first = place_at (map group_of (ran_in steps)) once b.first (group_of q) (slice_get-map group_of (ran_in steps) b.first ∙ ap (option_map group_of) b.is_first) in
        let second = place_at (map group_of (ran_in steps)) once b.second (group_of r) (slice_get-map group_of (ran_in steps) b.second ∙ ap (option_map group_of) b.is_second) in
        let P : ℕ → ℕ → Type 0 = λ n m. n < m in
        let rises = subst (λ n. P n (place_of (is_txn_group (group_of r)) (map group_of (ran_in steps)))) (sym first) (subst (P b.first) (sym second) b.in_order) in
        subst (λ l. IsListedBefore is_txn_group l (group_of q) (group_of r)) (sym a.groups) rises

    before_waiting : (q : RanAt) (e : StartedGroup) → Has q (ran_in steps) → IsYetToRun plan w q.shard e → ConflictIn O q.group e → IsListedBefore is_txn O q.group.id e.id
    before_waiting q e h y c =
        let mine : ServerMeans plan asked S start log q.shard y.server = o.means.servers q.shard y.server y.there in
        let m = mine.groups.entries e y.here in
        let r = entry_run e in
        let later : S.is_immediate r ≡ false = is.immediate r ∙ (ap (λ p. is_immediate_of plan p e.group) (sym m.proc) ∙ y.deferrable) in
        let unran : ¬ Ran plan asked S start log r =
        (λ ran. y.undecided (group_decided plan asked S start log q.shard y.server mine e y.here (subst (λ n. IsListed is_txn (log.decided n) e.id) m.on (i.later_decided r ran later)))) in
        k.ran_alone r (group_of q) c.second c.first (λ same. c.other (sym same)) (i.are_groups r m.told.began) unran (told_ran q h)
        (other_way (uses q.group) (uses e) (to_conflict q.group e (a.each q h).cells m.cells c.conflict))

    pub from_log : KeepsWhatRan plan steps w O
    from_log =
        record {
          once = k.once;
          from = λ t h. subst (λ l. IsListed is_txn l t) (sym o.means.order) (k.from t h);
          all = λ t h. k.all t (subst (λ l. IsListed is_txn l t) o.means.order h);
          ran_first = λ q r b c.
              (let x = has_at (ran_in steps) b.first q b.is_first in
              let y = has_at (ran_in steps) b.second r b.is_second in
              k.ran_first (group_of q) (group_of r) c.first c.second c.other (told_ran q x) (told_ran r y) (to_conflict q.group r.group (a.each q x).cells (a.each r y).cells c.conflict) (before q r b));
          ran_alone = before_waiting;
        }

  -- ---- to the log

  module _ (there : (q : RanAt) → Has q (ran_in steps) → (s : ServerState) × (slice_get w.servers q.shard ≡ Some s)) (O : List TxnId) (k : KeepsWhatRan plan steps w O) where
    pairs :
        (x y : RanAt) (n m : ℕ) → slice_get (ran_in steps) n ≡ Some x → slice_get (ran_in steps) m ≡ Some y → n < m
        → IsListed is_txn O x.group.id → IsListed is_txn O y.group.id → x.group.id ≢ y.group.id → Conflict S.behaviour start.store log.past.ran (group_of x) (group_of y)
        → IsListedBefore is_txn O x.group.id y.group.id
    pairs x y n m e f l g h d c =
        let p = a.each x (has_at (ran_in steps) n x e) in
        let q = a.each y (has_at (ran_in steps) m y f) in
        k.ran_first x y
        (record { first = n; second = m; in_order = l; is_first = e; is_second = f; same_shard = sym p.on ∙ (laws.one_shard log i (group_of x) (group_of y) c ∙ q.on) })
        (record { first = g; second = h; other = d; conflict = of_conflict x.group y.group p.cells q.cells c })

    alone :
        (y : RanAt) (h : Has y (ran_in steps)) (s : ServerState) → slice_get w.servers y.shard ≡ Some s → (e : StartedGroup) → Has e s.started
        → Began plan asked S start log (entry_run e) → place plan asked S start log (entry_run e) ≡ y.shard → ¬ Ran plan asked S start log (entry_run e)
        → IsListed is_txn O e.id → IsListed is_txn O y.group.id → e.id ≢ y.group.id → Conflict S.behaviour start.store log.past.ran (entry_run e) (group_of y)
        → IsListedBefore is_txn O y.group.id e.id
    alone y h s at e here began on unran g l d c =
        let mine : ServerMeans plan asked S start log y.shard s = o.means.servers y.shard s at in
        let m = mine.groups.entries e here in
        let r = entry_run e in
        let later : S.is_immediate r ≡ false = false_from_ne_true (S.is_immediate r) (λ t. unran (i.now_ran r began t)) in
        k.ran_alone y e h
        (record {
          server = s;
          there = at;
          here = here;
          deferrable = sym (is.immediate r ∙ ap (λ p. is_immediate_of plan p e.group) (sym m.proc)) ∙ later;
          undecided = λ is_decided. unran (i.later_ran r began later (subst (λ n. IsListed is_txn (log.decided n) e.id) (sym on) (mine.back e.id is_decided)));
        })
        (record { first = l; second = g; other = λ same. d (sym same); conflict = of_conflict y.group e (a.each y h).cells m.cells (other_way (uses e) (uses y.group) c) })

    -- what began of a transaction that its shard decided has run
    ran_decided : (q : TxnGroup) (shard : ℕ) → Began plan asked S start log q → place plan asked S start log q ≡ shard → IsListed is_txn (log.decided shard) q.txn → Ran plan asked S start log q
    ran_decided q shard began on decided = go (S.is_immediate q) refl
      where
        go : (b : Bool) → S.is_immediate q ≡ b → Ran plan asked S start log q
        go true e = i.now_ran q began e
        go false e = i.later_ran q began e (subst (λ n. IsListed is_txn (log.decided n) q.txn) (sym on) decided)

    log_alone :
        (q : TxnGroup) (y : RanAt) → Has y (ran_in steps) → IsListed is_txn O q.txn → IsListed is_txn O y.group.id → q.txn ≢ y.group.id
        → IsListed is_group_number (S.behaviour.groups q.txn) q.group → ¬ Ran plan asked S start log q → Conflict S.behaviour start.store log.past.ran q (group_of y)
        → IsListedBefore is_txn O y.group.id q.txn
    log_alone q y h l m d listed unran c =
        let began : Began plan asked S start log q = i.whole q.txn (subst (λ l. IsListed is_txn l q.txn) o.means.order (k.from q.txn l)) q.group listed in
        let on : place plan asked S start log q ≡ y.shard = laws.one_shard log i q (group_of y) c ∙ (a.each y h).on in
        let s = there y h in
        elim (found_or_decided plan asked S start log y.shard s.0 (o.means.servers y.shard s.0 s.1) q began on) [
          | inl f ↦
              (let has = found_has (is_group q.txn q.group) s.0.started f.0 f.1 in
              let same = found_run q f.0 has.1 in
              let P : TxnGroup → Type 0 = λ q.
              Began plan asked S start log q → place plan asked S start log q ≡ y.shard → ¬ Ran plan asked S start log q → IsListed is_txn O q.txn → IsListed is_txn O y.group.id
              → q.txn ≢ y.group.id → Conflict S.behaviour start.store log.past.ran q (group_of y) → IsListedBefore is_txn O y.group.id q.txn in
              subst P same (λ b p u g m d c. alone y h s.0 s.1 f.0 has.0 b p u g m d c) began on unran l m d c)
          | inr decided ↦ absurd (unran (ran_decided q y.shard began on decided))
        ]

    pub to_log : KeepsRan S start.store log O
    to_log =
        record {
          once = k.once;
          from = λ t h. subst (λ l. IsListed is_txn l t) o.means.order (k.from t h);
          all = λ t h. k.all t (subst (λ l. IsListed is_txn l t) (sym o.means.order) h);
          ran_first = λ q r l m d ra rb c b.
              (let x = told_at (ran_in steps) q (in_told q ra) in
              let y = told_at (ran_in steps) r (in_told r rb) in
              let P : TxnGroup → TxnGroup → Type 0 = λ q r.
              IsListed is_txn O q.txn → IsListed is_txn O r.txn → q.txn ≢ r.txn → Conflict S.behaviour start.store log.past.ran q r → IsListedBefore is_txn O q.txn r.txn in
              let at : TxnGroup → ℕ = λ q. place_of (is_txn_group q) (map group_of (ran_in steps)) in
              let told = pairs x.0 y.0 (at q) (at r) x.1 y.1 (subst (λ l. IsListedBefore is_txn_group l q r) a.groups b) in
              subst (λ q. P q r) x.2 (subst (λ r. P (group_of x.0) r) y.2 told) l m d c);
          ran_alone = λ q r l m d listed unran rb c.
              (let y = told_at (ran_in steps) r (in_told r rb) in
              let has = has_at (ran_in steps) (place_of (is_txn_group r) (map group_of (ran_in steps))) y.0 y.1 in
              let P : TxnGroup → Type 0 = λ r. IsListed is_txn O r.txn → q.txn ≢ r.txn → Conflict S.behaviour start.store log.past.ran q r → IsListedBefore is_txn O r.txn q.txn in
              subst P y.2 (λ m d c. log_alone q y.0 has l m d listed unran c) m d c);
        }
