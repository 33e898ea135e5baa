-- Versions count what ran
use Rattle.std.proofs.Common.{◌≡◌, ◌≢◌, ◌∙◌, inl, inr, ℕ, suc, ◌+◌, ◌-◌, ◌^◌, min, Bool, true, false, ◌&&◌, ◌||◌, cond, List, [], ◌∷◌, ◌++◌, map, length, refl, sym, ap, subst, arith}
use Rattle.std.proofs.lemmas.Bool.{false≢true}
use Rattle.std.specs.List.{filter}
use Rattle.roc_sequence.specs.Lists.{Has}
use Rattle.roc_base.specs.declared.id.TxnId.{TxnId}
use Rattle.roc_rows.specs.declared.cell.Cell.{Cell}
use Rattle.roc_rows.specs.Cells.{is_cell}
use Rattle.roc_rows.proofs.CellLaws.{is_cell-true, is_cell-same}
use Rattle.roc_rows.specs.Versions.{Counts, version, counted}
use Rattle.roc_rows.proofs.Counts.{version-counted_same, version-counted_other}
use Rattle.roc_msg.specs.declared.outbox.Ran.{Ran}
use Rattle.roc_plan.specs.Groups.{Plan}
use Rattle.roc_whole.specs.Serial as whole
use Rattle.roc_group.specs.declared.access.Access.{Access}
use Rattle.roc_law_orders.specs.Behaviour.{TxnGroup, is_written, Use}
use Rattle.roc_law_orders.specs.Runs.{uses_in, inputs_at, stage_before}
use Rattle.roc_law_orders.proofs.SameGroups.{written_used}
use Rattle.roc_law_log.specs.Scheme.{Scheme, IsSoundScheme}
use Rattle.roc_law_log.specs.Log.{Log, shard_at}
use Rattle.roc_law_log.specs.Invariants.{LogInvariants, LogGrows}
use Rattle.roc_law_log.specs.Clean.{writes_of, writes_among, writes_to}
use Rattle.roc_law_log.proofs.Following.{AreFound}
use Rattle.roc_law_log.proofs.Writes.{among_append, among_same}
use Rattle.roc_step.specs.declared.started.StartedGroup.{StartedGroup}
use Rattle.roc_step.specs.Runs.{accesses_of}
use Rattle.roc_step.specs.Reads.{with_access, with_accesses}
use Rattle.roc_law_protocol.specs.PlanAssumptions.{use_of}
use Rattle.roc_law_protocol.specs.Beginnings.{Beginning}
use Rattle.roc_law_protocol.specs.Happens.{ran_at}
use Rattle.roc_law_protocol.proofs.Means.{entry_run, RanMeans}

-- ---- counts

abbrev pub most : ℕ
most = 2 ^ 64 - 1

-- how many of these accesses write the cell
abbrev pub writes_in : Cell → List Ran → ℕ
writes_in x ran = length (filter (λ a. a.writes && is_cell a.cell x) ran)

one_access : (vs : Counts) (a : Ran) (x : Cell) (n : ℕ) → version vs x ≡ min n most → version (with_access vs a) x ≡ min (n + length (cond (a.writes && is_cell a.cell x) (a ∷ []) [])) most
one_access vs a x n h = go a.writes (is_cell a.cell x) refl
  where
    go : (w c : Bool) → is_cell a.cell x ≡ c → version (cond w (counted vs a.cell) vs) x ≡ min (n + length (cond (w && c) (a ∷ []) [])) most
    go false c e = h ∙ ap (λ k. min k most) (add_none n)
      where
        add_none : (n : ℕ) → n ≡ n + 0
        add_none n = omega arith
    go true true e =
        let same : a.cell ≡ x = is_cell-true a.cell x e in
        let f = version-counted_same vs x in
        subst (λ (c : Cell). version (counted vs c) x ≡ min (n + 1) most) (sym same) (f ∙ (ap (λ k. min (k + 1) most) h ∙ capped n))
      where
        capped : (n : ℕ) → min (min n most + 1) most ≡ min (n + 1) most
        capped n = grind arith
    go true false e = version-counted_other vs a.cell x (λ f. false≢true (sym e ∙ (ap (λ (c : Cell). is_cell c x) f ∙ is_cell-same x))) ∙ (h ∙ ap (λ k. min k most) (add_none n))
      where
        add_none : (n : ℕ) → n ≡ n + 0
        add_none n = omega arith

-- the versions behind accesses are those before, and as many more as write the cell
pub count_accesses : (vs : Counts) (ran : List Ran) (x : Cell) (n : ℕ) → version vs x ≡ min n most → version (with_accesses vs ran) x ≡ min (n + writes_in x ran) most
count_accesses vs [] x n h = h ∙ ap (λ k. min k most) (add_none n)
  where
    add_none : (n : ℕ) → n ≡ n + 0
    add_none n = omega arith
count_accesses vs (a ∷ ran) x n h =
    count_accesses (with_access vs a) ran x (n + length (cond (a.writes && is_cell a.cell x) (a ∷ []) [])) (one_access vs a x n h)
    ∙ ap (λ k. min k most) (both (a.writes && is_cell a.cell x))
  where
    both : (b : Bool) → n + length (cond b (a ∷ []) []) + writes_in x ran ≡ n + length (cond b (a ∷ filter (λ a. a.writes && is_cell a.cell x) ran) (filter (λ a. a.writes && is_cell a.cell x) ran))
    both true = omega arith
    both false = omega arith

-- ---- groups that ran

length_filter_append : {A : Type 0} (p : A → Bool) (xs ys : List A) → length (filter p (xs ++ ys)) ≡ length (filter p xs) + length (filter p ys)
length_filter_append p [] ys = omega arith
length_filter_append p (x ∷ xs) ys = go (p x) (length_filter_append p xs ys)
  where
    go : (b : Bool) → length (filter p (xs ++ ys)) ≡ length (filter p xs) + length (filter p ys) → length (cond b (x ∷ filter p (xs ++ ys)) (filter p (xs ++ ys))) ≡ length (cond b (x ∷ filter p xs) (filter p xs)) + length (filter p ys)
    go true h = omega arith
    go false h = h

-- what a group wrote, as its accesses tell it and as its uses do
own_writes : (x : Cell) (id : TxnId) (uses : List Access) → length (filter (λ (a : Ran). a.writes && is_cell a.cell x) (map (λ a. record { id = id; cell = a.cell; writes = a.writes }) uses)) ≡ writes_of x (map use_of uses)
own_writes x id [] = refl
own_writes x id (a ∷ uses) = go (a.writes && is_cell a.cell x) (own_writes x id uses)
  where
    go : (b : Bool) → length (filter (λ (a : Ran). a.writes && is_cell a.cell x) (map (λ a. record { id = id; cell = a.cell; writes = a.writes }) uses)) ≡ writes_of x (map use_of uses)
        → length (cond b ((record { id = id; cell = a.cell; writes = a.writes }) ∷ filter (λ (a : Ran). a.writes && is_cell a.cell x) (map (λ a. record { id = id; cell = a.cell; writes = a.writes }) uses)) (filter (λ (a : Ran). a.writes && is_cell a.cell x) (map (λ a. record { id = id; cell = a.cell; writes = a.writes }) uses)))
        ≡ length (cond b (use_of a ∷ filter (λ u. u.writes && is_cell u.cell x) (map use_of uses)) (filter (λ u. u.writes && is_cell u.cell x) (map use_of uses)))
    go true h = ap suc h
    go false h = h

-- who may not write the cell does not count
unwritten_counts : (x : Cell) (uses : List Use) → is_written x uses ≡ false → writes_of x uses ≡ 0
unwritten_counts x [] h = refl
unwritten_counts x (u ∷ uses) h = go (u.writes && is_cell u.cell x) h (unwritten_counts x uses)
  where
    go : (b : Bool) → (b || is_written x uses) ≡ false → (is_written x uses ≡ false → writes_of x uses ≡ 0)
        → length (cond b (u ∷ filter (λ u. u.writes && is_cell u.cell x) uses) (filter (λ u. u.writes && is_cell u.cell x) uses)) ≡ 0
    go true e ih = absurd (false≢true (sym e))
    go false e ih = ih e

module _ (plan : Plan) (asked : TxnId → whole.Call) (S : Scheme) (start : Beginning) where
  -- what groups of a shard wrote, as their accesses tell it
  pub ran_counts : (later : Log) (n : ℕ) (x : Cell) (es : List StartedGroup) → ((e : StartedGroup) → Has e es → RanMeans plan asked S start later (ran_at n e))
      → writes_among S.behaviour start.store later.past.ran x (map entry_run es) ≡ writes_in x (accesses_of es)
  ran_counts later n x [] each = refl
  ran_counts later n x (e ∷ es) each =
      let rest = ran_counts later n x es (λ d h. each d (inr h)) in
      let mine : writes_of x (uses_in S.behaviour start.store later.past.ran (entry_run e)) ≡ writes_of x (map use_of e.cells) = ap (writes_of x) (sym (each e (inl refl)).cells) in
      let own = own_writes x e.id e.cells in
      let all = length_filter_append (λ (a : Ran). a.writes && is_cell a.cell x) (map (λ a. record { id = e.id; cell = a.cell; writes = a.writes }) e.cells) (accesses_of es) in
      omega arith

  -- what a log counts, it counts still, and what ran since
  pub writes_more : (log later : Log) (new : List TxnGroup) (x : Cell) → LogInvariants S start.store log → LogGrows S start.store log later → later.past.ran ≡ log.past.ran ++ new
      → writes_to S start.store later x ≡ writes_to S start.store log x + writes_among S.behaviour start.store later.past.ran x new
  writes_more log later new x i g is =
      ap (writes_among S.behaviour start.store later.past.ran x) is
      ∙ (among_append S.behaviour start.store x later.past.ran log.past.ran new
      ∙ ap (λ k. k + writes_among S.behaviour start.store later.past.ran x new) (among_same S.behaviour start.store x later.past.ran log.past.ran log.past.ran (λ r h. g.uses r (i.ran_started r h))))

  -- a cell that a group writes is on its shard
  pub on_place : IsSoundScheme S → AreFound S start.store → (later : Log) → LogInvariants S start.store later → (r : TxnGroup) (x : Cell)
      → is_written x (uses_in S.behaviour start.store later.past.ran r) ≡ true → S.cell_shard x ≡ shard_at S start.store later.past.ran r
  on_place sound found later i r x w =
      sound.placed r (inputs_at S.behaviour (stage_before S.behaviour start.store later.past.ran r) r) (stage_before S.behaviour start.store later.past.ran r).store x
      (written_used x (uses_in S.behaviour start.store later.past.ran r) w)
      ∙ ap (S.group_shard r) (found later.past.ran r i.ran_once (i.behind_needs r))

  -- groups of another shard write no cell of this one
  pub none_elsewhere : IsSoundScheme S → AreFound S start.store → (later : Log) → LogInvariants S start.store later → (n m : ℕ) (x : Cell) → S.cell_shard x ≡ m → n ≢ m → (es : List StartedGroup)
      → ((e : StartedGroup) → Has e es → RanMeans plan asked S start later (ran_at n e)) → writes_among S.behaviour start.store later.past.ran x (map entry_run es) ≡ 0
  none_elsewhere sound found later i n m x at other [] each = refl
  none_elsewhere sound found later i n m x at other (e ∷ es) each =
      let rest = none_elsewhere sound found later i n m x at other es (λ d h. each d (inr h)) in
      let mine = unwritten_counts x (uses_in S.behaviour start.store later.past.ran (entry_run e)) (unwritten (is_written x (uses_in S.behaviour start.store later.past.ran (entry_run e))) refl) in
      omega arith
    where
      used : is_written x (uses_in S.behaviour start.store later.past.ran (entry_run e)) ≡ true → ⊥
      used w = other (sym (each e (inl refl)).on ∙ (sym (on_place sound found later i (entry_run e) x w) ∙ at))

      unwritten : (b : Bool) → is_written x (uses_in S.behaviour start.store later.past.ran (entry_run e)) ≡ b → is_written x (uses_in S.behaviour start.store later.past.ran (entry_run e)) ≡ false
      unwritten true w = absurd (used w)
      unwritten false w = w
