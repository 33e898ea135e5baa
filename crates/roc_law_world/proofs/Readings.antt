-- What servers read for views, as a log tells it
use Rattle.std.proofs.Common.{◌≡◌, ◌≢◌, ◌∙◌, inl, inr, ℕ, ℤ, ◌+◌, ◌<◌, ◌==◌, min, Bool, true, false, ◌&&◌, not, List, [], ◌∷◌, map, length, refl, sym, ap, subst, arith, IsTrue}
use Rattle.std.proofs.lemmas.Bool.{false≢true, eq-eqb, eqb-true}
use Rattle.std.specs.List.{AllByRecursion, list_any}
use Rattle.roc_sequence.specs.Lists.{Has}
use Rattle.roc_sequence.specs.Places.{IsListed, is_listed}
use Rattle.roc_sequence.proofs.Holds.{all_has, has_all, has_any, any_seen}
use Rattle.roc_sequence.proofs.Members.{has_map, from_has_map}
use Rattle.roc_sequence.proofs.Found.{found_has}
use Rattle.roc_sequence.proofs.Places.{listed_true}
use Rattle.roc_base.specs.declared.id.TxnId.{TxnId}
use Rattle.roc_base.specs.TxnId.{is_txn}
use Rattle.roc_base.specs.Equalities.{is_txn-true}
use Rattle.roc_rows.specs.declared.cell.Cell.{Cell}
use Rattle.roc_rows.specs.Cells.{is_cell}
use Rattle.roc_rows.specs.Store.{Store, read}
use Rattle.roc_rows.specs.Versions.{Counts, version}
use Rattle.roc_plan.specs.Groups.{Plan, is_view_of, shard_of, group_place}
use Rattle.roc_whole.specs.Serial as whole
use Rattle.roc_group.specs.declared.access.Access.{Access}
use Rattle.roc_group.specs.Accesses.{do_write, AgreeOnReads, RunAlike}
use Rattle.roc_group.specs.GroupRun.{GroupCall, call, group_pieces, begin, group_run, group_uses}
use Rattle.roc_law_orders.specs.Behaviour.{TxnGroup, is_written, Use}
use Rattle.roc_law_orders.specs.Runs.{uses_in, stage_behind}
use Rattle.roc_law_orders.specs.Orders.{one_by_one}
use Rattle.roc_law_log.specs.Scheme.{Scheme, IsSoundScheme}
use Rattle.roc_law_log.specs.Log.{Log, shard_at}
use Rattle.roc_law_log.specs.Steps.{LogSteps}
use Rattle.roc_law_log.specs.Invariants.{LogInvariants}
use Rattle.roc_law_log.specs.Clean.{IsClean, writes_to}
use Rattle.roc_law_log.proofs.Following.{AreFound}
use Rattle.roc_step.specs.New.{AreDecided}
use Rattle.roc_step.specs.declared.kept_read.KeptRead.{KeptRead}
use Rattle.roc_step.specs.declared.started.StartedGroup.{StartedGroup}
use Rattle.roc_step.specs.State.{is_group, ServerState}
use Rattle.roc_step.specs.Reads.{read_call, read_uses, holds_up, is_free}
use Rattle.roc_law_protocol.specs.PlanAssumptions.{use_of, IsSchemeOf}
use Rattle.roc_law_protocol.specs.Beginnings.{Beginning}
use Rattle.roc_law_protocol.proofs.Means.{run_of, entry_run, ServerMeans}
use Rattle.roc_law_world.proofs.Versions.{most, on_place}
use Rattle.roc_program.proofs.Ranges.{map_map}

-- what the laws of groups say of views
pub record ViewLaws (plan : Plan) : Type 0 where
  pub exists : (proc : ℕ) → is_view_of plan proc ≡ true → proc < length plan.program.procedures
  pub follow : (proc group : ℕ) (args : List ℤ) (s t : Store) → is_view_of plan proc ≡ true → group_uses plan (call proc group args []) s ≡ group_uses plan (call proc group args []) t
  pub placed : (proc group : ℕ) (args : List ℤ) (s : Store) → is_view_of plan proc ≡ true → AllByRecursion (λ a. a.cell.place ≡ group_place plan proc group args []) (group_uses plan (call proc group args []) s)
  pub same : (c : GroupCall) (s t : Store) → AgreeOnReads s t (group_uses plan c s) → RunAlike (begin plan c s) (begin plan c t) (group_pieces plan c)

-- a cell that nobody writes for a while holds what a serial run leaves in it
abbrev pub AreSteady : Scheme → Store → Type 0
AreSteady S start =
    (log between later : Log) → LogInvariants S start log → LogSteps S start log between → LogSteps S start between later
    → (x : Cell) → IsClean S start log x → IsClean S start later x → writes_to S start log x ≡ writes_to S start later x
    → read (stage_behind S.behaviour start (one_by_one S.behaviour between.order)).store x ≡ read (stage_behind S.behaviour start later.past.ran).store x

-- ---- lists

map_alike : {A B : Type 0} (f g : A → B) (xs : List A) → ((x : A) → Has x xs → f x ≡ g x) → map f xs ≡ map g xs
map_alike f g [] h = refl
map_alike f g (x ∷ xs) h = ap (λ y. y ∷ map f xs) (h x (inl refl)) ∙ ap (λ l. g x ∷ l) (map_alike f g xs (λ y k. h y (inr k)))

-- lists that two functions make alike are made alike at each place
alike_there : {A : Type 0} (f g : A → ℕ) (xs : List A) → map f xs ≡ map g xs → (x : A) → Has x xs → f x ≡ g x
alike_there f g [] e x h = absurd h
alike_there f g (y ∷ ys) e x (inl same) = ap f same ∙ (first e ∙ ap g (sym same))
  where
    first : f y ∷ map f ys ≡ g y ∷ map g ys → f y ≡ g y
    first e = cc
alike_there f g (y ∷ ys) e x (inr h) = alike_there f g ys (rest e) x h
  where
    rest : f y ∷ map f ys ≡ g y ∷ map g ys → map f ys ≡ map g ys
    rest e = cc

module _ (plan : Plan) (asked : TxnId → whole.Call) (S : Scheme) (start : Beginning) (before : ℕ → Counts) where
  abbrev pub cells_of : (proc group : ℕ) (args : List ℤ) → List Cell
  cells_of proc group args = map (λ a. a.cell) (group_uses plan (call proc group args []) start.store)

  -- how often a cell was written by a log
  abbrev pub version_in : Log → Cell → ℕ
  version_in log x = min (version (before (S.cell_shard x)) x + writes_to S start.store log x) most

  -- a shard's versions are those of the log
  abbrev pub AreVersions : Log → (shard : ℕ) → Counts → Type 0
  AreVersions log n vs = (x : Cell) → S.cell_shard x ≡ n → version vs x ≡ version_in log x

  -- a group of a view read this by a log
  pub record IsReading (log : Log) (proc group : ℕ) (args : List ℤ) (vs : List ℕ) (outs : List ℤ) : Type 0 where
    pub reached : LogInvariants S start.store log
    pub clean : (x : Cell) → Has x (cells_of proc group args) → IsClean S start.store log x
    pub versions : vs ≡ map (version_in log) (cells_of proc group args)
    pub gave : outs ≡ (group_run plan (call proc group args []) (stage_behind S.behaviour start.store log.past.ran).store).reply

  module _ (is : IsSchemeOf plan asked S) (sound : IsSoundScheme S) (found : AreFound S start.store) (laws : ViewLaws plan) where
    -- the cells of a view's group are on its shard
    on_shard : (proc group : ℕ) (args : List ℤ) (s : Store) → is_view_of plan proc ≡ true → (a : Access) → Has a (group_uses plan (call proc group args []) s) → S.cell_shard a.cell ≡ shard_of plan (group_place plan proc group args [])
    on_shard proc group args s view a h = is.cell_shard a.cell ∙ ap (shard_of plan) (all_has (λ (a : Access). a.cell.place ≡ group_place plan proc group args []) a (group_uses plan (call proc group args []) s) (laws.placed proc group args s view) h)

    -- a group that may write the cell by its uses does so by its accesses
    writes_too : (x : Cell) (uses : List Access) → is_written x (map use_of uses) ≡ true → do_write uses x ≡ true
    writes_too x uses h = sym (any_seen (λ (u : Use). u.writes && is_cell u.cell x) use_of uses) ∙ h

    -- ---- a free read is answered

    module _ (log : Log) (i : LogInvariants S start.store log) (n : ℕ) (s : ServerState) (means : ServerMeans plan asked S start log n s) (vs : Counts) (counts : AreVersions log n vs)
        (q : KeptRead) (view : is_view_of plan q.proc ≡ true) (here : shard_of plan (group_place plan q.proc q.group q.args []) ≡ n)
        (decided : List TxnId) (are : AreDecided s.lists.links decided) (free : is_free plan decided s q ≡ true) where
      same_uses : group_uses plan (read_call q) s.store ≡ group_uses plan (read_call q) start.store
      same_uses = laws.follow q.proc q.group q.args s.store start.store view

      used_here : (x : Cell) → Has x (cells_of q.proc q.group q.args) → S.cell_shard x ≡ n
      used_here x h =
          let a = from_has_map (λ (a : Access). a.cell) x (group_uses plan (call q.proc q.group q.args []) start.store) h in
          ap S.cell_shard a.2 ∙ (on_shard q.proc q.group q.args start.store view a.0 a.1 ∙ here)

      -- who holds it up is decided
      none_holds : (e : StartedGroup) → Has e s.started → (x : Cell) → Has x (cells_of q.proc q.group q.args) → do_write e.cells x ≡ true → IsListed is_txn (log.decided n) e.id
      none_holds e h x used writes = go (is_listed is_txn decided e.id) refl
        where
          holds : holds_up plan s q e ≡ true
          holds =
              let a = from_has_map (λ (a : Access). a.cell) x (group_uses plan (call q.proc q.group q.args []) start.store) used in
              has_any (λ (a : Access). do_write e.cells a.cell) (read_uses plan s q) a.0 (subst (λ l. Has a.0 l) (sym same_uses) a.1) (ap (do_write e.cells) (sym a.2) ∙ writes)

          go : (b : Bool) → is_listed is_txn decided e.id ≡ b → IsListed is_txn (log.decided n) e.id
          go true k = means.back e.id (are.sound e.id (listed_true is_txn decided e.id k))
          go false k =
              let some = has_any (λ (e : StartedGroup). not (is_listed is_txn decided e.id) && holds_up plan s q e) s.started e h (ap (λ b. not b && holds_up plan s q e) k ∙ holds) in
              absurd (false≢true (sym (ap not some) ∙ free))

      clean : (x : Cell) → Has x (cells_of q.proc q.group q.args) → IsClean S start.store log x
      clean x h r began writes =
          let w = is_true (is_written x (uses_in S.behaviour start.store log.past.ran r)) writes in
          let at : shard_at S start.store log.past.ran r ≡ n = sym (on_place plan asked S start sound found log i r x w) ∙ used_here x h in
          subst (λ m. IsListed is_txn (log.decided m) r.txn) (sym (used_here x h)) (elim (means.groups.finds r began at) [
            | inl f ↦
                (let k = found_has (is_group r.txn r.group) s.started f.0 f.1 in
                let id : f.0.id ≡ r.txn = is_txn-true f.0.id r.txn (first_of (is_txn f.0.id r.txn) (f.0.group == r.group) k.1) in
                let own : entry_run f.0 ≡ r = same_run f.0 r k.1 in
                let mine : is_written x (map use_of f.0.cells) ≡ true = ap (is_written x) ((means.groups.entries f.0 k.0).cells ∙ ap (uses_in S.behaviour start.store log.past.ran) own) ∙ w in
                subst (λ (t : TxnId). IsListed is_txn (log.decided n) t) id (none_holds f.0 k.0 x h (writes_too x f.0.cells mine)))
            | inr gone ↦ (means.forgot r.txn (record { group = r.group; began = began; on = at }) gone).0
          ])
        where
          is_true : (b : Bool) → IsTrue b → b ≡ true
          is_true b t = t

          first_of : (a b : Bool) → a && b ≡ true → a ≡ true
          first_of true b e = refl
          first_of false b e = e

          same_run : (e : StartedGroup) (r : TxnGroup) → is_group r.txn r.group e ≡ true → entry_run e ≡ r
          same_run e r k = go (is_txn e.id r.txn) (e.group == r.group) refl refl k
            where
              go : (a b : Bool) → is_txn e.id r.txn ≡ a → (e.group == r.group) ≡ b → a && b ≡ true → entry_run e ≡ r
              go true true f g k = let id = is_txn-true e.id r.txn f in let group = eqb-true e.group r.group g in ap (λ t. run_of t e.group) id ∙ ap (λ n. run_of r.txn n) group
              go true false f g k = absurd (false≢true k)
              go false b f g k = absurd (false≢true k)

      pub reading_made : IsReading log q.proc q.group q.args (map (λ a. version vs a.cell) (read_uses plan s q)) (group_run plan (read_call q) s.store).reply
      reading_made =
          record {
            reached = i;
            clean = clean;
            versions =
                ap (map (λ (a : Access). version vs a.cell)) same_uses
                ∙ (sym (map_map (version vs) (λ (a : Access). a.cell) (group_uses plan (read_call q) start.store))
                ∙ map_alike (version vs) (version_in log) (cells_of q.proc q.group q.args) (λ x h. counts x (used_here x h)));
            gave = sym (laws.same (read_call q) s.store (stage_behind S.behaviour start.store log.past.ran).store
                (has_all (λ (a : Access). a.writes ≡ false → read s.store a.cell ≡ read (stage_behind S.behaviour start.store log.past.ran).store a.cell) (group_uses plan (read_call q) s.store)
                (λ a h k. means.part.cells a.cell (on_shard q.proc q.group q.args s.store view a h ∙ here)))).reply;
          }

    -- ---- two rounds that found the same

    -- between two readings of the same versions the group reads what the serial order leaves
    pub steady_reading : AreSteady S start.store → (a between b : Log) (proc group : ℕ) (args : List ℤ) (vs : List ℕ) (old outs : List ℤ) → is_view_of plan proc ≡ true
        → IsReading a proc group args vs old → IsReading b proc group args vs outs → LogSteps S start.store a between → LogSteps S start.store between b
        → list_any (λ n. n == most) vs ≡ false
        → outs ≡ (group_run plan (call proc group args []) (stage_behind S.behaviour start.store (one_by_one S.behaviour between.order)).store).reply
    steady_reading steady a between b proc group args vs old outs view ra rb to_it from_it few =
        rb.gave ∙ (laws.same (call proc group args []) serial now
        (has_all (λ (a : Access). a.writes ≡ false → read serial a.cell ≡ read now a.cell) (group_uses plan (call proc group args []) serial)
        (λ u h k. steady a between b ra.reached to_it from_it u.cell (ra.clean u.cell (cell_used u h)) (rb.clean u.cell (cell_used u h)) (as_often u.cell (cell_used u h))))).reply
      where
        serial : Store
        serial = (stage_behind S.behaviour start.store (one_by_one S.behaviour between.order)).store

        now : Store
        now = (stage_behind S.behaviour start.store b.past.ran).store

        cell_used : (u : Access) → Has u (group_uses plan (call proc group args []) serial) → Has u.cell (cells_of proc group args)
        cell_used u h = has_map (λ (a : Access). a.cell) u (group_uses plan (call proc group args []) start.store) (subst (λ l. Has u l) (laws.follow proc group args serial start.store view) h)

        as_often : (x : Cell) → Has x (cells_of proc group args) → writes_to S start.store a x ≡ writes_to S start.store b x
        as_often x h =
            let same = alike_there (version_in a) (version_in b) (cells_of proc group args) (sym ra.versions ∙ rb.versions) x h in
            let told : Has (version_in a x) vs = subst (λ l. Has (version_in a x) l) (sym ra.versions) (has_map (version_in a) x (cells_of proc group args) h) in
            let low : version_in a x ≢ most = λ e. false≢true (sym few ∙ has_any (λ n. n == most) vs (version_in a x) told (eq-eqb (version_in a x) most e)) in
            uncapped (version (before (S.cell_shard x)) x) (writes_to S start.store a x) (writes_to S start.store b x) same low
          where
            uncapped : (v m n : ℕ) → min (v + m) most ≡ min (v + n) most → min (v + m) most ≢ most → m ≡ n
            uncapped v m n e low = grind arith
