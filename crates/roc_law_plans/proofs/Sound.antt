-- Why the scheme of an accepted plan is sound
use Rattle.std.proofs.Common.{◌≡◌, ℕ, ◌<◌, ℤ, true, false, ◌&&◌, ◌||◌, ◌==◌, IsTrue, List, [], ◌∷◌, length, map, refl, sym, ap, subst, ◌∙◌, inl, inr}
use Rattle.std.specs.List.{AllByRecursion}
use Rattle.std.proofs.lemmas.Bool.{false≢true, or_cases, or_left, or_right, and_parts, and_from}
use Rattle.roc_base.specs.declared.id.TxnId.{TxnId}
use Rattle.roc_sequence.specs.Places.{IsListedBefore}
use Rattle.roc_rows.specs.declared.cell.Cell.{Cell}
use Rattle.roc_rows.specs.Cells.{is_cell}
use Rattle.roc_rows.proofs.CellLaws.{is_cell-same, is_cell-true}
use Rattle.roc_rows.specs.Store.{Store, read}
use Rattle.roc_whole.specs.Serial as whole
use Rattle.roc_program.specs.Values.{value_of_name}
use Rattle.roc_program.proofs.Transactions.{transaction_parts}
use Rattle.roc_plan.specs.declared.group.Input.{Input}
use Rattle.roc_plan.specs.Groups.{Plan, bound_of, inputs_of, is_immediate_of, shard_of, group_place, is_view_of}
use Rattle.roc_plan.specs.Accepted.{IsAccepted}
use Rattle.roc_plan.specs.Turns.{may_meet}
use Rattle.roc_group.specs.declared.access.Access.{Access}
use Rattle.roc_group.specs.Accesses.{do_conflict, meets, do_write, AgreeOnReads, RunAlike}
use Rattle.roc_group.specs.GroupRun.{GroupCall, group_pieces, begin, group_run, group_uses}
use Rattle.roc_law_orders.specs.Behaviour.{TxnGroup, is_group_number, is_used, is_written, Meet, DoesSame}
use Rattle.roc_law_log.specs.Scheme.{IsSoundScheme}
use Rattle.roc_law_protocol.specs.PlanAssumptions.{called, use_of}
use Rattle.roc_law_protocol.proofs.Meets.{of_meet}
use Rattle.roc_law_plans.specs.Scheme.{scheme_of, AreOrders, AreCalls}

agree : (s t : Store) (uses : List Access) → ((x : Cell) → is_used x (map use_of uses) ≡ true → read s x ≡ read t x) → AgreeOnReads s t uses
agree s t [] h = tt
agree s t (a ∷ uses) h =
    (λ w. h a.cell (or_left (is_cell a.cell a.cell) (is_used a.cell (map use_of uses)) (is_cell-same a.cell)), agree s t uses (λ x u. h x (or_right (is_cell a.cell x) (is_used x (map use_of uses)) u)))

writes : (x : Cell) (uses : List Access) → is_written x (map use_of uses) ≡ do_write uses x
writes x [] = refl
writes x (a ∷ uses) = ap (λ b. (a.writes && is_cell a.cell x) || b) (writes x uses)

-- uses that only read write no cell
none_written : (x : Cell) (uses : List Access) → AllByRecursion (λ a. a.writes ≡ false) uses → is_written x (map use_of uses) ≡ false
none_written x [] h = refl
none_written x (a ∷ uses) h = ap (λ b. (b && is_cell a.cell x) || is_written x (map use_of uses)) h.0 ∙ none_written x uses h.1

-- where the values of inputs are listed, the groups that bind them are
sources_before : (order : List ℕ) (g : ℕ) (P : Input → Type 0) (inputs : List Input)
    → AllByRecursion (λ i. P i × IsListedBefore (λ a b. a == b) order i.group g) inputs
    → AllByRecursion (λ h. IsListedBefore is_group_number order h g) (map (λ i. i.group) inputs)
sources_before order g P [] h = tt
sources_before order g P (i ∷ is) h = (h.0.1, sources_before order g P is h.1)

-- cells that are used are at the place of all
used_place : (p : ℤ) (x : Cell) (uses : List Access) → AllByRecursion (λ a. a.cell.place ≡ p) uses → is_used x (map use_of uses) ≡ true → x.place ≡ p
used_place p x [] h u = absurd (false≢true u)
used_place p x (a ∷ uses) h u =
    elim (or_cases (is_cell a.cell x) (is_used x (map use_of uses)) u) [
      | inl c ↦ sym (ap (λ y. y.place) (is_cell-true a.cell x c)) ∙ h.0
      | inr k ↦ used_place p x uses h.1 k
    ]

one_cell : (a b x : Cell) → is_cell a x ≡ true → is_cell b x ≡ true → is_cell a b ≡ true
one_cell a b x p q = subst (λ y. is_cell a y ≡ true) (is_cell-true a x p ∙ sym (is_cell-true b x q)) (is_cell-same a)

-- a write meets a use of its cell
write_meets : (x : Cell) (a : Access) (later : List Access) → a.writes ≡ true → is_cell a.cell x ≡ true → is_used x (map use_of later) ≡ true → meets later a ≡ true
write_meets x a [] w c u = absurd (false≢true u)
write_meets x a (b ∷ later) w c u =
    elim (or_cases (is_cell b.cell x) (is_used x (map use_of later)) u) [
      | inl d ↦ or_left (is_cell a.cell b.cell && (a.writes || b.writes)) (meets later a) (and_from (is_cell a.cell b.cell) (a.writes || b.writes) (one_cell a.cell b.cell x c d) (or_left a.writes b.writes w))
      | inr k ↦ or_right (is_cell a.cell b.cell && (a.writes || b.writes)) (meets later a) (write_meets x a later w c k)
    ]

-- a use meets a write of its cell
use_meets : (x : Cell) (a : Access) (later : List Access) → is_cell a.cell x ≡ true → is_written x (map use_of later) ≡ true → meets later a ≡ true
use_meets x a [] c u = absurd (false≢true u)
use_meets x a (b ∷ later) c u =
    elim (or_cases (b.writes && is_cell b.cell x) (is_written x (map use_of later)) u) [
      | inl d ↦
          (let k = and_parts b.writes (is_cell b.cell x) d in
          or_left (is_cell a.cell b.cell && (a.writes || b.writes)) (meets later a) (and_from (is_cell a.cell b.cell) (a.writes || b.writes) (one_cell a.cell b.cell x c k.1) (or_right a.writes b.writes k.0)))
      | inr k ↦ or_right (is_cell a.cell b.cell && (a.writes || b.writes)) (meets later a) (use_meets x a later c k)
    ]

written_conflict : (x : Cell) (earlier later : List Access) → is_written x (map use_of earlier) ≡ true → is_used x (map use_of later) ≡ true → do_conflict earlier later ≡ true
written_conflict x [] later w u = absurd (false≢true w)
written_conflict x (a ∷ earlier) later w u =
    elim (or_cases (a.writes && is_cell a.cell x) (is_written x (map use_of earlier)) w) [
      | inl d ↦ (let k = and_parts a.writes (is_cell a.cell x) d in or_left (meets later a) (do_conflict earlier later) (write_meets x a later k.0 k.1 u))
      | inr k ↦ or_right (meets later a) (do_conflict earlier later) (written_conflict x earlier later k u)
    ]

used_conflict : (x : Cell) (earlier later : List Access) → is_used x (map use_of earlier) ≡ true → is_written x (map use_of later) ≡ true → do_conflict earlier later ≡ true
used_conflict x [] later u w = absurd (false≢true u)
used_conflict x (a ∷ earlier) later u w =
    elim (or_cases (is_cell a.cell x) (is_used x (map use_of earlier)) u) [
      | inl d ↦ or_left (meets later a) (do_conflict earlier later) (use_meets x a later d w)
      | inr k ↦ or_right (meets later a) (do_conflict earlier later) (used_conflict x earlier later k w)
    ]

-- what the laws of groups and of plans say
pub record Laws : Type 0 where
  pub same : (plan : Plan) (c : GroupCall) (s t : Store) → AgreeOnReads s t (group_uses plan c s) → RunAlike (begin plan c s) (begin plan c t) (group_pieces plan c)
  pub others : (plan : Plan) (c : GroupCall) (s : Store) (x : Cell) → do_write (group_uses plan c s) x ≡ false → read (group_run plan c s).store x ≡ read s x
  pub static : (plan : Plan) (b c : GroupCall) (s t : Store) → is_view_of plan b.proc ≡ false → is_view_of plan c.proc ≡ false → do_conflict (group_uses plan b s) (group_uses plan c t) ≡ true → may_meet plan b.proc b.group c.proc c.group ≡ true
  pub at_place :
      (plan : Plan) (c : GroupCall) (s : Store) → IsAccepted plan → c.proc < length plan.program.procedures
      → AllByRecursion (λ a. a.cell.place ≡ group_place plan c.proc c.group c.args c.inputs) (group_uses plan c s)
  pub follow : (plan : Plan) (c : GroupCall) (s t : Store) → IsAccepted plan → c.proc < length plan.program.procedures → is_immediate_of plan c.proc c.group ≡ false → group_uses plan c s ≡ group_uses plan c t
  pub one_class : (plan : Plan) → IsAccepted plan → (p g q h : ℕ) → IsTrue (may_meet plan p g q h) → is_immediate_of plan p g ≡ is_immediate_of plan q h
  pub one_contended :
      (plan : Plan) → IsAccepted plan → (p g h q i r j : ℕ) → IsTrue (is_immediate_of plan p g) → IsTrue (is_immediate_of plan p h)
      → IsTrue (may_meet plan p g q i) → IsTrue (may_meet plan p h r j) → g ≡ h

module _ (laws : Laws) (plan : Plan) (orders : ℕ → List ℕ) (asked : TxnId → whole.Call) where
  local :
      (r : TxnGroup) (given : List (List ℤ)) (s t : Store)
      → ((x : Cell) → is_used x ((scheme_of plan orders asked).behaviour.uses r given s) ≡ true → read s x ≡ read t x)
      → DoesSame (scheme_of plan orders asked).behaviour r given s t
  local r given s t h =
      let c = called plan asked r given in
      let k = laws.same plan c s t (agree s t (group_uses plan c s) h) in
      record {
        uses = sym (ap (map use_of) k.uses);
        yields = λ i. record { bound = map (value_of_name (sym k.environment i)) (bound_of plan c.proc c.group); outs = sym k.reply i };
        written = λ x w. k.written x (sym (writes x (group_uses plan c s)) ∙ w);
      }

  declared :
      (r : TxnGroup) (given : List (List ℤ)) (s : Store) (x : Cell) → is_written x ((scheme_of plan orders asked).behaviour.uses r given s) ≡ false
      → read ((scheme_of plan orders asked).behaviour.after r given s) x ≡ read s x
  declared r given s x n = let c = called plan asked r given in laws.others plan c s x (sym (writes x (group_uses plan c s)) ∙ n)

  -- groups that meet may meet
  abbrev MayMeet : Type 0
  MayMeet =
      (q r : TxnGroup) (i j : List (List ℤ)) (s t : Store)
      → Meet (map use_of (group_uses plan (called plan asked q i) s)) (map use_of (group_uses plan (called plan asked r j) t))
      → may_meet plan (asked q.txn).procedure q.group (asked r.txn).procedure r.group ≡ true

  -- those of transactions do
  met : AreCalls plan asked → MayMeet
  met calls q r i j s t m =
      let b = called plan asked q i in
      let c = called plan asked r j in
      laws.static plan b c s t (transaction_parts plan.program b.proc (calls q.txn)).writes (transaction_parts plan.program c.proc (calls r.txn)).writes (of_meet (group_uses plan b s) (group_uses plan c t) m)

  contended :
      IsAccepted plan → (p q r u : TxnGroup) → p.txn ≡ q.txn
      → is_immediate_of plan (asked p.txn).procedure p.group ≡ true → is_immediate_of plan (asked q.txn).procedure q.group ≡ true
      → may_meet plan (asked p.txn).procedure p.group (asked r.txn).procedure r.group ≡ true
      → may_meet plan (asked q.txn).procedure q.group (asked u.txn).procedure u.group ≡ true → p ≡ q
  contended is p q r u e ip iq mp mq =
      let ip2 = subst (λ t. is_immediate_of plan (asked t).procedure p.group ≡ true) e ip in
      let mp2 = subst (λ t. may_meet plan (asked t).procedure p.group (asked r.txn).procedure r.group ≡ true) e mp in
      let g = laws.one_contended plan is (asked q.txn).procedure p.group q.group (asked r.txn).procedure r.group (asked u.txn).procedure u.group ip2 iq mp2 mq in
      λ i. record { txn = e i; group = g i }

  sound_where : IsAccepted plan → AreOrders plan orders → ((t : TxnId) → (asked t).procedure < length plan.program.procedures) → MayMeet → IsSoundScheme (scheme_of plan orders asked)
  sound_where is turns there may =
      record {
        lawful =
            record {
              once = λ t. (turns (asked t).procedure).once;
              needed_first =
                  λ r l.
                  let p = (asked r.txn).procedure in
                  sources_before (orders p) r.group (λ i. is_immediate_of plan p i.group ≡ true) (inputs_of plan p r.group) ((turns p).behind r.group);
              local = local;
              declared = declared;
            };
        one_class = λ q r i j s t m. laws.one_class plan is (asked q.txn).procedure q.group (asked r.txn).procedure r.group (may q r i j s t m);
        one_contended = λ p q e ip iq r u i j k l a b c d m n. contended is p q r u e ip iq (may p r i j a b m) (may q u k l c d n);
        steady = λ r n given s t. ap (map use_of) (laws.follow plan (called plan asked r given) s t is (there r.txn) n);
        placed =
            λ r given s x u.
            let c = called plan asked r given in
            ap (shard_of plan) (used_place (group_place plan c.proc c.group c.args c.inputs) x (group_uses plan c s) (laws.at_place plan c s is (there r.txn)) u);
      }

  pub sound : IsAccepted plan → AreOrders plan orders → AreCalls plan asked → IsSoundScheme (scheme_of plan orders asked)
  sound is turns calls = sound_where is turns (λ t. (transaction_parts plan.program (asked t).procedure (calls t)).there) (met calls)

  -- views never meet
  pub views_sound :
      ((c : GroupCall) (s : Store) → is_view_of plan c.proc ≡ true → AllByRecursion (λ a. a.writes ≡ false) (group_uses plan c s))
      → IsAccepted plan → AreOrders plan orders → ((t : TxnId) → (asked t).procedure < length plan.program.procedures) → ((t : TxnId) → is_view_of plan (asked t).procedure ≡ true)
      → IsSoundScheme (scheme_of plan orders asked)
  views_sound read_alone is turns there views =
      sound_where is turns there
      (λ q r i j s t m.
      let a = group_uses plan (called plan asked q i) s in
      let b = group_uses plan (called plan asked r j) t in
      absurd (elim (or_cases (is_written m.cell (map use_of a)) (is_written m.cell (map use_of b)) m.one_writes) [
        | inl w ↦ false≢true (sym (none_written m.cell a (read_alone (called plan asked q i) s (views q.txn))) ∙ w)
        | inr w ↦ false≢true (sym (none_written m.cell b (read_alone (called plan asked r j) t (views r.txn))) ∙ w)
      ]))
