-- The cells that a report shows, where it shows none as pending
use Rattle.std.proofs.Common.{◌≡◌, ◌≢◌, ◌↔◌, ℕ, ℤ, pos, zero, suc, ◌+◌, ◌<◌, Bool, true, false, cond, List, [], ◌∷◌, ◌++◌, Option, Some, None, length, map, refl, sym, ap, subst, ◌∙◌, ◌⊎◌, inl}
use Rattle.std.proofs.Common.{inr, arith}
use Rattle.std.proofs.lemmas.Bool.{cases_eq}
use Rattle.std.proofs.lemmas.Grind.{flat_map-append}
use Rattle.std.proofs.lemmas.List.{append-nil}
use Rattle.std.specs.Ordering.{is_gt}
use Rattle.std.specs.List.{flat_map}
use Rattle.std.specs.Prelude.{drop, slice_get, Contains}
use Rattle.roc_sequence.specs.Lists.{Has}
use Rattle.roc_sequence.proofs.Members.{has_left, has_right, has_map, has_at, has_flat_map, from_has_flat_map}
use Rattle.roc_base.specs.declared.id.TxnId.{TxnId}
use Rattle.roc_base.specs.declared.node.Shard.{Shard}
use Rattle.roc_rows.specs.declared.cell.Cell.{Cell}
use Rattle.roc_rows.specs.Cells.{cell_cmp}
use Rattle.roc_rows.specs.Store.{Store, read, entries}
use Rattle.roc_msg.specs.declared.msg.Envelope.{Envelope}
use Rattle.roc_plan.specs.Groups.{Plan, shard_of}
use Rattle.roc_grown.specs.Server.{GrownServerState}
use Rattle.roc_grown.specs.Coord.{GrownCoordState}
use Rattle.roc_audit.specs.History.{WasSubmitted, WasAnswered}
use Rattle.roc_growth.specs.declared.event.Event.{Event}
use Rattle.roc_growth.specs.declared.event.Event.TheVariants as event
use Rattle.roc_growth.specs.declared.event.Seen.{Seen}
use Rattle.roc_growth.specs.declared.event.Seen.TheVariants as seen
use Rattle.roc_growth.specs.World.{GrownWorld}
use Rattle.roc_growth.specs.Run.{Stepped}
use Rattle.roc_growth.specs.Quiet.{messages_of}
use Rattle.roc_world.specs.Reads.{cells_of, unanswered_of}
use Rattle.roc_report.specs.Line.{Row, Pending}
use Rattle.roc_replay.specs.Cells.{put, by_cell}
use Rattle.roc_replay.specs.Report.{first_lines, send_lines, answer_lines, step_lines, steps_lines, end_line, closing_lines, report}
use Rattle.roc_replay.specs.Readback.{pending_of, pending_in, cell_of, cells_in}
use Rattle.roc_law_protocol.proofs.Undelivered.{number_of}

-- ---- members

contains_has : {A : Type 0} (xs : List A) (a : A) → Contains xs a → Has a xs
contains_has [] a (k, l, e) = absurd (omega (arith, l))
contains_has (x ∷ xs) a (zero, l, e) = inl (sym e)
contains_has (x ∷ xs) a (suc k, l, e) = inr (contains_has xs a (k, omega (arith, l), e))

pub has_contains : {A : Type 0} (xs : List A) (a : A) → Has a xs → Contains xs a
has_contains [] a h = absurd h
has_contains (x ∷ xs) a (inl e) = (0, omega arith, sym e)
has_contains (x ∷ xs) a (inr h) = let q = has_contains xs a h in (suc q.0, let l = q.1 in omega (arith, l), q.2)

from_has_put : (e f : Cell × ℤ) (cells : List (Cell × ℤ)) → Has f (put e cells) → (f ≡ e) ⊎ Has f cells
from_has_put e f [] h = h
from_has_put e f (g ∷ rest) h = go (is_gt (cell_cmp e.0 g.0)) h (from_has_put e f rest)
  where
    go : (b : Bool) → Has f (cond b (g ∷ put e rest) (e ∷ g ∷ rest)) → (Has f (put e rest) → (f ≡ e) ⊎ Has f rest) → (f ≡ e) ⊎ Has f (g ∷ rest)
    go true (inl k) ih = inr (inl k)
    go true (inr k) ih = elim (ih k) [ inl m ↦ inl m | inr m ↦ inr (inr m) ]
    go false k ih = k

has_put : (e f : Cell × ℤ) (cells : List (Cell × ℤ)) → (f ≡ e) ⊎ Has f cells → Has f (put e cells)
has_put e f [] h = h
has_put e f (g ∷ rest) h = go (is_gt (cell_cmp e.0 g.0)) h (has_put e f rest)
  where
    go : (b : Bool) → (f ≡ e) ⊎ Has f (g ∷ rest) → ((f ≡ e) ⊎ Has f rest → Has f (put e rest)) → Has f (cond b (g ∷ put e rest) (e ∷ g ∷ rest))
    go true (inl k) ih = inr (ih (inl k))
    go true (inr (inl k)) ih = inl k
    go true (inr (inr k)) ih = inr (ih (inr k))
    go false k ih = k

pub from_by_cell : (f : Cell × ℤ) (cells : List (Cell × ℤ)) → Has f (by_cell cells) → Has f cells
from_by_cell f [] h = h
from_by_cell f (e ∷ rest) h = elim (from_has_put e f (by_cell rest) h) [ inl k ↦ inl k | inr k ↦ inr (from_by_cell f rest k) ]

to_by_cell : (f : Cell × ℤ) (cells : List (Cell × ℤ)) → Has f cells → Has f (by_cell cells)
to_by_cell f [] h = h
to_by_cell f (e ∷ rest) (inl k) = has_put e f (by_cell rest) (inl k)
to_by_cell f (e ∷ rest) (inr k) = has_put e f (by_cell rest) (inr (to_by_cell f rest k))

-- ---- a report shows the cells of its world

none_in_both : {B C : Type 0} (f : B → List C) (xs ys : List B) → flat_map f xs ≡ [] → flat_map f ys ≡ [] → flat_map f (xs ++ ys) ≡ []
none_in_both {B} {C} f xs ys e d = flat_map-append f xs ys ∙ ap (λ (l : List C). l ++ flat_map f ys) e ∙ d

cells_in-sends : (number : ℕ) (sent : List Envelope) → cells_in (send_lines number sent) ≡ []
cells_in-sends number [] = refl
cells_in-sends number (s ∷ rest) = cells_in-sends (number + 1) rest

cells_in-first : (e : Option Event) (s : Seen) → cells_in (first_lines e s) ≡ []
cells_in-first None s = refl
cells_in-first (Some (event.Tick node)) s = refl
cells_in-first (Some (event.Stop shard during)) s = refl
cells_in-first (Some (event.Drain coord)) s = refl
cells_in-first (Some (event.Submit coord proc args)) (seen.Submitted id) = refl
cells_in-first (Some (event.Submit coord proc args)) seen.Spent = refl
cells_in-first (Some (event.Submit coord proc args)) seen.Busy = refl
cells_in-first (Some (event.Submit coord proc args)) seen.Draining = refl
cells_in-first (Some (event.Submit coord proc args)) seen.NoProc = refl
cells_in-first (Some (event.Submit coord proc args)) seen.Done = refl
cells_in-first (Some (event.Submit coord proc args)) (seen.Answered id reply) = refl
cells_in-first (Some (event.Submit coord proc args)) seen.Gone = refl
cells_in-first (Some (event.Submit coord proc args)) seen.Skipped = refl
cells_in-first (Some (event.Submit coord proc args)) (seen.Ignored reason) = refl
cells_in-first (Some (event.Deliver k)) (seen.Submitted id) = refl
cells_in-first (Some (event.Deliver k)) seen.Spent = refl
cells_in-first (Some (event.Deliver k)) seen.Busy = refl
cells_in-first (Some (event.Deliver k)) seen.Draining = refl
cells_in-first (Some (event.Deliver k)) seen.NoProc = refl
cells_in-first (Some (event.Deliver k)) seen.Done = refl
cells_in-first (Some (event.Deliver k)) (seen.Answered id reply) = refl
cells_in-first (Some (event.Deliver k)) seen.Gone = refl
cells_in-first (Some (event.Deliver k)) seen.Skipped = refl
cells_in-first (Some (event.Deliver k)) (seen.Ignored reason) = refl

cells_in-answer : (s : Seen) → cells_in (answer_lines s) ≡ []
cells_in-answer (seen.Answered id reply) = refl
cells_in-answer (seen.Submitted id) = refl
cells_in-answer seen.Spent = refl
cells_in-answer seen.Busy = refl
cells_in-answer seen.Draining = refl
cells_in-answer seen.NoProc = refl
cells_in-answer seen.Done = refl
cells_in-answer seen.Gone = refl
cells_in-answer seen.Skipped = refl
cells_in-answer (seen.Ignored reason) = refl

cells_in-steps : (before : List Envelope) (steps : List Stepped) → cells_in (steps_lines before steps) ≡ []
cells_in-steps before [] = refl
cells_in-steps before (step ∷ rest) =
    none_in_both cell_of (step_lines before step) (steps_lines (messages_of step.outcome.world.sent) rest)
    (none_in_both cell_of (first_lines step.event step.outcome.seen) _ (cells_in-first step.event step.outcome.seen)
    (none_in_both cell_of (send_lines (length before + 1) (drop (length before) (messages_of step.outcome.world.sent))) _ (cells_in-sends (length before + 1) (drop (length before) (messages_of step.outcome.world.sent))) (cells_in-answer step.outcome.seen)))
    (cells_in-steps (messages_of step.outcome.world.sent) rest)

cells_in-rows : (es : List (Cell × ℤ)) → cells_in (map (λ e. Row e.0 e.1) es) ≡ es
cells_in-rows [] = refl
cells_in-rows (e ∷ es) = ap (λ l. e ∷ l) (cells_in-rows es)

cells_in-pending : (ids : List TxnId) → cells_in (map Pending ids) ≡ []
cells_in-pending [] = refl
cells_in-pending (id ∷ ids) = cells_in-pending ids

report_cells : (steps : List Stepped) (w : GrownWorld) → cells_in (report steps w) ≡ by_cell (cells_of w)
report_cells steps w =
    let rows = map (λ (e : Cell × ℤ). Row e.0 e.1) (by_cell (cells_of w)) in
    let behind = map Pending (unanswered_of w) ++ end_line w ∷ [] in
    flat_map-append cell_of (steps_lines [] steps) (closing_lines w)
    ∙ ap (λ (l : List (Cell × ℤ)). l ++ cells_in (closing_lines w)) (cells_in-steps [] steps)
    ∙ flat_map-append cell_of rows behind
    ∙ ap (λ (l : List (Cell × ℤ)). cells_in rows ++ l) (none_in_both cell_of (map Pending (unanswered_of w)) (end_line w ∷ []) (cells_in-pending (unanswered_of w)) refl)
    ∙ (append-nil (cells_in rows)
    ∙ cells_in-rows (by_cell (cells_of w)))

-- where it shows none as pending, none is
none_pending : (steps : List Stepped) (w : GrownWorld) → pending_in (report steps w) ≡ [] → (t : TxnId) → ¬ Has t (unanswered_of w)
none_pending steps w none t h =
    let rows = map (λ (e : Cell × ℤ). Row e.0 e.1) (by_cell (cells_of w)) in
    let here = has_left (Pending t) (map Pending (unanswered_of w)) (end_line w ∷ []) (has_map Pending t (unanswered_of w) h) in
    let closing : Has (Pending t) (closing_lines w) = inr (has_right (Pending t) rows (map Pending (unanswered_of w) ++ end_line w ∷ []) here) in
    let all = has_right (Pending t) (steps_lines [] steps) (closing_lines w) closing in
    subst (Has t) none (has_flat_map pending_of t (Pending t) (report steps w) all (inl refl))

-- ---- what the cells of a world are

module _ (plan : Plan) (w : GrownWorld)
    (servers : (n : ℕ) → n < plan.program.shards → (s : GrownServerState) × (slice_get w.servers n ≡ Some s))
    (placed : (place : ℤ) → shard_of plan place < plan.program.shards)
    (apart : (shard : Shard) (s : GrownServerState) → slice_get w.servers shard.0 ≡ Some s → (x : Cell) → shard_of plan x.place ≢ shard.0 → read s.core.store x ≡ pos 0)
    (exact : (s : Store) (x : Cell) (v : ℤ) → Contains (entries s) (x, v) ↔ ((v ≢ pos 0) × (read s x ≡ v)))
    (all : Store) (serial : (x : Cell) (s : GrownServerState) → slice_get w.servers (shard_of plan x.place) ≡ Some s → read s.core.store x ≡ read all x) where
  from_cells : (x : Cell) (v : ℤ) → Has (x, v) (cells_of w) → (v ≢ pos 0) × (read all x ≡ v)
  from_cells x v h =
      let a = from_has_flat_map (λ (s : GrownServerState). entries s.core.store) (x, v) w.servers h in
      let at = number_of w.servers a.0 a.1 in
      let e = (exact a.0.core.store x v).0 (has_contains (entries a.0.core.store) (x, v) a.2) in
      elim (cases_eq (shard_of plan x.place) at.0) [
        | inl same ↦ (e.0, sym (serial x a.0 (subst (λ n. slice_get w.servers n ≡ Some a.0) (sym same) at.1)) ∙ e.1)
        | inr other ↦ absurd (e.0 (sym e.1 ∙ apart (record { 0 = at.0 }) a.0 at.1 x other))
      ]

  to_cells : (x : Cell) (v : ℤ) → v ≢ pos 0 → read all x ≡ v → Has (x, v) (cells_of w)
  to_cells x v n e =
      let s = servers (shard_of plan x.place) (placed x.place) in
      has_flat_map (λ (s : GrownServerState). entries s.core.store) (x, v) s.0 w.servers (has_at w.servers (shard_of plan x.place) s.0 s.1) (contains_has (entries s.0.core.store) (x, v) ((exact s.0.core.store x v).1 (n, serial x s.0 s.1 ∙ e)))

  pub shown_cells : (steps : List Stepped) (x : Cell) (v : ℤ) → Has (x, v) (cells_in (report steps w)) ↔ ((v ≢ pos 0) × (read all x ≡ v))
  shown_cells steps x v = (
    λ h. from_cells x v (from_by_cell (x, v) (cells_of w) (subst (Has (x, v)) (report_cells steps w) h)),
    λ h. subst (Has (x, v)) (sym (report_cells steps w)) (to_by_cell (x, v) (cells_of w) (to_cells x v h.0 h.1)),
  )

-- where none is shown as pending, each that was submitted was answered
pub all_answered : (steps : List Stepped) (w : GrownWorld) → pending_in (report steps w) ≡ []
    → ((t : TxnId) → WasSubmitted w.history t → (c : GrownCoordState) × (slice_get w.coords t.coord ≡ Some c) × (Has t c.core.unanswered ⊎ ((reply : List ℤ) × WasAnswered w.history t reply)))
    → (t : TxnId) → WasSubmitted w.history t → (reply : List ℤ) × WasAnswered w.history t reply
all_answered steps w none kept t h =
    let k = kept t h in
    elim k.2 [
      | inl p ↦ absurd (none_pending steps w none t (has_flat_map (λ (c : GrownCoordState). c.core.unanswered) t k.0 w.coords (has_at w.coords t.coord k.0 k.1) p))
      | inr a ↦ a
    ]
