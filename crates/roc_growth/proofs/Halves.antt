-- Which of the two worlds of a world of two files an id is of
use Rattle.std.proofs.Common.{◌≡◌, ◌∙◌, ◌⊎◌, inl, inr, ℕ, ℤ, ◌<◌, Bool, true, false, ◌&&◌, List, [], Option, Some, None, length, refl, sym, ap, subst, arith, append-nil}
use Rattle.std.proofs.lemmas.Bool.{false≢true, le-leb, lt-leb}
use Rattle.std.proofs.lemmas.Option.{slice_get_within}
use Rattle.std.specs.Prelude.{slice_get, nat_le}
use Rattle.roc_sequence.specs.Lists.{Has}
use Rattle.roc_sequence.proofs.Members.{has_append, same_there}
use Rattle.roc_base.specs.declared.id.TxnId.{TxnId}
use Rattle.roc_plan.specs.Groups.{Plan}
use Rattle.roc_coord.specs.State.{CoordState}
use Rattle.roc_coord.specs.Renewed.{renewed_coord}
use Rattle.roc_audit.specs.declared.entry.Entry.TheVariants.{Submitted}
use Rattle.roc_audit.specs.History.{WasSubmitted}
use Rattle.roc_law_protocol.specs.Beginnings.{next_in}
use Rattle.roc_law_world.specs.World.{Beginning, first_beginning}
use Rattle.roc_law_world.proofs.Numbered.{numbered}
use Rattle.roc_law_world.proofs.SameNodes.{run_count}
use Rattle.roc_law_world.proofs.Outcomes.{there as stands_within}
use Rattle.roc_epoch.specs.Grown.{IsGrownFrom}
use Rattle.roc_epoch.specs.declared.next.Next.{Next}
use Rattle.roc_epoch.specs.Files.{last_plan, own_plan, IsNextOf}
use Rattle.roc_two_files.specs.Left.{AreDrained, left_behind}
use Rattle.roc_two_files.proofs.TwoRuns.{ids_before, ids_behind, ids_apart}
use Rattle.roc_two_files.proofs.Late.{run_late}
use Rattle.roc_grown.specs.Server.{GrownServerState}
use Rattle.roc_grown.specs.Coord.{GrownCoordState}
use Rattle.roc_growth.specs.World.{GrownWorld, is_from, is_from_switched, is_second}
use Rattle.roc_growth.specs.Run.{Stepped}
use Rattle.roc_growth.specs.Epochs.{AreEpochs}

-- ---- the last file

-- a program is grown from itself too
pub last_grows : (plan : Plan) (next : Option Next) → IsNextOf plan next → IsGrownFrom plan.program (last_plan plan next).program
last_grows plan None of =
    record { shards = refl; tables = ([], sym (append-nil plan.program.tables)); inits = refl; procedures = ([], sym (append-nil plan.program.procedures)) }
last_grows plan (Some next) of = of.1

-- the plan of the first file, and of the second
pub own_first : (plan : Plan) (next : Option Next) → own_plan plan next false ≡ plan
own_first plan None = refl
own_first plan (Some next) = refl

pub own_second : (plan : Plan) (next : Option Next) → own_plan plan next true ≡ last_plan plan next
own_second plan None = refl
own_second plan (Some next) = refl

module _ (plan : Plan) (next : Option Next) (coords : ℕ) (steps : List Stepped) (g : GrownWorld) (e : AreEpochs plan next coords steps g) where
  abbrev pub last : Plan
  last = last_plan plan next

  -- where the second world begins
  abbrev pub left : Beginning
  left = left_behind plan (first_beginning plan) e.w

  -- where all servers have switched nothing of the first world is unanswered, as there is a server
  pub all_drained : 0 < length e.w.servers → ((n : ℕ) (s : GrownServerState) → slice_get g.servers n ≡ Some s → s.switched ≡ true) → AreDrained e.w.coords
  all_drained some all =
      let long = e.two.servers in
      let within : 0 < length g.servers = omega arith in
      let s = stands_within g.servers 0 within in
      e.drained 0 s.0 s.1 (all 0 s.0 s.1)

  -- the second world has as many nodes as the grown one
  pub same_coords : length e.v.coords ≡ length g.coords
  same_coords = run_count last left coords e.second_steps e.v e.second ∙ (sym (run_count plan (first_beginning plan) coords e.first_steps e.w e.first) ∙ e.two.coords)

  pub same_servers : length e.w.servers ≡ plan.program.shards → length e.v.servers ≡ last.program.shards → IsGrownFrom plan.program last.program → length e.v.servers ≡ length g.servers
  same_servers first second grows = second ∙ (grows.shards ∙ (sym first ∙ e.two.servers))

  coord_there : (n : ℕ) (c : CoordState) → slice_get e.v.coords n ≡ Some c → (x : GrownCoordState) × (slice_get g.coords n ≡ Some x)
  coord_there n c at =
      let l = slice_get_within e.v.coords n c at in
      let long = same_coords in
      let within : n < length g.coords = omega (arith, l, long) in
      stands_within g.coords n within

  -- what a coordinator of the first world used no sequence from is where the second begins
  pub next_left : (n : ℕ) (d : CoordState) → slice_get e.w.coords n ≡ Some d → left.of_transactions.nexts n ≡ d.next
  next_left n d at = ap (next_in ((first_beginning plan).of_transactions.nexts n)) at

  -- an id of the second world is of a coordinator that has switched
  pub second_switched : (t : TxnId) → WasSubmitted e.v.history t → (c : GrownCoordState) × (slice_get g.coords t.coord ≡ Some c) × (c.switched ≡ true)
  second_switched t s =
      let given = (numbered last left coords e.second_steps e.v e.second).given t s.0 s.1 s.2 in
      let x = coord_there t.coord given.0 given.1 in
      go x.0 x.1 given.0 given.1 given.2 x.0.switched refl
    where
      go : (c : GrownCoordState) → slice_get g.coords t.coord ≡ Some c → (d : CoordState) → slice_get e.v.coords t.coord ≡ Some d → t.seq < d.next → (b : Bool) → c.switched ≡ b
          → (c : GrownCoordState) × (slice_get g.coords t.coord ≡ Some c) × (c.switched ≡ true)
      go c at d there l true is = (c, at, is)
      go c at d there l false is =
          let awaited : d.next ≡ c.core.next = ap (λ (d : CoordState). d.next) (same_there e.v.coords t.coord d (renewed_coord c.core) there (e.two.awaited_coords t.coord c at is)) in
          let stood = next_left t.coord c.core (e.two.first_coords t.coord c at is) in
          let low = ids_behind plan last (first_beginning plan) coords e.first_steps e.second_steps e.w e.v e.first e.second t s in
          absurd (omega (arith, awaited, stood, low))

  -- of a coordinator that has switched, an id is of the second file where its sequence is none of the first world's
  second_is : (t : TxnId) (c : GrownCoordState) → slice_get g.coords t.coord ≡ Some c → c.switched ≡ true → is_second g t ≡ nat_le (left.of_transactions.nexts t.coord) t.seq
  second_is t c at switched =
      let u = e.upto t.coord c at switched in
      ap (λ o. is_from_switched o t) at ∙ ((λ i. switched i && is_from (u.2 i) t.seq) ∙ ap (λ n. nat_le n t.seq) (sym (next_left t.coord u.0 u.1)))

  pub second_true : (t : TxnId) → WasSubmitted e.v.history t → is_second g t ≡ true
  second_true t s =
      let c = second_switched t s in
      second_is t c.0 c.1 c.2
      ∙ le-leb (left.of_transactions.nexts t.coord) t.seq (ids_behind plan last (first_beginning plan) coords e.first_steps e.second_steps e.w e.v e.first e.second t s)

  pub first_false : (t : TxnId) → WasSubmitted e.w.history t → is_second g t ≡ false
  first_false t s = go (slice_get g.coords t.coord) refl
    where
      by_switched : (c : GrownCoordState) → slice_get g.coords t.coord ≡ Some c → (b : Bool) → c.switched ≡ b → is_second g t ≡ false
      by_switched c at true is =
          second_is t c at is
          ∙ lt-leb (left.of_transactions.nexts t.coord) t.seq (ids_before plan last (first_beginning plan) coords e.first_steps e.second_steps e.w e.v e.first e.second t s)
      by_switched c at false is = ap (λ o. is_from_switched o t) at ∙ ap (λ b. b && is_from c.upto t.seq) is

      go : (o : Option GrownCoordState) → slice_get g.coords t.coord ≡ o → is_second g t ≡ false
      go None at = ap (λ o. is_from_switched o t) at
      go (Some c) at = by_switched c at c.switched refl

  -- what was submitted was submitted in one of the two
  pub of_either : (t : TxnId) → WasSubmitted g.history t → WasSubmitted e.w.history t ⊎ WasSubmitted e.v.history t
  of_either t s = elim (has_append (Submitted t s.0 s.1) e.w.history e.v.history (subst (Has (Submitted t s.0 s.1)) e.two.history s.2)) [
    | inl h ↦ inl (s.0, s.1, h)
    | inr h ↦ inr (s.0, s.1, h)
  ]

  pub of_second : (t : TxnId) → WasSubmitted g.history t → is_second g t ≡ true → WasSubmitted e.v.history t
  of_second t s second = elim (of_either t s) [
    | inl h ↦ absurd (false≢true (sym (first_false t h) ∙ second))
    | inr h ↦ h
  ]

  pub apart : (t : TxnId) → WasSubmitted e.w.history t → ¬ WasSubmitted e.v.history t
  apart = ids_apart plan last (first_beginning plan) coords e.first_steps e.second_steps e.w e.v e.first e.second

  -- who is of the first file called an old procedure
  pub old_procedure : (t : TxnId) (proc : ℕ) (args : List ℤ) → Has (Submitted t proc args) g.history → is_second g t ≡ false → proc < length plan.program.procedures
  old_procedure t proc args h first = elim (has_append (Submitted t proc args) e.w.history e.v.history (subst (Has (Submitted t proc args)) e.two.history h)) [
    | inl k ↦ ((run_late plan (first_beginning plan) coords e.first_steps e.w e.first).known t proc args k).0
    | inr k ↦ absurd (false≢true (sym first ∙ second_true t (proc, args, k)))
  ]
