-- What is told of two files, and what their coordinators keep of it
use Rattle.std.proofs.Common.{◌≡◌, ◌⊎◌, inl, inr, ℕ, ℤ, ◌<◌, ◌≤◌, Bool, true, false, List, ◌∷◌, ◌++◌, Option, Some, length, refl, sym, subst, arith}
use Rattle.std.proofs.lemmas.Bool.{cases_lt}
use Rattle.std.proofs.lemmas.Option.{slice_get_within}
use Rattle.std.specs.Prelude.{slice_get}
use Rattle.roc_sequence.specs.Lists.{Has}
use Rattle.roc_sequence.proofs.Members.{has_append, has_left, has_right, same_there}
use Rattle.roc_base.specs.declared.id.TxnId.{TxnId}
use Rattle.roc_plan.specs.Groups.{Plan}
use Rattle.roc_coord.specs.State.{CoordState}
use Rattle.roc_audit.specs.declared.entry.Entry.{Entry}
use Rattle.roc_audit.specs.declared.entry.Entry.TheVariants.{Submitted, Answered}
use Rattle.roc_audit.specs.History.{WasSubmitted, WasAnswered, MayFollow, IsToldOnce}
use Rattle.roc_audit.proofs.Histories.{submitted_front}
use Rattle.roc_audit.proofs.Splits.{split_append}
use Rattle.roc_law_world.specs.World.{first_beginning}
use Rattle.roc_law_world.proofs.Answering.{AreTold, answered_submitted}
use Rattle.roc_law_world.proofs.AnsweringRuns.{told_in_runs}
use Rattle.roc_law_world.proofs.WovenOrder.{is_view, tells_them}
use Rattle.roc_law_world.proofs.Outcomes.{there as stands_within}
use Rattle.roc_epoch.specs.declared.next.Next.{Next}
use Rattle.roc_epoch.specs.Files.{last_plan}
use Rattle.roc_two_files.specs.Left.{AreDrained}
use Rattle.roc_grown.specs.Coord.{GrownCoordState}
use Rattle.roc_growth.specs.World.{GrownWorld}
use Rattle.roc_growth.specs.Run.{Stepped}
use Rattle.roc_growth.specs.Epochs.{AreEpochs}
use Rattle.roc_growth.proofs.Halves.{all_drained, apart, left, next_left, of_either, second_switched}

-- ---- two histories

-- what may follow one of two histories may follow it behind the other, where they tell of other ids
follows_behind : (first before : List Entry) (e : Entry) → MayFollow before e → ((t : TxnId) → WasSubmitted first t → (proc : ℕ) (args : List ℤ) → ¬ (e ≡ Submitted t proc args))
    → ((t : TxnId) (reply : List ℤ) → WasAnswered first t reply → (other : List ℤ) → ¬ (e ≡ Answered t other)) → MayFollow (first ++ before) e
follows_behind first before (Submitted t proc args) may new none = λ s. elim (has_append (Submitted t s.0 s.1) first before s.2) [
  | inl h ↦ absurd (new t (s.0, s.1, h) proc args refl)
  | inr h ↦ absurd (may (s.0, s.1, h))
]
follows_behind first before (Answered t reply) (s, once) new none = (
  (s.0, s.1, has_right (Submitted t s.0 s.1) first before s.2),
  λ other a. elim (has_append (Answered t other) first before a) [
    | inl h ↦ absurd (none t other h reply refl)
    | inr h ↦ absurd (once other h)
  ],
)

has_there : (front : List Entry) (e : Entry) (behind : List Entry) → Has e (front ++ e ∷ behind)
has_there front e behind = has_right e front (e ∷ behind) (inl refl)

pub told_both : (first second : List Entry) → IsToldOnce first → IsToldOnce second → ((t : TxnId) → WasSubmitted first t → ¬ WasSubmitted second t) → IsToldOnce (first ++ second)
told_both first second one two apart =
    record {
      each = λ front behind e is. elim (split_append first second front e behind is) [
        | inl k ↦ one.each front k.0 e k.1
        | inr k ↦
            (let has = subst (Has e) (sym k.2) (has_there k.0 e behind) in
            subst (λ l. MayFollow l e) (sym k.1)
            (follows_behind first k.0 e (two.each k.0 behind e k.2) (λ t s proc args same. apart t s (proc, args, subst (λ e. Has e second) same has))
            (λ t reply a other same. apart t (answered_submitted first one t reply a) (answered_submitted second two t other (subst (λ e. Has e second) same has)))))
      ];
    }

module _ (plan : Plan) (next : Option Next) (coords : ℕ) (steps : List Stepped) (g : GrownWorld) (e : AreEpochs plan next coords steps g) where
  -- what is told of each of the two
  pub first_tells : AreTold e.w
  first_tells =
      let b = first_beginning plan in
      told_in_runs plan b coords (is_view plan b coords e.first_steps e.w e.first) e.first_steps e.w e.first (tells_them plan b coords e.first_steps e.w e.first)

  pub second_tells : AreTold e.v
  second_tells =
      let b = left plan next coords steps g e in
      told_in_runs (last_plan plan next) b coords (is_view (last_plan plan next) b coords e.second_steps e.v e.second) e.second_steps e.v e.second
      (tells_them (last_plan plan next) b coords e.second_steps e.v e.second)

module _ (plan : Plan) (next : Option Next) (coords : ℕ) (steps : List Stepped) (g : GrownWorld) (e : AreEpochs plan next coords steps g) (first : AreTold e.w) (second : AreTold e.v) (some : 0 < length e.w.servers) where
  pub told_once : IsToldOnce g.history
  told_once = subst IsToldOnce (sym e.two.history) (told_both e.w.history e.v.history first.once second.once (apart plan next coords steps g e))

  first_told : (t : TxnId) → WasSubmitted e.w.history t → WasSubmitted g.history t
  first_told t s = subst (λ h. WasSubmitted h t) (sym e.two.history) (submitted_front e.w.history e.v.history t s)

  second_told : (t : TxnId) → WasSubmitted e.v.history t → WasSubmitted g.history t
  second_told t s = subst (λ h. WasSubmitted h t) (sym e.two.history) (s.0, s.1, has_right (Submitted t s.0 s.1) e.w.history e.v.history s.2)

  first_answered : (t : TxnId) (reply : List ℤ) → WasAnswered e.w.history t reply → WasAnswered g.history t reply
  first_answered t reply a = subst (Has (Answered t reply)) (sym e.two.history) (has_left (Answered t reply) e.w.history e.v.history a)

  second_answered : (t : TxnId) (reply : List ℤ) → WasAnswered e.v.history t reply → WasAnswered g.history t reply
  second_answered t reply a = subst (Has (Answered t reply)) (sym e.two.history) (has_right (Answered t reply) e.w.history e.v.history a)

  -- a used sequence is that of a submission
  pub used : ((coord seq : ℕ) (c : CoordState) → slice_get e.w.coords coord ≡ Some c → seq < c.next → WasSubmitted e.w.history (record { coord = coord; seq = seq }))
      → (AreDrained e.w.coords → (coord seq : ℕ) (c : CoordState) → slice_get e.v.coords coord ≡ Some c → (left plan next coords steps g e).of_transactions.nexts coord ≤ seq → seq < c.next
      → WasSubmitted e.v.history (record { coord = coord; seq = seq }))
      → (coord seq : ℕ) (c : GrownCoordState) → slice_get g.coords coord ≡ Some c → seq < c.core.next → WasSubmitted g.history (record { coord = coord; seq = seq })
  used old new coord seq c at l = go c.switched refl
    where
      go : (b : Bool) → c.switched ≡ b → WasSubmitted g.history (record { coord = coord; seq = seq })
      go false is = first_told _ (old coord seq c.core (e.two.first_coords coord c at is) l)
      go true is =
          let d = e.upto coord c at is in
          elim (cases_lt seq d.0.next) [
            | inl low ↦ first_told _ (old coord seq d.0 d.1 low)
            | inr high ↦
                (let stood = next_left plan next coords steps g e coord d.0 d.1 in
                second_told _ (new (all_drained plan next coords steps g e some (e.told.by_coord coord c at is)) coord seq c.core (e.two.second_coords coord c at is) (omega (arith, stood, high)) l))
          ]

  first_coord : (n : ℕ) (d : CoordState) → slice_get e.w.coords n ≡ Some d → (c : GrownCoordState) × (slice_get g.coords n ≡ Some c)
  first_coord n d at =
      let l = slice_get_within e.w.coords n d at in
      let long = e.two.coords in
      let within : n < length g.coords = omega arith in
      stands_within g.coords n within

  -- who was submitted is unanswered at its coordinator, or was answered
  abbrev IsKept : TxnId → Type 0
  IsKept t = (c : GrownCoordState) × (slice_get g.coords t.coord ≡ Some c) × (Has t c.core.unanswered ⊎ ((reply : List ℤ) × WasAnswered g.history t reply))

  first_kept : (t : TxnId) → WasSubmitted e.w.history t → IsKept t
  first_kept t s =
      let r = first.kept t s in
      let c = first_coord t.coord r.0 r.1 in
      go r.0 r.1 r.2 c.0 c.1 c.0.switched refl
    where
      go : (d : CoordState) → slice_get e.w.coords t.coord ≡ Some d → Has t d.unanswered ⊎ ((reply : List ℤ) × WasAnswered e.w.history t reply)
          → (c : GrownCoordState) → slice_get g.coords t.coord ≡ Some c → (b : Bool) → c.switched ≡ b → IsKept t
      go d at (inr a) c there b is = (c, there, inr (a.0, first_answered t a.0 a.1))
      go d at (inl u) c there false is =
          (c, there, inl (subst (λ (d : CoordState). Has t d.unanswered) (same_there e.w.coords t.coord d c.core at (e.two.first_coords t.coord c there is)) u))
      go d at (inl u) c there true is =
          absurd (subst (Has t) (all_drained plan next coords steps g e some (e.told.by_coord t.coord c there is) t.coord d at) u)

  second_kept : (t : TxnId) → WasSubmitted e.v.history t → IsKept t
  second_kept t s =
      let r = second.kept t s in
      let c = second_switched plan next coords steps g e t s in
      let core = same_there e.v.coords t.coord r.0 c.0.core r.1 (e.two.second_coords t.coord c.0 c.1 c.2) in (
        c.0,
        c.1,
        elim r.2 [
          | inl u ↦ inl (subst (λ (d : CoordState). Has t d.unanswered) core u)
          | inr a ↦ inr (a.0, second_answered t a.0 a.1)
        ],
      )

  pub kept : (t : TxnId) → WasSubmitted g.history t → IsKept t
  kept t s = elim (of_either plan next coords steps g e t s) [ inl h ↦ first_kept t h | inr h ↦ second_kept t h ]

  -- who was answered is unanswered nowhere
  pub gone : (t : TxnId) (reply : List ℤ) → WasAnswered g.history t reply → (n : ℕ) (c : GrownCoordState) → slice_get g.coords n ≡ Some c → ¬ Has t c.core.unanswered
  gone t reply a n c at u = go c.switched refl (has_append (Answered t reply) e.w.history e.v.history (subst (Has (Answered t reply)) e.two.history a))
    where
      go : (b : Bool) → c.switched ≡ b → Has (Answered t reply) e.w.history ⊎ Has (Answered t reply) e.v.history → ⊥
      go false is (inl old) = (first.unanswered n c.core (e.two.first_coords n c at is) t u).2 reply old
      go false is (inr new) = apart plan next coords steps g e t (first.unanswered n c.core (e.two.first_coords n c at is) t u).1 (answered_submitted e.v.history second.once t reply new)
      go true is (inl old) = apart plan next coords steps g e t (answered_submitted e.w.history first.once t reply old) (second.unanswered n c.core (e.two.second_coords n c at is) t u).1
      go true is (inr new) = (second.unanswered n c.core (e.two.second_coords n c at is) t u).2 reply new
