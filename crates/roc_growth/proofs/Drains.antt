-- What comes of a drained at a server, and what it knows by it
use Rattle.std.proofs.Common.{◌≡◌, ◌∙◌, ◌⊎◌, inl, inr, ◌≤◌, ◌<◌, ℕ, zero, suc, Bool, true, false, nat_lt, List, [], ◌∷◌, Option, Some, None, length, take, refl, sym, ap, subst, arith}
use Rattle.std.proofs.lemmas.Bool.{false≢true}
use Rattle.std.proofs.lemmas.List.{length-set}
use Rattle.std.proofs.lemmas.Option.{slice_get_cases}
use Rattle.std.specs.Prelude.{slice_get, slice_set, slice_index_or, is_some, is_none, if◌then◌else◌}
use Rattle.std.specs.List.{filter_map}
use Rattle.roc_sequence.specs.Lists.{Has}
use Rattle.roc_sequence.proofs.Holds.{every_has}
use Rattle.roc_sequence.proofs.Members.{from_has_map, same_there}
use Rattle.roc_base.specs.declared.id.TxnId.{TxnId}
use Rattle.roc_msg.specs.declared.outbox.Outgoing.{Outgoing}
use Rattle.roc_law_protocol.proofs.Stopping.{take_has}
use Rattle.roc_epoch.specs.declared.next.Next.{Next}
use Rattle.roc_epoch.specs.Files.{is_between}
use Rattle.roc_two_files.proofs.Networks.{AreBetween}
use Rattle.roc_grown.specs.Server.{GrownServerState, GrownStep, foreign_at, taken_at, with_drained, have_all_drained, switched_to, switched_sends, gone_over, over_if_all, told_drained, after_drained}
use Rattle.roc_grown.specs.Coord.{GrownCoordState}
use Rattle.roc_growth.specs.Told.{HasTold, HasSwitched, IsToldRight}

-- ---- lists

pub set_either : {A : Type 0} (xs : List A) (i j : ℕ) (b c : A) → slice_get (slice_set xs i b) j ≡ Some c → ((i ≡ j) × (c ≡ b)) ⊎ (slice_get xs j ≡ Some c)
set_either [] i j b c h = inr h
set_either (x ∷ xs) zero zero b c h = let same : Some b ≡ Some c = h in inl (refl, cc)
set_either (x ∷ xs) zero (suc j) b c h = inr h
set_either (x ∷ xs) (suc i) zero b c h = inr h
set_either (x ∷ xs) (suc i) (suc j) b c h = elim (set_either xs i j b c h) [ inl q ↦ inl (ap suc q.0, q.1) | inr k ↦ inr k ]

at_place : {A : Type 0} (a : A) (xs : List A) → Has a xs → (i : ℕ) × (slice_get xs i ≡ Some a)
at_place a [] h = absurd h
at_place a (x ∷ xs) (inl e) = (0, ap Some (sym e))
at_place a (x ∷ xs) (inr h) = let q = at_place a xs h in (suc q.0, q.1)

taken_at_place : {A : Type 0} (xs : List A) (k i : ℕ) (a : A) → i < k → slice_get xs i ≡ Some a → Has a (take k xs)
taken_at_place xs zero i a l h = absurd (omega arith)
taken_at_place [] (suc k) i a l h = absurd (cc)
taken_at_place (x ∷ xs) (suc k) zero a l h = let same : Some x ≡ Some a = h in inl (cc)
taken_at_place (x ∷ xs) (suc k) (suc i) a l h = inr (taken_at_place xs k i a (omega arith) h)

told_there : (u : TxnId) (xs : List (Option TxnId)) → Has u (filter_map (λ t. t) xs) → Has (Some u) xs
told_there u [] h = absurd h
told_there u (None ∷ xs) h = inr (told_there u xs h)
told_there u (Some w ∷ xs) (inl e) = inl (ap Some e)
told_there u (Some w ∷ xs) (inr h) = inr (told_there u xs h)

-- ---- what comes of it

module _ (s : GrownServerState) (upto : TxnId) where
  abbrev pub kept_more : GrownServerState
  kept_more = record s { drained = with_drained upto s.drained }

  pub data DrainEnds (next : Option Next) (g : GrownStep) : Type 0 where
    foreign : g ≡ foreign_at s → DrainEnds next g
    answers : s.switched ≡ true → g ≡ taken_at s (switched_to s.core.shard upto ∷ []) → DrainEnds next g
    keeps : s.switched ≡ false → g ≡ taken_at kept_more [] → DrainEnds next g
    goes : (nx : Next) → next ≡ Some nx → s.switched ≡ false → have_all_drained nx.coords kept_more.drained ≡ true
        → g ≡ taken_at (gone_over kept_more) (switched_sends s.core.shard nx.coords kept_more.drained) → DrainEnds next g

  pub drain_ends : (next : Option Next) → DrainEnds next (after_drained next s upto)
  drain_ends None = foreign refl
  drain_ends (Some nx) = known (nat_lt upto.coord nx.coords)
    where
      all : s.switched ≡ false → (b : Bool) → have_all_drained nx.coords kept_more.drained ≡ b
          → DrainEnds (Some nx) (if b then taken_at (gone_over kept_more) (switched_sends s.core.shard nx.coords kept_more.drained) else taken_at kept_more [])
      all e true h = goes nx refl e h refl
      all e false h = keeps e refl

      told : (b : Bool) → s.switched ≡ b → DrainEnds (Some nx) (if b then taken_at s (switched_to s.core.shard upto ∷ []) else over_if_all nx kept_more)
      told true e = answers e refl
      told false e = all e (have_all_drained nx.coords kept_more.drained) refl

      known : (b : Bool) → DrainEnds (Some nx) (if b then told_drained nx s upto else foreign_at s)
      known true = told s.switched refl
      known false = foreign refl

  -- ---- what it keeps

  module _ (coords : List GrownCoordState) (has : HasTold coords upto) where
    pub kept_or_told : (i : ℕ) (w : TxnId) → slice_get kept_more.drained i ≡ Some (Some w) → (slice_get s.drained i ≡ Some (Some w)) ⊎ ((w.coord ≡ i) × HasTold coords w)
    kept_or_told i w = go (is_none (slice_index_or s.drained upto.coord None))
      where
        go : (b : Bool) → slice_get (if b then slice_set s.drained upto.coord (Some upto) else s.drained) i ≡ Some (Some w) → (slice_get s.drained i ≡ Some (Some w)) ⊎ ((w.coord ≡ i) × HasTold coords w)
        go true h = elim (set_either s.drained upto.coord i (Some upto) (Some w) h) [
          | inl q ↦ (let same : w ≡ upto = (let both = q.1 in cc) in inr (ap (λ (w : TxnId). w.coord) same ∙ q.0, subst (HasTold coords) (sym same) has))
          | inr k ↦ inl k
        ]
        go false h = inl h

    pub many_kept : length kept_more.drained ≡ length s.drained
    many_kept = go (is_none (slice_index_or s.drained upto.coord None))
      where
        go : (b : Bool) → length (if b then slice_set s.drained upto.coord (Some upto) else s.drained) ≡ length s.drained
        go true = length-set s.drained upto.coord (Some upto)
        go false = refl

    module _ (kept : (i : ℕ) (w : TxnId) → slice_get s.drained i ≡ Some (Some w) → (w.coord ≡ i) × HasTold coords w) where
      pub kept_now : (i : ℕ) (w : TxnId) → slice_get kept_more.drained i ≡ Some (Some w) → (w.coord ≡ i) × HasTold coords w
      kept_now i w h = elim (kept_or_told i w h) [ inl k ↦ kept i w k | inr q ↦ q ]

      -- where all have told each coordinator has told
      pub all_told : (many : ℕ) → many ≤ 16 → length s.drained ≡ 16 → have_all_drained many kept_more.drained ≡ true → (i : ℕ) (c : GrownCoordState) → i < many → slice_get coords i ≡ Some c
          → (w : TxnId) × (c.upto ≡ Some w)
      all_told many few sixteen all i c l at = go there.0 there.1 (every_has is_some (take many kept_more.drained) all there.0 (taken_at_place kept_more.drained many i there.0 l there.1))
        where
          there : (t : Option TxnId) × (slice_get kept_more.drained i ≡ Some t)
          there = elim (slice_get_cases kept_more.drained i).1 [
            | inl q ↦ (q.0, q.2)
            | inr q ↦ (let past = q.0 in let long = many_kept ∙ sixteen in absurd (omega (arith, past, long, l, few)))
          ]

          go : (t : Option TxnId) → slice_get kept_more.drained i ≡ Some t → is_some t ≡ true → (w : TxnId) × (c.upto ≡ Some w)
          go None h e = absurd (false≢true e)
          go (Some w) h e =
              let q = kept_now i w h in
              let d = q.1 in
              let same : d.0 ≡ c = same_there coords i d.0 c (subst (λ k. slice_get coords k ≡ Some d.0) q.0 d.1) at in
              (w, ap (λ (c : GrownCoordState). c.upto) (sym same) ∙ d.2)

      -- what it tells is right
      pub switched_right : (many : ℕ) (servers : List GrownServerState) → HasSwitched servers s.core.shard.0 → (out : Outgoing) → Has out (switched_sends s.core.shard many kept_more.drained)
          → IsToldRight servers coords out.msg out.to
      switched_right many servers now out h =
          let q = from_has_map (switched_to s.core.shard) out (filter_map (λ t. t) (take many kept_more.drained)) h in
          let at = at_place (Some q.0) kept_more.drained (take_has many kept_more.drained (Some q.0) (told_there q.0 (take many kept_more.drained) q.1)) in
          subst (λ (o : Outgoing). IsToldRight servers coords o.msg o.to) (sym q.2) (refl, now, (kept_now at.0 q.0 at.1).1)

  pub switched_between : (many : ℕ) → AreBetween (switched_sends s.core.shard many kept_more.drained)
  switched_between many out h =
      let q = from_has_map (switched_to s.core.shard) out (filter_map (λ t. t) (take many kept_more.drained)) h in ap (λ (o : Outgoing). is_between o.msg) q.2
