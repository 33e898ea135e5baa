-- The groups of a procedure in turn, one after another, and where they end
use Rattle.std.proofs.Common.{◌≡◌, ℕ, suc, ◌<◌, ℤ, pos, Bool, true, false, cond, ◌==◌, List, [], ◌∷◌, ◌++◌, length, map, get_or, refl, sym, ap, subst, ◌∙◌, inl, inr, arith, append_assoc, append-nil}
use Rattle.std.specs.List.{AllByRecursion, flat_map, range_with_len}
use Rattle.std.proofs.lemmas.Bool.{false≢true, eq-eqb, eqb-true}
use Rattle.std.proofs.lemmas.List.Concat.{flat_map-append}
use Rattle.roc_sequence.specs.Lists.{Has}
use Rattle.roc_sequence.specs.Places.{place_of, IsListedBefore, NoneTwice, IsListed}
use Rattle.roc_sequence.proofs.Holds.{all_has, all_weaker, all_append}
use Rattle.roc_sequence.proofs.Ranges.{range_below}
use Rattle.roc_sequence.proofs.Members.{from_has_flat_map}
use Rattle.roc_rows.specs.Store.{Store}
use Rattle.roc_program.specs.Program.{Piece}
use Rattle.roc_program.specs.Values.{with_arguments}
use Rattle.roc_whole.specs.Run.{Progress, progress, after_pieces, whole_run}
use Rattle.roc_merge_groups.proofs.Elements.{range_rising, has_range}
use Rattle.roc_plan.specs.Groups.{Plan, procedure_of, group_of, inputs_of, outs_of}
use Rattle.roc_plan.specs.Accepted.{IsAccepted}
use Rattle.roc_plan.specs.Turns.{AreInTurn}
use Rattle.roc_law_groups.specs.GroupsRun.{Given, TurnStage, after_turn, after_turns, DoAs}
use Rattle.roc_law_groups.proofs.Moving.{run_all, spoken, said_by, run_in_words, run_all-append, same_end, same_said, IsReordered}
use Rattle.roc_law_groups.proofs.Sorting.{reordered}
use Rattle.roc_group.proofs.GroupStarts.{at}
use Rattle.roc_law_groups.proofs.GroupRuns.{IsAt, next_stage, outs_are}
use Rattle.roc_law_groups.proofs.Turned.{listed_has}
use Rattle.roc_law_groups.proofs.Replies.{spoken_among, same_said_each}
use Rattle.roc_group.proofs.Grouped.{has_names, bound_there, one_group, group_rising, is_piece}
use Rattle.roc_law_groups.proofs.Apart.{stand, all_pieces_in, only_pieces_in}
use Rattle.roc_law_groups.proofs.Whole.{by_number, distinct_rising, said_in_places}

-- what stands before one that is behind these is among these
before_is_among : (done rest : List ℕ) (g i : ℕ) → NoneTwice (λ a b. a == b) (done ++ g ∷ rest) → IsListedBefore (λ a b. a == b) (done ++ g ∷ rest) i g → Has i done
before_is_among [] rest g i once l = go (g == g) (eq-eqb g g refl) l
  where
    go : (b : Bool) → b ≡ true → cond (i == g) 0 (suc (place_of (λ x. i == x) rest)) < cond b 0 (suc (place_of (λ x. g == x) rest)) → Has i []
    go true e l = absurd (omega (arith, l))
    go false e l = absurd (false≢true e)
before_is_among (o ∷ os) rest g i once l = go (i == o) refl (g == o) refl l (before_is_among os rest g i once.1)
  where
    go : (s : Bool) → (i == o) ≡ s → (t : Bool) → (g == o) ≡ t → cond s 0 (suc (place_of (λ x. i == x) (os ++ g ∷ rest))) < cond t 0 (suc (place_of (λ x. g == x) (os ++ g ∷ rest)))
        → (IsListedBefore (λ a b. a == b) (os ++ g ∷ rest) i g → Has i os) → Has i (o ∷ os)
    go true e t f l ih = inl (eqb-true i o e)
    go false e true f l ih = absurd (omega (arith, l))
    go false e false f l ih = inr (ih (omega (arith, l)))

-- one that stands behind these is none of them
not_among : (done rest : List ℕ) (g : ℕ) → NoneTwice (λ a b. a == b) (done ++ g ∷ rest) → ¬ Has g done
not_among [] rest g once h = h
not_among (o ∷ os) rest g once (inl e) = once.0 (subst (λ x. IsListed (λ a b. a == b) (os ++ g ∷ rest) x) e (listed_has (os ++ g ∷ rest) g (has_in_middle os)))
  where
    has_in_middle : (xs : List ℕ) → Has g (xs ++ g ∷ rest)
    has_in_middle [] = inl refl
    has_in_middle (x ∷ xs) = inr (has_in_middle xs)
not_among (o ∷ os) rest g once (inr h) = not_among os rest g once.1 h

module _ (plan : Plan) (proc : ℕ) (args : List ℤ) (store : Store) (ok : IsAccepted plan) (there : proc < length plan.program.procedures) (order : List ℕ) (turn : AreInTurn plan proc order) where
  abbrev piece : ℕ → Piece
  piece = at (procedure_of plan proc)

  abbrev pieces_of : ℕ → List ℕ
  pieces_of g = (group_of plan proc g).pieces

  abbrev start : Progress
  start = progress store (with_arguments (procedure_of plan proc) args) []

  abbrev count : ℕ
  count = length (procedure_of plan proc).pieces

  abbrev At : List ℕ → Progress → TurnStage → Type 0
  At done q s = IsAt plan proc args (has_names plan proc ok there) (bound_there plan proc ok there) done q s

  -- a group gave what its pieces say among all pieces in turn
  abbrev Said : Given → Type 0
  Said e = e.outs ≡ flat_map (said_by piece start (flat_map pieces_of order)) (pieces_of e.group)

  record Stands (done : List ℕ) (s : TurnStage) : Type 0 where
    at : At done (run_all piece start (flat_map pieces_of done)) s
    said : AllByRecursion Said s.given

  -- one group more
  one_more : (done rest : List ℕ) (g : ℕ) (s : TurnStage) → done ++ g ∷ rest ≡ order → Stands done s → Stands (done ++ g ∷ []) (after_turn plan proc args s g)
  one_more done rest g s is stands =
      let once = subst (λ xs. NoneTwice (λ a b. a == b) xs) (sym is) turn.once in
      let fresh : ¬ Has g done = not_among done rest g once in
      let new : (k : ℕ) → Has k (flat_map pieces_of done) → Has k (pieces_of g) → ⊥ = λ k i j.
      let h = from_has_flat_map pieces_of k done i in fresh (subst (λ x. Has x done) (one_group plan proc ok there h.0 g k h.2 j) h.1) in
      let inputs = all_weaker _ (λ input. Has input.group done) (λ input h. before_is_among done rest g input.group once (subst (λ xs. IsListedBefore (λ a b. a == b) xs input.group g) (sym is) h.1)) (inputs_of plan proc g) (turn.behind g) in
      let q : Progress = run_all piece start (flat_map pieces_of done) in
      let next = next_stage plan proc args (has_names plan proc ok there) (bound_there plan proc ok there) done q s stands.at g new inputs fresh in
      let gave = outs_are plan proc args (has_names plan proc ok there) (bound_there plan proc ok there) done q s stands.at g new inputs in
      let joined : run_all piece q (pieces_of g) ≡ run_all piece start (flat_map pieces_of (done ++ g ∷ [])) =
      sym (run_all-append piece start (flat_map pieces_of done) (pieces_of g)) ∙ ap (run_all piece start) (sym (flat_map-append pieces_of done (g ∷ []) ∙ ap (λ ks. flat_map pieces_of done ++ ks) (append-nil (pieces_of g)))) in
      let all : flat_map pieces_of done ++ (pieces_of g ++ flat_map pieces_of rest) ≡ flat_map pieces_of order = sym (flat_map-append pieces_of done (g ∷ rest)) ∙ ap (flat_map pieces_of) is in
      let words = spoken_among piece start (flat_map pieces_of done) (pieces_of g) (flat_map pieces_of rest) (distinct_rising piece (pieces_of g) (group_rising plan proc ok there g)) (λ k i j. new k j i) in
      record {
        at = subst (λ p. At (done ++ g ∷ []) p (after_turn plan proc args s g)) joined next;
        said = all_append Said s.given _ stands.said (gave ∙ words ∙ ap (λ ks. flat_map (said_by piece start ks) (pieces_of g)) all, tt);
      }

  -- all of them
  to_the_end : (done rest : List ℕ) (s : TurnStage) → done ++ rest ≡ order → Stands done s → Stands order (after_turns plan proc args s rest)
  to_the_end done [] s is stands = subst (λ xs. Stands xs s) (sym (append-nil done) ∙ is) stands
  to_the_end done (g ∷ rest) s is stands = to_the_end (done ++ g ∷ []) rest (after_turn plan proc args s g) (append_assoc done (g ∷ []) rest ∙ is) (one_more done rest g s is stands)

  first_stage : Stands [] (record { store = store; given = [] })
  first_stage = record {
    at = record { cells = refl; nothing = refl; long = refl; fresh = λ n e. refl; groups = refl; bound = λ h i. absurd i };
    said = tt;
  }

  -- in program order
  in_program_order : List ℕ
  in_program_order = range_with_len 0 (length (procedure_of plan proc).pieces)

  same_pieces : IsReordered piece (range_with_len 0 (length (procedure_of plan proc).pieces)) (flat_map pieces_of order)
  same_pieces =
      reordered piece (range_with_len 0 count) (flat_map pieces_of order) (range_rising 0 count)
      (λ k h. all_pieces_in plan proc ok there order turn k (all_has (λ x. x < count) k (range_with_len 0 count) (range_below 0 count count (omega arith)) h))
      (λ k h. has_range 0 count k (omega arith) (let l = only_pieces_in plan proc ok there order turn k h in omega (arith, l)))
      (stand plan proc ok there order turn)

  whole_in_words : whole_run (procedure_of plan proc) args store ≡ progress (run_all piece start (range_with_len 0 (length (procedure_of plan proc).pieces))).store (run_all piece start (range_with_len 0 (length (procedure_of plan proc).pieces))).environment (spoken piece start (range_with_len 0 (length (procedure_of plan proc).pieces)))
  whole_in_words =
      ap (after_pieces start) (sym (by_number (procedure_of plan proc).pieces))
      ∙ run_in_words piece store (with_arguments (procedure_of plan proc) args) (range_with_len 0 count)

  pub do_as_whole : DoAs plan proc (whole_run (procedure_of plan proc) args store) (after_turns plan proc args (record { store = store; given = [] }) order)
  do_as_whole =
      let end = to_the_end [] order (record { store = store; given = [] }) refl first_stage in
      record {
        cells = end.at.cells ∙ sym (ap (λ (p : Progress). p.store) (same_end piece start (range_with_len 0 count) (flat_map pieces_of order) refl same_pieces)) ∙ sym (ap (λ (p : Progress). p.store) whole_in_words);
        outs = all_weaker Said (λ e. e.outs ≡ map (λ k. get_or (whole_run (procedure_of plan proc) args store).reply k (pos 0)) (outs_of plan proc e.group)) (λ e said.
            said
            ∙ same_said_each piece (said_by piece start (flat_map pieces_of order)) (said_by piece start (range_with_len 0 count)) (pieces_of e.group) (λ k h. sym (same_said piece start (range_with_len 0 count) (flat_map pieces_of order) k refl same_pieces))
            ∙ said_in_places (procedure_of plan proc) start (pieces_of e.group) refl (λ k h. is_piece plan proc ok there e.group k h)
            ∙ ap (λ (p : Progress). map (λ k. get_or p.reply k (pos 0)) (outs_of plan proc e.group)) (sym whole_in_words)) _ end.said;
      }
