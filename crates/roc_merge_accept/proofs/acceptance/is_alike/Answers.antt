use Rattle.std.proofs.Common.{◌≡◌, ◌∙◌, ℕ, ◌<◌, Bool, List, [], ◌∷◌, IsTrue, length, get_or, refl, sym, ap, subst, inl, inr, arith}
use Rattle.std.proofs.lemmas.Bool.{cases_eq, false≢true}
use Rattle.std.specs.Bool.{nat_lt}
use Rattle.roc_sequence.specs.Lists.{Has}
use Rattle.roc_sequence.specs.Rising.{IsRising}
use Rattle.roc_program.specs.Pieces.{piece_of}
use Rattle.roc_program.specs.Program.{Workload}
use Rattle.roc_program.specs.declared.piece_id.PieceId.{PieceId}
use Rattle.roc_conflict.specs.Classes.{is_immediate}
use Rattle.roc_merge_groups.specs.Groups.{piece_numbered}
use Rattle.roc_merge_groups.specs.Core.{AreCoLocated}
use Rattle.roc_merge_accept.specs.Inner.Tests.{IsAlike}
use Rattle.roc_merge_groups.proofs.Elements.{place_of_has, has_at_place}
use Rattle.roc_merge_accept.proofs.Parting.{steps_from_rising}
use Rattle.roc_merge_accept.proofs.acceptance.is_alike.Goals as goal

alone : (g : List ℕ) (x y : ℕ) → length g ≡ 1 → Has x g → Has y g → x ≡ y
alone [] x y e h k = absurd h
alone (z ∷ []) x y e (inl h) (inl k) = h ∙ sym k
alone (z ∷ []) x y e (inr h) k = absurd h
alone (z ∷ []) x y e (inl h) (inr k) = absurd k
alone (z ∷ w ∷ g) x y e h k = absurd (omega arith)

module _ (program : Workload) (is_immediate : PieceId → Bool) (proc : ℕ) (group : List ℕ) where
  abbrev Like : ℕ → Type 0
  Like z = IsTrue (is_immediate (piece_numbered proc z)) × AreCoLocated program proc (get_or group 0 0) z

  all_like : ((k : ℕ) → k < length group → Like (get_or group k 0)) → IsAlike program is_immediate proc group
  all_like h = record {
    co_located = λ x y n hx hy. sym (like x hx).1 ∙ (like y hy).1;
    immediate = λ x y n hx hy. (like x hx).0;
  }
    where
      like : (x : ℕ) → Has x group → Like x
      like x hx = let at = place_of_has x group 0 hx in subst Like at.2 (h at.0 at.1)

  -- one of at least two
  like_from : IsRising nat_lt group → 1 < length group → IsAlike program is_immediate proc group → (x : ℕ) → Has x group → Like x
  like_from rising two is x hx =
      let first = has_at_place group 0 0 (omega arith) in
      let other = has_at_place group 1 0 two in
      elim (cases_eq x (get_or group 0 0)) [
        | inl e ↦ (let l : get_or group 0 0 < get_or group 1 0 = steps_from_rising (λ n. n) 0 group rising 0 two in
            (is.immediate x (get_or group 1 0) (omega arith) hx other, ap (λ n. (piece_of program (piece_numbered proc n)).place) (sym e)))
        | inr n ↦ (is.immediate x (get_or group 0 0) n hx first, is.co_located (get_or group 0 0) x (λ e. n (sym e)) first hx)
      ]

pub returns-then-group-eq1 : goal.returns-then-group-eq1
returns-then-group-eq1 c = (
  λ t. record {
    co_located = λ x y n hx hy. absurd (n (alone c.args.group.now x y c.if-group-eq1.true hx hy));
    immediate = λ x y n hx hy. absurd (n (alone c.args.group.now x y c.if-group-eq1.true hx hy));
  },
  λ is. refl,
)

pub returns-then-not-is_like : goal.returns-then-not-is_like
returns-then-not-is_like c = (
  λ t. absurd (false≢true t),
  λ is. absurd (false≢true (sym c.if-not-is_like.true ∙ c.is_like.ensures.1
      (like_from c.args.workload.now (is_immediate c.args.classes.now) c.args.proc c.args.group.now c.requires.part.rising (omega (arith, c.requires.part.some, c.if-group-eq1.false)) is
      (get_or c.args.group.now c.loop-piece.piece-index 0) (has_at_place c.args.group.now c.loop-piece.piece-index 0 c.loop-piece-test.true)))),
)

pub returns : goal.returns
returns c = (
  λ t. all_like c.args.workload.now (is_immediate c.args.classes.now) c.args.proc c.args.group.now (λ k l. c.loop-piece.invariant k (omega arith)),
  λ is. refl,
)
