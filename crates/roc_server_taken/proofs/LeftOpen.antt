-- What is left of components where those that are over go, and others stand under other members
use Rattle.std.proofs.Common.{◌≡◌, ◌≢◌, ◌<◌, ◌≤◌, ◌+◌, ℕ, suc, Bool, true, false, cond, not, List, [], ◌∷◌, ◌++◌, length, map, filter, refl, sym, ap, subst, ◌∙◌, inl, inr, arith}
use Rattle.std.proofs.lemmas.Bool.{false≢true}
use Rattle.std.specs.Prelude.{◌⊎◌}
use Rattle.std.specs.List.{AllByRecursion}
use Rattle.roc_sequence.specs.Lists.{Has}
use Rattle.roc_sequence.proofs.Holds.{all_has, all_weaker, every_has, has_all}
use Rattle.roc_sequence.proofs.Members.{has_append, has_left, has_right}
use Rattle.roc_base.specs.declared.id.TxnId.{TxnId}
use Rattle.roc_server_taken.specs.declared.components.Component.{Component}
use Rattle.roc_step.specs.Below.{is_ended}
use Rattle.roc_step.specs.Forgets.{is_over}
use Rattle.roc_server_taken.specs.Inner.Over.{by_turn, is_not_over, is_under, members_by_turn, put_turned}
use Rattle.roc_server_taken.specs.Inner.Over.{turned_component, AreBefore, AreStanding, HaveOwnTurns, IsPutBetween, LeavesOpen, TurnedComponent}
use Rattle.roc_server_taken.proofs.Ended.{coord_within, ended_here}
use Rattle.roc_server_taken.proofs.TurnOrder.{all_between, all_pass, from_all_between, from_turns_between, members_left, put_between, put_last, put_lost, turned_all, turns_between}

-- ---- one component more

module _ (x : Component) (old new : List Component) (p : IsPutBetween x old new) where
  abbrev IsApart : Component → Type 0
  IsApart d = d.turn ≢ x.turn

  put_apart : HaveOwnTurns new → AllByRecursion IsApart old × HaveOwnTurns old
  put_apart h =
      let k = from_turns_between x p.before p.behind (subst HaveOwnTurns p.is h) in
      (subst (AllByRecursion IsApart) (sym p.was) k.0, subst HaveOwnTurns (sym p.was) k.1)

  apart_put : AllByRecursion IsApart old → HaveOwnTurns old → HaveOwnTurns new
  apart_put a h = subst HaveOwnTurns (sym p.is) (turns_between x p.before p.behind (subst (AllByRecursion IsApart) p.was a) (subst HaveOwnTurns p.was h))

  put_is : AllByRecursion IsApart old → by_turn new ≡ put_turned (turned_component x) (by_turn old)
  put_is a = ap by_turn p.is ∙ put_between x p.before p.behind (subst (AllByRecursion IsApart) p.was a) ∙ ap (λ l. put_turned (turned_component x) (by_turn l)) (sym p.was)

  pub all_put : (P : Component → Type 0) → P x → AllByRecursion P old → AllByRecursion P new
  all_put P h a = subst (AllByRecursion P) (sym p.is) (all_between P x p.before p.behind h (subst (AllByRecursion P) p.was a))

  pub put_all : (P : Component → Type 0) → AllByRecursion P new → P x × AllByRecursion P old
  put_all P a = let k = from_all_between P x p.before p.behind (subst (AllByRecursion P) p.is a) in (k.0, subst (AllByRecursion P) (sym p.was) k.1)

  still_has : (c : Component) → Has c old → Has c new
  still_has c h =
      subst (Has c) (sym p.is)
      (elim (has_append c p.before p.behind (subst (Has c) p.was h)) [
        | inl k ↦ has_left c p.before (x ∷ p.behind) k
        | inr k ↦ has_right c p.before (x ∷ p.behind) (inr k)
      ])

  had_or_is : (c : Component) → Has c new → (c ≡ x) ⊎ Has c old
  had_or_is c h =
      elim (has_append c p.before (x ∷ p.behind) (subst (Has c) p.is h)) [
        | inl k ↦ inr (subst (Has c) (sym p.was) (has_left c p.before p.behind k))
        | inr k ↦ elim k [ inl e ↦ inl e | inr m ↦ inr (subst (Has c) (sym p.was) (has_right c p.before p.behind m)) ]
      ]

  -- one more stands
  stands_more : AreStanding old → Has x.under x.members → AllByRecursion IsApart old → AreStanding new
  stands_more s h a = record { among = all_put (λ c. Has c.under c.members) h s.among; turns = apart_put a s.turns }

  -- one that has the last turn is the last
  pub put_behind : AreStanding old → Has x.under x.members → AreBefore x.turn old
      → AreStanding new × (AreBefore (x.turn + 1) new × (members_by_turn new ≡ members_by_turn old ++ x.members ∷ []))
  put_behind s h b =
      let apart : AllByRecursion IsApart old = all_weaker (λ (c : Component). c.turn < x.turn) IsApart (λ c l e. absurd (omega (arith, l, e))) old b in (
        stands_more s h apart,
        (
          all_put (λ c. c.turn < x.turn + 1) (omega arith) (all_weaker (λ (c : Component). c.turn < x.turn) (λ c. c.turn < x.turn + 1) (λ c l. omega arith) old b),
          ap (map (λ (y : TurnedComponent). y.members)) (put_is apart ∙ put_last (turned_component x) (by_turn old) (turned_all (λ y. y.turn < x.turn) old b))
              ∙ map_more (by_turn old),
        ),
      )
    where
      map_more : (ys : List TurnedComponent) → map (λ (y : TurnedComponent). y.members) (ys ++ turned_component x ∷ []) ≡ map (λ (y : TurnedComponent). y.members) ys ++ x.members ∷ []
      map_more [] = refl
      map_more (y ∷ ys) = ap (λ l. y.members ∷ l) (map_more ys)

-- ---- how many pass

module _ (p : Component → Bool) where
  pub count_between : (x : Component) (xs ys : List Component) → p x ≡ true → length (filter p (xs ++ x ∷ ys)) ≡ suc (length (filter p (xs ++ ys)))
  count_between x [] ys e = ap (λ b. length (cond b (x ∷ filter p ys) (filter p ys))) e
  count_between x (a ∷ xs) ys e = go (p a) (count_between x xs ys e)
    where
      go : (b : Bool) → length (filter p (xs ++ x ∷ ys)) ≡ suc (length (filter p (xs ++ ys)))
          → length (cond b (a ∷ filter p (xs ++ x ∷ ys)) (filter p (xs ++ x ∷ ys))) ≡ suc (length (cond b (a ∷ filter p (xs ++ ys)) (filter p (xs ++ ys))))
      go true h = ap suc h
      go false h = h

  pub none_between : (x : Component) (xs ys : List Component) → p x ≡ false → filter p (xs ++ x ∷ ys) ≡ filter p (xs ++ ys)
  none_between x [] ys e = ap (λ b. cond b (x ∷ filter p ys) (filter p ys)) e
  none_between x (a ∷ xs) ys e = ap (λ l. cond (p a) (a ∷ l) l) (none_between x xs ys e)

  pub one_more_passes : (x : Component) (old new : List Component) → IsPutBetween x old new → p x ≡ true → length (filter p old) < length (filter p new)
  one_more_passes x old new put e =
      let same : length (filter p new) ≡ suc (length (filter p old)) =
      ap (λ l. length (filter p l)) put.is ∙ count_between x put.before put.behind e ∙ ap (λ l. suc (length (filter p l))) (sym put.was) in
      omega arith

  pub none_more_passes : (x : Component) (old new : List Component) → IsPutBetween x old new → p x ≡ false → length (filter p new) ≡ length (filter p old)
  none_more_passes x old new put e =
      ap (λ l. length (filter p l)) put.is ∙ ap length (none_between x put.before put.behind e) ∙ ap (λ l. length (filter p l)) (sym put.was)

  -- one passes no more, and another never did
  pub fewer_moved : (x y : Component) (old rest new : List Component) → IsPutBetween x rest old → IsPutBetween y rest new → p x ≡ true → p y ≡ false → length (filter p new) < length (filter p old)
  fewer_moved x y old rest new out put e n = omega (arith, one_more_passes x rest old out e, none_more_passes y rest new put n)

  pub fewer_from : (now old new : List Component) → old ≡ now → length (filter p new) < length (filter p old) → length (filter p new) < length (filter p now)
  fewer_from now old new e h = subst (λ cs. length (filter p new) < length (filter p cs)) e h

-- ---- what is left

module _ (below : List ℕ) where
  -- nothing is left out
  pub left_same : (cs : List Component) → AreStanding cs → LeavesOpen below cs cs
  left_same cs s = record { left = refl; standing = s; before = λ n b. b; ended = λ c has e. has }

  pub left_from : (now old new : List Component) → old ≡ now → LeavesOpen below old new → LeavesOpen below now new
  left_from now old new e h = subst (λ cs. LeavesOpen below cs new) e h

  pub left_to : (old now new : List Component) → new ≡ now → LeavesOpen below old new → LeavesOpen below old now
  left_to old now new e h = subst (LeavesOpen below old) e h

  pub left_on : (a b c : List Component) → LeavesOpen below a b → LeavesOpen below b c → LeavesOpen below a c
  left_on a b c h k = record {
    left = k.left ∙ h.left;
    standing = k.standing;
    before = λ n s. k.before n (h.before n s);
    ended = λ d has e. h.ended d (k.ended d has e) e;
  }

  module _ (x : Component) (old rest : List Component) (s : AreStanding old) (out : IsPutBetween x rest old) where
    own : AllByRecursion (λ (d : Component). d.turn ≢ x.turn) rest × HaveOwnTurns rest
    own = put_apart x rest old out s.turns

    pub stands_less : AreStanding rest
    stands_less = record { among = (put_all x rest old out (λ c. Has c.under c.members) s.among).1; turns = own.1 }

    -- it is over, and goes
    pub goes : is_over below x.members ≡ true → LeavesOpen below old rest
    goes o = record {
      left = sym (ap (filter (is_not_over below)) (put_is x rest old out own.0) ∙ put_lost (is_not_over below) (turned_component x) (by_turn rest) (ap not o));
      standing = stands_less;
      before = λ n b. (put_all x rest old out (λ c. c.turn < n) b).1;
      ended = λ c h e. still_has x rest old out c h;
    }

    -- it stands under another member, that is not ended
    pub moves : (id : TxnId) (y : Component) (new : List Component) → y ≡ record { under = id; turn = x.turn; members = x.members }
        → IsPutBetween y rest new → Has id x.members → is_ended below id ≡ false → LeavesOpen below old new
    moves id y new is put h n =
        let turn : y.turn ≡ x.turn = ap (λ (c : Component). c.turn) is in
        let apart : AllByRecursion (λ (d : Component). d.turn ≢ y.turn) rest = subst (λ t. AllByRecursion (λ (d : Component). d.turn ≢ t) rest) (sym turn) own.0 in
        record {
          left =
              ap (filter (is_not_over below))
              (put_is y rest new put apart ∙ ap (λ (c : Component). put_turned (turned_component c) (by_turn rest)) is ∙ sym (put_is x rest old out own.0));
          standing = stands_more y rest new put stands_less (subst (λ (c : Component). Has c.under c.members) (sym is) h) apart;
          before = λ n b. let k = put_all x rest old out (λ c. c.turn < n) b in all_put y rest new put (λ c. c.turn < n) (subst (λ t. t < n) (sym turn) k.0) k.1;
          ended = λ c has e.
              elim (had_or_is y rest new put c has) [
                | inl same ↦ absurd (false≢true (sym n ∙ ap (λ (d : Component). is_ended below d.under) (sym is ∙ sym same) ∙ e))
                | inr k ↦ still_has x rest old out c k
              ];
        }

  -- ---- coordinator by coordinator

  -- none stands under an ended member of a coordinator below this one
  abbrev pub AreFrom : ℕ → List Component → Type 0
  AreFrom k cs = (c : Component) → Has c cs → is_ended below c.under ≡ true → k ≤ c.under.coord

  pub from_next : (k : ℕ) (old new : List Component) → LeavesOpen below old new → AreFrom k old → AllByRecursion (λ c. is_under below k c ≡ false) new → AreFrom (k + 1) new
  from_next k old new h from none c has e =
      let low : k ≤ c.under.coord = from c (h.ended c has e) e in
      let other = all_has (λ c. is_under below k c ≡ false) c new none has in
      let apart : c.under.coord ≢ k = λ same. false≢true (sym other ∙ ended_here below k c.under same e) in
      omega (arith, low, apart)

  pub from_all : (cs : List Component) (n : ℕ) → n ≡ length below → AreFrom n cs → AllByRecursion (λ c. is_ended below c.under ≡ false) cs
  from_all cs n len from = has_all (λ c. is_ended below c.under ≡ false) cs (λ c has. go c has (is_ended below c.under) refl)
    where
      go : (c : Component) → Has c cs → (b : Bool) → is_ended below c.under ≡ b → is_ended below c.under ≡ false
      go c has true e = absurd (
          let high : n ≤ c.under.coord = from c has e in
          let low : c.under.coord < n = coord_within below n len c.under e in
          omega (arith, high, low))
      go c has false e = e

  -- ---- exactly those that are not over

  open_left : (cs : List Component) → AreStanding cs → AllByRecursion (λ c. is_ended below c.under ≡ false) cs → AllByRecursion (λ y. is_not_over below y ≡ true) (by_turn cs)
  open_left cs s n = turned_all (λ y. is_not_over below y ≡ true) cs (has_all (λ (c : Component). is_not_over below (turned_component c) ≡ true) cs (λ c has.
      go c (all_has (λ (c : Component). Has c.under c.members) c cs s.among has) (all_has (λ (c : Component). is_ended below c.under ≡ false) c cs n has) (is_over below c.members) refl))
    where
      go : (c : Component) → Has c.under c.members → is_ended below c.under ≡ false → (b : Bool) → is_over below c.members ≡ b → not (is_over below c.members) ≡ true
      go c h n true e = absurd (false≢true (sym n ∙ every_has (is_ended below) c.members e c.under h))
      go c h n false e = ap not e

  pub left_is : (old new : List Component) → LeavesOpen below old new → AllByRecursion (λ c. is_ended below c.under ≡ false) new
      → members_by_turn new ≡ filter (λ m. not (is_over below m)) (members_by_turn old)
  left_is old new h n =
      ap (map (λ (y : TurnedComponent). y.members)) (sym (all_pass (is_not_over below) (by_turn new) (open_left new h.standing n)) ∙ h.left) ∙ members_left below (by_turn old)
