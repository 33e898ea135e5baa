-- A set with one member, or none
use Rattle.std.proofs.Common.{◌≡◌, ◌<◌, Bool, true, false, List, [], ◌∷◌, ◌⊎◌, ◌&&◌, length, map, refl, sym, ◌∙◌, subst, inl, inr, arith}
use Rattle.std.proofs.lemmas.Bool.{false≢true}
use Rattle.std.specs.List.{list_any}
use Rattle.roc_sequence.specs.Lists.{Has}
use Rattle.roc_sequence.specs.Places.{IsListed, IsListedBefore}
use Rattle.roc_sequence.proofs.Members.{has_one}
use Rattle.roc_sequence.proofs.Places.{listed_head}
use Rattle.roc_base.specs.declared.id.TxnId.{TxnId}
use Rattle.roc_base.specs.TxnId.{is_txn, txn_lt}
use Rattle.roc_base.specs.Equalities.{is_txn-same}
use Rattle.roc_base.proofs.Ids.{txn_lt-itself, unlisted_none}
use Rattle.roc_depgraph.specs.declared.known.KnownList.{KnownList}
use Rattle.roc_depgraph.specs.Closure.{IsRisingListOf}
use Rattle.roc_depgraph.specs.Deps.{Precedes, PrecedesNow, entries_of}
use Rattle.roc_depgraph.proofs.Listed.{listed_one, in_one}
use Rattle.roc_depgraph.proofs.RisingLists.{none_listed}
use Rattle.roc_component.specs.Components.{among, Mates, IsNext, IsNextInside, IsComponentOrder, IsComponentOrderOf, AreTaken}
use Rattle.roc_component.specs.declared.turn.Turn.{Turn}
use Rattle.roc_component.specs.Inner.Turns.{none, more, IsDue, IsInside, IsLowest, IsNextTurn, turn_of}
use Rattle.roc_component.proofs.Relations.{mate_in}

not_below : (z t : TxnId) → z ≡ t → ¬ (txn_lt z t ≡ true)
not_below z t e l = false≢true (sym (txn_lt-itself t) ∙ subst (λ v. txn_lt v t ≡ true) e l)

-- ---- x is the one member of M

module _ (M : List TxnId) (x : TxnId) (here : IsListed is_txn M x) (only : (t : TxnId) → IsListed is_txn M t → t ≡ x) where
  module _ (E : TxnId → TxnId → Type 0) where
    abbrev A : TxnId → TxnId → Type 0
    A = among M E

    mate_is : (t u : TxnId) → IsListed is_txn M t → Mates A t u → u ≡ x
    mate_is t u l m = only u (mate_in E M t u l m)

    module _ (I : TxnId → TxnId → Type 0) (or_not : I x x ⊎ (¬ I x x)) (taken : TxnId → Type 0) where
      inside_one : IsNextInside A (among M I) taken x
      inside_one =
          elim or_not [
            | inl i ↦ inr (
              λ z m n f. n (f z m (let l = mate_in E M x z here m in (l, l, subst (λ v. I v v) (sym (only z l)) i))),
              λ z m n f. not_below z x (mate_is x z here m),
            )
            | inr n ↦ inl (
              λ p m i. absurd (n (subst (λ v. I v x) (only p i.0) i.2)),
              λ z m k f. not_below z x (mate_is x z here m),
            )
          ]

      next_one : IsNext A (among M I) M taken x
      next_one =
          record {
            ready = λ p y m e n. absurd (n (inl (sym (only p e.0))));
            ends = λ y z t m l n. subst (Mates A y) (only z l) m;
            least = λ z no l n r. (x, here, inl refl, not_below z x (only z l));
            inside = inside_one;
          }

  order_of_one : (E I : TxnId → TxnId → Type 0) → I x x ⊎ (¬ I x x) → IsComponentOrder E I M (x ∷ [])
  order_of_one E I or_not =
      record {
        once = (none_listed x, tt);
        from = λ t l. subst (IsListed is_txn M) (sym (listed_one x t l)) here;
        all = λ t l. subst (IsListed is_txn (x ∷ [])) (sym (only t l)) (in_one x);
        next = λ t l.
            subst (λ v. IsNext (among M E) (among M I) M (λ u. IsListedBefore is_txn (x ∷ []) u v) v) (sym (listed_one x t l))
            (next_one E I or_not (λ u. IsListedBefore is_txn (x ∷ []) u x));
      }

  pub one_is_order : (known : List KnownList) → IsComponentOrderOf known M (x ∷ [])
  one_is_order known = order_of_one (Precedes known) (PrecedesNow known) (tested (list_any (λ d. is_txn d.from x && d.imm) (entries_of known x)))
    where
      tested : (b : Bool) → (b ≡ true) ⊎ (¬ (b ≡ true))
      tested true = inl refl
      tested false = inr false≢true

  -- and the one component
  pub one_is_taken : (known : List KnownList) → AreTaken known M ((x ∷ []) ∷ [])
  one_is_taken known =
      record {
        order = one_is_order known;
        some = λ c h e. (let f : x ∷ [] ≡ [] = sym (has_one c (x ∷ []) h) ∙ e in absurd (cc));
        mates = λ c h t u k.
            let own : c ≡ x ∷ [] = has_one c (x ∷ []) h in
            let is : t ≡ x = has_one t x (subst (Has t) own k) in (
              λ m. subst (Has u) (sym own) (inl (mate_is (Precedes known) t u (subst (IsListed is_txn M) (sym is) here) m)),
              λ i. inl (is ∙ sym (has_one u x (subst (Has u) own i))),
            );
      }

-- ---- M has no member

module _ (M : List TxnId) (empty : (t : TxnId) → ¬ IsListed is_txn M t) (known : List KnownList) where
  none_is_order : IsComponentOrderOf known M []
  none_is_order = record { once = tt; from = λ t l. absurd (none_listed t l); all = λ t l. absurd (empty t l); next = λ t l. absurd (none_listed t l) }

  none_is_taken : AreTaken known M []
  none_is_taken = record { order = none_is_order; some = λ c h. absurd h; mates = λ c h. absurd h }

-- nothing is taken as nothing
pub none_taken : (known : List KnownList) → AreTaken known [] []
none_taken known = none_is_taken [] unlisted_none known

-- ---- of a set with fewer than two

pub few_in_order : (known : List KnownList) (M S : List TxnId) → IsRisingListOf (IsListed is_txn M) S → length S < 2 → IsComponentOrderOf known M S
few_in_order known M [] all few = none_is_order M (λ t l. none_listed t (all.complete t l)) known
few_in_order known M (x ∷ []) all few = one_is_order M x (all.sound x (in_one x)) (λ t l. listed_one x t (all.complete t l)) known
few_in_order known M (x ∷ y ∷ S) all few = absurd (omega arith)

pub few_taken : (known : List KnownList) (M S : List TxnId) → IsRisingListOf (IsListed is_txn M) S → length S < 2 → AreTaken known M (map (λ x. x ∷ []) S)
few_taken known M [] all few = none_is_taken M (λ t l. none_listed t (all.complete t l)) known
few_taken known M (x ∷ []) all few = one_is_taken M x (all.sound x (in_one x)) (λ t l. listed_one x t (all.complete t l)) known
few_taken known M (x ∷ y ∷ S) all few = absurd (omega arith)

-- ---- of a component with fewer than two

-- whether what comes before was taken or not, its turn is next
one_is_next : (t : Turn) → IsNextTurn (t ∷ []) [] t
one_is_next t = go t.before refl
  where
    lowest : (passes : Turn → Type 0) → IsLowest passes (t ∷ []) [] t.key
    lowest passes o h l p = not_below o.key t.key (subst (λ (v : Turn). v.key ≡ t.key) (sym (has_one o t h)) refl)

    go : (before : List TxnId) → t.before ≡ before → IsNextTurn (t ∷ []) [] t
    go [] e = inl (λ u l. subst (λ us. IsListed is_txn us u) e l, lowest (IsDue []))
    go (b ∷ bs) e =
        inr (
          λ o h l due. none_listed b (due b (subst (λ (v : Turn). IsListed is_txn v.before b) (sym (has_one o t h)) (subst (λ us. IsListed is_txn us b) (sym e) (listed_head is_txn b bs (is_txn-same b))))),
          lowest (λ o. Unit {0}),
        )

pub few_inside : (known : List KnownList) (c : List TxnId) → length c < 2 → IsInside known c c
few_inside known [] few = (none, λ t h. absurd h)
few_inside known (x ∷ []) few =
    let t = turn_of known (x ∷ []) x in
    (more t none (inl refl) (none_listed x) (one_is_next t) refl, λ o h. subst (λ (v : Turn). IsListed is_txn (x ∷ []) v.key) (sym (has_one o t h)) (in_one x))
few_inside known (x ∷ y ∷ c) few = absurd (omega arith)
