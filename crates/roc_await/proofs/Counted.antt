-- How many ids are missing for a transaction
use Rattle.std.proofs.Common.{◌≡◌, ◌<◌, Bool, true, List, find, length, Some, None, refl, ap, subst, inl, inr}
use Rattle.roc_sequence.specs.Lists.{Has}
use Rattle.roc_sequence.proofs.Found.{found_has, none_passes}
use Rattle.roc_sequence.proofs.Holds.{all_has}
use Rattle.roc_sequence.proofs.Places.{listed_true, listed_test}
use Rattle.roc_sequence.specs.Places.{is_listed}
use Rattle.roc_base.specs.declared.id.TxnId.{TxnId}
use Rattle.roc_base.specs.TxnId.{is_txn}
use Rattle.roc_depgraph.specs.declared.closure.Closure.{Closure}
use Rattle.roc_depgraph.specs.declared.closure.Closure.TheVariants.{Whole, Missing}
use Rattle.roc_depgraph.specs.declared.known.KnownList.{KnownList}
use Rattle.roc_depgraph.specs.Closure.{IsClosure}
use Rattle.roc_depgraph.specs.Deps.{IsKnown, IsDecided}
use Rattle.roc_depgraph.proofs.Listed.{has_under, has_listed, listed_has}
use Rattle.roc_depgraph.proofs.RisingLists.{rising_one}
use Rattle.roc_await.specs.declared.group.Group.{Group}
use Rattle.roc_await.specs.declared.lack.Lack.{Lack}
use Rattle.roc_await.specs.Lacks.{IsMissing, IsLack, AreLacks, count_of_missing}
use Rattle.roc_await.specs.Inner.Groups.{lack_with, all_lacks}
use Rattle.roc_await.proofs.GrownLacks.{some_undecided}
use Rattle.roc_await.proofs.InGroups.{lack_has, has_lack}

module _ (known : List KnownList) (groups : List Group) (are : AreLacks known (all_lacks groups)) (t : TxnId) (told : IsKnown known t) where
  abbrev has_it : Group → Bool
  has_it g = is_listed is_txn g.of t

  pub counted_found : (g : Group) (closure : Closure) → find has_it groups ≡ Some g → IsClosure known t closure → length g.missing ≡ count_of_missing closure
  counted_found g closure f = go closure
    where
      has : Has g groups × (has_it g ≡ true)
      has = found_has has_it groups g f

      there : Has (lack_with g.missing t) (all_lacks groups)
      there = lack_has g t groups has.0 (listed_has g.of t (listed_true is_txn g.of t has.1))

      lack : IsLack known (lack_with g.missing t)
      lack = all_has (IsLack known) (lack_with g.missing t) (all_lacks groups) are.each there

      some : 0 < length g.missing
      some = all_has (λ (l : Lack). 0 < length l.missing) (lack_with g.missing t) (all_lacks groups) are.some there

      go : (closure : Closure) → IsClosure known t closure → length g.missing ≡ count_of_missing closure
      go (Whole ids) c = absurd (some_undecided known (lack_with g.missing t) lack some c.0)
      go (Missing ids) c = ap length (rising_one (IsMissing known t) g.missing ids.items lack.missing c.1)

  pub counted_absent : (closure : Closure) → find has_it groups ≡ None → IsClosure known t closure → 0 ≡ count_of_missing closure
  counted_absent closure f = go closure
    where
      decided : IsDecided known t
      decided = elim (are.all t told) [
        | inl d ↦ d
        | inr l ↦ (
            let w = has_under (λ (l : Lack). l.of) (all_lacks groups) t l in
            let i = has_lack groups w.0 w.1 in
            absurd (none_passes has_it groups f i.group i.there (listed_test is_txn i.group.of t (has_listed i.group.of t (subst (λ x. Has x i.group.of) w.2 i.of)))))
      ]

      go : (closure : Closure) → IsClosure known t closure → 0 ≡ count_of_missing closure
      go (Whole ids) c = refl
      go (Missing ids) c = absurd (c.0 decided)
