-- Lacks while lists are taken in, one after another
use Rattle.std.specs.Prelude.{◌≡◌, ◌⊎◌, List, ◌++◌, map}
use Rattle.roc_sequence.specs.Lists.{Has}
use Rattle.roc_base.specs.declared.id.TxnId.{TxnId}
use Rattle.roc_depgraph.specs.declared.known.KnownList.{KnownList}
use Rattle.roc_depgraph.specs.Deps.{list_of, IsKnown, IsDecided}
use Rattle.roc_await.specs.declared.lack.Lack.{Lack}
use Rattle.roc_await.specs.Lacks.{IsLack}
use Rattle.roc_step.specs.Learning.{AreLearnable}

-- the lacks of what is known and was not decided before: nothing is missing where it is decided by now
pub record AreLacksSince (before known : List KnownList) (lacks : List Lack) : Type 0 where
  pub keeps : (t : TxnId) → IsKnown before t → list_of t known ≡ list_of t before
  pub each : (l : Lack) → Has l lacks → IsLack known l
  pub undecided : (l : Lack) → Has l lacks → ¬ IsDecided before l.of
  pub all : (t : TxnId) → IsKnown known t → IsDecided before t ⊎ ((l : Lack) × Has l lacks × (l.of ≡ t))

-- the lacks of what is known now: what was decided before stays so, and the rest has lacks, in which perhaps nothing is missing
pub record AreLacksNow (before known : List KnownList) (lacks : List Lack) : Type 0 where
  pub stays : (t : TxnId) → IsDecided before t → IsDecided known t
  pub each : (l : Lack) → Has l lacks → IsLack known l
  pub undecided : (l : Lack) → Has l lacks → ¬ IsDecided before l.of
  pub all : (t : TxnId) → IsKnown known t → IsDecided before t ⊎ ((l : Lack) × Has l lacks × (l.of ≡ t))

-- so of AreLacksSince where the last lists, which are those of these ids, are still to be taken in
pub record AreLacksTaken (before all : List KnownList) (left : List TxnId) (lacks : List Lack) : Type 0 where
  pub known : List KnownList
  pub news : List KnownList
  pub all_are : all ≡ known ++ news
  pub left_are : left ≡ map (λ k. k.of) news
  pub learnable : AreLearnable known news
  pub since : AreLacksSince before known lacks
