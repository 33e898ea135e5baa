-- Lists that were learnt last, and what was lacking before them
use Rattle.std.specs.Prelude.{◌≡◌, List, ◌++◌, map}
use Rattle.roc_base.specs.declared.id.TxnId.{TxnId}
use Rattle.roc_depgraph.specs.declared.known.KnownList.{KnownList}
use Rattle.roc_await.specs.declared.lack.Lack.{Lack}
use Rattle.roc_await.specs.Lacks.{AreLacks}
use Rattle.roc_step.specs.Learning.{AreLearnable}

-- the last lists are those of these ids and were new, each when it was learnt; before them, these were the lacks
pub record AreLacksBefore (known : List KnownList) (ids : List TxnId) (lacks : List Lack) : Type 0 where
  pub before : List KnownList
  pub news : List KnownList
  pub known_are : known ≡ before ++ news
  pub ids_are : ids ≡ map (λ k. k.of) news
  pub learnable : AreLearnable before news
  pub lacks_were : AreLacks before lacks
