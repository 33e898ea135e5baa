-- Lacks without some of what was missing
use Rattle.std.specs.Prelude.{◌≡◌, not, List, filter}
use Rattle.roc_sequence.specs.Lists.{Has}
use Rattle.roc_sequence.specs.Places.{is_listed}
use Rattle.roc_base.specs.declared.id.TxnId.{TxnId}
use Rattle.roc_base.specs.TxnId.{is_txn}
use Rattle.roc_await.specs.declared.lack.Lack.{Lack}

abbrev pub all_but : (gone : List TxnId) → List TxnId → List TxnId
all_but gone ids = filter (λ v. not (is_listed is_txn gone v)) ids

abbrev pub shortened : (gone : List TxnId) → Lack → Lack
shortened gone l = record { of = l.of; missing = all_but gone l.missing }

-- one of these was this
pub record WasLonger (gone : List TxnId) (olds : List Lack) (new : Lack) : Type 0 where
  pub old : Lack
  pub there : Has old olds
  pub is : new ≡ shortened gone old

-- each of the lacks, in any order, without these
pub record AreShortened (gone : List TxnId) (olds news : List Lack) : Type 0 where
  pub only : (l : Lack) → Has l news → WasLonger gone olds l
  pub each : (l : Lack) → Has l olds → Has (shortened gone l) news
