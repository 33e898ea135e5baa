-- Lists of predecessors, and their union by id
use Rattle.std.specs.Prelude.{◌≡◌, ◌≤◌, Bool, true, List, [], ◌∷◌, Option, Some, None, if◌then◌else◌, find}
use Rattle.std.specs.List.{AllByRecursion}
use Rattle.roc_base.specs.declared.id.TxnId.{TxnId}
use Rattle.roc_base.specs.TxnId.{is_txn, txn_lt}
use Rattle.roc_sequence.specs.Lists.{Has}
use Rattle.roc_sequence.specs.Rising.{IsRising}
use Rattle.roc_base.specs.Edge.{Dependency, HasTag, joined}

-- one entry's id comes before another's
abbrev pub comes_before : Dependency → Dependency → Bool
comes_before a b = txn_lt a.from b.from

-- a list of predecessors as it travels: rising strictly by id, each entry with a tag
pub record IsEdgeList (es : List Dependency) : Type 0 where
  pub rising : IsRising comes_before es
  pub tagged : AllByRecursion HasTag es

-- the first entry of an id
abbrev pub entry_at : TxnId → List Dependency → Option Dependency
entry_at id es = find (λ e. is_txn e.from id) es

-- an entry, joined with what others of its id say
abbrev pub joined_with : Dependency → Option Dependency → Dependency
joined_with e None = e
joined_with e (Some others) = joined e others

-- what all entries of an id say together: nothing where there is none, else their tags, and the least of their shards
abbrev pub all_of : TxnId → List Dependency → Option Dependency
all_of id [] = None
all_of id (e ∷ es) = if is_txn e.from id then Some (joined_with e (all_of id es)) else all_of id es

-- an entry says all that another of its id says
pub record Covers (a b : Dependency) : Type 0 where
  pub from : a.from ≡ b.from
  pub imm : b.imm ≡ true → a.imm ≡ true
  pub def : b.def ≡ true → a.def ≡ true
  pub at : a.at.0 ≤ b.at.0

-- an entry says all that the entries of an id say, and no more than they
pub record IsAllOf (id : TxnId) (es : List Dependency) (all : Dependency) : Type 0 where
  pub from : all.from ≡ id
  pub imm : all.imm ≡ true → (d : Dependency) × Has d es × (d.from ≡ id) × (d.imm ≡ true)
  pub def : all.def ≡ true → (d : Dependency) × Has d es × (d.from ≡ id) × (d.def ≡ true)
  pub at : (d : Dependency) × Has d es × (d.from ≡ id) × (d.at ≡ all.at)
  pub covers : (d : Dependency) → Has d es → d.from ≡ id → Covers all d

-- a rising list with one more entry
abbrev pub unite_one : Dependency → List Dependency → List Dependency
unite_one e [] = e ∷ []
unite_one e (x ∷ xs) = if is_txn e.from x.from then joined e x ∷ xs else (if txn_lt e.from x.from then e ∷ x ∷ xs else x ∷ unite_one e xs)

-- the union by id of any entries, as one rising list
abbrev pub united : List Dependency → List Dependency
united [] = []
united (e ∷ es) = unite_one e (united es)
