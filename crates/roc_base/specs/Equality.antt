-- What `==` computes of entries and of lists
use Rattle.std.specs.Prelude.{ℤ, Bool, ◌&&◌, ◌==◌, if◌then◌else◌, not, List}
use Rattle.std.specs.Cmp.Lexicographic.{pointwise}
use Rattle.std.specs.Ordering.{int_eq}
use Rattle.roc_base.specs.Edge.{Dependency}
use Rattle.roc_base.specs.TxnId.{is_txn}

-- both or neither
abbrev pub same_tag : Bool → Bool → Bool
same_tag a b = if a then b else not b

-- the two entries are one, field by field
abbrev pub is_dependency : Dependency → Dependency → Bool
is_dependency a b = is_txn a.from b.from && (same_tag a.imm b.imm && (same_tag a.def b.def && a.at.0 == b.at.0))

-- the two lists are one, entry by entry
abbrev pub is_edges : List Dependency → List Dependency → Bool
is_edges = pointwise is_dependency

-- the two lists are one, number by number
abbrev pub is_nums : List ℤ → List ℤ → Bool
is_nums = pointwise int_eq
