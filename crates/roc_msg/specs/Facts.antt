-- Known lists that travel along with a message: docs/PROTOCOL.md, "Messages"
use Rattle.std.specs.Prelude.{ℕ, zero, suc, ◌-◌, Bool, nat_le, if◌then◌else◌, List, [], ◌∷◌, length}
use Rattle.std.specs.List.{list_all}
use Rattle.roc_base.specs.declared.id.TxnId.{TxnId}
use Rattle.roc_base.specs.TxnId.{txn_lt}
use Rattle.roc_sequence.specs.Rising.{IsRising}
use Rattle.roc_depgraph.specs.declared.known.KnownList.{KnownList}

-- the id of the one comes before that of the other
abbrev pub is_fact_before : KnownList → KnownList → Bool
is_fact_before a b = txn_lt a.of b.of

-- the lists of different transactions, rising strictly by id
abbrev pub AreFacts : List KnownList → Type 0
AreFacts facts = IsRising is_fact_before facts

-- an id comes behind those of all these
abbrev pub is_behind_facts : List KnownList → TxnId → Bool
is_behind_facts facts id = list_all (λ fact. txn_lt fact.of id) facts

-- how many lists travel along with a message, and how many entries these have together
abbrev pub most_facts : ℕ
most_facts = 16

abbrev pub most_fact_edges : ℕ
most_fact_edges = 1000

-- the longest front of at most so many lists with at most so many entries
abbrev pub front_of_facts : (lists entries : ℕ) → List KnownList → List KnownList
front_of_facts zero entries facts = []
front_of_facts (suc lists) entries [] = []
front_of_facts (suc lists) entries (fact ∷ facts) =
    if nat_le (length fact.edges) entries then fact ∷ front_of_facts lists (entries - length fact.edges) facts else []

-- what travels along of lists that rise by id
abbrev pub fitting : List KnownList → List KnownList
fitting facts = front_of_facts most_facts most_fact_edges facts
