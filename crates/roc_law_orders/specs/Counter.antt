-- A small behaviour that is lawful: transactions that count
use Rattle.std.specs.Prelude.{ℕ, ℤ, pos, ◌+ℤ◌, true, ◌==◌, if◌then◌else◌, List, [], ◌∷◌}
use Rattle.roc_rows.specs.declared.cell.Cell.{Cell}
use Rattle.roc_rows.specs.Store.{read, write}
use Rattle.roc_law_orders.specs.Behaviour.{Use, Behaviour}

-- each number of a group has a cell
abbrev pub counted_cell : ℕ → Cell
counted_cell group = record { table = group; place = pos 0; id = pos 0 ∷ []; column = 0 }

-- and it is all that the group uses
abbrev pub one_use : Cell → List Use
one_use cell = record { cell = cell; writes = true } ∷ []

-- what is added: the value that is given, or one where none is
abbrev pub added : List (List ℤ) → ℤ
added ((value ∷ values) ∷ given) = value
added given = pos 1

-- Two groups. The first adds one to its cell and gives what the cell held; the second needs that, and adds it to its own cell
abbrev pub counter : Behaviour
counter =
    record {
      groups = λ t. 0 ∷ 1 ∷ [];
      sources = λ r. if r.group == 1 then 0 ∷ [] else [];
      uses = λ r given s. one_use (counted_cell r.group);
      yields = λ r given s. record { bound = read s (counted_cell r.group) ∷ []; outs = [] };
      after = λ r given s. write s (counted_cell r.group) (read s (counted_cell r.group) +ℤ added given);
    }
