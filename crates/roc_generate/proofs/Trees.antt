-- The tree of the generated workload, with its lines.
use Rattle.std.proofs.Common.{ℕ, zero, suc, ◌+◌, true, false, List, [], ◌∷◌}
use Rattle.std.specs.Prelude.{pos}
use lib.Chars.{codes}
use Rattle.roc_lang.specs.Syntax.{Name, Expression, Number, Variable, Sum, Difference, Access, Get, Set, Out, Piece, Procedure, Table, Init, Tree}

abbrev pub named : (line : ℕ) → List ℕ → Name
named line text = record { text = text; line = line }

abbrev pub value : (line : ℕ) → List ℕ → Expression
value line text = Variable (named line text)

-- the balance of the account of a place, and the count there
abbrev pub balance : (line : ℕ) → Access
balance line = record { table = named line (codes "acct"); id = Number (pos 0) ∷ []; id_line = line; column = named line (codes "bal") }

abbrev pub count : (line : ℕ) → Access
count line = record { table = named line (codes "ctr"); id = Number (pos 0) ∷ []; id_line = line; column = named line (codes "n") }

abbrev pub take_piece : (line : ℕ) → Piece
take_piece l0 =
    let l1 = l0 + 1 in
    let l2 = l1 + 1 in
    let l3 = l2 + 1 in
    record {
      is_now = false;
      class_line = l0;
      name = named l0 (codes "take");
      place = value l0 (codes "f");
      body = Get (named l1 (codes "b")) (balance l1) ∷ Set l2 (balance l2) (Difference (value l2 (codes "b")) (value l2 (codes "n"))) ∷ Out (value l3 (codes "b")) ∷ [];
    }

abbrev pub give_piece : (line : ℕ) → Piece
give_piece l0 =
    let l1 = l0 + 1 in
    let l2 = l1 + 1 in
    let l3 = l2 + 1 in
    record {
      is_now = false;
      class_line = l0;
      name = named l0 (codes "give");
      place = value l0 (codes "t");
      body = Get (named l1 (codes "d")) (balance l1) ∷ Set l2 (balance l2) (Sum (value l2 (codes "d")) (value l2 (codes "n"))) ∷ Out (value l3 (codes "d")) ∷ [];
    }

abbrev pub pay_tree : (line : ℕ) → Procedure
pay_tree l0 = record {
  name = named l0 (codes "pay");
  arguments = named l0 (codes "f") ∷ named l0 (codes "t") ∷ named l0 (codes "n") ∷ [];
  is_view = false;
  pieces = take_piece (l0 + 1) ∷ give_piece (l0 + 1 + 1 + 1 + 1 + 1 + 1) ∷ [];
}

abbrev pub read_piece : (line : ℕ) → Piece
read_piece l0 = record { is_now = true; class_line = l0; name = named l0 (codes "r"); place = value l0 (codes "p"); body = Get (named (l0 + 1) (codes "u")) (count (l0 + 1)) ∷ [] }

abbrev pub write_piece : (line : ℕ) → Piece
write_piece l0 = record { is_now = true; class_line = l0; name = named l0 (codes "w"); place = value l0 (codes "p"); body = Set (l0 + 1) (count (l0 + 1)) (Sum (value (l0 + 1) (codes "u")) (Number (pos 1))) ∷ [] }

abbrev pub late_piece : (line : ℕ) → Piece
late_piece l0 =
    let l1 = l0 + 1 in
    let l2 = l1 + 1 in
    let l3 = l2 + 1 in
    record {
      is_now = false;
      class_line = l0;
      name = named l0 (codes "l");
      place = value l0 (codes "q");
      body = Get (named l1 (codes "b")) (balance l1) ∷ Set l2 (balance l2) (Sum (value l2 (codes "b")) (value l2 (codes "u"))) ∷ Out (value l3 (codes "b")) ∷ [];
    }

abbrev pub mark_tree : (line : ℕ) → Procedure
mark_tree l0 = record {
  name = named l0 (codes "mark");
  arguments = named l0 (codes "p") ∷ named l0 (codes "q") ∷ [];
  is_view = false;
  pieces = read_piece (l0 + 1) ∷ write_piece (l0 + 1 + 1 + 1 + 1) ∷ late_piece (l0 + 1 + 1 + 1 + 1 + 1 + 1 + 1) ∷ [];
}

abbrev pub tables_tree : (line : ℕ) → List Table
tables_tree line =
    record { name = named line (codes "acct"); arity = 1; columns = named line (codes "bal") ∷ [] }
    ∷ record { name = named (line + 1) (codes "ctr"); arity = 1; columns = named (line + 1) (codes "n") ∷ [] }
    ∷ []

abbrev pub account_tree : (line place : ℕ) → Init
account_tree line place = record { table = named line (codes "acct"); place = pos place; id = pos 0 ∷ []; id_line = line; column = named line (codes "bal"); value = pos 1000 }

abbrev pub account_trees : (line place count : ℕ) → List Init
account_trees line place zero = []
account_trees line place (suc count) = account_tree line place ∷ account_trees (line + 1) (place + 1) count

-- the line behind so many
abbrev pub line_behind : (line count : ℕ) → ℕ
line_behind line zero = line
line_behind line (suc count) = line_behind (line + 1) count

abbrev pub behind_pay : (line : ℕ) → ℕ
behind_pay line = line + 1 + 1 + 1 + 1 + 1 + 1 + 1 + 1 + 1 + 1 + 1 + 1

abbrev pub procedures_tree : (line : ℕ) → List Procedure
procedures_tree line = pay_tree line ∷ mark_tree (behind_pay line) ∷ []

-- the whole text of so many shards
unfoldable pub workload_tree : (shards : ℕ) → Tree
workload_tree shards = record {
  shards = shards;
  shards_line = 1;
  tables = tables_tree 2;
  inits = account_trees 4 0 shards;
  procedures = procedures_tree (line_behind 4 shards);
}
