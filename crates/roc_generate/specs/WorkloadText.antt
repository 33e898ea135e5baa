-- The generated workload: docs/FORMATS.md, "Generated load"
use Rattle.std.specs.Prelude.{ℕ, List, ◌++◌}
use Rattle.std.specs.List.{flat_map, range_with_len}
use Rattle.std.specs.Fmt.{decimal}
use lib.Chars.{codes}

-- the account of a place at the start
abbrev pub account_line : (place : ℕ) → List ℕ
account_line place = codes "init acct[" ++ decimal place ++ codes ",0].bal = 1000;\n"

-- pays from one account to another
abbrev pub pay_lines : List ℕ
pay_lines =
    codes "proc pay(f,t,n) {\n"
    ++ codes "  later take at f {\n"
    ++ codes "    get b = acct[0].bal;\n"
    ++ codes "    set acct[0].bal = b - n;\n"
    ++ codes "    out b;\n"
    ++ codes "  }\n"
    ++ codes "  later give at t {\n"
    ++ codes "    get d = acct[0].bal;\n"
    ++ codes "    set acct[0].bal = d + n;\n"
    ++ codes "    out d;\n"
    ++ codes "  }\n"
    ++ codes "}\n"

-- counts at one place, and pays the count to the account of another
abbrev pub mark_lines : List ℕ
mark_lines =
    codes "proc mark(p,q) {\n"
    ++ codes "  now r at p {\n"
    ++ codes "    get u = ctr[0].n;\n"
    ++ codes "  }\n"
    ++ codes "  now w at p {\n"
    ++ codes "    set ctr[0].n = u + 1;\n"
    ++ codes "  }\n"
    ++ codes "  later l at q {\n"
    ++ codes "    get b = acct[0].bal;\n"
    ++ codes "    set acct[0].bal = b + u;\n"
    ++ codes "    out b;\n"
    ++ codes "  }\n"
    ++ codes "}\n"

-- the whole text: two tables, an account on each of so many shards, and two procedures
unfoldable pub generated_workload : (shards : ℕ) → List ℕ
generated_workload shards =
    codes "shards " ++ decimal shards ++ codes ";\n"
    ++ codes "table acct { bal }\n"
    ++ codes "table ctr { n }\n"
    ++ flat_map account_line (range_with_len 0 shards)
    ++ pay_lines
    ++ mark_lines
