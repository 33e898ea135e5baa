-- What the run of a generated load comes to: docs/FORMATS.md, "Generated load"
use Rattle.std.specs.Prelude.{ℕ, List, ◌++◌}
use Rattle.std.specs.Fmt.{decimal}
use lib.Chars.{codes}

-- the end line of its report, and how many submissions were refused since their coordinator was busy
abbrev pub load_summary_text : (answered pending messages busy : ℕ) → List ℕ
load_summary_text answered pending messages busy =
    codes "end " ++ decimal answered ++ codes " answered " ++ decimal pending ++ codes " pending " ++ decimal messages ++ codes " messages\n"
    ++ codes "busy " ++ decimal busy ++ codes "\n"
