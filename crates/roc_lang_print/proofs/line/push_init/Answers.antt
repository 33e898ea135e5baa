use Rattle.std.proofs.Common.{◌≡◌, ℕ, List, [], ◌∷◌, ◌++◌, OnOk, append_assoc, ◌∙◌}
use Rattle.std.specs.Prelude.{Result, Ok, Err}
use Rattle.std.specs.Fmt.{signed_decimal}
use lib.Chars.{codes}
use Rattle.roc_lang.specs.Tree.{init_tree}
use Rattle.roc_lang_print.specs.Canonical.{cell_text}
use Rattle.roc_lang_print.proofs.line.push_init.Goals as goal

-- what is behind the word and the cell
pushed : {A E : Type 0} (r : Result A E) (old word begun cell middle value end all : List ℕ) → begun ≡ old ++ word → middle ≡ begun ++ cell → OnOk r (all ≡ middle ++ codes " = " ++ value ++ codes ";" ++ end)
    → OnOk r (all ≡ old ++ (word ++ cell ++ codes " = " ++ value ++ codes ";" ++ end))
pushed (Ok x) old word begun cell middle value end all e f h = h ∙ rw (f, e) (simp append_assoc)
pushed (Err x) old word begun cell middle value end all e f h = h

pub returns : goal.returns
returns c =
    pushed c.push_value.result _ (codes "init ") _ (cell_text (init_tree c.args.init.now)) _ (signed_decimal c.args.init.now.value) (10 ∷ []) _ c.in_ok-push_str.ensures.bytes c.in_ok-push_cell.ensures c.push_value.ensures
