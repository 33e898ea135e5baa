-- What is printed for each fault of scope.
use Rattle.std.specs.Prelude.{ℕ, List, ◌++◌}
use lib.Chars.{codes}
use Rattle.roc_lang.specs.Scope.{FaultKind, Shards, Twice, Unknown, LaterUsed, SamePieceKey, Unbound, Arity, Viewed}
use Rattle.roc_lang_scope.specs.declared.fault.ScopeWhat.{ScopeWhat}
use Rattle.roc_lang_scope.specs.Fault.{kind}

-- the word of a fault, and the name behind it
abbrev pub kind_text : FaultKind → List ℕ
kind_text Shards = codes "shards"
kind_text (Twice name) = codes "twice " ++ name
kind_text (Unknown name) = codes "unknown " ++ name
kind_text (LaterUsed name) = codes "later " ++ name
kind_text (SamePieceKey name) = codes "key " ++ name
kind_text (Unbound name) = codes "unbound " ++ name
kind_text (Arity name) = codes "arity " ++ name
kind_text (Viewed name) = codes "view " ++ name

-- the same of the code's fault
abbrev pub what_text : ScopeWhat → List ℕ
what_text what = kind_text (kind what)
