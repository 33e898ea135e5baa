-- What the parts of the test answer: the first fault, which lends its name.
use Rattle.std.specs.Prelude.{◌≡◌, ℕ, List, [], ◌++◌, Some, Result, Ok, Err}
use Rattle.std.specs.List.{flat_map}
use Rattle.std.specs.String.{string_bytes}
use Rattle.roc_lang.specs.Syntax.{Tree}
use Rattle.roc_lang.specs.Scope.{FaultKind, Fault, tables_faults, init_faults, procedures_faults}
use Rattle.roc_lang.specs.Scope as scope
use Rattle.roc_lang_scope.specs.declared.misuse.Reason.{Reason}
use Rattle.roc_lang_scope.specs.declared.misuse.Reason.TheVariants.{Twice, Unknown, LaterUsed, SamePieceKey, Unbound, Arity, Viewed}
use Rattle.roc_lang_scope.specs.declared.misuse.Misuse.{Misuse}
use Rattle.roc_lang_scope.specs.Fault.{first}

abbrev pub reason_kind : Reason → List ℕ → FaultKind
reason_kind Twice name = scope.Twice name
reason_kind Unknown name = scope.Unknown name
reason_kind LaterUsed name = scope.LaterUsed name
reason_kind SamePieceKey name = scope.SamePieceKey name
reason_kind Unbound name = scope.Unbound name
reason_kind Arity name = scope.Arity name
reason_kind Viewed name = scope.Viewed name

abbrev pub misuse_fault : Misuse → Fault
misuse_fault m = record { kind = reason_kind m.reason (string_bytes m.name.now.text); line = m.line }

-- there is no fault, or this is the first
abbrev pub Finds : {A : Type 0} → Result A Misuse → List Fault → Type 0
Finds (Ok done) faults = faults ≡ []
Finds (Err misuse) faults = first faults ≡ Some (misuse_fault misuse)

-- the faults of names
abbrev pub names_faults : Tree → List Fault
names_faults t = tables_faults [] t.tables ++ flat_map (init_faults t.tables) t.inits ++ procedures_faults t.tables [] t.procedures
