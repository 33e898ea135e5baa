-- What the test of scope answers: that there is no fault, or the first one. docs/LANGUAGE.md, "Scope"
use Rattle.std.specs.Prelude.{◌≡◌, List, [], ◌∷◌, Option, Some, None}
use Rattle.std.specs.String.{string_bytes}
use Rattle.roc_lang.specs.Scope.{FaultKind, Fault}
use Rattle.roc_lang.specs.Scope as scope
use Rattle.roc_lang_scope.specs.declared.fault.ScopeWhat.{ScopeWhat}
use Rattle.roc_lang_scope.specs.declared.fault.ScopeWhat.TheVariants.{Shards, Twice, Unknown, LaterUsed, SamePieceKey, Unbound, Arity, Viewed}
use Rattle.roc_lang_scope.specs.declared.fault.ScopeFault.{ScopeFault}
use Rattle.roc_lang_scope.specs.declared.fault.ScopeFault.TheVariants.{At, NoMemory}

abbrev pub kind : ScopeWhat → FaultKind
kind Shards = scope.Shards
kind (Twice name) = scope.Twice (string_bytes name)
kind (Unknown name) = scope.Unknown (string_bytes name)
kind (LaterUsed name) = scope.LaterUsed (string_bytes name)
kind (SamePieceKey name) = scope.SamePieceKey (string_bytes name)
kind (Unbound name) = scope.Unbound (string_bytes name)
kind (Arity name) = scope.Arity (string_bytes name)
kind (Viewed name) = scope.Viewed (string_bytes name)

-- the first of the faults, in the order of the text
abbrev pub first : List Fault → Option Fault
first [] = None
first (fault ∷ faults) = Some fault

-- This is the first of the faults: its kind, its name and its line. Want of memory may come in its place.
abbrev pub IsFirst : List Fault → ScopeFault → Type 0
IsFirst faults (At line what) = first faults ≡ Some (record { kind = kind what; line = line })
IsFirst faults NoMemory = Unit {0}
