-- What `parse_schedule` and `parse_requests` answer: the items of a text, or the first fault of what is none.
use Rattle.std.specs.Prelude.{◌≡◌, ℕ, List, Result, Ok, Err}
use Rattle.roc_sched.specs.declared.fault.TextFault.{TextFault}
use Rattle.roc_sched.specs.declared.fault.TextFault.TheVariants.{At, NoMemory}
use Rattle.roc_sched.specs.declared.fault.What.{What}

-- what was returned is these items by view, unless memory ran out
abbrev pub AreItemsOf : {X B : Type 0} → (view : X → List B) → (items : List B) → Result X TextFault → Type 0
AreItemsOf view items (Ok read) = view read ≡ items
AreItemsOf view items (Err NoMemory) = Unit {0}
AreItemsOf view items (Err (At line what)) = ⊥

-- where something is wrong with the bytes, this is the first of it
abbrev pub IsFaultBy : (IsFault : ℕ → What → Type 0) → TextFault → Type 0
IsFaultBy IsFault NoMemory = Unit {0}
IsFaultBy IsFault (At line what) = IsFault line what
