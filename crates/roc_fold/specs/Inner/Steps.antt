-- What comes of one line, and of several
use Rattle.std.specs.Prelude.{◌≡◌, ℕ, ◌+◌, Bool, true, false, List, ◌∷◌, ◌++◌, drop, length, Option, Some, None}
use Rattle.roc_plan.specs.Groups.{Plan}
use Rattle.roc_msg.specs.declared.msg.Msg.{Msg}
use Rattle.roc_wire.specs.declared.header.Header.{Header}
use Rattle.roc_log.specs.declared.line.LogLine.{LogLine}
use Rattle.roc_fold.specs.declared.due.Gathered.{Gathered}
use Rattle.roc_fold.specs.Fold.{Core, GivenByEvent, GivesMessage, Folding, behind_event, TakesLine, Refuses, FoldsTo}

-- what a fold has gathered, with the core
abbrev pub folding_of : Core → Gathered → Folding
folding_of core g = record { core = core; due = drop g.at g.due.items; decided = g.decided; ran = g.ran }

-- the line was taken and leads from one to the other, or it cannot stand next
abbrev pub StepsBy : Plan → Header → Folding → LogLine → Folding → Bool → Type 0
StepsBy plan header f line h true = TakesLine plan header f line h
StepsBy plan header f line h false = Refuses plan header f line

-- the lines lead from a core to here, or so do those before the one of this number, which cannot stand next: the first of them is line 2
abbrev pub EndsBy : Plan → Header → Core → List LogLine → Folding → Option ℕ → Type 0
EndsBy plan header first lines h None = FoldsTo plan header first lines h
EndsBy plan header first lines h (Some number) =
    (front : List LogLine) × (line : LogLine) × (behind : List LogLine) × (f : Folding)
    × (lines ≡ front ++ line ∷ behind) × (number ≡ 2 + length front) × FoldsTo plan header first front f × Refuses plan header f line

-- what comes of a message, of the one and the other
abbrev pub GivesTo : Plan → Header → Core → Msg → Gathered → Core → Gathered → Type 0
GivesTo plan header core msg gathered after more = (g : GivenByEvent) × GivesMessage plan header core msg g × (folding_of after more ≡ behind_event (folding_of core gathered) g)
