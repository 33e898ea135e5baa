-- Lines that are taken, and lines that cannot stand next
use Rattle.std.proofs.Common.{◌≡◌, ◌≢◌, ℕ, ◌+◌, ◌<◌, List, [], ◌∷◌, ◌++◌, length, take, drop, get_or, sym, ap, subst, ◌∙◌, append-nil}
use Rattle.roc_sequence.proofs.Fronts.{front_more}
use Rattle.roc_base.specs.declared.id.TxnId.{TxnId}
use Rattle.roc_msg.specs.declared.outbox.Ran.{Ran}
use Rattle.roc_plan.specs.Groups.{Plan}
use Rattle.roc_wire.specs.declared.header.Header.{Header}
use Rattle.roc_log.specs.declared.line.LogLine.{LogLine}
use Rattle.roc_fold.specs.declared.due.Gathered.{Gathered}
use Rattle.roc_fold.specs.Inner.Steps.{folding_of}
use Rattle.roc_fold.specs.Fold.{Core, GivenByEvent, Gives, Folding, behind_event, behind_due, TakesLine, takes_event, takes_due, Refuses, FoldsTo, goes_on}

pub takes_by_event : (plan : Plan) (header : Header) (f : Folding) (line : LogLine) (h : Folding) (g : GivenByEvent) → f.due ≡ [] → Gives plan header f.core line g → h ≡ behind_event f g
    → TakesLine plan header f line h
takes_by_event plan header f line h g d k e = subst (λ (x : Folding). TakesLine plan header f line x) (sym e) (takes_event g d k)

pub takes_by_due : (plan : Plan) (header : Header) (f : Folding) (line : LogLine) (h : Folding) (rest : List LogLine) → f.due ≡ line ∷ rest → h ≡ behind_due f rest → TakesLine plan header f line h
takes_by_due plan header f line h rest d e = subst (λ (x : Folding). TakesLine plan header f line x) (sym e) (takes_due rest d)

-- another line is due
pub refuses_other : (plan : Plan) (header : Header) (f : Folding) (line due : LogLine) (rest : List LogLine) → f.due ≡ due ∷ rest → line ≢ due → Refuses plan header f line
refuses_other plan header f line due rest d n h t = go h t
  where
    go : (h : Folding) → TakesLine plan header f line h → ⊥
    go _ (takes_event g e k) = absurd (let none : [] ≡ due ∷ rest = sym e ∙ d in cc)
    go _ (takes_due others e) = n (let both : line ∷ others ≡ due ∷ rest = sym e ∙ d in (let same : line ≡ due = cc in same))

-- no line is due, and the line is no event
pub refuses_event : (plan : Plan) (header : Header) (f : Folding) (line : LogLine) → f.due ≡ [] → ((g : GivenByEvent) → ¬ Gives plan header f.core line g) → Refuses plan header f line
refuses_event plan header f line d n h t = go h t
  where
    go : (h : Folding) → TakesLine plan header f line h → ⊥
    go _ (takes_event g e k) = n g k
    go _ (takes_due others e) = absurd (let none : [] ≡ line ∷ others = sym d ∙ e in cc)

-- one more line
pub folds_more : (plan : Plan) (header : Header) (first : Core) (lines : List LogLine) (i : ℕ) (line : LogLine) (f h : Folding) → i < length lines → line ≡ get_or lines i line
    → FoldsTo plan header first (take i lines) f → TakesLine plan header f line h → FoldsTo plan header first (take (i + 1) lines) h
folds_more plan header first lines i line f h l e folds t = subst (λ (ls : List LogLine). FoldsTo plan header first ls h) (front_more lines i line l e) (goes_on line h folds t)

-- what an outbox that was empty has gained is due
pub gained : (core after : Core) (old new : Gathered) (g : GivenByEvent) (outs : List LogLine) (decided : List TxnId) (ran : List Ran)
    → after ≡ g.core → new.due.items ≡ outs → new.at ≡ 0 → outs ≡ g.due → new.decided ≡ old.decided ++ decided → decided ≡ g.decided → new.ran ≡ old.ran ++ ran → ran ≡ g.ran
    → folding_of after new ≡ behind_event (folding_of core old) g
gained core after old new g outs decided ran k due at o d e r s =
    λ i. record { core = k i; due = ((λ j. drop (at j) (due j)) ∙ o) i; decided = (d ∙ ap (λ (xs : List TxnId). old.decided ++ xs) e) i; ran = (r ∙ ap (λ (xs : List Ran). old.ran ++ xs) s) i }

-- nothing was decided, and nothing ran
pub same_but_due : (f : Folding) (core : Core) (due : List LogLine) → record { core = core; due = due; decided = f.decided; ran = f.ran } ≡ behind_event f
    (record { core = core; due = due; decided = []; ran = [] })
same_but_due f core due = λ i. record { core = core; due = due; decided = sym (append-nil f.decided) i; ran = sym (append-nil f.ran) i }
