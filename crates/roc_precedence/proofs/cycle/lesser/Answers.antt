use Rattle.std.proofs.Common.{sym, subst, ◌∙◌}
use Rattle.std.proofs.lemmas.Bool.{false≢true}
use Rattle.roc_depgraph.specs.Deps.{Precedes}
use Rattle.roc_precedence.specs.Inner.Rounds.{IsLeastOrNone}
use Rattle.roc_precedence.proofs.Ways.{kept_out, first_in, lesser_in, lesser_kept, lt_is}
use Rattle.roc_precedence.proofs.cycle.lesser.Goals as goal

pub returns-then-not-precedes : goal.returns-then-not-precedes
returns-then-not-precedes c = λ level l.
    kept_out (Precedes c.args.lists.now) c.args.id c.args.other level c.args.least (λ e. false≢true (sym c.if-not-precedes.true ∙ (c.precedes.ensures ∙ e))) l

pub returns-in-None : goal.returns-in-None
returns-in-None c = λ level l.
    first_in (Precedes c.args.lists.now) c.args.id c.args.other level (sym c.precedes.ensures ∙ c.if-not-precedes.false)
    (subst (IsLeastOrNone (Precedes c.args.lists.now) c.args.id level) c.in-None.is l)

pub returns-then-lt : goal.returns-then-lt
returns-then-lt c = λ level l.
    lesser_in (Precedes c.args.lists.now) c.args.id c.args.other level c.in-Some.kept (sym c.precedes.ensures ∙ c.if-not-precedes.false)
    (sym (lt_is c.args.other c.in-Some.kept) ∙ (sym c.lt.ensures ∙ c.if-lt.true))
    (subst (IsLeastOrNone (Precedes c.args.lists.now) c.args.id level) c.in-Some.is l)

pub returns-else-lt : goal.returns-else-lt
returns-else-lt c = λ level l.
    lesser_kept (Precedes c.args.lists.now) c.args.id c.args.other level c.in-Some.kept
    (sym (lt_is c.args.other c.in-Some.kept) ∙ (sym c.lt.ensures ∙ c.if-lt.false))
    (subst (IsLeastOrNone (Precedes c.args.lists.now) c.args.id level) c.in-Some.is l)
