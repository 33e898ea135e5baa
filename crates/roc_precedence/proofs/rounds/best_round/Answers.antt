use Rattle.std.proofs.Common.{◌+◌, take, get_or, refl, sym, subst}
use Rattle.roc_sequence.proofs.Fronts.{front_whole}
use Rattle.roc_base.specs.declared.id.TxnId.{TxnId}
use Rattle.roc_depgraph.specs.Deps.{Precedes}
use Rattle.roc_precedence.specs.Inner.Rounds.{IsBestRound}
use Rattle.roc_precedence.proofs.Best.{best_next}
use Rattle.roc_precedence.proofs.rounds.best_round.Goals as goal

pub loop-id-preserved : goal.loop-id-preserved
loop-id-preserved c =
    let none : TxnId = record { coord = 0; seq = 0 } in
    subst (IsBestRound (Precedes c.args.lists.now) (take (c.loop-id.id-index + 1) c.args.ids.now)) (sym c.better-best.ensures)
    (best_next (Precedes c.args.lists.now) c.args.ids.now c.loop-id.id-index none (get_or c.args.ids.now c.loop-id.id-index none) c.requires c.loop-id-test.true refl c.loop-id.best c.loop-id.invariant
    c.most_of.result c.in_ok-found.found c.most_of.ensures c.in_ok-found.ensures)

pub returns : goal.returns
returns c =
    subst (λ l. IsBestRound (Precedes c.args.lists.now) l c.loop-id.best) (front_whole c.args.ids.now c.loop-id.id-index c.loop-id-test.false) c.loop-id.invariant
