use Rattle.std.proofs.Common.{◌∙◌, sym, subst}
use Rattle.std.proofs.lemmas.Result.{IfOk-weaker}
use Rattle.std.specs.Option.{option_map}
use Rattle.roc_sequence.specs.Rising.{IsRising}
use Rattle.roc_sequence.proofs.Rising.{rising_filter}
use Rattle.roc_scgraph.specs.Order.{is_before}
use Rattle.roc_witness.specs.Inner.Vertices.{is_open}
use Rattle.roc_witness.specs.Inner.Candidates.{IsBest, LeavesFrom}
use Rattle.roc_witness.proofs.Best.{found_from, none_from_last, Searched}
use Rattle.roc_witness.proofs.search.leaving_from.Goals as goal

pub shortest-requires-clause-rising : goal.shortest-requires-clause-rising
shortest-requires-clause-rising c =
    subst (IsRising is_before) (sym c.in_ok-vertices.ensures) (rising_filter is_before (is_open c.first.result c.first-start.result c.first-goal.result) c.args.vertices.now c.requires.rising)

pub returns-then-piece-q : goal.returns-then-piece-q
returns-then-piece-q c = none_from_last c.args.vertices.now c.args.table.now c.args.p c.args.q c.args.piece c.if-piece-q.true

pub returns : goal.returns
returns c =
    IfOk-weaker c.shortest.result (λ o. Searched c.args.vertices.now c.args.table.now c.args.p c.args.q c.args.piece c.if-piece-q.false o c.first.result c.first-start.result c.first-goal.result c.in_ok-vertices.vertices c.deref.result.now)
    (λ o. IsBest (LeavesFrom c.args.vertices.now c.args.table.now c.args.p c.args.q c.args.piece) (option_map (λ c. c.items) o))
    (λ o h. found_from c.args.vertices.now c.args.table.now c.args.p c.args.q c.args.piece c.if-piece-q.false o c.first.result c.first-start.result c.first-goal.result c.in_ok-vertices.vertices c.deref.result.now
    c.first.ensures c.first-start.ensures c.first-goal.ensures c.in_ok-vertices.ensures (c.deref.ensures.value ∙ c.in_ok-front.ensures) h) c.shortest.ensures
