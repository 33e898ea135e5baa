use Rattle.std.proofs.Common.{◌≡◌, ◌≤◌, ◌∙◌, sym, subst, List, length, IsTrue, IfSome, IfNone}
use Rattle.std.proofs.lemmas.Bool.{false≢true}
use Rattle.std.proofs.lemmas.Result.{IfOk-weaker}
use Rattle.std.specs.Option.{option_map}
use Rattle.roc_conflict.specs.Classes.{is_immediate}
use Rattle.roc_sequence.specs.Rising.{IsRising}
use Rattle.roc_scgraph.specs.declared.vertex.Vertex.{Vertex}
use Rattle.roc_scgraph.specs.Order.{is_before}
use Rattle.roc_witness.specs.Order.{stands_before}
use Rattle.roc_witness.specs.Shortest.{IsCycleOf}
use Rattle.roc_witness.specs.Inner.Candidates.{IsBest, LeavesBelow}
use Rattle.roc_witness.proofs.Listed.{rising_vertices}
use Rattle.roc_witness.proofs.Final.{ends_of, found_is, found_shortest, found_least, found_none}
use Rattle.roc_witness.proofs.search.shortest.Goals as goal

pub returns-then-not-are_ends-clause-none : goal.returns-then-not-are_ends-clause-none
returns-then-not-are_ends-clause-none c =
    λ d is. false≢true (sym c.if-not-are_ends.true ∙ c.are_ends.ensures.1 (ends_of c.args.workload.now (is_immediate c.args.classes.now) c.args.p c.args.q d is))

pub best-requires-clause-rising : goal.best-requires-clause-rising
best-requires-clause-rising c = subst (IsRising is_before) (sym (c.deref.ensures.value ∙ c.in_ok-vertices.ensures)) (rising_vertices c.args.workload.now)

pub returns-clause-is : goal.returns-clause-is
returns-clause-is c =
    let ends = c.are_ends.ensures.0 c.if-not-are_ends.false in
    IfOk-weaker c.best.result (λ o. IsBest (LeavesBelow c.deref.result.now c.in_ok-table.table c.args.p c.args.q c.piece_count.result) (option_map (λ c. c.items) o))
    (λ o. IfSome o (λ c'. IsCycleOf c.args.workload.now (is_immediate c.args.classes.now) c.args.p c.args.q c'.items))
    (found_is c.args.workload.now (is_immediate c.args.classes.now) c.in_ok-table.table c.in_ok-table.ensures c.args.p c.args.q c.requires ends.0 ends.1 ends.2
    c.deref.result.now (c.deref.ensures.value ∙ c.in_ok-vertices.ensures) c.piece_count.result c.piece_count.ensures) c.best.ensures

pub returns-clause-shortest : goal.returns-clause-shortest
returns-clause-shortest c =
    let ends = c.are_ends.ensures.0 c.if-not-are_ends.false in
    IfOk-weaker c.best.result (λ o. IsBest (LeavesBelow c.deref.result.now c.in_ok-table.table c.args.p c.args.q c.piece_count.result) (option_map (λ c. c.items) o))
    (λ o. IfSome o (λ c'. (d : List Vertex) → IsCycleOf c.args.workload.now (is_immediate c.args.classes.now) c.args.p c.args.q d → length c'.items ≤ length d))
    (found_shortest c.args.workload.now (is_immediate c.args.classes.now) c.in_ok-table.table c.in_ok-table.ensures c.args.p c.args.q c.requires ends.0 ends.1 ends.2
    c.deref.result.now (c.deref.ensures.value ∙ c.in_ok-vertices.ensures) c.piece_count.result c.piece_count.ensures) c.best.ensures

pub returns-clause-least : goal.returns-clause-least
returns-clause-least c =
    let ends = c.are_ends.ensures.0 c.if-not-are_ends.false in
    IfOk-weaker c.best.result (λ o. IsBest (LeavesBelow c.deref.result.now c.in_ok-table.table c.args.p c.args.q c.piece_count.result) (option_map (λ c. c.items) o))
    (λ o. IfSome o (λ c'. (d : List Vertex) → IsCycleOf c.args.workload.now (is_immediate c.args.classes.now) c.args.p c.args.q d → length d ≡ length c'.items → ¬ IsTrue (stands_before d c'.items)))
    (found_least c.args.workload.now (is_immediate c.args.classes.now) c.in_ok-table.table c.in_ok-table.ensures c.args.p c.args.q c.requires ends.0 ends.1 ends.2
    c.deref.result.now (c.deref.ensures.value ∙ c.in_ok-vertices.ensures) c.piece_count.result c.piece_count.ensures) c.best.ensures

pub returns-clause-none : goal.returns-clause-none
returns-clause-none c =
    let ends = c.are_ends.ensures.0 c.if-not-are_ends.false in
    IfOk-weaker c.best.result (λ o. IsBest (LeavesBelow c.deref.result.now c.in_ok-table.table c.args.p c.args.q c.piece_count.result) (option_map (λ c. c.items) o))
    (λ o. IfNone o ((d : List Vertex) → IsCycleOf c.args.workload.now (is_immediate c.args.classes.now) c.args.p c.args.q d → ⊥))
    (found_none c.args.workload.now (is_immediate c.args.classes.now) c.in_ok-table.table c.in_ok-table.ensures c.args.p c.args.q c.requires ends.0 ends.1 ends.2
    c.deref.result.now (c.deref.ensures.value ∙ c.in_ok-vertices.ensures) c.piece_count.result c.piece_count.ensures) c.best.ensures
