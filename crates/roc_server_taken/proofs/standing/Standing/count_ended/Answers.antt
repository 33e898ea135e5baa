use Rattle.std.proofs.Common.{◌≡◌, ◌≤◌, ◌∙◌, ap, sym, subst, arith, get_or, length, take, filter}
use Rattle.roc_server_taken.specs.Inner.Over.{is_under}
use Rattle.roc_server_taken.specs.Inner.Standing.{part_at}
use Rattle.roc_server_taken.proofs.Moves.{queue_is, queue_stands}
use Rattle.roc_server_taken.proofs.Parts.{ended_of_part, flat}
use Rattle.roc_server_taken.proofs.Queues.{seen}
use Rattle.roc_server_taken.proofs.standing.Standing.count_ended.Goals as goal

pub count_ended-requires-clause-part : goal.count_ended-requires-clause-part
count_ended-requires-clause-part c = queue_stands c.self.inside.parts c.self.invariant c.from.ensures c.requires c.index-self-from.result

pub returns-clause-first : goal.returns-clause-first
returns-clause-first c =
    let is = queue_is c.self.inside.parts c.self.invariant c.from.ensures c.requires c.index-self-from.result in
    let under = is_under c.args.marks.now c.args.coord in
    subst (λ ps. take c.count_ended.result (part_at ps c.args.coord) ≡ filter under (flat ps)) (ap (λ s. s.parts) c.self.view_is)
    (ap (take c.count_ended.result) is ∙ c.count_ended.ensures.first ∙ ap (filter under) (sym is)
    ∙ sym (ended_of_part c.args.marks.now c.args.coord c.requires (seen c.self.inside.parts) c.self.invariant.count c.self.invariant.each))

pub returns-clause-within : goal.returns-clause-within
returns-clause-within c =
    let d = get_or c.self.inside.parts c.from.result c.index-self-from.result in
    subst (λ ps. c.count_ended.result ≤ length (part_at ps c.args.coord)) (ap (λ s. s.parts) c.self.view_is)
    (omega (arith, c.count_ended.ensures.within, d.ok.0, ap length (queue_is c.self.inside.parts c.self.invariant c.from.ensures c.requires c.index-self-from.result)))
