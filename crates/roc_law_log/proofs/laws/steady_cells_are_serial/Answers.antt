use Rattle.std.proofs.Common.{◌≡◌, ◌∙◌, sym}
use Rattle.roc_law_orders.specs.Behaviour.{TxnGroup}
use Rattle.roc_law_orders.specs.Runs.{stage_behind, stage_before, inputs_at}
use Rattle.roc_law_log.proofs.Keeping.{lead-kept}
use Rattle.roc_law_log.proofs.Between.{held_same, is_ordered, has_run}
use Rattle.roc_law_log.proofs.laws.steady_cells_are_serial.Goals as goal

pub returns-clause-kept : goal.returns-clause-kept
returns-clause-kept c S start a t b sound ia la lb x before after same O keeps =
    let lead = lead-kept S start (c.runs_stay.ensures.stays S.behaviour start) (λ O. c.groups_stand_one_by_one.ensures S.behaviour O sound.lawful) sound in
    let it = lead a t ia la in
    let ib = lead t b it lb in
    let ga = c.logs_grow.ensures S start a t sound ia la in
    let gb = c.logs_grow.ensures S start t b sound it lb in
    let found : (q : TxnGroup) → inputs_at S.behaviour (stage_before S.behaviour start b.past.ran q) q ≡ inputs_at S.behaviour (stage_behind S.behaviour start b.past.ran) q =
    λ q. c.runs_stay.ensures.found S.behaviour start b.past.ran q ib.ran_once (ib.behind_needs q) in
    c.last_values_are_serial.ensures S.behaviour start t.past.ran O sound.lawful
    (c.logs_follow.ensures.real S start t sound it) (c.lists_that_keep_follow.ensures.follows S start t sound it O keeps) x
    (λ q h e. keeps.all q.txn (is_ordered S start sound a t b ia it ib ga gb found x before after same q h e))
    (λ q h l e. has_run S start sound a t b ia it ib ga gb found x before after same q (keeps.from q.txn h) l e)
    ∙ sym (held_same S start sound a t b ia it ib ga gb found x before after same)

pub returns-clause-order : goal.returns-clause-order
returns-clause-order c S start a t b sound ia la lb x before after same =
    let it = lead-kept S start (c.runs_stay.ensures.stays S.behaviour start) (λ O. c.groups_stand_one_by_one.ensures S.behaviour O sound.lawful) sound a t ia la in
    returns-clause-kept c S start a t b sound ia la lb x before after same t.order (c.lists_that_keep_follow.ensures.order S start t sound it)
