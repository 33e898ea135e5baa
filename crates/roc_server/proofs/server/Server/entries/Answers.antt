use Rattle.std.proofs.Common.{◌≡◌, ◌+◌, ◌≤◌, ℕ, Bool, List, length, map, filter, IfOk, refl, sym, ap, subst}
use Rattle.roc_sequence.specs.Places.{NoneTwice}
use Rattle.roc_server_groups.specs.Groups.{is_same_group}
use Rattle.roc_base.specs.declared.id.TxnId.{TxnId}
use Rattle.roc_base.specs.Edge.{Dependency}
use Rattle.roc_base.specs.Edges.{united}
use Rattle.roc_depgraph.specs.Deps.{IsDecided}
use Rattle.roc_depgraph.proofs.RisingLists.{rising_one}
use Rattle.roc_step.specs.declared.started.StartedGroup.{StartedGroup}
use Rattle.roc_step.specs.New.{AreDecided}
use Rattle.roc_step.specs.Fits.{AreGroupsOf, ServerFits}
use Rattle.roc_step.specs.Start.{conflicts_before, edge_to, is_immediate, entries_for, users}
use Rattle.roc_server.specs.State.{Serving}
use Rattle.roc_step.specs.State.{ServerState}
use Rattle.roc_server.specs.Inner.Parts.{state_of}
use Rattle.roc_server.proofs.ReadsBefore.{as_many_users, fits_now, for_decided, index_lent, over_same, refs_lent}
use Rattle.roc_server.proofs.server.Server.entries.Goals as goal

pub entries-requires-clause-fits : goal.entries-requires-clause-fits
entries-requires-clause-fits g c =
    subst (AreGroupsOf c.args.plan.now) (sym c.started.ensures.groups)
    (fits_now c.self.inside.parts c.self.invariant.0.sound c.args.plan.now (subst (λ (v : Serving). ServerFits c.args.plan.now v.state) (sym c.self.view_is) c.requires.fits))

pub entries-requires-clause-once : goal.entries-requires-clause-once
entries-requires-clause-once g c = subst (NoneTwice is_same_group) (sym c.started.ensures.groups) c.started.ensures.once

pub entries-requires-clause-refs : goal.entries-requires-clause-refs
entries-requires-clause-refs g c =
    let k = c.self.inside.parts in
    refs_lent k c.self.invariant.0.sound c.started.result.now.groups c.index.result.now c.started.ensures.groups c.index.ensures

pub returns-clause-entries : goal.returns-clause-entries
returns-clause-entries g c =
    let k = c.self.inside.parts in
    let sound = c.self.invariant.0.sound in
    let shard = c.self.inside.shard in
    let plan = c.args.plan.now in
    let cells = c.args.cells.now in
    let immediate = c.is_immediate.result in
    let P : ServerState → Bool → Type 0 = λ s b. IfOk c.entries.result (λ e. (left_out : List TxnId) → AreDecided s.lists.links left_out → e ≡ entries_for plan left_out s c.args.id b cells) in
    let over : List TxnId → List StartedGroup → List Dependency = λ ids es. united (map (edge_to shard immediate) (filter (conflicts_before plan ids c.args.id immediate cells) es)) in
    let found : IfOk c.entries.result (λ e. e ≡ over k.lists.decided k.groups.ran) = subst (λ es. IfOk c.entries.result (λ e. e ≡ over k.lists.decided es)) c.started.ensures.groups
    (c.entries.ensures.entries k.lists.decided (index_lent k sound c.started.result.now.groups c.index.result.now c.started.ensures.groups c.index.ensures)) in
    let moved : IfOk c.entries.result (λ e. e ≡ over k.lists.decided k.groups.kept) =
    subst (λ es. IfOk c.entries.result (λ e. e ≡ es))
    (ap united (over_same (edge_to shard immediate) (conflicts_before plan k.lists.decided c.args.id immediate cells) (λ e. refl) (λ e. refl) k.groups.kept k.groups.ran sound.groups.same))
    found in
    let here : P (state_of shard k) immediate =
    for_decided c.entries.result (λ e. e) (λ left_out. entries_for plan left_out (state_of shard k) c.args.id immediate cells) k.lists.kept.lists.links k.lists.decided sound.lists.decided moved in
    subst (λ (v : Serving). P v.state (is_immediate c.args.class)) c.self.view_is (subst (P (state_of shard k)) c.is_immediate.ensures here)

pub returns-clause-steps : goal.returns-clause-steps
returns-clause-steps g c =
    let k = c.self.inside.parts in
    let sound = c.self.invariant.0.sound in
    let shard = c.self.inside.shard in
    let plan = c.args.plan.now in
    let cells = c.args.cells.now in
    let immediate = c.is_immediate.result in
    let Bound : ServerState → Bool → List TxnId → Type 0 = λ s b left_out. c.entries.new.steps ≤ c.args.steps.now + length (users plan left_out b cells s.started) in
    let P : ServerState → Bool → Type 0 = λ s b. (left_out : List TxnId) → AreDecided s.lists.links left_out → Bound s b left_out in
    let taken : c.entries.new.steps ≤ c.args.steps.now + length (users plan k.lists.decided immediate cells k.groups.ran) = subst (λ es. c.entries.new.steps ≤ c.args.steps.now + length (users plan k.lists.decided immediate cells es)) c.started.ensures.groups
    (c.entries.ensures.steps k.lists.decided (index_lent k sound c.started.result.now.groups c.index.result.now c.started.ensures.groups c.index.ensures)) in
    let moved : Bound (state_of shard k) immediate k.lists.decided =
    subst (λ (n : ℕ). c.entries.new.steps ≤ c.args.steps.now + n) (as_many_users plan k.lists.decided immediate cells k.groups.kept k.groups.ran sound.groups.same) taken in
    let here : P (state_of shard k) immediate =
    λ left_out p. subst (Bound (state_of shard k) immediate) (rising_one (IsDecided k.lists.kept.lists.links) k.lists.decided left_out sound.lists.decided p) moved in
    subst (λ (v : Serving). P v.state (is_immediate c.args.class)) c.self.view_is (subst (P (state_of shard k)) c.is_immediate.ensures here)
