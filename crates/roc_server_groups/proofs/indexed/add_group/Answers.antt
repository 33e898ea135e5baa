use Rattle.std.proofs.Common.{List, ◌<◌, take, subst, sym, inl, inr}
use Rattle.std.proofs.lemmas.Bool.{false≢true}
use Rattle.roc_sequence.proofs.Holds.{all_at}
use Rattle.roc_group.specs.declared.access.Access.{Access}
use Rattle.roc_server_index.specs.GroupRefs.{spare_at, with_group_ref, ChangesAt, TakesRoomAt}
use Rattle.roc_server_groups.specs.Indexed.{group_ref_of}
use Rattle.roc_server_groups.specs.Inner.Changes.{HasRoomAtCells}
use Rattle.roc_server_groups.proofs.IndexSteps.{added_more, beside_more, finds_room}
use Rattle.roc_server_groups.proofs.indexed.add_group.Goals as goal

pub loop-access-preserved : goal.loop-access-preserved
loop-access-preserved c =
    let cells = c.as_slice-access-items.result.now in
    let k = c.loop-access.access-index in
    let a = c.access-item.result in
    let s = group_ref_of c.args.e.now in
    let at = c.loop-access in
    record {
      added = added_more s cells k a c.args.index.now at.index c.add.new.self c.requires c.loop-access-test.true at.invariant.added (subst (λ (x : Access). ChangesAt x.cell (with_group_ref s) at.index c.add.new.self) c.access-item.is c.in_ok-add.ensures.ok);
      room = beside_more cells k a c.args.index.now at.index c.add.new.self c.loop-access-test.true at.invariant.room (subst (λ (x : Access). TakesRoomAt x.cell at.index c.add.new.self) c.access-item.is c.in_ok-add.ensures.spare);
    }

pub returns-in_err-add-clause-succeeds : goal.returns-in_err-add-clause-succeeds
returns-in_err-add-clause-succeeds c h =
    let a = c.access-item.result in
    let cells = c.as_slice-access-items.result.now in
    let all : HasRoomAtCells c.as_slice-access-items.result.now c.args.index.now = subst (λ (xs : List Access). HasRoomAtCells xs c.args.index.now) (sym c.as_slice-access-items.ensures) h in
    let room : 0 < spare_at a.cell c.args.index.now =
    subst (λ (x : Access). 0 < spare_at x.cell c.args.index.now) (sym c.access-item.is) (all_at (λ (x : Access). 0 < spare_at x.cell c.args.index.now) cells c.loop-access.access-index a all c.loop-access-test.true) in
    elim (finds_room (group_ref_of c.args.e.now) (take c.loop-access.access-index cells) a c.args.index.now c.loop-access.index c.loop-access.invariant.added c.loop-access.invariant.room room) [
      | inl more ↦ absurd (false≢true (c.in_err-add.ensures.succeeds more))
      | inr last ↦ absurd (false≢true (c.in_err-add.ensures.again last))
    ]
