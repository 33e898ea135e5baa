use Rattle.std.proofs.Common.{◌≡◌, ◌∙◌, false, sym, inl}
use Rattle.roc_server.specs.Ahead.{needs_room}
use Rattle.roc_server.specs.Inner.AtOnce.{at_once}
use Rattle.roc_server.specs.Inner.Parts.{state_of}
use Rattle.roc_server.proofs.AtOnce.{handles_at_once}
use Rattle.roc_server.proofs.GivenOut.{idle_ahead, idle_count, let_go_fits}
use Rattle.roc_server.proofs.handling.ready.Goals as goal

pub returns-then-not-needs_room-clause-answer : goal.returns-then-not-needs_room-clause-answer
returns-then-not-needs_room-clause-answer c =
    let s = state_of c.args.shard c.args.parts.now in
    let kind : needs_room c.args.msg.now ≡ false = sym c.needs_room.ensures ∙ c.if-not-needs_room.true in
    (at_once s, handles_at_once c.args.plan.now s c.args.parts.now.lists.decided c.requires.held.sound.lists.decided c.args.msg.now kind, c.foreign.ensures s)

pub returns-then-not-needs_room-clause-fits : goal.returns-then-not-needs_room-clause-fits
returns-then-not-needs_room-clause-fits c =
    let shard = c.args.shard in
    let_go_fits c.args.plan.now shard c.let_go.new.parts c.args.views.now c.let_go.new.ahead (state_of shard c.args.parts.now) c.let_go.ensures.none (c.let_go.ensures.state shard) c.requires.fits.0 c.requires.fits.1

pub returns-then-not-needs_room-clause-ready : goal.returns-then-not-needs_room-clause-ready
returns-then-not-needs_room-clause-ready c =
    inl (sym c.needs_room.ensures ∙ c.if-not-needs_room.true, idle_ahead c.args.shard c.let_go.new.parts c.args.views.now c.let_go.new.ahead c.let_go.ensures.none)

pub returns-then-not-needs_room-clause-state : goal.returns-then-not-needs_room-clause-state
returns-then-not-needs_room-clause-state c = c.let_go.ensures.state c.args.shard

pub returns-then-not-needs_room-clause-count : goal.returns-then-not-needs_room-clause-count
returns-then-not-needs_room-clause-count c = idle_count c.args.shard c.let_go.new.parts c.args.views.now c.let_go.new.ahead c.let_go.ensures.none

pub returns-in-Err-clause-fits : goal.returns-in-Err-clause-fits
returns-in-Err-clause-fits c =
    let shard = c.args.shard in
    let_go_fits c.args.plan.now shard c.let_go-in-Err.new.parts c.make_ready.new.views c.let_go-in-Err.new.ahead (state_of shard c.make_ready.new.parts)
    c.let_go-in-Err.ensures.none (c.let_go-in-Err.ensures.state shard) c.make_ready.ensures.fits.0 c.make_ready.ensures.fits.1

pub returns-in-Err-clause-state : goal.returns-in-Err-clause-state
returns-in-Err-clause-state c = c.let_go-in-Err.ensures.state c.args.shard ∙ c.make_ready.ensures.state

pub returns-in-Err-clause-count : goal.returns-in-Err-clause-count
returns-in-Err-clause-count c = idle_count c.args.shard c.let_go-in-Err.new.parts c.make_ready.new.views c.let_go-in-Err.new.ahead c.let_go-in-Err.ensures.none
