use Rattle.std.proofs.Common.{sym, subst}
use Rattle.roc_server.specs.Ahead.{HasRoomToTake, IsReady, ServingFits}
use Rattle.roc_server.specs.Inner.Held.{IsServed}
use Rattle.roc_server.specs.Inner.Parts.{state_of}
use Rattle.roc_server_reads.specs.Views.{viewing_of}
use Rattle.roc_server.specs.State.{Serving}
use Rattle.roc_server.proofs.GivenOut.{room_of_ahead}
use Rattle.roc_server.proofs.server.Server.take_ready.Goals as goal

pub take_ready-requires-clause-room : goal.take_ready-requires-clause-room
take_ready-requires-clause-room c =
    room_of_ahead c.self.inside.shard c.self.inside.parts c.self.inside.views c.self.inside.ahead c.args.outbox.now
    (subst (λ (v : Serving). HasRoomToTake v c.args.outbox.now) (sym c.self.view_is) c.requires.room)

pub returns-clause-step : goal.returns-clause-step
returns-clause-step c plan msg fits ready =
    let shard = c.self.inside.shard in
    let served =
    c.take_ready.ensures.step plan shard msg (subst (ServingFits plan) (sym c.self.view_is) fits) (subst (λ (v : Serving). IsReady v c.args.outbox.now msg) (sym c.self.view_is) ready) in
    subst (λ (v : Serving). IsServed plan v.state v.viewing msg c.take_ready.result (state_of shard c.take_ready.new.parts) (viewing_of c.take_ready.new.views) c.args.outbox.now c.take_ready.new.outbox) c.self.view_is served

pub returns-clause-fits : goal.returns-clause-fits
returns-clause-fits c plan fits = c.take_ready.ensures.fits plan c.self.inside.shard (subst (ServingFits plan) (sym c.self.view_is) fits)
