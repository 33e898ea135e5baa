-- One more datagram was taken, or was lost and counted.
use Rattle.std.proofs.Common.{◌∙◌, arith}
use Rattle.roc_io.specs.Link.{send_failed}
use Rattle.roc_io.proofs.Causes.{never_falls}
use Rattle.roc_io.proofs.Events.{AddsEvents-next}
use Rattle.roc_io.proofs.Links.{AddsAllBut-next}
use Rattle.roc_io.proofs.link.send_all.Goals as goal

pub loop-datagram-preserved : goal.loop-datagram-preserved
loop-datagram-preserved g c =
    let so_far = c.loop-datagram.invariant in
    let rises = never_falls (send_failed c.send.result) _ _ c.send.ensures.cause in (
      λ below. AddsAllBut-next (send_failed c.send.result) _ _ _ _ _ _ c.args.datagrams.now _ c.datagram-item.result
          c.loop-datagram-test.true c.datagram-item.is so_far.1 c.send.ensures.cause below (so_far.0 (omega arith))
          (rw (c.address.ensures, c.bytes.ensures) at c.send.ensures.sent),
      omega arith,
      c.send.ensures.faults ∙ so_far.2,
      c.send.ensures.bound ∙ so_far.3,
      c.send.ensures.arrivals ∙ so_far.4,
      AddsEvents-next (send_failed c.send.result) _ _ _ _ _ _ _ _ _ c.args.datagrams.now _ c.datagram-item.result
          c.loop-datagram-test.true c.datagram-item.is so_far.5 c.send.ensures.cause so_far.1
          (rw (c.address.ensures, c.bytes.ensures) at c.send.ensures.sent)
          (rw (c.address.ensures, c.bytes.ensures) at c.send.ensures.events),
    )
