-- A write that fails takes the first half of its piece.
use Rattle.std.proofs.Common.{◌/◌, length}
use Rattle.roc_io_memory.proofs.sink.MemSinkSink.write.Goals as goal

pub returns-then-next_fails-clause-taken : goal.returns-then-next_fails-clause-taken
returns-then-next_fails-clause-taken c = (length c.args.piece.now / 2, rw (← c.self.view_is) c.take.ensures.bytes)

pub returns-then-next_fails-clause-pieces : goal.returns-then-next_fails-clause-pieces
returns-then-next_fails-clause-pieces c =
    (length c.args.piece.now / 2, rw (← c.self.view_is) c.take.ensures.bytes, rw (← c.self.view_is) c.take.ensures.pieces)
