-- The turns so far are those of a run, and their events are in the journal and in the book.
use Rattle.std.proofs.Common.{◌≡◌, false, List, map}
use Rattle.roc_book.specs.Call.{book_view}
use Rattle.roc_io.specs.Call.{link_view}
use Rattle.roc_io.specs.Link.{sending}
use Rattle.roc_log.specs.declared.line.LogLine.{LogLine}
use Rattle.roc_msg.specs.declared.outbox.Outgoing.{Outgoing}
use Rattle.roc_node.specs.Setting.{setting_of}
use Rattle.roc_node_serve.specs.Inner.ServerTurn.{RanSo, node_of}
use Rattle.roc_node_serve.proofs.server_turns.run_turns.Given as goal

abbrev pub invariant-loop : goal.invariant-loop
invariant-loop g l =
    let L = g.L.Link in
    let B = g.B.Book in
    ((messages : List Outgoing) (logged : List LogLine) → RanSo g.D.Disk l.fn.disk l.disk l.fn.setting.logs (setting_of l.fn.setting)
    (node_of l.fn.server_node messages (map sending l.fn.sends) logged false) l.counter false l.fn.server_node.server l.server_node
    (link_view L l.fn.link) (link_view L l.link) (book_view B l.fn.book) (book_view B l.book))
    × (L.faults l.link ≡ L.faults l.fn.link)
    × (L.bound l.link ≡ L.bound l.fn.link)
    × (B.faults l.book ≡ B.faults l.fn.book)
