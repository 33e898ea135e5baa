-- Whichever was read
use Rattle.std.proofs.Common.{refl, sym, ap, ◌∙◌}
use Rattle.std.specs.Option.{option_copied}
use Rattle.std.proofs.lemmas.Bool.{false≢true}
use Rattle.roc_book.specs.Call.{book_call}
use Rattle.roc_io.specs.Call.{link_call, sink_call}
use Rattle.roc_cli_nodes.specs.Call.{disk_call}
use Rattle.roc_cli_nodes.specs.Inner.Running.{named}
use Rattle.roc_cli_nodes.proofs.Telling.{plain_serve_loop, grown_serve_loop}
use Rattle.roc_cli_nodes.proofs.Reading.{caused}
use Rattle.roc_cli_nodes.proofs.serving.serve_nodes.Goals as goal

pub returns-in-Some-clause-ends : goal.returns-in-Some-clause-ends
returns-in-Some-clause-ends g c own address =
    grown_serve_loop (disk_call g.D.Disk c.args.disk.now c.args.disk.now) (named c.args.asked.journal) (named c.args.asked.log)
    c.args.nodes.now.plan c.args.nodes.now.tag c.args.nodes.now.cluster c.args.asked.shard own c.args.asked.turns c.args.asked.counts
    (record { link = link_call g.L.Link c.args.link.now c.serve_grown.new.link; out = sink_call g.S.Sink c.args.out.now c.serve_grown.new.out })
    (book_call g.B.Book c.args.book.now c.args.book.now) c.args.nodes.now.next c.serve_grown.result _
    (sym c.as_ref.ensures.value ∙ ap option_copied c.in-Some.is) (c.serve_grown.ensures.ends own address)

pub returns-in-Some-clause-files : goal.returns-in-Some-clause-files
returns-in-Some-clause-files g c = c.serve_grown.ensures.files

pub returns-in-Some-clause-late : goal.returns-in-Some-clause-late
returns-in-Some-clause-late g c = c.serve_grown.ensures.early

pub returns-in-Some-clause-untouched : goal.returns-in-Some-clause-untouched
returns-in-Some-clause-untouched g c early = absurd (false≢true (sym c.serve_grown.ensures.late ∙ early))

pub returns-in-Some-clause-unkept : goal.returns-in-Some-clause-unkept
returns-in-Some-clause-unkept g c none = refl

pub returns-in-Some-clause-unbegun : goal.returns-in-Some-clause-unbegun
returns-in-Some-clause-unbegun g c early = refl

pub returns-in-Some-clause-unlogged : goal.returns-in-Some-clause-unlogged
returns-in-Some-clause-unlogged g c none = refl

pub returns-in-Some-clause-sink_faults : goal.returns-in-Some-clause-sink_faults
returns-in-Some-clause-sink_faults g c = c.serve_grown.ensures.sink_faults

pub returns-in-Some-clause-link_faults : goal.returns-in-Some-clause-link_faults
returns-in-Some-clause-link_faults g c = c.serve_grown.ensures.link_faults

pub returns-in-Some-clause-disk_faults : goal.returns-in-Some-clause-disk_faults
returns-in-Some-clause-disk_faults g c = caused _ _ _ _ c.serve_grown.ensures.no_disk refl

pub returns-in-Some-clause-book_faults : goal.returns-in-Some-clause-book_faults
returns-in-Some-clause-book_faults g c = caused _ _ _ _ c.serve_grown.ensures.no_book refl

pub returns-in-None-clause-ends : goal.returns-in-None-clause-ends
returns-in-None-clause-ends g c own address =
    plain_serve_loop (disk_call g.D.Disk c.args.disk.now c.serve_plain.new.disk) (named c.args.asked.journal) (named c.args.asked.log)
    c.args.nodes.now.plan c.args.nodes.now.tag c.args.nodes.now.cluster c.args.asked.shard own c.args.asked.turns c.args.asked.counts
    (record { link = link_call g.L.Link c.args.link.now c.serve_plain.new.link; out = sink_call g.S.Sink c.args.out.now c.serve_plain.new.out })
    (book_call g.B.Book c.args.book.now c.serve_plain.new.book) c.args.nodes.now.next c.serve_plain.result
    (sym c.as_ref.ensures.value ∙ ap option_copied c.in-None.is) (c.serve_plain.ensures.ends own address)

pub returns-in-None-clause-files : goal.returns-in-None-clause-files
returns-in-None-clause-files g c = c.serve_plain.ensures.files

pub returns-in-None-clause-late : goal.returns-in-None-clause-late
returns-in-None-clause-late g c = c.serve_plain.ensures.late

pub returns-in-None-clause-untouched : goal.returns-in-None-clause-untouched
returns-in-None-clause-untouched g c = c.serve_plain.ensures.untouched

pub returns-in-None-clause-unkept : goal.returns-in-None-clause-unkept
returns-in-None-clause-unkept g c = c.serve_plain.ensures.unkept

pub returns-in-None-clause-unbegun : goal.returns-in-None-clause-unbegun
returns-in-None-clause-unbegun g c = c.serve_plain.ensures.unbegun

pub returns-in-None-clause-unlogged : goal.returns-in-None-clause-unlogged
returns-in-None-clause-unlogged g c = c.serve_plain.ensures.unlogged

pub returns-in-None-clause-sink_faults : goal.returns-in-None-clause-sink_faults
returns-in-None-clause-sink_faults g c = c.serve_plain.ensures.sink_faults

pub returns-in-None-clause-link_faults : goal.returns-in-None-clause-link_faults
returns-in-None-clause-link_faults g c = c.serve_plain.ensures.link_faults

pub returns-in-None-clause-disk_faults : goal.returns-in-None-clause-disk_faults
returns-in-None-clause-disk_faults g c = c.serve_plain.ensures.disk_faults

pub returns-in-None-clause-book_faults : goal.returns-in-None-clause-book_faults
returns-in-None-clause-book_faults g c = c.serve_plain.ensures.book_faults
