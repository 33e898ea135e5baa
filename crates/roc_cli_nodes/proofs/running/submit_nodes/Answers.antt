-- Whichever was read
use Rattle.std.proofs.Common.{IfSome, refl, sym, ap, subst, ◌∙◌}
use Rattle.std.specs.Option.{option_copied}
use Rattle.roc_epoch.specs.Grown.{IsGrownFrom}
use Rattle.roc_book.specs.Call.{book_call}
use Rattle.roc_io.specs.Call.{link_call, sink_call}
use Rattle.roc_cli_nodes.specs.Inner.Running.{named}
use Rattle.roc_cli_nodes.proofs.Telling.{plain_submit_loop, grown_submit_loop}
use Rattle.roc_cli_nodes.proofs.Reading.{caused}
use Rattle.roc_cli_nodes.proofs.running.submit_nodes.Goals as goal

pub returns-in-Some-clause-ends : goal.returns-in-Some-clause-ends
returns-in-Some-clause-ends g c =
    grown_submit_loop c.args.nodes.now.plan c.args.nodes.now.tag c.args.nodes.now.cluster c.args.asked.coord c.args.nodes.now.requests.items
    c.args.nodes.now.later.items c.args.asked.turns (named c.args.asked.log)
    (record { link = link_call g.L.Link c.args.link.now c.submit_grown.new.link; out = sink_call g.S.Sink c.args.out.now c.submit_grown.new.out })
    (book_call g.B.Book c.args.book.now c.args.book.now) c.args.nodes.now.next c.submit_grown.result _
    (sym c.as_ref.ensures.value ∙ ap option_copied c.in-Some.is) c.submit_grown.ensures.ends

pub returns-in-Some-clause-files : goal.returns-in-Some-clause-files
returns-in-Some-clause-files g c = c.submit_grown.ensures.files

pub returns-in-Some-clause-late : goal.returns-in-Some-clause-late
returns-in-Some-clause-late g c = c.submit_grown.ensures.late

pub returns-in-Some-clause-unlogged : goal.returns-in-Some-clause-unlogged
returns-in-Some-clause-unlogged g c none = refl

pub returns-in-Some-clause-sink_faults : goal.returns-in-Some-clause-sink_faults
returns-in-Some-clause-sink_faults g c = c.submit_grown.ensures.sink_faults

pub returns-in-Some-clause-link_faults : goal.returns-in-Some-clause-link_faults
returns-in-Some-clause-link_faults g c = c.submit_grown.ensures.link_faults

pub returns-in-Some-clause-no_disk : goal.returns-in-Some-clause-no_disk
returns-in-Some-clause-no_disk g c = c.submit_grown.ensures.no_disk

pub returns-in-Some-clause-book_faults : goal.returns-in-Some-clause-book_faults
returns-in-Some-clause-book_faults g c = caused _ _ _ _ c.submit_grown.ensures.no_book refl

pub returns-in-None-clause-ends : goal.returns-in-None-clause-ends
returns-in-None-clause-ends g c =
    plain_submit_loop c.args.nodes.now.plan c.args.nodes.now.tag c.args.nodes.now.cluster c.args.asked.coord c.args.nodes.now.requests.items
    c.args.nodes.now.later.items c.args.asked.turns (named c.args.asked.log)
    (record { link = link_call g.L.Link c.args.link.now c.submit_plain.new.link; out = sink_call g.S.Sink c.args.out.now c.submit_plain.new.out })
    (book_call g.B.Book c.args.book.now c.submit_plain.new.book) c.args.nodes.now.next c.submit_plain.result
    (sym c.as_ref.ensures.value ∙ ap option_copied c.in-None.is) c.submit_plain.ensures.ends

pub returns-in-None-clause-files : goal.returns-in-None-clause-files
returns-in-None-clause-files g c = c.submit_plain.ensures.files

pub returns-in-None-clause-late : goal.returns-in-None-clause-late
returns-in-None-clause-late g c = c.submit_plain.ensures.late

pub returns-in-None-clause-unlogged : goal.returns-in-None-clause-unlogged
returns-in-None-clause-unlogged g c = c.submit_plain.ensures.unlogged

pub returns-in-None-clause-sink_faults : goal.returns-in-None-clause-sink_faults
returns-in-None-clause-sink_faults g c = c.submit_plain.ensures.sink_faults

pub returns-in-None-clause-link_faults : goal.returns-in-None-clause-link_faults
returns-in-None-clause-link_faults g c = c.submit_plain.ensures.link_faults

pub returns-in-None-clause-no_disk : goal.returns-in-None-clause-no_disk
returns-in-None-clause-no_disk g c = c.submit_plain.ensures.no_disk

pub returns-in-None-clause-book_faults : goal.returns-in-None-clause-book_faults
returns-in-None-clause-book_faults g c = c.submit_plain.ensures.book_faults

pub submit_grown-requires-clause-grown : goal.submit_grown-requires-clause-grown
submit_grown-requires-clause-grown g c =
    subst (λ n. IfSome n (λ next. IsGrownFrom c.args.nodes.now.plan.program next.plan.program)) (sym c.as_ref.ensures.value ∙ ap option_copied c.in-Some.is) c.requires.grown
