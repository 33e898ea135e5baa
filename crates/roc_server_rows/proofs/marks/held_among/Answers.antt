use Rattle.std.proofs.Common.{get_or, ap, arith}
use Rattle.std.proofs.lemmas.List.{get_or_default}
use Rattle.roc_server_rows.specs.declared.rows.Link.{Link}
use Rattle.roc_server_rows.specs.Except.{no_link}
use Rattle.roc_server_rows.proofs.ExceptedMarks.{but_held_none, but_held_one, but_links_more}
use Rattle.roc_server_rows.proofs.marks.held_among.Goals as goal

pub returns-then-waits-gt0 : goal.returns-then-waits-gt0
returns-then-waits-gt0 c =
    let ls = c.args.links.now in
    let i = c.loop-link.link-index in
    but_held_one c.args.except c.args.rows.now c.args.marks.now c.args.at ls i (get_or ls i no_link) c.held_through-waits.result c.requires.links c.requires.told c.loop-link-test.true
    (get_or_default ls i no_link (get_or ls i no_link) c.loop-link-test.true) c.held_through-waits.ensures c.if-waits-gt0.true

pub loop-link-preserved : goal.loop-link-preserved
loop-link-preserved c =
    let ls = c.args.links.now in
    let i = c.loop-link.link-index in
    but_links_more c.args.except c.args.rows.now c.args.marks.now ls i (get_or ls i no_link) c.held_through-waits.result c.loop-link.invariant c.loop-link-test.true
    (get_or_default ls i no_link (get_or ls i no_link) c.loop-link-test.true) c.held_through-waits.ensures (omega (arith, c.if-waits-gt0.false))

pub returns : goal.returns
returns c =
    but_held_none c.args.except c.args.rows.now c.args.marks.now c.args.at c.args.links.now c.loop-link.link-index c.no_link.result c.requires.links c.loop-link.invariant
    (omega (arith, c.loop-link-test.false)) (ap (λ (l : Link). l.birth) c.no_link.ensures)
