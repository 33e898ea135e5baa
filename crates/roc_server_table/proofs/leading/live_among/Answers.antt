use Rattle.std.proofs.Common.{get_or}
use Rattle.std.proofs.lemmas.List.{get_or_default}
use Rattle.roc_server_rows.specs.Except.{no_link}
use Rattle.roc_server_table.proofs.LeadingRows.{live_more}
use Rattle.roc_server_table.proofs.leading.live_among.Goals as goal

pub loop-link-preserved : goal.loop-link-preserved
loop-link-preserved c =
    let ls = c.args.links.now in
    let i = c.loop-link.link-index in
    live_more c.args.rows.now ls i (get_or ls i no_link) c.loop-link.numbers.items c.push_live.new.numbers.items c.loop-link-test.true
    (get_or_default ls i no_link (get_or ls i no_link) c.loop-link-test.true)
    c.loop-link.invariant c.in_ok-push_live.ensures
