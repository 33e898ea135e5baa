use Rattle.std.proofs.Common.{Bor, List, ℕ, refl}
use Rattle.std.specs.Prelude.{option_map}
use Rattle.roc_node.proofs.Moving.{Moves-none}
use Rattle.roc_node_serve.proofs.Opened.{book_of_fault, disk_of_fault, kept_served, link_of_fault, not_opened, opened_ready, sink_of_fault}
use Rattle.roc_node_serve.proofs.Writing.{none_opened}
use Rattle.roc_node_serve.proofs.serving.serve_kept.Goals as goal

pub serve_opened-requires-clause-ready : goal.serve_opened-requires-clause-ready
serve_opened-requires-clause-ready g c = opened_ready _ _ c.in-Ok.server c.first_node-server_node.ensures.server c.in-Ok.ensures.fits c.in-Ok.ensures.fresh.0

pub returns-in-Err-clause-link_cause : goal.returns-in-Err-clause-link_cause
returns-in-Err-clause-link_cause g c = link_of_fault _ c.in-Err.fault _ c.end_of.ensures

pub returns-in-Err-clause-sink_cause : goal.returns-in-Err-clause-sink_cause
returns-in-Err-clause-sink_cause g c = sink_of_fault _ c.in-Err.fault _ c.end_of.ensures

pub returns-in-Err-clause-book_cause : goal.returns-in-Err-clause-book_cause
returns-in-Err-clause-book_cause g c = book_of_fault _ c.in-Err.fault _ c.end_of.ensures

pub returns-in-Err-clause-disk_cause : goal.returns-in-Err-clause-disk_cause
returns-in-Err-clause-disk_cause g c = disk_of_fault _ c.in-Err.fault _ _ c.end_of.ensures c.in-Err.ensures.cause

pub returns-in-Err-clause-serves : goal.returns-in-Err-clause-serves
returns-in-Err-clause-serves g c = λ own at.
    not_opened _ _ _ _ _ _ _ _ _ _ (option_map (λ (n : Bor (List ℕ)). n.now) c.args.log) _ (record {
      bound = refl;
      moves = Moves-none _ _ refl refl refl refl;
      silent = refl;
    }) refl c.in-Err.ensures.any_moment _ c.in-Err.fault c.end_of.ensures c.in-Err.ensures.refused

pub returns-in-Ok-clause-disk_told : goal.returns-in-Ok-clause-disk_told
returns-in-Ok-clause-disk_told g c = λ tells. c.in-Ok.ensures.told (c.serve_opened.ensures.calls.told tells)

pub returns-in-Ok-clause-serves : goal.returns-in-Ok-clause-serves
returns-in-Ok-clause-serves g c = λ own at. let e = c.in-Ok.ensures in
    kept_served _ _ _ _ _ _ _ _ _ _ (option_map (λ (n : Bor (List ℕ)). n.now) c.args.log) _ _ _ c.in-Ok.server _ c.first_node-server_node.ensures.server
    c.serve_opened.ensures.calls.told e.stands e.fresh.2 e.fresh.3 e.opened e.any_moment
    (c.serve_opened.ensures.serves own at)

pub returns-in-Err-clause-pieces : goal.returns-in-Err-clause-pieces
returns-in-Err-clause-pieces g c = none_opened _ _ _ c.in-Err.fault _ c.end_of.ensures
