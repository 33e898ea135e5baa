use Rattle.std.proofs.Common.{◌∙◌, sym}
use Rattle.std.proofs.lemmas.Bool.{false≢true}
use Rattle.roc_server_reads.specs.Views.{viewing_of}
use Rattle.roc_server.specs.Inner.Parts.{state_of}
use Rattle.roc_server.proofs.MadeSteps.{found_made, groups_from, made_msg, made_once}
use Rattle.roc_server.proofs.handling.make_once.Goals as goal

pub make-requires-clause-fits : goal.make-requires-clause-fits
make-requires-clause-fits c =
    groups_from c.args.plan.now (state_of c.args.shard c.let_go.new.parts) (state_of c.args.shard c.args.parts.now) (c.let_go.ensures.state c.args.shard) c.requires.fits.0

pub make-requires-clause-reads : goal.make-requires-clause-reads
make-requires-clause-reads c = c.requires.fits.1

pub returns-clause-made : goal.returns-clause-made
returns-clause-made c =
    made_msg c.make.result c.args.plan.now c.args.shard c.make.new.parts c.make.new.views c.make.new.ahead (state_of c.args.shard c.let_go.new.parts) (viewing_of c.args.views.now) c.args.msg.now c.make.ensures.made c.make.ensures.some

pub returns-clause-state : goal.returns-clause-state
returns-clause-state c = c.make.ensures.state ∙ c.let_go.ensures.state c.args.shard

pub returns-clause-fits : goal.returns-clause-fits
returns-clause-fits c =
    made_once c.make.result c.args.plan.now c.args.shard c.make.new.parts c.make.new.views c.make.new.ahead (state_of c.args.shard c.let_go.new.parts)
    (state_of c.args.shard c.args.parts.now) (viewing_of c.args.views.now) c.args.msg.now
    c.make.ensures.made c.make.ensures.some c.make.ensures.none c.make.ensures.state (c.let_go.ensures.state c.args.shard) c.make.ensures.views c.requires.fits.0 c.requires.fits.1

pub returns-clause-again : goal.returns-clause-again
returns-clause-again c held = absurd (false≢true (sym c.if-is_made.false ∙ found_made c.args.ahead.now c.args.msg.now c.is_made.result c.is_made.ensures.all held))
