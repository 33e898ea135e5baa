-- The count is written, then one element behind the other
use Rattle.std.proofs.Common.{length}
use Rattle.std.specs.Int.{w16, to_be_bytes}
use Rattle.roc_wire.specs.Spelling.{fact_bytes}
use Rattle.roc_wire.proofs.Parts.{begun, one_more, ended}
use Rattle.roc_wire.proofs.writing.put_facts.Goals as goal

pub loop-fact-init : goal.loop-fact-init
loop-fact-init c = begun c.args.out.now.items c.put_u16.new.out.items (to_be_bytes w16 (length c.args.facts.now)) c.in_ok-put_u16.ensures

pub loop-fact-preserved : goal.loop-fact-preserved
loop-fact-preserved c = one_more fact_bytes _ c.loop-fact.out.items c.put_fact.new.out.items c.args.facts.now c.loop-fact.fact-index c.fact-item.result c.fact-item.result c.loop-fact-test.true c.fact-item.is c.loop-fact.invariant c.in_ok-put_fact.ensures

pub returns : goal.returns
returns c = ended fact_bytes c.args.out.now.items (to_be_bytes w16 (length c.args.facts.now)) c.loop-fact.out.items c.args.facts.now c.loop-fact.fact-index c.loop-fact-test.false c.loop-fact.invariant
