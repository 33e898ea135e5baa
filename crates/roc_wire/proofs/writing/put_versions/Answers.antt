-- The count is written, then one element behind the other
use Rattle.std.proofs.Common.{get_or, length, refl}
use Rattle.std.specs.Int.{w16, w64, to_be_bytes}
use Rattle.roc_wire.proofs.Parts.{begun, one_more, ended}
use Rattle.roc_wire.proofs.writing.put_versions.Goals as goal

pub loop-version-init : goal.loop-version-init
loop-version-init c = begun c.args.out.now.items c.put_u16.new.out.items (to_be_bytes w16 (length c.args.versions.now)) c.in_ok-put_u16.ensures

pub loop-version-preserved : goal.loop-version-preserved
loop-version-preserved c = one_more (to_be_bytes w64) _ c.loop-version.out.items c.put_u64.new.out.items c.args.versions.now c.loop-version.version-index (get_or c.args.versions.now c.loop-version.version-index 0) 0 c.loop-version-test.true refl c.loop-version.invariant c.in_ok-put_u64.ensures

pub returns : goal.returns
returns c = ended (to_be_bytes w64) c.args.out.now.items (to_be_bytes w16 (length c.args.versions.now)) c.loop-version.out.items c.args.versions.now c.loop-version.version-index c.loop-version-test.false c.loop-version.invariant
