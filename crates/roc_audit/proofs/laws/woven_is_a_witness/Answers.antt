use Rattle.roc_audit.proofs.WovenWitness.{is_witness}
use Rattle.roc_audit.proofs.laws.woven_is_a_witness.Goals as goal

pub returns : goal.returns
returns c program store is_view H O L leaves base looks = is_witness program store is_view H O L leaves base looks
