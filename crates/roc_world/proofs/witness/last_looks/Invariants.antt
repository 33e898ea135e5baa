-- the looks from here on are gone through
use Rattle.std.proofs.Common.{◌≡◌, map, drop, reverse}
use Rattle.std.specs.BTreeSet.{contains}
use Rattle.roc_base.specs.declared.id.TxnId.{TxnId}
use Rattle.roc_base.specs.TxnId.{txn_cmp}
use Rattle.roc_law_world.specs.Witness.{last_looks}
use Rattle.roc_world.specs.Inner.Looks.{looked}
use Rattle.roc_world.proofs.Woven.{again_in}
use Rattle.roc_world.proofs.witness.last_looks.Given as goal

abbrev pub invariant-loop-at : goal.invariant-loop-at
invariant-loop-at l = record {
  later : (u : TxnId) → contains txn_cmp l.later u ≡ again_in (drop l.at l.looks) u;
  last : reverse (map looked l.last.items) ≡ last_looks (λ u. contains txn_cmp l.among u) (map looked (drop l.at l.looks));
}
