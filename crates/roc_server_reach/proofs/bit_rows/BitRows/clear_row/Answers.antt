use Rattle.std.proofs.Common.{length, subst}
use Rattle.roc_server_reach.specs.Bits.{BitTable, IsRowCleared}
use Rattle.roc_server_reach.specs.Inner.Rows.{bits_in}
use Rattle.roc_server_reach.proofs.RowWords.{kept_within}
use Rattle.roc_server_reach.proofs.bit_rows.BitRows.clear_row.Goals as goal

pub invariant_of-self : goal.invariant_of-self
invariant_of-self c = kept_within c.self.inside.rows.items c.clear_row.new.rows.items (length c.self.inside.stale.items) c.clear_row.ensures.within c.self.invariant

pub returns : goal.returns
returns c = subst (λ (b : BitTable). IsRowCleared c.args.at b (bits_in c.clear_row.new.rows.items c.self.inside.stale.items)) c.self.view_is (c.clear_row.ensures.cleared c.self.inside.stale.items)
