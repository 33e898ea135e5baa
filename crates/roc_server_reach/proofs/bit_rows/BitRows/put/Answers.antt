use Rattle.std.proofs.Common.{subst}
use Rattle.std.proofs.lemmas.Result.{on_ok_weaker, on_err_weaker}
use Rattle.roc_server_reach.specs.Bits.{BitTable, AreSameBits, IsPut}
use Rattle.roc_server_reach.specs.Inner.Rows.{bits_in}
use Rattle.roc_server_reach.proofs.bit_rows.BitRows.put.Goals as goal

pub put_row-requires : goal.put_row-requires
put_row-requires c = c.self.invariant

pub invariant_of-self : goal.invariant_of-self
invariant_of-self c = c.put_row.ensures.within

pub returns-clause-ok : goal.returns-clause-ok
returns-clause-ok c =
    on_ok_weaker c.put_row.result
    (λ put. subst (λ (b : BitTable). IsPut c.args.at c.args.names.now b (bits_in c.put_row.new.rows.items c.put_row.new.stale.items)) c.self.view_is put)
    c.put_row.ensures.ok

pub returns-clause-err : goal.returns-clause-err
returns-clause-err c =
    on_err_weaker c.put_row.result
    (λ same. subst (λ (b : BitTable). AreSameBits b (bits_in c.put_row.new.rows.items c.put_row.new.stale.items)) c.self.view_is same)
    c.put_row.ensures.err
