use Rattle.std.proofs.Common.{ℕ, List, length, ap, ◌∙◌, refl, set, subst, sym, arith}
use Rattle.roc_server_reach.specs.Bits.{AreSameBits}
use Rattle.roc_server_reach.specs.Inner.Words.{IsWithout}
use Rattle.roc_server_reach.specs.Inner.Rows.{bits_in, AreRowsWithin}
use Rattle.roc_server_reach.proofs.RowWords.{kept_within, on_err_always, put_bits, put_within, same_bits, same_within, wider_within}
use Rattle.roc_server_reach.proofs.rows.put_row.Goals as goal

pub returns-in_err-grow_to-clause-within : goal.returns-in_err-grow_to-clause-within
returns-in_err-grow_to-clause-within c = same_within c.args.rows.now.items c.grow_to.new.rows.items (length c.args.stale.now.items) c.grow_to.ensures.same c.requires

pub returns-in_err-grow_to-clause-err : goal.returns-in_err-grow_to-clause-err
returns-in_err-grow_to-clause-err c =
    on_err_always c.from_residual-in_err-grow_to.result
    (same_bits c.args.rows.now.items c.grow_to.new.rows.items c.args.stale.now.items c.args.stale.now.items c.grow_to.ensures.same (λ words. refl))

pub returns-in_err-widen-clause-within : goal.returns-in_err-widen-clause-within
returns-in_err-widen-clause-within c =
    wider_within c.args.rows.now.items c.grow_to.new.rows.items (length c.args.stale.now.items) c.words_for-words.result (length c.widen.new.set.items) c.grow_to.ensures.same c.requires
    c.words_for-words.ensures.few c.widen.ensures.no_fewer c.widen.ensures.at_most

pub returns-in_err-widen-clause-err : goal.returns-in_err-widen-clause-err
returns-in_err-widen-clause-err c =
    on_err_always c.from_residual-in_err-widen.result
    (same_bits c.args.rows.now.items c.grow_to.new.rows.items c.args.stale.now.items c.widen.new.set.items c.grow_to.ensures.same c.widen.ensures.same)

pub sweep_for-requires-clause-within : goal.sweep_for-requires-clause-within
sweep_for-requires-clause-within c =
    wider_within c.args.rows.now.items c.grow_to.new.rows.items (length c.args.stale.now.items) c.words_for-words.result (length c.widen.new.set.items) c.grow_to.ensures.same c.requires
    c.words_for-words.ensures.few c.widen.ensures.no_fewer c.widen.ensures.at_most

pub sweep_for-requires-clause-covered : goal.sweep_for-requires-clause-covered
sweep_for-requires-clause-covered c = omega (arith, c.in_ok-row.ensures.width, c.in_ok-widen.ensures.wide, ap length c.as_slice.ensures.value)

pub returns-clause-within : goal.returns-clause-within
returns-clause-within c =
    let swept = c.sweep_for.ensures in
    let before : AreRowsWithin c.grow_to.new.rows.items (length c.widen.new.set.items)
    = wider_within c.args.rows.now.items c.grow_to.new.rows.items (length c.args.stale.now.items) c.words_for-words.result (length c.widen.new.set.items) c.grow_to.ensures.same c.requires
    c.words_for-words.ensures.few c.widen.ensures.no_fewer c.widen.ensures.at_most in
    subst (λ (width : ℕ). AreRowsWithin (set c.sweep_for.new.rows.items c.args.at c.in_ok-row.row) width) (sym swept.each)
    (put_within c.sweep_for.new.rows.items c.args.at c.in_ok-row.row (omega (arith, swept.rows, c.in_ok-grow_to.ensures.there)) (length c.widen.new.set.items)
    (kept_within c.grow_to.new.rows.items c.sweep_for.new.rows.items (length c.widen.new.set.items) swept.within before)
    (omega (arith, c.in_ok-row.ensures.width, c.in_ok-widen.ensures.wide)))

pub returns-clause-ok : goal.returns-clause-ok
returns-clause-ok c =
    let swept = c.sweep_for.ensures in
    let before : AreSameBits (bits_in c.args.rows.now.items c.args.stale.now.items) (bits_in c.grow_to.new.rows.items c.widen.new.set.items)
    = same_bits c.args.rows.now.items c.grow_to.new.rows.items c.args.stale.now.items c.widen.new.set.items c.grow_to.ensures.same c.widen.ensures.same in
    let live : IsWithout c.sweep_for.new.stale.items c.in_ok-row.row.items c.in_ok-row.row.items
    = subst (λ (row : List ℕ). IsWithout c.sweep_for.new.stale.items row row) c.as_slice.ensures.value swept.live in
    put_bits c.sweep_for.new.rows.items c.args.at c.in_ok-row.row (omega (arith, swept.rows, c.in_ok-grow_to.ensures.there)) (bits_in c.args.rows.now.items c.args.stale.now.items)
    c.sweep_for.new.stale.items c.args.names.now (λ n m. swept.same n m ∙ before n m) live c.in_ok-row.ensures.bits
