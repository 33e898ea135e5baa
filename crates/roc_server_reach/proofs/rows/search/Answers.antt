use Rattle.std.proofs.Common.{List, ℕ, sym, subst, arith}
use Rattle.roc_server_reach.specs.Inner.Rows.{bits_in}
use Rattle.roc_server_reach.proofs.Searches.{IsSearch, none_done, one_done, all_done}
use Rattle.roc_server_reach.proofs.rows.search.Goals as goal

pub search-init : goal.search-init
search-init c =
    subst (λ (found : List ℕ). IsSearch (bits_in c.args.rows.now c.args.stale.now) c.args.met.now c.args.met.now c.args.done.now found) (sym c.new-found.ensures.items)
    (none_done (bits_in c.args.rows.now c.args.stale.now) c.args.met.now c.args.done.now c.requires.each c.requires.none)

pub follow-requires-clause-within : goal.follow-requires-clause-within
follow-requires-clause-within c = c.requires.within

pub search-preserved : goal.search-preserved
search-preserved c =
    subst (λ (found : List ℕ). IsSearch (bits_in c.args.rows.now c.args.stale.now) c.args.met.now c.follow.new.met c.put_bit.new.set found) (sym c.in_ok-push.ensures.items)
    (one_done (bits_in c.args.rows.now c.args.stale.now) c.args.met.now c.search.met c.search.done c.search.found.items c.search.invariant c.in-Some.next c.in-Some.ensures.some
    c.follow.new.met c.put_bit.new.set c.put_bit.ensures.put (omega arith) c.follow.ensures)

pub search-smaller : goal.search-smaller
search-smaller c = c.put_bit.ensures.room c.in-Some.ensures.some.lacks

pub put_bit-requires : goal.put_bit-requires
put_bit-requires c = omega (arith, c.in-Some.ensures.some.within, c.search.invariant.each)

pub returns : goal.returns
returns c = λ names is. all_done (bits_in c.args.rows.now c.args.stale.now) c.args.met.now c.search.met c.search.done c.search.found.items c.search.invariant c.in_default.ensures.none names is
