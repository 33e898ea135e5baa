use Rattle.std.proofs.Common.{◌<◌, List, ℕ, get_or, take, length, sym, subst, arith}
use Rattle.std.proofs.lemmas.List.{take_more, take_all}
use Rattle.roc_server_reach.specs.Inner.Words.{IsSetOf}
use Rattle.roc_server_reach.proofs.WordBits.{set_more}
use Rattle.roc_server_reach.proofs.words.put_all.Goals as goal

pub loop-name-preserved : goal.loop-name-preserved
loop-name-preserved c =
    let names : List ℕ = c.args.names.now in
    let i : ℕ = c.loop-name.name-index in
    let within : i < length names = omega arith in
    subst (λ (ns : List ℕ). IsSetOf ns c.put_bit.new.set) (sym (take_more names i 0 within))
    (set_more (take i names) (get_or names i 0) c.loop-name.set c.put_bit.new.set c.loop-name.invariant c.put_bit.ensures.put)

pub returns : goal.returns
returns c = subst (λ (ns : List ℕ). IsSetOf ns c.loop-name.set) (take_all c.loop-name.name-index c.args.names.now (omega arith)) c.loop-name.invariant
