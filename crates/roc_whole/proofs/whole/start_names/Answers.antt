use Rattle.std.proofs.Common.{◌≡◌, ◌∙◌, ◌++◌, ◌∷◌, [], ◌-◌, length, pos, replicate, ap, arith}
use Rattle.roc_whole.proofs.Names.{zeros_more}
use Rattle.roc_whole.proofs.whole.start_names.Goals as goal

pub loop-preserved : goal.loop-preserved
loop-preserved c = record {
  zeros = c.in_ok-push.ensures.items ∙ ap (λ xs. xs ++ pos 0 ∷ []) c.loop.invariant.zeros ∙ zeros_more c.args.args.now c.loop.counter (omega arith);
  within = omega arith;
}

pub returns : goal.returns
returns c =
    let all : c.loop.counter - length c.args.args.now ≡ c.args.procedure.now.names - length c.args.args.now = omega arith in
    c.loop.invariant.zeros ∙ ap (λ k. c.args.args.now ++ replicate k (pos 0)) all
