use Rattle.std.proofs.Common.{ℕ, List, [], ◌∷◌, take, subst, ◌∙◌}
use Rattle.roc_io.specs.Observed.{Adds}
use Rattle.roc_replay.proofs.play.close.Goals as goal

pub returns-clause-pieces : goal.returns-clause-pieces
returns-clause-pieces g c =
    let failed = c.in-Failed.ensures.pieces in (
      failed.0,
      subst (λ (t : List ℕ). Adds (g.S.Sink.pieces c.args.sink.now) (g.S.Sink.pieces c.write.new.self) (take failed.0 t ∷ [])) (c.deref.ensures.value ∙ c.in-Ok.ensures.text) failed.2,
    )
