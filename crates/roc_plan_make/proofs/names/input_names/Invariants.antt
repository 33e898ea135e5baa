use Rattle.std.proofs.Common.{◌≡◌, ◌-◌, not, ◌&&◌, ◌++◌, filter}
use Rattle.std.specs.List.{list_any, range_with_len}
use Rattle.roc_program.specs.Parts as view
use Rattle.roc_program.specs.Names.{has_name, piece_uses}
use Rattle.roc_plan.specs.Sized.{piece_at}
use Rattle.roc_plan_make.proofs.names.input_names.Given as goal

abbrev pub invariant-loop-name : goal.invariant-loop-name
invariant-loop-name l =
    l.names.items ++ filter (λ n. list_any (λ k. piece_uses (piece_at (view.procedure l.procedure) k) n) l.pieces && not (has_name l.own n)) (range_with_len l.name ((view.procedure l.procedure).names - l.name))
    ≡ filter (λ n. list_any (λ k. piece_uses (piece_at (view.procedure l.procedure) k) n) l.pieces && not (has_name l.own n)) (range_with_len (view.procedure l.procedure).arguments ((view.procedure l.procedure).names - (view.procedure l.procedure).arguments))
