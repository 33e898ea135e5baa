-- The writes of a server's node
use Rattle.std.proofs.Common.{◌≡◌, ℕ, Bool, true, List, [], ◌∷◌, refl, sym, subst, Option}
use Rattle.roc_base.specs.declared.node.Shard.{Shard}
use Rattle.roc_io.specs.Observed.{Adds}
use Rattle.roc_io.proofs.Pieces.{cut_behind}
use Rattle.roc_io.proofs.Told.{Adds-trans}
use Rattle.roc_kept.specs.declared.fault.OpenFault.{OpenFault}
use Rattle.roc_kept.specs.declared.fault.OpenFault.TheVariants as open_fault
use Rattle.roc_node.specs.declared.counts.Counts.{Counts}
use Rattle.roc_node.specs.NodeLine.{node_lines_text, end_lines}
use Rattle.roc_node_serve.specs.declared.ends.ServeEnd.{ServeEnd}
use Rattle.roc_node_serve.specs.declared.ends.ServeEnd.TheVariants as end
use Rattle.roc_node_serve.specs.Inner.ServerTurn.{end_of}
use Rattle.roc_node_serve.specs.Pieces.{has_no_last_lines, WritesInPieces, silent, greeted, cut_last, closed, ClosesInPiece}
use Rattle.roc_node_serve.specs.ServeEnd.{first_text}

-- no journal was opened
pub none_opened : (shard : Shard) (counts : Bool) (o : Option (List (List ℕ))) (fault : OpenFault) (end : ServeEnd) → end ≡ end_of fault → WritesInPieces shard counts o o end
none_opened shard counts o (open_fault.Journal at) end is = silent end (subst (λ (e : ServeEnd). has_no_last_lines e ≡ true) (sym is) refl) refl
none_opened shard counts o open_fault.Disk end is = silent end (subst (λ (e : ServeEnd). has_no_last_lines e ≡ true) (sym is) refl) refl
none_opened shard counts o open_fault.NoMemory end is = silent end (subst (λ (e : ServeEnd). has_no_last_lines e ≡ true) (sym is) refl) refl

-- the last lines behind the first one
pub closed_behind : (shard : Shard) (counts stopped : Bool) (counted : Counts) (old mid new : Option (List (List ℕ))) (end : ServeEnd) → Adds old mid (first_text shard ∷ [])
    → ClosesInPiece end (node_lines_text (end_lines shard stopped counts counted)) mid new → WritesInPieces shard counts old new end
closed_behind shard counts stopped counted old mid new end.Done first last = closed stopped counted (Adds-trans old mid new (first_text shard ∷ []) _ first last)
closed_behind shard counts stopped counted old mid new end.SinkFault first last = cut_last stopped counted (cut_behind old mid new (first_text shard ∷ []) _ first last)
closed_behind shard counts stopped counted old mid new end.NoMemory first last = greeted end.NoMemory refl (subst (λ o. Adds old o (first_text shard ∷ [])) (sym last) first)
closed_behind shard counts stopped counted old mid new end.LinkFault first last = absurd last
closed_behind shard counts stopped counted old mid new (end.Journal at) first last = absurd last
closed_behind shard counts stopped counted old mid new end.Full first last = absurd last
closed_behind shard counts stopped counted old mid new end.Disk first last = absurd last
closed_behind shard counts stopped counted old mid new end.BookFault first last = absurd last
