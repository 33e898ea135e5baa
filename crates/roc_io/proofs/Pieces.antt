-- What a sink took by the writes, over several calls.
use Rattle.std.proofs.Common.{◌≡◌, ℕ, ◌==◌, true, false, List, [], ◌∷◌, length, take, sym, subst, append-nil, arith}
use Rattle.std.proofs.lemmas.Bool.{false≢true, eqb-true}
use Rattle.std.specs.Prelude.{Option}
use Rattle.roc_io.specs.declared.sink.Written.{Written}
use Rattle.roc_io.specs.declared.sink.Written.TheVariants.{Ok, Failed}
use Rattle.roc_io.specs.Observed.{Adds}
use Rattle.roc_io.specs.Sink.{AddsCut, TakesPiece, text_piece, WritesPiece}
use Rattle.roc_io.proofs.Told.{Adds-nil, Adds-trans}

-- a piece that was cut, behind others
pub cut_behind : (a b c : Option (List (List ℕ))) (whole : List (List ℕ)) (cut : List ℕ) → Adds a b whole → AddsCut b c [] cut → AddsCut a c whole cut
cut_behind a b c whole cut p q = (q.0, Adds-trans a b c whole (take q.0 cut ∷ []) p q.1)

-- nothing behind others
pub none_behind : (a b c : Option (List (List ℕ))) (pieces : List (List ℕ)) → Adds a b pieces → Adds b c [] → Adds a c pieces
none_behind a b c pieces p q = subst (Adds a c) (append-nil pieces) (Adds-trans a b c pieces [] p q)

-- an empty text is not written
pub no_piece : (o : Option (List (List ℕ))) (text : List ℕ) → true ≡ (length text == 0) → Adds o o (text_piece text)
no_piece o [] is = Adds-nil o
no_piece o (byte ∷ bytes) is = absurd (let none = eqb-true (length (byte ∷ bytes)) 0 (sym is) in omega arith)

-- another one is, in one write
pub one_piece : (r : Written) (taken taken_then : Option (List ℕ)) (old new : Option (List (List ℕ))) (text : List ℕ) → false ≡ (length text == 0)
    → TakesPiece r taken taken_then old new text → WritesPiece r old new text
one_piece Ok taken taken_then old new [] is took = absurd (false≢true is)
one_piece Ok taken taken_then old new (byte ∷ bytes) is took = took
one_piece Failed taken taken_then old new text is took = (took.0, took.2)
