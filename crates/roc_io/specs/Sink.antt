-- What a sink does with a piece.
use Rattle.std.specs.Prelude.{ℕ, Bool, true, false, List, [], ◌∷◌, ◌++◌, take, Option}
use Rattle.roc_io.specs.declared.sink.Written.{Written}
use Rattle.roc_io.specs.declared.sink.Written.TheVariants.{Ok, Failed}
use Rattle.roc_io.specs.Observed.{Adds, AddsFront}

abbrev pub write_failed : Written → Bool
write_failed Ok = false
write_failed Failed = true

-- the sink took the whole piece, or at a failure some front of it
abbrev pub Takes : Written → Option (List ℕ) → Option (List ℕ) → List ℕ → Type 0
Takes Ok old new piece = Adds old new piece
Takes Failed old new piece = AddsFront old new piece

-- ---- by the writes

-- these pieces, and behind them some front of that one
abbrev pub AddsCut : Option (List (List ℕ)) → Option (List (List ℕ)) → (whole : List (List ℕ)) → (cut : List ℕ) → Type 0
AddsCut old new whole cut = (n : ℕ) × Adds old new (whole ++ take n cut ∷ [])

-- the sink took the piece as one, or at a failure the same front of it
abbrev pub TakesPiece : Written → (taken_old taken_new : Option (List ℕ)) → (old new : Option (List (List ℕ))) → List ℕ → Type 0
TakesPiece Ok taken_old taken_new old new piece = Adds old new (piece ∷ [])
TakesPiece Failed taken_old taken_new old new piece = (n : ℕ) × Adds taken_old taken_new (take n piece) × Adds old new (take n piece ∷ [])

-- a text is one piece, and none where it is empty
abbrev pub text_piece : List ℕ → List (List ℕ)
text_piece [] = []
text_piece (byte ∷ bytes) = (byte ∷ bytes) ∷ []

-- a text was written in one piece, unless it is empty
abbrev pub WritesPiece : Written → (old new : Option (List (List ℕ))) → List ℕ → Type 0
WritesPiece Ok old new text = Adds old new (text_piece text)
WritesPiece Failed old new text = AddsCut old new [] text
