-- What reading a rule of the grammar gives: a value and the tokens behind it, or where it stops.
use Rattle.std.specs.Prelude.{Bool, true, false, List, [], ◌∷◌, Result, Ok, Err}
use Rattle.roc_lang.specs.Tokens.{Kind, Token}

-- no text goes on with the first of these tokens; or, where it is past, none within the limits
pub record Stuck : Type 0 where
  pub past : Bool
  pub rest : List Token

abbrev pub Reading : Type 0 → Type 0
Reading A = Result (A × List Token) Stuck

abbrev pub and_then : {A B : Type 0} → Result A Stuck → (A → Result B Stuck) → Result B Stuck
and_then (Ok x) f = f x
and_then (Err s) f = Err s

infixl 10 ◌>>=◌
abbrev pub ◌>>=◌ : {A B : Type 0} → Result A Stuck → (A → Result B Stuck) → Result B Stuck
r >>= f = and_then r f

abbrev pub refuse : {A : Type 0} → List Token → Result A Stuck
refuse ts = Err (record { past = false; rest = ts })

abbrev pub exceed : {A : Type 0} → List Token → Result A Stuck
exceed ts = Err (record { past = true; rest = ts })

-- the first token is of such a kind
abbrev pub head_is : (Kind → Bool) → List Token → Bool
head_is test [] = false
head_is test (t ∷ ts) = test t.kind
