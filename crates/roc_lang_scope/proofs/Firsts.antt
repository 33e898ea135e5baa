-- The first fault of lists one behind another.
use Rattle.std.proofs.Common.{◌≡◌, List, [], ◌∷◌, ◌++◌, Some}
use Rattle.roc_lang.specs.Scope.{Fault}
use Rattle.roc_lang_scope.specs.Fault.{first}

-- what is first in a list is first where more follows
pub first_append : (fault : Fault) (xs ys : List Fault) → first xs ≡ Some fault → first (xs ++ ys) ≡ Some fault
first_append fault [] ys e = cc
first_append fault (x ∷ xs) ys e = e
