-- Lists that can be learnt one after another
use Rattle.std.specs.Prelude.{◌≡◌, List, [], ◌∷◌, ◌++◌, None}
use Rattle.roc_depgraph.specs.declared.known.KnownList.{KnownList}
use Rattle.roc_depgraph.specs.Deps.{list_of}

-- lists that can be learnt one after another: of each none is known, nor is one before it of the same transaction
abbrev pub AreLearnable : List KnownList → List KnownList → Type 0
AreLearnable known [] = Unit {0}
AreLearnable known (k ∷ ks) = (list_of k.of known ≡ None) × AreLearnable (known ++ k ∷ []) ks
