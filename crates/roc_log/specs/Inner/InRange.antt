-- What stands here is of private functions alone
use Rattle.std.specs.Prelude.{ℕ, ◌-◌, List, [], ◌∷◌, length}
use Rattle.roc_base.specs.Edge.{Dependency}
use Rattle.roc_depgraph.specs.declared.known.KnownList.{KnownList}
use Rattle.roc_wire.specs.Fits.{FitsId, FitsShard, FitsEdges}

abbrev pub InRange : Dependency → Type 0
InRange edge = FitsId edge.from × FitsShard edge.at

-- with so many entries at most, in all lists together
abbrev pub AreInRange : (entries : ℕ) → List KnownList → Type 0
AreInRange entries [] = Unit {0}
AreInRange entries (fact ∷ facts) = (FitsId fact.of × FitsEdges entries fact.edges) × AreInRange (entries - length fact.edges) facts
