-- One version more.
use Rattle.std.specs.Prelude.{◌≡◌, ℕ, List, ◌∷◌, Option, Some, None, Vec}
use Rattle.std.specs.declared.alloc.Global.{Global}
use Rattle.roc_disk_memory.specs.declared.store.Version.{Version}

-- these versions have one more of this name
pub record Added (old new : List Version) (name seen stable : List ℕ) : Type 0 where
  pub version : Version
  pub is : new ≡ version ∷ old
  pub name_is : version.name.items ≡ name
  pub seen_is : version.seen.items ≡ seen
  pub stable_is : version.stable.items ≡ stable

-- the version that was made was added
abbrev pub AddsMade : Option (Vec ℕ Global × Vec ℕ Global) → List Version → List Version → List ℕ → Type 0
AddsMade None old new name = ⊥
AddsMade (Some made) old new name = Added old new name made.0.items made.1.items
