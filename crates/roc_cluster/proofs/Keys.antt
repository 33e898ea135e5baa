-- The keys of a table
use Rattle.std.proofs.Common.{◌≡◌, ℕ, Bool, List, [], ◌∷◌, String, Global, string_bytes, refl}
use Rattle.std.specs.List.{list_any, list_all}
use Rattle.std.specs.Map.{keys_of}
use Rattle.std.specs.Str.{bytes_eq}
use Rattle.toml.specs.View.{members_view}
use Rattle.toml.proofs.Views.{Entry}
use Rattle.roc_cluster.specs.Entries.{has_only}

-- that the key is one of these
abbrev pub is_one_of : List (List ℕ) → String Global → Bool
is_one_of keys key = list_any (bytes_eq (string_bytes key)) keys

-- what the keys of the map pass, those of the members do
pub has_only_keys : (keys : List (List ℕ)) (es : List Entry) → list_all (is_one_of keys) (keys_of es) ≡ has_only keys (members_view es)
has_only_keys keys [] = refl
has_only_keys keys (e ∷ es) = rw (has_only_keys keys es)
