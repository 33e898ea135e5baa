-- Lists of the first nodes, and the first world
use Rattle.std.proofs.Common.{◌≡◌, ℕ, ◌+◌, ◌++◌, List, [], ◌∷◌, map, ap, sym, ◌∙◌, arith}
use Rattle.std.proofs.lemmas.List.FromFn.{map-range_with_len_more}
use Rattle.std.specs.List.{range_with_len}
use Rattle.roc_plan.specs.Groups.{Plan}
use Rattle.roc_grown.specs.Server.{GrownServerState, first_grown_server}
use Rattle.roc_grown.specs.Coord.{first_grown_coord}
use Rattle.roc_growth.specs.World.{first_grown_world}
use Rattle.roc_world.specs.declared.parts.Parts.{Parts}
use Rattle.roc_world.specs.Inner.Looks.{looked}
use Rattle.roc_world.specs.Inner.Parts.{world_of}

-- a list of the first numbers' nodes, with the next one
pub firsts_more : {X : Type 0} (first : ℕ → X) (n : ℕ) (now new : List X) (x : X) → now ≡ map first (range_with_len 0 n) → x ≡ first n → new ≡ now ++ x ∷ [] → new ≡ map first (range_with_len 0 (n + 1))
firsts_more {X} first n now new x so_far is more =
    let e = map-range_with_len_more first 0 n n (omega arith) in
    let with_one : List X → List X = λ xs. xs ++ x ∷ [] in
    let last : X → List X = λ y. map first (range_with_len 0 n) ++ y ∷ [] in
    more ∙ ap with_one so_far ∙ ap last is ∙ sym e

-- ---- the first world

abbrev pub first_server_at : Plan → ℕ → GrownServerState
first_server_at plan n = first_grown_server plan (record { 0 = n })

pub is_first :
    (plan : Plan) (count : ℕ) (p : Parts) → p.servers.items ≡ map (first_server_at plan) (range_with_len 0 plan.program.shards) → p.coords.items ≡ map first_grown_coord (range_with_len 0 count)
    → p.network ≡ record { sent = []; undelivered = [] } → p.history ≡ [] → p.order ≡ [] → p.looks.items ≡ [] → world_of p ≡ first_grown_world plan count
is_first plan count p servers coords network history order looks = λ i. record {
  servers = servers i;
  coords = coords i;
  sent = (network i).sent;
  undelivered = (network i).undelivered;
  history = history i;
  order = order i;
  looks = map looked (looks i);
}
