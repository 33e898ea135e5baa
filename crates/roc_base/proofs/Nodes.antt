-- The tests of shards and nodes decide equality
use Rattle.std.proofs.Common.{◌≡◌, ℕ, true, refl, ap, subst}
use Rattle.std.proofs.lemmas.Bool.{eqb-true, eq-eqb, false≢true}
use Rattle.std.specs.Bool.{Decides}
use Rattle.roc_base.specs.declared.node.Shard.{Shard}
use Rattle.roc_base.specs.declared.node.Node.{Node}
use Rattle.roc_base.specs.declared.node.Node.TheVariants.{Server, Coord}
use Rattle.roc_base.specs.Node.{is_shard, is_node}

pub Decides-is_shard : (a b : Shard) → Decides (is_shard a b) (a ≡ b)
Decides-is_shard a b =
    let shard : ℕ → Shard = λ n. record { 0 = n } in
    (λ h. ap shard (eqb-true a.0 b.0 h), λ e. eq-eqb a.0 b.0 (ap (λ s. s.0) e))

is_node-same : (a : Node) → is_node a a ≡ true
is_node-same (Server a) = eq-eqb a.0 a.0 refl
is_node-same (Coord a) = eq-eqb a a refl

is_node-true : (a b : Node) → is_node a b ≡ true → a ≡ b
is_node-true (Server a) (Server b) h = ap (λ s. Server s) ((Decides-is_shard a b).0 h)
is_node-true (Server a) (Coord b) h = absurd (false≢true h)
is_node-true (Coord a) (Server b) h = absurd (false≢true h)
is_node-true (Coord a) (Coord b) h = ap (λ n. Coord n) (eqb-true a b h)

pub Decides-is_node : (a b : Node) → Decides (is_node a b) (a ≡ b)
Decides-is_node a b = (is_node-true a b, λ e. subst (λ x. is_node a x ≡ true) e (is_node-same a))
