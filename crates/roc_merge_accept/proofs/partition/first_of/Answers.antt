use Rattle.std.proofs.Common.{◌≡◌, ◌∙◌, ℕ, ◌<◌, ◌∷◌, List, [], length, get_or, sym, ap, arith}
use Rattle.roc_merge_accept.proofs.Each.{here, of_each}
use Rattle.roc_merge_accept.proofs.partition.first_of.Goals as goal

first_read : (xs : List ℕ) (x : ℕ) → 0 < length xs → x ≡ get_or xs 0 x → x ≡ get_or xs 0 0
first_read [] x l e = absurd (omega arith)
first_read (y ∷ ys) x l e = e

pub index-requires : goal.index-requires
index-requires c =
    let some : 0 < length c.index-groups-at.result.items = of_each (λ g. 0 < length g) (λ g. g.items) c.args.groups.now c.args.at c.index-groups-at.result c.requires.at c.index-groups-at.is c.requires.some in
    omega (arith, some)

pub returns : goal.returns
returns c =
    let some = of_each (λ g. 0 < length g) (λ g. g.items) c.args.groups.now c.args.at c.index-groups-at.result c.requires.at c.index-groups-at.is c.requires.some in
    first_read c.index-groups-at.result.items c.index.result.now some c.index.ensures
    ∙ ap (λ (g : List ℕ). get_or g 0 0) (sym (here (λ g. 0 < length g) (λ g. g.items) c.args.groups.now c.args.at c.index-groups-at.result c.requires.at c.index-groups-at.is))
