use Rattle.std.proofs.Common.{◌≡◌, ◌∙◌, ◌==◌, ℕ, List, [], map, get_or, sym, ap}
use Rattle.std.specs.List.{position_or_len}
use Rattle.roc_program.specs.Names.{has_name}
use Rattle.roc_program.proofs.Firsts.{position_or_len-map}
use Rattle.roc_plan_make.specs.Inner.Built.{source_by}
use Rattle.roc_plan_make.proofs.replies.source_of.Goals as goal

sourced : (bounds : List (List ℕ)) (name group at : ℕ) → group ≡ position_or_len (λ row. has_name row name) bounds → at ≡ position_or_len (λ m. m == name) (get_or bounds group [])
    → record { group = group; at = at } ≡ source_by bounds name
sourced bounds name group at e f =
    let g : at ≡ position_or_len (λ m. m == name) (get_or bounds (position_or_len (λ row. has_name row name) bounds) []) = f ∙ ap (λ k. position_or_len (λ m. m == name) (get_or bounds k [])) e in
    λ i. record { group = e i; at = g i }

pub returns : goal.returns
returns c =
    sourced (map (λ row. row.items) c.args.bounds.now) c.args.name c.binder_of-group.result c.place_at-at.result
    (c.binder_of-group.ensures.place ∙ sym (position_or_len-map (λ row. has_name row c.args.name) (λ row. row.items) c.args.bounds.now)) c.place_at-at.ensures.place
