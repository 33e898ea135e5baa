-- What pieces of the code use, as what pieces of the program do
use Rattle.std.proofs.Common.{◌≡◌, Bool, false, ◌||◌, List, [], ◌∷◌, map, refl, sym, ap, subst, ◌∙◌}
use Rattle.std.specs.List.{list_any, filter_map}
use Rattle.roc_sequence.proofs.Holds.{any_seen}
use Rattle.roc_program.specs.Program as pure
use Rattle.roc_program.specs.Program.{Get, Set, Out}
use Rattle.roc_program.specs.Names.{piece_uses, binding}
use Rattle.roc_merge_accept.specs.Inner.Uses.{is_bound_for}

bound_for : (user : pure.Piece) (body : List pure.Statement) → list_any (is_bound_for user) body ≡ list_any (piece_uses user) (filter_map binding body)
bound_for user [] = refl
bound_for user (Get number from ∷ rest) = ap (λ b. piece_uses user number || b) (bound_for user rest)
bound_for user (Set to value ∷ rest) = bound_for user rest
bound_for user (Out value ∷ rest) = bound_for user rest

pub bound_by_code : {A : Type 0} (user other : pure.Piece) (source : pure.Piece) (seen : A → pure.Statement) (body : List A) (r : Bool) → user ≡ other → map seen body ≡ source.body
    → r ≡ list_any (λ s. is_bound_for user (seen s)) body → r ≡ list_any (piece_uses other) (filter_map binding source.body)
bound_by_code user other source seen body r same read h =
    h ∙ sym (any_seen (is_bound_for user) seen body) ∙ ap (list_any (is_bound_for user)) read ∙ bound_for user source.body
    ∙ ap (λ (u : pure.Piece). list_any (piece_uses u) (filter_map binding source.body)) same

-- of two tests, where the first fails
pub second_of : (first second one r : Bool) → one ≡ false → one ≡ first → r ≡ second → r ≡ (first || second)
second_of first second one r fails is h = subst (λ v. r ≡ (v || second)) (sym fails ∙ is) h
