-- Statements that collide, of the code and of the program that it holds
use Rattle.std.proofs.Common.{◌≡◌, Bool, ◌||◌, List, [], ◌∷◌, map, refl, sym, ap, ◌∙◌}
use Rattle.std.specs.List.{list_any}
use Rattle.roc_sequence.proofs.Holds.{any_seen}
use Rattle.roc_program.specs.declared.parts.Statement.{Statement}
use Rattle.roc_program.specs.Program as pure
use Rattle.roc_program.specs.Conflict.{collide}
use Rattle.roc_program.specs.Parts as view

somewhere : (xs ys : List Statement) → list_any (λ s. list_any (collide s) (map view.statement ys)) (map view.statement xs)
    ≡ list_any (λ one. list_any (λ other. collide (view.statement one) (view.statement other)) ys) xs
somewhere [] ys = refl
somewhere (x ∷ xs) ys =
    ap (λ b. b || list_any (λ s. list_any (collide s) (map view.statement ys)) (map view.statement xs)) (any_seen (collide (view.statement x)) view.statement ys)
    ∙ ap (λ b. list_any (λ other. collide (view.statement x) (view.statement other)) ys || b) (somewhere xs ys)

-- the bodies of two pieces
pub between : (ss ts : List pure.Statement) (xs ys : List Statement) (r : Bool) → map view.statement xs ≡ ss → map view.statement ys ≡ ts
    → r ≡ list_any (λ one. list_any (λ other. collide (view.statement one) (view.statement other)) ys) xs
    → r ≡ list_any (λ s. list_any (collide s) ts) ss
between ss ts xs ys r e f h =
    h ∙ (sym (somewhere xs ys) ∙ (ap (λ us. list_any (λ s. list_any (collide s) us) (map view.statement xs)) f ∙ ap (λ us. list_any (λ s. list_any (collide s) ts) us) e))
