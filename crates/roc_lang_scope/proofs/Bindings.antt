-- Names that pieces bind, one piece behind another.
use Rattle.std.proofs.Common.{◌≡◌, ℕ, zero, suc, ◌<◌, true, false, ◌||◌, List, [], ◌∷◌, length, get_or, map, cond, sym, ap, ◌∙◌, arith}
use Rattle.std.specs.List.{flat_map}
use Rattle.std.proofs.lemmas.List.Concat.{flat_map-cons}
use Rattle.roc_lang.specs.Syntax.{Name, Piece}
use Rattle.roc_lang.specs.Scope.{is_among, bound_by}
use Rattle.roc_lang_scope.proofs.Names.{or_true, among-append}
use Rattle.roc_lang_scope.specs.Inner.Before.{now_by, later_by}

-- what is among the names of one element is among those of all
pub among_at : {A B : Type 0} (view : A → B) (f : B → List Name) (name : Name) (xs : List A) (i : ℕ) (x : A) → i < length xs → x ≡ get_or xs i x → is_among (f (view x)) name ≡ true
    → is_among (flat_map f (map view xs)) name ≡ true
among_at view f name [] i x below is among = absurd (omega arith)
among_at view f name (y ∷ ys) zero x below is among =
    ap (λ zs. is_among zs name) (flat_map-cons f (view y) (map view ys)) ∙ among-append (f (view y)) (flat_map f (map view ys)) name
    ∙ ap (λ b. b || is_among (flat_map f (map view ys)) name) (ap (λ z. is_among (f (view z)) name) (sym is) ∙ among)
among_at view f name (y ∷ ys) (suc i) x below is among =
    ap (λ zs. is_among zs name) (flat_map-cons f (view y) (map view ys)) ∙ among-append (f (view y)) (flat_map f (map view ys)) name
    ∙ ap (λ b. is_among (f (view y)) name || b) (among_at view f name ys i x (omega arith) is among) ∙ or_true (is_among (f (view y)) name)

pub among_now : (p : Piece) (name : Name) → p.is_now ≡ true → is_among (flat_map bound_by p.body) name ≡ true → is_among (now_by p) name ≡ true
among_now p name e among = ap (λ b. is_among (cond b (flat_map bound_by p.body) []) name) e ∙ among

pub among_later : (p : Piece) (name : Name) → p.is_now ≡ false → is_among (flat_map bound_by p.body) name ≡ true → is_among (later_by p) name ≡ true
among_later p name e among = ap (λ b. is_among (cond b [] (flat_map bound_by p.body)) name) e ∙ among
