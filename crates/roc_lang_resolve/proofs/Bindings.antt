-- The names that the code's tree binds, part by part
use Rattle.std.proofs.Common.{◌≡◌, ◌∙◌, ℕ, ◌+◌, ◌<◌, List, [], ◌∷◌, ◌++◌, length, get_or, take, map, refl, ap, sym, append-nil, append_assoc}
use Rattle.std.proofs.lemmas.List.{map-append, take_more}
use Rattle.std.proofs.lemmas.List.Concat.{flat_map-append}
use Rattle.std.specs.List.{flat_map}
use Rattle.std.specs.String.{string_bytes}
use Rattle.roc_lang.specs.declared.syntax.Name as source
use Rattle.roc_lang.specs.declared.syntax.Statement as source_statement
use Rattle.roc_lang.specs.declared.syntax.Piece as source_piece
use Rattle.roc_lang.specs.declared.syntax.Procedure as source_procedure
use Rattle.roc_lang.specs.Scope.{bound_by}
use Rattle.roc_lang.specs.Tree.{name_tree, statement_tree, piece_tree, procedure_tree}
use Rattle.roc_lang_resolve.specs.Resolve.{texts, names_of}

-- of statements, of pieces
abbrev pub body_names : List source_statement.Statement → List (List ℕ)
body_names body = flat_map (λ s. texts (bound_by (statement_tree s))) body

abbrev pub pieces_names : List source_piece.Piece → List (List ℕ)
pieces_names pieces = flat_map (λ p. body_names p.body.items) pieces

abbrev pub argument_names : List source.Name → List (List ℕ)
argument_names arguments = map (λ a. string_bytes a.text) arguments

of_arguments : (names : List source.Name) → texts (map name_tree names) ≡ argument_names names
of_arguments [] = refl
of_arguments (n ∷ ns) = ap (λ rest. string_bytes n.text ∷ rest) (of_arguments ns)

joined : {X : Type 0} {xs xs' ys ys' : List X} → xs ≡ xs' → ys ≡ ys' → xs ++ ys ≡ xs' ++ ys'
joined e f = cc

of_body : (body : List source_statement.Statement) → texts (flat_map bound_by (map statement_tree body)) ≡ body_names body
of_body [] = refl
of_body (s ∷ ss) =
    map-append (λ n. n.text) (bound_by (statement_tree s)) (flat_map bound_by (map statement_tree ss))
    ∙ ap (λ rest. texts (bound_by (statement_tree s)) ++ rest) (of_body ss)

of_pieces : (pieces : List source_piece.Piece) → texts (flat_map (λ piece. flat_map bound_by piece.body) (map piece_tree pieces)) ≡ pieces_names pieces
of_pieces [] = refl
of_pieces (p ∷ ps) =
    map-append (λ n. n.text) (flat_map bound_by (map statement_tree p.body.items)) (flat_map (λ piece. flat_map bound_by piece.body) (map piece_tree ps))
    ∙ joined (of_body p.body.items) (of_pieces ps)

pub names_of-tree : (p : source_procedure.Procedure) → names_of (procedure_tree p) ≡ argument_names p.arguments.items ++ pieces_names p.pieces.items
names_of-tree p =
    map-append (λ n. n.text) (map name_tree p.arguments.items) (flat_map (λ piece. flat_map bound_by piece.body) (map piece_tree p.pieces.items))
    ∙ joined (of_arguments p.arguments.items) (of_pieces p.pieces.items)

-- one more name was added
pub name_pushed : {A B C : Type 0} (f : A → B) (now : C → B) (xs : List A) (i : ℕ) (x : A) (y : C) (ys zs : List C) → i < length xs → x ≡ get_or xs i x → now y ≡ f x → zs ≡ ys ++ y ∷ []
    → map now ys ≡ map f (take i xs) → map now zs ≡ map f (take (i + 1) xs)
name_pushed {A} {B} f now xs i x y ys zs within is same pushed so_far =
    let behind : List B → List B = λ us. us ++ now y ∷ [] in
    let last : B → List B = λ v. map f (take i xs) ++ v ∷ [] in
    let with_last : A → List B = λ v. map f (take i xs) ++ f v ∷ [] in
    ap (map now) pushed ∙ map-append now ys (y ∷ []) ∙ ap behind so_far ∙ ap last same ∙ ap with_last is
    ∙ sym (map-append f (take i xs) (get_or xs i x ∷ [])) ∙ ap (map f) (sym (take_more xs i x within))

-- the names of one more piece were added
pub names_pushed : (pieces : List source_piece.Piece) (i : ℕ) (p : source_piece.Piece) (first before after : List (List ℕ)) → i < length pieces → p ≡ get_or pieces i p → after ≡ before ++ body_names p.body.items
    → before ≡ first ++ pieces_names (take i pieces) → after ≡ first ++ pieces_names (take (i + 1) pieces)
names_pushed pieces i p first before after within is pushed so_far =
    let behind : List (List ℕ) → List (List ℕ) = λ us. us ++ body_names p.body.items in
    let add : List (List ℕ) → List (List ℕ) = λ us. first ++ us in
    let with_last : source_piece.Piece → List (List ℕ) = λ v. first ++ pieces_names (take i pieces ++ v ∷ []) in
    let piece_names : source_piece.Piece → List (List ℕ) = λ v. body_names v.body.items in
    let so_far_names : List (List ℕ) → List (List ℕ) = λ us. first ++ (pieces_names (take i pieces) ++ us) in
    let all_names : List source_piece.Piece → List (List ℕ) = λ ps. first ++ pieces_names ps in
    pushed ∙ ap behind so_far ∙ append_assoc first (pieces_names (take i pieces)) (body_names p.body.items)
    ∙ ap so_far_names (sym (append-nil (body_names p.body.items))) ∙ ap add (sym (flat_map-append piece_names (take i pieces) (p ∷ [])))
    ∙ ap with_last is ∙ ap all_names (sym (take_more pieces i p within))
