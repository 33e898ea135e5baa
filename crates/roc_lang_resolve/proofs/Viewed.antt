-- The pieces of a view without faults of scope only read
use Rattle.std.proofs.Common.{◌≡◌, Bool, true, false, ℕ, List, [], ◌∷◌, ◌++◌, map, refl, subst}
use Rattle.std.specs.List.{AllByRecursion}
use Rattle.roc_lang.specs.Syntax as syntax
use Rattle.roc_lang.specs.Syntax.{Name, Table, Statement, Piece}
use Rattle.roc_lang.specs.Scope.{Fault, Bound, Within, viewed, bound_by, bound_after, access_faults, value_faults, statement_faults, statements_faults, pieces_faults}
use Rattle.roc_program.specs.WellFormed.{IsRead, ReadsOnly}
use Rattle.roc_lang_resolve.specs.Resolve as resolve
use Rattle.roc_lang_resolve.proofs.Scoped.{front_none, back_none, first_none}

-- where a view has no fault, nothing wrong stands there
not_wrong : (is_wrong : Bool) (piece : Name) (line : ℕ) → viewed is_wrong piece line ≡ [] → is_wrong ≡ false
not_wrong true piece line none = cc
not_wrong false piece line none = refl

abbrev within : Name → Within
within piece = record { is_view = true; piece = piece }

body_reads : (tables : List Table) (names : List (List ℕ)) (piece : Name) (bound : Bound) (body : List Statement)
    → statements_faults tables (within piece) bound body ≡ [] → AllByRecursion IsRead (map (resolve.statement tables names) body)
body_reads tables names piece bound [] none = tt
body_reads tables names piece bound (s ∷ rest) none =
    let here : List Fault = statement_faults tables (within piece) bound s in
    let after : Bound = record bound { own = bound.own ++ bound_by s } in
    let behind : List Fault = statements_faults tables (within piece) after rest in
    (reads s (front_none here behind none), body_reads tables names piece after rest (back_none here behind none))
  where
    reads : (s : Statement) → statement_faults tables (within piece) bound s ≡ [] → IsRead (resolve.statement tables names s)
    reads (syntax.Get name from) none = tt
    reads (syntax.Set line to value) none =
        let view : List Fault = viewed true piece line in
        let front = front_none (view ++ access_faults tables bound to) (value_faults bound value) none in
        let wrong = not_wrong true piece line (front_none view (access_faults tables bound to) front) in
        absurd cc
    reads (syntax.Out value) none = tt

pieces_read : (tables : List Table) (names : List (List ℕ)) (earlier : List Name) (bound : Bound) (ps : List Piece)
    → pieces_faults tables true earlier bound ps ≡ [] → AllByRecursion ReadsOnly (map (resolve.piece tables names) ps)
pieces_read tables names earlier bound [] none = tt
pieces_read tables names earlier bound (p ∷ ps) none =
    let clear = first_none tables true earlier bound p ps none in (
      record { later = not_wrong p.is_now p.name p.class_line clear.view; body = body_reads tables names p.name bound p.body clear.body },
      pieces_read tables names (earlier ++ p.name ∷ []) (bound_after bound p) ps clear.others,
    )

pub view_reads : (tables : List Table) (names : List (List ℕ)) (earlier : List Name) (bound : Bound) (ps : List Piece) (is_view : Bool)
    → pieces_faults tables is_view earlier bound ps ≡ [] → is_view ≡ true → AllByRecursion ReadsOnly (map (resolve.piece tables names) ps)
view_reads tables names earlier bound ps is_view none is =
    let P : Bool → Type 0 = λ b. pieces_faults tables b earlier bound ps ≡ [] in
    pieces_read tables names earlier bound ps (subst P is none)
