-- The names of a procedure have numbers in the order in which they are bound
use Rattle.std.proofs.Common.{◌≡◌, ◌∙◌, ℕ, zero, suc, ◌+◌, Bool, true, false, not, ◌||◌, List, [], ◌∷◌, ◌++◌, length, map, cond, refl, sym, ap, subst, arith, length-append, append_assoc, append-nil}
use Rattle.std.proofs.lemmas.List.{map-append}
use Rattle.std.proofs.lemmas.Slice.Eq.{bytes_eq-Decides}
use Rattle.std.specs.List.{flat_map, filter_map, range_with_len}
use Rattle.std.specs.Str.{bytes_eq}
use Rattle.std.proofs.lemmas.Bool.{or_from, or_parts}
use Rattle.roc_lang_scope.proofs.Names.{among-append}
use Rattle.roc_lang.specs.Syntax as syntax
use Rattle.roc_lang.specs.Syntax.{Name, Table, Statement, Piece}
use Rattle.roc_lang.specs.Scope.{Twice, Bound, Within, fault_at, is_among, bound_by, bound_after, repeated, access_faults, statement_faults, statements_faults, pieces_faults}
use Rattle.roc_program.specs.Names.{binding, bindings}
use Rattle.roc_lang_resolve.specs.Resolve as resolve
use Rattle.roc_lang_resolve.specs.Resolve.{texts, number_in}
use Rattle.roc_lang_resolve.proofs.Scoped.{front_none, back_none, number_of, first_none}

-- ---- what the resolved pieces bind

joined : {X : Type 0} {xs xs' ys ys' : List X} → xs ≡ xs' → ys ≡ ys' → xs ++ ys ≡ xs' ++ ys'
joined e f = cc

pub body_bindings : (tables : List Table) (all : List Name) (body : List Statement) → filter_map binding (map (resolve.statement tables (texts all)) body) ≡ map (number_of all) (flat_map bound_by body)
body_bindings tables all [] = refl
body_bindings tables all (syntax.Get name from ∷ rest) = ap (λ ns. number_of all name ∷ ns) (body_bindings tables all rest)
body_bindings tables all (syntax.Set line to value ∷ rest) = body_bindings tables all rest
body_bindings tables all (syntax.Out value ∷ rest) = body_bindings tables all rest

abbrev pub names_bound : List Piece → List Name
names_bound pieces = flat_map (λ p. flat_map bound_by p.body) pieces

pub pieces_bindings : (tables : List Table) (all : List Name) (pieces : List Piece) → bindings (map (resolve.piece tables (texts all)) pieces) ≡ map (number_of all) (names_bound pieces)
pieces_bindings tables all [] = refl
pieces_bindings tables all (p ∷ ps) =
    joined (body_bindings tables all p.body) (pieces_bindings tables all ps) ∙ sym (map-append (number_of all) (flat_map bound_by p.body) (names_bound ps))

-- ---- new names

same_bytes : (text : List ℕ) → bytes_eq text text ≡ true
same_bytes text = (bytes_eq-Decides text text).1 refl

new_step : (b : Bool) (m k : ℕ) → b ≡ false → m ≡ k → cond (not b) (1 + m) 0 ≡ k + 1
new_step true m k e f = cc
new_step false m k e f = omega arith

number_new : (earlier later : List Name) (name : Name) → is_among earlier name ≡ false → number_in (texts (earlier ++ name ∷ later)) name.text ≡ length earlier
number_new [] later name e = rw (same_bytes name.text)
number_new (n ∷ ns) later name e =
    let none = or_parts (bytes_eq n.text name.text) (is_among ns name) e in
    let next : number_in (texts (n ∷ ns ++ name ∷ later)) name.text ≡ length ns + 1 =
    new_step (bytes_eq n.text name.text) (number_in (texts (ns ++ name ∷ later)) name.text) (length ns) none.0 (number_new ns later name none.1) in
    omega arith

-- a new name has the number of names before it
number_next : (all earlier later : List Name) (name : Name) → all ≡ earlier ++ name ∷ later → is_among earlier name ≡ false → number_of all name ≡ length earlier
number_next all earlier later name e new = rw e (number_new earlier later name new)

pub is_new : (earlier : List Name) (name : Name) → repeated earlier name ≡ [] → is_among earlier name ≡ false
is_new earlier name e = go (is_among earlier name) e
  where
    go : (b : Bool) → cond b (fault_at name Twice) [] ≡ [] → b ≡ false
    go true e = cc
    go false e = refl

-- among the names before a piece is none that is or_parts known nor bound in an earlier later piece
abbrev pub HasNoOther : Bound → (before : List Name) → Type 0
HasNoOther bound before = (name : Name) → is_among bound.known name ≡ false → is_among bound.past name ≡ false → is_among before name ≡ false

-- what is new is in none of the parts
is_new_here : (bound : Bound) (before : List Name) (name : Name) → HasNoOther bound before → repeated (bound.known ++ bound.own ++ bound.past) name ≡ [] → is_among (before ++ bound.own) name ≡ false
is_new_here bound before name so e =
    let none : (is_among (bound.known ++ bound.own) name || is_among bound.past name) ≡ false =
    sym (among-append (bound.known ++ bound.own) bound.past name) ∙ is_new (bound.known ++ bound.own ++ bound.past) name e in
    let parts = or_parts (is_among (bound.known ++ bound.own) name) (is_among bound.past name) none in
    let front : (is_among bound.known name || is_among bound.own name) ≡ false = sym (among-append bound.known bound.own name) ∙ parts.0 in
    let each = or_parts (is_among bound.known name) (is_among bound.own name) front in
    among-append before bound.own name ∙ or_from (is_among before name) (is_among bound.own name) (so name each.0 parts.1) each.1

-- ---- numbers in a row

range-append : (from m n : ℕ) → range_with_len from m ++ range_with_len (from + m) n ≡ range_with_len from (m + n)
range-append from zero n =
    let e : from + 0 ≡ from = omega arith in
    let z : n ≡ 0 + n = omega arith in
    ap (λ a. range_with_len a n) e ∙ ap (λ k. range_with_len from k) z
range-append from (suc m) n =
    let e : from + suc m ≡ from + 1 + m = omega arith in
    let z : suc (m + n) ≡ suc m + n = omega arith in
    ap (λ a. from ∷ (range_with_len (from + 1) m ++ range_with_len a n)) e ∙ ap (λ r. from ∷ r) (range-append (from + 1) m n) ∙ ap (λ k. range_with_len from k) z

regrouped : (k o b f : List Name) → (k ++ o) ++ (b ++ f) ≡ (k ++ (o ++ b)) ++ f
regrouped k o b f = simp append_assoc

-- the names of a piece without faults
body_numbers : (tables : List Table) (within : Within) (all : List Name) (bound : Bound) (before later : List Name) (body : List Statement)
    → HasNoOther bound before → all ≡ (before ++ bound.own) ++ (flat_map bound_by body ++ later) → statements_faults tables within bound body ≡ []
    → map (number_of all) (flat_map bound_by body) ≡ range_with_len (length (before ++ bound.own)) (length (flat_map bound_by body))
body_numbers tables within all bound before later [] so is none = refl
body_numbers tables within all bound before later (s ∷ rest) so is none =
    with_first s
    (is ∙ ap (λ xs. (before ++ bound.own) ++ xs) (append_assoc (bound_by s) (flat_map bound_by rest) later))
    (front_none (statement_faults tables within bound s) (statements_faults tables within (after s) rest) none)
    (λ e. body_numbers tables within all (after s) before later rest so e (back_none (statement_faults tables within bound s) (statements_faults tables within (after s) rest) none))
  where
    after : Statement → Bound
    after s = record bound { own = bound.own ++ bound_by s }

    Numbers : ℕ → List Name → Type 0
    Numbers from names = map (number_of all) names ≡ range_with_len from (length names)

    with_first : (s : Statement)
        → all ≡ (before ++ bound.own) ++ (bound_by s ++ (flat_map bound_by rest ++ later))
        → statement_faults tables within bound s ≡ []
        → (all ≡ (before ++ (bound.own ++ bound_by s)) ++ (flat_map bound_by rest ++ later) → Numbers (length (before ++ (bound.own ++ bound_by s))) (flat_map bound_by rest))
        → Numbers (length (before ++ bound.own)) (bound_by s ++ flat_map bound_by rest)
    with_first (syntax.Get name from) is none go =
        let tail = flat_map bound_by rest ++ later in
        let new = is_new_here bound before name so (front_none (repeated (bound.known ++ bound.own ++ bound.past) name) (access_faults tables bound from) none) in
        let here : number_of all name ≡ length (before ++ bound.own) = number_next all (before ++ bound.own) tail name is new in
        let grouped : before ++ (bound.own ++ name ∷ []) ≡ (before ++ bound.own) ++ name ∷ [] = sym (append_assoc before bound.own (name ∷ [])) in
        let count : length (before ++ (bound.own ++ name ∷ [])) ≡ length (before ++ bound.own) + 1 = ap (λ (names : List Name). length names) grouped ∙ length-append (before ++ bound.own) (name ∷ []) in
        let P : ℕ → Type 0 = λ n. Numbers n (flat_map bound_by rest) in
        let behind : Numbers (length (before ++ bound.own) + 1) (flat_map bound_by rest) = subst P count (go (is ∙ regrouped before bound.own (name ∷ []) tail)) in
        ap (λ n. n ∷ map (number_of all) (flat_map bound_by rest)) here ∙ ap (λ ns. length (before ++ bound.own) ∷ ns) behind
    with_first (syntax.Set line to value) is none go = unchanged go is
      where
        unchanged : (all ≡ (before ++ (bound.own ++ [])) ++ (flat_map bound_by rest ++ later) → Numbers (length (before ++ (bound.own ++ []))) (flat_map bound_by rest))
            → all ≡ (before ++ bound.own) ++ (flat_map bound_by rest ++ later)
            → Numbers (length (before ++ bound.own)) (flat_map bound_by rest)
        unchanged go is =
            let P : List Name → Type 0 = λ own. (all ≡ (before ++ own) ++ (flat_map bound_by rest ++ later) → Numbers (length (before ++ own)) (flat_map bound_by rest)) in
            subst P (append-nil bound.own) go is
    with_first (syntax.Out value) is none go = unchanged go is
      where
        unchanged : (all ≡ (before ++ (bound.own ++ [])) ++ (flat_map bound_by rest ++ later) → Numbers (length (before ++ (bound.own ++ []))) (flat_map bound_by rest))
            → all ≡ (before ++ bound.own) ++ (flat_map bound_by rest ++ later)
            → Numbers (length (before ++ bound.own)) (flat_map bound_by rest)
        unchanged go is =
            let P : List Name → Type 0 = λ own. (all ≡ (before ++ own) ++ (flat_map bound_by rest ++ later) → Numbers (length (before ++ own)) (flat_map bound_by rest)) in
            subst P (append-nil bound.own) go is

-- ---- from piece to piece

-- a piece leaves its names behind
next_other : (bound : Bound) (before : List Name) (p : Piece) → HasNoOther bound before → HasNoOther (bound_after bound p) (before ++ flat_map bound_by p.body)
next_other bound before p so = go p.is_now
  where
    own : List Name
    own = flat_map bound_by p.body

    after : Bool → Bound
    after b = cond b (record { known = bound.known ++ own; own = []; past = bound.past }) (record { known = bound.known; own = []; past = bound.past ++ own })

    in_both : (name : Name) → is_among bound.known name ≡ false → is_among bound.past name ≡ false → is_among own name ≡ false → is_among (before ++ own) name ≡ false
    in_both name k l m = among-append before own name ∙ or_from (is_among before name) (is_among own name) (so name k l) m

    go : (b : Bool) → HasNoOther (after b) (before ++ own)
    go true name h k =
        let parts = or_parts (is_among bound.known name) (is_among own name) (sym (among-append bound.known own name) ∙ h) in
        in_both name parts.0 k parts.1
    go false name h k =
        let parts = or_parts (is_among bound.past name) (is_among own name) (sym (among-append bound.past own name) ∙ k) in
        in_both name h parts.0 parts.1

after_none : (bound : Bound) (p : Piece) → (bound_after bound p).own ≡ []
after_none bound p = go p.is_now
  where
    go : (b : Bool) → (cond b (let after : Bound = record { known = bound.known ++ flat_map bound_by p.body; own = []; past = bound.past } in after) (record { known = bound.known; own = []; past = bound.past ++ flat_map bound_by p.body })).own ≡ []
    go true = refl
    go false = refl

-- the names that pieces without faults bind
pub pieces_numbers : (tables : List Table) (is_view : Bool) (all earlier : List Name) (bound : Bound) (before : List Name) (ps : List Piece)
    → bound.own ≡ [] → HasNoOther bound before → all ≡ before ++ names_bound ps → pieces_faults tables is_view earlier bound ps ≡ []
    → map (number_of all) (names_bound ps) ≡ range_with_len (length before) (length (names_bound ps))
pieces_numbers tables is_view all earlier bound before [] own so is none = refl
pieces_numbers tables is_view all earlier bound before (p ∷ ps) own so is none =
    let here = flat_map bound_by p.body in
    let clear = first_none tables is_view earlier bound p ps none in
    let start : before ++ bound.own ≡ before = ap (λ names. before ++ names) own ∙ append-nil before in
    let P : List Name → Type 0 = λ names. map (number_of all) here ≡ range_with_len (length names) (length here) in
    let first : map (number_of all) here ≡ range_with_len (length before) (length here) =
    subst P start (body_numbers tables (record { is_view = is_view; piece = p.name }) all bound before (names_bound ps) p.body so (is ∙ ap (λ names. names ++ (here ++ names_bound ps)) (sym start)) clear.body) in
    let behind = pieces_numbers tables is_view all (earlier ++ p.name ∷ []) (bound_after bound p) (before ++ here) ps (after_none bound p) (next_other bound before p so) (is ∙ sym (append_assoc before here (names_bound ps))) clear.others in
    map-append (number_of all) here (names_bound ps)
    ∙ joined first (behind ∙ ap (λ n. range_with_len n (length (names_bound ps))) (length-append before here))
    ∙ range-append (length before) (length here) (length (names_bound ps))
    ∙ ap (λ n. range_with_len (length before) n) (sym (length-append here (names_bound ps)))
