-- Names that are in scope are known to the program
use Rattle.std.proofs.Common.{◌≡◌, ◌∙◌, ℕ, suc, ◌+◌, ◌<◌, Bool, true, false, not, ◌||◌, ◌==◌, List, [], ◌∷◌, ◌++◌, length, map, ◌&&◌, cond, get_or, Some, refl, sym, ap, subst, inl, inr, arith, append-nil}
use Rattle.std.proofs.lemmas.Bool.{eqb-true, eq-eqb, or_cases, or_left, or_right}
use Rattle.std.proofs.lemmas.List.{length-map}
use Rattle.std.proofs.lemmas.List.Folds.{list_any-append, list_any_at}
use Rattle.std.proofs.lemmas.List.FromFn.{length-range_with_len, get_or-range_with_len}
use Rattle.std.proofs.lemmas.Slice.Eq.{bytes_eq-Decides}
use Rattle.std.specs.List.{AllByRecursion, flat_map, range_with_len}
use Rattle.std.specs.Str.{bytes_eq}
use Rattle.roc_lang_scope.proofs.Names.{among-append}
use Rattle.roc_lang.specs.Syntax as syntax
use Rattle.roc_lang.specs.Syntax.{Name, Table, Access, Statement, Piece}
use Rattle.roc_lang.specs.Scope.{Fault, Unknown, LaterUsed, SamePieceKey, Unbound, Arity, Bound, Within, viewed, bound_after, piece_faults, pieces_faults, fault_at, is_among, use_faults, names_of, key_faults, value_faults, table_named, table_faults, column_faults, arity_faults, access_faults, bound_by, statement_faults, statements_faults, repeated}
use Rattle.roc_lang.specs.Limits.{AreWords, AreStatementWords}
use Rattle.roc_program.specs.Names.{has_name}
use Rattle.roc_program.specs.WellFormed.{IsOver, IsColumn, IsKnownAccess, IsBody}
use Rattle.roc_lang_resolve.specs.Resolve as resolve
use Rattle.roc_lang_resolve.specs.Resolve.{texts, number_in}

-- ---- lists of faults

pub front_none : {X : Type 0} (xs ys : List X) → xs ++ ys ≡ [] → xs ≡ []
front_none [] ys e = refl
front_none (x ∷ xs) ys e = cc

pub back_none : {X : Type 0} (xs ys : List X) → xs ++ ys ≡ [] → ys ≡ []
back_none [] ys e = e
back_none (x ∷ xs) ys e = cc

pub each_none : {X Y : Type 0} (f : X → List Y) (xs : List X) → flat_map f xs ≡ [] → AllByRecursion (λ x. f x ≡ []) xs
each_none f [] e = tt
each_none f (x ∷ xs) e = (front_none (f x) (flat_map f xs) e, each_none f xs (back_none (f x) (flat_map f xs) e))

-- ---- numbers of names

-- the number of a name, where these are all names of its procedure
abbrev pub number_of : List Name → Name → ℕ
number_of all name = number_in (texts all) name.text

same_bytes : (text : List ℕ) → bytes_eq text text ≡ true
same_bytes text = (bytes_eq-Decides text text).1 refl

or_rest : (x y : Bool) → (x || y) ≡ true → x ≡ false → y ≡ true
or_rest true y e f = cc
or_rest false y e f = e

known_step : (b : Bool) (m k : ℕ) → (b ≡ false → m < k) → cond (not b) (1 + m) 0 < k + 1
known_step true m k later = omega arith
known_step false m k later = let below : m < k = later refl in omega arith

-- a name that is declared has a number below the count of what was declared so far
number_known : (earlier later : List Name) (name : Name) → is_among earlier name ≡ true → number_of (earlier ++ later) name < length earlier
number_known [] later name e = cc
number_known (n ∷ ns) later name e =
    let below : number_in (texts (n ∷ ns ++ later)) name.text < length ns + 1 =
    known_step (bytes_eq n.text name.text) (number_in (texts (ns ++ later)) name.text) (length ns)
    (λ f. number_known ns later name (or_rest (bytes_eq n.text name.text) (is_among ns name) e f)) in
    omega arith

pub number_within : (all earlier later : List Name) (name : Name) → all ≡ earlier ++ later → is_among earlier name ≡ true → number_of all name < length earlier
number_within all earlier later name e known = rw e (number_known earlier later name known)

-- ---- known names

-- the numbers of these names are known
abbrev pub Knows : (all names : List Name) → List ℕ → Type 0
Knows all names numbers = (name : Name) → is_among names name ≡ true → has_name numbers (number_of all name) ≡ true

pub knows_none : (all : List Name) → Knows all [] []
knows_none all name h = h

has_itself : (all : List Name) (y : Name) (name : Name) → bytes_eq y.text name.text ≡ true → (number_of all y == number_of all name) ≡ true
has_itself all y name e = eq-eqb (number_of all y) (number_of all name) (ap (number_in (texts all)) ((bytes_eq-Decides y.text name.text).0 e))

pub knows_these : (all ys : List Name) → Knows all ys (map (number_of all) ys)
knows_these all [] name h = h
knows_these all (y ∷ ys) name h =
    let here : Bool = number_of all y == number_of all name in
    let behind : Bool = has_name (map (number_of all) ys) (number_of all name) in
    elim (or_cases (bytes_eq y.text name.text) (is_among ys name) h) [
      | inl e ↦ or_left here behind (has_itself all y name e)
      | inr e ↦ or_right here behind (knows_these all ys name e)
    ]

pub knows_both : (all xs ys : List Name) (ms ns : List ℕ) → Knows all xs ms → Knows all ys ns → Knows all (xs ++ ys) (ms ++ ns)
knows_both all xs ys ms ns k l name h =
    let n : ℕ = number_of all name in
    list_any-append (λ m. m == n) ms ns
    ∙ elim (or_cases (is_among xs name) (is_among ys name) (sym (among-append xs ys name) ∙ h)) [
      | inl e ↦ or_left (has_name ms n) (has_name ns n) (k name e)
      | inr e ↦ or_right (has_name ms n) (has_name ns n) (l name e)
    ]

has_below : (count n : ℕ) → n < count → has_name (range_with_len 0 count) n ≡ true
has_below count n below =
    let at : get_or (range_with_len 0 count) n n ≡ n = get_or-range_with_len 0 count n n below ∙ omega arith in
    list_any_at (λ m. m == n) (range_with_len 0 count) n n (subst (λ m. n < m) (sym (length-range_with_len 0 count)) below) (eq-eqb (get_or (range_with_len 0 count) n n) n at)

-- the first names have the first numbers
pub knows_first : (all first later : List Name) → all ≡ first ++ later → Knows all first (range_with_len 0 (length first))
knows_first all first later is name h = has_below (length first) (number_of all name) (number_within all first later name is h)

-- ---- names that are used

-- a key is an argument, or bound in an earlier now piece
use_key : (bound : Bound) (name : Name) → use_faults bound true name ≡ [] → is_among bound.known name ≡ true
use_key bound name e = go (is_among bound.known name) (is_among bound.own name) (is_among bound.past name) e
  where
    go : (a b c : Bool) → cond a [] (cond b (cond true (fault_at name SamePieceKey) []) (cond c (fault_at name LaterUsed) (fault_at name Unbound))) ≡ [] → a ≡ true
    go true b c e = refl
    go false true c e = cc
    go false false true e = cc
    go false false false e = cc

-- a value may be bound in this piece too
use_value : (bound : Bound) (name : Name) → use_faults bound false name ≡ [] → is_among (bound.known ++ bound.own) name ≡ true
use_value bound name e = among-append bound.known bound.own name ∙ go (is_among bound.known name) (is_among bound.own name) (is_among bound.past name) e
  where
    go : (a b c : Bool) → cond a [] (cond b (cond false (fault_at name SamePieceKey) []) (cond c (fault_at name LaterUsed) (fault_at name Unbound))) ≡ [] → (a || b) ≡ true
    go true b c e = refl
    go false true c e = refl
    go false false true e = cc
    go false false false e = cc

-- ---- expressions

all_front : {X : Type 0} (P : X → Type 0) (xs ys : List X) → AllByRecursion P (xs ++ ys) → AllByRecursion P xs
all_front P [] ys all = tt
all_front P (x ∷ xs) ys all = (all.0, all_front P xs ys all.1)

all_back : {X : Type 0} (P : X → Type 0) (xs ys : List X) → AllByRecursion P (xs ++ ys) → AllByRecursion P ys
all_back P [] ys all = all
all_back P (x ∷ xs) ys all = all_back P xs ys all.1

all_so : {X : Type 0} (P Q : X → Type 0) (xs : List X) → ((x : X) → P x → Q x) → AllByRecursion P xs → AllByRecursion Q xs
all_so P Q [] so all = tt
all_so P Q (x ∷ xs) so all = (so x all.0, all_so P Q xs so all.1)

abbrev IsKnown : List (List ℕ) → List ℕ → Name → Type 0
IsKnown names known name = has_name known (number_in names name.text) ≡ true

expression_over : (names : List (List ℕ)) (k : List ℕ) (e : syntax.Expression) → AreWords e → AllByRecursion (IsKnown names k) (names_of e) → IsOver k (resolve.expression names e)
expression_over names k (syntax.Number n) words all = words
expression_over names k (syntax.Variable name) words all = all.0
expression_over names k (syntax.Sum a b) words all =
    (expression_over names k a words.0 (all_front (IsKnown names k) (names_of a) (names_of b) all), expression_over names k b words.1 (all_back (IsKnown names k) (names_of a) (names_of b) all))
expression_over names k (syntax.Difference a b) words all =
    (expression_over names k a words.0 (all_front (IsKnown names k) (names_of a) (names_of b) all), expression_over names k b words.1 (all_back (IsKnown names k) (names_of a) (names_of b) all))
expression_over names k (syntax.Product a b) words all =
    (expression_over names k a words.0 (all_front (IsKnown names k) (names_of a) (names_of b) all), expression_over names k b words.1 (all_back (IsKnown names k) (names_of a) (names_of b) all))
expression_over names k (syntax.Minimum a b) words all =
    (expression_over names k a words.0 (all_front (IsKnown names k) (names_of a) (names_of b) all), expression_over names k b words.1 (all_back (IsKnown names k) (names_of a) (names_of b) all))
expression_over names k (syntax.Maximum a b) words all =
    (expression_over names k a words.0 (all_front (IsKnown names k) (names_of a) (names_of b) all), expression_over names k b words.1 (all_back (IsKnown names k) (names_of a) (names_of b) all))
expression_over names k (syntax.Less a b) words all =
    (expression_over names k a words.0 (all_front (IsKnown names k) (names_of a) (names_of b) all), expression_over names k b words.1 (all_back (IsKnown names k) (names_of a) (names_of b) all))
expression_over names k (syntax.Pick c a b) words all =
    let front = all_front (IsKnown names k) (names_of c ++ names_of a) (names_of b) all in (
      expression_over names k c words.0 (all_front (IsKnown names k) (names_of c) (names_of a) front),
      expression_over names k a words.1 (all_back (IsKnown names k) (names_of c) (names_of a) front),
      expression_over names k b words.2 (all_back (IsKnown names k) (names_of c ++ names_of a) (names_of b) all),
    )

-- an integer of an id or a place is over the known names
pub key_over : (all : List Name) (bound : Bound) (known : List ℕ) (e : syntax.Expression) → Knows all bound.known known → AreWords e → key_faults bound e ≡ [] → IsOver known (resolve.expression (texts all) e)
key_over all bound known e knows words none =
    expression_over (texts all) known e words
    (all_so (λ n. use_faults bound true n ≡ []) (IsKnown (texts all) known) (names_of e) (λ n h. knows n (use_key bound n h)) (each_none (use_faults bound true) (names_of e) none))

-- a value is over those and the names that its piece bound so far
pub value_over : (all : List Name) (bound : Bound) (known own : List ℕ) (e : syntax.Expression) → Knows all bound.known known → Knows all bound.own own → AreWords e → value_faults bound e ≡ [] → IsOver (known ++ own) (resolve.expression (texts all) e)
value_over all bound known own e knows owns words none =
    expression_over (texts all) (known ++ own) e words
    (all_so (λ n. use_faults bound false n ≡ []) (IsKnown (texts all) (known ++ own)) (names_of e)
    (λ n h. knows_both all bound.known bound.own known own knows owns n (use_value bound n h))
    (each_none (use_faults bound false) (names_of e) none))

pub keys_over : (all : List Name) (bound : Bound) (known : List ℕ) (es : List syntax.Expression) → Knows all bound.known known → AllByRecursion AreWords es → AllByRecursion (λ e. key_faults bound e ≡ []) es
    → AllByRecursion (IsOver known) (map (resolve.expression (texts all)) es)
keys_over all bound known [] knows words none = tt
keys_over all bound known (e ∷ es) knows words none = (key_over all bound known e knows words.0 none.0, keys_over all bound known es knows words.1 none.1)

-- ---- columns

column_below : (columns : List Name) (c : Name) → column_faults (Some (record { name = c; arity = 0; columns = columns })) c ≡ [] → number_in (texts columns) c.text < length columns
column_below columns c e = number_within columns columns [] c (sym (append-nil columns)) (go (is_among columns c) e)
  where
    go : (b : Bool) → cond b [] (fault_at c Unknown) ≡ [] → b ≡ true
    go true e = refl
    go false e = cc

arity_same : (t : Table) (name : Name) (count line : ℕ) → arity_faults (Some t) name count line ≡ [] → count ≡ t.arity
arity_same t name count line e = eqb-true count t.arity (go (count == t.arity) e)
  where
    go : (b : Bool) → cond b [] (let fault : Fault = record { kind = Arity name.text; line = line } in fault ∷ []) ≡ [] → b ≡ true
    go true e = refl
    go false e = cc

-- a cell's table and column are declared, with so many integers
pub has_column : (tables : List Table) (t c : Name) (count line : ℕ) → table_faults (table_named tables t) t ≡ [] → arity_faults (table_named tables t) t count line ≡ [] → column_faults (table_named tables t) c ≡ []
    → IsColumn (map resolve.table tables) (resolve.table_number tables t) count (resolve.column_number tables t c)
has_column [] t c count line e a f = cc
has_column (x ∷ xs) t c count line e a f = step (bytes_eq x.name.text t.text) e a f (has_column xs t c count line)
  where
    step : (b : Bool) → table_faults (cond b (Some x) (table_named xs t)) t ≡ [] → arity_faults (cond b (Some x) (table_named xs t)) t count line ≡ [] → column_faults (cond b (Some x) (table_named xs t)) c ≡ []
        → (table_faults (table_named xs t) t ≡ [] → arity_faults (table_named xs t) t count line ≡ [] → column_faults (table_named xs t) c ≡ []
        → IsColumn (map resolve.table xs) (resolve.table_number xs t) count (resolve.column_number xs t c))
        → IsColumn (resolve.table x ∷ map resolve.table xs) (cond (not b) (1 + resolve.table_number xs t) 0) count
        (number_in (get_or (texts x.columns ∷ map (λ t. texts t.columns) xs) (cond (not b) (1 + resolve.table_number xs t) 0) []) c.text)
    step true e a f rest = record { has_table = omega arith; arity = arity_same x t count line a; has_column = rw (length-map x.columns (λ n. n.text)) (column_below x.columns c f) }
    step false e a f rest =
        let has : IsColumn (map resolve.table xs) (resolve.table_number xs t) count (resolve.column_number xs t c) = rest e a f in
        let n : ℕ = resolve.table_number xs t in
        let next : suc n ≡ 1 + n = omega arith in
        let P : ℕ → Type 0 = λ m. IsColumn (resolve.table x ∷ map resolve.table xs) m count (number_in (get_or (texts x.columns ∷ map (λ t. texts t.columns) xs) m []) c.text) in
        subst P next (record { has_table = omega (arith, has.has_table); arity = has.arity; has_column = has.has_column })

access_over : (tables : List Table) (all : List Name) (bound : Bound) (known : List ℕ) (a : Access) → Knows all bound.known known → AllByRecursion AreWords a.id → access_faults tables bound a ≡ []
    → IsKnownAccess (map resolve.table tables) known (resolve.access tables (texts all) a)
access_over tables all bound known a knows words none =
    let table : List Fault = table_faults (table_named tables a.table) a.table in
    let ids : List Fault = flat_map (key_faults bound) a.id in
    let arity : List Fault = arity_faults (table_named tables a.table) a.table (length a.id) a.id_line in
    let column : List Fault = column_faults (table_named tables a.table) a.column in
    let front = front_none (table ++ ids ++ arity) column none in
    let first = front_none (table ++ ids) arity front in
    let P : ℕ → Type 0 = λ n. IsColumn (map resolve.table tables) (resolve.table_number tables a.table) n (resolve.column_number tables a.table a.column) in
    record {
      column =
          subst P (sym (length-map a.id (resolve.expression (texts all))))
          (has_column tables a.table a.column (length a.id) a.id_line (front_none table ids first) (back_none (table ++ ids) arity front) (back_none (table ++ ids ++ arity) column none));
      id = keys_over all bound known a.id knows words (each_none (key_faults bound) a.id (back_none table ids first));
    }

-- ---- statements

-- the statements of a piece without faults
pub body_over : (tables : List Table) (within : Within) (all : List Name) (bound : Bound) (known own : List ℕ) (body : List Statement)
    → Knows all bound.known known → Knows all bound.own own → AllByRecursion AreStatementWords body → statements_faults tables within bound body ≡ []
    → IsBody (map resolve.table tables) known own (map (resolve.statement tables (texts all)) body)
body_over tables within all bound known own [] knows owns words none = tt
body_over tables within all bound known own (s ∷ rest) knows owns words none =
    with_first s words.0
    (front_none (statement_faults tables within bound s) (statements_faults tables within (after s) rest) none)
    (λ more owns. body_over tables within all (after s) known more rest knows owns words.1 (back_none (statement_faults tables within bound s) (statements_faults tables within (after s) rest) none))
  where
    after : Statement → Bound
    after s = record bound { own = bound.own ++ bound_by s }

    Rest : List ℕ → Type 0
    Rest own = IsBody (map resolve.table tables) known own (map (resolve.statement tables (texts all)) rest)

    same_own : Knows all (bound.own ++ []) own
    same_own = let P : List Name → Type 0 = λ names. Knows all names own in subst P (sym (append-nil bound.own)) owns

    with_first : (s : Statement) → AreStatementWords s → statement_faults tables within bound s ≡ []
        → ((more : List ℕ) → Knows all (bound.own ++ bound_by s) more → Rest more)
        → IsBody (map resolve.table tables) known own (map (resolve.statement tables (texts all)) (s ∷ rest))
    with_first (syntax.Get name from) words none go = (
      access_over tables all bound known from knows words (back_none (repeated (bound.known ++ bound.own ++ bound.past) name) (access_faults tables bound from) none),
      go (own ++ number_of all name ∷ []) (knows_both all bound.own (name ∷ []) own (number_of all name ∷ []) owns (knows_these all (name ∷ []))),
    )
    with_first (syntax.Set line to value) words none go =
        let view : List Fault = viewed within.is_view within.piece line in
        let cell : List Fault = access_faults tables bound to in (
          access_over tables all bound known to knows words.0 (back_none view cell (front_none (view ++ cell) (value_faults bound value) none)),
          value_over all bound known own value knows owns words.1 (back_none (view ++ cell) (value_faults bound value) none),
          go own same_own,
        )
    with_first (syntax.Out value) words none go = (value_over all bound known own value knows owns words none, go own same_own)

-- ---- pieces

-- what has no fault where pieces have none: each part of the first piece, and the pieces behind it
pub record FirstNone (tables : List Table) (is_view : Bool) (earlier : List Name) (bound : Bound) (p : Piece) (ps : List Piece) : Type 0 where
  pub view : viewed (is_view && p.is_now) p.name p.class_line ≡ []
  pub place : key_faults bound p.place ≡ []
  pub body : statements_faults tables (record { is_view = is_view; piece = p.name }) bound p.body ≡ []
  pub others : pieces_faults tables is_view (earlier ++ p.name ∷ []) (bound_after bound p) ps ≡ []

pub first_none : (tables : List Table) (is_view : Bool) (earlier : List Name) (bound : Bound) (p : Piece) (ps : List Piece)
    → pieces_faults tables is_view earlier bound (p ∷ ps) ≡ [] → FirstNone tables is_view earlier bound p ps
first_none tables is_view earlier bound p ps none =
    let view : List Fault = viewed (is_view && p.is_now) p.name p.class_line in
    let again : List Fault = repeated earlier p.name in
    let here : List Fault = piece_faults tables is_view bound p in
    let others : List Fault = pieces_faults tables is_view (earlier ++ p.name ∷ []) (bound_after bound p) ps in
    let key : List Fault = key_faults bound p.place in
    let body : List Fault = statements_faults tables (record { is_view = is_view; piece = p.name }) bound p.body in
    let front = front_none (view ++ again ++ here) others none in
    let inside = back_none (view ++ again) here front in
    record {
      view = front_none view again (front_none (view ++ again) here front);
      place = front_none key body inside;
      body = back_none key body inside;
      others = back_none (view ++ again ++ here) others none;
    }
