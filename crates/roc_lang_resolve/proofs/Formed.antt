-- The program of a tree within the limits and without faults of scope is well formed
use Rattle.std.proofs.Common.{◌≡◌, ◌∙◌, ℕ, ◌≤◌, Bool, true, false, ◌&&◌, List, [], ◌∷◌, ◌++◌, length, map, cond, nat_le, refl, sym, ap, subst, arith, length-append}
use Rattle.std.proofs.lemmas.List.{length-map}
use Rattle.std.proofs.lemmas.Bool.{leb-true}
use Rattle.std.specs.List.{AllByRecursion, flat_map, range_with_len}
use Rattle.roc_lang.specs.Grammar.{standard}
use Rattle.roc_lang.specs.Limits.{IsSmallTable, IsSmallProcedure, ArePieceWords, AreInitWords, IsWithinLimits}
use Rattle.roc_lang.specs.Scope.{Shards, Fault, Bound, Within, bound_by, bound_after, repeated, repeats, key_faults, statements_faults, pieces_faults, procedures_faults, shards_faults, tables_faults, table_named, table_faults, column_faults, arity_faults, init_faults, faults}
use Rattle.roc_lang.specs.Syntax.{Name, Table, Init, Piece, Procedure, Tree}
use Rattle.roc_lang.specs.declared.limits.TheConstants.{SHARDS}
use Rattle.roc_program.specs.Names.{bindings_of, bindings}
use Rattle.roc_program.specs.WellFormed.{IsTable, IsPiece, known_behind, ArePieces, IsProcedure, IsInit, IsProgram}
use Rattle.roc_lang_resolve.specs.Resolve as resolve
use Rattle.roc_lang_resolve.specs.Resolve.{texts, resolved}
use Rattle.roc_lang_resolve.proofs.Numbered.{body_bindings, names_bound, pieces_bindings, pieces_numbers}
use Rattle.roc_lang_resolve.proofs.Scoped.{front_none, back_none, each_none, number_of, Knows, knows_none, knows_these, knows_both, knows_first, key_over, has_column, body_over, first_none}
use Rattle.roc_lang_resolve.proofs.Viewed.{view_reads}

-- ---- pieces

-- before the first piece
abbrev first_bound : List Name → Bound
first_bound arguments = record { known = arguments; own = []; past = [] }

-- what is known behind a piece
knows_behind : (tables : List Table) (all : List Name) (bound : Bound) (known : List ℕ) (p : Piece) → Knows all bound.known known
    → Knows all (bound_after bound p).known (known_behind known (resolve.piece tables (texts all) p))
knows_behind tables all bound known p knows = go p.is_now
  where
    own : List Name
    own = flat_map bound_by p.body

    numbers : List ℕ
    numbers = bindings_of (resolve.piece tables (texts all) p)

    go : (b : Bool) → Knows all (cond b (let after : Bound = record { known = bound.known ++ own; own = []; past = bound.past } in after) (record { known = bound.known; own = []; past = bound.past ++ own })).known (cond b (known ++ numbers) known)
    go true =
        let P : List ℕ → Type 0 = λ ns. Knows all (bound.known ++ own) (known ++ ns) in
        subst P (sym (body_bindings tables all p.body)) (knows_both all bound.known own known (map (number_of all) own) knows (knows_these all own))
    go false = knows

after_none : (bound : Bound) (p : Piece) → (bound_after bound p).own ≡ []
after_none bound p = go p.is_now
  where
    go : (b : Bool) → (cond b (let after : Bound = record { known = bound.known ++ flat_map bound_by p.body; own = []; past = bound.past } in after) (record { known = bound.known; own = []; past = bound.past ++ flat_map bound_by p.body })).own ≡ []
    go true = refl
    go false = refl

one_formed : (tables : List Table) (within : Within) (all : List Name) (bound : Bound) (known : List ℕ) (p : Piece) → bound.own ≡ [] → Knows all bound.known known → length p.body ≤ standard.statements → ArePieceWords p
    → key_faults bound p.place ≡ [] → statements_faults tables within bound p.body ≡ [] → IsPiece (map resolve.table tables) known (resolve.piece tables (texts all) p)
one_formed tables within all bound known p own knows few words key body =
    let P : List Name → Type 0 = λ names. Knows all names [] in
    record {
      statements = omega (arith, length-map p.body (resolve.statement tables (texts all)));
      place = key_over all bound known p.place knows words.place key;
      body = body_over tables within all bound known [] p.body knows (subst P (sym own) (knows_none all)) words.body body;
    }

pieces_formed : (tables : List Table) (is_view : Bool) (all earlier : List Name) (bound : Bound) (known : List ℕ) (ps : List Piece) → bound.own ≡ [] → Knows all bound.known known
    → AllByRecursion (λ piece. length piece.body ≤ standard.statements) ps → AllByRecursion ArePieceWords ps → pieces_faults tables is_view earlier bound ps ≡ []
    → ArePieces (map resolve.table tables) known (map (resolve.piece tables (texts all)) ps)
pieces_formed tables is_view all earlier bound known [] own knows few words none = tt
pieces_formed tables is_view all earlier bound known (p ∷ ps) own knows few words none =
    let clear = first_none tables is_view earlier bound p ps none in (
      one_formed tables (record { is_view = is_view; piece = p.name }) all bound known p own knows few.0 words.0 clear.place clear.body,
      pieces_formed tables is_view all (earlier ++ p.name ∷ []) (bound_after bound p) (known_behind known (resolve.piece tables (texts all) p)) ps (after_none bound p) (knows_behind tables all bound known p knows) few.1 words.1 clear.others,
    )

-- ---- procedures

procedure_formed : (tables : List Table) (p : Procedure) → IsSmallProcedure p → AllByRecursion ArePieceWords p.pieces → pieces_faults tables p.is_view [] (first_bound p.arguments) p.pieces ≡ []
    → IsProcedure (map resolve.table tables) (resolve.procedure tables p)
procedure_formed tables p small words none =
    let bound = names_bound p.pieces in
    let all = p.arguments ++ bound in
    let numbers = bindings (map (resolve.piece tables (texts all)) p.pieces) in
    let as_numbers : numbers ≡ map (number_of all) bound = pieces_bindings tables all p.pieces in
    let count : length numbers ≡ length bound = ap (λ (ns : List ℕ). length ns) as_numbers ∙ length-map bound (number_of all) in
    record {
      arguments = small.arguments;
      names = omega (arith, count, length-map all (λ n. n.text), length-append p.arguments bound);
      numbers =
          as_numbers ∙ pieces_numbers tables p.is_view all [] (first_bound p.arguments) p.arguments p.pieces refl (λ name h k. h) refl none
          ∙ ap (λ n. range_with_len (length p.arguments) n) (sym count);
      labels = refl;
      some_piece = omega (arith, small.some_piece, length-map p.pieces (resolve.piece tables (texts all)));
      few_pieces = omega (arith, small.pieces, length-map p.pieces (resolve.piece tables (texts all)));
      pieces = pieces_formed tables p.is_view all [] (first_bound p.arguments) (range_with_len 0 (length p.arguments)) p.pieces refl (knows_first all p.arguments bound refl) small.statements words none;
      viewed = view_reads tables (texts all) [] (first_bound p.arguments) p.pieces p.is_view none;
    }

-- ---- trees

each_procedure : (tables : List Table) (earlier : List Name) (ps : List Procedure) → AllByRecursion IsSmallProcedure ps → AllByRecursion (λ p. AllByRecursion ArePieceWords p.pieces) ps → procedures_faults tables earlier ps ≡ []
    → AllByRecursion (IsProcedure (map resolve.table tables)) (map (resolve.procedure tables) ps)
each_procedure tables earlier [] small words none = tt
each_procedure tables earlier (p ∷ ps) small words none =
    let front = front_none (repeated earlier p.name ++ repeats [] p.arguments ++ pieces_faults tables p.is_view [] (first_bound p.arguments) p.pieces) (procedures_faults tables (earlier ++ p.name ∷ []) ps) none in
    let rest = back_none (repeated earlier p.name ++ repeats [] p.arguments ++ pieces_faults tables p.is_view [] (first_bound p.arguments) p.pieces) (procedures_faults tables (earlier ++ p.name ∷ []) ps) none in (
      procedure_formed tables p small.0 words.0 (back_none (repeated earlier p.name ++ repeats [] p.arguments) (pieces_faults tables p.is_view [] (first_bound p.arguments) p.pieces) front),
      each_procedure tables (earlier ++ p.name ∷ []) ps small.1 words.1 rest,
    )

each_init : (tables : List Table) (inits : List Init) → AllByRecursion AreInitWords inits → AllByRecursion (λ i. init_faults tables i ≡ []) inits → AllByRecursion (IsInit (map resolve.table tables)) (map (resolve.init tables) inits)
each_init tables [] words none = tt
each_init tables (i ∷ is) words none =
    let table : List Fault = table_faults (table_named tables i.table) i.table in
    let arity : List Fault = arity_faults (table_named tables i.table) i.table (length i.id) i.id_line in
    let column : List Fault = column_faults (table_named tables i.table) i.column in
    let front = front_none (table ++ arity) column none.0 in
    let has = has_column tables i.table i.column (length i.id) i.id_line (front_none table arity front) (back_none table arity front) (back_none (table ++ arity) column none.0) in
    (record { column = has; place = words.0.place; id = words.0.id; value = words.0.value }, each_init tables is words.1 none.1)

each_table : (tables : List Table) → AllByRecursion IsSmallTable tables → AllByRecursion IsTable (map resolve.table tables)
each_table [] small = tt
each_table (t ∷ ts) small =
    (record { some_integer = small.0.some_integer; arity = small.0.arity; columns = omega (arith, small.0.columns, length-map t.columns (λ n. n.text)) }, each_table ts small.1)

-- there is a shard, and there are not too many
pub some_shards : (t : Tree) → shards_faults t ≡ [] → (1 ≤ t.shards) × (t.shards ≤ SHARDS)
some_shards t none = go (nat_le 1 t.shards) (nat_le t.shards SHARDS) refl refl none
  where
    go : (a b : Bool) → nat_le 1 t.shards ≡ a → nat_le t.shards SHARDS ≡ b → cond (a && b) [] (let fault : Fault = record { kind = Shards; line = t.shards_line } in fault ∷ []) ≡ [] → (1 ≤ t.shards) × (t.shards ≤ SHARDS)
    go true true e f none = (leb-true 1 t.shards e, leb-true t.shards SHARDS f)
    go true false e f none = cc
    go false b e f none = cc

pub program_formed : (t : Tree) → IsWithinLimits t → faults t ≡ [] → IsProgram (resolved t)
program_formed t within none =
    let procedures = procedures_faults t.tables [] t.procedures in
    let inits = flat_map (init_faults t.tables) t.inits in
    let front = front_none (shards_faults t ++ tables_faults [] t.tables ++ inits) procedures none in
    let some = some_shards t (front_none (shards_faults t) (tables_faults [] t.tables) (front_none (shards_faults t ++ tables_faults [] t.tables) inits front)) in
    record {
      some_shard = omega (arith, some.0);
      few_shards = some.1;
      few_tables = omega (arith, within.counts.tables.few, length-map t.tables resolve.table);
      tables = each_table t.tables within.counts.tables.small;
      few_inits = omega (arith, within.counts.inits, length-map t.inits (resolve.init t.tables));
      inits = each_init t.tables t.inits within.inits (each_none (init_faults t.tables) t.inits (back_none (shards_faults t ++ tables_faults [] t.tables) inits front));
      few_procedures = omega (arith, within.counts.few_procedures, length-map t.procedures (resolve.procedure t.tables));
      procedures = each_procedure t.tables [] t.procedures within.counts.procedures within.pieces (back_none (shards_faults t ++ tables_faults [] t.tables ++ inits) procedures none);
    }
