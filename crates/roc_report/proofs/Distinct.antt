-- A tree in scope gives a program whose names tell its parts apart.
use Rattle.std.proofs.Common.{◌≡◌, ℕ, zero, suc, ◌<◌, false, List, [], ◌∷◌, ◌++◌, length, map, refl, sym, ap, subst, ◌∙◌, inl, arith}
use Rattle.std.specs.Prelude.{slice_index_or}
use Rattle.std.specs.List.{AllByRecursion}
use Rattle.std.specs.Str.{bytes_eq}
use Rattle.std.proofs.lemmas.Bool.{true≢false}
use Rattle.std.proofs.lemmas.List.{length-map}
use Rattle.std.proofs.lemmas.Slice.Eq.{bytes_eq-Decides}
use Rattle.roc_sequence.specs.Lists.{Has}
use Rattle.roc_sequence.proofs.Holds.{has_any}
use Rattle.roc_sequence.proofs.Members.{has_left, has_right}
use Rattle.roc_lang.specs.Syntax.{Name, Table, Procedure, Tree}
use Rattle.roc_lang.specs.Tokens.{IsWord}
use Rattle.roc_lang.specs.Scope.{is_among, repeated, repeats, tables_faults, procedures_faults, shards_faults, faults}
use Rattle.roc_program.specs.LookUps.{no_procedure, table_at}
use Rattle.roc_lang_resolve.specs.Resolve.{texts, table, procedure, resolved}
use Rattle.roc_lang_resolve.proofs.Numbered.{is_new}
use Rattle.roc_lang_resolve.proofs.Scoped.{front_none, back_none}
use Rattle.roc_report.specs.Names.{IsWordName, HasWords}
use Rattle.roc_report.specs.ReportLine.{AreNames, HasNames}

-- ---- no faults

-- no name stands among those before it
abbrev AreFresh : List Name → List Name → Type 0
AreFresh earlier [] = Unit {0}
AreFresh earlier (n ∷ ns) = (is_among earlier n ≡ false) × AreFresh (earlier ++ n ∷ []) ns

fresh_names : (earlier names : List Name) → repeats earlier names ≡ [] → AreFresh earlier names
fresh_names earlier [] e = tt
fresh_names earlier (n ∷ ns) e =
    (is_new earlier n (front_none (repeated earlier n) (repeats (earlier ++ n ∷ []) ns) e), fresh_names (earlier ++ n ∷ []) ns (back_none (repeated earlier n) (repeats (earlier ++ n ∷ []) ns) e))

abbrev procedure_names : List Procedure → List Name
procedure_names ps = map (λ p. p.name) ps

abbrev table_names : List Table → List Name
table_names ts = map (λ t. t.name) ts

fresh_procedures : (tables : List Table) (earlier : List Name) (ps : List Procedure) → procedures_faults tables earlier ps ≡ [] → AreFresh earlier (procedure_names ps)
fresh_procedures tables earlier [] e = tt
fresh_procedures tables earlier (p ∷ ps) e =
    let others = procedures_faults tables (earlier ++ p.name ∷ []) ps in
    let front = front_none _ others e in
    (is_new earlier p.name (front_none _ _ (front_none _ _ front)), fresh_procedures tables (earlier ++ p.name ∷ []) ps (back_none _ others e))

fresh_tables : (earlier : List Name) (ts : List Table) → tables_faults earlier ts ≡ [] → AreFresh earlier (table_names ts) × AllByRecursion (λ (t : Table). AreFresh [] t.columns) ts
fresh_tables earlier [] e = (tt, tt)
fresh_tables earlier (t ∷ ts) e =
    let others = tables_faults (earlier ++ t.name ∷ []) ts in
    let front = front_none _ others e in
    let rest = fresh_tables (earlier ++ t.name ∷ []) ts (back_none _ others e) in
    ((is_new earlier t.name (front_none _ _ front), rest.0), (fresh_names [] t.columns (back_none _ _ front), rest.1))

-- ---- names by number

-- the text of the name at a place, empty where there is none
abbrev text_at : List Name → ℕ → List ℕ
text_at [] i = []
text_at (n ∷ ns) zero = n.text
text_at (n ∷ ns) (suc i) = text_at ns i

word_at : (ns : List Name) (i : ℕ) → AllByRecursion IsWordName ns → i < length ns → IsWord (text_at ns i)
word_at [] i all h = absurd (omega arith)
word_at (n ∷ ns) zero all h = all.0
word_at (n ∷ ns) (suc i) all h = word_at ns i all.1 (omega arith)

-- what stands before a fresh name has another text
other_text : (earlier ns : List Name) (i : ℕ) (e : Name) → AreFresh earlier ns → i < length ns → Has e earlier → e.text ≡ text_at ns i → ⊥
other_text earlier [] i e fresh h has same = absurd (omega arith)
other_text earlier (n ∷ ns) zero e fresh h has same =
    true≢false (sym (has_any (λ (m : Name). bytes_eq m.text n.text) earlier e has ((bytes_eq-Decides e.text n.text).1 same)) ∙ fresh.0)
other_text earlier (n ∷ ns) (suc i) e fresh h has same = other_text (earlier ++ n ∷ []) ns i e fresh.1 (omega arith) (has_left e earlier (n ∷ []) has) same

once : (earlier ns : List Name) (i j : ℕ) → AreFresh earlier ns → i < length ns → j < length ns → text_at ns i ≡ text_at ns j → i ≡ j
once earlier [] i j fresh h k same = absurd (omega arith)
once earlier (n ∷ ns) zero zero fresh h k same = refl
once earlier (n ∷ ns) zero (suc j) fresh h k same = absurd (other_text (earlier ++ n ∷ []) ns j n fresh.1 (omega arith) (has_right n earlier (n ∷ []) (inl refl)) same)
once earlier (n ∷ ns) (suc i) zero fresh h k same = absurd (other_text (earlier ++ n ∷ []) ns i n fresh.1 (omega arith) (has_right n earlier (n ∷ []) (inl refl)) (sym same))
once earlier (n ∷ ns) (suc i) (suc j) fresh h k same = ap suc (once (earlier ++ n ∷ []) ns i j fresh.1 (omega arith) (omega arith) same)

are_names : (ns : List Name) (count : ℕ) (name : ℕ → List ℕ) → count ≡ length ns → ((i : ℕ) → name i ≡ text_at ns i) → AllByRecursion IsWordName ns → AreFresh [] ns → AreNames count name
are_names ns count name counted is words fresh = record {
  words = λ n h. subst IsWord (sym (is n)) (word_at ns n words (omega arith));
  once = λ n m h k same. once [] ns n m fresh (omega arith) (omega arith) (sym (is n) ∙ same ∙ is m);
}

-- ---- the parts of a program

procedure_at : (tables : List Table) (ps : List Procedure) (i : ℕ) → (slice_index_or (map (procedure tables) ps) i no_procedure).name ≡ text_at (procedure_names ps) i
procedure_at tables [] i = refl
procedure_at tables (p ∷ ps) zero = refl
procedure_at tables (p ∷ ps) (suc i) = procedure_at tables ps i

name_of_table : (ts : List Table) (i : ℕ) → (table_at (map table ts) i).name ≡ text_at (table_names ts) i
name_of_table [] i = refl
name_of_table (t ∷ ts) zero = refl
name_of_table (t ∷ ts) (suc i) = name_of_table ts i

name_in : (ns : List Name) (i : ℕ) → slice_index_or (texts ns) i [] ≡ text_at ns i
name_in [] i = refl
name_in (n ∷ ns) zero = refl
name_in (n ∷ ns) (suc i) = name_in ns i

columns_at : (ts : List Table) (i : ℕ) → i < length ts → AllByRecursion (λ (t : Table). AllByRecursion IsWordName t.columns) ts → AllByRecursion (λ (t : Table). AreFresh [] t.columns) ts
    → AreNames (length (table_at (map table ts) i).columns) (λ c. slice_index_or (table_at (map table ts) i).columns c [])
columns_at [] i h words fresh = absurd (omega arith)
columns_at (t ∷ ts) zero h words fresh = are_names t.columns _ _ (length-map t.columns (λ (n : Name). n.text)) (name_in t.columns) words.0 fresh.0
columns_at (t ∷ ts) (suc i) h words fresh = columns_at ts i (omega arith) words.1 fresh.1

all_names : {A : Type 0} (name : A → Name) (xs : List A) → AllByRecursion (λ x. IsWordName (name x)) xs → AllByRecursion IsWordName (map name xs)
all_names name [] all = tt
all_names name (x ∷ xs) all = (all.0, all_names name xs all.1)

pub has_names : (t : Tree) → HasWords t → faults t ≡ [] → HasNames (resolved t)
has_names t words e =
    let procedures = back_none _ (procedures_faults t.tables [] t.procedures) e in
    let tables = back_none (shards_faults t) (tables_faults [] t.tables) (front_none _ _ (front_none _ _ e)) in
    let fresh = fresh_tables [] t.tables tables in
    let count : length (map table t.tables) ≡ length t.tables = length-map t.tables table in
    record {
      procedures = are_names (procedure_names t.procedures) _ _ (length-map t.procedures (procedure t.tables) ∙ sym (length-map t.procedures (λ (p : Procedure). p.name))) (procedure_at t.tables t.procedures) (all_names (λ (p : Procedure). p.name) t.procedures words.procedures) (fresh_procedures t.tables [] t.procedures procedures);
      tables = are_names (table_names t.tables) _ _ (count ∙ sym (length-map t.tables (λ (t : Table). t.name))) (name_of_table t.tables) (all_names (λ (t : Table). t.name) t.tables words.tables) fresh.0;
      columns = λ i h. columns_at t.tables i (omega (arith, count)) words.columns fresh.1;
    }
