-- What a run does follows from the numbers in the cells that it reads, and it changes only cells that it writes
use Rattle.std.proofs.Common.{◌≡◌, ℤ, Bool, true, false, ◌&&◌, ◌||◌, if◌then◌else◌, List, [], ◌∷◌, ◌++◌, slice_set, refl, sym, ap, subst, ◌∙◌}
use Rattle.std.proofs.lemmas.Bool.{false≢true, or_parts}
use Rattle.roc_rows.specs.declared.cell.Cell.{Cell}
use Rattle.roc_rows.specs.Cells.{is_cell}
use Rattle.roc_rows.specs.Store.{Store, read, write}
use Rattle.roc_rows.proofs.Stored.{read-write}
use Rattle.roc_program.specs.Program.{Statement, Get, Set, Out, Piece}
use Rattle.roc_program.specs.Values.{Environment, value}
use Rattle.roc_whole.specs.Run.{Progress, progress, access_cell, after_statement, after_statements, after_piece, after_pieces}
use Rattle.roc_group.specs.declared.access.Access.{Access}
use Rattle.roc_group.specs.Accesses.{access, uses_of_body, uses_of_piece, uses_of_pieces, do_write, AgreeOnReads, RunAlike}

-- stores that agree in a cell still agree there after the same write
write-agree : (s t : Store) (c : Cell) (v : ℤ) (d : Cell) → read s d ≡ read t d → read (write s c v) d ≡ read (write t c v) d
write-agree s t c v d h = read-write s c v d ∙ ap (λ x. if is_cell c d then v else x) h ∙ sym (read-write t c v d)

-- and agree in the cell that is written
write-same : (s t : Store) (c : Cell) (v : ℤ) (d : Cell) → is_cell c d ≡ true → read (write s c v) d ≡ read (write t c v) d
write-same s t c v d h = (read-write s c v d ∙ ap (λ b. if b then v else read s d) h) ∙ sym (read-write t c v d ∙ ap (λ b. if b then v else read t d) h)

-- agreement on the reads of a list, from agreement in each cell
agree_mapped : (s t s' t' : Store) → ((c : Cell) → read s c ≡ read t c → read s' c ≡ read t' c) → (made : List Access) → AgreeOnReads s t made → AgreeOnReads s' t' made
agree_mapped s t s' t' f [] h = tt
agree_mapped s t s' t' f (x ∷ xs) h = (λ e. f x.cell (h.0 e), agree_mapped s t s' t' f xs h.1)

agree_first : (s t : Store) (xs ys : List Access) → AgreeOnReads s t (xs ++ ys) → AgreeOnReads s t xs
agree_first s t [] ys h = tt
agree_first s t (x ∷ xs) ys h = (h.0, agree_first s t xs ys h.1)

agree_second : (s t : Store) (xs ys : List Access) → AgreeOnReads s t (xs ++ ys) → AgreeOnReads s t ys
agree_second s t [] ys h = h
agree_second s t (x ∷ xs) ys h = agree_second s t xs ys h.1

do_write-append : (xs ys : List Access) (c : Cell) → do_write (xs ++ ys) c ≡ (do_write xs c || do_write ys c)
do_write-append [] ys c = refl
do_write-append (x ∷ xs) ys c = go (x.writes && is_cell x.cell c) (do_write-append xs ys c)
  where
    go : (b : Bool) → do_write (xs ++ ys) c ≡ (do_write xs c || do_write ys c) → (b || do_write (xs ++ ys) c) ≡ ((b || do_write xs c) || do_write ys c)
    go true e = refl
    go false e = e

by_either : {P : Type 0} (a b : Bool) → (a || b) ≡ true → (a ≡ true → P) → (b ≡ true → P) → P
by_either true b h f g = f refl
by_either false b h f g = g h

-- ---- statements

-- the same of statements at a place
record StatementsAlike (place : ℤ) (p q : Progress) (ss : List Statement) : Type 0 where
  uses : uses_of_body place q ss ≡ uses_of_body place p ss
  environment : (after_statements place q ss).environment ≡ (after_statements place p ss).environment
  reply : (after_statements place q ss).reply ≡ (after_statements place p ss).reply
  written : (c : Cell) → do_write (uses_of_body place p ss) c ≡ true → read (after_statements place p ss).store c ≡ read (after_statements place q ss).store c
  kept : (c : Cell) → read p.store c ≡ read q.store c → read (after_statements place p ss).store c ≡ read (after_statements place q ss).store c

-- in a cell that this write or a later statement writes
written_here : (place : ℤ) (s t : Store) (env : Environment) (said : List ℤ) (c : Cell) (w : ℤ) (ss : List Statement) → StatementsAlike place (progress (write s c w) env said) (progress (write t c w) env said) ss → (d : Cell) (b : Bool) → is_cell c d ≡ b → (b || do_write (uses_of_body place (progress (write s c w) env said) ss) d) ≡ true → read (after_statements place (progress (write s c w) env said) ss).store d ≡ read (after_statements place (progress (write t c w) env said) ss).store d
written_here place s t env said c w ss rest d true here e = rest.kept d (write-same s t c w d here)
written_here place s t env said c w ss rest d false here e = rest.written d e

statements_alike : (place : ℤ) (s t : Store) (env : Environment) (said : List ℤ) (ss : List Statement) → AgreeOnReads s t (uses_of_body place (progress s env said) ss) → StatementsAlike place (progress s env said) (progress t env said) ss
statements_alike place s t env said [] h = record { uses = refl; environment = refl; reply = refl; written = λ c e. absurd (false≢true e); kept = λ c e. e }
statements_alike place s t env said (Get number from ∷ ss) h =
    let c = access_cell place env from in
    let same = h.0 refl in
    let P : ℤ → Type 0 = λ v. StatementsAlike place (progress s (slice_set env number (read s c)) said) (progress t (slice_set env number v) said) ss in
    let rest = subst P same (statements_alike place s t (slice_set env number (read s c)) said ss h.1) in
    record { uses = ap (λ us. access c false ∷ us) rest.uses; environment = rest.environment; reply = rest.reply; written = rest.written; kept = rest.kept }
statements_alike place s t env said (Set to v ∷ ss) h =
    let c = access_cell place env to in
    let w = value v env in
    let rest = statements_alike place (write s c w) (write t c w) env said ss (agree_mapped s t _ _ (write-agree s t c w) _ h.1) in
    record {
      uses = ap (λ us. access c true ∷ us) rest.uses;
      environment = rest.environment;
      reply = rest.reply;
      written = λ d e. written_here place s t env said c w ss rest d (is_cell c d) refl e;
      kept = λ d e. rest.kept d (write-agree s t c w d e);
    }
statements_alike place s t env said (Out v ∷ ss) h =
    let rest = statements_alike place s t env (said ++ value v env ∷ []) ss h in
    record { uses = rest.uses; environment = rest.environment; reply = rest.reply; written = rest.written; kept = rest.kept }

-- ---- pieces

pub pieces_alike : (s t : Store) (env : Environment) (said : List ℤ) (pieces : List Piece) → AgreeOnReads s t (uses_of_pieces (progress s env said) pieces) → RunAlike (progress s env said) (progress t env said) pieces
pieces_alike s t env said [] h = record { uses = refl; environment = refl; reply = refl; written = λ c e. absurd (false≢true e); kept = λ c e. e }
pieces_alike s t env said (piece ∷ pieces) h =
    let p = progress s env said in
    let q = progress t env said in
    let now = uses_of_piece p piece in
    let first = statements_alike (value piece.place env) s t env said piece.body (agree_first s t now _ h) in
    let p1 = after_piece p piece in
    let q1 = after_piece q piece in
    let rest = pieces_alike p1.store q1.store p1.environment p1.reply pieces (agree_mapped s t _ _ first.kept _ (agree_second s t now _ h)) in
    let P : Environment → Type 0 = λ e. RunAlike p1 (progress q1.store e p1.reply) pieces in
    let Q : List ℤ → Type 0 = λ r. RunAlike p1 (progress q1.store q1.environment r) pieces in
    let joined : RunAlike p1 q1 pieces = subst Q (sym first.reply) (subst P (sym first.environment) rest) in
    let later = uses_of_pieces p1 pieces in
    record {
      uses = λ i. first.uses i ++ joined.uses i;
      environment = joined.environment;
      reply = joined.reply;
      written = λ c e. by_either (do_write now c) (do_write later c) (sym (do_write-append now later c) ∙ e) (λ w. joined.kept c (first.written c w)) (joined.written c);
      kept = λ c e. joined.kept c (first.kept c e);
    }

pub run_alike : (p q : Progress) (pieces : List Piece) → q.environment ≡ p.environment → q.reply ≡ p.reply → AgreeOnReads p.store q.store (uses_of_pieces p pieces) → RunAlike p q pieces
run_alike p q pieces e r h =
    let P : Environment → Type 0 = λ env. RunAlike p (progress q.store env p.reply) pieces in
    let Q : List ℤ → Type 0 = λ said. RunAlike p (progress q.store q.environment said) pieces in
    subst Q (sym r) (subst P (sym e) (pieces_alike p.store q.store p.environment p.reply pieces h))

-- ---- cells that are not written

statements-others : (place : ℤ) (p : Progress) (ss : List Statement) (c : Cell) → do_write (uses_of_body place p ss) c ≡ false → read (after_statements place p ss).store c ≡ read p.store c
statements-others place p [] c h = refl
statements-others place p (Get number from ∷ ss) c h = statements-others place (after_statement place p (Get number from)) ss c h
statements-others place p (Set to v ∷ ss) c h =
    let d = access_cell place p.environment to in
    let parts = or_parts (is_cell d c) _ h in
    statements-others place (after_statement place p (Set to v)) ss c parts.1
    ∙ (read-write p.store d (value v p.environment) c ∙ ap (λ b. if b then value v p.environment else read p.store c) parts.0)
statements-others place p (Out v ∷ ss) c h = statements-others place (after_statement place p (Out v)) ss c h

pub pieces-others : (p : Progress) (pieces : List Piece) (c : Cell) → do_write (uses_of_pieces p pieces) c ≡ false → read (after_pieces p pieces).store c ≡ read p.store c
pieces-others p [] c h = refl
pieces-others p (piece ∷ pieces) c h =
    let parts = or_parts (do_write (uses_of_piece p piece) c) _ (sym (do_write-append (uses_of_piece p piece) _ c) ∙ h) in
    pieces-others (after_piece p piece) pieces c parts.1 ∙ statements-others (value piece.place p.environment) p piece.body c parts.0
