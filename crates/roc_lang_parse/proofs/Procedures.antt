-- The readers of names, pieces and procedures are exact.
use Rattle.std.proofs.Common.{◌≡◌, ℕ, ◌+◌, ◌-◌, ◌<◌, ◌≤◌, Bool, true, false, List, [], ◌∷◌, ◌++◌, length, append_assoc, refl, sym, ap, subst, ◌∙◌, inl, inr, arith}
use Rattle.std.specs.Prelude.{Ok}
use lib.Chars.{codes}
use Rattle.roc_lang.specs.Syntax.{Name, Expression, Statement, Piece, Procedure}
use Rattle.roc_lang.specs.Tokens.{Kind, Word, Mark, Token}
use Rattle.roc_lang.specs.Grammar.{Limits, IsToken, IsName, IsExpression, IsStatement, Each, none, first, Separated, IsPiece, piece, IsArguments, no_arguments, arguments, IsOpening, plain, viewed, IsProcedure, procedure, class_word, open_brace, close_brace, open_parenthesis, close_parenthesis, comma}
use Rattle.roc_lang_parse.specs.Stuck.{Reading, head_is}
use Rattle.roc_lang_parse.specs.Parts.{has_word, has_mark, word_at, mark_at, name_at, class_at}
use Rattle.roc_lang_parse.specs.Reading.{expression_at, statement_at, starts_statement, head_at, piece_at, starts_piece, names_closed_at, names_or_none_at, arguments_at, viewed_at, opening_at, procedure_at}
use Rattle.roc_lang_parse.proofs.Exact.{Rule, IsStopAt, any, Front, Exact, Then, bind, exact_then, exact_next, bind_ends}
use Rattle.roc_lang_parse.proofs.Choices.{Mapped, mapped, exact_mapped, Either, Chooses, exact_either, exact_same, mapped_ends}
use Rattle.roc_lang_parse.proofs.Several.{Upto, other_than, ended, unended, Repeats, freely, many_ends, exact_many, Some', exact_some, some_ends}
use Rattle.roc_lang_parse.proofs.Terminals.{token_made, Tokens, exact_word, exact_mark, exact_name, exact_class, Classes, word_kind, word_token, token_begins}
use Rattle.roc_lang_parse.proofs.Atoms.{sum_stop, is_operator, stops_at}
use Rattle.roc_lang_parse.proofs.Atom.{a, mark, a_mark, named}
use Rattle.roc_lang_parse.proofs.Wider.{Deeper, fewer, higher, Further}
use Rattle.roc_lang_parse.proofs.Separated.{Few, parted, exact_few, separable, few_end}
use Rattle.roc_lang_parse.proofs.Statements.{exact_expression, expression_ends, statements_repeat, word_at_token, one_expression, one_name}

-- ---- arguments

abbrev Listed : ℕ → Rule (List Name)
Listed n = Either (Mapped (λ c. []) (Tokens (Mark close_parenthesis))) (Then (Few IsName n) (λ ns. Mapped (λ c. ns) (Tokens (Mark close_parenthesis))))

abbrev Arguments : ℕ → Rule (List Name)
Arguments n = Then (Tokens (Mark open_parenthesis)) (λ o. Listed n)

exact_closed : (n n' : ℕ) → n < n' → Exact (Then (Few IsName n) (λ ns. Mapped (λ c. ns) (Tokens (Mark close_parenthesis)))) (Then (Few IsName n') (λ ns. Mapped (λ c. ns) (Tokens (Mark close_parenthesis)))) any (names_closed_at n) (names_closed_at n')
unfolding names_closed_at
exact_closed n n' lt = exact_then (exact_few (separable exact_name) n n' lt) (λ ns. exact_mapped (λ c. ns) (exact_mark close_parenthesis)) (few_end name_at n) (record { is = λ ns ms us y m end. stops_at (has_mark comma) (Mark close_parenthesis) ms us m.is refl; end = refl })

separated_begins : (ts us : List Token) (names : List Name) → Separated IsName ts us names → head_is (has_mark close_parenthesis) ts ≡ false
separated_begins ts us names s = let p = parted s in ap (head_is (has_mark close_parenthesis)) p.is.is

exact_listed : (n n' : ℕ) → n < n' → Exact (Listed n) (Listed n') any (names_or_none_at n) (names_or_none_at n')
unfolding names_or_none_at
exact_listed n n' lt =
    let e = exact_mapped (λ c. []) (exact_mark close_parenthesis) in
    let choice : Chooses {A = List Name} (has_mark close_parenthesis) true true (Mapped (λ c. []) (Tokens (Mark close_parenthesis))) (Mapped (λ c. []) (Tokens (Mark close_parenthesis))) (Then (Few IsName n) (λ ns. Mapped (λ c. ns) (Tokens (Mark close_parenthesis)))) (Then (Few IsName n') (λ ns. Mapped (λ c. ns) (Tokens (Mark close_parenthesis)))) any
    (mapped (λ c. []) (mark_at close_parenthesis)) (mapped (λ c. []) (mark_at close_parenthesis)) (names_closed_at n) (names_closed_at n') = record {
      first = λ m. e;
      second = exact_closed n n' lt;
      starts = λ ts us x m. token_begins (has_mark close_parenthesis) (Mark close_parenthesis) true ts us m.is refl;
      other = λ ts us x t end. separated_begins ts t.between t.first t.left.is;
      may = λ ts us x t. refl;
      may_any = refl;
      full = λ f t st. absurd cc;
      all_any = λ ts us x t end. e.all_any ts us x t end;
    } in
    exact_either choice

arguments_to : (limits : Limits) → 1 ≤ limits.arguments → (ts us : List Token) (names : List Name) → Arguments (limits.arguments - 1) ts us names → IsArguments limits ts us names
arguments_to limits h ts us names t = go t.right
  where
    go : Listed (limits.arguments - 1) t.between us names → IsArguments limits ts us names
    go (inl m) = subst (λ z. IsArguments limits ts us z) (sym m.value) (no_arguments t.left m.is)
    go (inr n) = let f = n.left.fits in subst (λ z. IsArguments limits ts us z) (sym n.right.value) (arguments t.left n.left.is n.right.is (omega arith))

arguments_from : (limits : Limits) (ts us : List Token) (names : List Name) → IsArguments limits ts us names → Arguments (limits.arguments - 1) ts us names
arguments_from limits ts us names (no_arguments {b = b} o c) = record { first = tt; between = b; left = o; right = inl (record { from = tt; is = c; value = refl }) }
arguments_from limits ts us names (arguments {b = b} {c = c} {names = ns} o s p fits) = record { first = tt; between = b; left = o; right = inr (record { first = ns; between = c; left = record { is = s; fits = omega arith }; right = record { from = tt; is = p; value = refl } }) }

pub exact_arguments : (limits limits' : Limits) → Further limits limits' → Exact (IsArguments limits) (IsArguments limits') any (arguments_at (limits.arguments - 1)) (arguments_at (limits'.arguments - 1))
unfolding arguments_at
exact_arguments limits limits' f =
    exact_same (arguments_to limits f.arguments.above) (arguments_from limits) (arguments_to limits' (higher _ _ f.arguments)) (arguments_from limits')
    (exact_next (exact_mark open_parenthesis) (λ o. exact_listed (limits.arguments - 1) (limits'.arguments - 1) (fewer _ _ f.arguments)))

-- ---- pieces

abbrev Heads : ℕ → Rule ((Bool × ℕ) × Name × Expression)
Heads k = Then Classes (λ c. Then IsName (λ n. Then (Tokens (Word (codes "at"))) (λ w. Mapped (λ e. (c, n, e)) (IsExpression k))))

exact_head : (k k' : ℕ) → Deeper k k' → Exact (Heads k) (Heads k') sum_stop (head_at k) (head_at k')
unfolding head_at
exact_head k k' d = exact_next exact_class (λ c. exact_next exact_name (λ n. exact_next (exact_word (codes "at")) (λ w. exact_mapped (λ e. (c, n, e)) (exact_expression k k' d))))

abbrev place_part : ℕ → Bool × ℕ → Name → List Token → Reading ((Bool × ℕ) × Name × Expression)
place_part k c n = mapped (λ e. (c, n, e)) (expression_at k)

abbrev at_part : ℕ → Bool × ℕ → Name → List Token → Reading ((Bool × ℕ) × Name × Expression)
at_part k c n = bind (word_at (codes "at")) (λ w. place_part k c n)

abbrev name_part : ℕ → Bool × ℕ → List Token → Reading ((Bool × ℕ) × Name × Expression)
name_part k c = bind name_at (λ n. at_part k c n)

head_ends : (k k' : ℕ) → Deeper k k' → (ts us : List Token) (h : (Bool × ℕ) × Name × Expression) → head_at k ts ≡ Ok (h, us) → IsStopAt sum_stop us
unfolding head_at
head_ends k k' d = bind_ends class_at (λ c. name_part k c) sum_stop (λ c. bind_ends name_at (λ n. at_part k c n) sum_stop (λ n. bind_ends (word_at (codes "at")) (λ w. place_part k c n) sum_stop (λ w. mapped_ends (λ e. (c, n, e)) (expression_at k) sum_stop (expression_ends k k' d))))

abbrev Bodies : Limits → Rule (List Statement)
Bodies l = Upto (IsStatement l) l.statements

abbrev Pieces : Limits → Rule Piece
Pieces l = Then (Heads l.depth) (λ h. Then (Tokens (Mark open_brace)) (λ o. Then (Bodies l) (λ b. Mapped (λ c. record { is_now = h.0.0; class_line = h.0.1; name = h.1; place = h.2; body = b }) (Tokens (Mark close_brace)))))

piece_to : (l : Limits) (ts us : List Token) (p : Piece) → Pieces l ts us p → IsPiece l ts us p
piece_to l ts us p t =
    let c = t.left in
    let n = c.right in
    let e = n.right.right in
    let b = t.right.right in
    let same : t.first ≡ (c.first, n.first, e.from) = e.value in
    let value : p ≡ record { is_now = c.first.0; class_line = c.first.1; name = n.first; place = e.from; body = b.first } = b.right.value ∙ ap (λ h. let q : Piece = record { is_now = h.0.0; class_line = h.0.1; name = h.1; place = h.2; body = b.first } in q) same in
    subst (λ z. IsPiece l ts us z) (sym value) (piece c.left n.left n.right.left e.is t.right.left b.left.each b.right.is b.left.fits)

piece_from : (l : Limits) (ts us : List Token) (p : Piece) → IsPiece l ts us p → Pieces l ts us p
piece_from l ts us p (piece {b = b} {c = c} {d = d} {e = e} {f = f} {g = g} w n k x o s z fits) =
    record {
      first = ((p.is_now, p.class_line), p.name, p.place);
      between = e;
      left = record { first = (p.is_now, p.class_line); between = b; left = w; right = record { first = p.name; between = c; left = n; right = record { first = tt; between = d; left = k; right = record { from = p.place; is = x; value = refl } } } };
      right = record { first = tt; between = f; left = o; right = record { first = p.body; between = g; left = record { each = s; fits = fits }; right = record { from = tt; is = z; value = refl } } };
    }

pub exact_piece : (l l' : Limits) → Further l l' → Exact (IsPiece l) (IsPiece l') any (piece_at l) (piece_at l')
unfolding piece_at
exact_piece l l' f =
    exact_same (piece_to l) (piece_from l) (piece_to l') (piece_from l')
    (exact_then (exact_head l.depth l'.depth f.depth) (λ h. exact_next (exact_mark open_brace) (λ o.
    exact_then (exact_many (statements_repeat l l' f) l.statements l'.statements f.statements) (λ b. exact_mapped (λ c. record { is_now = h.0.0; class_line = h.0.1; name = h.1; place = h.2; body = b }) (exact_mark close_brace))
    (λ ts us b read. ended starts_statement us (many_ends starts_statement (statement_at l) l.statements ts us b read))
    (record { is = λ b ms us y m end. stops_at starts_statement (Mark close_brace) ms us m.is refl; end = refl })))
    (head_ends l.depth l'.depth f.depth)
    (record { is = λ h ms us y t end. stops_at is_operator (Mark open_brace) ms t.between t.left refl; end = refl }))

-- ---- several pieces

piece_starts : (l : Limits) (ts us : List Token) (p : Piece) → IsPiece l ts us p → head_is starts_piece ts ≡ true
piece_starts l ts us p (piece {b = b} w n k x o s z fits) = token_begins starts_piece (Word (class_word p.is_now)) true ts b (word_token w) (class_starts p.is_now)
  where
    class_starts : (c : Bool) → starts_piece (Word (class_word c)) ≡ true
    class_starts true = refl
    class_starts false = refl

which_class : (k : Kind) → starts_piece k ≡ true → (c : Bool) × (k ≡ Word (class_word c))
which_class k e = go (has_word (codes "now") k) (has_word (codes "later") k) refl refl
  where
    go : (n l : Bool) → has_word (codes "now") k ≡ n → has_word (codes "later") k ≡ l → (c : Bool) × (k ≡ Word (class_word c))
    go true l f g = (true, word_kind (codes "now") k f)
    go false true f g = (false, word_kind (codes "later") k g)
    go false false f g = absurd (cc (e, f, g))

at_word : List Token → List Token
at_word ts = let t : Token = record { kind = Word (codes "at"); line = 1 } in t ∷ ts

an_at : (ts : List Token) → IsToken (Word (codes "at")) (at_word ts) ts
unfolding at_word
an_at ts = record { line = 1; is = refl }

pub one_piece : (l : Limits) → 1 ≤ l.depth → (t : Token) → starts_piece t.kind ≡ true → Front (IsPiece l) any (t ∷ [])
unfolding at_word
one_piece l h t e =
    let c = which_class t.kind e in
    record {
      more = a (at_word (a (mark open_brace (mark close_brace []))));
      value = record { is_now = c.0; class_line = t.line; name = record { text = codes "a"; line = 1 }; place = named.0; body = [] };
      is = λ rest end.
          piece (word_at_token t (class_word c.0) _ c.1) (one_name _) (an_at _) (one_expression l.depth h _) (a_mark open_brace _) none (a_mark close_brace rest) (omega arith);
    }

pieces_repeat : (l l' : Limits) → Further l l' → Repeats (IsPiece l) (IsPiece l') starts_piece any (other_than starts_piece) (piece_at l) (piece_at l')
pieces_repeat l l' f = freely (exact_piece l l' f) (piece_starts l') (λ us e. unended starts_piece us e) (λ t st. one_piece l' (higher _ _ f.depth) t st)

-- ---- procedures

abbrev ViewedOpening : Rule Bool
ViewedOpening = Then (Tokens (Word (codes "view"))) (λ w. Mapped (λ o. true) (Tokens (Mark open_brace)))

abbrev PlainOpening : Rule Bool
PlainOpening = Mapped (λ o. false) (Tokens (Mark open_brace))

opening_to : (ts us : List Token) (v : Bool) → Either ViewedOpening PlainOpening ts us v → IsOpening ts us v
opening_to ts us v (inl t) = subst (λ z. IsOpening ts us z) (sym t.right.value) (viewed t.left t.right.is)
opening_to ts us v (inr m) = subst (λ z. IsOpening ts us z) (sym m.value) (plain m.is)

opening_from : (ts us : List Token) (v : Bool) → IsOpening ts us v → Either ViewedOpening PlainOpening ts us v
opening_from ts us v (plain o) = inr (record { from = tt; is = o; value = refl })
opening_from ts us v (viewed {b = b} w o) = inl (record { first = tt; between = b; left = w; right = record { from = tt; is = o; value = refl } })

exact_viewed : Exact ViewedOpening ViewedOpening any viewed_at viewed_at
unfolding viewed_at
exact_viewed = exact_next (exact_word (codes "view")) (λ w. exact_mapped (λ o. true) (exact_mark open_brace))

pub exact_opening : Exact IsOpening IsOpening any opening_at opening_at
unfolding opening_at
exact_opening =
    let choice : Chooses (has_word (codes "view")) true true ViewedOpening ViewedOpening PlainOpening PlainOpening any viewed_at viewed_at (mapped (λ o. false) (mark_at open_brace)) (mapped (λ o. false) (mark_at open_brace)) = record {
      first = λ m. exact_viewed;
      second = exact_mapped (λ o. false) (exact_mark open_brace);
      starts = λ ts us v t. token_begins (has_word (codes "view")) (Word (codes "view")) true ts t.between t.left refl;
      other = λ ts us v m end. token_begins (has_word (codes "view")) (Mark open_brace) false ts us m.is refl;
      may = λ ts us v t. refl;
      may_any = refl;
      full = λ n t st. absurd cc;
      all_any = λ ts us v t end. exact_viewed.all_any ts us v t end;
    } in
    exact_same opening_to opening_from opening_to opening_from (exact_either choice)

abbrev Procedures : Limits → Rule Procedure
Procedures l = Then (Tokens (Word (codes "proc"))) (λ w. Then IsName (λ n. Then (IsArguments l) (λ list. Then IsOpening (λ v. Then (Some' (IsPiece l) (IsPiece l) (l.pieces - 1)) (λ ps. Mapped (λ c. record { name = n; arguments = list; is_view = v; pieces = ps }) (Tokens (Mark close_brace)))))))

some_parts : (l : Limits) {ts us : List Token} {ps : List Piece} → Each (IsPiece l) ts us ps → 0 < length ps → (k : ℕ) → length ps ≤ k + 1 → Some' (IsPiece l) (IsPiece l) k ts us ps
some_parts l none positive k fits = absurd (omega arith)
some_parts l (first {b = b} {x = x} {xs = xs} i others) positive k fits = record { first = x; between = b; left = i; right = record { from = xs; is = record { each = others; fits = omega arith }; value = refl } }

procedure_to : (l : Limits) → 1 ≤ l.pieces → (ts us : List Token) (p : Procedure) → Procedures l ts us p → IsProcedure l ts us p
procedure_to l h ts us p t =
    let n = t.right in
    let list = n.right in
    let ps = list.right.right in
    let q = ps.left in
    let f = q.right.is.fits in
    let each : Each (IsPiece l) list.right.between ps.between (q.first ∷ q.right.from) = first q.left q.right.is.each in
    let value : p ≡ record { name = n.first; arguments = list.first; is_view = list.right.first; pieces = q.first ∷ q.right.from } =
    ps.right.value ∙ ap (λ z. let x : Procedure = record { name = n.first; arguments = list.first; is_view = list.right.first; pieces = z } in x) q.right.value in
    subst (λ z. IsProcedure l ts us z) (sym value) (procedure t.left n.left list.left list.right.left each ps.right.is (omega arith) (omega arith))

procedure_from : (l : Limits) → 1 ≤ l.pieces → (ts us : List Token) (p : Procedure) → IsProcedure l ts us p → Procedures l ts us p
procedure_from l h ts us p (procedure {b = b} {c = c} {d = d} {e = e} {f = f} w n list o ps z positive fits) =
    record {
      first = tt;
      between = b;
      left = w;
      right = record {
        first = p.name;
        between = c;
        left = n;
        right = record {
          first = p.arguments;
          between = d;
          left = list;
          right = record {
            first = p.is_view;
            between = e;
            left = o;
            right = record { first = p.pieces; between = f; left = some_parts l ps positive (l.pieces - 1) (omega arith); right = record { from = tt; is = z; value = refl } };
          };
        };
      };
    }

pub exact_procedure : (l l' : Limits) → Further l l' → Exact (IsProcedure l) (IsProcedure l') any (procedure_at l) (procedure_at l')
unfolding procedure_at
exact_procedure l l' f =
    exact_same (procedure_to l f.pieces.above) (procedure_from l f.pieces.above) (procedure_to l' (higher _ _ f.pieces)) (procedure_from l' (higher _ _ f.pieces))
    (exact_next (exact_word (codes "proc")) (λ w. exact_next exact_name (λ n. exact_next (exact_arguments l l' f) (λ list. exact_next exact_opening (λ v.
    exact_then (exact_some (exact_piece l l' f) (λ ts us x read. refl) (pieces_repeat l l' f) (l.pieces - 1) (l'.pieces - 1) (fewer _ _ f.pieces)) (λ ps. exact_mapped (λ c. record { name = n; arguments = list; is_view = v; pieces = ps }) (exact_mark close_brace))
    (λ ts us ps read. ended starts_piece us (some_ends starts_piece (piece_at l) (piece_at l) (l.pieces - 1) ts us ps read))
    (record { is = λ ps ms us y m end. stops_at starts_piece (Mark close_brace) ms us m.is refl; end = refl }))))))

pub procedure_front : (l : Limits) → 1 ≤ l.depth → 1 ≤ l.pieces → (t : Token) → has_word (codes "proc") t.kind ≡ true → Front (IsProcedure l) any (t ∷ [])
procedure_front l h i t e =
    let now : Token = record { kind = Word (codes "now"); line = 1 } in
    let p = one_piece l h now refl in
    record {
      more = a (mark open_parenthesis (mark close_parenthesis (mark open_brace (now ∷ (p.more ++ mark close_brace [])))));
      value = record { name = record { text = codes "a"; line = 1 }; arguments = []; is_view = false; pieces = p.value ∷ [] };
      is = λ rest end.
          let same = append_assoc p.more (mark close_brace []) rest in
          let R : List Token → Type 0 = λ z. IsProcedure l (t ∷ a (mark open_parenthesis (mark close_parenthesis (mark open_brace (now ∷ z))))) rest (record { name = record { text = codes "a"; line = 1 }; arguments = []; is_view = false; pieces = p.value ∷ [] }) in
          subst R (sym same) (procedure (token_made t (Word (codes "proc")) _ (word_kind (codes "proc") t.kind e)) (one_name _) (no_arguments (a_mark open_parenthesis _) (a_mark close_parenthesis _)) (plain (a_mark open_brace _)) (first (p.is (mark close_brace rest) refl) none) (a_mark close_brace rest) (omega arith) (omega arith));
    }
