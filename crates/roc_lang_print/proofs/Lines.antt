-- The lines of a procedure spell it.
use Rattle.std.proofs.Common.{ℕ, ◌+◌, ◌<◌, ◌≤◌, Bool, true, false, List, [], ◌∷◌, ◌++◌, map, length, flat_map, refl, sym, ap, subst, ◌∙◌, arith}
use Rattle.std.specs.List.{fold}
use lib.Chars.{codes}
use Rattle.roc_lang.specs.Syntax.{Name, Expression, Access, Statement, Get, Set, Out, Piece, Procedure}
use Rattle.roc_lang.specs.Tokens.{Word, Mark, Token, IsTokenEnd, IsTokens}
use Rattle.roc_lang_print.proofs.Spelt.{blank, word, mark}
use Rattle.roc_lang.specs.Grammar.{standard, class_word, IsExpression, IsAccess, access, IsStatement, get, set, out, IsPiece, piece, IsArguments, no_arguments, arguments, IsOpening, plain, viewed, IsProcedure, procedure, open_brace, close_brace, open_parenthesis, close_parenthesis, open_bracket, close_bracket, semicolon, dot, equals}
use Rattle.roc_lang_print.specs.Canonical.{names_text, expression_text, id_text, access_text, statement_text, statement_line, class_text, head_text, piece_lines, opening_text, procedure_lines}
use Rattle.roc_lang_print.specs.UpToLines.{bare_name, bare_expression, bare_access, bare_statement, bare_piece, bare_procedure}
use Rattle.roc_lang_print.proofs.Keywords.{get_word, set_word, out_word, view_word, now_word, later_word, at_word, proc_word}
use Rattle.roc_lang_print.proofs.Spelling.{grouped_4, grouped_5, grouped_7, grouped_9, Made, at_line, token_is, name_made}
use Rattle.roc_lang_print.proofs.Expressions.{expression_shown}
use Rattle.roc_lang_print.proofs.Trees.{IsFitExpression, IsFitAccess, IsFitStatement, IsFitPiece, IsFitNames, IsFitProcedure}
use Rattle.roc_lang_print.proofs.Sequences.{same_length, each_made, close_comma, separated_made, names_made}

-- ---- statements

whole_shown : (e : Expression) → IsFitExpression e → (line : ℕ) (rest : List ℕ) (others : List Token) → IsTokenEnd rest → IsTokens line rest others → Made (IsExpression standard.depth) bare_expression line (expression_text e ++ rest) others e
whole_shown e h = expression_shown standard.depth e h.fit h.shallow

access_made : (x : Access) → IsFitAccess x → (line : ℕ) (rest : List ℕ) (others : List Token) → IsTokenEnd rest → IsTokens line rest others → Made (IsAccess standard) bare_access line (access_text x ++ rest) others x
access_made x h line rest others end i =
    let c = name_made x.column h.column line rest others end i in
    let e = separated_made (IsExpression standard.depth) bare_expression expression_text IsFitExpression whole_shown (codes ",") close_comma x.id h.id.some h.id.all line (codes "]." ++ (x.column.text ++ rest))
    (at_line (Mark close_bracket) line ∷ at_line (Mark dot) line ∷ c.tokens) refl (mark refl (mark refl c.spelt)) in
    let t = name_made x.table h.table line (codes "[" ++ (id_text x.id ++ (codes "]." ++ (x.column.text ++ rest)))) (at_line (Mark open_bracket) line ∷ e.tokens) refl (mark refl e.spelt) in
    record {
      tokens = t.tokens;
      tree = record { table = t.tree; id = e.tree; id_line = line; column = c.tree };
      spelt = subst (λ z. IsTokens line z t.tokens) (sym (grouped_5 x.table.text (codes "[") (id_text x.id) (codes "].") x.column.text rest)) t.spelt;
      is = access t.is (token_is (Mark open_bracket) line e.tokens) e.is (record { is = refl }) (token_is (Mark dot) line c.tokens) c.is
          (subst (λ k. k ≤ standard.ids) (sym (same_length bare_expression e.tree x.id e.same)) h.id.few);
      same = λ k. record { table = t.same k; id = e.same k; id_line = 0; column = c.same k };
    }

-- a statement before its semicolon
statement_made : (s : Statement) → IsFitStatement s → (line : ℕ) (rest : List ℕ) (others : List Token) → IsTokenEnd rest → IsTokens line rest (at_line (Mark semicolon) line ∷ others)
    → Made (IsStatement standard) bare_statement line (statement_text s ++ rest) others s
statement_made (Get name from) h line rest others end i =
    let a = access_made from h.1 line rest (at_line (Mark semicolon) line ∷ others) end i in
    let n = name_made name h.0 line (codes " = " ++ (access_text from ++ rest)) (at_line (Mark equals) line ∷ a.tokens) refl (blank refl (mark refl (blank refl a.spelt))) in
    let ts : List Token = at_line (Word (codes "get")) line ∷ n.tokens in
    record {
      tokens = ts;
      tree = Get n.tree a.tree;
      spelt = subst (λ z. IsTokens line z ts) (sym (grouped_4 (codes "get ") name.text (codes " = ") (access_text from) rest)) (word (codes "get") refl get_word refl (blank refl n.spelt));
      is = get (token_is (Word (codes "get")) line n.tokens) n.is (token_is (Mark equals) line a.tokens) a.is (token_is (Mark semicolon) line others);
      same = λ k. Get (n.same k) (a.same k);
    }
statement_made (Set at to value) h line rest others end i =
    let e = expression_shown standard.depth value h.1.fit h.1.shallow line rest (at_line (Mark semicolon) line ∷ others) end i in
    let a = access_made to h.0 line (codes " = " ++ (expression_text value ++ rest)) (at_line (Mark equals) line ∷ e.tokens) refl (blank refl (mark refl (blank refl e.spelt))) in
    let ts : List Token = at_line (Word (codes "set")) line ∷ a.tokens in
    record {
      tokens = ts;
      tree = Set line a.tree e.tree;
      spelt = subst (λ z. IsTokens line z ts) (sym (grouped_4 (codes "set ") (access_text to) (codes " = ") (expression_text value) rest)) (word (codes "set") refl set_word refl (blank refl a.spelt));
      is = set (record { is = refl }) a.is (token_is (Mark equals) line e.tokens) e.is (token_is (Mark semicolon) line others);
      same = λ k. Set 0 (a.same k) (e.same k);
    }
statement_made (Out value) h line rest others end i =
    let e = expression_shown standard.depth value h.fit h.shallow line rest (at_line (Mark semicolon) line ∷ others) end i in
    record {
      tokens = at_line (Word (codes "out")) line ∷ e.tokens;
      tree = Out e.tree;
      spelt = word (codes "out") refl out_word refl (blank refl e.spelt);
      is = out (token_is (Word (codes "out")) line e.tokens) e.is (token_is (Mark semicolon) line others);
      same = λ k. Out (e.same k);
    }

-- the line behind a line
abbrev pub next_line : {A : Type 0} → ℕ → A → ℕ
next_line line x = line + 1

statement_line_made : (s : Statement) → IsFitStatement s → (line : ℕ) (rest : List ℕ) (others : List Token) → IsTokens (line + 1) rest others → Made (IsStatement standard) bare_statement line (statement_line s ++ rest) others s
statement_line_made s h line rest others i =
    let m = statement_made s h line (codes ";" ++ (10 ∷ [] ++ rest)) others refl (mark refl (blank refl i)) in
    record {
      tokens = m.tokens;
      tree = m.tree;
      spelt = subst (λ z. IsTokens line z m.tokens) (sym (grouped_4 (codes "    ") (statement_text s) (codes ";") (10 ∷ []) rest)) (blank refl (blank refl (blank refl (blank refl m.spelt))));
      is = m.is;
      same = m.same;
    }

-- ---- pieces

class_spelt : (is_now : Bool) (line : ℕ) (rest : List ℕ) (others : List Token) → IsTokenEnd rest → IsTokens line rest others → IsTokens line (class_text is_now ++ rest) (at_line (Word (class_word is_now)) line ∷ others)
class_spelt true line rest others end i = word (codes "now") refl now_word end i
class_spelt false line rest others end i = word (codes "later") refl later_word end i

abbrev pub behind_piece : ℕ → Piece → ℕ
behind_piece line p = fold next_line (line + 1) p.body + 1

piece_made : (p : Piece) → IsFitPiece p → (line : ℕ) (rest : List ℕ) (others : List Token) → IsTokens (behind_piece line p) rest others → Made (IsPiece standard) bare_piece line (piece_lines p ++ rest) others p
piece_made p h line rest others i =
    let last : ℕ = fold next_line (line + 1) p.body in
    let end : List ℕ = codes "  }" ++ (10 ∷ [] ++ rest) in
    let body = each_made (IsStatement standard) bare_statement statement_line next_line IsFitStatement statement_line_made p.body h.body (line + 1) end (at_line (Mark close_brace) last ∷ others) (blank refl (blank refl (mark refl (blank refl i)))) in
    let lines : List ℕ = codes " {" ++ (10 ∷ [] ++ (flat_map statement_line p.body ++ end)) in
    let place = expression_shown standard.depth p.place h.place.fit h.place.shallow line lines (at_line (Mark open_brace) line ∷ body.tokens) refl (blank refl (mark refl (blank refl body.spelt))) in
    let from : List ℕ = codes " at " ++ (expression_text p.place ++ lines) in
    let name = name_made p.name h.name line from (at_line (Word (codes "at")) line ∷ place.tokens) refl (blank refl (word (codes "at") refl at_word refl (blank refl place.spelt))) in
    let class = class_spelt p.is_now line (codes " " ++ (p.name.text ++ from)) name.tokens refl (blank refl name.spelt) in
    let ts : List Token = at_line (Word (class_word p.is_now)) line ∷ name.tokens in
    let head = grouped_5 (class_text p.is_now) (codes " ") p.name.text (codes " at ") (expression_text p.place) lines in
    let whole = grouped_7 (codes "  ") (head_text p) (codes " {") (10 ∷ []) (flat_map statement_line p.body) (codes "  }") (10 ∷ []) rest in
    record {
      tokens = ts;
      tree = record { is_now = p.is_now; class_line = line; name = name.tree; place = place.tree; body = body.tree };
      spelt = subst (λ z. IsTokens line z ts) (sym (whole ∙ ap (λ z. codes "  " ++ z) head)) (blank refl (blank refl class));
      is = piece (record { is = refl }) name.is (token_is (Word (codes "at")) line place.tokens) place.is (token_is (Mark open_brace) line body.tokens) body.is
          (token_is (Mark close_brace) last others) (subst (λ k. k ≤ standard.statements) (sym (same_length bare_statement body.tree p.body body.same)) h.few);
      same = λ k. record { is_now = p.is_now; class_line = 0; name = name.same k; place = place.same k; body = body.same k };
    }

-- ---- procedures

arguments_made : (names : List Name) → IsFitNames names standard.arguments → (line : ℕ) (rest : List ℕ) (others : List Token) → IsTokenEnd rest → IsTokens line rest (at_line (Mark close_parenthesis) line ∷ others)
    → Made (IsArguments standard) (map bare_name) line (codes "(" ++ (names_text (codes ",") names ++ rest)) others names
arguments_made [] h line rest others end i = record {
  tokens = at_line (Mark open_parenthesis) line ∷ at_line (Mark close_parenthesis) line ∷ others;
  tree = [];
  spelt = mark refl i;
  is = no_arguments (token_is (Mark open_parenthesis) line (at_line (Mark close_parenthesis) line ∷ others)) (token_is (Mark close_parenthesis) line others);
  same = refl;
}
arguments_made (n ∷ ns) h line rest others end i =
    let some : 0 < length (n ∷ ns) = omega arith in
    let m = names_made (codes ",") close_comma (n ∷ ns) some h.all line rest (at_line (Mark close_parenthesis) line ∷ others) end i in
    record {
      tokens = at_line (Mark open_parenthesis) line ∷ m.tokens;
      tree = m.tree;
      spelt = mark refl m.spelt;
      is = arguments (token_is (Mark open_parenthesis) line m.tokens) m.is (token_is (Mark close_parenthesis) line others) (subst (λ k. k ≤ standard.arguments) (sym (same_length bare_name m.tree (n ∷ ns) m.same)) h.few);
      same = m.same;
    }

-- what stands behind the arguments: their parenthesis, and what opens the pieces
record OpeningMade (line : ℕ) (bytes : List ℕ) (others : List Token) (is_view : Bool) : Type 0 where
  tokens : List Token
  spelt : IsTokens line bytes (at_line (Mark close_parenthesis) line ∷ tokens)
  is : IsOpening tokens others is_view

opening_made : (is_view : Bool) (line : ℕ) (rest : List ℕ) (others : List Token) → IsTokens line rest others → OpeningMade line (opening_text is_view ++ rest) others is_view
opening_made true line rest others i =
    let brace : List Token = at_line (Mark open_brace) line ∷ others in
    record {
      tokens = at_line (Word (codes "view")) line ∷ brace;
      spelt = mark refl (blank refl (word (codes "view") refl view_word refl (blank refl (mark refl i))));
      is = viewed (token_is (Word (codes "view")) line brace) (token_is (Mark open_brace) line others);
    }
opening_made false line rest others i =
    record { tokens = at_line (Mark open_brace) line ∷ others; spelt = mark refl (blank refl (mark refl i)); is = plain (token_is (Mark open_brace) line others) }

-- the parenthesis ends a word
opening_ends : (is_view : Bool) (rest : List ℕ) → IsTokenEnd (opening_text is_view ++ rest)
opening_ends true rest = refl
opening_ends false rest = refl

abbrev pub behind_procedure : ℕ → Procedure → ℕ
behind_procedure line p = fold behind_piece (line + 1) p.pieces + 1

pub procedure_made : (p : Procedure) → IsFitProcedure p → (line : ℕ) (rest : List ℕ) (others : List Token) → IsTokens (behind_procedure line p) rest others → Made (IsProcedure standard) bare_procedure line (procedure_lines p ++ rest) others p
procedure_made p h line rest others i =
    let last : ℕ = fold behind_piece (line + 1) p.pieces in
    let end : List ℕ = codes "}" ++ (10 ∷ [] ++ rest) in
    let pieces = each_made (IsPiece standard) bare_piece piece_lines behind_piece IsFitPiece piece_made p.pieces h.pieces (line + 1) end (at_line (Mark close_brace) last ∷ others) (mark refl (blank refl i)) in
    let below : List ℕ = 10 ∷ [] ++ (flat_map piece_lines p.pieces ++ end) in
    let lines : List ℕ = opening_text p.is_view ++ below in
    let opening = opening_made p.is_view line below pieces.tokens (blank refl pieces.spelt) in
    let names = arguments_made p.arguments h.arguments line lines opening.tokens (opening_ends p.is_view below) opening.spelt in
    let name = name_made p.name h.name line (codes "(" ++ (names_text (codes ",") p.arguments ++ lines)) names.tokens refl names.spelt in
    let ts : List Token = at_line (Word (codes "proc")) line ∷ name.tokens in
    let whole = grouped_9 (codes "proc ") p.name.text (codes "(") (names_text (codes ",") p.arguments) (opening_text p.is_view) (10 ∷ []) (flat_map piece_lines p.pieces) (codes "}") (10 ∷ []) rest in
    let as_many = same_length bare_piece pieces.tree p.pieces pieces.same in
    record {
      tokens = ts;
      tree = record { name = name.tree; arguments = names.tree; is_view = p.is_view; pieces = pieces.tree };
      spelt = subst (λ z. IsTokens line z ts) (sym whole) (word (codes "proc") refl proc_word refl (blank refl name.spelt));
      is = procedure (token_is (Word (codes "proc")) line name.tokens) name.is names.is opening.is pieces.is (token_is (Mark close_brace) last others)
          (subst (λ k. 0 < k) (sym as_many) h.some) (subst (λ k. k ≤ standard.pieces) (sym as_many) h.few);
      same = λ k. record { name = name.same k; arguments = names.same k; is_view = p.is_view; pieces = pieces.same k };
    }
