-- The readers of expressions within a depth, of rows, and of statements, are exact.
use Rattle.std.proofs.Common.{◌≡◌, ℕ, ◌-◌, ◌≤◌, Bool, true, false, List, [], ◌∷◌, refl, sym, ap, subst, ◌∙◌, inl, inr, arith}
use Rattle.std.specs.Prelude.{ℤ, pos, Ok, ◌||◌}
use lib.Chars.{codes}
use Rattle.roc_lang.specs.Syntax.{Name, Expression, Access, Statement, Get, Set, Out}
use Rattle.roc_lang.specs.Tokens.{Kind, Word, Integer, Mark, Token}
use Rattle.roc_lang.specs.Grammar as grammar
use Rattle.roc_lang.specs.Grammar.{Limits, last, IsWordAt, IsIdEnd, IsName, IsSigned, plain, negated, IsExpression, IsAccess, access, IsStatement, open_bracket, close_bracket, comma, semicolon, dot, equals, minus}
use Rattle.roc_lang_parse.specs.Stuck.{head_is}
use Rattle.roc_lang_parse.specs.Parts.{has_word, has_mark, integer_at, negated_at, mark_at, signed_at}
use Rattle.roc_lang_parse.specs.Reading.{Deep, deep_at, expression_at, id_at, access_at, get_at, set_at, out_at, statement_at, starts_statement, row_at}
use Rattle.roc_lang_parse.proofs.Exact.{Rule, Stop, IsStopAt, any, Front, Exact, ok_same, when_ok, Then, bind, Followed, exact_then, exact_next}
use Rattle.roc_lang_parse.proofs.Choices.{Mapped, exact_mapped, Either, Chooses, exact_either, exact_same}
use Rattle.roc_lang_parse.proofs.Several.{other_than, unended, Repeats, freely}
use Rattle.roc_lang_parse.proofs.Separated.{Few, exact_few, separable, few_end, no_comma_or, separable_apart, few_end_apart}
use Rattle.roc_lang_parse.proofs.Wider.{Deeper, fewer, higher, Further}
use Rattle.roc_lang_parse.proofs.Terminals.{token_made, Tokens, exact_id_end, exact_word, exact_word_at, word_token, exact_mark, exact_name, word_kind, token_begins, Plain, exact_plain, Negated, exact_negated}
use Rattle.roc_lang_parse.proofs.Depths.{bounded_sum, deep_sum}
use Rattle.roc_lang_parse.proofs.Atoms.{Sums, is_operator, sum_stop, stops_at}
use Rattle.roc_lang_parse.proofs.Atom.{a, mark, a_mark, named}
use Rattle.roc_lang_parse.proofs.Rooms.{exact_deep}

-- ---- expressions

expression_to : (k : ℕ) (ts us : List Token) (e : Expression) → Mapped (λ v. v.0) (Sums k) ts us e → IsExpression k ts us e
expression_to k ts us e m = subst (λ z. IsExpression k ts us z) (sym m.value) (bounded_sum m.is.is k m.is.fits)

expression_from : (k : ℕ) (ts us : List Token) (e : Expression) → IsExpression k ts us e → Mapped (λ v. v.0) (Sums k) ts us e
expression_from k ts us e i = let d = deep_sum i in record { from = (e, d.depth); is = record { is = d.is; fits = d.fits }; value = refl }

pub exact_expression : (k k' : ℕ) → Deeper k k' → Exact (IsExpression k) (IsExpression k') sum_stop (expression_at k) (expression_at k')
unfolding expression_at
exact_expression k k' d = exact_same (expression_to k) (expression_from k) (expression_to k') (expression_from k') (exact_mapped (λ v. v.0) (exact_deep k k' d.above d.further).exact)

pub expression_ends : (k k' : ℕ) → Deeper k k' → (ts us : List Token) (e : Expression) → expression_at k ts ≡ Ok (e, us) → IsStopAt sum_stop us
unfolding expression_at
expression_ends k k' d ts us e read = when_ok {A = Deep × List Token} (deep_at k ts) (λ x. Ok (x.0.0, x.1)) (e, us) read (λ x first made.
    (exact_deep k k' d.above d.further).ends ts us x.0 (first ∙ ap (λ z. Ok (x.0, z)) (ap (λ z. z.1) (ok_same (x.0.0, x.1) (e, us) made))))

-- a mark behind an expression
pub mark_follows : {A B : Type 0} (b : ℕ) → is_operator (Mark b) ≡ false → (Q : A → Rule B) (stop : Stop) → Followed (λ x. Then (Tokens (Mark b)) (λ t. Q x)) sum_stop stop
mark_follows b e Q stop = record { is = λ x ms us y t end. stops_at is_operator (Mark b) ms t.between t.left e; end = refl }

pub last_follows : {A B : Type 0} (b : ℕ) → is_operator (Mark b) ≡ false → (f : A → Unit {0} → B) → Followed (λ x. Mapped (f x) (Tokens (Mark b))) sum_stop any
last_follows b e f = record { is = λ x ms us y m end. stops_at is_operator (Mark b) ms us m.is e; end = refl }

-- ---- signed integers, and rows

signed_to : (ts us : List Token) (x : ℤ) → Either (Then (Tokens (Mark minus)) (λ m. Negated)) (Plain pos) ts us x → IsSigned ts us x
signed_to ts us x (inl t) = negated t.left t.right.is t.right.fits t.right.value
signed_to ts us x (inr p) = subst (λ z. IsSigned ts us z) (sym p.value) (plain p.is)

signed_from : (ts us : List Token) (x : ℤ) → IsSigned ts us x → Either (Then (Tokens (Mark minus)) (λ m. Negated)) (Plain pos) ts us x
signed_from ts us x (plain {n = n} i) = inr (record { number = n; is = i; value = refl })
signed_from ts us x (negated {b = b} {n = n} m i f e) = inl (record { first = tt; between = b; left = m; right = record { number = n; is = i; fits = f; value = e } })

pub exact_signed : Exact IsSigned IsSigned any signed_at signed_at
unfolding signed_at
exact_signed =
    let e = exact_next (exact_mark minus) (λ m. exact_negated) in
    let choice : Chooses (has_mark minus) true true (Then (Tokens (Mark minus)) (λ m. Negated)) (Then (Tokens (Mark minus)) (λ m. Negated)) (Plain pos) (Plain pos) any (bind (mark_at minus) (λ m. negated_at)) (bind (mark_at minus) (λ m. negated_at)) integer_at integer_at = record {
      first = λ m. e;
      second = exact_plain pos;
      starts = λ ts us x t. token_begins (has_mark minus) (Mark minus) true ts t.between t.left refl;
      other = λ ts us x p end. token_begins (has_mark minus) (Integer p.number) false ts us p.is.is refl;
      may = λ ts us x t. refl;
      may_any = refl;
      full = λ f t st. absurd cc;
      all_any = λ ts us x t end. e.all_any ts us x t end;
    } in
    exact_same signed_to signed_from signed_to signed_from (exact_either choice)

abbrev pub Rows : Limits → Rule (ℤ × List ℤ × ℕ)
Rows l = Then (Tokens (Mark open_bracket)) (λ o. Then IsSigned (λ p. Then (Tokens (Mark comma)) (λ c. Then (Few IsSigned (l.ids - 1)) (λ is. Mapped (λ z. (p, is, z)) IsIdEnd))))

-- the bracket behind an id
id_ends_stop : (test : Kind → Bool) → test (Mark close_bracket) ≡ false → (ts us : List Token) (line : ℕ) → IsIdEnd ts us line → IsStopAt (other_than test) ts
id_ends_stop test e ts us line i = stops_at test (Mark close_bracket) ts us (record { line = line; is = i.is }) e

pub exact_row : (l l' : Limits) → Further l l' → Exact (Rows l) (Rows l') any (row_at l) (row_at l')
unfolding row_at
exact_row l l' f =
    exact_next (exact_mark open_bracket) (λ o. exact_next exact_signed (λ p. exact_next (exact_mark comma) (λ c.
    exact_then (exact_few (separable exact_signed) (l.ids - 1) (l'.ids - 1) (fewer _ _ f.ids)) (λ is. exact_mapped (λ z. (p, is, z)) exact_id_end)
    (few_end signed_at (l.ids - 1)) (record { is = λ is ms us y m end. id_ends_stop (has_mark comma) refl ms us m.from m.is; end = refl }))))

-- ---- columns of rows

abbrev pub Ids : Limits → Rule (List Expression)
Ids l = Few (IsExpression l.depth) (l.ids - 1)

pub id_stop : Stop
id_stop = no_comma_or is_operator

exact_id : (l l' : Limits) → Further l l' → Exact (Ids l) (Ids l') id_stop (id_at l) (id_at l')
unfolding id_stop
exact_id l l' f = exact_few (separable_apart is_operator (exact_expression l.depth l'.depth f.depth) (expression_ends l.depth l'.depth f.depth) refl) (l.ids - 1) (l'.ids - 1) (fewer _ _ f.ids)

id_ends : (l l' : Limits) → Further l l' → (ts us : List Token) (es : List Expression) → id_at l ts ≡ Ok (es, us) → IsStopAt id_stop us
unfolding id_stop
id_ends l l' f = few_end_apart is_operator (expression_at l.depth) (expression_ends l.depth l'.depth f.depth) (l.ids - 1)

abbrev Accesses : Limits → Rule Access
Accesses l = Then IsName (λ t. Then (Tokens (Mark open_bracket)) (λ o. Then (Ids l) (λ es. Then IsIdEnd (λ z. Then (Tokens (Mark dot)) (λ d. Mapped (λ n. record { table = t; id = es; id_line = z; column = n }) IsName)))))

id_follows : (l : Limits) (t : Name) → Followed (λ es. Then IsIdEnd (λ z. Then (Tokens (Mark dot)) (λ d. Mapped (λ n. let x : Access = record { table = t; id = es; id_line = z; column = n } in x) IsName))) id_stop any
unfolding id_stop
id_follows l t = record { is = λ es ms us y t end. id_ends_stop (λ k. has_mark comma k || is_operator k) refl ms t.between t.first t.left; end = refl }

access_to : (l : Limits) → 1 ≤ l.ids → (ts us : List Token) (x : Access) → Accesses l ts us x → IsAccess l ts us x
access_to l h ts us x t =
    let e = t.right.right in
    let z = e.right in
    let n = z.right.right in
    let f = e.left.fits in
    subst (λ z. IsAccess l ts us z) (sym n.value) (access t.left t.right.left e.left.is z.left z.right.left n.is (omega arith))

access_from : (l : Limits) (ts us : List Token) (x : Access) → IsAccess l ts us x → Accesses l ts us x
access_from l ts us x (access {b = b} {c = c} {d = d} {e = e} {f = f} n o i z p m fits) =
    record {
      first = x.table;
      between = b;
      left = n;
      right = record {
        first = tt;
        between = c;
        left = o;
        right = record {
          first = x.id;
          between = d;
          left = record { is = i; fits = omega arith };
          right = record {
            first = x.id_line;
            between = e;
            left = z;
            right = record { first = tt; between = f; left = p; right = record { from = x.column; is = m; value = refl } };
          };
        };
      };
    }

pub exact_access : (l l' : Limits) → Further l l' → Exact (IsAccess l) (IsAccess l') any (access_at l) (access_at l')
unfolding access_at
exact_access l l' f =
    exact_same (access_to l f.ids.above) (access_from l) (access_to l' (higher _ _ f.ids)) (access_from l')
    (exact_next exact_name (λ t. exact_next (exact_mark open_bracket) (λ o.
    exact_then (exact_id l l' f) (λ es. exact_next exact_id_end (λ z. exact_next (exact_mark dot) (λ p. exact_mapped (λ n. record { table = t; id = es; id_line = z; column = n }) exact_name)))
    (id_ends l l' f) (id_follows l t))))

-- ---- statements

-- a word where its token stands
pub word_at_token : (t : Token) (word : List ℕ) (us : List Token) → t.kind ≡ Word word → IsWordAt word (t ∷ us) us t.line
word_at_token t word us e = record { is = ap (λ z. let u : Token = record { kind = z; line = t.line } in u ∷ us) e }

abbrev Gets : Limits → Rule Statement
Gets l = Then (Tokens (Word (codes "get"))) (λ w. Then IsName (λ n. Then (Tokens (Mark equals)) (λ e. Then (IsAccess l) (λ f. Mapped (λ s. Get n f) (Tokens (Mark semicolon))))))

abbrev Sets : Limits → Rule Statement
Sets l = Then (IsWordAt (codes "set")) (λ w. Then (IsAccess l) (λ t. Then (Tokens (Mark equals)) (λ e. Then (IsExpression l.depth) (λ v. Mapped (λ s. Set w t v) (Tokens (Mark semicolon))))))

abbrev Outs : Limits → Rule Statement
Outs l = Then (Tokens (Word (codes "out"))) (λ w. Then (IsExpression l.depth) (λ v. Mapped (λ s. Out v) (Tokens (Mark semicolon))))

abbrev Statements : Limits → Rule Statement
Statements l = Either (Gets l) (Either (Sets l) (Outs l))

statement_to : (l : Limits) (ts us : List Token) (x : Statement) → Statements l ts us x → IsStatement l ts us x
statement_to l ts us x (inl t) =
    let n = t.right in
    let f = n.right.right in
    subst (λ z. IsStatement l ts us z) (sym f.right.value) (grammar.get t.left n.left n.right.left f.left f.right.is)
statement_to l ts us x (inr (inl t)) =
    let n = t.right in
    let v = n.right.right in
    subst (λ z. IsStatement l ts us z) (sym v.right.value) (grammar.set t.left n.left n.right.left v.left v.right.is)
statement_to l ts us x (inr (inr t)) = subst (λ z. IsStatement l ts us z) (sym t.right.right.value) (grammar.out t.left t.right.left t.right.right.is)

statement_from : (l : Limits) (ts us : List Token) (x : Statement) → IsStatement l ts us x → Statements l ts us x
statement_from l ts us x (grammar.get {b = b} {c = c} {d = d} {e = e} {name = name} {from = from} w n q f s) =
    inl (record { first = tt; between = b; left = w; right = record { first = name; between = c; left = n; right = record { first = tt; between = d; left = q; right = record { first = from; between = e; left = f; right = record { from = tt; is = s; value = refl } } } } })
statement_from l ts us x (grammar.set {b = b} {c = c} {d = d} {e = e} {line = line} {to = to} {value = value} w t q v s) =
    inr (inl (record { first = line; between = b; left = w; right = record { first = to; between = c; left = t; right = record { first = tt; between = d; left = q; right = record { first = value; between = e; left = v; right = record { from = tt; is = s; value = refl } } } } }))
statement_from l ts us x (grammar.out {b = b} {c = c} {value = value} w v s) =
    inr (inr (record { first = tt; between = b; left = w; right = record { first = value; between = c; left = v; right = record { from = tt; is = s; value = refl } } }))

exact_get : (l l' : Limits) → Further l l' → Exact (Gets l) (Gets l') any (get_at l) (get_at l')
unfolding get_at
exact_get l l' f = exact_next (exact_word (codes "get")) (λ w. exact_next exact_name (λ n. exact_next (exact_mark equals) (λ e. exact_next (exact_access l l' f) (λ x. exact_mapped (λ s. Get n x) (exact_mark semicolon)))))

exact_set : (l l' : Limits) → Further l l' → Exact (Sets l) (Sets l') any (set_at l) (set_at l')
unfolding set_at
exact_set l l' f = exact_next (exact_word_at (codes "set")) (λ w. exact_next (exact_access l l' f) (λ t. exact_next (exact_mark equals) (λ e.
    exact_then (exact_expression l.depth l'.depth f.depth) (λ v. exact_mapped (λ s. Set w t v) (exact_mark semicolon)) (expression_ends l.depth l'.depth f.depth) (last_follows semicolon refl (λ v s. Set w t v)))))

exact_out : (l l' : Limits) → Further l l' → Exact (Outs l) (Outs l') any (out_at l) (out_at l')
unfolding out_at
exact_out l l' f = exact_next (exact_word (codes "out")) (λ w. exact_then (exact_expression l.depth l'.depth f.depth) (λ v. exact_mapped (λ s. Out v) (exact_mark semicolon)) (expression_ends l.depth l'.depth f.depth) (last_follows semicolon refl (λ v s. Out v)))

others_begin : (l : Limits) (ts us : List Token) (x : Statement) → Either (Sets l) (Outs l) ts us x → head_is (has_word (codes "get")) ts ≡ false
others_begin l ts us x (inl t) = token_begins (has_word (codes "get")) (Word (codes "set")) false ts t.between (word_token t.left) refl
others_begin l ts us x (inr t) = token_begins (has_word (codes "get")) (Word (codes "out")) false ts t.between t.left refl

pub exact_statement : (l l' : Limits) → Further l l' → Exact (IsStatement l) (IsStatement l') any (statement_at l) (statement_at l')
unfolding statement_at
exact_statement l l' f =
    let sets : Chooses (has_word (codes "set")) true true (Sets l) (Sets l') (Outs l) (Outs l') any (set_at l) (set_at l') (out_at l) (out_at l') = record {
      first = λ m. exact_set l l' f;
      second = exact_out l l' f;
      starts = λ ts us x t. token_begins (has_word (codes "set")) (Word (codes "set")) true ts t.between (word_token t.left) refl;
      other = λ ts us x t end. token_begins (has_word (codes "set")) (Word (codes "out")) false ts t.between t.left refl;
      may = λ ts us x t. refl;
      may_any = refl;
      full = λ n t st. absurd cc;
      all_any = λ ts us x t end. (exact_set l l' f).all_any ts us x t end;
    } in
    let gets : Chooses (has_word (codes "get")) true true (Gets l) (Gets l') (Either (Sets l) (Outs l)) (Either (Sets l') (Outs l')) any (get_at l) (get_at l') _ _ = record {
      first = λ m. exact_get l l' f;
      second = exact_either sets;
      starts = λ ts us x t. token_begins (has_word (codes "get")) (Word (codes "get")) true ts t.between t.left refl;
      other = λ ts us x t end. others_begin l' ts us x t;
      may = λ ts us x t. refl;
      may_any = refl;
      full = λ n t st. absurd cc;
      all_any = λ ts us x t end. (exact_get l l' f).all_any ts us x t end;
    } in
    exact_same (statement_to l) (statement_from l) (statement_to l') (statement_from l') (exact_either gets)

-- ---- several statements

statement_starts : (l : Limits) (ts us : List Token) (x : Statement) → IsStatement l ts us x → head_is starts_statement ts ≡ true
statement_starts l ts us x (grammar.get {b = b} w n q f s) = token_begins starts_statement (Word (codes "get")) true ts b w refl
statement_starts l ts us x (grammar.set {b = b} w t q v s) = token_begins starts_statement (Word (codes "set")) true ts b (word_token w) refl
statement_starts l ts us x (grammar.out {b = b} w v s) = token_begins starts_statement (Word (codes "out")) true ts b w refl

pub one_expression : (k : ℕ) → 1 ≤ k → (us : List Token) → IsExpression k (a us) us named.0
one_expression k h us = grammar.term (grammar.atom (grammar.variable (omega arith) (record { is = refl; free = refl })))

pub one_name : (us : List Token) → IsName (a us) us (record { text = codes "a"; line = 1 })
one_name us = record { is = refl; free = refl }

one_access : (l : Limits) → 1 ≤ l.depth → 1 ≤ l.ids → (us : List Token) → IsAccess l (a (mark open_bracket (a (mark close_bracket (mark dot (a us)))))) us (record { table = record { text = codes "a"; line = 1 }; id = named.0 ∷ []; id_line = 1; column = record { text = codes "a"; line = 1 } })
one_access l h i us = access (one_name _) (a_mark open_bracket _) (last (one_expression l.depth h _)) (record { is = refl }) (a_mark dot _) (one_name us) i

-- the three words with which a statement begins
data Starts (k : Kind) : Type 0 where
  is_get : k ≡ Word (codes "get") → Starts k
  is_set : k ≡ Word (codes "set") → Starts k
  is_out : k ≡ Word (codes "out") → Starts k

which_start : (k : Kind) → starts_statement k ≡ true → Starts k
which_start k e = go (has_word (codes "get") k) (has_word (codes "set") k) (has_word (codes "out") k) refl refl refl
  where
    go : (g s o : Bool) → has_word (codes "get") k ≡ g → has_word (codes "set") k ≡ s → has_word (codes "out") k ≡ o → Starts k
    go true s o f h i = is_get (word_kind (codes "get") k f)
    go false true o f h i = is_set (word_kind (codes "set") k h)
    go false false true f h i = is_out (word_kind (codes "out") k i)
    go false false false f h i = absurd (cc (e, f, h, i))

statement_front : (l : Limits) → 1 ≤ l.depth → 1 ≤ l.ids → (t : Token) → Starts t.kind → Front (IsStatement l) any (t ∷ [])
statement_front l h i t (is_get e) = record { more = a (mark equals (a (mark open_bracket (a (mark close_bracket (mark dot (a (mark semicolon [])))))))); value = _; is = λ rest end. grammar.get (token_made t (Word (codes "get")) _ e) (one_name _) (a_mark equals _) (one_access l h i _) (a_mark semicolon rest) }
statement_front l h i t (is_set e) = record { more = a (mark open_bracket (a (mark close_bracket (mark dot (a (mark equals (a (mark semicolon [])))))))); value = _; is = λ rest end. grammar.set (word_at_token t (codes "set") _ e) (one_access l h i _) (a_mark equals _) (one_expression l.depth h _) (a_mark semicolon rest) }
statement_front l h i t (is_out e) = record { more = a (mark semicolon []); value = _; is = λ rest end. grammar.out (token_made t (Word (codes "out")) _ e) (one_expression l.depth h _) (a_mark semicolon rest) }

pub statements_repeat : (l l' : Limits) → Further l l' → Repeats (IsStatement l) (IsStatement l') starts_statement any (other_than starts_statement) (statement_at l) (statement_at l')
statements_repeat l l' f =
    freely (exact_statement l l' f) (statement_starts l') (λ us e. unended starts_statement us e) (λ t st. statement_front l' (higher _ _ f.depth) (higher _ _ f.ids) t (which_start t.kind st))
