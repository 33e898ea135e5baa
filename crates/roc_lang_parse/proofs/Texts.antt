-- The reader of texts is exact.
use Rattle.std.proofs.Common.{◌≡◌, ℕ, ◌-◌, ◌≤◌, Bool, true, false, List, [], ◌∷◌, length, Some, None, refl, sym, ap, subst, ◌∙◌, inl, inr, arith, lit<}
use Rattle.std.specs.Prelude.{pos, Ok, Err}
use Rattle.std.specs.Option.{option_map}
use lib.Chars.{codes}
use Rattle.roc_lang.specs.Syntax.{Table, Init, Procedure, Tree}
use Rattle.roc_lang.specs.Tokens.{Kind, Word, Integer, Mark, Token}
use Rattle.roc_lang.specs.Grammar.{Limits, IsMark, IsArity, one, said, IsName, IsSigned, plain, IsShards, Each, none, first, last, IsTable, table, IsInit, init, IsProcedure, procedure, IsText, text, open_brace, close_brace, open_bracket, close_bracket, comma, semicolon, dot, equals}
use Rattle.roc_lang_parse.specs.Stuck.{Stuck, Reading, head_is}
use Rattle.roc_lang_parse.specs.Parts.{has_word, has_mark, mark_at, name_at, small_integer, shards_at}
use Rattle.roc_lang_parse.specs.Reading.{said_arity_at, arity_at, table_at, init_at, front_at, end_at, procedure_at, tables_at, inits_at, procedures_at, text_at}
use Rattle.roc_lang_parse.proofs.Exact.{Rule, Stop, head, IsStopAt, any, Consumed, Front, Refused, Exact, ok_same, err_same, ok-err, Then, bind, exact_then, exact_next, bind_ends}
use Rattle.roc_lang_parse.proofs.Choices.{Mapped, mapped, exact_mapped, Either, Chooses, exact_either, exact_same, mapped_ends}
use Rattle.roc_lang_parse.proofs.Several.{Upto, other_than, ended, unended, Repeats, freely, many_ends, exact_many}
use Rattle.roc_lang_parse.proofs.Terminals.{token_made, Tokens, exact_word, exact_mark, exact_name, word_kind, token_begins, same_first, map_parts, small_parts, small_taken}
use Rattle.roc_lang_parse.proofs.Atoms.{stops_at}
use Rattle.roc_lang_parse.proofs.Atom.{a, mark, a_mark}
use Rattle.roc_lang_parse.proofs.Statements.{exact_signed, Rows, exact_row, one_name}
use Rattle.roc_lang_parse.proofs.Separated.{Few, exact_few, separable, few_end}
use Rattle.roc_lang_parse.proofs.Wider.{fewer, higher, Further, Bounded, exact_bounded}
use Rattle.roc_lang_parse.proofs.Procedures.{exact_procedure, procedure_front}

-- ---- tables

-- how many integers an id has, and the brace behind it
abbrev SaidArities : Limits → Rule ℕ
SaidArities l = Then (Tokens (Mark open_bracket)) (λ o. Then (Bounded l.least_arity l.arity) (λ n. Then (Tokens (Mark close_bracket)) (λ z. Mapped (λ b. n) (Tokens (Mark open_brace)))))

abbrev OneArity : Rule ℕ
OneArity = Mapped (λ b. 1) (Tokens (Mark open_brace))

abbrev Arities : Limits → Rule ℕ
Arities l = Either (SaidArities l) OneArity

exact_said : (l l' : Limits) → Further l l' → Exact (SaidArities l) (SaidArities l') any (said_arity_at l) (said_arity_at l')
unfolding said_arity_at
exact_said l l' f = exact_next (exact_mark open_bracket) (λ o. exact_next (exact_bounded _ _ _ _ f.arity) (λ n. exact_next (exact_mark close_bracket) (λ z. exact_mapped (λ b. n) (exact_mark open_brace))))

exact_arity : (l l' : Limits) → Further l l' → Exact (Arities l) (Arities l') any (arity_at l) (arity_at l')
unfolding arity_at
exact_arity l l' f =
    let choice : Chooses (has_mark open_bracket) true true (SaidArities l) (SaidArities l') OneArity OneArity any (said_arity_at l) (said_arity_at l') (mapped (λ b. 1) (mark_at open_brace)) (mapped (λ b. 1) (mark_at open_brace)) = record {
      first = λ m. exact_said l l' f;
      second = exact_mapped (λ b. 1) (exact_mark open_brace);
      starts = λ ts us x t. token_begins (has_mark open_bracket) (Mark open_bracket) true ts t.between t.left refl;
      other = λ ts us x m end. token_begins (has_mark open_bracket) (Mark open_brace) false ts us m.is refl;
      may = λ ts us x t. refl;
      may_any = refl;
      full = λ n t st. absurd cc;
      all_any = λ ts us x t end. (exact_said l l' f).all_any ts us x t end;
    } in
    exact_either choice

-- the two parts of it
record ArityParts (l : Limits) (ts us : List Token) (n : ℕ) : Type 0 where
  pub between : List Token
  pub is : IsArity l ts between n
  pub brace : IsMark open_brace between us

arity_parts : (l : Limits) (ts us : List Token) (n : ℕ) → Arities l ts us n → ArityParts l ts us n
arity_parts l ts us n (inl t) =
    let b = t.right in
    let z = b.right in
    let made : ArityParts l ts us b.first = record { between = z.between; is = said t.left b.left.is z.left b.left.least b.left.most; brace = z.right.is } in
    subst (λ k. ArityParts l ts us k) (sym z.right.value) made
arity_parts l ts us n (inr m) =
    let made : ArityParts l ts us 1 = record { between = ts; is = one; brace = m.is } in
    subst (λ k. ArityParts l ts us k) (sym m.value) made

arity_whole : (l : Limits) {ts ms us : List Token} {n : ℕ} → IsArity l ts ms n → IsMark open_brace ms us → Arities l ts us n
arity_whole l one o = inr (record { from = tt; is = o; value = refl })
arity_whole l {ms = ms} (said {b = b} {c = c} {n = n} o i z least most) p =
    inl (record { first = tt; between = b; left = o; right = record { first = n; between = c; left = record { is = i; least = least; most = most }; right = record { first = tt; between = ms; left = z; right = record { from = tt; is = p; value = refl } } } })

abbrev Tables : Limits → Rule Table
Tables l = Then (Tokens (Word (codes "table"))) (λ w. Then IsName (λ n. Then (Arities l) (λ r. Then (Few IsName (l.columns - 1)) (λ cs. Mapped (λ z. record { name = n; arity = r; columns = cs }) (Tokens (Mark close_brace))))))

table_to : (l : Limits) → 1 ≤ l.columns → (ts us : List Token) (t : Table) → Tables l ts us t → IsTable l ts us t
table_to l h ts us t i =
    let n = i.right in
    let r = arity_parts l n.between n.right.between n.right.first n.right.left in
    let cs = n.right.right in
    let f = cs.left.fits in
    subst (λ z. IsTable l ts us z) (sym cs.right.value) (table i.left n.left r.is r.brace cs.left.is cs.right.is (omega arith))

table_from : (l : Limits) (ts us : List Token) (t : Table) → IsTable l ts us t → Tables l ts us t
table_from l ts us t (table {b = b} {c = c} {e = e} {f = f} w n r o cs z fits) =
    record {
      first = tt;
      between = b;
      left = w;
      right = record {
        first = t.name;
        between = c;
        left = n;
        right = record {
          first = t.arity;
          between = e;
          left = arity_whole l r o;
          right = record {
            first = t.columns;
            between = f;
            left = record { is = cs; fits = omega arith };
            right = record { from = tt; is = z; value = refl };
          };
        };
      };
    }

pub exact_table : (l l' : Limits) → Further l l' → Exact (IsTable l) (IsTable l') any (table_at l) (table_at l')
unfolding table_at
exact_table l l' f =
    exact_same (table_to l f.columns.above) (table_from l) (table_to l' (higher _ _ f.columns)) (table_from l')
    (exact_next (exact_word (codes "table")) (λ w. exact_next exact_name (λ n. exact_next (exact_arity l l' f) (λ r.
    exact_then (exact_few (separable exact_name) (l.columns - 1) (l'.columns - 1) (fewer _ _ f.columns)) (λ cs. exact_mapped (λ z. record { name = n; arity = r; columns = cs }) (exact_mark close_brace))
    (few_end name_at (l.columns - 1)) (record { is = λ cs ms us y m end. stops_at (has_mark comma) (Mark close_brace) ms us m.is refl; end = refl })))))

table_front : (l : Limits) → 1 ≤ l.columns → (t : Token) → has_word (codes "table") t.kind ≡ true → Front (IsTable l) any (t ∷ [])
table_front l h t e = record {
  more = a (mark open_brace (a (mark close_brace [])));
  value = record { name = record { text = codes "a"; line = 1 }; arity = 1; columns = record { text = codes "a"; line = 1 } ∷ [] };
  is = λ rest end.
      table (token_made t (Word (codes "table")) _ (word_kind (codes "table") t.kind e)) (one_name _) one (a_mark open_brace _) (last (one_name _)) (a_mark close_brace rest) (omega arith);
}

table_starts : (l : Limits) (test : Kind → Bool) (b : Bool) → test (Word (codes "table")) ≡ b → (ts us : List Token) (t : Table) → IsTable l ts us t → head_is test ts ≡ b
table_starts l test b e ts us t (table {b = c} w n r o cs z fits) = token_begins test (Word (codes "table")) b ts c w e

tables_repeat : (l l' : Limits) → Further l l' → Repeats (IsTable l) (IsTable l') (has_word (codes "table")) any (other_than (has_word (codes "table"))) (table_at l) (table_at l')
tables_repeat l l' f = freely (exact_table l l' f) (table_starts l' (has_word (codes "table")) true refl) (λ us e. unended (has_word (codes "table")) us e) (table_front l' (higher _ _ f.columns))

-- ---- init lines

abbrev Inits : Limits → Rule Init
Inits l = Then (Tokens (Word (codes "init"))) (λ w. Then IsName (λ t. Then (Rows l) (λ r. Then (Tokens (Mark dot)) (λ d. Then IsName (λ c. Then (Tokens (Mark equals)) (λ e. Then IsSigned (λ v. Mapped (λ s. record { table = t; place = r.0; id = r.1; id_line = r.2; column = c; value = v }) (Tokens (Mark semicolon)))))))))

init_to : (l : Limits) → 1 ≤ l.ids → (ts us : List Token) (x : Init) → Inits l ts us x → IsInit l ts us x
init_to l h ts us x i =
    let t = i.right in
    let r = t.right in
    let p = r.left.right in
    let q = p.right.right in
    let z = q.right in
    let c = r.right.right in
    let v = c.right.right in
    let f = q.left.fits in
    let same : r.first ≡ (p.first, q.first, z.from) = z.value in
    let value : x ≡ record { table = t.first; place = p.first; id = q.first; id_line = z.from; column = c.first; value = v.first } = v.right.value ∙ ap (λ y. let n : Init = record { table = t.first; place = y.0; id = y.1; id_line = y.2; column = c.first; value = v.first } in n) same in
    subst (λ z. IsInit l ts us z) (sym value) (init i.left t.left r.left.left p.left p.right.left q.left.is z.is r.right.left c.left c.right.left v.left v.right.is (omega arith))

init_from : (l : Limits) (ts us : List Token) (x : Init) → IsInit l ts us x → Inits l ts us x
init_from limits ts us x (init {b = b} {c = c} {d = d} {e = e} {f = f} {g = g} {h = h} {i = i} {j = j} {k = k} {l = l} w t o p m q z y n s v u fits) =
    record {
      first = tt;
      between = b;
      left = w;
      right = record {
        first = x.table;
        between = c;
        left = t;
        right = record {
          first = (x.place, x.id, x.id_line);
          between = h;
          left = record { first = tt; between = d; left = o; right = record { first = x.place; between = e; left = p; right = record { first = tt; between = f; left = m; right = record { first = x.id; between = g; left = record { is = q; fits = omega arith }; right = record { from = x.id_line; is = z; value = refl } } } } };
          right = record { first = tt; between = i; left = y; right = record { first = x.column; between = j; left = n; right = record { first = tt; between = k; left = s; right = record { first = x.value; between = l; left = v; right = record { from = tt; is = u; value = refl } } } } };
        };
      };
    }

exact_init : (l l' : Limits) → Further l l' → Exact (IsInit l) (IsInit l') any (init_at l) (init_at l')
unfolding init_at
exact_init l l' f =
    exact_same (init_to l f.ids.above) (init_from l) (init_to l' (higher _ _ f.ids)) (init_from l')
    (exact_next (exact_word (codes "init")) (λ w. exact_next exact_name (λ t. exact_next (exact_row l l' f) (λ r. exact_next (exact_mark dot) (λ d. exact_next exact_name (λ c. exact_next (exact_mark equals) (λ e.
    exact_next exact_signed (λ v. exact_mapped (λ s. record { table = t; place = r.0; id = r.1; id_line = r.2; column = c; value = v }) (exact_mark semicolon)))))))))

digit : List Token → List Token
digit ts = let t : Token = record { kind = Integer 0; line = 1 } in t ∷ ts

a_zero : (us : List Token) → IsSigned (digit us) us (pos 0)
unfolding digit
a_zero us = plain (record { is = record { line = 1; is = refl }; fits = lit< tt })

init_front : (l : Limits) → 1 ≤ l.ids → (t : Token) → has_word (codes "init") t.kind ≡ true → Front (IsInit l) any (t ∷ [])
unfolding digit
init_front l h t e = record {
  more = a (mark open_bracket (digit (mark comma (digit (mark close_bracket (mark dot (a (mark equals (digit (mark semicolon []))))))))));
  value = record { table = record { text = codes "a"; line = 1 }; place = pos 0; id = pos 0 ∷ []; id_line = 1; column = record { text = codes "a"; line = 1 }; value = pos 0 };
  is = λ rest end.
      init (token_made t (Word (codes "init")) _ (word_kind (codes "init") t.kind e)) (one_name _) (a_mark open_bracket _) (a_zero _) (a_mark comma _) (last (a_zero _)) (record { is = refl }) (a_mark dot _) (one_name _) (a_mark equals _) (a_zero _) (a_mark semicolon rest) h;
}

init_starts : (l : Limits) (test : Kind → Bool) (b : Bool) → test (Word (codes "init")) ≡ b → (ts us : List Token) (x : Init) → IsInit l ts us x → head_is test ts ≡ b
init_starts l test v e' ts us x (init {b = b} w t o p m q z y n s k u fits) = token_begins test (Word (codes "init")) v ts b w e'

inits_repeat : (l l' : Limits) → Further l l' → Repeats (IsInit l) (IsInit l') (has_word (codes "init")) any (other_than (has_word (codes "init"))) (init_at l) (init_at l')
inits_repeat l l' f = freely (exact_init l l' f) (init_starts l' (has_word (codes "init")) true refl) (λ us e. unended (has_word (codes "init")) us e) (init_front l' (higher _ _ f.ids))

-- ---- procedures

procedure_starts : (l : Limits) (test : Kind → Bool) (b : Bool) → test (Word (codes "proc")) ≡ b → (ts us : List Token) (p : Procedure) → IsProcedure l ts us p → head_is test ts ≡ b
procedure_starts l test v e' ts us p (procedure {b = b} w n list o ps z positive fits) = token_begins test (Word (codes "proc")) v ts b w e'

procedures_repeat : (l l' : Limits) → Further l l' → Repeats (IsProcedure l) (IsProcedure l') (has_word (codes "proc")) any (other_than (has_word (codes "proc"))) (procedure_at l) (procedure_at l')
procedures_repeat l l' f =
    freely (exact_procedure l l' f) (procedure_starts l' (has_word (codes "proc")) true refl) (λ us e. unended (has_word (codes "proc")) us e) (procedure_front l' (higher _ _ f.depth) (higher _ _ f.pieces))

-- ---- the number of shards

abbrev Shards : Rule (ℕ × ℕ)
Shards ts us n = IsShards ts us n.0 n.1

exact_shards : Exact Shards Shards any shards_at shards_at
exact_shards =
    same_first (λ t. option_map (λ n. (n, t.line)) (small_integer t.kind)) Shards (record { kind = Integer 1; line = 1 }) (1, 1) refl
    (λ t us x e. map_parts (λ n. (n, t.line)) (small_integer t.kind) x e (λ n small same.
    let parts = small_parts t.kind n small in
    subst (λ z. IsShards (t ∷ us) us z.0 z.1) (sym same) (record { is = ap (λ z. let u : Token = record { kind = z; line = t.line } in u ∷ us) parts.0; fits = parts.1 })))
    (λ ts us x i. record { token = record { kind = Integer x.0; line = x.1 }; is = i.is; takes = ap (option_map (λ n. (n, x.1))) (small_taken x.0 i.fits) })

abbrev pub Fronts : Rule (ℕ × ℕ)
Fronts = Then (Tokens (Word (codes "shards"))) (λ w. Then Shards (λ n. Mapped (λ s. n) (Tokens (Mark semicolon))))

pub exact_front : Exact Fronts Fronts any front_at front_at
unfolding front_at
exact_front = exact_next (exact_word (codes "shards")) (λ w. exact_next exact_shards (λ n. exact_mapped (λ s. n) (exact_mark semicolon)))

-- ---- the end

abbrev pub at_end : Stop
at_end None = true
at_end (Some k) = false

pub record End (ts us : List Token) (x : Unit {0}) : Type 0 where
  pub nothing : ts ≡ []
  pub nothing_left : us ≡ []

ends_empty : (us : List Token) → IsStopAt at_end us → us ≡ []
ends_empty [] e = refl
ends_empty (t ∷ us) e = absurd cc

end_front : Front End at_end []
end_front = record { more = []; value = tt; is = λ rest e. record { nothing = ends_empty rest e; nothing_left = ends_empty rest e } }

all_end : (ts us : List Token) (x : Unit {0}) → End ts us x → end_at ts ≡ Ok (x, us)
unfolding end_at
all_end ts us x e = rw (e.nothing, e.nothing_left) refl

reads_end : (ts us : List Token) (x : Unit {0}) → end_at ts ≡ Ok (x, us) → Consumed End at_end ts us x
unfolding end_at
reads_end [] us x read = record { taken = []; split = ap (λ z. z.1) (ok_same (tt, []) (x, us) read); is = λ rest e. record { nothing = ends_empty rest e; nothing_left = ends_empty rest e } }
reads_end (t ∷ ts) us x read = absurd (ok-err (x, us) (record { past = false; rest = t ∷ ts }) (sym read))

stuck_end : (ts : List Token) (b : Stuck) → end_at ts ≡ Err b → Refused End End at_end ts b
unfolding end_at
stuck_end [] b read = absurd (ok-err (tt, []) b read)
stuck_end (t ∷ ts) b read = subst (λ z. Refused End End at_end (t ∷ ts) z) (err_same (record { past = false; rest = t ∷ ts }) b read) (record { taken = []; split = refl; front = end_front; why = λ ws rest x e i. let h = ap length i.nothing in absurd (omega arith) })

pub exact_end : Exact End End at_end end_at end_at
exact_end = record { weaker = λ ts us x e. e; some = end_front; all = λ ts us x e h. all_end ts us x e; all_any = λ ts us x e h. all_end ts us x e; reads = reads_end; stuck = stuck_end }

-- ---- texts

pub record Whole (l : Limits) (ts us : List Token) (t : Tree) : Type 0 where
  pub is : IsText l ts t
  pub nothing_left : us ≡ []

abbrev Tail3 : (ℕ × ℕ) → List Table → List Init → List Procedure → Rule Tree
Tail3 s ts is ps = Mapped (λ e. record { shards = s.0; shards_line = s.1; tables = ts; inits = is; procedures = ps }) End

abbrev Tail2 : Limits → (ℕ × ℕ) → List Table → List Init → Rule Tree
Tail2 l s ts is = Then (Upto (IsProcedure l) l.procedures) (λ ps. Tail3 s ts is ps)

abbrev Tail1 : Limits → (ℕ × ℕ) → List Table → Rule Tree
Tail1 l s ts = Then (Upto (IsInit l) l.inits) (λ is. Tail2 l s ts is)

abbrev Texts : Limits → Rule Tree
Texts l = Then Fronts (λ s. Then (Upto (IsTable l) l.tables) (λ ts. Tail1 l s ts))

-- several of a rule that does not begin so, and what does not
each_other : {A : Type 0} {R : Rule A} (test : Kind → Bool) → ((ts us : List Token) (x : A) → R ts us x → head_is test ts ≡ false) → {ms us : List Token} {xs : List A} → Each R ms us xs → IsStopAt (other_than test) us → IsStopAt (other_than test) ms
each_other test other none e = e
each_other test other (first {a = ts} {b = us} {x = x} i others) e = ended test ts (other ts us x i)

end_other : (test : Kind → Bool) (ts us : List Token) (x : Unit {0}) → End ts us x → IsStopAt (other_than test) ts
end_other test ts us x e = rw e.nothing refl

tail2_other : (l : Limits) (test : Kind → Bool) → test (Word (codes "proc")) ≡ false → (s : ℕ × ℕ) (ts : List Table) (is : List Init) (ms us : List Token) (t : Tree) → Tail2 l s ts is ms us t → IsStopAt (other_than test) ms
tail2_other l test e s ts is ms us t i = each_other test (procedure_starts l test false e) i.left.each (end_other test i.between us i.right.from i.right.is)

tail1_other : (l : Limits) (s : ℕ × ℕ) (ts : List Table) (ms us : List Token) (t : Tree) → Tail1 l s ts ms us t → IsStopAt (other_than (has_word (codes "table"))) ms
tail1_other l s ts ms us t i = each_other (has_word (codes "table")) (init_starts l (has_word (codes "table")) false refl) i.left.each (tail2_other l (has_word (codes "table")) refl s ts i.first i.between us t i.right)

text_to : (l : Limits) (ts us : List Token) (t : Tree) → Texts l ts us t → Whole l ts us t
text_to l ts us t i =
    let s = i.left.right in
    let n : i.first ≡ s.first = s.right.value in
    let tables = i.right in
    let inits = tables.right in
    let procedures = inits.right in
    let e = procedures.right in
    let value : t ≡ record { shards = s.first.0; shards_line = s.first.1; tables = tables.first; inits = inits.first; procedures = procedures.first } =
    e.value ∙ ap (λ (z : ℕ × ℕ). let y : Tree = record { shards = z.0; shards_line = z.1; tables = tables.first; inits = inits.first; procedures = procedures.first } in y) n in
    let last' : Each (IsProcedure l) inits.between [] procedures.first = subst (λ z. Each (IsProcedure l) inits.between z procedures.first) e.is.nothing procedures.left.each in
    record {
      is = subst (λ z. IsText l ts z) (sym value) (text i.left.left s.left s.right.is tables.left.each inits.left.each last' tables.left.fits inits.left.fits procedures.left.fits);
      nothing_left = e.is.nothing_left;
    }

text_parts : (l : Limits) {ts : List Token} {t : Tree} → IsText l ts t → Texts l ts [] t
text_parts l (text {b = b} {c = c} {d = d} {e = e} {f = f} {t = t} w n m tables inits procedures x y z) =
    record {
      first = (t.shards, t.shards_line);
      between = d;
      left = record { first = tt; between = b; left = w; right = record { first = (t.shards, t.shards_line); between = c; left = n; right = record { from = tt; is = m; value = refl } } };
      right = record {
        first = t.tables;
        between = e;
        left = record { each = tables; fits = x };
        right = record {
          first = t.inits;
          between = f;
          left = record { each = inits; fits = y };
          right = record { first = t.procedures; between = []; left = record { each = procedures; fits = z }; right = record { from = tt; is = record { nothing = refl; nothing_left = refl }; value = refl } };
        };
      };
    }

text_from : (l : Limits) (ts us : List Token) (t : Tree) → Whole l ts us t → Texts l ts us t
text_from l ts us t w = subst (λ z. Texts l ts z t) (sym w.nothing_left) (text_parts l w.is)

pub exact_text : (l l' : Limits) → Further l l' → Exact (Whole l) (Whole l') at_end (text_at l) (text_at l')
unfolding text_at
exact_text l l' f =
    exact_same (text_to l) (text_from l) (text_to l') (text_from l')
    (exact_next exact_front (λ s.
    exact_then (exact_many (tables_repeat l l' f) l.tables l'.tables f.tables) (λ ts.
    exact_then (exact_many (inits_repeat l l' f) l.inits l'.inits f.inits) (λ is.
    exact_then (exact_many (procedures_repeat l l' f) l.procedures l'.procedures f.procedures) (λ ps. exact_mapped (λ e. record { shards = s.0; shards_line = s.1; tables = ts; inits = is; procedures = ps }) exact_end)
    (λ ts us ps read. ended (has_word (codes "proc")) us (many_ends (has_word (codes "proc")) (procedure_at l) l.procedures ts us ps read))
    (record { is = λ ps ms us t m e. end_other (has_word (codes "proc")) ms us m.from m.is; end = refl }))
    (λ ts us is read. ended (has_word (codes "init")) us (many_ends (has_word (codes "init")) (init_at l) l.inits ts us is read))
    (record { is = λ is ms us t i e. tail2_other l' (has_word (codes "init")) refl s ts is ms us t i; end = refl }))
    (λ us vs ts read. ended (has_word (codes "table")) vs (many_ends (has_word (codes "table")) (table_at l) l.tables us vs ts read))
    (record { is = λ ts ms us t i e. tail1_other l' s ts ms us t i; end = refl })))

-- ---- a text that was read leaves nothing

end_ends : (ts us : List Token) (x : Unit {0}) → end_at ts ≡ Ok (x, us) → IsStopAt at_end us
unfolding end_at
end_ends [] us x read = ap (λ z. at_end (head z.1)) (sym (ok_same (tt, []) (x, us) read))
end_ends (t ∷ ts) us x read = absurd (ok-err (x, us) (record { past = false; rest = t ∷ ts }) (sym read))

abbrev part3 : (ℕ × ℕ) → List Table → List Init → List Procedure → List Token → Reading Tree
part3 s ts is ps = mapped (λ e. record { shards = s.0; shards_line = s.1; tables = ts; inits = is; procedures = ps }) end_at

abbrev part2 : Limits → (ℕ × ℕ) → List Table → List Init → List Token → Reading Tree
part2 l s ts is = bind (procedures_at l) (λ ps. part3 s ts is ps)

abbrev part1 : Limits → (ℕ × ℕ) → List Table → List Token → Reading Tree
part1 l s ts = bind (inits_at l) (λ is. part2 l s ts is)

abbrev part0 : Limits → (ℕ × ℕ) → List Token → Reading Tree
part0 l s = bind (tables_at l) (λ ts. part1 l s ts)

pub text_ends : (l : Limits) (ts us : List Token) (t : Tree) → text_at l ts ≡ Ok (t, us) → us ≡ []
unfolding text_at
text_ends l ts us t read = ends_empty us (bind_ends front_at (part0 l) at_end (λ s. bind_ends (tables_at l) (part1 l s) at_end (λ tables. bind_ends (inits_at l) (part2 l s tables) at_end (λ inits. bind_ends (procedures_at l) (part3 s tables inits) at_end (λ procedures.
    mapped_ends (λ e. record { shards = s.0; shards_line = s.1; tables = tables; inits = inits; procedures = procedures }) end_at at_end end_ends)))) ts us t read)
