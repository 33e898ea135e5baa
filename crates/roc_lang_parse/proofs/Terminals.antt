-- Exact readers of the single tokens of the grammar.
use Rattle.std.proofs.Common.{◌≡◌, ℕ, ◌^◌, ◌<◌, ◌≤◌, Bool, true, false, cond, List, ◌∷◌, Option, Some, None, refl, sym, ap, subst, ◌∙◌}
use Rattle.std.specs.Prelude.{ℤ, pos, neg_ℤ, nat_lt, nat_le, IsFalse}
use Rattle.std.specs.Option.{option_map}
use Rattle.std.proofs.lemmas.Bool.{eqb-true, eq-eqb, ltb-true, lt-ltb, leb-true, le-leb}
use Rattle.std.proofs.lemmas.Slice.Eq.{bytes_eq-Decides}
use Rattle.std.proofs.lemmas.Option.{none-some, same_Some as some_is}
use lib.Chars.{codes}
use Rattle.roc_lang.specs.Syntax.{Name}
use Rattle.roc_lang.specs.Tokens.{Kind, Word, Integer, Mark, Token}
use Rattle.roc_lang.specs.Grammar.{IsToken, IsMark, IsName, IsInteger, IsWordAt, IsIdEnd, close_bracket, is_reserved, class_word, plus, minus}
use Rattle.roc_lang_parse.specs.Stuck.{head_is}
use Rattle.roc_lang_parse.specs.Parts.{first_at, has_word, has_mark, passes, word_at, word_line_at, mark_at, mark_line_at, free_word, name_of, name_at, small_integer, negated, negated_at, piece_class, class_at, sign_of, sign_at}
use Rattle.roc_lang_parse.proofs.Exact.{Rule, any, Exact}
use Rattle.roc_lang_parse.proofs.Choices.{First, exact_first, exact_same}

-- the same rule within all limits
pub same_first : {A : Type 0} (f : Token → Option A) (R : Rule A) (t : Token) (x : A) → f t ≡ Some x
    → ((t : Token) (us : List Token) (x : A) → f t ≡ Some x → R (t ∷ us) us x) → ((ts us : List Token) (x : A) → R ts us x → First f ts us x) → Exact R R any (first_at f) (first_at f)
same_first f R t x e to from =
    let forth : (ts us : List Token) (x : _) → First f ts us x → R ts us x = λ ts us x g. subst (λ z. R z us x) (sym g.is) (to g.token us x g.takes) in
    exact_same forth from forth from (exact_first f t x e)

passed : (b : Bool) (x : Unit {0}) → passes b ≡ Some x → b ≡ true
passed true x e = refl
passed false x e = absurd (none-some x e)

-- ---- words and marks

pub word_kind : (word : List ℕ) (kind : Kind) → has_word word kind ≡ true → kind ≡ Word word
word_kind word (Word letters) e = ap (λ w. Word w) ((bytes_eq-Decides letters word).0 e)
word_kind word (Integer n) e = absurd cc
word_kind word (Mark b) e = absurd cc

pub kind_word : (word : List ℕ) → has_word word (Word word) ≡ true
kind_word word = (bytes_eq-Decides word word).1 refl

pub mark_kind : (mark : ℕ) (kind : Kind) → has_mark mark kind ≡ true → kind ≡ Mark mark
mark_kind mark (Word letters) e = absurd cc
mark_kind mark (Integer n) e = absurd cc
mark_kind mark (Mark b) e = ap (λ m. Mark m) (eqb-true b mark e)

pub kind_mark : (mark : ℕ) → has_mark mark (Mark mark) ≡ true
kind_mark mark = eq-eqb mark mark refl

-- a token of a kind
pub token_made : (t : Token) (k : Kind) (us : List Token) → t.kind ≡ k → IsToken k (t ∷ us) us
token_made t k us e = record { line = t.line; is = ap (λ z. let u : Token = record { kind = z; line = t.line } in u ∷ us) e }

abbrev pub Tokens : Kind → Rule (Unit {0})
Tokens k ts us x = IsToken k ts us

pub exact_word : (word : List ℕ) → Exact (Tokens (Word word)) (Tokens (Word word)) any (word_at word) (word_at word)
exact_word word =
    same_first (λ t. passes (has_word word t.kind)) (Tokens (Word word)) (record { kind = Word word; line = 1 }) tt (ap passes (kind_word word))
    (λ t us x e. token_made t (Word word) us (word_kind word t.kind (passed (has_word word t.kind) x e)))
    (λ ts us x i. record { token = record { kind = Word word; line = i.line }; is = i.is; takes = ap passes (kind_word word) })

pub exact_mark : (mark : ℕ) → Exact (Tokens (Mark mark)) (Tokens (Mark mark)) any (mark_at mark) (mark_at mark)
exact_mark mark =
    same_first (λ t. passes (has_mark mark t.kind)) (Tokens (Mark mark)) (record { kind = Mark mark; line = 1 }) tt (ap passes (kind_mark mark))
    (λ t us x e. token_made t (Mark mark) us (mark_kind mark t.kind (passed (has_mark mark t.kind) x e)))
    (λ ts us x i. record { token = record { kind = Mark mark; line = i.line }; is = i.is; takes = ap passes (kind_mark mark) })

-- a word with its line
abbrev line_where : Bool → ℕ → Option ℕ
line_where b line = cond {A = Option ℕ} b (Some line) None

word_at_made : (word : List ℕ) (t : Token) (us : List Token) (l : ℕ) → line_where (has_word word t.kind) t.line ≡ Some l → IsWordAt word (t ∷ us) us l
word_at_made word t us l e = go (has_word word t.kind) refl e
  where
    go : (b : Bool) → has_word word t.kind ≡ b → line_where b t.line ≡ Some l → IsWordAt word (t ∷ us) us l
    go true h i = subst (λ z. IsWordAt word (t ∷ us) us z) (some_is t.line l i) (record { is = ap (λ z. let u : Token = record { kind = z; line = t.line } in u ∷ us) (word_kind word t.kind h) })
    go false h i = absurd (none-some l i)

pub exact_word_at : (word : List ℕ) → Exact (IsWordAt word) (IsWordAt word) any (word_line_at word) (word_line_at word)
exact_word_at word =
    same_first (λ t. line_where (has_word word t.kind) t.line) (IsWordAt word) (record { kind = Word word; line = 1 }) 1 (ap (λ b. line_where b 1) (kind_word word)) (word_at_made word)
    (λ ts us l i. record { token = record { kind = Word word; line = l }; is = i.is; takes = ap (λ b. line_where b l) (kind_word word) })

-- a token of a word, whatever its line
pub word_token : {word : List ℕ} {ts us : List Token} {line : ℕ} → IsWordAt word ts us line → IsToken (Word word) ts us
word_token {line = line} i = record { line = line; is = i.is }

-- the bracket behind an id, with its line
line_kind : (kind : Kind) (line l : ℕ) → cond {A = Option ℕ} (has_mark close_bracket kind) (Some line) None ≡ Some l → (kind ≡ Mark close_bracket) × (line ≡ l)
line_kind kind line l e = go (has_mark close_bracket kind) refl e
  where
    go : (b : Bool) → has_mark close_bracket kind ≡ b → cond {A = Option ℕ} b (Some line) None ≡ Some l → (kind ≡ Mark close_bracket) × (line ≡ l)
    go true h i = (mark_kind close_bracket kind h, some_is line l i)
    go false h i = absurd (none-some l i)

id_end_made : (t : Token) (us : List Token) (l : ℕ) → cond {A = Option ℕ} (has_mark close_bracket t.kind) (Some t.line) None ≡ Some l → IsIdEnd (t ∷ us) us l
id_end_made t us l e =
    let p = line_kind t.kind t.line l e in
    subst (λ z. IsIdEnd (t ∷ us) us z) p.1 (record { is = ap (λ z. let u : Token = record { kind = z; line = t.line } in u ∷ us) p.0 })

pub exact_id_end : Exact IsIdEnd IsIdEnd any (mark_line_at close_bracket) (mark_line_at close_bracket)
exact_id_end = same_first (λ t. cond (has_mark close_bracket t.kind) (Some t.line) None) IsIdEnd (record { kind = Mark close_bracket; line = 1 }) 1 refl id_end_made
    (λ ts us l i. record { token = record { kind = Mark close_bracket; line = l }; is = i.is; takes = refl })

-- how a list begins
pub word_begins : (word : List ℕ) (ts us : List Token) → IsToken (Word word) ts us → head_is (has_word word) ts ≡ true
word_begins word ts us i = ap (head_is (has_word word)) i.is ∙ kind_word word

pub mark_begins : (mark : ℕ) (ts us : List Token) → IsMark mark ts us → head_is (has_mark mark) ts ≡ true
mark_begins mark ts us i = ap (head_is (has_mark mark)) i.is ∙ kind_mark mark

-- a token decides each test
pub token_begins : (test : Kind → Bool) (k : Kind) (b : Bool) (ts us : List Token) → IsToken k ts us → test k ≡ b → head_is test ts ≡ b
token_begins test k b ts us i e = ap (head_is test) i.is ∙ e

-- ---- names

free_parts : (kind : Kind) (letters : List ℕ) → free_word kind ≡ Some letters → (kind ≡ Word letters) × IsFalse (is_reserved letters)
free_parts (Word word) letters e = go (is_reserved word) refl e
  where
    go : (r : Bool) → is_reserved word ≡ r → cond {A = Option (List ℕ)} r None (Some word) ≡ Some letters → (Word word ≡ Word letters) × IsFalse (is_reserved letters)
    go true h i = absurd (none-some letters i)
    go false h i = let same = some_is word letters i in (ap (λ w. Word w) same, subst (λ w. IsFalse (is_reserved w)) same h)
free_parts (Integer n) letters e = absurd (none-some letters e)
free_parts (Mark b) letters e = absurd (none-some letters e)

-- what an option is made of
pub map_parts : {A B R : Type 0} (f : A → B) (o : Option A) (y : B) → option_map f o ≡ Some y → ((x : A) → o ≡ Some x → y ≡ f x → R) → R
map_parts f (Some x) y e k = k x refl (sym (some_is (f x) y e))
map_parts f None y e k = absurd (none-some y e)

pub name_made : (t : Token) (us : List Token) (n : Name) → name_of t ≡ Some n → IsName (t ∷ us) us n
name_made t us n e = map_parts (λ letters. let m : Name = record { text = letters; line = t.line } in m) (free_word t.kind) n e (λ letters free same.
    let parts = free_parts t.kind letters free in
    subst (λ m. IsName (t ∷ us) us m) (sym same) (record { is = ap (λ z. let u : Token = record { kind = z; line = t.line } in u ∷ us) parts.0; free = parts.1 }))

pub name_first : (ts us : List Token) (n : Name) → IsName ts us n → First name_of ts us n
name_first ts us n i = record { token = record { kind = Word n.text; line = n.line }; is = i.is; takes = rw i.free refl }

abbrev pub a_name : Token
a_name = record { kind = Word (codes "a"); line = 1 }

pub exact_name : Exact IsName IsName any name_at name_at
exact_name = same_first name_of IsName a_name (record { text = codes "a"; line = 1 }) refl name_made name_first

-- ---- integers

pub small_parts : (kind : Kind) (n : ℕ) → small_integer kind ≡ Some n → (kind ≡ Integer n) × (n < 2 ^ 63)
small_parts (Word letters) n e = absurd (none-some n e)
small_parts (Mark b) n e = absurd (none-some n e)
small_parts (Integer m) n e = go (nat_lt m (2 ^ 63)) refl e
  where
    go : (r : Bool) → nat_lt m (2 ^ 63) ≡ r → cond {A = Option ℕ} r (Some m) None ≡ Some n → (Integer m ≡ Integer n) × (n < 2 ^ 63)
    go false h i = absurd (none-some n i)
    go true h i = let same = some_is m n i in (ap (λ z. Integer z) same, subst (λ z. z < 2 ^ 63) same (ltb-true m (2 ^ 63) h))

pub small_made : (t : Token) (us : List Token) (n : ℕ) → small_integer t.kind ≡ Some n → IsInteger (t ∷ us) us n
small_made t us n e = let parts = small_parts t.kind n e in record { is = token_made t (Integer n) us parts.0; fits = parts.1 }

pub small_taken : (n : ℕ) → n < 2 ^ 63 → small_integer (Integer n) ≡ Some n
small_taken n h = rw (lt-ltb n (2 ^ 63) h) refl

-- a value that comes with an integer
pub record Plain {A : Type 0} (f : ℕ → A) (ts us : List Token) (x : A) : Type 0 where
  pub number : ℕ
  pub is : IsInteger ts us number
  pub value : x ≡ f number

abbrev one : Token
one = record { kind = Integer 1; line = 1 }

pub exact_plain : {A : Type 0} (f : ℕ → A) → Exact (Plain f) (Plain f) any (first_at (λ t. option_map f (small_integer t.kind))) (first_at (λ t. option_map f (small_integer t.kind)))
exact_plain f = same_first (λ t. option_map f (small_integer t.kind)) (Plain f) one (f 1) refl
    (λ t us x e. map_parts f (small_integer t.kind) x e (λ n small same. record { number = n; is = small_made t us n small; value = same }))
    (λ ts us x p. record { token = record { kind = Integer p.number; line = p.is.is.line }; is = p.is.is.is; takes = ap (option_map f) (small_taken p.number p.is.fits) ∙ ap (λ z. Some z) (sym p.value) })

-- an integer behind a -
pub record Negated (ts us : List Token) (x : ℤ) : Type 0 where
  pub number : ℕ
  pub is : IsToken (Integer number) ts us
  pub fits : number ≤ 2 ^ 63
  pub value : x ≡ neg_ℤ (pos number)

negated_parts : (kind : Kind) (x : ℤ) → negated kind ≡ Some x → (n : ℕ) × (kind ≡ Integer n) × (n ≤ 2 ^ 63) × (x ≡ neg_ℤ (pos n))
negated_parts (Word letters) x e = absurd (none-some x e)
negated_parts (Mark b) x e = absurd (none-some x e)
negated_parts (Integer m) x e = go (nat_le m (2 ^ 63)) refl e
  where
    go : (r : Bool) → nat_le m (2 ^ 63) ≡ r → cond {A = Option ℤ} r (Some (neg_ℤ (pos m))) None ≡ Some x → (n : ℕ) × (Integer m ≡ Integer n) × (n ≤ 2 ^ 63) × (x ≡ neg_ℤ (pos n))
    go false h i = absurd (none-some x i)
    go true h i = (m, refl, leb-true m (2 ^ 63) h, sym (some_is (neg_ℤ (pos m)) x i))

negated_taken : (n : ℕ) → n ≤ 2 ^ 63 → negated (Integer n) ≡ Some (neg_ℤ (pos n))
negated_taken n h = rw (le-leb n (2 ^ 63) h) refl

pub exact_negated : Exact Negated Negated any negated_at negated_at
exact_negated = same_first (λ t. negated t.kind) Negated one (neg_ℤ (pos 1)) refl
    (λ t us x e. let parts = negated_parts t.kind x e in record { number = parts.0; is = token_made t (Integer parts.0) us parts.1; fits = parts.2; value = parts.3 })
    (λ ts us x p. record { token = record { kind = Integer p.number; line = p.is.line }; is = p.is.is; takes = negated_taken p.number p.fits ∙ ap (λ z. Some z) (sym p.value) })

-- ---- now and later, + and -

-- a class with its line
abbrev pub Classes : Rule (Bool × ℕ)
Classes ts us c = IsWordAt (class_word c.0) ts us c.1

class_parts : (kind : Kind) (b : Bool) → piece_class kind ≡ Some b → kind ≡ Word (class_word b)
class_parts kind b e = go (has_word (codes "now") kind) (has_word (codes "later") kind) refl refl e
  where
    go : (n l : Bool) → has_word (codes "now") kind ≡ n → has_word (codes "later") kind ≡ l → cond {A = Option Bool} n (Some true) (cond l (Some false) None) ≡ Some b → kind ≡ Word (class_word b)
    go true l h i j = word_kind (codes "now") kind h ∙ ap (λ z. Word (class_word z)) (some_is true b j)
    go false true h i j = word_kind (codes "later") kind i ∙ ap (λ z. Word (class_word z)) (some_is false b j)
    go false false h i j = absurd (none-some b j)

class_taken : (b : Bool) → piece_class (Word (class_word b)) ≡ Some b
class_taken true = refl
class_taken false = refl

class_made : (t : Token) (us : List Token) (c : Bool × ℕ) → option_map (λ b. (b, t.line)) (piece_class t.kind) ≡ Some c → Classes (t ∷ us) us c
class_made t us c e = map_parts (λ b. (b, t.line)) (piece_class t.kind) c e (λ b is same.
    subst (λ z. Classes (t ∷ us) us z) (sym same) (record { is = ap (λ z. let u : Token = record { kind = z; line = t.line } in u ∷ us) (class_parts t.kind b is) }))

pub exact_class : Exact Classes Classes any class_at class_at
exact_class = same_first (λ t. option_map (λ b. (b, t.line)) (piece_class t.kind)) Classes (record { kind = Word (codes "now"); line = 1 }) (true, 1) refl class_made
    (λ ts us c i. record { token = record { kind = Word (class_word c.0); line = c.1 }; is = i.is; takes = ap (option_map (λ b. (b, c.1))) (class_taken c.0) })

abbrev pub sign_mark : Bool → ℕ
sign_mark b = cond b plus minus

abbrev pub Signs : Rule Bool
Signs ts us b = IsMark (sign_mark b) ts us

sign_parts : (kind : Kind) (b : Bool) → sign_of kind ≡ Some b → kind ≡ Mark (sign_mark b)
sign_parts kind b e = go (has_mark plus kind) (has_mark minus kind) refl refl e
  where
    go : (n l : Bool) → has_mark plus kind ≡ n → has_mark minus kind ≡ l → cond {A = Option Bool} n (Some true) (cond l (Some false) None) ≡ Some b → kind ≡ Mark (sign_mark b)
    go true l h i j = mark_kind plus kind h ∙ ap (λ z. Mark (sign_mark z)) (some_is true b j)
    go false true h i j = mark_kind minus kind i ∙ ap (λ z. Mark (sign_mark z)) (some_is false b j)
    go false false h i j = absurd (none-some b j)

sign_taken : (b : Bool) → sign_of (Mark (sign_mark b)) ≡ Some b
sign_taken true = refl
sign_taken false = refl

pub exact_sign : Exact Signs Signs any sign_at sign_at
exact_sign = same_first (λ t. sign_of t.kind) Signs (record { kind = Mark plus; line = 1 }) true refl
    (λ t us b e. token_made t (Mark (sign_mark b)) us (sign_parts t.kind b e))
    (λ ts us b i. record { token = record { kind = Mark (sign_mark b); line = i.line }; is = i.is; takes = sign_taken b })
