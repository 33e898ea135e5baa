-- The text of an expression spells it, if the texts of its parts spell them; with the depth of the tokens.
use Rattle.std.proofs.Common.{◌≡◌, ℕ, ◌+◌, max, Bool, true, false, ◌||◌, List, ◌∷◌, ◌++◌, refl, sym, subst, append-nil}
use lib.Chars.{codes}
use Rattle.roc_lang.specs.Syntax.{Expression, Sum, Difference, Product, Minimum, Maximum, Less, Pick}
use Rattle.roc_lang.specs.Tokens.{Word, Mark, Token, IsTokenEnd, IsTokens}
use Rattle.roc_lang_print.proofs.Spelt.{blank, word, mark}
use Rattle.roc_lang.specs.Grammar.{comma, plus, minus, star, open_parenthesis, close_parenthesis}
use Rattle.roc_lang_parse.specs.Reading.{deeper}
use Rattle.roc_lang_parse.proofs.Depths.{Summed, Multiplied, Single, Paired, term, sum, difference, atom, product, parentheses, minimum, maximum, less, pick, pair}
use Rattle.roc_lang_print.specs.Canonical.{enclosed}
use Rattle.roc_lang_print.specs.UpToLines.{bare_expression}
use Rattle.roc_lang_print.proofs.Keywords.{min_word, max_word, less_word, pick_word}
use Rattle.roc_lang_print.proofs.Fit.{within}
use Rattle.roc_lang_print.proofs.Spelling.{grouped_3, grouped_5, grouped_7, Made, at_line, token_is}

-- a rule of the grammar for expressions
abbrev pub Rule : Type 1
Rule = List Token → List Token → Expression → Type 0

-- before anything that ends a token, the text spells tokens of the expression
abbrev pub Shown : Rule → List ℕ → Expression → Type 0
Shown Is text e = (line : ℕ) (rest : List ℕ) (others : List Token) → IsTokenEnd rest → IsTokens line rest others → Made Is bare_expression line (text ++ rest) others e

lifted : (Is Js : Rule) (t : List ℕ) (e : Expression) → ((a b : List Token) (x : Expression) → Is a b x → Js a b x) → Shown Is t e → Shown Js t e
lifted Is Js t e f p line rest others end i = let m = p line rest others end i in record { tokens = m.tokens; tree = m.tree; spelt = m.spelt; is = f m.tokens others m.tree m.is; same = m.same }

-- ---- operators

pub sum_shown : (d g : ℕ) (s t : List ℕ) (e f : Expression) → Shown (λ a b x. Summed a b x d) s e → Shown (λ a b x. Multiplied a b x g) t f → Shown (λ a b x. Summed a b x (deeper d g)) (s ++ codes " + " ++ t) (Sum e f)
sum_shown d g s t e f p q line rest others end i =
    let y = q line rest others end i in
    let x = p line (codes " + " ++ (t ++ rest)) (at_line (Mark plus) line ∷ y.tokens) refl (blank refl (mark refl (blank refl y.spelt))) in
    record {
      tokens = x.tokens;
      tree = Sum x.tree y.tree;
      spelt = subst (λ z. IsTokens line z x.tokens) (sym (grouped_3 s (codes " + ") t rest)) x.spelt;
      is = sum x.is (token_is (Mark plus) line y.tokens) y.is;
      same = λ i. Sum (x.same i) (y.same i);
    }

pub difference_shown : (d g : ℕ) (s t : List ℕ) (e f : Expression) → Shown (λ a b x. Summed a b x d) s e → Shown (λ a b x. Multiplied a b x g) t f → Shown (λ a b x. Summed a b x (deeper d g)) (s ++ codes " - " ++ t) (Difference e f)
difference_shown d g s t e f p q line rest others end i =
    let y = q line rest others end i in
    let x = p line (codes " - " ++ (t ++ rest)) (at_line (Mark minus) line ∷ y.tokens) refl (blank refl (mark refl (blank refl y.spelt))) in
    record {
      tokens = x.tokens;
      tree = Difference x.tree y.tree;
      spelt = subst (λ z. IsTokens line z x.tokens) (sym (grouped_3 s (codes " - ") t rest)) x.spelt;
      is = difference x.is (token_is (Mark minus) line y.tokens) y.is;
      same = λ i. Difference (x.same i) (y.same i);
    }

pub product_shown : (d g : ℕ) (s t : List ℕ) (e f : Expression) → Shown (λ a b x. Multiplied a b x d) s e → Shown (λ a b x. Single a b x g) t f → Shown (λ a b x. Multiplied a b x (deeper d g)) (s ++ codes " * " ++ t) (Product e f)
product_shown d g s t e f p q line rest others end i =
    let y = q line rest others end i in
    let x = p line (codes " * " ++ (t ++ rest)) (at_line (Mark star) line ∷ y.tokens) refl (blank refl (mark refl (blank refl y.spelt))) in
    record {
      tokens = x.tokens;
      tree = Product x.tree y.tree;
      spelt = subst (λ z. IsTokens line z x.tokens) (sym (grouped_3 s (codes " * ") t rest)) x.spelt;
      is = product x.is (token_is (Mark star) line y.tokens) y.is;
      same = λ i. Product (x.same i) (y.same i);
    }

-- ---- parentheses

parentheses_shown : (d : ℕ) (t : List ℕ) (e : Expression) → Shown (λ a b x. Summed a b x d) t e → Shown (λ a b x. Single a b x (d + 1)) (enclosed true t) e
parentheses_shown d t e p line rest others end i =
    let x = p line (codes ")" ++ rest) (at_line (Mark close_parenthesis) line ∷ others) refl (mark refl i) in
    record {
      tokens = at_line (Mark open_parenthesis) line ∷ x.tokens;
      tree = x.tree;
      spelt = subst (λ z. IsTokens line z (at_line (Mark open_parenthesis) line ∷ x.tokens)) (sym (grouped_3 (codes "(") t (codes ")") rest)) (mark refl x.spelt);
      is = parentheses (token_is (Mark open_parenthesis) line x.tokens) x.is (token_is (Mark close_parenthesis) line others);
      same = x.same;
    }

unenclosed_shown : (Is : Rule) (t : List ℕ) (e : Expression) → Shown Is t e → Shown Is (enclosed false t) e
unenclosed_shown Is t e p = subst (λ z. Shown Is z e) (sym (append-nil t)) p

-- what an expression is on its own, by whether it is + or -, and whether it is *
abbrev pub Own : (is_sum is_product : Bool) → ℕ → Rule
Own true p d a b e = Summed a b e d
Own false true d a b e = Multiplied a b e d
Own false false d a b e = Single a b e d

multiplied_summed : (d : ℕ) (t : List ℕ) (e : Expression) → Shown (λ a b x. Multiplied a b x d) t e → Shown (λ a b x. Summed a b x d) t e
multiplied_summed d t e p = lifted (λ a b x. Multiplied a b x d) (λ a b x. Summed a b x d) t e (λ a b x i. term i) p

single_multiplied : (d : ℕ) (t : List ℕ) (e : Expression) → Shown (λ a b x. Single a b x d) t e → Shown (λ a b x. Multiplied a b x d) t e
single_multiplied d t e p = lifted (λ a b x. Single a b x d) (λ a b x. Multiplied a b x d) t e (λ a b x i. atom i) p

pub as_summed : (s p : Bool) (d : ℕ) (t : List ℕ) (e : Expression) → Shown (Own s p d) t e → Shown (λ a b x. Summed a b x d) t e
as_summed true p d t e h = h
as_summed false true d t e h = multiplied_summed d t e h
as_summed false false d t e h = multiplied_summed d t e (single_multiplied d t e h)

pub as_multiplied : (s p : Bool) (d : ℕ) (t : List ℕ) (e : Expression) → Shown (Own s p d) t e → Shown (λ a b x. Multiplied a b x (within s d)) (enclosed s t) e
as_multiplied true p d t e h = single_multiplied (d + 1) (enclosed true t) e (parentheses_shown d t e h)
as_multiplied false true d t e h = unenclosed_shown (λ a b x. Multiplied a b x d) t e h
as_multiplied false false d t e h = unenclosed_shown (λ a b x. Multiplied a b x d) t e (single_multiplied d t e h)

pub as_single : (s p : Bool) (d : ℕ) (t : List ℕ) (e : Expression) → Shown (Own s p d) t e → Shown (λ a b x. Single a b x (within (s || p) d)) (enclosed (s || p) t) e
as_single true p d t e h = parentheses_shown d t e h
as_single false true d t e h = parentheses_shown d t e (multiplied_summed d t e h)
as_single false false d t e h = unenclosed_shown (λ a b x. Single a b x d) t e h

-- ---- functions

-- two operands in parentheses
record PairMade (d : ℕ) (line : ℕ) (bytes : List ℕ) (others : List Token) (e f : Expression) : Type 0 where
  tokens : List Token
  first : Expression
  second : Expression
  spelt : IsTokens line bytes tokens
  is : Paired tokens others first second d
  same_first : bare_expression first ≡ bare_expression e
  same_second : bare_expression second ≡ bare_expression f

pair_made : (d g : ℕ) (s t : List ℕ) (e f : Expression) → Shown (λ a b x. Summed a b x d) s e → Shown (λ a b x. Summed a b x g) t f → (line : ℕ) (rest : List ℕ) (others : List Token) → IsTokens line rest others → PairMade (max d g) line (codes "(" ++ (s ++ (codes "," ++ (t ++ (codes ")" ++ rest))))) others e f
pair_made d g s t e f p q line rest others i =
    let y = q line (codes ")" ++ rest) (at_line (Mark close_parenthesis) line ∷ others) refl (mark refl i) in
    let x = p line (codes "," ++ (t ++ (codes ")" ++ rest))) (at_line (Mark comma) line ∷ y.tokens) refl (mark refl y.spelt) in
    record {
      tokens = at_line (Mark open_parenthesis) line ∷ x.tokens;
      first = x.tree;
      second = y.tree;
      spelt = mark refl x.spelt;
      is = pair (token_is (Mark open_parenthesis) line x.tokens) x.is (token_is (Mark comma) line y.tokens) y.is (token_is (Mark close_parenthesis) line others);
      same_first = x.same;
      same_second = y.same;
    }

pub minimum_shown : (d g : ℕ) (s t : List ℕ) (e f : Expression) → Shown (λ a b x. Summed a b x d) s e → Shown (λ a b x. Summed a b x g) t f → Shown (λ a b x. Single a b x (max d g + 1)) (codes "min(" ++ s ++ codes "," ++ t ++ codes ")") (Minimum e f)
minimum_shown d g s t e f p q line rest others end i =
    let x = pair_made d g s t e f p q line rest others i in
    let ts : List Token = at_line (Word (codes "min")) line ∷ x.tokens in
    record {
      tokens = ts;
      tree = Minimum x.first x.second;
      spelt = subst (λ z. IsTokens line z ts) (sym (grouped_5 (codes "min(") s (codes ",") t (codes ")") rest)) (word (codes "min") refl min_word refl x.spelt);
      is = minimum (token_is (Word (codes "min")) line x.tokens) x.is;
      same = λ i. Minimum (x.same_first i) (x.same_second i);
    }

pub maximum_shown : (d g : ℕ) (s t : List ℕ) (e f : Expression) → Shown (λ a b x. Summed a b x d) s e → Shown (λ a b x. Summed a b x g) t f → Shown (λ a b x. Single a b x (max d g + 1)) (codes "max(" ++ s ++ codes "," ++ t ++ codes ")") (Maximum e f)
maximum_shown d g s t e f p q line rest others end i =
    let x = pair_made d g s t e f p q line rest others i in
    let ts : List Token = at_line (Word (codes "max")) line ∷ x.tokens in
    record {
      tokens = ts;
      tree = Maximum x.first x.second;
      spelt = subst (λ z. IsTokens line z ts) (sym (grouped_5 (codes "max(") s (codes ",") t (codes ")") rest)) (word (codes "max") refl max_word refl x.spelt);
      is = maximum (token_is (Word (codes "max")) line x.tokens) x.is;
      same = λ i. Maximum (x.same_first i) (x.same_second i);
    }

pub less_shown : (d g : ℕ) (s t : List ℕ) (e f : Expression) → Shown (λ a b x. Summed a b x d) s e → Shown (λ a b x. Summed a b x g) t f → Shown (λ a b x. Single a b x (max d g + 1)) (codes "less(" ++ s ++ codes "," ++ t ++ codes ")") (Less e f)
less_shown d g s t e f p q line rest others end i =
    let x = pair_made d g s t e f p q line rest others i in
    let ts : List Token = at_line (Word (codes "less")) line ∷ x.tokens in
    record {
      tokens = ts;
      tree = Less x.first x.second;
      spelt = subst (λ z. IsTokens line z ts) (sym (grouped_5 (codes "less(") s (codes ",") t (codes ")") rest)) (word (codes "less") refl less_word refl x.spelt);
      is = less (token_is (Word (codes "less")) line x.tokens) x.is;
      same = λ i. Less (x.same_first i) (x.same_second i);
    }

pub pick_shown : (d g h : ℕ) (s t u : List ℕ) (e f k : Expression) → Shown (λ a b x. Summed a b x d) s e → Shown (λ a b x. Summed a b x g) t f → Shown (λ a b x. Summed a b x h) u k
    → Shown (λ a b x. Single a b x (max d (max g h) + 1)) (codes "pick(" ++ s ++ codes "," ++ t ++ codes "," ++ u ++ codes ")") (Pick e f k)
pick_shown d g h s t u e f k p q r line rest others end i =
    let z = r line (codes ")" ++ rest) (at_line (Mark close_parenthesis) line ∷ others) refl (mark refl i) in
    let y = q line (codes "," ++ (u ++ (codes ")" ++ rest))) (at_line (Mark comma) line ∷ z.tokens) refl (mark refl z.spelt) in
    let x = p line (codes "," ++ (t ++ (codes "," ++ (u ++ (codes ")" ++ rest))))) (at_line (Mark comma) line ∷ y.tokens) refl (mark refl y.spelt) in
    let ts : List Token = at_line (Word (codes "pick")) line ∷ at_line (Mark open_parenthesis) line ∷ x.tokens in
    record {
      tokens = ts;
      tree = Pick x.tree y.tree z.tree;
      spelt = subst (λ b. IsTokens line b ts) (sym (grouped_7 (codes "pick(") s (codes ",") t (codes ",") u (codes ")") rest)) (word (codes "pick") refl pick_word refl (mark refl x.spelt));
      is = pick (token_is (Word (codes "pick")) line (at_line (Mark open_parenthesis) line ∷ x.tokens)) (token_is (Mark open_parenthesis) line x.tokens) x.is
          (token_is (Mark comma) line y.tokens) y.is (token_is (Mark comma) line z.tokens) z.is (token_is (Mark close_parenthesis) line others);
      same = λ i. Pick (x.same i) (y.same i) (z.same i);
    }
