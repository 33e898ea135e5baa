-- The grammar of expressions with the depth of each, instead of a bound of it.
use Rattle.std.proofs.Common.{ℕ, ◌+◌, ◌<◌, ◌≤◌, max, List, arith}
use Rattle.std.specs.Prelude.{pos}
use lib.Chars.{codes}
use Rattle.roc_lang.specs.Syntax.{Name, Expression, Number, Variable, Sum, Difference, Product, Minimum, Maximum, Less, Pick}
use Rattle.roc_lang.specs.Tokens.{Word, Token}
use Rattle.roc_lang.specs.Grammar as grammar
use Rattle.roc_lang.specs.Grammar.{IsToken, IsMark, IsName, IsInteger, IsExpression, IsTerm, IsAtom, IsPair, open_parenthesis, close_parenthesis, comma, plus, minus, star}
use Rattle.roc_lang_parse.specs.Reading.{deeper}

mutual
  pub data Summed : (tokens rest : List Token) → Expression → ℕ → Type 0 where
    term : {a b : List Token} {e : Expression} {d : ℕ} → Multiplied a b e d → Summed a b e d
    sum : {a b c z : List Token} {e f : Expression} {d g : ℕ} → Summed a b e d → IsMark plus b c → Multiplied c z f g → Summed a z (Sum e f) (deeper d g)
    difference : {a b c z : List Token} {e f : Expression} {d g : ℕ} → Summed a b e d → IsMark minus b c → Multiplied c z f g → Summed a z (Difference e f) (deeper d g)

  pub data Multiplied : (tokens rest : List Token) → Expression → ℕ → Type 0 where
    atom : {a b : List Token} {e : Expression} {d : ℕ} → Single a b e d → Multiplied a b e d
    product : {a b c z : List Token} {e f : Expression} {d g : ℕ} → Multiplied a b e d → IsMark star b c → Single c z f g → Multiplied a z (Product e f) (deeper d g)

  pub data Single : (tokens rest : List Token) → Expression → ℕ → Type 0 where
    number : {a b : List Token} {n : ℕ} → IsInteger a b n → Single a b (Number (pos n)) 1
    variable : {a b : List Token} {name : Name} → IsName a b name → Single a b (Variable name) 1
    parentheses : {a b c z : List Token} {e : Expression} {d : ℕ} → IsMark open_parenthesis a b → Summed b c e d → IsMark close_parenthesis c z → Single a z e (d + 1)
    minimum : {a b c : List Token} {e f : Expression} {d : ℕ} → IsToken (Word (codes "min")) a b → Paired b c e f d → Single a c (Minimum e f) (d + 1)
    maximum : {a b c : List Token} {e f : Expression} {d : ℕ} → IsToken (Word (codes "max")) a b → Paired b c e f d → Single a c (Maximum e f) (d + 1)
    less : {a b c : List Token} {e f : Expression} {d : ℕ} → IsToken (Word (codes "less")) a b → Paired b c e f d → Single a c (Less e f) (d + 1)
    pick : {a b c d e f g h i : List Token} {x y z : Expression} {l m n : ℕ}
        → IsToken (Word (codes "pick")) a b → IsMark open_parenthesis b c → Summed c d x l → IsMark comma d e → Summed e f y m → IsMark comma f g → Summed g h z n → IsMark close_parenthesis h i → Single a i (Pick x y z) (max l (max m n) + 1)

  pub data Paired : (tokens rest : List Token) (first second : Expression) → ℕ → Type 0 where
    pair : {a b c d e f : List Token} {x y : Expression} {l m : ℕ}
        → IsMark open_parenthesis a b → Summed b c x l → IsMark comma c d → Summed d e y m → IsMark close_parenthesis e f → Paired a f x y (max l m)

-- ---- none is of depth 0

pub single_deep : {a b : List Token} {e : Expression} {d : ℕ} → Single a b e d → 1 ≤ d
single_deep (number i) = omega arith
single_deep (variable i) = omega arith
single_deep (parentheses o x c) = omega arith
single_deep (minimum w p) = omega arith
single_deep (maximum w p) = omega arith
single_deep (less w p) = omega arith
single_deep (pick w o x c y k z p) = omega arith

pub multiplied_deep : {a b : List Token} {e : Expression} {d : ℕ} → Multiplied a b e d → 1 ≤ d
multiplied_deep (atom s) = single_deep s
multiplied_deep (product e s f) = omega arith

pub summed_deep : {a b : List Token} {e : Expression} {d : ℕ} → Summed a b e d → 1 ≤ d
summed_deep (term m) = multiplied_deep m
summed_deep (sum e s f) = omega arith
summed_deep (difference e s f) = omega arith

-- ---- what has a depth is within each bound that is no less

mutual
  pub bounded_sum : {a b : List Token} {e : Expression} {d : ℕ} → Summed a b e d → (k : ℕ) → d ≤ k → IsExpression k a b e
  bounded_sum (term m) k h = grammar.term (bounded_term m k h)
  bounded_sum (sum {d = d} {g = g} e s f) k h = let l : d ≤ max d g = omega arith in let r : g ≤ max d g = omega arith in let below : max d g < k = omega arith in grammar.sum {below = max d g} below (bounded_sum e (max d g) l) s (bounded_term f (max d g) r)
  bounded_sum (difference {d = d} {g = g} e s f) k h = let l : d ≤ max d g = omega arith in let r : g ≤ max d g = omega arith in let below : max d g < k = omega arith in grammar.difference {below = max d g} below (bounded_sum e (max d g) l) s (bounded_term f (max d g) r)

  pub bounded_term : {a b : List Token} {e : Expression} {d : ℕ} → Multiplied a b e d → (k : ℕ) → d ≤ k → IsTerm k a b e
  bounded_term (atom s) k h = grammar.atom (bounded_atom s k h)
  bounded_term (product {d = d} {g = g} e s f) k h = let l : d ≤ max d g = omega arith in let r : g ≤ max d g = omega arith in let below : max d g < k = omega arith in grammar.product {below = max d g} below (bounded_term e (max d g) l) s (bounded_atom f (max d g) r)

  pub bounded_atom : {a b : List Token} {e : Expression} {d : ℕ} → Single a b e d → (k : ℕ) → d ≤ k → IsAtom k a b e
  bounded_atom (number i) k h = grammar.number (omega arith) i
  bounded_atom (variable i) k h = grammar.variable (omega arith) i
  bounded_atom (parentheses {d = d} o x c) k h = let same : d ≤ d = omega arith in let below : d < k = omega arith in grammar.parentheses {below = d} below o (bounded_sum x d same) c
  bounded_atom (minimum {d = d} w p) k h = let same : d ≤ d = omega arith in let below : d < k = omega arith in grammar.minimum {below = d} below w (bounded_pair p d same)
  bounded_atom (maximum {d = d} w p) k h = let same : d ≤ d = omega arith in let below : d < k = omega arith in grammar.maximum {below = d} below w (bounded_pair p d same)
  bounded_atom (less {d = d} w p) k h = let same : d ≤ d = omega arith in let below : d < k = omega arith in grammar.less {below = d} below w (bounded_pair p d same)
  bounded_atom (pick {l = l} {m = m} {n = n} w o x c y s z p) k h =
      let below : max l (max m n) < k = omega arith in
      let at_x : l ≤ max l (max m n) = omega arith in
      let at_y : m ≤ max l (max m n) = omega arith in
      let at_z : n ≤ max l (max m n) = omega arith in
      grammar.pick {below = max l (max m n)} below w o (bounded_sum x (max l (max m n)) at_x) c (bounded_sum y (max l (max m n)) at_y) s (bounded_sum z (max l (max m n)) at_z) p

  pub bounded_pair : {a b : List Token} {e f : Expression} {d : ℕ} → Paired a b e f d → (k : ℕ) → d ≤ k → IsPair k a b e f
  bounded_pair (pair {l = l} {m = m} o x c y p) k h = let at_x : l ≤ k = omega arith in let at_y : m ≤ k = omega arith in grammar.pair o (bounded_sum x k at_x) c (bounded_sum y k at_y) p

-- ---- what is within a bound has a depth

pub record SumDeep (k : ℕ) (a b : List Token) (e : Expression) : Type 0 where
  pub depth : ℕ
  pub is : Summed a b e depth
  pub fits : depth ≤ k

pub record TermDeep (k : ℕ) (a b : List Token) (e : Expression) : Type 0 where
  pub depth : ℕ
  pub is : Multiplied a b e depth
  pub fits : depth ≤ k

pub record AtomDeep (k : ℕ) (a b : List Token) (e : Expression) : Type 0 where
  pub depth : ℕ
  pub is : Single a b e depth
  pub fits : depth ≤ k

pub record PairDeep (k : ℕ) (a b : List Token) (e f : Expression) : Type 0 where
  pub depth : ℕ
  pub is : Paired a b e f depth
  pub fits : depth ≤ k

mutual
  pub deep_sum : {k : ℕ} {a b : List Token} {e : Expression} → IsExpression k a b e → SumDeep k a b e
  deep_sum (grammar.term t) = let x = deep_term t in record { depth = x.depth; is = term x.is; fits = x.fits }
  deep_sum (grammar.sum h e s f) = let x = deep_sum e in let y = deep_term f in record { depth = deeper x.depth y.depth; is = sum x.is s y.is; fits = omega (arith, x.fits, y.fits) }
  deep_sum (grammar.difference h e s f) = let x = deep_sum e in let y = deep_term f in record { depth = deeper x.depth y.depth; is = difference x.is s y.is; fits = omega (arith, x.fits, y.fits) }

  pub deep_term : {k : ℕ} {a b : List Token} {e : Expression} → IsTerm k a b e → TermDeep k a b e
  deep_term (grammar.atom t) = let x = deep_atom t in record { depth = x.depth; is = atom x.is; fits = x.fits }
  deep_term (grammar.product h e s f) = let x = deep_term e in let y = deep_atom f in record { depth = deeper x.depth y.depth; is = product x.is s y.is; fits = omega (arith, x.fits, y.fits) }

  pub deep_atom : {k : ℕ} {a b : List Token} {e : Expression} → IsAtom k a b e → AtomDeep k a b e
  deep_atom (grammar.number h i) = record { depth = 1; is = number i; fits = omega arith }
  deep_atom (grammar.variable h i) = record { depth = 1; is = variable i; fits = omega arith }
  deep_atom (grammar.parentheses h o e c) = let x = deep_sum e in record { depth = x.depth + 1; is = parentheses o x.is c; fits = omega (arith, x.fits) }
  deep_atom (grammar.minimum h w p) = let x = deep_pair p in record { depth = x.depth + 1; is = minimum w x.is; fits = omega (arith, x.fits) }
  deep_atom (grammar.maximum h w p) = let x = deep_pair p in record { depth = x.depth + 1; is = maximum w x.is; fits = omega (arith, x.fits) }
  deep_atom (grammar.less h w p) = let x = deep_pair p in record { depth = x.depth + 1; is = less w x.is; fits = omega (arith, x.fits) }
  deep_atom (grammar.pick h w o e c f s g p) = let x = deep_sum e in let y = deep_sum f in let z = deep_sum g in record { depth = max x.depth (max y.depth z.depth) + 1; is = pick w o x.is c y.is s z.is p; fits = omega (arith, x.fits, y.fits, z.fits) }

  pub deep_pair : {k : ℕ} {a b : List Token} {e f : Expression} → IsPair k a b e f → PairDeep k a b e f
  deep_pair (grammar.pair o e c f p) = let x = deep_sum e in let y = deep_sum f in record { depth = max x.depth y.depth; is = pair o x.is c y.is p; fits = omega (arith, x.fits, y.fits) }
