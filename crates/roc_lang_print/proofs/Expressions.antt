-- The text of an expression spells it, and is as deep as its canonical text.
use Rattle.std.proofs.Common.{ℕ, ◌^◌, ◌<◌, ◌≤◌, ◌∷◌, refl, ap, arith}
use Rattle.std.specs.Prelude.{pos, negsuc}
use Rattle.std.specs.Fmt as fmt
use Rattle.roc_lang.specs.Syntax.{Name, Expression, Number, Variable, Sum, Difference, Product, Minimum, Maximum, Less, Pick}
use Rattle.roc_lang.specs.Tokens.{Integer}
use Rattle.roc_lang.specs.Grammar.{IsExpression}
use Rattle.roc_lang_parse.proofs.Depths.{Single, number, variable, bounded_sum}
use Rattle.roc_lang_print.specs.Canonical.{is_sum, is_product, expression_text}
use Rattle.roc_lang_print.proofs.Fit.{IsFitName, IsFit, depth}
use Rattle.roc_lang_print.proofs.Spelling.{at_line, token_is, name_made, integer_spelt}
use Rattle.roc_lang_print.proofs.Operands.{Shown, Own, as_summed, as_multiplied, as_single, sum_shown, difference_shown, product_shown, minimum_shown, maximum_shown, less_shown, pick_shown}

number_shown : (n : ℕ) → n < 2 ^ 63 → Shown (λ a b x. Single a b x 1) (fmt.decimal n) (Number (pos n))
number_shown n fits line rest others end i = record {
  tokens = at_line (Integer n) line ∷ others;
  tree = Number (pos n);
  spelt = integer_spelt n (omega arith) line rest others end i;
  is = number (record { is = token_is (Integer n) line others; fits = fits });
  same = refl;
}

variable_shown : (name : Name) → IsFitName name → Shown (λ a b x. Single a b x 1) name.text (Variable name)
variable_shown name h line rest others end i =
    let m = name_made name h line rest others end i in
    record { tokens = m.tokens; tree = Variable m.tree; spelt = m.spelt; is = variable m.is; same = ap (λ n. Variable n) m.same }

-- each expression on its own
own_shown : (e : Expression) → IsFit e → Shown (Own (is_sum e) (is_product e) (depth e)) (expression_text e) e
own_shown (Number (pos n)) h = number_shown n h
own_shown (Number (negsuc n)) h = absurd h
own_shown (Variable name) h = variable_shown name h
own_shown (Sum e f) h = sum_shown _ _ _ _ e f (as_summed (is_sum e) (is_product e) _ _ e (own_shown e h.0)) (as_multiplied (is_sum f) (is_product f) _ _ f (own_shown f h.1))
own_shown (Difference e f) h = difference_shown _ _ _ _ e f (as_summed (is_sum e) (is_product e) _ _ e (own_shown e h.0)) (as_multiplied (is_sum f) (is_product f) _ _ f (own_shown f h.1))
own_shown (Product e f) h = product_shown _ _ _ _ e f (as_multiplied (is_sum e) (is_product e) _ _ e (own_shown e h.0)) (as_single (is_sum f) (is_product f) _ _ f (own_shown f h.1))
own_shown (Minimum e f) h = minimum_shown _ _ _ _ e f (as_summed (is_sum e) (is_product e) _ _ e (own_shown e h.0)) (as_summed (is_sum f) (is_product f) _ _ f (own_shown f h.1))
own_shown (Maximum e f) h = maximum_shown _ _ _ _ e f (as_summed (is_sum e) (is_product e) _ _ e (own_shown e h.0)) (as_summed (is_sum f) (is_product f) _ _ f (own_shown f h.1))
own_shown (Less e f) h = less_shown _ _ _ _ e f (as_summed (is_sum e) (is_product e) _ _ e (own_shown e h.0)) (as_summed (is_sum f) (is_product f) _ _ f (own_shown f h.1))
own_shown (Pick c e f) h = pick_shown _ _ _ _ _ _ c e f (as_summed (is_sum c) (is_product c) _ _ c (own_shown c h.0)) (as_summed (is_sum e) (is_product e) _ _ e (own_shown e h.1)) (as_summed (is_sum f) (is_product f) _ _ f (own_shown f h.2))

-- within each bound that the canonical text is within
pub expression_shown : (k : ℕ) (e : Expression) → IsFit e → depth e ≤ k → Shown (λ a b x. IsExpression k a b x) (expression_text e) e
expression_shown k e h shallow line rest others end i =
    let m = as_summed (is_sum e) (is_product e) (depth e) (expression_text e) e (own_shown e h) line rest others end i in
    record { tokens = m.tokens; tree = m.tree; spelt = m.spelt; is = bounded_sum m.is k shallow; same = m.same }
