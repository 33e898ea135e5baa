-- The laws of ids of rows that the type needs: its order, and how they are kept
use Rattle.std.proofs.Common.{◌≡◌, ℕ, ℤ, pos, ◌-◌, true, List, ◌++◌, length, take, replicate, sym, ap, ◌∙◌, arith}
use Rattle.std.proofs.lemmas.List.{length-take-le, take-append-drop}
use Rattle.std.specs.Cmp.{IsPartialOrder, signed_Decides, po}
use Rattle.std.specs.Hash as fed
use Rattle.std.specs.Hash.{items_Alike, same_Alike}
use Rattle.std.specs.Ordering.{as_partial_cmp}
use Rattle.roc_base.specs.Equality.{is_nums}
use Rattle.roc_base.specs.Key.{key_cmp}
use Rattle.roc_base.specs.Inner.Shape.{IsKeyShape}
use Rattle.roc_base.specs.KeyOrder.{key_cmp-total, is_nums-by_cmp}

pub key_partial_order : IsPartialOrder is_nums (as_partial_cmp key_cmp)
key_partial_order = po key_cmp-total is_nums-by_cmp

-- equal ids are hashed alike
pub key_alike : (x y : List ℤ) → is_nums x y ≡ true → fed.slice fed.i64 x ≡ fed.slice fed.i64 y
key_alike = (items_Alike (same_Alike fed.i64 signed_Decides)).fed

-- the fields from the integers
pub given_len : (len : ℕ) (numbers : List ℤ) → IsKeyShape len numbers → length (take len numbers) ≡ len
given_len len numbers h = length-take-le len numbers (omega (arith, h.few, h.four))

pub given_numbers : (len : ℕ) (numbers : List ℤ) → IsKeyShape len numbers → take len numbers ++ replicate (4 - length (take len numbers)) (pos 0) ≡ numbers
given_numbers len numbers h =
    ap (λ n. take len numbers ++ replicate (4 - n) (pos 0)) (given_len len numbers h)
    ∙ ap (λ zeros. take len numbers ++ zeros) (sym h.rest)
    ∙ take-append-drop len numbers
