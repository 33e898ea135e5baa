-- The row that ends, if one does, and its mark
use Rattle.std.proofs.Common.{◌≡◌, ℕ, List, length, Option, Some, None, refl, sym, ap, ◌∙◌}
use Rattle.roc_server_rows.specs.declared.rows.Row.{Row}
use Rattle.roc_server_rows.specs.declared.marks.Mark.{Mark}
use Rattle.roc_server_rows.specs.Rows.{row_in}
use Rattle.roc_server_rows.specs.Inner.Marks.{Drops}
use Rattle.roc_server_rows.specs.Marks.{mark_in, EndsAt, IsOut}

none_some : (n : ℕ) (o : Option ℕ) → o ≡ None → ¬ (o ≡ Some n)
none_some n o e q = let no : None ≡ Some n = sym e ∙ q in absurd (cc)

pub one_found : (m n : ℕ) (o : Option ℕ) → o ≡ Some m → o ≡ Some n → n ≡ m
one_found m n o e q = let two : Some m ≡ Some n = sym e ∙ q in let one : m ≡ n = cc in sym one

pub ends_at : (found : Option ℕ) (n : ℕ) (old new : List Row) (marks marks2 : List Mark) → found ≡ Some n → length new ≡ length old → IsOut n old new → Drops n marks marks2
    → EndsAt found old new marks marks2
ends_at found n old new marks marks2 here each o d =
    record {
      each = d.each;
      rows = each;
      own = λ k q. ap (λ j. (mark_in marks2 j).decided) (one_found n k found here q) ∙ d.own;
      decided = λ k none. d.decided k (λ e. none (here ∙ ap Some (sym e)));
      ids = λ k none. ap (λ (r : Row). r.id) (o.others k (λ e. none (here ∙ ap Some (sym e))));
    }

pub ends_none : (found : Option ℕ) (old new : List Row) (marks : List Mark) → found ≡ None → new ≡ old → EndsAt found old new marks marks
ends_none found old new marks absent same =
    record {
      each = refl;
      rows = ap length same;
      own = λ k q. absurd (none_some k found absent q);
      decided = λ k none. refl;
      ids = λ k none. ap (λ (rs : List Row). (row_in rs k).id) same;
    }
