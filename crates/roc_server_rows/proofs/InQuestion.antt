-- The rows in question, and what of them is decided
use Rattle.std.proofs.Common.{◌≡◌, ◌<◌, ◌&&◌, ℕ, zero, suc, Bool, true, false, not, cond, List, [], ◌∷◌, length, filter, Option, refl, sym, ap, ◌∙◌, subst, arith}
use Rattle.std.proofs.lemmas.Bool.{false≢true}
use Rattle.std.specs.Prelude.{nat_lt}
use Rattle.roc_sequence.proofs.Members.{has_filter, from_has_filter}
use Rattle.roc_sequence.proofs.Holds.{has_all}
use Rattle.roc_base.specs.declared.id.TxnId.{TxnId}
use Rattle.roc_depgraph.specs.declared.known.KnownList.{KnownList}
use Rattle.roc_depgraph.specs.Deps.{IsDecided}
use Rattle.roc_server_rows.specs.declared.rows.Row.{Row}
use Rattle.roc_server_rows.specs.declared.marks.Mark.{Mark}
use Rattle.roc_server_rows.specs.Rows.{row_in, is_told, row_links, IsRowTable}
use Rattle.roc_server_rows.specs.LinksBut.{links_but}
use Rattle.roc_server_rows.specs.Except.{rows_but, IsExceptLive}
use Rattle.roc_server_rows.specs.Inner.Marks.{is_in_question, AreInQuestion, FindsNew}
use Rattle.roc_server_rows.specs.Marks.{mark_in, AreNewRowsBut, AreOpen, AreSameDecided, EachOnce, IsOpen}
use Rattle.roc_server_rows.proofs.Excepted.{links_of_but, row_at_but, table_but, told_but}

-- ---- the rows in question

pub once_filter : (p : ℕ → Bool) (ns : List ℕ) → EachOnce ns → EachOnce (filter p ns)
once_filter p [] o = tt
once_filter p (n ∷ ns) o = go (p n) (once_filter p ns o.1)
  where
    go : (b : Bool) → EachOnce (filter p ns) → EachOnce (cond b (n ∷ filter p ns) (filter p ns))
    go true i = (λ h. o.0 (from_has_filter p n ns h).0, i)
    go false i = i

-- what has a list has a number
pub told_within : (rows : List Row) (n : ℕ) → is_told (row_in rows n) ≡ true → n < length rows
told_within [] n h = absurd (false≢true h)
told_within (r ∷ rs) zero h = omega arith
told_within (r ∷ rs) (suc n) h = omega (arith, told_within rs n h)

test_all : (d w t : Bool) → (not d && (not w && t)) ≡ true → (d ≡ false) × (t ≡ true)
test_all true w t h = absurd (false≢true h)
test_all false true t h = absurd (false≢true h)
test_all false false t h = (refl, h)

all_test : (d w t : Bool) → d ≡ false → w ≡ false → t ≡ true → (not d && (not w && t)) ≡ true
all_test d w t e f g = ap (λ b. not b && (not w && t)) e ∙ (ap (λ b. not b && t) f ∙ g)

none_below : (k : ℕ) → k ≡ 0 → nat_lt 0 k ≡ false
none_below k e = ap (nat_lt 0) e

pub are_in_question : (except : Option ℕ) (rows : List Row) (first marks : List Mark) (open_ns ns : List ℕ) → AreOpen rows first open_ns → AreSameDecided first marks → length marks ≡ length first
    → ns ≡ filter (is_in_question rows marks) open_ns → AreInQuestion (rows_but except rows) marks ns
are_in_question except rows first marks open_ns ns o same each is =
    subst (AreInQuestion (rows_but except rows) marks) (sym is)
    (record {
      open_rows = has_all (IsOpen (rows_but except rows) marks) (filter (is_in_question rows marks) open_ns) (λ n h.
          let w = from_has_filter (is_in_question rows marks) n open_ns h in
          let q = test_all (mark_in marks n).decided (nat_lt 0 (mark_in marks n).waits.birth) (is_told (row_in rows n)) w.1 in
          record { within = omega (arith, (o.only n w.0).within, each); told = told_but except rows n ∙ q.1; undecided = q.0 });
      all = λ n told undecided free.
          let was : is_told (row_in rows n) ≡ true = sym (told_but except rows n) ∙ told in
          has_filter (is_in_question rows marks) n open_ns (o.all n was (sym (same n) ∙ undecided))
          (all_test (mark_in marks n).decided (nat_lt 0 (mark_in marks n).waits.birth) (is_told (row_in rows n)) undecided (none_below (mark_in marks n).waits.birth free) was);
      once = once_filter (is_in_question rows marks) open_ns o.once;
    })

-- ---- what was found, of all rows and links

pub found_new : (except : Option ℕ) (rows : List Row) (old now : List Mark) (ns : List ℕ) → AreSameDecided old now → IsExceptLive except rows → FindsNew (rows_but except rows) now ns
    → (numbers : List (TxnId × ℕ)) (stamp : ℕ) → IsRowTable numbers rows stamp → AreNewRowsBut except rows old ns
found_new except rows old now ns same live found numbers stamp t =
    let w = found numbers stamp (table_but except numbers rows stamp t) in
    record {
      only = λ n h.
          let k = w.only n h in
          record {
            told = sym (told_but except rows n) ∙ k.told;
            undecided = sym (same n) ∙ k.undecided;
            decided = subst (λ (ks : List KnownList). IsDecided ks (row_in rows n).id) links (subst (IsDecided (row_links (rows_but except rows))) (id_is n) k.decided);
          };
      all = λ n k. w.all n
          (record {
            told = told_but except rows n ∙ k.told;
            undecided = same n ∙ k.undecided;
            decided = subst (IsDecided (row_links (rows_but except rows))) (sym (id_is n)) (subst (λ (ks : List KnownList). IsDecided ks (row_in rows n).id) (sym links) k.decided);
          });
      once = w.once;
    }
  where
    links : row_links (rows_but except rows) ≡ links_but except rows
    links = links_of_but numbers rows stamp t except live

    id_is : (n : ℕ) → (row_in (rows_but except rows) n).id ≡ (row_in rows n).id
    id_is n = ap (λ (r : Row). r.id) (row_at_but except rows n)
