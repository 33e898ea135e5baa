-- Reads with their holders, and what is looked at for them
use Rattle.std.proofs.Common.{◌≡◌, ◌≤◌, ◌+◌, ℕ, zero, suc, Bool, not, cond, List, [], ◌∷◌, ◌++◌, Option, Some, None, is_some, length, filter, drop, refl, sym, ap, ◌∙◌, arith, add-one}
use Rattle.std.proofs.lemmas.List.Elements.{filter-append}
use Rattle.std.specs.Prelude.{IsSome}
use Rattle.std.specs.List.{AllByRecursion}
use Rattle.roc_group.specs.declared.access.Access.{Access}
use Rattle.roc_group.specs.GroupRun.{group_uses}
use Rattle.roc_plan.specs.Groups.{Plan}
use Rattle.roc_server_index.specs.declared.group_ref.GroupRef.{GroupRef}
use Rattle.roc_step.specs.declared.kept_read.KeptRead.{KeptRead}
use Rattle.roc_step.specs.Reads.{read_call}
use Rattle.roc_server_reads.specs.Behind.{is_free_behind, AreHolders, IsHolder, LeftBehind}
use Rattle.roc_server_reads.specs.Inner.Parts.{if_held, if_unheld, of_each, who_holds}
use Rattle.roc_server_reads.specs.Looks.{first_hint, other_hints, looks_for, looks_for_all}
use Rattle.roc_server_reads.proofs.Holding.{held_so}

module _ (plan : Plan) (b : LeftBehind) where
  abbrev is_free : KeptRead → Bool
  is_free q = is_free_behind plan b q

  abbrev uses_of : KeptRead → List Access
  uses_of q = group_uses plan (read_call q) b.store

  pub as_many : (qs : List KeptRead) (hs : List (Option GroupRef)) → AreHolders plan b qs hs → length hs ≡ length qs
  as_many [] [] are = refl
  as_many [] (h ∷ hs) are = absurd are
  as_many (q ∷ qs) [] are = absurd are
  as_many (q ∷ qs) (h ∷ hs) are = let rest = as_many qs hs are.1 in omega arith

  -- ---- one read

  free_one : (q : KeptRead) (h : Option GroupRef) → IsHolder b (uses_of q) h → is_free q ≡ not (is_some h)
  free_one q None is = ap not is
  free_one q (Some r) is = ap not (held_so b (uses_of q) r is)

  pub unheld_one : (q : KeptRead) (h : Option GroupRef) → IsHolder b (uses_of q) h → if_unheld h q ≡ filter is_free (q ∷ [])
  unheld_one q None is = ap (λ t. cond t (q ∷ []) []) (sym (free_one q None is))
  unheld_one q (Some r) is = ap (λ t. cond t (q ∷ []) []) (sym (free_one q (Some r) is))

  pub held_one : (q : KeptRead) (h : Option GroupRef) → IsHolder b (uses_of q) h → if_held h q ≡ filter (λ x. not (is_free x)) (q ∷ [])
  held_one q None is = ap (λ t. cond (not t) (q ∷ []) []) (sym (free_one q None is))
  held_one q (Some r) is = ap (λ t. cond (not t) (q ∷ []) []) (sym (free_one q (Some r) is))

  pub holds_one : (q : KeptRead) (h : Option GroupRef) → IsHolder b (uses_of q) h → AreHolders plan b (if_held h q) (who_holds h q)
  holds_one q None is = tt
  holds_one q (Some r) is = (is, tt)

  -- ---- all of them

  pub unheld_are : (qs : List KeptRead) (hs : List (Option GroupRef)) → AreHolders plan b qs hs → of_each if_unheld hs qs ≡ filter is_free qs
  unheld_are [] [] are = refl
  unheld_are [] (h ∷ hs) are = absurd are
  unheld_are (q ∷ qs) [] are = absurd are
  unheld_are (q ∷ qs) (h ∷ hs) are = (λ i. unheld_one q h are.0 i ++ unheld_are qs hs are.1 i) ∙ sym (filter-append is_free (q ∷ []) qs)

  pub held_are : (qs : List KeptRead) (hs : List (Option GroupRef)) → AreHolders plan b qs hs → of_each if_held hs qs ≡ filter (λ q. not (is_free q)) qs
  held_are [] [] are = refl
  held_are [] (h ∷ hs) are = absurd are
  held_are (q ∷ qs) [] are = absurd are
  held_are (q ∷ qs) (h ∷ hs) are = (λ i. held_one q h are.0 i ++ held_are qs hs are.1 i) ∙ sym (filter-append (λ x. not (is_free x)) (q ∷ []) qs)

  pub holders_append : (qs rs : List KeptRead) (hs ks : List (Option GroupRef)) → AreHolders plan b qs hs → AreHolders plan b rs ks → AreHolders plan b (qs ++ rs) (hs ++ ks)
  holders_append [] rs [] ks are more = more
  holders_append [] rs (h ∷ hs) ks are more = absurd are
  holders_append (q ∷ qs) rs [] ks are more = absurd are
  holders_append (q ∷ qs) rs (h ∷ hs) ks are more = (are.0, holders_append qs rs hs ks are.1 more)

  pub holders_left : (qs : List KeptRead) (hs : List (Option GroupRef)) → AreHolders plan b qs hs → AreHolders plan b (of_each if_held hs qs) (of_each who_holds hs qs)
  holders_left [] [] are = tt
  holders_left [] (h ∷ hs) are = absurd are
  holders_left (q ∷ qs) [] are = absurd are
  holders_left (q ∷ qs) (h ∷ hs) are = holders_append (if_held h q) (of_each if_held hs qs) (who_holds h q) (of_each who_holds hs qs) (holds_one q h are.0) (holders_left qs hs are.1)

  -- where each is held up, none is free
  pub none_unheld : (qs : List KeptRead) (hs : List (Option GroupRef)) → AreHolders plan b qs hs → AllByRecursion IsSome hs → filter is_free qs ≡ []
  none_unheld [] [] are all = refl
  none_unheld [] (h ∷ hs) are all = absurd are
  none_unheld (q ∷ qs) [] are all = absurd are
  none_unheld (q ∷ qs) (None ∷ hs) are all = absurd (cc (all.0))
  none_unheld (q ∷ qs) (Some r ∷ hs) are all = ap (λ t. cond t (q ∷ filter is_free qs) (filter is_free qs)) (free_one q (Some r) are.0) ∙ none_unheld qs hs are.1 all.1

  -- ---- what is looked at

  pub looks_rest : (qs rest : List KeptRead) (q : KeptRead) (hints : List (Option GroupRef)) → qs ≡ q ∷ rest
      → looks_for_all plan b qs hints ≡ looks_for plan b q (first_hint hints) + looks_for_all plan b rest (other_hints hints)
  looks_rest qs rest q hints is = ap (λ xs. looks_for_all plan b xs hints) is

other_next : (hints : List (Option GroupRef)) (at : ℕ) → other_hints (drop at hints) ≡ drop (suc at) hints
other_next [] zero = refl
other_next [] (suc at) = refl
other_next (h ∷ hs) zero = refl
other_next (h ∷ hs) (suc at) = other_next hs at

pub other_drop : (hints : List (Option GroupRef)) (at : ℕ) → other_hints (drop at hints) ≡ drop (at + 1) hints
other_drop hints at = other_next hints at ∙ ap (λ (n : ℕ). drop n hints) (sym (add-one at))

-- what was looked at, with what is left, once one more read was
pub looks_more : (old new here first all rest others total : ℕ) → new ≤ old + here → old + all ≤ total → all ≡ first + rest → here ≡ first → rest ≡ others → new + others ≤ total
looks_more old new here first all rest others total one before parts is more = omega arith
