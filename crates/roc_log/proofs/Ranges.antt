-- What is in range has a spelling
use Rattle.std.proofs.Common.{◌≡◌, ℕ, suc, ◌+◌, ◌-◌, ◌<◌, ◌^◌, ℤ, Bool, true, false, ◌&&◌, IsTrue, FitsSigned, List, [], ◌∷◌, length, get_or, drop, Option, Some, None, refl, sym, ◌∙◌, ap, subst}
use Rattle.std.specs.List.{list_all, AllByRecursion}
use Rattle.std.specs.Int.{w64}
use Rattle.roc_sequence.specs.Rising.{IsRising}
use Rattle.roc_sequence.proofs.Fronts.{rest_at}
use Rattle.roc_base.specs.declared.id.TxnId.{TxnId}
use Rattle.roc_base.specs.Edge.{Dependency, HasTag}
use Rattle.roc_base.specs.Edges.{IsEdgeList, comes_before}
use Rattle.roc_depgraph.specs.declared.known.KnownList.{KnownList}
use Rattle.roc_msg.specs.Facts.{AreFacts, is_fact_before}
use Rattle.roc_wire.specs.Fits.{AllAlong, FitsId, FitsEdge, FitsEdges, last_from, FitsFact, room_behind, rises}
use Rattle.roc_log.specs.Spellable.{lists_in_range, id_in_range, edges_in_range}
use Rattle.roc_log.specs.Inner.InRange.{InRange, AreInRange}

-- each number of a list fits its width
pub nums_along : (nums : List ℤ) → AllByRecursion (FitsSigned w64) nums → AllAlong (λ (s : Unit {0}) n. FitsSigned w64 n) (λ s n. s) tt nums
nums_along [] h = tt
nums_along (n ∷ nums) h = (h.0, nums_along nums h.1)

pub versions_along : (versions : List ℕ) → ((i : ℕ) → get_or versions i 0 < 2 ^ 64) → AllAlong (λ (s : Unit {0}) n. n < 2 ^ 64) (λ s n. s) tt versions
versions_along [] h = tt
versions_along (n ∷ versions) h = (h 0, versions_along versions (λ i. h (suc i)))

-- the first of a list comes behind what was last
abbrev FirstEdge : Option TxnId → List Dependency → Type 0
FirstEdge last [] = Unit {0}
FirstEdge last (e ∷ es) = IsTrue (rises last e.from)

first_edge : (e : Dependency) (es : List Dependency) → AllByRecursion (λ y. IsTrue (comes_before e y)) es → FirstEdge (Some e.from) es
first_edge e [] h = tt
first_edge e (f ∷ es) h = h.0

edges_along : (last : Option TxnId) (es : List Dependency) → FirstEdge last es → IsRising comes_before es → AllByRecursion HasTag es → AllByRecursion InRange es → AllAlong FitsEdge last_from last es
edges_along last [] first rising tagged ranges = tt
edges_along last (e ∷ es) first rising tagged ranges =
    ((ranges.0.0, first, tagged.0, ranges.0.1), edges_along (Some e.from) es (first_edge e es rising.0) rising.1 tagged.1 ranges.1)

none_before : (es : List Dependency) → FirstEdge None es
none_before [] = tt
none_before (e ∷ es) = refl

pub edges_fit : (es : List Dependency) → IsEdgeList es → AllByRecursion InRange es → AllAlong FitsEdge last_from None es
edges_fit es list ranges = edges_along None es (none_before es) list.rising list.tagged ranges

abbrev FirstFact : Option TxnId → List KnownList → Type 0
FirstFact last [] = Unit {0}
FirstFact last (f ∷ fs) = IsTrue (rises last f.of)

first_fact : (f : KnownList) (fs : List KnownList) → AllByRecursion (λ y. IsTrue (is_fact_before f y)) fs → FirstFact (Some f.of) fs
first_fact f [] h = tt
first_fact f (g ∷ fs) h = h.0

facts_along : (last : Option TxnId) (n : ℕ) (fs : List KnownList) → FirstFact last fs → AreFacts fs → AreInRange n fs → AllAlong FitsFact room_behind (last, n) fs
facts_along last n [] first rising ranges = tt
facts_along last n (f ∷ fs) first rising ranges =
    ((ranges.0.0, first, ranges.0.1), facts_along (Some f.of) (n - length f.edges) fs (first_fact f fs rising.0) rising.1 ranges.1)

no_fact_before : (fs : List KnownList) → FirstFact None fs
no_fact_before [] = tt
no_fact_before (f ∷ fs) = refl

pub facts_fit : (n : ℕ) (fs : List KnownList) → AreFacts fs → AreInRange n fs → AllAlong FitsFact room_behind (None, n) fs
facts_fit n fs rising ranges = facts_along None n fs (no_fact_before fs) rising ranges

-- of a loop: one more of those left
pub all_left : {A : Type 0} (P : A → Type 0) (xs : List A) (i : ℕ) (x : A) → i < length xs → x ≡ get_or xs i x → P x → AllByRecursion P (drop (i + 1) xs) → AllByRecursion P (drop i xs)
all_left P xs i x below is p h = subst (AllByRecursion P) (sym (rest_at xs i x below)) (subst P is p, h)

pub test_left : {A : Type 0} (p : A → Bool) (xs : List A) (i : ℕ) (x : A) → i < length xs → x ≡ get_or xs i x → p x ≡ true → list_all p (drop (i + 1) xs) ≡ list_all p (drop i xs)
test_left p xs i x below is h =
    sym (ap (list_all p) (rest_at xs i x below) ∙ ap (λ b. b && list_all p (drop (i + 1) xs)) (sym (ap p is) ∙ h))

pub test_fails : {A : Type 0} (p : A → Bool) (xs : List A) (i : ℕ) (x : A) → i < length xs → x ≡ get_or xs i x → p x ≡ false → list_all p (drop i xs) ≡ false
test_fails p xs i x below is h = ap (list_all p) (rest_at xs i x below) ∙ ap (λ b. b && list_all p (drop (i + 1) xs)) (sym (ap p is) ∙ h)

pub lists_left : (n : ℕ) (xs : List KnownList) (i : ℕ) (x : KnownList) → i < length xs → x ≡ get_or xs i x → FitsId x.of × FitsEdges n x.edges → AreInRange (n - length x.edges) (drop (i + 1) xs) → AreInRange n (drop i xs)
lists_left n xs i x below is fits h =
    subst (AreInRange n) (sym (rest_at xs i x below))
    (subst (λ y. (FitsId y.of × FitsEdges n y.edges) × AreInRange (n - length y.edges) (drop (i + 1) xs)) is (fits, h))

pub lists_test : (n : ℕ) (xs : List KnownList) (i : ℕ) (x : KnownList) (b : Bool) → i < length xs → x ≡ get_or xs i x → (id_in_range x.of && edges_in_range n x.edges) ≡ b
    → lists_in_range n (drop i xs) ≡ (b && lists_in_range (n - length x.edges) (drop (i + 1) xs))
lists_test n xs i x b below is h =
    ap (lists_in_range n) (rest_at xs i x below)
    ∙ sym (ap (λ y. (id_in_range y.of && edges_in_range n y.edges) && lists_in_range (n - length y.edges) (drop (i + 1) xs)) is)
    ∙ ap (λ b. b && lists_in_range (n - length x.edges) (drop (i + 1) xs)) h
