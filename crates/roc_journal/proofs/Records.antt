-- Journals of records, and of one record more.
use Rattle.std.proofs.Common.{◌≡◌, ◌⊎◌, inl, inr, ℕ, zero, suc, ◌+◌, List, [], ◌∷◌, ◌++◌, length, refl, sym, ◌∙◌, ap, arith, append_assoc, length-append}
use Rattle.std.proofs.lemmas.List.{append-nil}
use Rattle.std.specs.List.{AllByRecursion}
use Rattle.roc_journal.specs.declared.record.Record.{Record}
use Rattle.roc_journal.specs.Format.{head, datagram_of, record_bytes, opened}

-- what stands before the gate behind these records
abbrev pub front : List ℕ → List Record → List ℕ
front tag records = head tag ++ opened records

pub one_or_other : (n : ℕ) → (n ≡ 1) ⊎ ¬ (n ≡ 1)
one_or_other zero = inr (λ e. omega (arith, e))
one_or_other (suc zero) = inl refl
one_or_other (suc (suc n)) = inr (λ e. omega (arith, e))

pub all_more : {A : Type 0} (P : A → Type 0) (xs : List A) (x : A) → AllByRecursion P xs → P x → AllByRecursion P (xs ++ x ∷ [])
all_more P [] x each p = (p, tt)
all_more P (y ∷ ys) x each p = (each.0, all_more P ys x each.1 p)

pub record_size : (r : Record) → length (record_bytes r) ≡ 4 + length (datagram_of r)
unfolding record_bytes
record_size r = omega arith

opened_more : (records : List Record) (r : Record) → opened (records ++ r ∷ []) ≡ opened records ++ 1 ∷ record_bytes r
opened_more [] r = ap (λ (l : List ℕ). 1 ∷ l) (append-nil (record_bytes r))
opened_more (x ∷ xs) r =
    ap (λ (l : List ℕ). 1 ∷ record_bytes x ++ l) (opened_more xs r) ∙ ap (λ (l : List ℕ). 1 ∷ l) (sym (append_assoc (record_bytes x) (opened xs) (1 ∷ record_bytes r)))

pub front_more : (tag : List ℕ) (records : List Record) (r : Record) → front tag (records ++ r ∷ []) ≡ front tag records ++ 1 ∷ record_bytes r
front_more tag records r = ap (λ (l : List ℕ). head tag ++ l) (opened_more records r) ∙ sym (append_assoc (head tag) (opened records) (1 ∷ record_bytes r))

-- a record behind an open gate belongs to what stands before the next gate
pub gate_moves : (tag : List ℕ) (records : List Record) (r : Record) (gate : ℕ) (behind : List ℕ)
    → front tag records ++ 1 ∷ (record_bytes r ++ gate ∷ behind) ≡ front tag (records ++ r ∷ []) ++ gate ∷ behind
gate_moves tag records r gate behind =
    sym (append_assoc (front tag records) (1 ∷ record_bytes r) (gate ∷ behind)) ∙ ap (λ (l : List ℕ). l ++ gate ∷ behind) (sym (front_more tag records r))

pub front_size : (tag : List ℕ) (records : List Record) (r : Record) → length (front tag (records ++ r ∷ [])) ≡ length (front tag records) + 1 + length (record_bytes r)
front_size tag records r = omega (arith, ap length (front_more tag records r), length-append (front tag records) (1 ∷ record_bytes r))
