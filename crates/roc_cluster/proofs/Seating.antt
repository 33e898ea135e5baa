-- The rules of shards, and the addresses of a cluster
use Rattle.std.proofs.Common.{◌≡◌, ℕ, zero, suc, ◌+◌, ◌<◌, ◌≤◌, inl, inr, List, [], ◌∷◌, ◌++◌, length, map, Some, None, find, slice_get, refl, sym, ap, ◌∙◌, arith}
use Rattle.std.proofs.lemmas.Bool.{cases_lt}
use Rattle.std.proofs.lemmas.List.{length_push}
use Rattle.std.specs.List.{range_with_len}
use Rattle.toml.specs.Data.{Members}
use Rattle.roc_cluster.specs.declared.fault.ClusterFault.TheVariants.{Gap}
use Rattle.roc_io.specs.declared.link.Addr.{Addr}
use Rattle.roc_cluster.specs.declared.entry.Entry.{Entry}
use Rattle.roc_cluster.specs.Entries.{AreEntries, how_often}
use Rattle.roc_cluster.specs.File.{addr_in}
use Rattle.roc_cluster.specs.Rules.{present, IsFirstBroken, rules_of_shards}
use Rattle.roc_cluster.specs.Inner.Judged.{AreKept, Seats}
use Rattle.roc_cluster.proofs.Counts.{is_at, times_of_entries, not_found_none, found_some}

gap_from : (shards : ℕ) (tables : List Members) (start count n : ℕ) → start ≤ n → n < start + count → ((k : ℕ) → k < n → 0 < how_often shards tables k) → how_often shards tables n ≡ 0 → IsFirstBroken shards (map (present tables) (range_with_len start count)) (Gap (record { 0 = n }))
gap_from shards tables start zero n low high some none = absurd (omega arith)
gap_from shards tables start (suc count) n low high some none =
    elim (cases_lt start n) [
      | inl before ↦ inr (λ fault b. (let here = some start before in let gone = b.0 in omega arith), gap_from shards tables (start + 1) count n (omega arith) (omega arith) some none)
      | inr here ↦ (let same : n ≡ start = omega arith in inl (rw (← same) none, ap (λ k. Gap (record { 0 = k })) same))
    ]

-- the least shard without an entry is the first fault
pub gap_at : (shards : ℕ) (tables : List Members) (n : ℕ) → n < shards → ((k : ℕ) → k < n → 0 < how_often shards tables k) → how_often shards tables n ≡ 0 → IsFirstBroken shards (rules_of_shards shards tables) (Gap (record { 0 = n }))
gap_at shards tables n high some none = gap_from shards tables 0 shards n (omega arith) (omega arith) some none

kept_from : (shards : ℕ) (tables : List Members) (start count : ℕ) → ((k : ℕ) → k < start + count → 0 < how_often shards tables k) → AreKept shards (map (present tables) (range_with_len start count))
kept_from shards tables start zero some = tt
kept_from shards tables start (suc count) some =
    (λ fault b. (let here = some start (omega arith) in let gone = b.0 in omega arith), kept_from shards tables (start + 1) count (λ k low. some k (omega arith)))

pub shards_kept : (shards : ℕ) (tables : List Members) → ((k : ℕ) → k < shards → 0 < how_often shards tables k) → AreKept shards (rules_of_shards shards tables)
shards_kept shards tables some = kept_from shards tables 0 shards (λ k low. some k (omega arith))

-- lists that read alike at every place are one
pub same_list : {A : Type 0} (xs ys : List A) → length xs ≡ length ys → ((k : ℕ) → k < length xs → slice_get xs k ≡ slice_get ys k) → xs ≡ ys
same_list [] [] e same = refl
same_list [] (y ∷ ys) e same = absurd (omega arith)
same_list (x ∷ xs) [] e same = absurd (omega arith)
same_list (x ∷ xs) (y ∷ ys) e same =
    let head : Some x ≡ Some y = same 0 (omega arith) in
    let first : x ≡ y = cc in
    let rest = same_list xs ys (omega arith) (λ k low. same (suc k) (omega arith)) in
    cc

get_front : {A : Type 0} (xs : List A) (y : A) (k : ℕ) → k < length xs → slice_get (xs ++ y ∷ []) k ≡ slice_get xs k
get_front [] y k low = absurd (omega arith)
get_front (x ∷ xs) y zero low = refl
get_front (x ∷ xs) y (suc k) low = get_front xs y k (omega arith)

get_last : {A : Type 0} (xs : List A) (y : A) (k : ℕ) → k ≡ length xs → slice_get (xs ++ y ∷ []) k ≡ Some y
get_last [] y zero e = refl
get_last [] y (suc k) e = absurd (omega arith)
get_last (x ∷ xs) y zero e = absurd (omega arith)
get_last (x ∷ xs) y (suc k) e = get_last xs y k (omega arith)

-- the next shard has an entry
pub seats_more : (n : ℕ) (entries : List Entry) (addrs : List Addr) (entry : Entry) → Seats n entries addrs → find (is_at n) entries ≡ Some entry → Seats (n + 1) entries (addrs ++ entry.addr ∷ [])
seats_more n entries addrs entry s found = record {
  each = length_push addrs entry.addr ∙ ap (λ k. k + 1) s.each;
  some = λ k low. elim (cases_lt k n) [
    | inl before ↦ s.some k before
    | inr here ↦ (let same : k ≡ n = omega arith in rw same (found_some (is_at n) entries entry found))
  ];
  addrs = λ k low. elim (cases_lt k n) [
    | inl before ↦ (let long = s.each in get_front addrs entry.addr k (omega arith) ∙ s.addrs k before)
    | inr here ↦
        (let same : k ≡ n = omega arith in
        let long = s.each in
        let last : k ≡ length addrs = omega arith in
        let own : addr_in entries n ≡ Some entry.addr = rw found refl in
        get_last addrs entry.addr k last ∙ sym own ∙ ap (addr_in entries) (sym same))
  ];
}

-- the next shard has none
pub gap_told : (shards : ℕ) (entries : List Entry) (tables : List Members) (addrs : List Addr) (n : ℕ) → n < shards → Seats n entries addrs → find (is_at n) entries ≡ None → AreEntries shards tables entries → IsFirstBroken shards (rules_of_shards shards tables) (Gap (record { 0 = n }))
gap_told shards entries tables addrs n low s none are =
    gap_at shards tables n low (λ k before. rw (times_of_entries shards tables entries k are) (s.some k before)) (times_of_entries shards tables entries n are ∙ not_found_none (is_at n) entries none)
