-- The rules of entries, one entry after the other
use Rattle.std.proofs.Common.{◌≡◌, ℕ, ◌<◌, ◌≤◌, List, [], ◌∷◌, ◌++◌, Some, None, false, inl, inr, refl, sym, ap, subst, ◌∙◌, arith, append_assoc}
use Rattle.std.proofs.lemmas.List.{append-nil}
use Rattle.toml.specs.Data.{Members}
use Rattle.roc_cluster.specs.declared.entry.Entry.{Entry}
use Rattle.roc_cluster.specs.declared.fault.ClusterFault.{ClusterFault}
use Rattle.roc_cluster.specs.declared.fault.ClusterFault.TheVariants.{Field}
use Rattle.roc_cluster.specs.declared.fault.FieldName.TheVariants as field
use Rattle.roc_cluster.specs.Entries.{AreEntries, IsEntry, HasHost, entry_keys, has_only, number_of, port_of, how_often}
use Rattle.roc_cluster.specs.Rules.{Rule, IsKept, IsFirstBroken, fresh, rules_of_fields, rules_of_entries}
use Rattle.roc_cluster.specs.Inner.Judged.{AreKept, Names, AreRead}
use Rattle.roc_cluster.proofs.Judging.{names_behind, names_before}
use Rattle.roc_cluster.proofs.Counts.{number_below, two_of}

-- an entry keeps the rules of its fields
pub fields_kept : (shards : ℕ) (table : Members) (entry : Entry) → IsEntry shards table entry → AreKept shards (rules_of_fields table)
fields_kept shards table entry e =
    let number = e.number in
    let port = e.port in
    let only = e.only in
    (λ fault b. (let none = b.0 in cc), (λ fault b. b.0 entry.addr.host e.host, (λ fault b. (let none = b.0 in cc), (λ fault b. (let none = b.0 in cc), tt))))

-- entries of which no two have one number keep the rules
pub entries_kept : (shards : ℕ) (earlier tables : List Members) (entries : List Entry) → AreEntries shards tables entries → ((n : ℕ) → n < shards → how_often shards (earlier ++ tables) n ≤ 1) → AreKept shards (rules_of_entries earlier tables)
entries_kept shards earlier [] [] all once = tt
entries_kept shards earlier [] (e ∷ es) all once = absurd all
entries_kept shards earlier (t ∷ ts) [] all once = absurd all
entries_kept shards earlier (t ∷ ts) (e ∷ es) all once =
    let fields = fields_kept shards t e all.0 in
    let new : IsKept shards (fresh earlier t) = λ fault b. (let two = two_of shards earlier ts t b.0 b.1 b.2 in let one = once b.0 (number_below shards t b.0 b.1) in omega arith) in
    let again : (n : ℕ) → n < shards → how_often shards ((earlier ++ t ∷ []) ++ ts) n ≤ 1 = λ n low. rw append_assoc (once n low) in
    (fields.0, (fields.1.0, (fields.1.1.0, (fields.1.1.1.0, (new, entries_kept shards (earlier ++ t ∷ []) ts es all.1 again)))))

pub reads_kept : (shards : ℕ) (tables : List Members) (entries : List Entry) → AreRead shards tables entries → AreKept shards (rules_of_entries [] tables)
reads_kept shards tables entries r = entries_kept shards [] tables entries r.read (λ n low. r.once n)

pub rules_append : (earlier xs ys : List Members) → rules_of_entries earlier (xs ++ ys) ≡ rules_of_entries earlier xs ++ rules_of_entries (earlier ++ xs) ys
rules_append earlier [] ys = ap (λ front. rules_of_entries front ys) (sym (append-nil earlier))
rules_append earlier (x ∷ xs) ys =
    let rest : rules_of_entries (earlier ++ x ∷ []) (xs ++ ys) ≡ rules_of_entries (earlier ++ x ∷ []) xs ++ rules_of_entries (earlier ++ x ∷ xs) ys =
    (let same : (earlier ++ x ∷ []) ++ xs ≡ earlier ++ x ∷ xs = simp append_assoc in
    rules_append (earlier ++ x ∷ []) xs ys ∙ ap (λ front. rules_of_entries (earlier ++ x ∷ []) xs ++ rules_of_entries front ys) same) in
    rw rest

-- the rules of one entry, behind earlier ones
abbrev pub rules_at : List Members → Members → List Rule
rules_at earlier table = rules_of_fields table ++ (fresh earlier table ∷ [])

-- a fault at an entry behind those that were read is the first of all
pub named_at : (shards : ℕ) (done rest : List Members) (table : Members) (entries : List Entry) (fault : ClusterFault) → AreRead shards done entries → Names shards (rules_at done table) fault → Names shards (rules_of_entries [] (done ++ table ∷ rest)) fault
named_at shards done rest table entries fault r named =
    let here = names_before shards (rules_at done table) (rules_of_entries (done ++ table ∷ []) rest) fault named in
    let whole = names_behind shards (rules_of_entries [] done) (rules_of_entries done (table ∷ rest)) fault (reads_kept shards done entries r) here in
    subst (λ (rules : List Rule). Names shards rules fault) (sym (rules_append [] done (table ∷ rest))) whole

-- entries, and one more at the end
pub entries_push : (shards : ℕ) (tables : List Members) (table : Members) (entries : List Entry) (entry : Entry) → AreEntries shards tables entries → IsEntry shards table entry → AreEntries shards (tables ++ table ∷ []) (entries ++ entry ∷ [])
entries_push shards [] t [] e all one = (one, tt)
entries_push shards [] t (x ∷ xs) e all one = absurd all
entries_push shards (y ∷ ys) t [] e all one = absurd all
entries_push shards (y ∷ ys) t (x ∷ xs) e all one = (all.0, entries_push shards ys t xs e all.1 one)

-- ---- the first fault of the fields of an entry

pub no_host : (shards : ℕ) (table : Members) (n : ℕ) → number_of shards table ≡ Some n → ((bytes : List ℕ) → ¬ HasHost table bytes) → IsFirstBroken shards (rules_of_fields table) (Field field.Host)
no_host shards table n has none = inr ((λ fault b. (let gone = b.0 in cc)), inl (none, refl))

pub no_port : (shards : ℕ) (table : Members) (n : ℕ) (bytes : List ℕ) → number_of shards table ≡ Some n → HasHost table bytes → port_of table ≡ None → IsFirstBroken shards (rules_of_fields table) (Field field.Port)
no_port shards table n bytes has at none =
    inr ((λ fault b. (let gone = b.0 in cc)), inr ((λ fault b. b.0 bytes at), inl (none, refl)))

pub other_key : (shards : ℕ) (table : Members) (n : ℕ) (bytes : List ℕ) (p : ℕ) → number_of shards table ≡ Some n → HasHost table bytes → port_of table ≡ Some p → has_only entry_keys table ≡ false → IsFirstBroken shards (rules_of_fields table) (Field field.Other)
other_key shards table n bytes p has at ends more =
    inr ((λ fault b. (let gone = b.0 in cc)), inr ((λ fault b. b.0 bytes at), inr ((λ fault b. (let gone = b.0 in cc)), inl (more, refl))))
