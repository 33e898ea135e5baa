-- From the parts of a cluster file to the whole, and that a file has one cluster or one first fault
use Rattle.std.proofs.Common.{◌≡◌, ℕ, ◌<◌, true, List, [], ◌∷◌, ◌++◌, Option, Some, Result, Ok, Err, IfOk, IfErr, inl, inr, refl, sym, ap, subst, ◌∙◌, arith, lit≤}
use Rattle.std.proofs.lemmas.Option.{same_Some}
use Rattle.std.specs.Net.Grammar.{IsDotted}
use Rattle.std.specs.Net.Reader.{read_ipv4}
use Rattle.std.proofs.NetLemmas.Ipv4.{read_ipv4_complete}
use Rattle.roc_sequence.proofs.Holds.{all_append}
use Rattle.toml.specs.Data.{Members}
use Rattle.roc_io.specs.declared.link.Addr.{Addr}
use Rattle.roc_cluster.specs.declared.entry.Entry.{Entry}
use Rattle.roc_cluster.specs.declared.fault.ClusterFault.{ClusterFault}
use Rattle.roc_cluster.specs.declared.fault.ClusterFault.TheVariants.{Toml, Field, Twice, Gap, NoMemory}
use Rattle.roc_cluster.specs.Entries.{top_keys, has_only, listed_tables, HasHost, AreEntries, IsEntry}
use Rattle.roc_cluster.specs.File.{IsDocument, IsClusterOf, IsClusterFile, addr_in}
use Rattle.roc_cluster.specs.Rules.{Rule, top, listed, number, host, port, keys, fresh, present, Breaks, IsKept, IsFirstBroken, rules_of_entries, rules_of_shards, rules_of_listed, rules_of}
use Rattle.roc_cluster.specs.Answer.{IsReadAs, IsFirstIn, IsClusterFault}
use Rattle.roc_cluster.specs.Inner.Judged.{AreKept, Names, NoTables, NoDocument, AreRead, Seats}
use Rattle.roc_cluster.proofs.Judging.{kept_has_none, names_behind, names_before}
use Rattle.roc_cluster.proofs.Counts.{times_of_entries}
use Rattle.roc_cluster.proofs.EntryRules.{entries_kept, reads_kept}
use Rattle.roc_cluster.proofs.Seating.{shards_kept, same_list}

-- ---- the cluster of a document

pub cluster_of_parts : (shards : ℕ) (document : Members) (tables : List Members) (entries : List Entry) (cluster : List Addr) → has_only top_keys document ≡ true → listed_tables document ≡ Some tables → AreRead shards tables entries → Seats shards entries cluster → IsClusterOf shards document cluster
cluster_of_parts shards document tables entries cluster only found r s = record {
  only = only;
  tables = tables;
  listed = found;
  entries = entries;
  read = r.read;
  once = λ n low. (let few = r.once n in let some = s.some n low in omega (arith, times_of_entries shards tables entries n r.read));
  each = s.each;
  addrs = s.addrs;
}

-- ---- faults of a document

top_kept : (shards : ℕ) (document : Members) (tables : List Members) → has_only top_keys document ≡ true → listed_tables document ≡ Some tables → AreKept shards (top document ∷ listed document ∷ [])
top_kept shards document tables only some =
    (λ fault b. (let other = b.0 in cc), (λ fault b. (let none = b.0 in cc), tt))

-- a fault behind the first two rules
behind_top : (shards : ℕ) (document : Members) (tables : List Members) (fault : ClusterFault) → has_only top_keys document ≡ true → listed_tables document ≡ Some tables → Names shards (rules_of_entries [] tables ++ rules_of_shards shards tables) fault → Names shards (rules_of shards document) fault
behind_top shards document tables fault only some named =
    let P : Option (List Members) → Type 0 = λ found. Names shards (top document ∷ listed document ∷ rules_of_listed shards found) fault in
    subst P (sym some) (names_behind shards (top document ∷ listed document ∷ []) (rules_of_listed shards (Some tables)) fault (top_kept shards document tables only some) named)

pub named_entries : (shards : ℕ) (document : Members) (tables : List Members) (fault : ClusterFault) → has_only top_keys document ≡ true → listed_tables document ≡ Some tables → Names shards (rules_of_entries [] tables) fault → Names shards (rules_of shards document) fault
named_entries shards document tables fault only some named =
    behind_top shards document tables fault only some (names_before shards (rules_of_entries [] tables) (rules_of_shards shards tables) fault named)

pub named_shards : (shards : ℕ) (document : Members) (tables : List Members) (entries : List Entry) (fault : ClusterFault) → has_only top_keys document ≡ true → listed_tables document ≡ Some tables → AreRead shards tables entries → Names shards (rules_of_shards shards tables) fault → Names shards (rules_of shards document) fault
named_shards shards document tables entries fault only some r named =
    behind_top shards document tables fault only some (names_behind shards (rules_of_entries [] tables) (rules_of_shards shards tables) fault (reads_kept shards tables entries r) named)

pub named_tables : (shards : ℕ) (document : Members) (fault : ClusterFault) → has_only top_keys document ≡ true → NoTables (listed_tables document) fault → Names shards (rules_of shards document) fault
named_tables shards document NoMemory only none = tt
named_tables shards document Toml only none = absurd none
named_tables shards document (Field name) only none = inr ((λ fault b. (let other = b.0 in cc)), inl (none.0, ap Field none.1))
named_tables shards document (Twice shard) only none = absurd none
named_tables shards document (Gap shard) only none = absurd none

-- the document of a cluster breaks no rule
pub cluster_kept : (shards : ℕ) (document : Members) (cluster : List Addr) → IsClusterOf shards document cluster → AreKept shards (rules_of shards document)
cluster_kept shards document cluster c =
    let first = top_kept shards document c.tables c.only c.listed in
    let entries = entries_kept shards [] c.tables c.entries c.read (λ n low. (let one = c.once n low in omega arith)) in
    let seats = shards_kept shards c.tables (λ n low. (let one = c.once n low in omega arith)) in
    let P : Option (List Members) → Type 0 = λ found. AreKept shards (rules_of_listed shards found) in
    let rest = subst P (sym c.listed) (all_append (IsKept shards) (rules_of_entries [] c.tables) (rules_of_shards shards c.tables) entries seats) in
    (first.0, (first.1.0, rest))

-- ---- one cluster

first_same : (read : Option (List ℕ × List ℕ)) (some other : List ℕ) → read ≡ Some (some, []) → read ≡ Some (other, []) → some ≡ other
first_same read some other a b = ap (λ (pair : List ℕ × List ℕ). pair.0) (same_Some _ _ (sym a ∙ b))

-- a text of four numbers is that of one host
pub dotted_once : (text some other : List ℕ) → IsDotted text some → IsDotted text other → some ≡ other
dotted_once text some other a b =
    first_same (read_ipv4 (text ++ [])) some other (read_ipv4_complete text some [] a (lit≤ tt)) (read_ipv4_complete text other [] b (lit≤ tt))

host_once : (table : Members) (some other : List ℕ) → HasHost table some → HasHost table other → some ≡ other
host_once table some other a b =
    let first = a.1 in
    let second = b.1 in
    let same : b.0 ≡ a.0 = cc in
    dotted_once a.0 some other a.2 (subst (λ (text : List ℕ). IsDotted text other) same b.2)

same_entry : (a b : Entry) → a.shard.0 ≡ b.shard.0 → a.addr.host ≡ b.addr.host → a.addr.port ≡ b.addr.port → a ≡ b
same_entry a b n h p = λ i. record { shard = record { 0 = n i }; addr = record { host = h i; port = p i } }

entry_once : (shards : ℕ) (table : Members) (a b : Entry) → IsEntry shards table a → IsEntry shards table b → a ≡ b
entry_once shards table a b s o =
    let n : a.shard.0 ≡ b.shard.0 = (let x = s.number in let y = o.number in cc) in
    let p : a.addr.port ≡ b.addr.port = (let x = s.port in let y = o.port in cc) in
    same_entry a b n (host_once table a.addr.host b.addr.host s.host o.host) p

entries_once : (shards : ℕ) (tables : List Members) (some other : List Entry) → AreEntries shards tables some → AreEntries shards tables other → some ≡ other
entries_once shards [] [] [] s o = refl
entries_once shards [] [] (y ∷ ys) s o = absurd o
entries_once shards [] (x ∷ xs) other s o = absurd s
entries_once shards (t ∷ ts) [] other s o = absurd s
entries_once shards (t ∷ ts) (x ∷ xs) [] s o = absurd o
entries_once shards (t ∷ ts) (x ∷ xs) (y ∷ ys) s o =
    let first = entry_once shards t x y s.0 o.0 in
    let rest = entries_once shards ts xs ys s.1 o.1 in
    λ i. first i ∷ rest i

cluster_once : (shards : ℕ) (document : Members) (some other : List Addr) → IsClusterOf shards document some → IsClusterOf shards document other → some ≡ other
cluster_once shards document some other s o =
    let one = s.listed in
    let two = o.listed in
    let tables : o.tables ≡ s.tables = cc in
    let entries = entries_once shards s.tables s.entries o.entries s.read (subst (λ (ts : List Members). AreEntries shards ts o.entries) tables o.read) in
    let long = s.each in
    let short = o.each in
    same_list some other (long ∙ sym short) (λ n low. (let below : n < shards = omega arith in s.addrs n below ∙ ap (λ (es : List Entry). addr_in es n) entries ∙ sym (o.addrs n below)))

document_once : (bytes : List ℕ) (some other : Members) → IsDocument bytes some → IsDocument bytes other → other ≡ some
document_once bytes some other s o =
    let one = s.parsed in
    let two = o.parsed in
    cc

pub file_once : (shards : ℕ) (bytes : List ℕ) (some other : List Addr) → IsClusterFile shards bytes some → IsClusterFile shards bytes other → some ≡ other
file_once shards bytes some other s o =
    let same = document_once bytes s.document o.document s.is_document o.is_document in
    cluster_once shards s.document some other s.is_cluster (subst (λ (d : Members). IsClusterOf shards d other) same o.is_cluster)

-- a cluster file has no first fault
pub file_has_none : (shards : ℕ) (bytes : List ℕ) (cluster : List Addr) (document : Members) (fault : ClusterFault) → IsClusterFile shards bytes cluster → IsDocument bytes document → ¬ IsFirstBroken shards (rules_of shards document) fault
file_has_none shards bytes cluster document fault file is first =
    let same = document_once bytes document file.document is file.is_document in
    kept_has_none shards (rules_of shards document) fault (cluster_kept shards document cluster (subst (λ (d : Members). IsClusterOf shards d cluster) same file.is_cluster)) first

-- ---- one first fault

broken_once : (shards : ℕ) (rule : Rule) (a b : ClusterFault) → Breaks shards rule a → Breaks shards rule b → a ≡ b
broken_once shards (top document) a b s o = s.1 ∙ sym o.1
broken_once shards (listed document) a b s o = s.1 ∙ sym o.1
broken_once shards (number entry) a b s o = s.1 ∙ sym o.1
broken_once shards (host entry) a b s o = s.1 ∙ sym o.1
broken_once shards (port entry) a b s o = s.1 ∙ sym o.1
broken_once shards (keys entry) a b s o = s.1 ∙ sym o.1
broken_once shards (fresh earlier entry) a b s o =
    let one = s.1 in
    let two = o.1 in
    let same : s.0 ≡ o.0 = cc in
    s.3 ∙ ap (λ n. Twice (record { 0 = n })) same ∙ sym o.3
broken_once shards (present entries n) a b s o = s.1 ∙ sym o.1

first_once : (shards : ℕ) (rules : List Rule) (a b : ClusterFault) → IsFirstBroken shards rules a → IsFirstBroken shards rules b → a ≡ b
first_once shards [] a b s o = absurd s
first_once shards (x ∷ xs) a b (inl s) (inl o) = broken_once shards x a b s o
first_once shards (x ∷ xs) a b (inl s) (inr o) = absurd (o.0 a s)
first_once shards (x ∷ xs) a b (inr s) (inl o) = absurd (s.0 b o)
first_once shards (x ∷ xs) a b (inr s) (inr o) = first_once shards xs a b s.1 o.1

pub fault_once : (shards : ℕ) (bytes : List ℕ) (a b : ClusterFault) → IsFirstIn shards bytes a → IsFirstIn shards bytes b → a ≡ b
fault_once shards bytes a b s o =
    let same = document_once bytes s.0 o.0 s.1 o.1 in
    first_once shards (rules_of shards s.0) a b s.2 (subst (λ (d : Members). IsFirstBroken shards (rules_of shards d) b) same o.2)

-- ---- what `parse_cluster` answers

pub fault_of_document : (shards : ℕ) (bytes : List ℕ) (document : Members) (fault : ClusterFault) → IsDocument bytes document → Names shards (rules_of shards document) fault → IsClusterFault shards bytes fault
fault_of_document shards bytes document NoMemory is named = tt
fault_of_document shards bytes document Toml is named = absurd named
fault_of_document shards bytes document (Field name) is named = (document, is, named)
fault_of_document shards bytes document (Twice shard) is named = (document, is, named)
fault_of_document shards bytes document (Gap shard) is named = (document, is, named)

pub fault_of_none : (shards : ℕ) (bytes : List ℕ) (fault : ClusterFault) → NoDocument bytes fault → IsClusterFault shards bytes fault
fault_of_none shards bytes NoMemory none = tt
fault_of_none shards bytes Toml none = none
fault_of_none shards bytes (Field name) none = absurd none
fault_of_none shards bytes (Twice shard) none = absurd none
fault_of_none shards bytes (Gap shard) none = absurd none

pub only_of_none : (shards : ℕ) (bytes : List ℕ) (fault : ClusterFault) → NoDocument bytes fault → (cluster : List Addr) → IsClusterFile shards bytes cluster → IsReadAs cluster (Err fault)
only_of_none shards bytes NoMemory none cluster file = tt
only_of_none shards bytes Toml none cluster file = none file.document file.is_document
only_of_none shards bytes (Field name) none cluster file = none
only_of_none shards bytes (Twice shard) none cluster file = none
only_of_none shards bytes (Gap shard) none cluster file = none

pub only_of_document : (shards : ℕ) (bytes : List ℕ) (document : Members) (result : Result (List Addr) ClusterFault) → IsDocument bytes document → IfOk result (IsClusterOf shards document) → IfErr result (Names shards (rules_of shards document)) → (cluster : List Addr) → IsClusterFile shards bytes cluster → IsReadAs cluster result
only_of_document shards bytes document (Ok read) is ok err cluster file =
    file_once shards bytes read cluster (record { document = document; is_document = is; is_cluster = ok }) file
only_of_document shards bytes document (Err NoMemory) is ok err cluster file = tt
only_of_document shards bytes document (Err Toml) is ok err cluster file = err
only_of_document shards bytes document (Err (Field name)) is ok err cluster file = file_has_none shards bytes cluster document (Field name) file is err
only_of_document shards bytes document (Err (Twice shard)) is ok err cluster file = file_has_none shards bytes cluster document (Twice shard) file is err
only_of_document shards bytes document (Err (Gap shard)) is ok err cluster file = file_has_none shards bytes cluster document (Gap shard) file is err

-- ---- the last step of a document

pub whole_ok : (shards : ℕ) (document : Members) (tables : List Members) (entries : List Entry) (result : Result (List Addr) ClusterFault) → has_only top_keys document ≡ true → listed_tables document ≡ Some tables → AreRead shards tables entries → IfOk result (Seats shards entries) → IfOk result (IsClusterOf shards document)
whole_ok shards document tables entries (Ok cluster) only found r s = cluster_of_parts shards document tables entries cluster only found r s
whole_ok shards document tables entries (Err fault) only found r s = tt

pub whole_err : (shards : ℕ) (document : Members) (tables : List Members) (entries : List Entry) (result : Result (List Addr) ClusterFault) → has_only top_keys document ≡ true → listed_tables document ≡ Some tables → AreRead shards tables entries → IfErr result (λ fault. (ts : List Members) → AreEntries shards ts entries → Names shards (rules_of_shards shards ts) fault) → IfErr result (Names shards (rules_of shards document))
whole_err shards document tables entries (Ok cluster) only found r h = tt
whole_err shards document tables entries (Err fault) only found r h = named_shards shards document tables entries fault only found r (h tables r.read)
