-- The texts of ids, nodes, edges, names and words are read in one way.
use Rattle.std.proofs.Common.{◌≡◌, ℕ, ℤ, Bool, true, false, List, [], ◌∷◌, ◌++◌, append_assoc, length, Option, Some, None, IfSome, FitsSigned, w64, refl, sym, ap, subst, ◌∙◌, ◌⊎◌, inl, inr, arith}
use Rattle.std.specs.Prelude.{◌==◌, if◌then◌else◌}
use Rattle.std.specs.List.{list_any, AllByRecursion}
use Rattle.std.specs.Option.{option_to_list}
use Rattle.std.specs.Char.{is_ascii_digit, is_ascii_alphabetic}
use Rattle.std.specs.Fmt.{decimal, signed_decimal}
use Rattle.std.proofs.lemmas.Bool.{true≢false, eq-eqb}
use Rattle.std.proofs.lemmas.List.{append-nil}
use Rattle.std.proofs.lemmas.Bool.Decides.{nat_tests}
use Rattle.roc_base.specs.declared.id.TxnId.{TxnId}
use Rattle.roc_base.specs.declared.node.Node.{Node}
use Rattle.roc_base.specs.declared.node.Node.TheVariants.{Server, Coord}
use Rattle.roc_base.specs.TxnId.{txn_text}
use Rattle.roc_base.specs.Node.{node_text}
use Rattle.roc_base.specs.Edge.{Dependency}
use Rattle.roc_lang.specs.Tokens.{is_word_byte, IsWord}
use Rattle.roc_msg.specs.declared.reason.Reason.{Reason}
use Rattle.roc_msg.specs.declared.reason.Reason.TheVariants.{Foreign, BadProc, BadGroup, BadInputs, NotHere, Late, Differs, Stale, Unfit}
use Rattle.roc_msg.specs.Reason.{reason_text}
use Rattle.roc_report.specs.Line.{MessageKind, Start, StartOk, Commit, CommitOk, Fetch, Known, Stop, Ended, Settled, Read, ReadOk, Drained, Switched, ShownMessage}
use Rattle.roc_report.specs.ReportLine.{IsSmallId, IsSmallNode, IsSmallEdge, IsSmallMessage, AreSmallIntegers}
use Rattle.roc_report.specs.Text.{spaced, numbers_text, ids_text, tags_text, edge_text, edges_text, facts_text, message_kind_text, message_text, key_text}
use Rattle.roc_report.proofs.Apart.{Stops, AreAll, AreApart, runs_apart, numbers_apart, begins_apart, integers_apart, lists_apart}

-- no digit follows
abbrev pub Digits : List ℕ → Type 0
Digits r = Stops is_ascii_digit r

-- the line ends
abbrev pub IsEnd : List ℕ → Type 0
IsEnd r = (bytes : List ℕ) × (r ≡ 10 ∷ bytes)

end_digits : (r : List ℕ) → IsEnd r → Digits r
end_digits r end = subst Digits (sym end.1) refl

no_space : {A : Type 0} (text : A → List ℕ) (P : A → Type 0) (a : A) (r bytes : List ℕ) → P a → IsEnd r → r ≡ 32 ∷ (text a ++ bytes) → ⊥
no_space text P a r bytes small end e = let both : 10 ∷ end.0 ≡ 32 ∷ (text a ++ bytes) = sym end.1 ∙ e in absurd (cc)

pub tail_of : {a : ℕ} {r s : List ℕ} → a ∷ r ≡ a ∷ s → r ≡ s
tail_of e = cc

-- other first bytes
pub heads_apart : (a b : ℕ) (r s : List ℕ) → a == b ≡ false → a ∷ r ≡ b ∷ s → ⊥
heads_apart a b r s other e = let same : a ≡ b = cc in true≢false (sym (eq-eqb a b same) ∙ other)

pub cons_append : {A : Type 0} (x : A) (xs ys : List A) → (x ∷ xs) ++ ys ≡ x ∷ (xs ++ ys)
cons_append x xs ys = refl

-- ---- ids

pub ids_apart : AreApart IsSmallId txn_text Digits
ids_apart a b r s small also stop end e =
    let whole : decimal a.coord ++ (46 ∷ (decimal a.seq ++ r)) ≡ decimal b.coord ++ (46 ∷ (decimal b.seq ++ s)) =
    sym (append_assoc (decimal a.coord) (46 ∷ decimal a.seq) r) ∙ e ∙ append_assoc (decimal b.coord) (46 ∷ decimal b.seq) s in
    let coord = numbers_apart a.coord b.coord (46 ∷ (decimal a.seq ++ r)) (46 ∷ (decimal b.seq ++ s)) small.0 also.0 refl refl whole in
    let behind : decimal a.seq ++ r ≡ decimal b.seq ++ s = (let c = coord.1 in cc) in
    let seq = numbers_apart a.seq b.seq r s small.1 also.1 stop end behind in
    ((λ i. record { coord = coord.0 i; seq = seq.0 i }), seq.1)

-- an id begins with a digit
pub id_begins : (a : TxnId) (b : ℕ) (r bytes : List ℕ) → IsSmallId a → is_ascii_digit b ≡ false → txn_text a ++ r ≡ b ∷ bytes → ⊥
id_begins a b r bytes small other e = begins_apart a.coord b (46 ∷ decimal a.seq ++ r) bytes small.0 other (sym (append_assoc (decimal a.coord) (46 ∷ decimal a.seq) r) ∙ e)

pub id_lists_apart : (xs ys : List TxnId) (r s : List ℕ) → AllByRecursion IsSmallId xs → AllByRecursion IsSmallId ys → IsEnd r → IsEnd s → ids_text xs ++ r ≡ ids_text ys ++ s → (xs ≡ ys) × (r ≡ s)
id_lists_apart = lists_apart IsSmallId txn_text 32 Digits IsEnd ids_apart (λ bytes. refl) end_digits (no_space txn_text IsSmallId)

abbrev fact_text : TxnId → List ℕ
fact_text id = 43 ∷ txn_text id

each_fact_apart : AreApart IsSmallId fact_text Digits
each_fact_apart a b r s small also stop end e = ids_apart a b r s small also stop end (cc)

pub facts_apart : (xs ys : List TxnId) (r s : List ℕ) → AllByRecursion IsSmallId xs → AllByRecursion IsSmallId ys → IsEnd r → IsEnd s → facts_text xs ++ r ≡ facts_text ys ++ s → (xs ≡ ys) × (r ≡ s)
facts_apart = lists_apart IsSmallId fact_text 32 Digits IsEnd each_fact_apart (λ bytes. refl) end_digits (no_space fact_text IsSmallId)

-- ---- numbers in lists

pub number_lists_apart : (xs ys : List ℤ) (r s : List ℕ) → AreSmallIntegers xs → AreSmallIntegers ys → IsEnd r → IsEnd s → numbers_text xs ++ r ≡ numbers_text ys ++ s → (xs ≡ ys) × (r ≡ s)
number_lists_apart = lists_apart (FitsSigned w64) signed_decimal 32 Digits IsEnd integers_apart (λ bytes. refl) end_digits (no_space signed_decimal (FitsSigned w64))

-- a bracket ends an id of a row
abbrev pub IsClosed : List ℕ → Type 0
IsClosed r = (bytes : List ℕ) × (r ≡ 93 ∷ bytes)

pub keys_apart : (xs ys : List ℤ) (r s : List ℕ) → AreSmallIntegers xs → AreSmallIntegers ys → IsClosed r → IsClosed s → key_text xs ++ r ≡ key_text ys ++ s → (xs ≡ ys) × (r ≡ s)
keys_apart = lists_apart (FitsSigned w64) signed_decimal 44 Digits IsClosed integers_apart (λ bytes. refl) (λ r end. subst Digits (sym end.1) refl)
    (λ a r bytes small end e. let both : 93 ∷ end.0 ≡ 44 ∷ (signed_decimal a ++ bytes) = sym end.1 ∙ e in absurd (cc))

-- ---- nodes

pub nodes_apart : AreApart IsSmallNode node_text Digits
nodes_apart (Server a) (Server b) r s small also stop end e =
    let behind : decimal a.0 ++ r ≡ decimal b.0 ++ s = cc in
    let p = numbers_apart a.0 b.0 r s small also stop end behind in
    (ap (λ n. Server (record { 0 = n })) p.0, p.1)
nodes_apart (Server a) (Coord b) r s small also stop end e = absurd (heads_apart 115 99 (decimal a.0 ++ r) (decimal b ++ s) refl e)
nodes_apart (Coord a) (Server b) r s small also stop end e = absurd (heads_apart 99 115 (decimal a ++ r) (decimal b.0 ++ s) refl e)
nodes_apart (Coord a) (Coord b) r s small also stop end e =
    let behind : decimal a ++ r ≡ decimal b ++ s = cc in
    let p = numbers_apart a b r s small also stop end behind in
    (ap Coord p.0, p.1)

-- ---- edges

-- the tags that letters tell
tags_told : List ℕ → Bool × Bool
tags_told letters = (list_any (λ b. b == 105) letters, list_any (λ b. b == 100) letters)

told : (i d : Bool) → tags_told (tags_text i d) ≡ (i, d)
unfolding tags_told
told true true = refl
told true false = refl
told false true = refl
told false false = refl

tag_letters : (i d : Bool) → AreAll is_word_byte (tags_text i d)
tag_letters true true = (refl, (refl, tt))
tag_letters true false = (refl, tt)
tag_letters false true = (refl, tt)
tag_letters false false = tt

tags_apart : (i d j f : Bool) (r s : List ℕ) → tags_text i d ++ (64 ∷ r) ≡ tags_text j f ++ (64 ∷ s) → (i ≡ j) × (d ≡ f) × (r ≡ s)
tags_apart i d j f r s e =
    let p = runs_apart is_word_byte (tags_text i d) (tags_text j f) (64 ∷ r) (64 ∷ s) (tag_letters i d) (tag_letters j f) refl refl e in
    let same : (i, d) ≡ (j, f) = sym (told i d) ∙ (ap tags_told p.0 ∙ told j f) in
    (ap (λ (t : Bool × Bool). t.0) same, ap (λ (t : Bool × Bool). t.1) same, tail_of p.1)

-- an edge, part by part
edge_parts : (d : Dependency) (r : List ℕ) → edge_text d ++ r ≡ txn_text d.from ++ (47 ∷ (tags_text d.imm d.def ++ (64 ∷ (decimal d.at.0 ++ r))))
edge_parts d r = simp (append_assoc, cons_append)

each_edge_apart : AreApart IsSmallEdge edge_text Digits
each_edge_apart a b r s small also stop end e =
    let whole = sym (edge_parts a r) ∙ e ∙ edge_parts b s in
    let from = ids_apart a.from b.from _ _ small.0 also.0 refl refl whole in
    let behind : tags_text a.imm a.def ++ (64 ∷ (decimal a.at.0 ++ r)) ≡ tags_text b.imm b.def ++ (64 ∷ (decimal b.at.0 ++ s)) = (let c = from.1 in cc) in
    let tags = tags_apart a.imm a.def b.imm b.def (decimal a.at.0 ++ r) (decimal b.at.0 ++ s) behind in
    let at = numbers_apart a.at.0 b.at.0 r s small.1 also.1 stop end tags.2 in
    ((λ i. record { from = from.0 i; imm = tags.0 i; def = tags.1 i; at = record { 0 = at.0 i } }), at.1)

-- facts or the line's end follow
abbrev pub IsEdgesEnd : List ℕ → Type 0
IsEdgesEnd r = IsEnd r ⊎ ((bytes : List ℕ) × (r ≡ 32 ∷ 43 ∷ bytes))

edges_digits : (r : List ℕ) → IsEdgesEnd r → Digits r
edges_digits r (inl end) = end_digits r end
edges_digits r (inr end) = subst Digits (sym end.1) refl

no_edge : (a : Dependency) (r bytes : List ℕ) → IsSmallEdge a → IsEdgesEnd r → r ≡ 32 ∷ (edge_text a ++ bytes) → ⊥
no_edge a r bytes small (inl end) e = no_space edge_text IsSmallEdge a r bytes small end e
no_edge a r bytes small (inr end) e =
    let both : 32 ∷ 43 ∷ end.0 ≡ 32 ∷ (edge_text a ++ bytes) = sym end.1 ∙ e in
    let behind : 43 ∷ end.0 ≡ edge_text a ++ bytes = cc in
    id_begins a.from 43 _ end.0 small.0 refl (sym (edge_parts a bytes) ∙ sym behind)

edge_lists_apart : (xs ys : List Dependency) (r s : List ℕ) → AllByRecursion IsSmallEdge xs → AllByRecursion IsSmallEdge ys → IsEdgesEnd r → IsEdgesEnd s → edges_text xs ++ r ≡ edges_text ys ++ s → (xs ≡ ys) × (r ≡ s)
edge_lists_apart = lists_apart IsSmallEdge edge_text 32 Digits IsEdgesEnd each_edge_apart (λ bytes. refl) edges_digits no_edge

facts_end : (facts : List TxnId) (r : List ℕ) → IsEnd r → IsEdgesEnd (facts_text facts ++ r)
facts_end [] r end = inl end
facts_end (f ∷ facts) r end = inr ((txn_text f ++ facts_text facts) ++ r, refl)

-- ---- words

-- no letter, digit or _ follows
abbrev pub Letters : List ℕ → Type 0
Letters r = Stops is_word_byte r

pub name_letters : (name : List ℕ) → IsWord name → AreAll is_word_byte name
name_letters [] h = absurd h
name_letters (b ∷ bs) h = (first (is_ascii_alphabetic b) refl, h.1)
  where
    first : (p : Bool) → is_ascii_alphabetic b ≡ p → is_word_byte b ≡ true
    first p e = grind (arith, nat_tests, h.0)

pub names_apart : (m n r s : List ℕ) → IsWord m → IsWord n → Letters r → Letters s → m ++ r ≡ n ++ s → (m ≡ n) × (r ≡ s)
names_apart m n r s word other stop end e = runs_apart is_word_byte m n r s (name_letters m word) (name_letters n other) stop end e

-- what tells the texts of reasons apart: the fourth letter behind a b, and else the first
reason_letter : List ℕ → ℕ
reason_letter (a ∷ b ∷ c ∷ d ∷ bytes) = if a == 98 then d else a
reason_letter bytes = 0

reason_code : Reason → ℕ
reason_code Foreign = 102
reason_code BadProc = 112
reason_code BadGroup = 103
reason_code BadInputs = 105
reason_code NotHere = 110
reason_code Late = 108
reason_code Differs = 100
reason_code Stale = 115
reason_code Unfit = 117

reason_coded : (a : Reason) (r : List ℕ) → reason_letter (reason_text a ++ r) ≡ reason_code a
unfolding reason_letter reason_code
reason_coded Foreign r = refl
reason_coded BadProc r = refl
reason_coded BadGroup r = refl
reason_coded BadInputs r = refl
reason_coded NotHere r = refl
reason_coded Late r = refl
reason_coded Differs r = refl
reason_coded Stale r = refl
reason_coded Unfit r = refl

-- the reason of a code
reason_of : ℕ → Reason
reason_of n =
    if n == 102 then Foreign else (if n == 112 then BadProc else (if n == 103 then BadGroup else (if n == 105 then BadInputs else (if n == 110 then NotHere else
    (if n == 108 then Late else (if n == 100 then Differs else (if n == 115 then Stale else Unfit)))))))

decoded : (a : Reason) → reason_of (reason_code a) ≡ a
unfolding reason_of reason_code
decoded Foreign = refl
decoded BadProc = refl
decoded BadGroup = refl
decoded BadInputs = refl
decoded NotHere = refl
decoded Late = refl
decoded Differs = refl
decoded Stale = refl
decoded Unfit = refl

pub reasons_apart : (a b : Reason) (r s : List ℕ) → reason_text a ++ r ≡ reason_text b ++ s → a ≡ b
reasons_apart a b r s e =
    let code : reason_code a ≡ reason_code b = sym (reason_coded a r) ∙ (ap reason_letter e ∙ reason_coded b s) in
    sym (decoded a) ∙ (ap reason_of code ∙ decoded b)

kind_letters : (k : MessageKind) → AreAll is_word_byte (message_kind_text k)
kind_letters Start = (refl, (refl, (refl, (refl, (refl, tt)))))
kind_letters StartOk = (refl, (refl, (refl, (refl, (refl, (refl, (refl, tt)))))))
kind_letters Commit = (refl, (refl, (refl, (refl, (refl, (refl, tt))))))
kind_letters CommitOk = (refl, (refl, (refl, (refl, (refl, (refl, (refl, (refl, tt))))))))
kind_letters Fetch = (refl, (refl, (refl, (refl, (refl, tt)))))
kind_letters Known = (refl, (refl, (refl, (refl, (refl, tt)))))
kind_letters Stop = (refl, (refl, (refl, (refl, tt))))
kind_letters Ended = (refl, (refl, (refl, (refl, (refl, tt)))))
kind_letters Settled = (refl, (refl, (refl, (refl, (refl, (refl, (refl, tt)))))))
kind_letters Read = (refl, (refl, (refl, (refl, tt))))
kind_letters ReadOk = (refl, (refl, (refl, (refl, (refl, (refl, tt))))))
kind_letters Drained = (refl, (refl, (refl, (refl, (refl, (refl, (refl, tt)))))))
kind_letters Switched = (refl, (refl, (refl, (refl, (refl, (refl, (refl, (refl, tt))))))))

-- first letter, length and second letter tell the kinds apart
kind_behind_s : List ℕ → MessageKind
kind_behind_s [] = Stop
kind_behind_s (b ∷ bs) =
    if b == 101 then Settled else (if b == 119 then Switched else (if length bs == 3 then Start else (if length bs == 5 then StartOk else Stop)))

kind_of_word : List ℕ → MessageKind
kind_of_word [] = Stop
kind_of_word (b ∷ bs) =
    if b == 115 then kind_behind_s bs
    else (if b == 99 then (if length bs == 5 then Commit else CommitOk)
    else (if b == 114 then (if length bs == 3 then Read else ReadOk)
    else (if b == 102 then Fetch else (if b == 107 then Known else (if b == 101 then Ended else Drained)))))

kind_told : (k : MessageKind) → kind_of_word (message_kind_text k) ≡ k
unfolding kind_of_word kind_behind_s
kind_told Start = refl
kind_told StartOk = refl
kind_told Commit = refl
kind_told CommitOk = refl
kind_told Fetch = refl
kind_told Known = refl
kind_told Stop = refl
kind_told Ended = refl
kind_told Settled = refl
kind_told Read = refl
kind_told ReadOk = refl
kind_told Drained = refl
kind_told Switched = refl

kinds_apart : (k l : MessageKind) (r s : List ℕ) → Letters r → Letters s → message_kind_text k ++ r ≡ message_kind_text l ++ s → (k ≡ l) × (r ≡ s)
kinds_apart k l r s stop end e =
    let p = runs_apart is_word_byte (message_kind_text k) (message_kind_text l) r s (kind_letters k) (kind_letters l) stop end e in
    (sym (kind_told k) ∙ (ap kind_of_word p.0 ∙ kind_told l), p.1)

-- ---- messages

one_id : (id : TxnId) (r : List ℕ) → ids_text (id ∷ []) ++ r ≡ 32 ∷ (txn_text id ++ r)
one_id id r = ap (λ (bytes : List ℕ). bytes ++ r) (append-nil (spaced (txn_text id)))

not_node : (n : Node) (id : TxnId) (r bytes : List ℕ) → IsSmallId id → node_text n ++ r ≡ txn_text id ++ bytes → ⊥
not_node (Server shard) id r bytes small e = id_begins id 115 bytes (decimal shard.0 ++ r) small refl (sym e)
not_node (Coord number) id r bytes small e = id_begins id 99 bytes (decimal number ++ r) small refl (sym e)

-- an id that may be there, before a node
id_texts_apart : (a b : Option TxnId) (n m : Node) (r s : List ℕ) → IfSome a IsSmallId → IfSome b IsSmallId
    → ids_text (option_to_list a) ++ (32 ∷ (node_text n ++ r)) ≡ ids_text (option_to_list b) ++ (32 ∷ (node_text m ++ s)) → (a ≡ b) × (node_text n ++ r ≡ node_text m ++ s)
id_texts_apart None None n m r s small also e = (refl, tail_of e)
id_texts_apart None (Some id) n m r s small also e = absurd (not_node n id r (32 ∷ (node_text m ++ s)) also (tail_of (e ∙ one_id id (32 ∷ (node_text m ++ s)))))
id_texts_apart (Some id) None n m r s small also e = absurd (not_node m id s (32 ∷ (node_text n ++ r)) small (tail_of (sym e ∙ one_id id (32 ∷ (node_text n ++ r)))))
id_texts_apart (Some a) (Some b) n m r s small also e =
    let behind = tail_of (sym (one_id a (32 ∷ (node_text n ++ r))) ∙ e ∙ one_id b (32 ∷ (node_text m ++ s))) in
    let p = ids_apart a b (32 ∷ (node_text n ++ r)) (32 ∷ (node_text m ++ s)) small also refl refl behind in
    (ap (λ (id : TxnId). Some id) p.0, tail_of p.1)

id_letters : (o : Option TxnId) (bytes : List ℕ) → Letters (ids_text (option_to_list o) ++ (32 ∷ bytes))
id_letters None bytes = refl
id_letters (Some id) bytes = refl

edges_stop : (edges : List Dependency) (r : List ℕ) → IsEdgesEnd r → Digits (edges_text edges ++ r)
edges_stop [] r end = edges_digits r end
edges_stop (d ∷ edges) r end = refl

-- behind the two nodes
abbrev lists_of : ShownMessage → List ℕ → List ℕ
lists_of m r = edges_text m.edges ++ (facts_text m.facts ++ r)

message_parts : (m : ShownMessage) (r : List ℕ) → message_text m ++ r
    ≡ message_kind_text m.kind ++ (ids_text (option_to_list m.named) ++ (32 ∷ (node_text m.from ++ (32 ∷ (node_text m.to ++ lists_of m r)))))
message_parts m r = simp (append_assoc, cons_append)

pub messages_apart : (m n : ShownMessage) (r s : List ℕ) → IsSmallMessage m → IsSmallMessage n → IsEnd r → IsEnd s → message_text m ++ r ≡ message_text n ++ s → (m ≡ n) × (r ≡ s)
messages_apart m n r s small also end stop e =
    let kind = kinds_apart m.kind n.kind _ _ (id_letters m.named _) (id_letters n.named _) (sym (message_parts m r) ∙ e ∙ message_parts n s) in
    let id = id_texts_apart m.named n.named m.from n.from _ _ small.named also.named kind.1 in
    let from = nodes_apart m.from n.from (32 ∷ (node_text m.to ++ lists_of m r)) (32 ∷ (node_text n.to ++ lists_of n s)) small.from also.from refl refl id.1 in
    let m_end = facts_end m.facts r end in
    let n_end = facts_end n.facts s stop in
    let to = nodes_apart m.to n.to (lists_of m r) (lists_of n s) small.to also.to (edges_stop m.edges _ m_end) (edges_stop n.edges _ n_end) (tail_of from.1) in
    let edges = edge_lists_apart m.edges n.edges (facts_text m.facts ++ r) (facts_text n.facts ++ s) small.edges also.edges m_end n_end to.1 in
    let facts = facts_apart m.facts n.facts r s small.facts also.facts end stop edges.1 in
    ((λ i. record { kind = kind.0 i; named = id.0 i; from = from.0 i; to = to.0 i; edges = edges.0 i; facts = facts.0 i }), facts.1)
