-- What is written of a log is read as it.
use Rattle.std.proofs.Common.{◌≡◌, ℕ, ◌+◌, ◌^◌, ◌<◌, ◌≤◌, Bool, true, false, cond, List, [], ◌∷◌, ◌++◌, length, map, Some, None, Ok, Err, refl, ap, ◌∙◌, arith}
use Rattle.std.specs.Prelude.{codes}
use Rattle.std.specs.List.{AllByRecursion, list_any}
use Rattle.std.specs.Option.{option_map}
use Rattle.std.specs.Char.{is_ascii_alphabetic}
use Rattle.std.specs.Fmt as fmt
use Rattle.std.proofs.lemmas.Bool.{ltb-true, eq-eqb}
use Rattle.std.proofs.lemmas.Bool.Decides.{nat_tests}
use Rattle.hex.specs.Hex.{IsBytes, encode_lower}
use Rattle.roc_base.specs.declared.id.TxnId.{TxnId}
use Rattle.roc_base.specs.declared.node.Node.{Node}
use Rattle.roc_base.specs.declared.node.Node.TheVariants.{Server, Coord}
use Rattle.roc_base.specs.Node.{is_node, node_text}
use Rattle.roc_base.specs.TxnId.{txn_text}
use Rattle.roc_lang.specs.Tokens.{is_word_byte, IsWord}
use Rattle.roc_program.specs.Program.{Workload}
use Rattle.roc_program.specs.LookUps.{procedure_name, is_view_in}
use Rattle.roc_sched.specs.Each.{◌>>=◌, each}
use Rattle.roc_sched.specs.Lines.{parts_of}
use Rattle.roc_sched.specs.Numbers.{integer_of}
use Rattle.roc_sched.specs.Acts.{node_of, server_of, is_there}
use Rattle.roc_sched.proofs.NameLemmas.{name_parts}
use Rattle.roc_log.specs.declared.fault.What.TheVariants as what
use Rattle.roc_log.specs.declared.line.LogLine.{LogLine}
use Rattle.roc_log.specs.declared.line.LogLine.TheVariants.{Submit, In, Tick, Out, Answer}
use Rattle.roc_log.specs.declared.line.Log.{Log}
use Rattle.roc_log.specs.LogLine.{spaced, first_word, other_words, log_text}
use Rattle.roc_log.specs.Words.{exact_words, id_of, id_of_parts, is_datagram, of_workload, datagram_of}
use Rattle.roc_log.specs.Reading.{named_node, or_there, or_unseen, first_line, arguments_of, call_of, call_with, or_word, line_of, ends}
use Rattle.roc_log.specs.Logs.{AreLines, IsLog, MayStand, MayFollow, MayBeWritten}
use Rattle.roc_log.proofs.Numerals.{AllAbove, above_less, decimal_above, number_read, integers_read, integers_above}
use Rattle.roc_log.proofs.Spelled.{cut_at, uncut, words_cut, spaced_above, lines_told, hex_above, hex_read}

-- ---- words above a space

word_above : (bs : List ℕ) → AllByRecursion (λ c. is_word_byte c ≡ true) bs → AllAbove 32 bs
word_above [] all = tt
word_above (b ∷ bs) all = (one b all.0, word_above bs all.1)
  where
    one : (b : ℕ) → is_word_byte b ≡ true → 32 < b
    one b h = grind (arith, nat_tests)

letter_above : (b : ℕ) → is_ascii_alphabetic b ≡ true → 32 < b
letter_above b h = grind (arith, nat_tests)

name_above : (name : List ℕ) → IsWord name → AllAbove 32 name
name_above [] is = absurd is
name_above (b ∷ bs) is = (letter_above b is.0, word_above bs is.1)

node_above : (shards : ℕ) (node : Node) → is_there shards node ≡ true → shards ≤ 64 → AllAbove 32 (node_text node)
node_above shards (Server shard) there few =
    let small = ltb-true shard.0 shards there in
    (omega arith, above_less 46 32 (fmt.decimal shard.0) (omega arith) (decimal_above shard.0 (omega (arith, small, few))))
node_above shards (Coord number) there few =
    let small = ltb-true number 16 there in
    (omega arith, above_less 46 32 (fmt.decimal number) (omega arith) (decimal_above number (omega (arith, small))))

joined_above : (least : ℕ) (some others : List ℕ) → AllAbove least some → AllAbove least others → AllAbove least (some ++ others)
joined_above least [] others all behind = behind
joined_above least (b ∷ some) others all behind = (all.0, joined_above least some others all.1 behind)

id_above : (id : TxnId) → id.coord ≤ 15 → id.seq < 2 ^ 32 → AllAbove 32 (txn_text id)
id_above id few small =
    joined_above 32 (fmt.decimal id.coord) (46 ∷ fmt.decimal id.seq)
    (above_less 46 32 (fmt.decimal id.coord) (omega arith) (decimal_above id.coord (omega (arith, few))))
    (omega arith, above_less 46 32 (fmt.decimal id.seq) (omega arith) (decimal_above id.seq (omega (arith, small))))

-- ---- the first line

node_read : (shards : ℕ) (node : Node) → is_there shards node ≡ true → shards ≤ 64 → node_of (node_text node) ≡ Some node
unfolding node_of
node_read shards (Server shard) there few =
    let small = ltb-true shard.0 shards there in
    ap (option_map server_of) (number_read 9223372036854775807 shard.0 (omega (arith, small, few)) (omega (arith, small, few)))
node_read shards (Coord number) there few =
    let small = ltb-true number 16 there in
    ap (option_map Coord) (number_read 9223372036854775807 number (omega (arith, small)) (omega (arith, small)))

-- the first line without its end
abbrev node_words : Node → List ℕ
node_words node = spaced (codes "node") (node_text node ∷ [])

node_letters : AllAbove 32 (codes "node")
node_letters = (omega arith, (omega arith, (omega arith, (omega arith, tt))))

first_read : (shards : ℕ) (seen : List Node) (node : Node) → is_there shards node ≡ true → shards ≤ 64 → list_any (is_node node) seen ≡ false
    → first_line shards seen (node_words node) ≡ Ok node
unfolding first_line
first_read shards seen node there few unseen =
    ap (λ words. or_unseen seen (or_there shards (named_node words))) (words_cut (codes "node") (node_text node ∷ []) node_letters (node_above shards node there few, tt))
    ∙ ap (λ o. or_unseen seen (or_there shards o)) (node_read shards node there few)
    ∙ ap (λ b. or_unseen seen (cond b (Ok node) (Err what.Node))) there
    ∙ ap (λ b. cond b (Err (what.Twice node)) (Ok node)) unseen

-- ---- lines

id_read : (id : TxnId) → id.coord ≤ 15 → id.seq < 2 ^ 32 → id_of (txn_text id) ≡ Some id
unfolding id_of
id_read id few small =
    let cut : parts_of 46 (txn_text id) ≡ fmt.decimal id.coord ∷ fmt.decimal id.seq ∷ [] =
    cut_at 46 (fmt.decimal id.coord) (fmt.decimal id.seq) (decimal_above id.coord (omega (arith, few)))
    ∙ ap (λ parts. fmt.decimal id.coord ∷ parts) (uncut 46 (fmt.decimal id.seq) (decimal_above id.seq (omega (arith, small)))) in
    ap id_of_parts cut
    ∙ rw (number_read 15 id.coord few (omega (arith, few)), number_read 4294967295 id.seq (omega (arith, small)) (omega (arith, small))) refl

datagram_read : (tag bytes : List ℕ) → IsBytes bytes → is_datagram tag bytes ≡ true → datagram_of tag (encode_lower bytes) ≡ Some bytes
unfolding datagram_of
datagram_read tag bytes fit is = ap (λ o. o >>= of_workload tag) (hex_read bytes fit) ∙ ap (λ b. cond b (Some bytes) None) is

-- a line without its end
abbrev raw : Workload → LogLine → List ℕ
raw program line = spaced (first_word line) (other_words program line)

first_above : (line : LogLine) → AllAbove 32 (first_word line)
first_above (Submit proc args) = (omega arith, (omega arith, (omega arith, (omega arith, (omega arith, (omega arith, tt))))))
first_above (In bytes) = (omega arith, (omega arith, tt))
first_above Tick = (omega arith, (omega arith, (omega arith, (omega arith, tt))))
first_above (Out bytes) = (omega arith, (omega arith, (omega arith, tt)))
first_above (Answer id reply) = (omega arith, (omega arith, (omega arith, (omega arith, (omega arith, (omega arith, tt))))))

others_above : (program : Workload) (tag : List ℕ) (node : Node) (line : LogLine) → MayStand program tag node line → AllByRecursion (AllAbove 32) (other_words program line)
others_above program tag node (Submit proc args) may = (name_above (procedure_name program proc) (name_parts (procedure_name program proc) may.1.name).0, integers_above args may.3)
others_above program tag node (In bytes) may = (hex_above bytes may.0, tt)
others_above program tag node Tick may = tt
others_above program tag node (Out bytes) may = (hex_above bytes may.0, tt)
others_above program tag node (Answer id reply) may = (id_above id may.1 may.2, integers_above reply may.3)

words_read : (program : Workload) (tag : List ℕ) (node : Node) (line : LogLine) → MayStand program tag node line → line_of program tag node (first_word line ∷ other_words program line) ≡ Ok line
unfolding line_of
words_read program tag (Server shard) (Submit proc args) may = absurd may.0
words_read program tag (Coord number) (Submit proc args) may =
    let name : List ℕ = procedure_name program proc in
    let called = may.1 in
    ap (λ b. cond b (call_with program name (each integer_of (map fmt.signed_decimal args))) (Err what.Word)) called.name
    ∙ ap (call_with program name) (integers_read args may.3)
    ∙ ap (λ o. call_of program o args) called.named
    ∙ ap (λ b. cond b (cond (is_view_in program proc) (Err what.View) (Ok (Submit proc args))) (Err what.Arguments)) (eq-eqb (length args) (arguments_of program proc) may.2)
    ∙ ap (λ b. cond b (Err what.View) (Ok (Submit proc args))) called.no_view
words_read program tag node (In bytes) may = ap (λ o. or_word (option_map In o)) (datagram_read tag bytes may.0 may.1)
words_read program tag node Tick may = refl
words_read program tag node (Out bytes) may = ap (λ o. or_word (option_map Out o)) (datagram_read tag bytes may.0 may.1)
words_read program tag (Server shard) (Answer id reply) may = absurd may.0
words_read program tag (Coord number) (Answer id reply) may =
    ap (λ o. or_word (o >>= λ t. each integer_of (map fmt.signed_decimal reply) >>= λ values. Some (Answer t values))) (id_read id may.1 may.2)
    ∙ ap (λ o. or_word (o >>= λ values. Some (Answer id values))) (integers_read reply may.3)

lines_above : (program : Workload) (tag : List ℕ) (node : Node) (ended : Bool) (lines : List LogLine) → MayFollow program tag node ended lines → AllByRecursion (λ line. AllAbove 10 (raw program line)) lines
lines_above program tag node ended [] may = tt
lines_above program tag node ended (line ∷ lines) may =
    (spaced_above (first_word line) (other_words program line) (first_above line) (others_above program tag node line may.1), lines_above program tag node (ends node line) lines may.2)

lines_are : (program : Workload) (tag : List ℕ) (node : Node) (ended : Bool) (lines : List LogLine) → MayFollow program tag node ended lines → AreLines program tag node ended (map (raw program) lines) lines
lines_are program tag node ended [] may = tt
lines_are program tag node ended (line ∷ lines) may =
    let words = words_cut (first_word line) (other_words program line) (first_above line) (others_above program tag node line may.1) in (
      ap (λ b. cond b (Err what.Word) (line_of program tag node (exact_words (raw program line)))) may.0
          ∙ ap (line_of program tag node) words ∙ words_read program tag node line may.1,
      lines_are program tag node (ends node line) lines may.2,
    )

pub log_is_read : (program : Workload) (tag : List ℕ) (seen : List Node) (log : Log) → MayBeWritten program tag seen log → IsLog program tag seen (log_text program log) log
log_is_read program tag seen log may = record {
  tagged = may.tagged;
  first = node_words log.node;
  further = map (raw program) log.lines;
  lines = lines_told (raw program) (node_words log.node) log.lines
      (spaced_above (codes "node") (node_text log.node ∷ []) node_letters (node_above program.shards log.node may.there may.few_shards, tt))
      (lines_above program tag log.node false log.lines may.lines);
  node = first_read program.shards seen log.node may.there may.few_shards may.unseen;
  read = lines_are program tag log.node false log.lines may.lines;
}
