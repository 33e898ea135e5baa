-- Lines that print alike are equal.
use Rattle.std.proofs.Common.{◌≡◌, ℕ, ◌+◌, ◌<◌, ℤ, false, List, [], ◌∷◌, ◌++◌, append_assoc, length, Option, Some, None, FitsSigned, w64, refl, sym, ap, subst, ◌∙◌}
use Rattle.std.specs.List.{AllByRecursion}
use Rattle.std.specs.Fmt.{decimal, signed_decimal}
use Rattle.std.specs.Prelude.{codes, drop, ◌==◌, if◌then◌else◌}
use Rattle.std.proofs.lemmas.Bool.{true≢false, eq-eqb}
use Rattle.roc_base.specs.declared.node.Node.TheVariants.{Server, Coord}
use Rattle.roc_base.specs.declared.node.Shard.{Shard}
use Rattle.roc_base.specs.TxnId.{txn_text}
use Rattle.roc_base.specs.Node.{node_text}
use Rattle.roc_program.specs.Program.{Workload}
use Rattle.roc_program.specs.LookUps.{procedure_name, table_name, columns_of, column_name}
use Rattle.roc_rows.specs.declared.cell.Cell.{Cell}
use Rattle.roc_msg.specs.Reason.{reason_text}
use Rattle.roc_report.specs.Line.{Line, Submit, Busy, Spent, Deliver, Nothing, Tick, Stopped, Drain, Draining, NoProc, Skipped, Gone, Ignored, Send, Answer, Order, Row, Pending, End}
use Rattle.roc_report.specs.ReportLine.{AreNames, HasNames, IsSmallDuring, IsSmallCell, IsCellOf, IsReportLine}
use Rattle.roc_report.specs.Text.{numbers_text, during_text, message_text, key_text, cell_text, words_of, lines_text}
use Rattle.roc_report.proofs.Apart.{numbers_apart, begins_apart, integers_apart}
use Rattle.roc_report.proofs.Parts.{Digits, Letters, tail_of, heads_apart, cons_append, ids_apart, id_lists_apart, number_lists_apart, keys_apart, nodes_apart, names_apart, reasons_apart, messages_apart}

-- ---- what tells the forms apart: the first two letters, behind n the third one, and behind dr the sixth

form_behind_d : (second : ℕ) → List ℕ → ℕ
form_behind_d second (d ∷ e ∷ f ∷ bytes) = if second == 114 then f + 500 else 300
form_behind_d second bytes = 300

form_of : List ℕ → ℕ
form_of (a ∷ b ∷ c ∷ bytes) = if a == 115 then b else if a == 110 then c + 400 else if a == 100 then form_behind_d b bytes else a + 200
form_of bytes = 0

form : Line → ℕ
form (Submit id proc args) = 117
form (Busy coord) = 298
form (Spent coord) = 112
form (Deliver number) = 300
form Nothing = 510
form (Tick node) = 316
form (Stopped shard during) = 116
form (Drain coord) = 532
form (Draining coord) = 605
form (NoProc coord) = 512
form Skipped = 107
form Gone = 303
form (Ignored reason) = 305
form (Send number message) = 101
form (Answer id reply) = 297
form (Order ids) = 311
form (Row cell value) = 314
form (Pending id) = 312
form (End answered pending messages) = 301

-- ---- parts of lines

parts_of_three : (x n y r : List ℕ) → ((x ++ (32 ∷ n)) ++ y) ++ r ≡ x ++ (32 ∷ (n ++ (y ++ r)))
parts_of_three x n y r = simp (append_assoc, cons_append)

parts_of_end : (x y z r : List ℕ) → ((((x ++ codes " answered ") ++ y) ++ codes " pending ") ++ z) ++ codes " messages" ++ r
    ≡ x ++ (codes " answered " ++ (y ++ (codes " pending " ++ (z ++ (codes " messages" ++ r)))))
parts_of_end x y z r = simp append_assoc

parts_of_row : (t p k c v r : List ℕ) → (((((t ++ codes "[") ++ p) ++ k) ++ codes "].") ++ c) ++ (32 ∷ v) ++ r
    ≡ t ++ (codes "[" ++ (p ++ (k ++ (codes "]." ++ (c ++ (32 ∷ (v ++ r)))))))
parts_of_row t p k c v r = simp (append_assoc, cons_append)

cancel : (xs r s : List ℕ) → xs ++ r ≡ xs ++ s → r ≡ s
cancel [] r s e = e
cancel (x ∷ xs) r s e = cancel xs r s (tail_of e)

numbers_letters : (numbers : List ℤ) (r : List ℕ) → Letters (numbers_text numbers ++ (10 ∷ r))
numbers_letters [] r = refl
numbers_letters (n ∷ numbers) r = refl

numbers_digits : (numbers : List ℤ) (r : List ℕ) → Digits (numbers_text numbers ++ (10 ∷ r))
numbers_digits [] r = refl
numbers_digits (n ∷ numbers) r = refl

key_digits : (key : List ℤ) (r : List ℕ) → Digits (key_text key ++ (93 ∷ r))
key_digits [] r = refl
key_digits (n ∷ key) r = refl

-- ---- stops

during_stops : (d : Option (ℕ × Option ℕ)) (r : List ℕ) → Digits (during_text d ++ (10 ∷ r))
during_stops None r = refl
during_stops (Some (k, None)) r = refl
during_stops (Some (k, Some j)) r = refl

same_shard : (n m : Shard) → Server n ≡ Server m → n ≡ m
same_shard n m e = cc

same_coord : (n m : ℕ) → Coord n ≡ Coord m → n ≡ m
same_coord n m e = cc

-- the number of the message, and what is told behind it
during_apart : (d g : Option (ℕ × Option ℕ)) (r s : List ℕ) → IsSmallDuring d → IsSmallDuring g → during_text d ++ (10 ∷ r) ≡ during_text g ++ (10 ∷ s) → (d ≡ g) × (r ≡ s)
during_apart None None r s small also e = (refl, tail_of e)
during_apart None (Some (k, None)) r s small also e = absurd (heads_apart 10 32 r ((decimal k ++ codes " none") ++ (10 ∷ s)) refl e)
during_apart None (Some (k, Some j)) r s small also e = absurd (heads_apart 10 32 r ((decimal k ++ (32 ∷ decimal j)) ++ (10 ∷ s)) refl e)
during_apart (Some (k, None)) None r s small also e = absurd (heads_apart 32 10 ((decimal k ++ codes " none") ++ (10 ∷ r)) s refl e)
during_apart (Some (k, Some j)) None r s small also e = absurd (heads_apart 32 10 ((decimal k ++ (32 ∷ decimal j)) ++ (10 ∷ r)) s refl e)
during_apart (Some (k, None)) (Some (n, None)) r s small also e =
    let behind = sym (append_assoc (decimal k) (codes " none") (10 ∷ r)) ∙ tail_of e ∙ append_assoc (decimal n) (codes " none") (10 ∷ s) in
    let p = numbers_apart k n (codes " none" ++ (10 ∷ r)) (codes " none" ++ (10 ∷ s)) small also refl refl behind in
    (ap (λ k. Some (k, None)) p.0, ap (drop 6) p.1)
during_apart (Some (k, None)) (Some (n, Some j)) r s small also e =
    let behind = sym (append_assoc (decimal k) (codes " none") (10 ∷ r)) ∙ tail_of e ∙ append_assoc (decimal n) (32 ∷ decimal j) (10 ∷ s) in
    let p = numbers_apart k n (codes " none" ++ (10 ∷ r)) (32 ∷ (decimal j ++ (10 ∷ s))) small also.0 refl refl behind in
    absurd (begins_apart j 110 (10 ∷ s) (codes "one" ++ (10 ∷ r)) also.1 refl (sym (tail_of p.1)))
during_apart (Some (k, Some j)) (Some (n, None)) r s small also e =
    let behind = sym (append_assoc (decimal k) (32 ∷ decimal j) (10 ∷ r)) ∙ tail_of e ∙ append_assoc (decimal n) (codes " none") (10 ∷ s) in
    let p = numbers_apart k n (32 ∷ (decimal j ++ (10 ∷ r))) (codes " none" ++ (10 ∷ s)) small.0 also refl refl behind in
    absurd (begins_apart j 110 (10 ∷ r) (codes "one" ++ (10 ∷ s)) small.1 refl (tail_of p.1))
during_apart (Some (k, Some j)) (Some (n, Some i)) r s small also e =
    let behind = sym (append_assoc (decimal k) (32 ∷ decimal j) (10 ∷ r)) ∙ tail_of e ∙ append_assoc (decimal n) (32 ∷ decimal i) (10 ∷ s) in
    let p = numbers_apart k n (32 ∷ (decimal j ++ (10 ∷ r))) (32 ∷ (decimal i ++ (10 ∷ s))) small.0 also.0 refl refl behind in
    let q = numbers_apart j i (10 ∷ r) (10 ∷ s) small.1 also.1 refl refl (tail_of p.1) in
    ((λ t. Some (p.0 t, Some (q.0 t))), tail_of q.1)

unlike : (a b : ℕ) → a == b ≡ false → a ≡ b → ⊥
unlike a b other same = true≢false (sym (eq-eqb a b same) ∙ other)

module _ (program : Workload) (names : HasNames program) where
  formed : (a : Line) (r : List ℕ) → IsReportLine program a → form_of (words_of program a ++ r) ≡ form a
  unfolding form_behind_d form_of form
  formed (Submit id proc args) r is = refl
  formed (Busy coord) r is = refl
  formed (Spent coord) r is = refl
  formed (Deliver number) r is = refl
  formed Nothing r is = refl
  formed (Tick node) r is = refl
  formed (Stopped shard during) r is = refl
  formed (Drain coord) r is = refl
  formed (Draining coord) r is = refl
  formed (NoProc coord) r is = refl
  formed Skipped r is = refl
  formed Gone r is = refl
  formed (Ignored reason) r is = refl
  formed (Send number message) r is = refl
  formed (Answer id reply) r is = refl
  formed (Order ids) r is = refl
  formed (Row cell value) r is = refl
  formed (Pending id) r is = refl
  formed (End answered pending messages) r is = refl

  -- what is left of a line's text behind so many bytes, where both lines have them
  abbrev Same : Line → Line → List ℕ → List ℕ → Type 0
  Same a b r s = words_of program a ++ (10 ∷ r) ≡ words_of program b ++ (10 ∷ s)

  -- one part with a name and another with the same
  same_part : {count : ℕ} {name : ℕ → List ℕ} (are : AreNames count name) (n m : ℕ) (r s : List ℕ) → n < count → m < count → Letters r → Letters s → name n ++ r ≡ name m ++ s → (n ≡ m) × (r ≡ s)
  same_part are n m r s there also stop end e =
      let p = names_apart _ _ r s (are.words n there) (are.words m also) stop end e in
      (are.once n m there also p.0, p.1)

  rows_apart : (a b : Cell) (v w : ℤ) (r s : List ℕ) → IsCellOf program a → IsCellOf program b → IsSmallCell a → IsSmallCell b → FitsSigned w64 v → FitsSigned w64 w
      → (cell_text program a ++ (32 ∷ signed_decimal v)) ++ (10 ∷ r) ≡ (cell_text program b ++ (32 ∷ signed_decimal w)) ++ (10 ∷ s) → (Row a v ≡ Row b w) × (r ≡ s)
  rows_apart a b v w r s of_program here_too small also fits other e =
      let whole = sym (parts_of_row (table_name program a.table) (signed_decimal a.place) (key_text a.id) (column_name program a.table a.column) (signed_decimal v) (10 ∷ r)) ∙ e
      ∙ parts_of_row (table_name program b.table) (signed_decimal b.place) (key_text b.id) (column_name program b.table b.column) (signed_decimal w) (10 ∷ s) in
      let table = same_part names.tables a.table b.table _ _ of_program.table here_too.table refl refl whole in
      let place = integers_apart a.place b.place _ _ small.place also.place (key_digits a.id _) (key_digits b.id _) (tail_of table.1) in
      let id = keys_apart a.id b.id _ _ small.id also.id (_, refl) (_, refl) place.1 in
      let here : column_name program b.table b.column ++ (32 ∷ (signed_decimal w ++ (10 ∷ s))) ≡ column_name program a.table b.column ++ (32 ∷ (signed_decimal w ++ (10 ∷ s))) =
      ap (λ t. column_name program t b.column ++ (32 ∷ (signed_decimal w ++ (10 ∷ s)))) (sym table.0) in
      let within : b.column < length (columns_of program a.table) = subst (λ t. b.column < length (columns_of program t)) (sym table.0) here_too.column in
      let column = same_part (names.columns a.table of_program.table) a.column b.column (32 ∷ (signed_decimal v ++ (10 ∷ r))) (32 ∷ (signed_decimal w ++ (10 ∷ s))) of_program.column within refl refl (tail_of (tail_of id.1) ∙ here) in
      let value = integers_apart v w (10 ∷ r) (10 ∷ s) fits other refl refl (tail_of column.1) in
      ((λ i. Row (record { table = table.0 i; place = place.0 i; id = id.0 i; column = column.0 i }) (value.0 i)), tail_of value.1)

  one_line : (a b : Line) (r s : List ℕ) → IsReportLine program a → IsReportLine program b → form a ≡ form b → Same a b r s → (a ≡ b) × (r ≡ s)
  unfolding form
  one_line (Submit id proc args) (Submit id2 proc2 args2) r s is also f e =
      let behind = sym (parts_of_three (txn_text id) (procedure_name program proc) (numbers_text args) (10 ∷ r)) ∙ ap (drop 7) e
      ∙ parts_of_three (txn_text id2) (procedure_name program proc2) (numbers_text args2) (10 ∷ s) in
      let ids = ids_apart id id2 _ _ is.small.0 also.small.0 refl refl behind in
      let procs = same_part names.procedures proc proc2 _ _ is.parts also.parts (numbers_letters args r) (numbers_letters args2 s) (tail_of ids.1) in
      let numbers = number_lists_apart args args2 (10 ∷ r) (10 ∷ s) is.small.1 also.small.1 (r, refl) (s, refl) procs.1 in
      ((λ i. Submit (ids.0 i) (procs.0 i) (numbers.0 i)), tail_of numbers.1)
  one_line (Submit id proc args) b r s is also f e = absurd (unlike 117 (form b) refl f)
  one_line (Busy m) (Busy n) r s is also f e = let p = numbers_apart m n (10 ∷ r) (10 ∷ s) is.small also.small refl refl (ap (drop 5) e) in (ap Busy p.0, tail_of p.1)
  one_line (Busy m) b r s is also f e = absurd (unlike 298 (form b) refl f)
  one_line (Spent m) (Spent n) r s is also f e = let p = numbers_apart m n (10 ∷ r) (10 ∷ s) is.small also.small refl refl (ap (drop 6) e) in (ap Spent p.0, tail_of p.1)
  one_line (Spent m) b r s is also f e = absurd (unlike 112 (form b) refl f)
  one_line (Deliver m) (Deliver n) r s is also f e = let p = numbers_apart m n (10 ∷ r) (10 ∷ s) is.small also.small refl refl (ap (drop 8) e) in (ap Deliver p.0, tail_of p.1)
  one_line (Deliver m) b r s is also f e = absurd (unlike 300 (form b) refl f)
  one_line Nothing Nothing r s is also f e = (refl, ap (drop 5) e)
  one_line Nothing b r s is also f e = absurd (unlike 510 (form b) refl f)
  one_line (Tick n) (Tick m) r s is also f e = let p = nodes_apart n m (10 ∷ r) (10 ∷ s) is.small also.small refl refl (ap (drop 5) e) in (ap Tick p.0, tail_of p.1)
  one_line (Tick n) b r s is also f e = absurd (unlike 316 (form b) refl f)
  one_line (Stopped n d) (Stopped m g) r s is also f e =
      let behind = sym (append_assoc (node_text (Server n)) (during_text d) (10 ∷ r)) ∙ ap (drop 5) e ∙ append_assoc (node_text (Server m)) (during_text g) (10 ∷ s) in
      let shards = nodes_apart (Server n) (Server m) (during_text d ++ 10 ∷ r) (during_text g ++ 10 ∷ s) is.small.0 also.small.0 (during_stops d r) (during_stops g s) behind in
      let p = during_apart d g r s is.small.1 also.small.1 shards.1 in
      ((λ i. Stopped (same_shard n m shards.0 i) (p.0 i)), p.1)
  one_line (Stopped n d) b r s is also f e = absurd (unlike 116 (form b) refl f)
  one_line (Drain m) (Drain n) r s is also f e =
      let p = nodes_apart (Coord m) (Coord n) (10 ∷ r) (10 ∷ s) is.small also.small refl refl (ap (drop 6) e) in
      ((λ i. Drain (same_coord m n p.0 i)), tail_of p.1)
  one_line (Drain m) b r s is also f e = absurd (unlike 532 (form b) refl f)
  one_line (Draining m) (Draining n) r s is also f e = let p = numbers_apart m n (10 ∷ r) (10 ∷ s) is.small also.small refl refl (ap (drop 9) e) in (ap Draining p.0, tail_of p.1)
  one_line (Draining m) b r s is also f e = absurd (unlike 605 (form b) refl f)
  one_line (NoProc m) (NoProc n) r s is also f e = let p = numbers_apart m n (10 ∷ r) (10 ∷ s) is.small also.small refl refl (ap (drop 7) e) in (ap NoProc p.0, tail_of p.1)
  one_line (NoProc m) b r s is also f e = absurd (unlike 512 (form b) refl f)
  one_line Skipped Skipped r s is also f e = (refl, ap (drop 8) e)
  one_line Skipped b r s is also f e = absurd (unlike 107 (form b) refl f)
  one_line Gone Gone r s is also f e = (refl, ap (drop 5) e)
  one_line Gone b r s is also f e = absurd (unlike 303 (form b) refl f)
  one_line (Ignored a) (Ignored b) r s is also f e =
      let behind : reason_text a ++ (10 ∷ r) ≡ reason_text b ++ (10 ∷ s) = ap (drop 8) e in
      let same = reasons_apart a b (10 ∷ r) (10 ∷ s) behind in
      (ap Ignored same, tail_of (cancel (reason_text a) (10 ∷ r) (10 ∷ s) (behind ∙ ap (λ reason. reason_text reason ++ (10 ∷ s)) (sym same))))
  one_line (Ignored a) b r s is also f e = absurd (unlike 305 (form b) refl f)
  one_line (Send number m) (Send number2 n) r s is also f e =
      let behind = sym (append_assoc (decimal number) (32 ∷ message_text m) (10 ∷ r)) ∙ ap (drop 5) e ∙ append_assoc (decimal number2) (32 ∷ message_text n) (10 ∷ s) in
      let numbers = numbers_apart number number2 _ _ is.small.0 also.small.0 refl refl behind in
      let messages = messages_apart m n (10 ∷ r) (10 ∷ s) is.small.1 also.small.1 (r, refl) (s, refl) (tail_of numbers.1) in
      ((λ i. Send (numbers.0 i) (messages.0 i)), tail_of messages.1)
  one_line (Send number m) b r s is also f e = absurd (unlike 101 (form b) refl f)
  one_line (Answer id reply) (Answer id2 reply2) r s is also f e =
      let behind = sym (append_assoc (txn_text id) (numbers_text reply) (10 ∷ r)) ∙ ap (drop 7) e ∙ append_assoc (txn_text id2) (numbers_text reply2) (10 ∷ s) in
      let ids = ids_apart id id2 _ _ is.small.0 also.small.0 (numbers_digits reply r) (numbers_digits reply2 s) behind in
      let numbers = number_lists_apart reply reply2 (10 ∷ r) (10 ∷ s) is.small.1 also.small.1 (r, refl) (s, refl) ids.1 in
      ((λ i. Answer (ids.0 i) (numbers.0 i)), tail_of numbers.1)
  one_line (Answer id reply) b r s is also f e = absurd (unlike 297 (form b) refl f)
  one_line (Order ids) (Order ids2) r s is also f e = let p = id_lists_apart ids ids2 (10 ∷ r) (10 ∷ s) is.small also.small (r, refl) (s, refl) (ap (drop 5) e) in (ap Order p.0, tail_of p.1)
  one_line (Order ids) b r s is also f e = absurd (unlike 311 (form b) refl f)
  one_line (Row cell value) (Row cell2 value2) r s is also f e = rows_apart cell cell2 value value2 r s is.parts also.parts is.small.0 also.small.0 is.small.1 also.small.1 (ap (drop 4) e)
  one_line (Row cell value) b r s is also f e = absurd (unlike 314 (form b) refl f)
  one_line (Pending id) (Pending id2) r s is also f e = let p = ids_apart id id2 (10 ∷ r) (10 ∷ s) is.small also.small refl refl (ap (drop 8) e) in (ap Pending p.0, tail_of p.1)
  one_line (Pending id) b r s is also f e = absurd (unlike 312 (form b) refl f)
  one_line (End a p m) (End a2 p2 m2) r s is also f e =
      let behind = sym (parts_of_end (decimal a) (decimal p) (decimal m) (10 ∷ r)) ∙ ap (drop 4) e ∙ parts_of_end (decimal a2) (decimal p2) (decimal m2) (10 ∷ s) in
      let answered = numbers_apart a a2 _ _ is.small.0 also.small.0 refl refl behind in
      let pending = numbers_apart p p2 _ _ is.small.1 also.small.1 refl refl (ap (drop 10) answered.1) in
      let messages = numbers_apart m m2 _ _ is.small.2 also.small.2 refl refl (ap (drop 9) pending.1) in
      ((λ i. End (answered.0 i) (pending.0 i) (messages.0 i)), ap (drop 10) messages.1)
  one_line (End a p m) b r s is also f e = absurd (unlike 301 (form b) refl f)

  -- ---- lists of lines

  some_text : (words r : List ℕ) → [] ≡ (words ++ 10 ∷ []) ++ r → ⊥
  some_text [] r e = absurd (cc)
  some_text (w ∷ words) r e = absurd (cc)

  pub one_list : (some others : List Line) → AllByRecursion (IsReportLine program) some → AllByRecursion (IsReportLine program) others → lines_text program some ≡ lines_text program others → some ≡ others
  one_list [] [] all also e = refl
  one_list [] (b ∷ others) all also e = absurd (some_text (words_of program b) (lines_text program others) e)
  one_list (a ∷ some) [] all also e = absurd (some_text (words_of program a) (lines_text program some) (sym e))
  one_list (a ∷ some) (b ∷ others) all also e =
      let whole : Same a b (lines_text program some) (lines_text program others) =
      sym (append_assoc (words_of program a) (10 ∷ []) (lines_text program some)) ∙ e ∙ append_assoc (words_of program b) (10 ∷ []) (lines_text program others) in
      let forms : form a ≡ form b = sym (formed a (10 ∷ lines_text program some) all.0) ∙ (ap form_of whole ∙ formed b (10 ∷ lines_text program others) also.0) in
      let first = one_line a b (lines_text program some) (lines_text program others) all.0 also.0 forms whole in
      let rest = one_list some others all.1 also.1 first.1 in
      (λ i. first.0 i ∷ rest i)
