-- Texts are read alike with different limits of the integers of an id, where the tokens are no more than either
use Rattle.std.proofs.Common.{◌≡◌, ℕ, ◌-◌, ◌+◌, ◌≤◌, max, Bool, true, false, List, [], ◌∷◌, ◌++◌, length, length-append, append_assoc, refl, sym, ap, subst, ◌∙◌, arith}
use Rattle.std.specs.Prelude.{Ok, Err}
use Rattle.std.proofs.lemmas.List.{append-nil}
use lib.Chars.{codes}
use Rattle.roc_lang.specs.Syntax.{Get, Set, Out, Tree}
use Rattle.roc_lang.specs.Tokens.{Token}
use Rattle.roc_lang.specs.Grammar.{Limits, standard, IsText, text_limit, open_brace, close_brace, open_bracket, comma, semicolon, dot, equals}
use Rattle.roc_lang_parse.proofs.Spared.{expression_takes, signed_takes}
use Rattle.roc_lang_parse.proofs.Counted.{step_takes}
use Rattle.roc_lang_parse.specs.Stuck.{Stuck, Reading}
use Rattle.roc_lang_parse.specs.Parts.{has_word, signed_at}
use Rattle.roc_lang_parse.specs.Reading.{expression_at, id_at, access_at, get_at, set_at, out_at, statement_at, starts_statement, head_at, piece_at, starts_piece, procedure_at, said_arity_at, arity_at, table_at, row_at, init_at, text_at}
use Rattle.roc_lang_parse.specs.Lexed as lexed
use Rattle.roc_lang_parse.specs.Lexed.{IsLexed}
use Rattle.roc_lang_parse.specs.Fault.{GoesOn}
use Rattle.roc_lang_parse.proofs.Exact.{Why, Refused}
use Rattle.roc_lang_parse.proofs.Terminals.{exact_word, exact_mark, exact_word_at, exact_id_end, exact_name, exact_class}
use Rattle.roc_lang_parse.proofs.Statements.{exact_expression, exact_signed}
use Rattle.roc_lang_parse.proofs.Procedures.{exact_arguments, exact_opening}
use Rattle.roc_lang_parse.proofs.Texts.{Whole, at_end, exact_table, exact_front, exact_end, exact_text}
use Rattle.roc_lang_parse.proofs.Wider.{Deeper, Further}
use Rattle.roc_lang_parse.proofs.Further.{AtMost, past, past_all, past_standard, past_ids, further_text}
use Rattle.roc_lang_parse.proofs.Answers.{text_read_is, front_goes_on, none_further}
use Rattle.roc_lang_parse.proofs.Alike.{Alike, Takes, alone, takes_some, alike_bind, alike_mapped, alike_choice, alike_many, alike_some, alike_separated}

-- the standard limits, but for this one
abbrev pub with_ids : ℕ → Limits
with_ids ids = record standard { ids = ids }

further : Further standard (past standard)
further = past_standard standard

depth : Deeper standard.depth (past standard).depth
depth = further.depth

expression_some : Takes (expression_at standard.depth)
expression_some = takes_some (exact_expression standard.depth (past standard).depth depth) refl (λ a b e h. expression_takes h)

signed_some : Takes signed_at
signed_some = takes_some exact_signed refl (λ a b n h. signed_takes h)

module _ (n ids : ℕ) (all : n ≤ standard.ids) (fits : n ≤ ids) where
  expression : Alike n (expression_at standard.depth) (expression_at standard.depth)
  expression = alone n (exact_expression standard.depth (past standard).depth depth)

  id_alike : Alike n (id_at standard) (id_at (with_ids ids))
  id_alike = alike_separated (expression_at standard.depth) expression_some (standard.ids - 1) (ids - 1) (omega (arith, all)) (omega (arith, fits))

  access_alike : Alike n (access_at standard) (access_at (with_ids ids))
  unfolding access_at
  access_alike =
      alike_bind (alone n exact_name) (λ t. alike_bind (alone n (exact_mark open_bracket)) (λ o. alike_bind id_alike (λ es. alike_bind (alone n exact_id_end) (λ z.
      alike_bind (alone n (exact_mark dot)) (λ d. alike_mapped (λ c. record { table = t; id = es; id_line = z; column = c }) (alone n exact_name))))))

  get_alike : Alike n (get_at standard) (get_at (with_ids ids))
  unfolding get_at
  get_alike =
      alike_bind (alone n (exact_word (codes "get"))) (λ w. alike_bind (alone n exact_name) (λ name. alike_bind (alone n (exact_mark equals)) (λ e.
      alike_bind access_alike (λ from. alike_mapped (λ s. Get name from) (alone n (exact_mark semicolon))))))

  set_alike : Alike n (set_at standard) (set_at (with_ids ids))
  unfolding set_at
  set_alike =
      alike_bind (alone n (exact_word_at (codes "set"))) (λ line. alike_bind access_alike (λ to. alike_bind (alone n (exact_mark equals)) (λ e.
      alike_bind expression (λ value. alike_mapped (λ s. Set line to value) (alone n (exact_mark semicolon))))))

  out_alike : Alike n (out_at standard) (out_at (with_ids ids))
  unfolding out_at
  out_alike = alike_bind (alone n (exact_word (codes "out"))) (λ w. alike_bind expression (λ value. alike_mapped (λ s. Out value) (alone n (exact_mark semicolon))))

  statement_alike : Alike n (statement_at standard) (statement_at (with_ids ids))
  unfolding statement_at
  statement_alike = alike_choice (has_word (codes "get")) get_alike (alike_choice (has_word (codes "set")) set_alike out_alike)

  head_alike : Alike n (head_at standard.depth) (head_at standard.depth)
  unfolding head_at
  head_alike =
      alike_bind (alone n exact_class) (λ c. alike_bind (alone n exact_name) (λ name. alike_bind (alone n (exact_word (codes "at"))) (λ w. alike_mapped (λ e. (c, name, e)) expression)))

  piece_alike : Alike n (piece_at standard) (piece_at (with_ids ids))
  unfolding piece_at
  piece_alike =
      alike_bind head_alike (λ h. alike_bind (alone n (exact_mark open_brace)) (λ o. alike_bind (alike_many starts_statement statement_alike standard.statements) (λ b.
      alike_mapped (λ c. record { is_now = h.0.0; class_line = h.0.1; name = h.1; place = h.2; body = b }) (alone n (exact_mark close_brace)))))

  procedure_alike : Alike n (procedure_at standard) (procedure_at (with_ids ids))
  unfolding procedure_at
  procedure_alike =
      alike_bind (alone n (exact_word (codes "proc"))) (λ w. alike_bind (alone n exact_name) (λ name. alike_bind (alone n (exact_arguments standard (past standard) further)) (λ arguments.
      alike_bind (alone n exact_opening) (λ v. alike_bind (alike_some starts_piece piece_alike (standard.pieces - 1)) (λ ps.
      alike_mapped (λ c. record { name = name; arguments = arguments; is_view = v; pieces = ps }) (alone n (exact_mark close_brace)))))))

  table_alike : Alike n (table_at standard) (table_at (with_ids ids))
  unfolding table_at arity_at said_arity_at
  table_alike = alone n (exact_table standard (past standard) further)

  row_alike : Alike n (row_at standard) (row_at (with_ids ids))
  unfolding row_at
  row_alike =
      alike_bind (alone n (exact_mark open_bracket)) (λ o. alike_bind (alone n exact_signed) (λ p. alike_bind (alone n (exact_mark comma)) (λ c.
      alike_bind (alike_separated signed_at signed_some (standard.ids - 1) (ids - 1) (omega (arith, all)) (omega (arith, fits))) (λ is.
      alike_mapped (λ z. (p, is, z)) (alone n exact_id_end)))))

  init_alike : Alike n (init_at standard) (init_at (with_ids ids))
  unfolding init_at
  init_alike =
      alike_bind (alone n (exact_word (codes "init"))) (λ w. alike_bind (alone n exact_name) (λ t. alike_bind row_alike (λ r. alike_bind (alone n (exact_mark dot)) (λ d.
      alike_bind (alone n exact_name) (λ c. alike_bind (alone n (exact_mark equals)) (λ e. alike_bind (alone n exact_signed) (λ v.
      alike_mapped (λ s. record { table = t; place = r.0; id = r.1; id_line = r.2; column = c; value = v }) (alone n (exact_mark semicolon)))))))))

  pub text_alike : Alike n (text_at standard) (text_at (with_ids ids))
  unfolding text_at
  text_alike =
      alike_bind (alone n exact_front) (λ s. alike_bind (alike_many (has_word (codes "table")) table_alike standard.tables) (λ ts.
      alike_bind (alike_many (has_word (codes "init")) init_alike standard.inits) (λ is. alike_bind (alike_many (has_word (codes "proc")) procedure_alike standard.procedures) (λ ps.
      alike_mapped (λ e. record { shards = s.0; shards_line = s.1; tables = ts; inits = is; procedures = ps }) (alone n exact_end)))))

-- ---- what goes on with such a limit goes on within the standard one

more_ids : (ids : ℕ) → AtMost (with_ids ids) (with_ids (max ids standard.ids))
more_ids ids = record {
  tables = omega arith;
  columns = omega arith;
  least_arity = omega arith;
  arity = omega arith;
  ids = omega arith;
  inits = omega arith;
  procedures = omega arith;
  arguments = omega arith;
  pieces = omega arith;
  statements = omega arith;
  depth = omega arith;
}

-- no text goes on where reading is stuck
stuck_never : (l : Limits) (before : List Token) (s : Stuck) (u : Token) (k : List Token) → s.rest ≡ u ∷ k → Refused (Whole l) (Whole (past l)) at_end before s → GoesOn l before → ⊥
stuck_never l before s u k rest r g = go s.past (subst (λ z. Why (Whole l) (Whole (past l)) at_end r.taken s.past z) rest r.why)
  where
    split : before ≡ r.taken ++ u ∷ k
    split = r.split ∙ ap (λ z. r.taken ++ z) rest

    moved : before ++ g.more ≡ (r.taken ++ u ∷ []) ++ (k ++ g.more)
    moved = ap (λ z. z ++ g.more) split ∙ append_assoc r.taken (u ∷ k) g.more ∙ sym (append_assoc r.taken (u ∷ []) (k ++ g.more))

    there : GoesOn l (r.taken ++ u ∷ [])
    there = record { more = k ++ g.more; tree = g.tree; is = subst (λ z. IsText l z g.tree) moved g.is }

    go : (p : Bool) → Why (Whole l) (Whole (past l)) at_end r.taken p (u ∷ k) → ⊥
    go true why = none_further l r.taken u why.0 there
    go false why = none_further (past l) r.taken u why (record { more = there.more; tree = there.tree; is = further_text l (past l) (past_all l) there.is })

module _ (ids : ℕ) (before : List Token) (few : length before ≤ standard.ids) (g : GoesOn (with_ids ids) before) where
  abbrev wide : ℕ
  wide = max ids standard.ids

  goes_wide : GoesOn (with_ids wide) before
  goes_wide = record { more = g.more; tree = g.tree; is = further_text (with_ids ids) (with_ids wide) (more_ids ids) g.is }

  alike : text_at standard before ≡ text_at (with_ids wide) before
  alike = (text_alike (length before) wide few (omega (arith, few))).same before (omega arith)

  read_goes_on : (r : Reading Tree) → text_at standard before ≡ r → GoesOn standard before
  read_goes_on (Ok x) read = record { more = []; tree = x.0; is = subst (λ z. IsText standard z x.0) (sym (append-nil before)) (text_read_is before x.1 x.0 read) }
  read_goes_on (Err s) read = stopped s.rest refl
    where
      here : Refused (Whole standard) (Whole (past standard)) at_end before s
      here = (exact_text standard (past standard) further).stuck before s read

      stopped : (rest : List Token) → s.rest ≡ rest → GoesOn standard before
      stopped [] end = subst (λ z. GoesOn standard z) (sym (here.split ∙ ap (λ z. here.taken ++ z) end ∙ append-nil here.taken)) (front_goes_on standard here.taken here.front)
      stopped (u ∷ k) rest =
          let other = (exact_text (with_ids wide) (past (with_ids wide)) (past_ids wide (omega arith))).stuck before s (sym alike ∙ read) in
          absurd (stuck_never (with_ids wide) before s u k rest other goes_wide)

  goes_on : GoesOn standard before
  goes_on = read_goes_on (text_at standard before) refl

few_lexed : {line after : ℕ} {bytes rest : List ℕ} {before : List Token} → IsLexed line bytes before after rest → length before + length rest ≤ length bytes
few_lexed lexed.here = omega arith
few_lexed (lexed.further {bytes = bytes} {between = between} {rest = rest} {tokens = tokens} {next = next} first step) =
    let begin : length tokens + length between ≤ length bytes = few_lexed first in
    let end : length next + length rest ≤ length between = step_takes step in
    let all : length (tokens ++ next) ≡ length tokens + length next = length-append tokens next in
    omega (arith, begin, end, all)

pub never_the_fault : (bytes : List ℕ) (before : List Token) (line : ℕ) (rest : List ℕ) (ids : ℕ) → length bytes ≤ text_limit → IsLexed 1 bytes before line rest
    → GoesOn (record standard { ids = ids }) before → GoesOn standard before
never_the_fault bytes before line rest ids size are g = let few = few_lexed are in goes_on ids before (omega (arith, size, few)) g
