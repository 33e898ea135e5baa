-- What is added to a text piece by piece is the text of lines.
use Rattle.std.proofs.Common.{◌≡◌, ℕ, ℤ, Bool, true, false, cond, List, [], ◌∷◌, ◌++◌, map, flat_map, filter, length, take, refl, sym, ap, ◌∙◌, ◌≤◌}
use Rattle.std.specs.Fmt.{signed_decimal}
use Rattle.std.proofs.lemmas.List.{take_all}
use Rattle.std.proofs.lemmas.List.Folds.{flat_map-map}
use Rattle.roc_msg.specs.declared.outbox.Outgoing.{Outgoing}
use Rattle.roc_program.specs.Program.{Workload}
use Rattle.roc_wire.specs.declared.header.Header.{Header}
use Rattle.roc_wire.specs.Spelling.{spelling}
use Rattle.roc_log.specs.declared.line.LogLine.TheVariants.{Out}
use Rattle.roc_log.specs.LogLine.{log_line_text, lines_text}
use Rattle.roc_log.specs.Spellable.{has_spelling}
use Rattle.roc_log.specs.Sent.{outs_logged}
use Rattle.roc_log.specs.Inner.Writing.{out_text}

pub numbers_are_words : (numbers : List ℤ) → flat_map (λ n. 32 ∷ signed_decimal n) numbers ≡ flat_map (λ word. 32 ∷ word) (map signed_decimal numbers)
numbers_are_words numbers = sym (flat_map-map (λ (word : List ℕ). 32 ∷ word) signed_decimal numbers)

pub outs_are_lines : (program : Workload) (header : Header) (outs : List Outgoing) → flat_map (out_text header) outs ≡ lines_text program (outs_logged header outs)
outs_are_lines program header [] = refl
outs_are_lines program header (out ∷ outs) = go (has_spelling out.msg) (outs_are_lines program header outs)
  where
    line : List ℕ
    line = log_line_text program (Out (spelling header out.msg))

    go : (b : Bool) → flat_map (out_text header) outs ≡ lines_text program (outs_logged header outs)
        → cond b line [] ++ flat_map (out_text header) outs
        ≡ lines_text program (map (λ (o : Outgoing). Out (spelling header o.msg)) (cond b (out ∷ filter (λ (o : Outgoing). has_spelling o.msg) outs) (filter (λ (o : Outgoing). has_spelling o.msg) outs)))
    go true ih = ap (λ (l : List ℕ). line ++ l) ih
    go false ih = ih

-- what a loop gathered of all messages, and was added to a text
pub gathered : (program : Workload) (header : Header) (outs : List Outgoing) (n : ℕ) (lines before after : List ℕ) → lines ≡ flat_map (out_text header) (take n outs) → length outs ≤ n
    → after ≡ before ++ lines → after ≡ before ++ lines_text program (outs_logged header outs)
gathered program header outs n lines before after is all added =
    added ∙ ap (λ (l : List ℕ). before ++ l) (is ∙ ap (λ (os : List Outgoing). flat_map (out_text header) os) (take_all n outs all) ∙ outs_are_lines program header outs)
