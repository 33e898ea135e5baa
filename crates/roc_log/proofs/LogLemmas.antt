-- From what reading gives to logs and their first faults, and back.
use Rattle.std.proofs.Common.{◌≡◌, ℕ, ◌+◌, Bool, false, List, [], ◌∷◌, ◌++◌, length, Result, Ok, Err, refl, sym, ap, subst, ◌∙◌, ◌⊎◌, inl, inr, IfOk, IfErr, arith}
use Rattle.roc_base.specs.declared.node.Node.{Node}
use Rattle.roc_program.specs.Program.{Workload}
use Rattle.roc_log.specs.declared.fault.What.{What}
use Rattle.roc_log.specs.declared.fault.LogFault.{LogFault}
use Rattle.roc_log.specs.declared.fault.LogFault.TheVariants.{At, NoMemory}
use Rattle.roc_log.specs.declared.line.LogLine.{LogLine}
use Rattle.roc_log.specs.declared.line.Log.{Log}
use Rattle.roc_log.specs.Words.{log_lines}
use Rattle.roc_log.specs.Reading.{first_line, further_line, ends}
use Rattle.roc_log.specs.Logs.{AreLines, IsLog, IsLogFault, no_line, at_first, at_further, ended_behind, IsLogOr, IsFaultBy}
use Rattle.roc_log.specs.Inner.Given.{GivesAt, onto, before_lines, lines_read, with_node, behind_node, log_of_lines}

ok_same : {A B : Type 0} (x y : A) → ◌≡◌ {A = Result A B} (Ok x) (Ok y) → x ≡ y
ok_same x y e = cc

err_same : {A B : Type 0} (x y : B) → ◌≡◌ {A = Result A B} (Err x) (Err y) → x ≡ y
err_same x y e = cc

module _ (program : Workload) (tag : List ℕ) (node : Node) where
  abbrev reads_of : (ended : Bool) (number : ℕ) (lines : List (List ℕ)) → Result (List LogLine) (ℕ × What)
  reads_of ended number lines = lines_read program tag node ended number lines

  abbrev line_at : (ended : Bool) (line : List ℕ) → Result LogLine What
  line_at ended line = further_line program tag node ended line

  -- lines are read as what they are
  pub lines_are_read : (ended : Bool) (number : ℕ) (lines : List (List ℕ)) (reads : List LogLine) → AreLines program tag node ended lines reads → reads_of ended number lines ≡ Ok reads
  lines_are_read ended number [] [] are = refl
  lines_are_read ended number [] (read ∷ reads) are = absurd are
  lines_are_read ended number (line ∷ lines) [] are = absurd are
  lines_are_read ended number (line ∷ lines) (read ∷ reads) are =
      ap (λ one. before_lines number one (λ r. reads_of (ends node r) (number + 1) lines)) are.0
      ∙ ap (onto read) (lines_are_read (ends node read) (number + 1) lines reads are.1)

  -- the first line that is wrong
  pub record Stops (ended : Bool) (number : ℕ) (lines : List (List ℕ)) (fault : ℕ × What) : Type 0 where
    pub before : List (List ℕ)
    pub line : List ℕ
    pub behind : List (List ℕ)
    pub reads : List LogLine
    pub parts : lines ≡ before ++ line ∷ behind
    pub right : AreLines program tag node ended before reads
    pub wrong : line_at (ended_behind node ended reads) line ≡ Err fault.1
    pub place : fault.0 ≡ number + length before

  -- what reading gives is told
  abbrev pub Told : (ended : Bool) (number : ℕ) (lines : List (List ℕ)) → Result (List LogLine) (ℕ × What) → Type 0
  Told ended number lines (Ok reads) = AreLines program tag node ended lines reads
  Told ended number lines (Err fault) = Stops ended number lines fault

  told_further : (ended : Bool) (number : ℕ) (line : List ℕ) (lines : List (List ℕ)) (read : LogLine) → line_at ended line ≡ Ok read
      → (given : Result (List LogLine) (ℕ × What)) → Told (ends node read) (number + 1) lines given → Told ended number (line ∷ lines) (onto read given)
  told_further ended number line lines read is (Ok reads) told = (is, told)
  told_further ended number line lines read is (Err fault) told = record {
    before = line ∷ told.before;
    line = told.line;
    behind = told.behind;
    reads = read ∷ told.reads;
    parts = ap (λ ls. line ∷ ls) told.parts;
    right = (is, told.right);
    wrong = told.wrong;
    place = (let n = told.place in omega (arith, n));
  }

  pub is_told : (ended : Bool) (number : ℕ) (lines : List (List ℕ)) → Told ended number lines (reads_of ended number lines)
  is_told ended number [] = tt
  is_told ended number (line ∷ lines) = go (line_at ended line) refl (λ read. is_told (ends node read) (number + 1) lines)
    where
      go : (one : Result LogLine What) → line_at ended line ≡ one → ((read : LogLine) → Told (ends node read) (number + 1) lines (reads_of (ends node read) (number + 1) lines))
          → Told ended number (line ∷ lines) (before_lines number one (λ r. reads_of (ends node r) (number + 1) lines))
      go (Ok read) is behind = told_further ended number line lines read is (reads_of (ends node read) (number + 1) lines) (behind read)
      go (Err fault) is behind = record {
        before = [];
        line = line;
        behind = lines;
        reads = [];
        parts = refl;
        right = tt;
        wrong = is;
        place = omega arith;
      }

  -- reading stops where a line is wrong
  pub reading_stops : (ended : Bool) (number : ℕ) (before : List (List ℕ)) (line : List ℕ) (behind : List (List ℕ)) (reads : List LogLine) (what : What)
      → AreLines program tag node ended before reads → line_at (ended_behind node ended reads) line ≡ Err what
      → reads_of ended number (before ++ line ∷ behind) ≡ Err (number + length before, what)
  reading_stops ended number [] line behind [] what are wrong =
      ap (λ one. before_lines number one (λ r. reads_of (ends node r) (number + 1) behind)) wrong ∙ ap (λ n. Err (n, what)) (omega arith)
  reading_stops ended number [] line behind (read ∷ reads) what are wrong = absurd are
  reading_stops ended number (first ∷ before) line behind [] what are wrong = absurd are
  reading_stops ended number (first ∷ before) line behind (read ∷ reads) what are wrong =
      ap (λ one. before_lines number one (λ r. reads_of (ends node r) (number + 1) (before ++ line ∷ behind))) are.0
      ∙ ap (onto read) (reading_stops (ends node read) (number + 1) before line behind reads what are.1 wrong)
      ∙ ap (λ n. Err (n, what)) (omega arith)

-- ---- whole logs

module _ (program : Workload) (tag : List ℕ) (seen : List Node) (text : List ℕ) where
  abbrev given : Result Log (ℕ × What)
  given = log_of_lines program tag seen (log_lines text)

  pub log_is_given : (log : Log) → IsLog program tag seen text log → given ≡ Ok log
  log_is_given log is =
      ap (log_of_lines program tag seen) is.lines
      ∙ ap (λ node. behind_node program tag node is.further) is.node
      ∙ ap (with_node tag log.node) (lines_are_read program tag log.node false 2 is.further log.lines is.read)
      ∙ ap (λ t. Ok (record { tag = t; node = log.node; lines = log.lines })) (sym is.tagged)

  pub fault_is_given : (line : ℕ) (what : What) → IsLogFault program tag seen text line what → given ≡ Err (line, what)
  fault_is_given line what (no_line none) = ap (log_of_lines program tag seen) none
  fault_is_given line what (at_first first further what' lines wrong) = ap (log_of_lines program tag seen) lines ∙ ap (λ node. behind_node program tag node further) wrong
  fault_is_given line what (at_further first before line' behind node reads what' lines right are wrong) =
      ap (log_of_lines program tag seen) lines
      ∙ ap (λ n. behind_node program tag n (before ++ line' ∷ behind)) right
      ∙ ap (with_node tag node) (reading_stops program tag node false 2 before line' behind reads what' are wrong)

  -- what was given is so
  abbrev pub IsSo : Result Log (ℕ × What) → Type 0
  IsSo (Ok log) = IsLog program tag seen text log
  IsSo (Err fault) = IsLogFault program tag seen text fault.0 fault.1

  so_behind : (first : List ℕ) (further : List (List ℕ)) (node : Node) → log_lines text ≡ first ∷ further → first_line program.shards seen first ≡ Ok node
      → (reads : Result (List LogLine) (ℕ × What)) → Told program tag node false 2 further reads → IsSo (with_node tag node reads)
  so_behind first further node lines named (Ok reads) told = record { tagged = refl; first = first; further = further; lines = lines; node = named; read = told }
  so_behind first further node lines named (Err fault) told =
      subst (λ n. IsLogFault program tag seen text n fault.1) (sym told.place)
      (at_further first told.before told.line told.behind node told.reads fault.1 (lines ∙ ap (λ ls. first ∷ ls) told.parts) named told.right told.wrong)

  pub given_is_so : IsSo given
  given_is_so = go (log_lines text) refl
    where
      named : (first : List ℕ) (further : List (List ℕ)) → log_lines text ≡ first ∷ further → (node : Result Node What) → first_line program.shards seen first ≡ node → IsSo (behind_node program tag node further)
      named first further lines (Ok node) is = so_behind first further node lines is (lines_read program tag node false 2 further) (is_told program tag node false 2 further)
      named first further lines (Err what) is = at_first first further what lines is

      go : (lines : List (List ℕ)) → log_lines text ≡ lines → IsSo (log_of_lines program tag seen lines)
      go [] none = no_line none
      go (first ∷ further) lines = named first further lines (first_line program.shards seen first) refl

  -- ---- laws

  pub logs_are_one : (log other : Log) → IsLog program tag seen text log → IsLog program tag seen text other → log ≡ other
  logs_are_one log other is also = ok_same {B = ℕ × What} log other (sym (log_is_given log is) ∙ log_is_given other also)

  pub faults_are_one : (line other : ℕ) (what cause : What) → IsLogFault program tag seen text line what → IsLogFault program tag seen text other cause → (line ≡ other) × (what ≡ cause)
  faults_are_one line other what cause is also =
      let same : (line, what) ≡ (other, cause) = err_same {A = Log} (line, what) (other, cause) (sym (fault_is_given line what is) ∙ fault_is_given other cause also) in
      (ap (λ (p : ℕ × What). p.0) same, ap (λ (p : ℕ × What). p.1) same)

  pub not_both : (log : Log) (line : ℕ) (what : What) → IsLog program tag seen text log → IsLogFault program tag seen text line what → ⊥
  not_both log line what is wrong = let both : ◌≡◌ {A = Result Log (ℕ × What)} (Ok log) (Err (line, what)) = sym (log_is_given log is) ∙ fault_is_given line what wrong in absurd (cc)

  pub one_of_both : ((log : Log) × IsLog program tag seen text log) ⊎ ((line : ℕ) × (what : What) × IsLogFault program tag seen text line what)
  one_of_both = go given given_is_so
    where
      go : (read : Result Log (ℕ × What)) → IsSo read → ((log : Log) × IsLog program tag seen text log) ⊎ ((line : ℕ) × (what : What) × IsLogFault program tag seen text line what)
      go (Ok log) so = inl (log, so)
      go (Err fault) so = inr (fault.0, fault.1, so)

  -- ---- what a function returned

  pub is_found : (result : Result Log LogFault) → GivesAt result given → IfOk result (IsLog program tag seen text)
  is_found (Ok log) gives = subst IsSo gives given_is_so
  is_found (Err fault) gives = tt

  pub is_only : (result : Result Log LogFault) → GivesAt result given → (log : Log) → IsLog program tag seen text log → IsLogOr log result
  is_only (Ok read) gives log is = ok_same {B = ℕ × What} read log (sym gives ∙ log_is_given log is)
  is_only (Err NoMemory) gives log is = tt
  is_only (Err (At line what)) gives log is = let both : ◌≡◌ {A = Result Log (ℕ × What)} (Err (line, what)) (Ok log) = sym gives ∙ log_is_given log is in absurd (cc)

  pub is_fault : (result : Result Log LogFault) → GivesAt result given → IfErr result (IsFaultBy (IsLogFault program tag seen text))
  is_fault (Ok log) gives = tt
  is_fault (Err NoMemory) gives = tt
  is_fault (Err (At line what)) gives = subst IsSo gives given_is_so
