-- Why nothing is wrong with a call whose words and files fit
use Rattle.std.proofs.Common.{◌≡◌, ℕ, ◌<◌, List, [], length, Option, Some, IfSome, Ok, Err, refl, sym, ap, subst, ◌∙◌, arith}
use Rattle.std.proofs.lemmas.Option.{none-some}
use Rattle.roc_lang.specs.Syntax.{Tree}
use Rattle.roc_lang.specs.Scope.{Fault, faults}
use Rattle.roc_lang.specs.Grammar.{text_limit}
use Rattle.roc_lang.specs.declared.fault.What.{What}
use Rattle.roc_lang_parse.specs.Fault.{IsWorkloadText, IsFirstFault}
use Rattle.roc_lang_scope.specs.Fault.{first}
use Rattle.roc_program.specs.Program.{Workload}
use Rattle.roc_lang_resolve.specs.Resolve.{resolved}
use Rattle.roc_plan.specs.Groups.{Plan}
use Rattle.roc_report.specs.Checked.{CheckedLine}
use Rattle.roc_check.specs.Checked.{IsTextOf, IsPlanOfText, IsRefusedBy, IsRefusedText}
use Rattle.roc_cli_words.specs.declared.value.Part.{Part}
use Rattle.roc_cli_words.specs.declared.value.ValueName.{ValueName}
use Rattle.roc_cli_words.specs.Commands.{Command, check, print, replay, gen}
use Rattle.roc_cli_words.specs.Answer.{AreWordsOf, HaveNoValue}
use Rattle.roc_cli_nodes.specs.Call.{RunCall}
use Rattle.roc_cli_nodes.specs.Words.{IsGen, node_files, program_of, workload_of, NamesProgram, NamesWorkload, NamesNodeFiles}
use Rattle.roc_cli_files.specs.Held.{NodeFiles, Holds, HoldsMore, HoldsPlan, HoldsText, HoldsFault, HoldsMisuse, HoldsRejected}
use Rattle.roc_cli.specs.Refused.{AreRefusedWords, by_clap, no_value, no_shard, IsRefused, long_workload, no_text, out_of_scope, long_schedule, bad_next, bad_schedule, long_cluster}
use Rattle.roc_cli.specs.Refused.{bad_cluster, long_requests, bad_requests, bad_logs}
use Rattle.roc_cli.specs.Fit.{PrintFits, CheckFits}
use Rattle.roc_cli.specs.Inner.Faultless.{IsFaultless}
use Rattle.roc_cli.specs.Inner.Texts.{TextLaws}
use Rattle.roc_cli.proofs.Commands.{not_audit, refused_logs, not_next, judged_alone}
use Rattle.roc_cli_nodes.proofs.Naming.{unlike, same_name, no_name, as_workload}

-- ---- what a file holds

-- bytes that are told are those that are held
pub told : (content : List ℕ → Option (List ℕ)) (name other bytes held : List ℕ) → content name ≡ Some bytes → other ≡ name → Holds content other held → bytes ≡ held
told content name other bytes held is same h =
    subst (λ o. IfSome o (λ b. b ≡ held)) is (subst (λ n. Holds content n held) same h)

pub told_more : (content : List ℕ → Option (List ℕ)) (name other bytes : List ℕ) (most : ℕ) → content name ≡ Some bytes → other ≡ name → HoldsMore content other most → most < length bytes
told_more content name other bytes most is same h =
    subst (λ o. IfSome o (λ b. most < length b)) is (subst (λ n. HoldsMore content n most) same h)

-- ---- words

-- a value that is none is that of no command
pub no_such_value : (words : List (List ℕ)) (c : Command) (value : ValueName) → AreWordsOf words c → HaveNoValue words value → ⊥
no_such_value words c value is none = let both : Some (Ok c) ≡ Some (Err value) = sym is.asked ∙ none.asked in absurd (cc)

-- words of a command without nodes are not refused
pub words_taken : (call : RunCall) (c : Command) → AreWordsOf call.words c → ((files : NodeFiles) → NamesNodeFiles call.words files → ⊥) → (line : List ℕ) → AreRefusedWords call line → ⊥
words_taken call c is alone line (by_clap text not) = not is.taken
words_taken call c is alone line (no_value value none) = no_such_value call.words c value is none
words_taken call c is alone line (no_shard files names lacks) = alone files names

-- ---- a workload

module _ (laws : TextLaws) (content : List ℕ → Option (List ℕ)) (workload bytes : List ℕ) (held : content workload ≡ Some bytes) where
  module _ (tree : Tree) (text : IsWorkloadText bytes tree) where
    pub not_long : (name : List ℕ) → name ≡ workload → HoldsMore content name text_limit → ⊥
    not_long name same more = let past = told_more content workload name bytes text_limit held same more in let size = text.size in absurd (omega arith)

    pub not_faulty : (name : List ℕ) (line : ℕ) (what : What) → name ≡ workload → HoldsFault content name line what → ⊥
    not_faulty name line what same h =
        laws.no_fault bytes tree line what text (subst (λ b. IsFirstFault b line what) (sym (told content workload name bytes h.bytes held same h.held)) h.fault)

    same_tree : (name : List ℕ) (other : Tree) → name ≡ workload → HoldsText content name other → other ≡ tree
    same_tree name other same h =
        laws.one_tree bytes other tree (subst (λ b. IsWorkloadText b other) (sym (told content workload name bytes h.bytes held same h.held)) h.is) text

  module _ (program : Workload) (text : IsTextOf bytes program) where
    pub in_scope : (name : List ℕ) (fault : Fault) → name ≡ workload → HoldsMisuse content name fault → ⊥
    in_scope name fault same h =
        let e : faults h.tree ≡ [] = ap faults (same_tree text.tree text.text name h.tree same h.of) ∙ text.in_scope in
        absurd (none-some fault (sym (ap first e) ∙ h.is))

  module _ (plan : Plan) (planned : IsPlanOfText bytes plan) where
    abbrev tree : Tree
    tree = planned.text.tree

    pub same_plan : (name : List ℕ) (other : Plan) → name ≡ workload → HoldsPlan content name other → other ≡ plan
    same_plan name other same h =
        laws.one_plan bytes other plan (subst (λ b. IsPlanOfText b other) (sym (told content workload name bytes h.bytes held same h.held)) h.is) planned

    pub not_rejected : (name : List ℕ) (program : Workload) (said : CheckedLine) → name ≡ workload → HoldsRejected content name program said → ⊥
    not_rejected name program said same h =
        let refused : IsRefusedText bytes program said = subst (λ b. IsRefusedText b program said) (sym (told content workload name bytes h.bytes held same h.held)) h.is in
        let e : program ≡ plan.program = refused.text.is ∙ ap resolved (laws.one_tree bytes refused.text.tree tree refused.text.text planned.text.text) ∙ sym planned.text.is in
        laws.no_refusal plan.program plan said planned.has (subst (λ p. IsRefusedBy p said) e refused.refused)

-- ---- calls

-- a file that is refused needs words of its own
module _ (laws : TextLaws) (call : RunCall) where
  module _ (fit : CheckFits call) where
    checked_workload : (name : List ℕ) → NamesWorkload call.words name → name ≡ fit.workload
    checked_workload name names = same_name workload_of call.words name fit.workload names (check fit.workload, fit.given, refl)

    checked_program : (name : List ℕ) → NamesProgram call.words name → name ≡ fit.workload
    checked_program name names = checked_workload name (as_workload call.words name names)

    checked_alone : (files : NodeFiles) → NamesNodeFiles call.words files → ⊥
    checked_alone = no_name node_files call.words (check fit.workload) fit.given refl

    check_right : (line : List ℕ) → IsRefused call line → ⊥
    check_right _ (long_workload workload names more same) = not_long laws call.files.content fit.workload fit.bytes fit.held fit.planned.text.tree fit.planned.text.text workload (checked_workload workload names) more
    check_right _ (no_text workload line what names held same) = not_faulty laws call.files.content fit.workload fit.bytes fit.held fit.planned.text.tree fit.planned.text.text workload line what (checked_workload workload names) held
    check_right _ (out_of_scope workload fault names held same) = in_scope laws call.files.content fit.workload fit.bytes fit.held fit.plan.program fit.planned.text workload fault (checked_program workload names) held
    check_right _ (long_schedule workload schedule growth plan given planned more same) = unlike ⊥ call.words (replay workload schedule growth) (check fit.workload) given fit.given refl
    check_right _ (bad_next line refused same) = not_next call ⊥ (check fit.workload) fit.given refl refl line refused
    check_right _ (bad_schedule plan next bytes asked number what h) = unlike ⊥ call.words (replay asked.under.workload asked.under.schedule asked.under.growth) (check fit.workload) asked.under.given fit.given refl
    check_right _ (long_cluster files plan names planned more same) = checked_alone files names
    check_right _ (bad_cluster files plan fault names planned held same) = checked_alone files names
    check_right _ (long_requests files plan addrs name names planned held is more same) = checked_alone files names
    check_right _ (bad_requests files plan addrs name number what names planned held is not same) = checked_alone files names
    check_right _ (bad_logs line refused same) = not_audit ⊥ call.words (check fit.workload) fit.given refl (refused_logs call line refused)

    pub check_faultless : IsFaultless call
    check_faultless = record {
      taken = words_taken call (check fit.workload) fit.given checked_alone;
      acceptable = λ h. not_rejected laws call.files.content fit.workload fit.bytes fit.held fit.plan fit.planned h.workload h.program h.said (checked_program h.workload (judged_alone call (check fit.workload) fit.given refl h.workload h.named)) h.held;
      right = check_right;
    }

  module _ (fit : PrintFits call) where
    printed_workload : (name : List ℕ) → NamesWorkload call.words name → name ≡ fit.workload
    printed_workload name names = same_name workload_of call.words name fit.workload names (print fit.workload, fit.given, refl)

    print_no_program : (name : List ℕ) → NamesProgram call.words name → ⊥
    print_no_program = no_name program_of call.words (print fit.workload) fit.given refl

    printed_alone : (files : NodeFiles) → NamesNodeFiles call.words files → ⊥
    printed_alone = no_name node_files call.words (print fit.workload) fit.given refl

    print_right : (line : List ℕ) → IsRefused call line → ⊥
    print_right _ (long_workload workload names more same) = not_long laws call.files.content fit.workload fit.bytes fit.held fit.tree fit.text workload (printed_workload workload names) more
    print_right _ (no_text workload line what names held same) = not_faulty laws call.files.content fit.workload fit.bytes fit.held fit.tree fit.text workload line what (printed_workload workload names) held
    print_right _ (out_of_scope workload fault names held same) = print_no_program workload names
    print_right _ (long_schedule workload schedule growth plan given planned more same) = unlike ⊥ call.words (replay workload schedule growth) (print fit.workload) given fit.given refl
    print_right _ (bad_next line refused same) = not_next call ⊥ (print fit.workload) fit.given refl refl line refused
    print_right _ (bad_schedule plan next bytes asked number what h) = unlike ⊥ call.words (replay asked.under.workload asked.under.schedule asked.under.growth) (print fit.workload) asked.under.given fit.given refl
    print_right _ (long_cluster files plan names planned more same) = printed_alone files names
    print_right _ (bad_cluster files plan fault names planned held same) = printed_alone files names
    print_right _ (long_requests files plan addrs name names planned held is more same) = printed_alone files names
    print_right _ (bad_requests files plan addrs name number what names planned held is not same) = printed_alone files names
    print_right _ (bad_logs line refused same) = not_audit ⊥ call.words (print fit.workload) fit.given refl (refused_logs call line refused)

    pub print_faultless : IsFaultless call
    print_faultless = record {
      taken = words_taken call (print fit.workload) fit.given printed_alone;
      acceptable = λ h. print_no_program h.workload (judged_alone call (print fit.workload) fit.given refl h.workload h.named);
      right = print_right;
    }

  module _ (seed shards txns : ℕ) (part : Part) (given : IsGen call.words seed shards txns part) where
    no_file : (name : List ℕ) → NamesWorkload call.words name → ⊥
    no_file = no_name workload_of call.words (gen seed shards txns part) given refl

    no_program : (name : List ℕ) → NamesProgram call.words name → ⊥
    no_program = no_name program_of call.words (gen seed shards txns part) given refl

    generated_alone : (files : NodeFiles) → NamesNodeFiles call.words files → ⊥
    generated_alone = no_name node_files call.words (gen seed shards txns part) given refl

    gen_right : (line : List ℕ) → IsRefused call line → ⊥
    gen_right _ (long_workload workload names more same) = no_file workload names
    gen_right _ (no_text workload line what names held same) = no_file workload names
    gen_right _ (out_of_scope workload fault names held same) = no_program workload names
    gen_right _ (long_schedule workload schedule growth plan of planned more same) = unlike ⊥ call.words (replay workload schedule growth) (gen seed shards txns part) of given refl
    gen_right _ (bad_next line refused same) = not_next call ⊥ (gen seed shards txns part) given refl refl line refused
    gen_right _ (bad_schedule plan next bytes asked number what h) = unlike ⊥ call.words (replay asked.under.workload asked.under.schedule asked.under.growth) (gen seed shards txns part) asked.under.given given refl
    gen_right _ (long_cluster files plan names planned more same) = generated_alone files names
    gen_right _ (bad_cluster files plan fault names planned held same) = generated_alone files names
    gen_right _ (long_requests files plan addrs name names planned held is more same) = generated_alone files names
    gen_right _ (bad_requests files plan addrs name number what names planned held is not same) = generated_alone files names
    gen_right _ (bad_logs line refused same) = not_audit ⊥ call.words (gen seed shards txns part) given refl (refused_logs call line refused)

    pub gen_faultless : IsFaultless call
    gen_faultless = record {
      taken = words_taken call (gen seed shards txns part) given generated_alone;
      acceptable = λ h. no_program h.workload (judged_alone call (gen seed shards txns part) given refl h.workload h.named);
      right = gen_right;
    }
