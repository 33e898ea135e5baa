-- From what comes of a program to what comes of its text
use Rattle.std.proofs.Common.{◌≡◌, ℕ, List, [], Result, Ok, Err, sym, ap, subst, ◌∙◌}
use Rattle.roc_lang.specs.Scope.{faults}
use Rattle.roc_lang.specs.declared.fault.LangError.TheVariants as error
use Rattle.roc_lang_parse.proofs.Unique.{one_tree, text_has_none}
use Rattle.roc_lang_scope.specs.Fault.{first}
use Rattle.roc_lang_scope.specs.declared.fault.ScopeFault.TheVariants as misuse
use Rattle.roc_program.specs.Program.{Workload}
use Rattle.roc_plan.specs.Groups.{Plan}
use Rattle.roc_report.specs.Checked as line
use Rattle.roc_check.specs.declared.fault.CheckFault.{CheckFault}
use Rattle.roc_check.specs.declared.fault.CheckFault.TheVariants.{Lang, Scope, Apart, Blocked, NoMemory}
use Rattle.roc_check.specs.Checked.{IsPlanOf, IsRefusedBy, IsTextOf, IsPlanOfText, IsRefusedText, IsCheckOf, IsPlanned}
use Rattle.roc_check.specs.Inner.Judged.{IsJudged}
use Rattle.roc_check.proofs.Unique.{one_program, plan_not_refused}

pub checked : (bytes : List ℕ) (program : Workload) (result : Result Plan CheckFault) → IsTextOf bytes program → IsJudged program result → IsCheckOf bytes result
checked bytes program (Ok plan) text is =
    let same : program ≡ plan.program = sym (ap (λ (p : Plan). p.program) is.is) in
    record { text = subst (IsTextOf bytes) same text; has = subst (λ w. IsPlanOf w plan) same is }
checked bytes program (Err (Lang fault)) text is = absurd is
checked bytes program (Err (Scope fault)) text is = absurd is
checked bytes program (Err (Apart workload p q cycle)) text (e, is) =
    record { text = subst (IsTextOf bytes) (sym e) text; refused = subst (λ w. IsRefusedBy w (line.Apart p q cycle)) (sym e) is }
checked bytes program (Err (Blocked workload p q x cycle)) text (e, is) =
    record { text = subst (IsTextOf bytes) (sym e) text; refused = subst (λ w. IsRefusedBy w (line.Blocked p q x cycle)) (sym e) is }
checked bytes program (Err NoMemory) text is = tt

refused_plan : (bytes : List ℕ) (plan : Plan) (program : Workload) (said : line.CheckedLine) → IsPlanOfText bytes plan → IsRefusedText bytes program said → ⊥
refused_plan bytes plan program said of is =
    let e : program ≡ plan.program = one_program bytes program plan.program is.text of.text in
    plan_not_refused plan.program plan said of.has (subst (λ w. IsRefusedBy w said) e is.refused)

-- what comes of a text that has a plan, of which there is one
pub planned : (bytes : List ℕ) (result : Result Plan CheckFault) → ((one other : Plan) → IsPlanOfText bytes one → IsPlanOfText bytes other → one ≡ other)
    → IsCheckOf bytes result → (plan : Plan) → IsPlanOfText bytes plan → IsPlanned plan result
planned bytes (Ok made) single is plan of = single made plan is of
planned bytes (Err (Lang (error.At number what))) single is plan of = text_has_none bytes of.text.tree number what of.text.text is
planned bytes (Err (Lang error.NoMemory)) single is plan of = is
planned bytes (Err (Scope (misuse.At number what))) single (tree, text, is) plan of =
    let e : faults tree ≡ [] = ap faults (one_tree bytes tree of.text.tree text of.text.text) ∙ of.text.in_scope in
    let none = sym (ap first e) ∙ is in
    absurd (cc)
planned bytes (Err (Scope misuse.NoMemory)) single (tree, text, is) plan of = is
planned bytes (Err (Apart workload p q cycle)) single is plan of = refused_plan bytes plan workload (line.Apart p q cycle) of is
planned bytes (Err (Blocked workload p q x cycle)) single is plan of = refused_plan bytes plan workload (line.Blocked p q x cycle) of is
planned bytes (Err NoMemory) single is plan of = tt
