-- The two tests of the code are the two of the definition, whose second is not read where the first fails
use Rattle.std.proofs.Common.{◌≡◌, ◌≢◌, ◌==◌, ◌&&◌, ℕ, Bool, length, sym, ap, ◌∙◌, arith}
use Rattle.std.proofs.lemmas.Bool.{eq-eqb, ne_eqb}
use Rattle.roc_plan.specs.Groups.{procedure_of, inputs_of}
use Rattle.roc_server.proofs.starts.has_counts.Goals as goal

first_holds : (a e x y : ℕ) (b : Bool) → a ≡ x → e ≡ y → a ≡ e → b ≡ (x == y && b)
first_holds a e x y b p q h = sym (ap (λ t. t && b) (eq-eqb x y (sym p ∙ h ∙ q)))

first_fails : (a e x y : ℕ) (b : Bool) → a ≡ x → e ≡ y → a ≢ e → (a == e) ≡ (x == y && b)
first_fails a e x y b p q h = ne_eqb a e h ∙ sym (ap (λ t. t && b) (ne_eqb x y (λ k. h (p ∙ k ∙ sym q))))

pub args-requires : goal.args-requires
args-requires c = c.requires.procedure

pub overflow_cast-args : goal.overflow_cast-args
overflow_cast-args c = omega arith

pub inputs-requires : goal.inputs-requires
inputs-requires c = c.requires.group

pub returns-then-len-args : goal.returns-then-len-args
returns-then-len-args c =
    let known = c.args.known.now in
    let needed = inputs_of c.args.plan.now c.args.proc c.args.group in
    ap (λ n. n == length c.inputs.result.now) c.len-then-len-args.ensures ∙ ap (λ xs. length known.inputs == length xs) c.inputs.ensures
    ∙ first_holds c.len.result c.args-2.result (length known.args) (procedure_of c.args.plan.now c.args.proc).arguments (length known.inputs == length needed) c.len.ensures c.args-2.ensures c.if-len-args.true

pub returns-else-len-args : goal.returns-else-len-args
returns-else-len-args c =
    let known = c.args.known.now in
    let needed = inputs_of c.args.plan.now c.args.proc c.args.group in
    first_fails c.len.result c.args-2.result (length known.args) (procedure_of c.args.plan.now c.args.proc).arguments (length known.inputs == length needed) c.len.ensures c.args-2.ensures c.if-len-args.false
