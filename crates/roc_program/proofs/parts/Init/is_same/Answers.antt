use Rattle.std.proofs.Common.{◌≡◌, true, rules, ap}
use Rattle.std.proofs.lemmas.Bool.{false≢true, eqb-true, eq-eqb}
use Rattle.roc_base.specs.Equality.{is_nums}
use Rattle.roc_base.specs.Equalities.{Decides-is_nums}
use Rattle.roc_program.specs.Parts.{init}
use Rattle.roc_program.proofs.Texts.{same_init}
use Rattle.roc_program.proofs.parts.Init.is_same.Goals as goal

pub returns-then-ne : goal.returns-then-ne
returns-then-ne c =
    let a = c.args.self.now in
    let b = c.args.other.now in
    (λ h. absurd (false≢true h), λ same. let one : is_nums a.id b.id ≡ true = (Decides-is_nums a.id b.id).1 (ap (λ i. i.id) same) in search rules)

pub returns-then-self-other-3 : goal.returns-then-self-other-3
returns-then-self-other-3 c =
    let a = c.args.self.now in
    let b = c.args.other.now in
    let table : a.table ≡ b.table = search rules in
    let place : a.place ≡ b.place = search rules in
    let one : is_nums a.id b.id ≡ true = search rules in
    let value : a.value ≡ b.value = search rules in
    (λ h. same_init (init a) (init b) table place ((Decides-is_nums a.id b.id).0 one) (eqb-true a.column b.column h) value, λ same. eq-eqb a.column b.column (ap (λ i. i.column) same))
