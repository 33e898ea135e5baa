use Rattle.std.proofs.Common.{◌∙◌, ap, sym, pos, unwrap_or, SFits, w64}
use Rattle.std.proofs.lemmas.Int.{to_z-of_z}
use Rattle.roc_rows.specs.Store.{read}
use Rattle.roc_rows.proofs.Stored.{read-store_of}
use Rattle.roc_rows.proofs.numbers.Numbers.get.Goals as goal

pub returns : goal.returns
returns c =
    let fits : SFits w64 c.unwrap_or.result = record { sfits = c.unwrap_or.type_inv } in
    to_z-of_z w64 c.unwrap_or.result fits
    ∙ c.unwrap_or.ensures ∙ ap (λ o. unwrap_or o (pos 0)) (c.copied.ensures ∙ c.get.ensures.value)
    ∙ sym (read-store_of c.self.inside.numbers.entries c.args.cell) ∙ ap (λ h. read h.store c.args.cell) c.self.view_is
