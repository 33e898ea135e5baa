use Rattle.std.proofs.Common.{◌∙◌, length, map, refl, ap}
use Rattle.roc_plan_make.specs.Inner.Built.{source_by}
use Rattle.roc_plan_make.proofs.build.outline_of.Goals as goal

pub returns : goal.returns
returns c =
    record {
      is_of = c.in_ok-from_slice.ensures.items;
      is_class = refl;
      binds = ap length c.requires.own;
      takes = c.in_ok-names.ensures;
      sources = c.in_ok-inputs_from.ensures ∙ ap (map (source_by (map (λ row. row.items) c.args.bounds.now))) (c.deref.ensures.value ∙ c.in_ok-names.ensures);
      adds = c.in_ok-outs_of.ensures;
    }
