-- What a list that copies share shows
use Rattle.std.specs.Prelude.{List}
use Rattle.roc_sequence.specs.declared.shared.Items.{Items}
use Rattle.roc_sequence.specs.declared.shared.Items.TheVariants.{Own, Common}

-- its elements, whoever has them
abbrev pub shown : {T : Type 0} → Items T → List T
shown (Own items) = items.items
shown (Common items) = items.value.items
