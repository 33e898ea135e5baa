-- How the standing of a piece is printed
use Rattle.std.specs.Prelude.{ℕ, List, codes}
use Rattle.roc_report.specs.declared.line.Standing.{Standing}
use Rattle.roc_report.specs.declared.line.Standing.TheVariants.{Immediate, Promoted, Deferrable, View}

abbrev pub standing_text : Standing → List ℕ
standing_text Immediate = codes "immediate"
standing_text Promoted = codes "promoted"
standing_text Deferrable = codes "deferrable"
standing_text View = codes "view"
