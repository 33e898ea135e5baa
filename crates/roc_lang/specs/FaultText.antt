-- The word that is printed for each kind of fault.
use Rattle.std.specs.Prelude.{ℕ, List}
use lib.Chars.{codes}
use Rattle.roc_lang.specs.declared.fault.What.{What}
use Rattle.roc_lang.specs.declared.fault.What.TheVariants.{Word, Token, Limit, End}

abbrev pub what_text : What → List ℕ
what_text Word = codes "word"
what_text Token = codes "token"
what_text Limit = codes "limit"
what_text End = codes "end"
