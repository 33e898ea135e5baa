-- The words of the grammar are words.
use Rattle.std.proofs.Common.{refl, arith}
use lib.Chars.{codes}
use Rattle.roc_lang.specs.Tokens.{IsWord}

pub shards_word : IsWord (codes "shards")
shards_word = (refl, (refl, (refl, (refl, (refl, (refl, tt))))), omega arith)

pub table_word : IsWord (codes "table")
table_word = (refl, (refl, (refl, (refl, (refl, tt)))), omega arith)

pub init_word : IsWord (codes "init")
init_word = (refl, (refl, (refl, (refl, tt))), omega arith)

pub proc_word : IsWord (codes "proc")
proc_word = (refl, (refl, (refl, (refl, tt))), omega arith)

pub view_word : IsWord (codes "view")
view_word = (refl, (refl, (refl, (refl, tt))), omega arith)

pub now_word : IsWord (codes "now")
now_word = (refl, (refl, (refl, tt)), omega arith)

pub later_word : IsWord (codes "later")
later_word = (refl, (refl, (refl, (refl, (refl, tt)))), omega arith)

pub at_word : IsWord (codes "at")
at_word = (refl, (refl, tt), omega arith)

pub get_word : IsWord (codes "get")
get_word = (refl, (refl, (refl, tt)), omega arith)

pub set_word : IsWord (codes "set")
set_word = (refl, (refl, (refl, tt)), omega arith)

pub out_word : IsWord (codes "out")
out_word = (refl, (refl, (refl, tt)), omega arith)

pub min_word : IsWord (codes "min")
min_word = (refl, (refl, (refl, tt)), omega arith)

pub max_word : IsWord (codes "max")
max_word = (refl, (refl, (refl, tt)), omega arith)

pub less_word : IsWord (codes "less")
less_word = (refl, (refl, (refl, (refl, tt))), omega arith)

pub pick_word : IsWord (codes "pick")
pick_word = (refl, (refl, (refl, (refl, tt))), omega arith)
