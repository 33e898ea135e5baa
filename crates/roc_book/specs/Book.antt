-- What a book answers to an open.
use Rattle.std.specs.Prelude.{Bool, true, false}
use Rattle.roc_book.specs.declared.book.Opened.{Opened}
use Rattle.roc_book.specs.declared.book.Opened.TheVariants.{Ok, Failed}

abbrev pub open_failed : Opened → Bool
open_failed Ok = false
open_failed Failed = true
