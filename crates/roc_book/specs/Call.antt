-- What a book tells before and after a call, and what a node keeps in it. Each record is built from the book's value at these two times.
use Rattle.std.specs.Prelude.{◌≡◌, ℕ, List, [], ◌∷◌, ◌++◌, take, Option, Some, None}
use Rattle.roc_io.specs.Observed.{Adds}
use Rattle.roc_book.specs.declared.book.Book.{Ghosts as BookOf}

-- at one time: the names opened, and the bytes taken
pub record BookView : Type 0 where
  pub opened : Option (List (List ℕ))
  pub taken : Option (List ℕ)

abbrev pub book_view : {B : Type 0} → BookOf B → B → BookView
book_view B book = record { opened = B.opened book; taken = B.taken book }

pub record BookCall : Type 0 where
  pub old : BookView
  pub new : BookView

abbrev pub book_call : {B : Type 0} → BookOf B → (old new : B) → BookCall
book_call B old new = record { old = book_view B old; new = book_view B new }

-- where a log is kept, the book was opened under its name and took this text; else it is as it was
abbrev pub Keeps : Option (List ℕ) → BookCall → (text : List ℕ) → Type 0
Keeps None call text = call.new ≡ call.old
Keeps (Some name) call text = Adds call.old.opened call.new.opened (name ∷ []) × Adds call.old.taken call.new.taken text

-- the same with this text, and behind it some front of what was to follow
abbrev pub KeepsFront : Option (List ℕ) → BookCall → (text cut : List ℕ) → Type 0
KeepsFront log call text cut = (n : ℕ) × Keeps log call (text ++ take n cut)
