-- What a spawner starts and awaits.
use Rattle.std.specs.Prelude.{◌≡◌, ℕ, ◌<◌, Bool, true, false, not, nat_eq, List, [], ◌∷◌, ◌++◌, length, map, take, Option, unwrap_or, option_map, string_bytes, String, Vec}
use Rattle.std.specs.declared.alloc.Global.{Global}
use Rattle.roc_io.specs.declared.spawner.Started.{Started}
use Rattle.roc_io.specs.declared.spawner.Started.TheVariants.{Running, NoMemory, Failed}
use Rattle.roc_io.specs.declared.spawner.ChildWait.{ChildWait}
use Rattle.roc_io.specs.declared.spawner.AllStarted.{AllStarted}
use Rattle.roc_io.specs.declared.spawner.AllStarted.TheVariants.{Ok as AllOk, NoMemory as AllNoMemory, Failed as AllFailed}
use Rattle.roc_io.specs.Observed.{Adds}
use Rattle.roc_io.specs.Start.{Start}

abbrev pub start_failed : Started → Bool
start_failed Failed = true
start_failed (Running child) = false
start_failed NoMemory = false

-- a start that answers Running was made with these words; no other was made
abbrev pub Starts : Started → Option (List Start) → Option (List Start) → List (List ℕ) → Type 0
Starts (Running child) old new words = Adds old new (record { child = child; words = words } ∷ [])
Starts NoMemory old new words = new ≡ old
Starts Failed old new words = new ≡ old

-- the words of a list of words
abbrev pub command_words : Vec (String Global) Global → List (List ℕ)
command_words words = map string_bytes words.items

abbrev pub all_start_failed : AllStarted → Bool
all_start_failed AllFailed = true
all_start_failed AllOk = false
all_start_failed AllNoMemory = false

-- after how many starts they ended
abbrev pub EndsStarts : AllStarted → ℕ → ℕ → Type 0
EndsStarts AllOk made all = made ≡ all
EndsStarts AllNoMemory made all = made < all
EndsStarts AllFailed made all = made < all

-- children were started with the first of these lists of words, and added to the children before
pub record StartsAll (end : AllStarted) (old new : Option (List Start)) (commands : List (List (List ℕ))) (before after : List ℕ) : Type 0 where
  pub starts : List Start
  pub told : Adds old new starts
  pub added : after ≡ before ++ map (λ start. start.child) starts
  pub words : map (λ start. start.words) starts ≡ take (length starts) commands
  pub ends : EndsStarts end (length starts) (length commands)

-- the child did not end with status 0
abbrev pub ended_badly : ChildWait → Bool
ended_badly wait = unwrap_or (option_map (λ status. not (nat_eq status 0)) wait.status) true
