-- What `clap` makes of a command's words, and of a last positional that takes several
use Rattle.std.proofs.Common.{◌≡◌, ℕ, ◌≤◌, ◌<◌, List, [], ◌∷◌, ◌++◌, Some, None, Bool, true, false, refl, ap, sym, ◌∙◌, bytes_eq, arith}
use Rattle.std.specs.Prelude.{fold}
use Rattle.std.specs.List.{AllByRecursion}
use Rattle.std.proofs.lemmas.List.{append-nil, append_assoc}
use Rattle.std.proofs.lemmas.Bool.{ne_eqb, le-ltb, lt-ltb}
use Rattle.clap.specs.Words.{Row, Rule, Shape, Text}
use Rattle.clap.specs.Lexer.{strip_byte}
use Rattle.clap.specs.Walk.{Names, Walk, arg_by_index, positional, takes_several, walked}
use Rattle.clap.specs.Faults.{turn_fault, walk_fault}
use Rattle.clap.specs.Kinds.{Kinds, or_else, range_kinds, values_kinds}
use Rattle.clap.specs.declared.error.kind.ErrorKind.TheVariants as kind
use Rattle.clap.specs.declared.builder.value_parser.ValueParser.TheVariants as vp

-- what `clap` tests of a word that may be a name: that it is not `--`, and does not begin with a dash
pub record IsName (word : Text) : Type 0 where
  pub no_end : bytes_eq word (45 ∷ 45 ∷ []) ≡ false
  pub no_flag : strip_byte 45 word ≡ None

-- ---- the words behind a command's name are those of the command

module _ (s : Shape) (names : Names) (w : Walk) (name : Text) where
  abbrev pub stopped_at : List Text → Walk
  stopped_at words = record w { stopped = Some (name, words) }

  stopped_step : (words : List Text) (word : Text) → walked s.rules names (stopped_at words) word ≡ stopped_at (words ++ word ∷ [])
  unfolding walked
  stopped_step words word = refl

  pub stopped_walk : (words rest : List Text) → fold (walked s.rules names) (stopped_at words) rest ≡ stopped_at (words ++ rest)
  stopped_walk words [] = ap stopped_at (sym (append-nil words))
  stopped_walk words (word ∷ rest) =
      ap (λ v. fold (walked s.rules names) v rest) (stopped_step words word) ∙ stopped_walk (words ++ word ∷ []) rest ∙ ap stopped_at (append_assoc words (word ∷ []) rest)

  pub stopped_fault : (words rest : List Text) → walk_fault s names (stopped_at words) rest ≡ []
  unfolding walk_fault walked
  stopped_fault words [] = refl
  stopped_fault words (word ∷ rest) = stopped_fault (words ++ word ∷ []) rest

-- ---- names that go to one positional

-- the walk while this positional takes values
abbrev pub taking : Rule → List Row → (skip at : ℕ) → List Text → Walk
taking a rows skip at values = record {
  held = record { rows = rows; pending = Some (a.id, values); skip = skip };
  waiting = positional;
  position = at;
  is_trailing = false;
  stopped = None;
}

-- the positional of this number takes several
pub record TakesSeveral (s : Shape) (a : Rule) (at : ℕ) : Type 0 where
  pub is : arg_by_index s.rules at ≡ Some a
  pub several : takes_several a ≡ true
  pub goes_on : a.trailing_var_arg ≡ false
  pub own : bytes_eq a.id a.id ≡ true

module _ (s : Shape) (a : Rule) (rows : List Row) (skip at : ℕ) (takes : TakesSeveral s a at) where
  taking_step : (values : List Text) (word : Text) → IsName word → walked s.rules [] (taking a rows skip at values) word ≡ taking a rows skip at (values ++ word ∷ [])
  unfolding walked
  taking_step values word asked = simp (takes.is, takes.several, takes.goes_on, takes.own, asked.no_end, asked.no_flag)

  pub taking_walk : (values rest : List Text) → AllByRecursion IsName rest → fold (walked s.rules []) (taking a rows skip at values) rest ≡ taking a rows skip at (values ++ rest)
  taking_walk values [] names = ap (taking a rows skip at) (sym (append-nil values))
  taking_walk values (word ∷ rest) names =
      ap (λ v. fold (walked s.rules []) v rest) (taking_step values word names.0) ∙ taking_walk (values ++ word ∷ []) rest names.1 ∙ ap (taking a rows skip at) (append_assoc values (word ∷ []) rest)

  turn_clear : (values : List Text) (word : Text) → IsName word → turn_fault s [] (taking a rows skip at values) word ≡ []
  turn_clear values word asked = simp (takes.is, takes.several, takes.own, asked.no_end, asked.no_flag)

  pub taking_fault : (values rest : List Text) → AllByRecursion IsName rest → walk_fault s [] (taking a rows skip at values) rest ≡ []
  unfolding walk_fault
  taking_fault values [] names = refl
  taking_fault values (word ∷ rest) names =
      ap (λ k. or_else k (walk_fault s [] (walked s.rules [] (taking a rows skip at values) word) rest)) (turn_clear values word names.0)
      ∙ ap (λ v. walk_fault s [] v rest) (taking_step values word names.0)
      ∙ taking_fault (values ++ word ∷ []) rest names.1

-- ---- what is clear of faults

pub nothing_behind : (ks : Kinds) → or_else ks [] ≡ ks
nothing_behind [] = refl
nothing_behind (k ∷ ks) = refl

pub two_clear : (a b behind : Kinds) → or_else a (or_else b []) ≡ [] → or_else a (or_else b behind) ≡ behind
two_clear [] [] behind e = refl
two_clear [] (k ∷ ks) behind e = absurd cc
two_clear (k ∷ ks) b behind e = absurd cc

pub range_clear : (n : ℕ) → 1 ≤ n → n ≤ 80 → range_kinds 1 80 n ≡ []
range_clear n low high =
    let some = ne_eqb n 0 (λ e. absurd (omega (arith, e, low))) in
    let enough = le-ltb n 1 low in
    let few = le-ltb 80 n high in
    simp (some, enough, few)

pub range_refuses : (n : ℕ) → 80 < n → range_kinds 1 80 n ≡ kind.TooManyValues ∷ []
range_refuses n past =
    let some = ne_eqb n 0 (λ e. absurd (omega (arith, e, past))) in
    let enough = le-ltb n 1 (omega (arith, past)) in
    let many = lt-ltb 80 n past in
    simp (some, enough, many)

pub texts_clear : (ignore_case : Bool) (texts : List Text) → values_kinds ignore_case vp.String texts ≡ []
texts_clear ignore_case [] = refl
texts_clear ignore_case (text ∷ texts) = texts_clear ignore_case texts
