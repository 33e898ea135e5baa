-- What is told over several pieces, and what a book keeps of a log.
use Rattle.std.proofs.Common.{◌≡◌, ℕ, Bool, true, false, List, [], ◌∷◌, ◌++◌, take, refl, sym, ◌∙◌, subst, append-nil, append_assoc, Option, Some, None}
use Rattle.roc_io.specs.declared.sink.Written.TheVariants.{Ok as WrittenOk, Failed}
use Rattle.roc_io.specs.declared.sink.Written.{Written}
use Rattle.roc_io.specs.Sink.{Takes}
use Rattle.roc_io.specs.Link.{LinkEvent}
use Rattle.roc_io.specs.Observed.{Adds}
use Rattle.roc_io.proofs.Told.{Adds-nil, Adds-trans}
use Rattle.roc_book.specs.Call.{BookView, BookCall, Keeps, KeepsFront}
use Rattle.roc_node.proofs.Moving.{Moves-trans, Moves-none}
use Rattle.roc_node_submit.specs.SubmitEnd.{BeginsLog}
use Rattle.roc_node_submit.specs.Inner.CoordTurn.{if_logged, Gains, GainsBy, Seen, Does}

-- ---- a book

abbrev pub call : (old new : BookView) → BookCall
call old new = record { old = old; new = new }

pub gains_nothing : (logs : Bool) (a : BookView) → Gains logs a a []
gains_nothing true a = (refl, Adds-nil a.taken)
gains_nothing false a = refl

pub gains_more : (logs : Bool) (a b c : BookView) (some more : List ℕ) → Gains logs a b some → Gains logs b c more → Gains logs a c (some ++ more)
gains_more true a b c some more p q = (q.0 ∙ p.0, Adds-trans a.taken b.taken c.taken some more p.1 q.1)
gains_more false a b c some more p q = q ∙ p

-- a piece that was made for this text was written
pub gains_whole : (logs : Bool) (a b : BookView) (piece text : List ℕ) → piece ≡ if_logged logs text → (piece ≡ [] → b ≡ a) → b.opened ≡ a.opened → Adds a.taken b.taken piece → Gains logs a b text
gains_whole true a b piece text is same opened adds = (opened, subst (Adds a.taken b.taken) is adds)
gains_whole false a b piece text is same opened adds = same is

pub gains_front : (logs : Bool) (a b : BookView) (piece text : List ℕ) → piece ≡ if_logged logs text → (piece ≡ [] → ⊥) → b.opened ≡ a.opened → (n : ℕ) → Adds a.taken b.taken (take n piece)
    → GainsBy Failed logs a b text
gains_front true a b piece text is some opened n adds = (n, (opened, subst (λ l. Adds a.taken b.taken (take n l)) is adds))
gains_front false a b piece text is some opened n adds = absurd (some is)

pub gains_by : (r : Written) (logs : Bool) (a b : BookView) (piece text : List ℕ) → piece ≡ if_logged logs text → (piece ≡ [] → ⊥) → b.opened ≡ a.opened → Takes r a.taken b.taken piece → GainsBy r logs a b text
gains_by WrittenOk logs a b piece text is some opened took = gains_whole logs a b piece text is (λ none. absurd (some none)) opened took
gains_by Failed logs a b piece text is some opened took = gains_front logs a b piece text is some opened took.0 took.1

-- nothing but a log that is kept fails
pub logs_there : (logs : Bool) (a b : BookView) (text : List ℕ) → GainsBy Failed logs a b text → logs ≡ true
logs_there true a b text h = refl
logs_there false a b text h = absurd h

-- what a log has gained since it was begun
pub keeps : (logs : Bool) (log : Option (List ℕ)) (first more : List ℕ) (begun a b : BookView) → BeginsLog logs log first begun a → Gains logs a b more → Keeps log (call begun b) (first ++ more)
keeps true (Some name) first more begun a b h g = let k = h.kept in (subst (λ o. Adds begun.opened o (name ∷ [])) (sym g.0) k.0, Adds-trans begun.taken a.taken b.taken first more k.1 g.1)
keeps false None first more begun a b h g = let k = h.kept in g ∙ k
keeps true None first more begun a b h g = absurd (let e = h.asked in cc)
keeps false (Some name) first more begun a b h g = absurd (let e = h.asked in cc)

pub keeps_front : (logs : Bool) (log : Option (List ℕ)) (first : List ℕ) (begun a b c : BookView) (text cut : List ℕ) → BeginsLog logs log first begun a → Gains logs a b text → GainsBy Failed logs b c cut
    → KeepsFront log (call begun c) (first ++ text) cut
keeps_front true log first begun a b c text cut h g front =
    (front.0, subst (Keeps log (call begun c)) (sym (append_assoc first text (take front.0 cut))) (keeps true log first (text ++ take front.0 cut) begun a c h (gains_more true a b c text (take front.0 cut) g front.1)))
keeps_front false log first begun a b c text cut h g front = absurd front

-- ---- all that is told

pub does_nothing : (logs : Bool) (a : Seen) → Does logs [] [] [] [] a a
does_nothing logs a = record { moves = Moves-none a.link a.link refl refl refl refl; told = Adds-nil a.out; in_pieces = Adds-nil a.pieces; kept = gains_nothing logs a.book }

pub does_more : (logs : Bool) (traffic next : List LinkEvent) (text later : List ℕ) (pieces others : List (List ℕ)) (log more : List ℕ) (a b c : Seen)
    → Does logs traffic text pieces log a b → Does logs next later others more b c → Does logs (traffic ++ next) (text ++ later) (pieces ++ others) (log ++ more) a c
does_more logs traffic next text later pieces others log more a b c p q = record {
  moves = Moves-trans a.link b.link c.link traffic next p.moves q.moves;
  told = Adds-trans a.out b.out c.out text later p.told q.told;
  in_pieces = Adds-trans a.pieces b.pieces c.pieces pieces others p.in_pieces q.in_pieces;
  kept = gains_more logs a.book b.book c.book log more p.kept q.kept;
}

-- only the link moved behind it
pub does_still : (logs : Bool) (traffic next : List LinkEvent) (text : List ℕ) (pieces : List (List ℕ)) (log : List ℕ) (a b c : Seen)
    → Does logs traffic text pieces log a b → Does logs next [] [] [] b c → Does logs (traffic ++ next) text pieces log a c
does_still logs traffic next text pieces log a b c p q =
    subst (λ t. Does logs (traffic ++ next) t pieces log a c) (append-nil text)
    (subst (λ w. Does logs (traffic ++ next) (text ++ []) w log a c) (append-nil pieces)
    (subst (λ l. Does logs (traffic ++ next) (text ++ []) (pieces ++ []) l a c) (append-nil log) (does_more logs traffic next text [] pieces [] log [] a b c p q)))
