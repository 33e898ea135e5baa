-- What is found first is the least, and where nothing is found the workload is acceptable
use Rattle.std.proofs.Common.{◌≡◌, ℕ, ◌<◌, Bool, IsTrue, List, [], ◌∷◌, length, refl, sym, subst, ◌∙◌, inl, inr, arith}
use Rattle.std.proofs.lemmas.Bool.{cases_order}
use Rattle.roc_program.specs.Program.{Workload}
use Rattle.roc_program.specs.Pieces.{pieces_in}
use Rattle.roc_program.specs.declared.piece_id.PieceId.{PieceId}
use Rattle.roc_program.proofs.PieceIds.{same_id_parts}
use Rattle.roc_conflict.specs.Contended.{is_contended}
use Rattle.roc_merge_groups.specs.Groups.{piece_numbered}
use Rattle.roc_merge_groups.specs.Core.{InCore, contended, between, AreCoLocated, IsAcceptable}
use Rattle.roc_merge_groups.specs.Refusals.{IsUpTo, AreApart, IsApart, IsInTheWay, IsBlocked}
use Rattle.roc_merge.specs.Inner.Tables.{AreContended, IsFlow, IsClearBy, IsJoinedBy}
use Rattle.roc_merge.specs.Inner.Firsts.{IsJoined, IsClear, IsFirstBehind, IsFirstPair, IsFirstFrom, IsFirstThree}
use Rattle.roc_merge_accept.proofs.Tested.{contended_there}
use Rattle.roc_merge.proofs.Flows.{leads_there}

-- the order of lists of numbers
same_lists : (n m : ℕ) → IsUpTo (n ∷ []) (m ∷ []) → IsUpTo (m ∷ []) (n ∷ []) → n ≡ m
same_lists n m (inl l) (inl k) = absurd (omega arith)
same_lists n m (inl l) (inr e) = let f = e.0 in absurd (omega arith)
same_lists n m (inr e) h = e.0

one_more : (n m : ℕ) (xs ys : List ℕ) → IsUpTo (n ∷ xs) (m ∷ ys) → IsUpTo (m ∷ ys) (n ∷ xs) → (n ≡ m) × IsUpTo xs ys × IsUpTo ys xs
one_more n m xs ys (inl l) (inl k) = absurd (omega arith)
one_more n m xs ys (inl l) (inr e) = let f = e.0 in absurd (omega arith)
one_more n m xs ys (inr e) (inl k) = let f = e.0 in absurd (omega arith)
one_more n m xs ys (inr e) (inr f) = (e.0, e.1, f.1)

module _ (program : Workload) (is_immediate : PieceId → Bool) where
  abbrev Meets : ℕ → ℕ → Type 0
  Meets proc x = IsTrue (is_contended program is_immediate (piece_numbered proc x))

  abbrev Joined : ℕ → ℕ → ℕ → Type 0
  Joined proc p q = IsJoined program is_immediate proc p q

  abbrev Clear : ℕ → ℕ → ℕ → ℕ → Type 0
  Clear proc p q x = IsClear program is_immediate proc p q x

  -- ---- apart

  pub not_apart : (p q : PieceId) → Joined p.proc p.piece q.piece → ¬ AreApart program is_immediate p q
  not_apart p q joined are = are.unlike (joined are.in_order are.first (subst (λ n. Meets n q.piece) are.one_procedure are.second))

  pub least_pair : (proc p q : ℕ) → IsFirstPair program is_immediate proc p q → ((a b c : ℕ) → a < proc → Joined a b c) → IsApart program is_immediate (piece_numbered proc p) (piece_numbered proc q)
  least_pair proc p q is earlier = record {
    is = is.is;
    least = λ a b are. elim (cases_order a.proc proc) [
      | inl e ↦ inr (
        sym e,
        elim (cases_order a.piece p) [
          | inl f ↦ inr (
            sym f,
            elim (cases_order b.piece q) [
              | inl g ↦ inr (sym g, tt)
              | inr m ↦ elim m [
                | inl l ↦ absurd (not_apart a b (subst (λ n. Joined n a.piece b.piece) (sym e) (subst (λ n. Joined proc n b.piece) (sym f) (is.qs b.piece l))) are)
                | inr l ↦ inl l
              ]
            ],
          )
          | inr m ↦ elim m [
            | inl l ↦ absurd (not_apart a b (subst (λ n. Joined n a.piece b.piece) (sym e) (is.ps a.piece b.piece l)) are)
            | inr l ↦ inl l
          ]
        ],
      )
      | inr m ↦ elim m [
        | inl l ↦ absurd (not_apart a b (earlier a.proc a.piece b.piece l) are)
        | inr l ↦ inl l
      ]
    ];
  }

  pub one_pair : (p q a b : PieceId) → IsApart program is_immediate p q → IsApart program is_immediate a b → (p ≡ a) × (q ≡ b)
  one_pair p q a b one other =
      let r = one_more p.proc a.proc (p.piece ∷ q.piece ∷ []) (a.piece ∷ b.piece ∷ []) (one.least a b other.is) (other.least p q one.is) in
      let s = one_more p.piece a.piece (q.piece ∷ []) (b.piece ∷ []) r.1 r.2 in
      (same_id_parts p a r.0 s.0, same_id_parts q b (one.is.one_procedure ∙ r.0 ∙ sym other.is.one_procedure) (same_lists q.piece b.piece s.1 s.2))

  -- by the row of contended pieces
  module _ (proc : ℕ) (row : List Bool) (are : AreContended program is_immediate proc row) where
    pub joined_by : (p q : ℕ) → (p < q → q < length (pieces_in program proc) → IsJoinedBy program proc row p q) → Joined proc p q
    joined_by p q by order cp cq = by order (contended_there program is_immediate proc q cq).piece ((are p).1 cp) ((are q).1 cq)

    pub first_pair : (p q : ℕ) → IsFirstBehind program proc row p q → ((a b : ℕ) → a < p → Joined proc a b) → IsFirstPair program is_immediate proc p q
    first_pair p q is earlier = record {
      is = record { one_procedure = refl; in_order = is.order; first = (are p).0 is.is.first; second = (are q).0 is.is.second; unlike = is.is.unlike };
      qs = λ b l order cp cq. is.qs b order l ((are p).1 cp) ((are b).1 cq);
      ps = earlier;
    }

  -- ---- in the way

  pub not_in_the_way : (p q x : PieceId) → Clear p.proc p.piece q.piece x.piece → ¬ IsInTheWay program is_immediate p q x
  not_in_the_way p q x clear is = is.unlike (clear is.first (subst (λ n. Meets n q.piece) is.one_procedure is.second) is.between)

  pub least_three : (proc p q x : ℕ) → IsFirstThree program is_immediate proc p q x → ((a b c d : ℕ) → a < proc → Clear a b c d)
      → ((a b : PieceId) → ¬ AreApart program is_immediate a b) → IsBlocked program is_immediate (piece_numbered proc p) (piece_numbered proc q) (piece_numbered proc x)
  least_three proc p q x is earlier none = record {
    none_apart = none;
    is = is.is;
    least = λ a b c way. elim (cases_order a.proc proc) [
      | inl e ↦ inr (
        sym e,
        elim (cases_order a.piece p) [
          | inl f ↦ inr (
            sym f,
            elim (cases_order b.piece q) [
              | inl g ↦ inr (
                sym g,
                elim (cases_order c.piece x) [
                  | inl h ↦ inr (sym h, tt)
                  | inr m ↦ elim m [
                    | inl l ↦ absurd (not_in_the_way a b c (subst (λ n. Clear n a.piece b.piece c.piece) (sym e) (subst (λ n. Clear proc n b.piece c.piece) (sym f) (subst (λ n. Clear proc p n c.piece) (sym g) (is.xs c.piece l)))) way)
                    | inr l ↦ inl l
                  ]
                ],
              )
              | inr m ↦ elim m [
                | inl l ↦ absurd (not_in_the_way a b c (subst (λ n. Clear n a.piece b.piece c.piece) (sym e) (subst (λ n. Clear proc n b.piece c.piece) (sym f) (is.qs b.piece c.piece l))) way)
                | inr l ↦ inl l
              ]
            ],
          )
          | inr m ↦ elim m [
            | inl l ↦ absurd (not_in_the_way a b c (subst (λ n. Clear n a.piece b.piece c.piece) (sym e) (is.ps a.piece b.piece c.piece l)) way)
            | inr l ↦ inl l
          ]
        ],
      )
      | inr m ↦ elim m [
        | inl l ↦ absurd (not_in_the_way a b c (earlier a.proc a.piece b.piece c.piece l) way)
        | inr l ↦ inl l
      ]
    ];
  }

  pub one_three : (p q x a b c : PieceId) → IsBlocked program is_immediate p q x → IsBlocked program is_immediate a b c → (p ≡ a) × (q ≡ b) × (x ≡ c)
  one_three p q x a b c one other =
      let r = one_more p.proc a.proc (p.piece ∷ q.piece ∷ x.piece ∷ []) (a.piece ∷ b.piece ∷ c.piece ∷ []) (one.least a b c other.is) (other.least p q x one.is) in
      let s = one_more p.piece a.piece (q.piece ∷ x.piece ∷ []) (b.piece ∷ c.piece ∷ []) r.1 r.2 in
      let t = one_more q.piece b.piece (x.piece ∷ []) (c.piece ∷ []) s.1 s.2 in (
        same_id_parts p a r.0 s.0,
        same_id_parts q b (one.is.one_procedure ∙ r.0 ∙ sym other.is.one_procedure) t.0,
        same_id_parts x c (one.is.same_procedure ∙ r.0 ∙ sym other.is.same_procedure) (same_lists x.piece c.piece t.1 t.2),
      )

  -- by the tables
  module _ (proc : ℕ) (row : List Bool) (table : List (List Bool)) (are : AreContended program is_immediate proc row) (flow : IsFlow program proc table (length (pieces_in program proc))) where
    pub clear_by : (p q x : ℕ) → (p < length (pieces_in program proc) → q < length (pieces_in program proc) → x < length (pieces_in program proc) → IsClearBy program proc row table p q x) → Clear proc p q x
    clear_by p q x by cp cq b =
        let l = (contended_there program is_immediate proc p cp).piece in
        let m = (contended_there program is_immediate proc q cq).piece in
        let n = leads_there program proc p x b.behind in
        by l m n ((are p).1 cp) ((are q).1 cq) ((flow x n p).1 b.behind) ((flow q m x).1 b.before)

    pub first_three : (p q x : ℕ) → IsFirstFrom program proc row table (length (pieces_in program proc)) p q x → ((a b c : ℕ) → a < p → Clear proc a b c) → IsFirstThree program is_immediate proc p q x
    first_three p q x first earlier =
        let by = first.is.is in
        record {
          is = record {
            one_procedure = refl;
            same_procedure = refl;
            first = (are p).0 by.first;
            second = (are q).0 by.second;
            between = record { behind = (flow x first.within.1 p).0 by.behind; before = (flow q first.within.0 x).0 by.before };
            unlike = by.unlike;
          };
          xs = λ c l. clear_by p q c (λ i j k. first.is.xs c l);
          qs = λ b c l. clear_by p b c (λ i j k. first.qs b c l k);
          ps = earlier;
        }

  -- ---- nothing is found

  module _ (joined : (proc p q : ℕ) → Joined proc p q) (clear : (proc p q x : ℕ) → Clear proc p q x) where
    two_meet : (proc p q : ℕ) → Meets proc p → Meets proc q → AreCoLocated program proc p q
    two_meet proc p q cp cq = elim (cases_order p q) [
      | inl e ↦ subst (λ n. AreCoLocated program proc p n) e refl
      | inr m ↦ elim m [ inl l ↦ joined proc p q l cp cq | inr l ↦ sym (joined proc q p l cq cp) ]
    ]

    anchor : (proc x : ℕ) → InCore program is_immediate proc x → (p : ℕ) × Meets proc p × AreCoLocated program proc p x
    anchor proc _ (contended {x} h) = (x, h, refl)
    anchor proc _ (between {p} {x} {q} h k b) = (p, h, clear proc p q x h k b)

    pub acceptable_from : IsAcceptable program is_immediate
    acceptable_from proc x y i j =
        let p = anchor proc x i in
        let q = anchor proc y j in
        sym p.2 ∙ two_meet proc p.0 q.0 p.1 q.1 ∙ q.2

  pub apart_unacceptable : (p q : PieceId) → AreApart program is_immediate p q → ¬ IsAcceptable program is_immediate
  apart_unacceptable p q are all = are.unlike (all p.proc p.piece q.piece (contended are.first) (contended (subst (λ n. Meets n q.piece) are.one_procedure are.second)))

  pub blocked_unacceptable : (p q x : PieceId) → IsInTheWay program is_immediate p q x → ¬ IsAcceptable program is_immediate
  blocked_unacceptable p q x is all =
      is.unlike (all p.proc p.piece x.piece (contended is.first) (between is.first (subst (λ n. Meets n q.piece) is.one_procedure is.second) is.between))
