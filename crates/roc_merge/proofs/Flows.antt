-- The table of data flow, row by row
use Rattle.std.proofs.Common.{◌≡◌, ◌↔◌, ℕ, ◌+◌, ◌<◌, Bool, true, false, IsTrue, List, [], length, get_or, set, refl, sym, ap, subst, ◌∙◌, ◌⊎◌, inl, inr, arith}
use Rattle.std.proofs.lemmas.Bool.{cases_eq, cases_lt, false≢true}
use Rattle.std.proofs.lemmas.List.{get_or_past, get_or-set_same, get_or-set_other}
use Rattle.std.specs.List.{list_any}
use Rattle.roc_sequence.proofs.Holds.{any_has}
use Rattle.roc_program.specs.Program.{Workload, Piece}
use Rattle.roc_program.specs.LookUps.{no_piece}
use Rattle.roc_program.specs.Names.{bindings_of, piece_uses}
use Rattle.roc_program.specs.Pieces.{pieces_in, piece_of}
use Rattle.roc_program.specs.WellFormed.{IsProgram}
use Rattle.roc_program.specs.declared.piece_id.PieceId.{PieceId}
use Rattle.roc_merge_groups.specs.Groups.{piece_numbered}
use Rattle.roc_merge_groups.specs.Flow.{feeds, Leads, directly, onward}
use Rattle.roc_merge_groups.specs.Core.{InCore, contended, between}
use Rattle.roc_merge_groups.proofs.Forward.{forward}
use Rattle.roc_merge_accept.proofs.Tested.{contended_there}
use Rattle.roc_merge.specs.Inner.Tables.{holds, row_in, AreContended, IsFlow, IsCoreBy}
use Rattle.roc_merge.proofs.Rows.{set_exact}

module _ (program : Workload) (proc : ℕ) where
  abbrev Path : ℕ → ℕ → Type 0
  Path p k = (p ≡ k) ⊎ Leads (feeds program proc) p k

  -- what another piece leads to is there
  feeds_there : (z y : ℕ) → feeds program proc z y ≡ true → y < length (pieces_in program proc)
  feeds_there z y h =
      elim (cases_lt y (length (pieces_in program proc))) [
        | inl l ↦ l
        | inr past ↦ (let none : piece_of program (piece_numbered proc y) ≡ no_piece = get_or_past (pieces_in program proc) y no_piece past in
            let r = any_has (piece_uses no_piece) (bindings_of (piece_of program (piece_numbered proc z))) (subst (λ (p : Piece). list_any (piece_uses p) (bindings_of (piece_of program (piece_numbered proc z))) ≡ true) none h) in
            absurd (false≢true r.2))
      ]

  pub leads_there : (p x : ℕ) → Leads (feeds program proc) p x → x < length (pieces_in program proc)
  leads_there p _ (directly {to} h) = feeds_there p to h
  leads_there p _ (onward {by} {to} l h) = feeds_there by to h

  -- a path whose last step comes from one of the first n pieces
  pub record IsVia (user n p : ℕ) : Type 0 where
    pub by : ℕ
    pub within : by < n
    pub last : feeds program proc by user ≡ true
    pub path : Path p by

  pub record AreSources (user : ℕ) (row : List Bool) (n : ℕ) : Type 0 where
    pub exact : (p : ℕ) → IsTrue (holds row p) ↔ IsVia user n p
    pub wide : length row ≡ 16

  pub sources_more : (user : ℕ) (row behind all : List Bool) (n : ℕ) → AreSources user row n → feeds program proc n user ≡ true
      → ((p : ℕ) → IsTrue (holds behind p) ↔ Leads (feeds program proc) p n)
      → ((p : ℕ) → IsTrue (holds all p) ↔ ((p ≡ n) ⊎ (IsTrue (holds row p) ⊎ IsTrue (holds behind p)))) → length all ≡ 16 → AreSources user all (n + 1)
  sources_more user row behind all n is step leads joined wide = record {
    exact = λ p. (
      λ h. elim ((joined p).0 h) [
        | inl e ↦ record { by = n; within = omega arith; last = step; path = inl e }
        | inr k ↦ elim k [
          | inl r ↦ (let v = (is.exact p).0 r in let l = v.within in record { by = v.by; within = omega arith; last = v.last; path = v.path })
          | inr b ↦ record { by = n; within = omega arith; last = step; path = inr ((leads p).0 b) }
        ]
      ],
      λ v. elim (cases_eq v.by n) [
        | inr apart ↦ (let l = v.within in (joined p).1 (inr (inl ((is.exact p).1 (record { by = v.by; within = omega arith; last = v.last; path = v.path })))))
        | inl e ↦ (joined p).1 (to p (subst (λ k. Path p k) e v.path))
      ],
    );
    wide = wide;
  }
    where
      to : (p : ℕ) → Path p n → (p ≡ n) ⊎ (IsTrue (holds row p) ⊎ IsTrue (holds behind p))
      to p (inl e) = inl e
      to p (inr l) = inr (inr ((leads p).1 l))

  pub sources_same : (user : ℕ) (row : List Bool) (n : ℕ) → AreSources user row n → feeds program proc n user ≡ false → AreSources user row (n + 1)
  sources_same user row n is none = record {
    exact = λ p. (
      λ h. (let v = (is.exact p).0 h in let l = v.within in record { by = v.by; within = omega arith; last = v.last; path = v.path }),
      λ v. elim (cases_eq v.by n) [
        | inr apart ↦ (let l = v.within in (is.exact p).1 (record { by = v.by; within = omega arith; last = v.last; path = v.path }))
        | inl e ↦ absurd (false≢true (sym none ∙ ap (λ k. feeds program proc k user) (sym e) ∙ v.last))
      ],
    );
    wide = is.wide;
  }

  onto : (user p by : ℕ) → Path p by → feeds program proc by user ≡ true → Leads (feeds program proc) p user
  onto user p by (inl e) h = directly (ap (λ k. feeds program proc k user) e ∙ h)
  onto user p by (inr l) h = onward l h

  module _ (is : IsProgram program) where
    -- the last step of a path comes from an earlier piece, or from the piece itself
    last_step : (p y : ℕ) → Leads (feeds program proc) p y → IsVia y y p ⊎ ((p ≡ y) × (feeds program proc y y ≡ true))
    last_step p _ (directly {to} h) =
        elim (forward program is proc p to h) [
          | inl e ↦ inr (e, subst (λ k. feeds program proc k to ≡ true) e h)
          | inr l ↦ inl (record { by = p; within = l.0; last = h; path = inl refl })
        ]
    last_step p _ (onward {by} {to} l h) =
        let before = last_step p by l in
        elim (forward program is proc by to h) [
          | inl e ↦ (let Q : ℕ → Type 0 = λ k. IsVia k k p ⊎ ((p ≡ k) × (feeds program proc k k ≡ true)) in subst Q e before)
          | inr k ↦ inl (record { by = by; within = k.0; last = h; path = inr l })
        ]

    pub sources_alone : (user : ℕ) (row : List Bool) → AreSources user row user → feeds program proc user user ≡ false
        → (p : ℕ) → IsTrue (holds row p) ↔ Leads (feeds program proc) p user
    sources_alone user row are none p = (
      λ h. (let v = (are.exact p).0 h in onto user p v.by v.path v.last),
      λ l. elim (last_step p user l) [ inl v ↦ (are.exact p).1 v | inr self ↦ absurd (false≢true (sym none ∙ self.1)) ],
    )

    pub sources_self : (user : ℕ) (row : List Bool) → AreSources user row user → feeds program proc user user ≡ true → user < 16
        → (p : ℕ) → IsTrue (holds (set row user true) p) ↔ Leads (feeds program proc) p user
    sources_self user row are self below p =
        let wide : length row ≡ 16 = are.wide in
        let one = set_exact row user (omega arith) p in (
          λ h. elim (one.0 h) [
            | inl e ↦ directly (ap (λ k. feeds program proc k user) e ∙ self)
            | inr k ↦ (let v = (are.exact p).0 k in onto user p v.by v.path v.last)
          ],
          λ l. one.1 (elim (last_step p user l) [ inl v ↦ inr ((are.exact p).1 v) | inr k ↦ inl k.0 ]),
        )

  pub flow_more : (table : List (List Bool)) (n : ℕ) (row : List Bool) → IsFlow program proc table n → n < length table → ((p : ℕ) → IsTrue (holds row p) ↔ Leads (feeds program proc) p n)
      → IsFlow program proc (set table n row) (n + 1)
  flow_more table n row is within new y below p =
      let same : (r : List Bool) → row_in (set table n row) y ≡ r → (IsTrue (holds r p) ↔ Leads (feeds program proc) p y) → IsTrue (holds (row_in (set table n row) y) p) ↔ Leads (feeds program proc) p y =
      λ r e h. (λ k. h.0 (ap (λ (r : List Bool). holds r p) (sym e) ∙ k), λ l. ap (λ (r : List Bool). holds r p) e ∙ h.1 l) in
      elim (cases_eq y n) [
        | inl e ↦ same row (ap (λ k. get_or (set table n row) k []) e ∙ get_or-set_same table n row [] within) (subst (λ k. IsTrue (holds row p) ↔ Leads (feeds program proc) p k) (sym e) (new p))
        | inr apart ↦ same (row_in table y) (get_or-set_other table n y row [] apart) (is y (omega arith) p)
      ]

-- ---- the core

module _ (program : Workload) (is_immediate : PieceId → Bool) (proc : ℕ) where
  pub core_there : (x : ℕ) → InCore program is_immediate proc x → x < length (pieces_in program proc)
  core_there _ (contended {x} h) = (contended_there program is_immediate proc x h).piece
  core_there _ (between {p} {x} {q} h k b) = leads_there program proc p x b.behind

  pub core_by : (row : List Bool) (table : List (List Bool)) → AreContended program is_immediate proc row → IsFlow program proc table (length (pieces_in program proc))
      → (x : ℕ) → x < length (pieces_in program proc) → IsCoreBy row table x ↔ InCore program is_immediate proc x
  core_by row table are flow x below = (forth, λ h. back x h below)
    where
      forth : IsCoreBy row table x → InCore program is_immediate proc x
      forth (inl h) = contended ((are x).0 h)
      forth (inr (one, other)) =
          let p = (are one.0).0 one.1 in
          let q = (are other.0).0 other.1 in
          between p q (record { behind = (flow x below one.0).0 one.2; before = (flow other.0 (contended_there program is_immediate proc other.0 q).piece x).0 other.2 })

      back : (x : ℕ) → InCore program is_immediate proc x → x < length (pieces_in program proc) → IsCoreBy row table x
      back _ (contended {x} h) l = inl ((are x).1 h)
      back _ (between {p} {x} {q} h k b) l =
          inr ((p, (are p).1 h, (flow x l p).1 b.behind), (q, (are q).1 k, (flow q (contended_there program is_immediate proc q k).piece x).1 b.before))
