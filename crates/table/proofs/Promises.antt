-- What may be relied on of a table that checks 1 to 5 pass.
-- Assumes nothing.
use Prim.Native.Nat.{ℕ, ◌+◌, ◌*◌, ◌<◌, ◌≤◌}
use mathlib.Core.Bool.{Bool, true, false, cond, not, ◌&&◌, ◌||◌}
use mathlib.Core.Path.{◌≡◌, refl, ap, subst, ◌∙◌}
use mathlib.Core.Logic.{◌⊎◌, inl, inr, ⊎_elim}
use mathlib.Core.List.{List}
use native.Mathlib.Omega.{arith}
use lib.Dec.{ltb, leb, eqb}
use lib.ListN.{length, get_or-eq_default}
use borrow.Author.Tests.{leb-true, eqb-true, eqb-false, eq-eqb, lt-ltb, le-ltb, le-leb, not-false}
use Rattle.basis.specs.Numbers.{lowest}
use Rattle.basis.proofs.Numbers.{some_at}
use Rattle.basis.proofs.Tests.{not_both, and_left, and_right, and_both, and_fails, or_either, or_neither, lt_or_le}
use Rattle.table.specs.declared.Field.{Field}
use Rattle.table.specs.declared.Field.TheVariants.{Never, Zero, Process, Guard}
use Rattle.table.specs.declared.Fields.{Fields}
use Rattle.table.specs.Tables.{Table, sizes_of, within_limits, table_of, kind_at, p_at, q_at, first_root, first_link_root, first_agent_root, body_at, link_at, start_at}
use Rattle.table.specs.Nodes.{process_rows, guard_rows, expression_rows, row_of, fields, fields_of, fields_here, fields_at, root_names}
use Rattle.table.specs.Nodes.{is_process, is_guard, is_expression, inner, fitting, left_node, right_node, names, named, names_again, bad_node}
use Rattle.table.specs.Sound.{LowerProcess, LowerGuard, LowerExpression}
use Rattle.table.specs.Reach.{process_node, link_root, reached_from, wrong_key}
use Rattle.table.specs.Sound.{Sound}
use Rattle.table.proofs.Checks.{lowest_passes}
use Rattle.table.proofs.Limits.{shaped}
use Rattle.table.proofs.Operands.{Holds, left_holds, right_holds, names_left}
use Rattle.table.proofs.Reaches.{reached_start, reached_named}

-- bytes that checks 1 to 5 pass are a sound table
pub sound_table : (bytes : List ℕ) → within_limits (sizes_of bytes) ≡ true → length bytes ≡ 12 + 5 * (sizes_of bytes).nodes
    → ltb (lowest (bad_node (table_of bytes)) (sizes_of bytes).nodes) (sizes_of bytes).nodes ≡ false
    → ltb (lowest (wrong_key (table_of bytes)) (sizes_of bytes).nodes) (sizes_of bytes).nodes ≡ false
    → Sound (table_of bytes)
sound_table bytes w h d e =
    record {
      shaped = shaped bytes w h;
      nodes = lowest_passes (sizes_of bytes).nodes (bad_node (table_of bytes)) d;
      keys = lowest_passes (sizes_of bytes).nodes (wrong_key (table_of bytes)) e;
    }

module _ (t : Table) where
  abbrev N : ℕ
  N = t.sizes.nodes

  -- a node that is not bad fits, and makes no second naming
  pub not_bad : (n : ℕ) → bad_node t n ≡ false → (fitting t n ≡ true) × (names_again t n ≡ false)
  unfolding bad_node
  not_bad n e = let w = or_neither (not (fitting t n)) (names_again t n) e in (not-false (fitting t n) w.0, w.1)

  -- fields of a node that is no root, and of one that is
  pub inner_fields : (n : ℕ) → n < first_root t → fields_at t n ≡ fields_of (kind_at t n)
  unfolding fields_here
  inner_fields n h = rw (fields_here, lt-ltb n (first_root t) h)

  pub root_fields : (n : ℕ) → first_root t ≤ n → fields_at t n ≡ cond (eqb (kind_at t n) 64) (fields (root_names t n) Zero) (fields Never Never)
  unfolding fields_here
  root_fields n h = rw (fields_here, le-ltb n (first_root t) h)

  -- what both fields of a node say
  abbrev Both : ℕ → Fields → Type 0
  Both n f = Holds t n f.p (p_at t n) × Holds t n f.q (q_at t n)

  module _ (sound : Sound t) where
    pub all_fit : (n : ℕ) → n < N → fitting t n ≡ true
    all_fit n h = (not_bad n (sound.nodes n h)).0

    both : (n : ℕ) → n < N → Both n (fields_at t n)
    both n h = (left_holds t n (all_fit n h), right_holds t n (all_fit n h))

    -- past the last node nothing stands
    pub past_kind : (n : ℕ) → N ≤ n → kind_at t n ≡ 0
    past_kind n h = get_or-eq_default t.kinds 0 (omega (arith, sound.shaped.kinds))

    pub kind_inside : (n : ℕ) → 0 < kind_at t n → n < N
    kind_inside n h = ⊎_elim (λ (l : n < N). l) (λ (l : N ≤ n). absurd (omega (arith, past_kind n l))) (lt_or_le n N)

    -- the last nodes are roots, and no others
    root_both : (n : ℕ) → n < N → first_root t ≤ n → (kind_at t n ≡ 64) × Both n (fields (root_names t n) Zero)
    root_both n h l = by (eqb (kind_at t n) 64) refl (subst (Both n) (root_fields n l) (both n h))
      where
        by : (b : Bool) → eqb (kind_at t n) 64 ≡ b → Both n (cond b (fields (root_names t n) Zero) (fields Never Never))
            → (kind_at t n ≡ 64) × Both n (fields (root_names t n) Zero)
        by true e w = (eqb-true (kind_at t n) 64 e, w)
        by false e w = absurd w.0

    pub root_kind : (n : ℕ) → n < N → first_root t ≤ n → kind_at t n ≡ 64
    root_kind n h l = (root_both n h l).0

    pub kind_inner : (n : ℕ) → n < N → kind_at t n < 64 → n < first_root t
    kind_inner n h k = ⊎_elim (λ (l : n < first_root t). l) (λ (l : first_root t ≤ n). absurd (omega (arith, root_kind n h l))) (lt_or_le n (first_root t))

    pub process_inner : (n : ℕ) → n < N → is_process (kind_at t n) ≡ true → n < first_root t
    process_inner n h e = kind_inner n h (omega (arith, leb-true (kind_at t n) 9 e))

    guard_kind : (n : ℕ) → is_guard (kind_at t n) ≡ true → (16 ≤ kind_at t n) × (kind_at t n ≤ 22)
    guard_kind n e =
        let k = kind_at t n in
        (leb-true 16 k (and_left (leb 16 k) (leb k 22) e), leb-true k 22 (and_right (leb 16 k) (leb k 22) e))

    expression_kind : (n : ℕ) → is_expression (kind_at t n) ≡ true → (32 ≤ kind_at t n) × (kind_at t n ≤ 40)
    expression_kind n e =
        let k = kind_at t n in
        (leb-true 32 k (and_left (leb 32 k) (leb k 40) e), leb-true k 40 (and_right (leb 32 k) (leb k 40) e))

    pub guard_inner : (n : ℕ) → is_guard (kind_at t n) ≡ true → n < first_root t
    guard_inner n e = let w = guard_kind n e in kind_inner n (kind_inside n (omega arith)) (omega arith)

    pub expression_inner : (n : ℕ) → is_expression (kind_at t n) ≡ true → n < first_root t
    expression_inner n e = let w = expression_kind n e in kind_inner n (kind_inside n (omega arith)) (omega arith)

    -- the operands by kind; a kind above 0 is of a node that is there
    by_kind : (n k : ℕ) → n < N → kind_at t n ≡ k → k < 64 → Both n (fields_of k)
    by_kind n k h e l =
        subst (λ (x : ℕ). Both n (fields_of x)) e (subst (Both n) (inner_fields n (kind_inner n h (omega arith))) (both n h))

    of_kind : (n k : ℕ) → kind_at t n ≡ k → 0 < k → k < 64 → Both n (fields_of k)
    of_kind n k e h l = by_kind n k (kind_inside n (omega arith)) e l

    abbrev Zeros : ℕ → Type 0
    Zeros n = (p_at t n ≡ 0) × (q_at t n ≡ 0)

    abbrev Processes : ℕ → Type 0
    Processes n = LowerProcess t n (p_at t n) × LowerProcess t n (q_at t n)

    abbrev Guards : ℕ → Type 0
    Guards n = LowerGuard t n (p_at t n) × LowerGuard t n (q_at t n)

    abbrev Expressions : ℕ → Type 0
    Expressions n = LowerExpression t n (p_at t n) × LowerExpression t n (q_at t n)

    module _ (n : ℕ) where
      abbrev kind : ℕ
      kind = kind_at t n

      abbrev p : ℕ
      p = p_at t n

      abbrev q : ℕ
      q = q_at t n

      pub idle_operands : n < N → kind ≡ 0 → Zeros n
      unfolding row_of process_rows
      idle_operands h e = by_kind n 0 h e (omega arith)

      pub tick_operands : kind ≡ 1 → Zeros n
      unfolding row_of process_rows
      tick_operands e = of_kind n 1 e (omega arith) (omega arith)

      pub attribute_set_operands : kind ≡ 2 → (p < t.sizes.attributes) × LowerExpression t n q
      unfolding row_of process_rows
      attribute_set_operands e = of_kind n 2 e (omega arith) (omega arith)

      pub stigmergy_set_operands : kind ≡ 3 → (p < t.sizes.stigmergy) × LowerExpression t n q
      unfolding row_of process_rows
      stigmergy_set_operands e = of_kind n 3 e (omega arith) (omega arith)

      pub environment_set_operands : kind ≡ 4 → (p < t.sizes.environment) × LowerExpression t n q
      unfolding row_of process_rows
      environment_set_operands e = of_kind n 4 e (omega arith) (omega arith)

      pub sequence_operands : kind ≡ 5 → Processes n
      unfolding row_of process_rows
      sequence_operands e = of_kind n 5 e (omega arith) (omega arith)

      pub choice_operands : kind ≡ 6 → Processes n
      unfolding row_of process_rows
      choice_operands e = of_kind n 6 e (omega arith) (omega arith)

      pub guarded_operands : kind ≡ 7 → LowerGuard t n p × LowerProcess t n q
      unfolding row_of process_rows
      guarded_operands e = of_kind n 7 e (omega arith) (omega arith)

      pub parallel_operands : kind ≡ 8 → Processes n
      unfolding row_of process_rows
      parallel_operands e = of_kind n 8 e (omega arith) (omega arith)

      pub call_operands : kind ≡ 9 → (p < t.sizes.definitions) × (q ≡ 0)
      unfolding row_of process_rows
      call_operands e = of_kind n 9 e (omega arith) (omega arith)

      pub true_operands : kind ≡ 16 → Zeros n
      unfolding row_of guard_rows
      true_operands e = of_kind n 16 e (omega arith) (omega arith)

      pub not_operands : kind ≡ 20 → LowerGuard t n p × (q ≡ 0)
      unfolding row_of guard_rows
      not_operands e = of_kind n 20 e (omega arith) (omega arith)

      pub and_operands : kind ≡ 21 → Guards n
      unfolding row_of guard_rows
      and_operands e = of_kind n 21 e (omega arith) (omega arith)

      pub or_operands : kind ≡ 22 → Guards n
      unfolding row_of guard_rows
      or_operands e = of_kind n 22 e (omega arith) (omega arith)

      pub attribute_operands : kind ≡ 33 → (p < t.sizes.attributes) × (q ≤ 2)
      unfolding row_of expression_rows
      attribute_operands e = of_kind n 33 e (omega arith) (omega arith)

      pub stigmergy_operands : kind ≡ 34 → (p < t.sizes.stigmergy) × (q ≤ 2)
      unfolding row_of expression_rows
      stigmergy_operands e = of_kind n 34 e (omega arith) (omega arith)

      pub environment_operands : kind ≡ 35 → (p < t.sizes.environment) × (q ≡ 0)
      unfolding row_of expression_rows
      environment_operands e = of_kind n 35 e (omega arith) (omega arith)

      -- equal, less, greater
      pub comparison_operands : 17 ≤ kind → kind ≤ 19 → Expressions n
      unfolding row_of guard_rows
      comparison_operands h l =
          ⊎_elim (λ (a : kind < 18). of_kind n 17 (omega arith) (omega arith) (omega arith))
          (λ (a : 18 ≤ kind).
          ⊎_elim (λ (b : kind < 19). of_kind n 18 (omega arith) (omega arith) (omega arith))
          (λ (b : 19 ≤ kind). of_kind n 19 (omega arith) (omega arith) (omega arith))
          (lt_or_le kind 19))
          (lt_or_le kind 18)

      -- +, -, ×, divide, remainder
      pub arithmetic_operands : 36 ≤ kind → kind ≤ 40 → Expressions n
      unfolding row_of expression_rows
      arithmetic_operands h l =
          ⊎_elim (λ (a : kind < 37). of_kind n 36 (omega arith) (omega arith) (omega arith))
          (λ (a : 37 ≤ kind).
          ⊎_elim (λ (b : kind < 38). of_kind n 37 (omega arith) (omega arith) (omega arith))
          (λ (b : 38 ≤ kind).
          ⊎_elim (λ (c : kind < 39). of_kind n 38 (omega arith) (omega arith) (omega arith))
          (λ (c : 39 ≤ kind).
          ⊎_elim (λ (d : kind < 40). of_kind n 39 (omega arith) (omega arith) (omega arith))
          (λ (d : 40 ≤ kind). of_kind n 40 (omega arith) (omega arith) (omega arith))
          (lt_or_le kind 40))
          (lt_or_le kind 39))
          (lt_or_le kind 38))
          (lt_or_le kind 37)

    -- the roots: bodies, links, starting processes
    root_names_lem : (n : ℕ) (f : Field) → n < N → first_root t ≤ n → root_names t n ≡ f → Holds t n f (p_at t n)
    root_names_lem n f h l e = subst (λ (f : Field). Holds t n f (p_at t n)) e (root_both n h l).1.0

    process_root : (n : ℕ) → n < N → first_root t ≤ n → root_names t n ≡ Process → LowerProcess t (first_root t) (p_at t n)
    process_root n h l e = let w = root_names_lem n Process h l e in (process_inner (p_at t n) (omega arith) w.1, w.1)

    pub body_process : (d : ℕ) → d < t.sizes.definitions → LowerProcess t (first_root t) (body_at t d)
    body_process d h =
        process_root (first_root t + d) (omega arith) (omega arith) (rw (lt-ltb (first_root t + d) (first_link_root t) (omega arith)))

    pub link_guard : (k : ℕ) → k < t.sizes.stigmergy → LowerGuard t (first_root t) (link_at t k)
    link_guard k h =
        let n = first_link_root t + k in
        let w : LowerGuard t n (link_at t k) = root_names_lem n Guard (omega arith) (omega arith)
        (rw (le-ltb n (first_link_root t) (omega arith), lt-ltb n (first_agent_root t) (omega arith))) in
        (guard_inner (link_at t k) w.1, w.1)

    pub start_process : (a : ℕ) → a < t.sizes.agents → LowerProcess t (first_root t) (start_at t a)
    start_process a h =
        let n = first_agent_root t + a in
        process_root n (omega arith) (omega arith) (rw (le-ltb n (first_link_root t) (omega arith), le-ltb n (first_agent_root t) (omega arith)))

    -- roots aside, no node is named twice: not by two nodes, and not by p and q of one
    abbrev L : ℕ → Bool
    L n = left_node t n

    abbrev R : ℕ → Bool
    R n = right_node t n

    abbrev twice : ℕ → Bool
    twice n = L n && (R n && eqb (p_at t n) (q_at t n))

    again_not : (n : ℕ) → n < first_root t
        → ((L n && named t n (p_at t n)) ≡ false) × ((R n && named t n (q_at t n)) ≡ false) × (twice n ≡ false)
    unfolding names_again
    again_not n h =
        let e = (not_bad n (sound.nodes n (omega arith))).1 in
        let a = L n && named t n (p_at t n) in
        let b = R n && named t n (q_at t n) in
        let f : (a || (b || twice n)) ≡ false = rw (lt-ltb n (first_root t) h) at e in
        let g = or_neither a (b || twice n) f in
        let i = or_neither b (twice n) g.1 in
        (g.0, i.0, i.1)

    pub operands_differ : (n : ℕ) → n < first_root t → L n ≡ true → R n ≡ true → p_at t n ≡ q_at t n → ⊥
    operands_differ n h l r e =
        not_both (and_both (L n) (R n && eqb (p_at t n) (q_at t n)) l (and_both (R n) (eqb (p_at t n) (q_at t n)) r (eq-eqb (p_at t n) (q_at t n) e)))
        (again_not n h).2

    not_named : (n m : ℕ) → n < first_root t → names t n m ≡ true → named t n m ≡ true → ⊥
    not_named n m h e f =
        let w = again_not n h in
        ⊎_elim
        (λ (a : (L n && eqb (p_at t n) m) ≡ true).
        let d : p_at t n ≡ m = eqb-true (p_at t n) m (and_right (L n) (eqb (p_at t n) m) a) in
        not_both (and_both (L n) (named t n (p_at t n)) (and_left (L n) (eqb (p_at t n) m) a) (ap (named t n) d ∙ f)) w.0)
        (λ (a : (R n && eqb (q_at t n) m) ≡ true).
        let d : q_at t n ≡ m = eqb-true (q_at t n) m (and_right (R n) (eqb (q_at t n) m) a) in
        not_both (and_both (R n) (named t n (q_at t n)) (and_left (R n) (eqb (q_at t n) m) a) (ap (named t n) d ∙ f)) w.1)
        (or_either (L n && eqb (p_at t n) m) (R n && eqb (q_at t n) m) e)

    named_by : (j n m : ℕ) → j < n → j < first_root t → names t j m ≡ true → named t n m ≡ true
    unfolding named
    named_by j n m l h e = some_at (λ (k : ℕ). inner t k && names t k m) n j l (and_both (inner t j) (names t j m) (lt-ltb j (first_root t) h) e)

    pub named_once : (j k m : ℕ) → j < first_root t → k < first_root t → names t j m ≡ true → names t k m ≡ true → j ≡ k
    named_once j k m g h e f =
        ⊎_elim (λ (l : j < k). absurd (not_named k m h f (named_by j k m l g e)))
        (λ (l : k ≤ j).
        ⊎_elim (λ (i : k < j). absurd (not_named j m g e (named_by k j m i h f))) (λ (i : j ≤ k). omega arith) (lt_or_le k j))
        (lt_or_le j k)

    -- what process nodes reach, and what links reach
    pub process_reached : (n : ℕ) → n < N → is_process (kind_at t n) ≡ true → reached_from t (process_node t) n ≡ true
    process_reached n h e = reached_start t all_fit (process_node t) n h e

    link_root_lem : (k : ℕ) → k < t.sizes.stigmergy → link_root t (first_link_root t + k) ≡ true
    link_root_lem k h =
        let n = first_link_root t + k in
        and_both (leb (first_link_root t) n) (ltb n (first_agent_root t)) (le-leb (first_link_root t) n (omega arith)) (lt-ltb n (first_agent_root t) (omega arith))

    pub link_reached : (k : ℕ) → k < t.sizes.stigmergy → reached_from t (link_root t) (link_at t k) ≡ true
    unfolding fields_here
    link_reached k h =
        let n = first_link_root t + k in
        let l : first_root t ≤ n = omega arith in
        let i : n < N = omega arith in
        let r : reached_from t (link_root t) n ≡ true = reached_start t all_fit (link_root t) n i (link_root_lem k h) in
        let e : left_node t n ≡ true =
        rw (fields_here, le-ltb n (first_root t) l, eq-eqb (kind_at t n) 64 (root_kind n i l), le-ltb n (first_link_root t) (omega arith), lt-ltb n (first_agent_root t) (omega arith)) in
        reached_named t all_fit (link_root t) n (link_at t k) r (names_left t n (link_at t k) e refl)

    pub names_reached : (start : ℕ → Bool) (n m : ℕ) → reached_from t start n ≡ true → names t n m ≡ true → reached_from t start m ≡ true
    names_reached = reached_named t all_fit

    abbrev by_process : ℕ → Bool
    by_process m = reached_from t (process_node t) m

    abbrev by_link : ℕ → Bool
    by_link m = reached_from t (link_root t) m

    key_right : (m : ℕ) → 33 ≤ kind_at t m → kind_at t m ≤ 35
        → ((by_process m && not (eqb (q_at t m) 0)) ≡ false) × ((by_link m && (eqb (kind_at t m) 35 || eqb (q_at t m) 0)) ≡ false)
    unfolding wrong_key
    key_right m h l =
        let e = sound.keys m (kind_inside m (omega arith)) in
        let a = by_process m && not (eqb (q_at t m) 0) in
        let b = by_link m && (eqb (kind_at t m) 35 || eqb (q_at t m) 0) in
        let f : (a || b) ≡ false = rw (le-leb 33 (kind_at t m) h, le-leb (kind_at t m) 35 l) at e in
        or_neither a b f

    -- of the key that is read, the party is 0 where a process node reaches it, and the sender or the receiver where a link does
    pub process_party : (m : ℕ) → by_process m ≡ true → 33 ≤ kind_at t m → kind_at t m ≤ 35 → q_at t m ≡ 0
    process_party m r h l =
        ⊎_elim (λ (e : by_process m ≡ false). absurd (not_both r e))
        (λ (e : not (eqb (q_at t m) 0) ≡ false). eqb-true (q_at t m) 0 (not-false (eqb (q_at t m) 0) e))
        (and_fails (by_process m) (not (eqb (q_at t m) 0)) (key_right m h l).0)

    link_key : (m : ℕ) → by_link m ≡ true → 33 ≤ kind_at t m → kind_at t m ≤ 35 → (eqb (kind_at t m) 35 ≡ false) × (eqb (q_at t m) 0 ≡ false)
    link_key m r h l =
        ⊎_elim (λ (e : by_link m ≡ false). absurd (not_both r e))
        (λ (e : (eqb (kind_at t m) 35 || eqb (q_at t m) 0) ≡ false). or_neither (eqb (kind_at t m) 35) (eqb (q_at t m) 0) e)
        (and_fails (by_link m) (eqb (kind_at t m) 35 || eqb (q_at t m) 0) (key_right m h l).1)

    party_bound : (m : ℕ) → 33 ≤ kind_at t m → kind_at t m ≤ 34 → q_at t m ≤ 2
    party_bound m h l =
        ⊎_elim (λ (a : kind_at t m < 34). (attribute_operands m (omega arith)).1) (λ (a : 34 ≤ kind_at t m). (stigmergy_operands m (omega arith)).1) (lt_or_le (kind_at t m) 34)

    pub link_party : (m : ℕ) → by_link m ≡ true → 33 ≤ kind_at t m → kind_at t m ≤ 34 → (q_at t m ≡ 1) ⊎ (q_at t m ≡ 2)
    link_party m r h l =
        let a = party_bound m h l in
        let b = eqb-false (q_at t m) 0 (link_key m r h (omega arith)).1 in
        ⊎_elim (λ (c : q_at t m < 2). inl (omega (arith, b))) (λ (c : 2 ≤ q_at t m). inr (omega arith)) (lt_or_le (q_at t m) 2)

    -- a link reaches no environment key
    pub link_environment : (m : ℕ) → by_link m ≡ true → kind_at t m ≡ 35 → ⊥
    link_environment m r e = eqb-false (kind_at t m) 35 (link_key m r (omega arith) (omega arith)).0 e
