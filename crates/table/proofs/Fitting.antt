-- A node fits, and names others, where the paper says so: the tests of a node's fields as its rows.
-- Assumes nothing.
use Prim.Native.Nat.{ℕ, ◌<◌, ◌≤◌}
use mathlib.Core.Bool.{Bool, true, false, cond, ◌&&◌}
use mathlib.Core.Path.{◌≡◌, refl, sym, ap, subst, ◌∙◌}
use mathlib.Core.Logic.{◌↔◌, ◌⊎◌, inl, inr, ⊎_elim}
use native.Mathlib.Omega.{arith}
use lib.Dec.{eqb}
use borrow.Author.Tests.{eqb-true, eq-eqb, lt-ltb, le-ltb}
use Rattle.basis.proofs.Tests.{lt_or_le}
use Rattle.table.specs.declared.Field.{Field}
use Rattle.table.specs.declared.Field.TheVariants.{Never, Zero, Process, Guard}
use Rattle.table.specs.declared.Fields.{Fields}
use Rattle.table.specs.Tables.{Table, kind_at, p_at, q_at, first_link_root, first_agent_root}
use Rattle.table.specs.Nodes.{fields, fields_at, root_names, fits, fitting, left_node, right_node, names}
use Rattle.table.specs.Rules.{Limits, NamesByP, NamesByQ, inners, bodies_end, links_end, Row, Root, Node, Names}
use Rattle.table.proofs.Promises.{inner_fields, root_fields}
use Rattle.table.proofs.Rows.{and_iff, or_iff, eqb_iff, left_iff, right_iff, Says, says_iff, says_row, row_says}

module _ (t : Table) where
  abbrev k : ℕ → ℕ
  k n = kind_at t n

  abbrev p : ℕ → ℕ
  p n = p_at t n

  abbrev q : ℕ → ℕ
  q n = q_at t n

  -- NODES. A node fits where its fields say so
  fit_says : (n : ℕ) {f : Fields} → fields_at t n ≡ f → (fitting t n ≡ true) ↔ (Says t n f.p (p n) × Says t n f.q (q n))
  unfolding fitting
  fit_says n e =
      subst (λ (f : Fields). (fitting t n ≡ true) ↔ (Says t n f.p (p n) × Says t n f.q (q n))) e
      (and_iff (fits t n (fields_at t n).p (p n)) (fits t n (fields_at t n).q (q n)) (says_iff t n (fields_at t n).p (p n)) (says_iff t n (fields_at t n).q (q n)))

  fit_row : (n : ℕ) → n < inners t → (fitting t n ≡ true) ↔ Row t n (k n) (p n) (q n)
  fit_row n h =
      let s = fit_says n (inner_fields t n h) in
      (λ e. says_row t n (p n) (q n) (k n) (s.0 e).0 (s.0 e).1, λ r. s.1 (row_says t n r))

  -- what roots name
  module _ (limits : Limits t.sizes) (n : ℕ) where
    names_body : n < bodies_end t → root_names t n ≡ Process
    names_body h = rw (lt-ltb n (first_link_root t) (omega (arith, limits.roots)))

    pub names_link : bodies_end t ≤ n → n < links_end t → root_names t n ≡ Guard
    names_link h l = rw (le-ltb n (first_link_root t) (omega (arith, limits.roots)), lt-ltb n (first_agent_root t) (omega (arith, limits.roots)))

    names_start : links_end t ≤ n → root_names t n ≡ Process
    names_start h = rw (le-ltb n (first_link_root t) (omega (arith, limits.roots)), le-ltb n (first_agent_root t) (omega (arith, limits.roots)))

    -- of every root, by its part
    by_part : (A : Field → Type 0) → (n < bodies_end t → A Process) → (bodies_end t ≤ n → n < links_end t → A Guard) → (links_end t ≤ n → A Process) → A (root_names t n)
    by_part A f g h =
        ⊎_elim (λ (a : n < bodies_end t). subst A (sym (names_body a)) (f a))
        (λ (a : bodies_end t ≤ n).
        ⊎_elim (λ (b : n < links_end t). subst A (sym (names_link a b)) (g a b)) (λ (b : links_end t ≤ n). subst A (sym (names_start b)) (h b)) (lt_or_le n (links_end t)))
        (lt_or_le n (bodies_end t))

    says_root : k n ≡ 64 → Says t n (root_names t n) (p n) → q n ≡ 0 → Root t n
    says_root e w z =
        record {
          kind = e;
          lower = by_part (λ (f : Field). Says t n f (p n) → p n < n) (λ h v. v.0) (λ h l v. v.0) (λ h v. v.0) w;
          body = λ h. (subst (λ (f : Field). Says t n f (p n)) (names_body h) w).1;
          link = λ h l. (subst (λ (f : Field). Says t n f (p n)) (names_link h l) w).1;
          start = λ h. (subst (λ (f : Field). Says t n f (p n)) (names_start h) w).1;
          nothing = z;
        }

    root_says : Root t n → Says t n (root_names t n) (p n)
    root_says r = by_part (λ (f : Field). Says t n f (p n)) (λ h. (r.lower, r.body h)) (λ h l. (r.lower, r.link h l)) (λ h. (r.lower, r.start h))

    -- the fields of a root
    pub root_here : inners t ≤ n → k n ≡ 64 → fields_at t n ≡ fields (root_names t n) Zero
    root_here h e = root_fields t n h ∙ ap (λ (b : Bool). cond b (fields (root_names t n) Zero) (fields Never Never)) (eq-eqb (k n) 64 e)

    fit_root : inners t ≤ n → (fitting t n ≡ true) ↔ Root t n
    fit_root h = (λ e. by (eqb (k n) 64) refl ((fit_says n (root_fields t n h)).0 e), λ r. (fit_says n (root_here h r.kind)).1 (root_says r, r.nothing))
      where
        by : (b : Bool) → eqb (k n) 64 ≡ b
            → (let f = cond b (fields (root_names t n) Zero) (fields Never Never) in Says t n f.p (p n) × Says t n f.q (q n)) → Root t n
        by true d w = says_root (eqb-true (k n) 64 d) w.0 w.1
        by false d w = absurd w.0

    pub fit_node : (fitting t n ≡ true) ↔ Node t n
    fit_node = (
      λ e. record { inner = λ h. (fit_row n h).0 e; root = λ h. (fit_root h).0 e },
      λ w. ⊎_elim (λ (h : n < inners t). (fit_row n h).1 (w.inner h)) (λ (h : inners t ≤ n). (fit_root h).1 (w.root h)) (lt_or_le n (inners t)),
    )

  -- NAMING, roots aside
  module _ (n : ℕ) (h : n < inners t) where
    pub by_p_iff : (left_node t n ≡ true) ↔ NamesByP (k n)
    by_p_iff = rw (inner_fields t n h) (left_iff (k n))

    pub by_q_iff : (right_node t n ≡ true) ↔ NamesByQ (k n)
    by_q_iff = rw (inner_fields t n h) (right_iff (k n))

    abbrev Either : ℕ → Type 0
    Either m = (NamesByP (k n) × (p n ≡ m)) ⊎ (NamesByQ (k n) × (q n ≡ m))

    either_iff : (m : ℕ) → (names t n m ≡ true) ↔ Either m
    either_iff m =
        or_iff (left_node t n && eqb (p n) m) (right_node t n && eqb (q n) m)
        (and_iff (left_node t n) (eqb (p n) m) by_p_iff (eqb_iff (p n) m))
        (and_iff (right_node t n) (eqb (q n) m) by_q_iff (eqb_iff (q n) m))

    names_either : {m : ℕ} → Names t n m → Either m
    names_either (Names.named_by_p a b) = inl (a, b)
    names_either (Names.named_by_q a b) = inr (a, b)

    pub names_iff : (m : ℕ) → (names t n m ≡ true) ↔ Names t n m
    names_iff m = (
      λ e.
          ⊎_elim (λ (w : NamesByP (k n) × (p n ≡ m)). Names.named_by_p w.0 w.1) (λ (w : NamesByQ (k n) × (q n ≡ m)). Names.named_by_q w.0 w.1) ((either_iff m).0 e),
      λ w. (either_iff m).1 (names_either w),
    )
