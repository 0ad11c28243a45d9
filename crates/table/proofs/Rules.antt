-- What the paper asks of a table, and what checks 2, 4 and 5 ask, are the same.
-- Assumes nothing.
use Prim.Native.Nat.{ℕ, zero, suc, ◌<◌, ◌≤◌}
use mathlib.Core.Bool.{Bool, true, false, not, ◌&&◌, ◌||◌}
use mathlib.Core.Path.{◌≡◌, refl, sym, ap, subst, ◌∙◌}
use mathlib.Core.Logic.{◌↔◌, ◌⊎◌, inl, inr, ⊎_elim}
use native.Mathlib.Omega.{arith}
use lib.Dec.{ltb, leb, eqb}
use borrow.Author.Tests.{ltb-true, leb-true, lt-ltb, le-leb}
use Rattle.basis.proofs.Numbers.{some_at, some_witness}
use Rattle.basis.proofs.Tests.{either, not_both, is_false, and_left, and_right, and_both, lt_or_le}
use Rattle.table.specs.declared.Sizes.{Sizes}
use Rattle.table.specs.declared.Field.{Field}
use Rattle.table.specs.declared.Field.TheVariants.{Zero, Guard}
use Rattle.table.specs.declared.Fields.{Fields}
use Rattle.table.specs.Tables.{Table, within_limits, kind_at, p_at, q_at, first_link_root, first_agent_root}
use Rattle.table.specs.Nodes.{expression_rows, row_of, is_key_kind, is_node, fields, fields_of, fields_at, inner, fitting, left_node, right_node, names, named, names_again, bad_node}
use Rattle.table.specs.Rules.{Limits, NamesByP, NamesByQ, inners, bodies_end, links_end, Root, Node, Names, Again, Bad, Reaches, FromProcess, FromLink, Wrong}
use Rattle.table.specs.Reach.{process_node, link_root, reaches, reached_from, wrong_key}
use Rattle.table.specs.Sound.{Shaped, Ruled}
use Rattle.table.proofs.Limits.{within_limits_lem, limits_within}
use Rattle.table.proofs.Operands.{left_lower, right_lower, names_lower}
use Rattle.table.proofs.Reaches.{ByLeft, ByRight, reaches_self, reaches_left, reaches_right, reaches_how, reached_by, reached_which}
use Rattle.table.proofs.Promises.{not_bad}
use Rattle.table.proofs.Naming.{bad_unfit, bad_fit, bad_again}
use Rattle.table.proofs.Rows.{and_iff, or_iff, not_iff, ltb_iff, leb_iff, eqb_iff, between_iff, Says, row_says}
use Rattle.table.proofs.Fitting.{by_p_iff, by_q_iff, names_iff, root_here, names_link, fit_node}

pub within_iff : (n : Sizes) → (within_limits n ≡ true) ↔ Limits n
within_iff n = (within_limits_lem n, limits_within n)

module _ (t : Table) where
  abbrev k : ℕ → ℕ
  k n = kind_at t n

  abbrev p : ℕ → ℕ
  p n = p_at t n

  abbrev q : ℕ → ℕ
  q n = q_at t n

  -- a lower node names m
  abbrev Named : ℕ → ℕ → Type 0
  Named n m = (j : ℕ) × (j < n) × Names t j m

  -- the ways of a second naming: by p, by q, by both
  abbrev Ways : ℕ → Type 0
  Ways n = (NamesByP (k n) × Named n (p n)) ⊎ ((NamesByQ (k n) × Named n (q n)) ⊎ (NamesByP (k n) × (NamesByQ (k n) × (p n ≡ q n))))

  again_ways : {n : ℕ} → Again t n → (n < inners t) × Ways n
  again_ways (Again.after {j} g h a (Names.named_by_p b e)) = (h, inl (b, (j, g, subst (Names t j) (sym e) a)))
  again_ways (Again.after {j} g h a (Names.named_by_q b e)) = (h, inr (inl (b, (j, g, subst (Names t j) (sym e) a))))
  again_ways (Again.twice h a b e) = (h, inr (inr (a, (b, e))))

  module _ (n : ℕ) (h : n < inners t) where
    named_iff : (m : ℕ) → (named t n m ≡ true) ↔ Named n m
    unfolding named
    named_iff m = (
      λ e.
          let w = some_witness (λ (j : ℕ). inner t j && names t j m) n e in
          (w.0, w.1, (names_iff t w.0 (omega (arith, w.1)) m).0 (and_right (inner t w.0) (names t w.0 m) w.2)),
      λ w.
          some_at (λ (j : ℕ). inner t j && names t j m) n w.0 w.1
          (and_both (inner t w.0) (names t w.0 m) (lt-ltb w.0 (inners t) (omega (arith, w.1))) ((names_iff t w.0 (omega (arith, w.1)) m).1 w.2)),
    )

    abbrev L : Bool
    L = left_node t n

    abbrev R : Bool
    R = right_node t n

    ways_iff : (((L && named t n (p n)) || ((R && named t n (q n)) || (L && (R && eqb (p n) (q n))))) ≡ true) ↔ Ways n
    ways_iff =
        or_iff (L && named t n (p n)) ((R && named t n (q n)) || (L && (R && eqb (p n) (q n))))
        (and_iff L (named t n (p n)) (by_p_iff t n h) (named_iff (p n)))
        (or_iff (R && named t n (q n)) (L && (R && eqb (p n) (q n)))
        (and_iff R (named t n (q n)) (by_q_iff t n h) (named_iff (q n)))
        (and_iff L (R && eqb (p n) (q n)) (by_p_iff t n h) (and_iff R (eqb (p n) (q n)) (by_q_iff t n h) (eqb_iff (p n) (q n)))))

    ways_again : Ways n → Again t n
    ways_again =
        ⊎_elim (λ (w : NamesByP (k n) × Named n (p n)). Again.after w.1.1 h w.1.2 (Names.named_by_p w.0 refl))
        (⊎_elim (λ (w : NamesByQ (k n) × Named n (q n)). Again.after w.1.1 h w.1.2 (Names.named_by_q w.0 refl))
        (λ (w : NamesByP (k n) × (NamesByQ (k n) × (p n ≡ q n))). Again.twice h w.0 w.1.0 w.1.1))

  again_iff : (n : ℕ) → (names_again t n ≡ true) ↔ Again t n
  unfolding names_again
  again_iff n = (
    λ e.
        let h = ltb-true n (inners t) (and_left (inner t n) _ e) in
        ways_again n h ((ways_iff n h).0 (and_right (inner t n) _ e)),
    λ w.
        let v = again_ways w in
        and_both (inner t n) _ (lt-ltb n (inners t) v.0) ((ways_iff n v.0).1 v.1),
  )

  -- REFUSAL 4
  pub bad_iff : Limits t.sizes → (n : ℕ) → n < t.sizes.nodes → (bad_node t n ≡ true) ↔ Bad t n
  bad_iff limits n h = (
    λ e.
        ⊎_elim (λ (f : fitting t n ≡ true). inr ((again_iff n).0 (sym (bad_fit t n f) ∙ e)))
        (λ (f : fitting t n ≡ false). inl (λ w. not_both ((fit_node t limits n).1 w) f)) (either (fitting t n)),
    ⊎_elim (λ (f : Node t n → ⊥). bad_unfit t n (is_false (fitting t n) (λ e. f ((fit_node t limits n).0 e))))
        (λ (w : Again t n). bad_again t n ((again_iff n).1 w)),
  )

  -- REACHING, where no node is bad
  module _ (shaped : Shaped t) (good : (n : ℕ) → n < t.sizes.nodes → bad_node t n ≡ false) where
    abbrev N : ℕ
    N = t.sizes.nodes

    fit : (n : ℕ) → n < N → fitting t n ≡ true
    fit n h = (not_bad t n (good n h)).0

    node : (n : ℕ) → n < N → Node t n
    node n h = (fit_node t shaped.limits n).0 (fit n h)

    sorted_inner : (n : ℕ) → n < N → k n < 64 → n < inners t
    sorted_inner n h l = ⊎_elim (λ (a : n < inners t). a) (λ (a : inners t ≤ n). absurd (omega (arith, ((node n h).root a).kind))) (lt_or_le n (inners t))

    -- b bounds the number that falls
    reaches_fact : (b n m : ℕ) → n < b → n < inners t → reaches t n m ≡ true → Reaches t n m
    reaches_fact zero n m l h e = absurd (omega arith)
    reaches_fact (suc b) n m l h e =
        let f = fit n (omega arith) in
        ⊎_elim (λ (a : n ≡ m). subst (Reaches t n) a Reaches.itself)
        (⊎_elim
        (λ (w : ByLeft t fit n m).
        let d = left_lower t n f w.0 in
        Reaches.on (Names.named_by_p ((by_p_iff t n h).0 w.0) refl) (reaches_fact b (p n) m (omega arith) (omega arith) w.1))
        (λ (w : ByRight t fit n m).
        let d = right_lower t n f w.0 in
        Reaches.on (Names.named_by_q ((by_q_iff t n h).0 w.0) refl) (reaches_fact b (q n) m (omega arith) (omega arith) w.1)))
        (reaches_how t fit n m (omega arith) e)

    by_named : (n m : ℕ) → n < inners t → {i : ℕ} → Names t n i → reaches t i m ≡ true → reaches t n m ≡ true
    by_named n m h (Names.named_by_p a e) r = reaches_left t fit n m (omega arith) ((by_p_iff t n h).1 a) (ap (λ (x : ℕ). reaches t x m) e ∙ r)
    by_named n m h (Names.named_by_q a e) r = reaches_right t fit n m (omega arith) ((by_q_iff t n h).1 a) (ap (λ (x : ℕ). reaches t x m) e ∙ r)

    fact_reaches : {n m : ℕ} → n < inners t → Reaches t n m → reaches t n m ≡ true
    fact_reaches {n} h Reaches.itself = reaches_self t fit n (omega arith)
    fact_reaches {n} {m} h (Reaches.on {m = i} w r) =
        let l = names_lower t n (fit n (omega arith)) i ((names_iff t n h i).1 w) in
        by_named n m h w (fact_reaches (omega arith) r)

    -- from a process node, which is no root
    process_iff : (m : ℕ) → (reached_from t (process_node t) m ≡ true) ↔ FromProcess t m
    process_iff m = (
      λ e.
          let w = reached_which t fit (process_node t) m e in
          let l = leb-true (k w.0) 9 w.2 in
          record {
            node = w.0;
            there = w.1;
            process = l;
            reaches = reaches_fact (suc w.0) w.0 m (omega arith) (sorted_inner w.0 w.1 (omega arith)) w.3;
          },
      λ w.
          reached_by t fit (process_node t) w.node m w.there (le-leb (k w.node) 9 w.process)
          (fact_reaches (sorted_inner w.node w.there (omega (arith, w.process))) w.reaches),
    )

    -- from the root of a link: it is no key, and names its guard by p alone
    module _ (r : ℕ) (a : bodies_end t ≤ r) (b : r < links_end t) where
      inside : r < N
      inside = omega arith

      root : Root t r
      root = (node r inside).root (omega (arith, shaped.limits.roots))

      link_fields : fields_at t r ≡ fields Guard Zero
      link_fields =
          root_here t shaped.limits r (omega (arith, shaped.limits.roots)) root.kind
          ∙ ap (λ (f : Field). fields f Zero) (names_link t shaped.limits r a b)

      guard_inner : p r < inners t
      guard_inner = let g = root.link a b in sorted_inner (p r) (omega (arith, root.lower)) (omega arith)

      root_reaches : (m : ℕ) → k m < 64 → reaches t r m ≡ true → Reaches t (p r) m
      root_reaches m l e =
          ⊎_elim (λ (d : r ≡ m). absurd (omega (arith, root.kind, ap (kind_at t) d)))
          (⊎_elim (λ (w : ByLeft t fit r m). reaches_fact (suc (p r)) (p r) m (omega arith) guard_inner w.1)
          (λ (w : ByRight t fit r m). absurd (not_both w.0 (ap (λ (f : Fields). is_node f.q) link_fields))))
          (reaches_how t fit r m inside e)

      reaches_root : (m : ℕ) → Reaches t (p r) m → reaches t r m ≡ true
      reaches_root m w = reaches_left t fit r m inside (ap (λ (f : Fields). is_node f.p) link_fields) (fact_reaches guard_inner w)

    link_iff : (m : ℕ) → k m < 64 → (reached_from t (link_root t) m ≡ true) ↔ FromLink t m
    link_iff m l = (
      λ e.
          let w = reached_which t fit (link_root t) m e in
          let v = (and_iff (leb (first_link_root t) w.0) (ltb w.0 (first_agent_root t)) (leb_iff (first_link_root t) w.0) (ltb_iff w.0 (first_agent_root t))).0 w.2 in
          let a : bodies_end t ≤ w.0 = omega (arith, shaped.limits.roots) in
          let b : w.0 < links_end t = omega (arith, shaped.limits.roots) in
          record { root = w.0; first = a; last = b; reaches = root_reaches w.0 a b m l w.3 },
      λ w.
          let r = w.root in
          reached_by t fit (link_root t) r m (inside r w.first w.last)
          (and_both (leb (first_link_root t) r) (ltb r (first_agent_root t)) (le-leb (first_link_root t) r (omega (arith, shaped.limits.roots, w.first)))
          (lt-ltb r (first_agent_root t) (omega (arith, shaped.limits.roots, w.last))))
          (reaches_root r w.first w.last m w.reaches),
    )

    -- REFUSAL 5
    module _ (n : ℕ) (h : n < N) where
      -- q of a key node is a party, or 0
      key_says : (i : ℕ) → k n ≡ i → i < 64 → Says t n (fields_of i).q (q n)
      key_says i e l = subst (λ (x : ℕ). Says t n (fields_of x).q (q n)) e (row_says t n ((node n h).inner (sorted_inner n h (omega arith)))).1

      at_most_two : 33 ≤ k n → k n ≤ 34 → q n ≤ 2
      unfolding row_of expression_rows
      at_most_two a b =
          ⊎_elim (λ (c : k n < 34). key_says 33 (omega arith) (omega arith)) (λ (c : 34 ≤ k n). key_says 34 (omega arith) (omega arith)) (lt_or_le (k n) 34)

      no_third : k n ≡ 35 → q n ≡ 0
      unfolding row_of expression_rows
      no_third e = key_says 35 e (omega arith)

      abbrev process : Bool
      process = reached_from t (process_node t) n

      abbrev link : Bool
      link = reached_from t (link_root t) n

      abbrev Tested : Type 0
      Tested = (FromProcess t n × (q n ≡ 0 → ⊥)) ⊎ (FromLink t n × ((k n ≡ 35) ⊎ (q n ≡ 0)))

      tests_iff : k n < 64 → (((process && not (eqb (q n) 0)) || (link && (eqb (k n) 35 || eqb (q n) 0))) ≡ true) ↔ Tested
      tests_iff l =
          or_iff (process && not (eqb (q n) 0)) (link && (eqb (k n) 35 || eqb (q n) 0))
          (and_iff process (not (eqb (q n) 0)) (process_iff n) (not_iff (eqb (q n) 0) (eqb_iff (q n) 0)))
          (and_iff link (eqb (k n) 35 || eqb (q n) 0) (link_iff n l) (or_iff (eqb (k n) 35) (eqb (q n) 0) (eqb_iff (k n) 35) (eqb_iff (q n) 0)))

      -- a key that passes the tests, and the paper's three cases
      tested_wrong : 33 ≤ k n → k n ≤ 35 → Tested → Wrong t n
      tested_wrong a b =
          ⊎_elim
          (λ (w : FromProcess t n × (q n ≡ 0 → ⊥)).
          let d : k n ≡ 35 → ⊥ = λ e. w.1 (no_third e) in
          Wrong.party a (omega (arith, d)) w.0 w.1)
          (λ (w : FromLink t n × ((k n ≡ 35) ⊎ (q n ≡ 0))). linked w.0 w.1)
        where
          linked : FromLink t n → (k n ≡ 35) ⊎ (q n ≡ 0) → Wrong t n
          linked f =
              ⊎_elim (λ (e : k n ≡ 35). Wrong.environment_linked e f)
              (λ (e : q n ≡ 0).
              ⊎_elim (λ (c : k n < 35). Wrong.no_party a (omega arith) f (λ d. omega arith) (λ d. omega arith))
              (λ (c : 35 ≤ k n). Wrong.environment_linked (omega arith) f) (lt_or_le (k n) 35))

      wrong_tested : Wrong t n → (33 ≤ k n) × (k n ≤ 35) × Tested
      wrong_tested (Wrong.party a b f d) = (a, omega arith, inl (f, d))
      wrong_tested (Wrong.no_party a b f d e) = (a, omega arith, inr (f, inr (omega (arith, at_most_two a b, d, e))))
      wrong_tested (Wrong.environment_linked e f) = (omega arith, omega arith, inr (f, inl e))

      pub wrong_iff : (wrong_key t n ≡ true) ↔ Wrong t n
      unfolding wrong_key
      wrong_iff = (
        λ e.
            let w = (between_iff 33 35 (k n)).0 (and_left (is_key_kind (k n)) _ e) in
            tested_wrong w.0 w.1 ((tests_iff (omega arith)).0 (and_right (is_key_kind (k n)) _ e)),
        λ v.
            let w = wrong_tested v in
            and_both (is_key_kind (k n)) _ ((between_iff 33 35 (k n)).1 (w.0, w.1)) ((tests_iff (omega arith)).1 w.2),
      )

pub ruled : (t : Table) → Ruled t
ruled t = record { limits = within_iff t.sizes; bad = bad_iff t; wrong = wrong_iff t }
