-- What a visit of a node finds, by its kind, from the words of the nodes and definitions that it names.
-- Assumes nothing.
use Prim.Native.Nat.{ℕ, zero, suc, ◌+◌, ◌*◌, ◌≤◌, ◌<◌}
use mathlib.Core.Bool.{Bool, true, false, not, ◌&&◌, ◌||◌}
use mathlib.Core.Path.{◌≡◌, refl, sym, ap, ap₂, ◌∙◌}
use mathlib.Core.Logic.{⊎_elim}
use mathlib.Core.List.{List}
use native.Mathlib.Nat.{zero-mul}
use native.Mathlib.Omega.{arith}
use lib.Dec.{ltb, eqb}
use lib.ListN.{get_or, get_or-eq_default}
use borrow.Author.Tests.{eqb-true, ne_eqb, lt-ltb, le-ltb}
use Rattle.basis.proofs.Tests.{and_left, and_right, cond_cases, lt_or_le}
use Rattle.table.specs.Tables.{Table, kind_at, p_at, q_at, first_root, body_at}
use Rattle.table.proofs.Promises.{body_process}
use Rattle.term.specs.Terms.{Node}
use Rattle.term.specs.Processes.{Process, idle, by_kind, defined, process_at}
use Rattle.term.specs.Choices.{tick_count}
use Rattle.term.specs.Exposure.{can_tick, calls_below}
use Rattle.term.proofs.Counting.{can_tick_lem}
use Rattle.term.proofs.Opened.{sound_lower, node_opened}
use Rattle.accept.specs.Counts.{capped, counts, Capped, seq_counts, counts_of}
use Rattle.accept.specs.Scratch.{pair_at, is_counted, Held}
use Rattle.accept.specs.Calls.{joined_counts, right_hidden, pair_visit, Visits}
use Rattle.accept.specs.declared.Counts.{Counts}
use Rattle.accept.specs.declared.Visit.{Visit}
use Rattle.accept.specs.declared.Visit.TheVariants.{Done, Part, High}
use Rattle.accept.proofs.Caps.{counts_small, counts_idle, counts_tick, counts_act, counts_guarded, counts_call, counts_choice, counts_seq, counts_par}
use Rattle.accept.proofs.Levels.{body_counts}

-- a process cannot tick where its count of ticks is 0
no_tick : (P : Process) → not (can_tick P) ≡ eqb (counts_of P).ticks 0
unfolding counts_of
no_tick P = ap not (can_tick_lem P) ∙ by (tick_count P)
  where
    by : (x : ℕ) → not (ltb 0 x) ≡ eqb (capped x) 0
    by zero = refl
    by (suc x) = ap not (lt-ltb 0 (suc x) (omega arith)) ∙ sym (ne_eqb (capped (suc x)) 0 (λ e. omega arith))

-- what is not exposed does not count
seq_hidden : (x c : Counts) → Capped x → x.ticks ≡ 0 → seq_counts x c ≡ x
unfolding seq_counts
seq_hidden x c h z = λ i. record { actions = a i; ticks = b i }
  where
    a : capped (x.actions + x.ticks * c.actions) ≡ x.actions
    a = rw (z, zero-mul) (omega (arith, h.actions))

    b : capped (x.ticks * c.ticks) ≡ x.ticks
    b = rw (z, zero-mul) (omega arith)

joined_hidden : (k : ℕ) (P : Process) (c : Counts) → right_hidden k (counts_of P) ≡ true → joined_counts k (counts_of P) c ≡ counts_of P
unfolding joined_counts
joined_hidden k P c e =
    let x = counts_of P in
    rw (joined_counts, and_left (eqb k 5) (eqb x.ticks 0) e)
    (seq_hidden x c (counts_small P) (eqb-true x.ticks 0 (and_right (eqb k 5) (eqb x.ticks 0) e)))

module _ {t : Table} {level n : ℕ} {s : List ℕ} (held : Held t level s) (low : n < first_root t) where
  abbrev N : ℕ → Process
  N m = process_at t level m

  abbrev A : ℕ → Bool
  A m = calls_below level (N m)

  abbrev p : ℕ
  p = p_at t n

  abbrev q : ℕ
  q = q_at t n

  abbrev Finds : Visit → Type 0
  Finds v = Visits t level s n v

  abbrev form : ℕ → Process
  form k = get_or (by_kind (defined t level) (process_at t level) n p q) k idle

  opened : (k : ℕ) → kind_at t n ≡ k → N n ≡ form k
  opened k e = node_opened t (defined t level) n k low (sound_lower t held.sound n) e

  -- the nodes that a sequence, choice, guarded or parallel node names are lower, and have their words
  pub lower_nodes : (k : ℕ) → kind_at t n ≡ k → 5 ≤ k → k ≤ 8 → (p < n) × (q < n)
  lower_nodes k e a b = sound_lower t held.sound n (omega arith) (omega arith)

  -- a node without parts
  found : (k : ℕ) (c : Counts) → kind_at t n ≡ k → counts_of (form k) ≡ c → calls_below level (form k) ≡ true → Finds (Done c)
  found k c e f g = (sym (ap counts_of (opened k e) ∙ f), ap (calls_below level) (opened k e) ∙ g)

  pub tick_found : kind_at t n ≡ 1 → Finds (Done (counts 0 1))
  unfolding calls_below
  tick_found e = found 1 (counts 0 1) e counts_tick refl

  pub act_found : 2 ≤ kind_at t n → kind_at t n ≤ 4 → Finds (Done (counts 1 0))
  unfolding calls_below
  act_found a b = by (kind_at t n) refl a b
    where
      act : (k : ℕ) → kind_at t n ≡ k → form k ≡ form 2 → Finds (Done (counts 1 0))
      act k e f = found k (counts 1 0) e (ap counts_of f ∙ counts_act n) (ap (calls_below level) f)

      by : (k : ℕ) → kind_at t n ≡ k → 2 ≤ k → k ≤ 4 → Finds (Done (counts 1 0))
      by zero e h g = absurd (omega arith)
      by (suc zero) e h g = absurd (omega arith)
      by (suc (suc zero)) e h g = act 2 e refl
      by (suc (suc (suc zero))) e h g = act 3 e refl
      by (suc (suc (suc (suc zero)))) e h g = act 4 e refl
      by (suc (suc (suc (suc (suc k))))) e h g = absurd (omega arith)

  pub none_found : (1 ≤ kind_at t n → kind_at t n ≤ 9 → ⊥) → Finds (Done (counts 0 0))
  unfolding calls_below
  none_found f =
      let e : form (kind_at t n) ≡ idle =
      ⊎_elim (λ (h : kind_at t n < 1). let z : kind_at t n ≡ 0 = omega arith in rw z)
      (λ (h : 1 ≤ kind_at t n).
      get_or-eq_default (by_kind (defined t level) (process_at t level) n p q) idle (⊎_elim (λ (g : kind_at t n < 10). absurd (f h (omega arith))) (λ (g : 10 ≤ kind_at t n). g) (lt_or_le (kind_at t n) 10)))
      (lt_or_le (kind_at t n) 1) in
      found (kind_at t n) (counts 0 0) refl (ap counts_of e ∙ counts_idle) (ap (calls_below level) e)

  -- a sequence, a choice or a parallel
  record Joins (k : ℕ) : Type 0 where
    pub lower : (p < n) × (q < n)
    pub counts : joined_counts k (counts_of (N p)) (counts_of (N q)) ≡ counts_of (N n)
    pub calls : A n ≡ (A p && (right_hidden k (counts_of (N p)) || A q))

  joins : (k : ℕ) → kind_at t n ≡ k → 5 ≤ k → k ≤ 8 → joined_counts k (counts_of (N p)) (counts_of (N q)) ≡ counts_of (form k)
      → calls_below level (form k) ≡ (A p && (right_hidden k (counts_of (N p)) || A q)) → Joins k
  joins k e a b f g =
      record {
        lower = lower_nodes k e a b;
        counts = f ∙ sym (ap counts_of (opened k e));
        calls = ap (calls_below level) (opened k e) ∙ g;
      }

  pair_found : (k : ℕ) → Joins k → Finds (pair_visit s k p q)
  unfolding pair_visit
  pair_found k j =
      cond_cases Finds (is_counted s p)
      (λ e.
      let x = held.nodes p (omega (arith, j.lower.0)) e in
      let a = x.calls in
      let f = x.counts in
      let h : right_hidden k (pair_at s p) ≡ right_hidden k (counts_of (N p)) = ap (right_hidden k) f in
      cond_cases Finds (right_hidden k (pair_at s p))
      (λ u.
      (f ∙ sym (joined_hidden k (N p) (counts_of (N q)) (sym h ∙ u)) ∙ j.counts, j.calls ∙ rw (a, sym h ∙ u)))
      (λ u.
      cond_cases Finds (is_counted s q)
      (λ v.
      let y = held.nodes q (omega (arith, j.lower.1)) v in
      (ap₂ (joined_counts k) f y.counts ∙ j.counts, j.calls ∙ rw (a, sym h ∙ u, y.calls)))
      (λ v. (j.lower.1, v, λ z. j.calls ∙ rw (a, sym h ∙ u, z)))))
      (λ e. (j.lower.0, e, λ z. j.calls ∙ rw z))

  pub joined_found : 5 ≤ kind_at t n → kind_at t n ≤ 8 → (kind_at t n ≡ 7 → ⊥) → Finds (pair_visit s (kind_at t n) p q)
  unfolding joined_counts calls_below
  joined_found a b c = by (kind_at t n) refl a b c
    where
      by : (k : ℕ) → kind_at t n ≡ k → 5 ≤ k → k ≤ 8 → (k ≡ 7 → ⊥) → Finds (pair_visit s k p q)
      by zero e a b c = absurd (omega arith)
      by (suc zero) e a b c = absurd (omega arith)
      by (suc (suc zero)) e a b c = absurd (omega arith)
      by (suc (suc (suc zero))) e a b c = absurd (omega arith)
      by (suc (suc (suc (suc zero)))) e a b c = absurd (omega arith)
      by (suc (suc (suc (suc (suc zero))))) e a b c =
          pair_found 5 (joins 5 e a b (counts_seq (N p) (N q) (Node q)) (ap (λ (b : Bool). A p && (b || A q)) (no_tick (N p))))
      by (suc (suc (suc (suc (suc (suc zero)))))) e a b c = pair_found 6 (joins 6 e a b (counts_choice (N p) (N q)) refl)
      by (suc (suc (suc (suc (suc (suc (suc zero))))))) e a b c = absurd (c refl)
      by (suc (suc (suc (suc (suc (suc (suc (suc zero)))))))) e a b c =
          pair_found 8 (joins 8 e a b (counts_par (N p) (Node p) (N q) (Node q)) refl)
      by (suc (suc (suc (suc (suc (suc (suc (suc (suc k))))))))) e a b c = absurd (omega arith)

  -- a guarded node has the counts of its process
  guarded : kind_at t n ≡ 7 → A n ≡ A q
  unfolding calls_below
  guarded e = ap (calls_below level) (opened 7 e)

  pub guarded_found : kind_at t n ≡ 7 → is_counted s q ≡ true → Finds (Done (pair_at s q))
  guarded_found e f =
      let w = (lower_nodes 7 e (omega arith) (omega arith)).1 in
      let x = held.nodes q (omega arith) f in
      (x.counts ∙ sym (ap counts_of (opened 7 e) ∙ counts_guarded p (N q)), guarded e ∙ x.calls)

  pub guarded_part : kind_at t n ≡ 7 → is_counted s q ≡ false → Finds (Part q)
  guarded_part e f = ((lower_nodes 7 e (omega arith) (omega arith)).1, f, λ z. guarded e ∙ z)

  -- a call has those of the definition's body
  pub call_found : kind_at t n ≡ 9 → p < level → Finds (Done (pair_at s (body_at t p)))
  unfolding calls_below
  call_found e h =
      let o = opened 9 e in
      let l = held.low in
      (body_counts held p h (body_process t held.sound p (omega arith)).0 ∙ sym (ap counts_of o ∙ counts_call p (defined t level p)), ap (calls_below level) o ∙ lt-ltb p level h)

  pub high_found : kind_at t n ≡ 9 → level ≤ p → Finds High
  unfolding calls_below
  high_found e h = ap (calls_below level) (opened 9 e) ∙ le-ltb p level h
