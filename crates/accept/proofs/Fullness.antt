-- Refusal 7 by the counts that are held, and the true counts where no node is over-full.
-- Assumes nothing.
use Prim.Native.Nat.{ℕ, ◌+◌, ◌≤◌, ◌<◌}
use mathlib.Core.Bool.{true, false, not}
use mathlib.Core.Path.{◌≡◌, refl, sym, ap, subst, ◌∙◌}
use mathlib.Core.Logic.{⊎_elim}
use mathlib.Core.List.{List}
use native.Mathlib.Omega.{arith}
use lib.Dec.{leb}
use borrow.Author.Tests.{leb-true, le-leb, lt-leb}
use Rattle.std.specs.Prelude.{Ok, Err}
use Rattle.basis.proofs.Tests.{not_both, either, lt_or_le}
use Rattle.basis.proofs.Numbers.{lowest_at}
use Rattle.table.specs.declared.refusals.Refused.TheVariants.{NodeDerivations}
use Rattle.table.specs.Tables.{Table, kind_at, first_root}
use Rattle.table.specs.Nodes.{is_process}
use Rattle.table.proofs.Checks.{refused, line_passes, line_refuses}
use Rattle.table.proofs.Promises.{root_kind}
use Rattle.term.specs.Processes.{Process, process_at, node_process, few}
use Rattle.term.specs.Choices.{action_count, tick_count}
use Rattle.term.specs.Acceptance.{overfull}
use Rattle.term.specs.Accepted.{Checked}
use Rattle.term.proofs.Counting.{few_count}
use Rattle.term.proofs.Exposed.{node_calls}
use Rattle.term.proofs.Acceptance.{no_process, nodes_few}
use Rattle.accept.specs.Counts.{Capped, capped, counts, true_counts, counts_of}
use Rattle.accept.specs.Scratch.{pair_at, stored, is_counted, Held, Counted}
use Rattle.accept.specs.Calls.{Visits, CountsAt, NodesJudged}
use Rattle.accept.specs.declared.Visit.{Visit}
use Rattle.accept.specs.declared.Visit.TheVariants.{Done, Part, High}
use Rattle.accept.specs.declared.Counts.{Counts}
use Rattle.accept.proofs.Caps.{counts_idle, counts_small}
use Rattle.accept.proofs.Cells.{node_room, stored_at, stored_others, stored_counted, kept_counted, held_more}

abbrev sum : Counts → ℕ
sum c = c.actions + c.ticks

-- a sum is over 65,535 where that of its summands, held, is
held_sum : (x y : ℕ) → leb (x + y) 65535 ≡ leb (capped x + capped y) 65535
held_sum x y =
    ⊎_elim (λ (h : 65535 < x + y). lt-leb (x + y) 65535 h ∙ sym (lt-leb (capped x + capped y) 65535 (omega arith)))
    (λ (h : x + y ≤ 65535). le-leb (x + y) 65535 h ∙ sym (le-leb (capped x + capped y) 65535 (omega arith))) (lt_or_le 65535 (x + y))

few_held : (P : Process) → few P ≡ leb (sum (counts_of P)) 65535
unfolding counts_of
few_held P = few_count P ∙ held_sum (action_count P) (tick_count P)

pub count_small : (t : Table) (level n : ℕ) (s : List ℕ) {c : Counts} → Visits t level s n (Done c) → Capped c
count_small t level n s v = rw v.0 (counts_small (process_at t level n))

module _ {t : Table} {s : List ℕ} (held : Held t t.sizes.definitions s) where
  -- no call is above all definitions
  pub none_high : (n : ℕ) → Visits t t.sizes.definitions s n High → ⊥
  unfolding node_process
  none_high n v = not_both (node_calls t held.sound n) v

  -- where the nodes below n are counted, a visit of n finds its counts
  pub is_done : (n : ℕ) → ((k : ℕ) → k < n → is_counted s k ≡ true) → (v : Visit) → Visits t t.sizes.definitions s n v → ((c : Counts) → v ≡ Done c → ⊥) → ⊥
  is_done n f (Done c) x g = g c refl
  is_done n f (Part m) x g = not_both (f m x.0) x.1
  is_done n f High x g = none_high n x

  -- a node whose counts a visit has found is counted now
  pub count_more : {n : ℕ} {c : Counts} → n < first_root t → Visits t t.sizes.definitions s n (Done c) → CountsAt t n s (stored s n c) c
  count_more {n} {c} h v =
      let room = node_room held n h in
      let small = count_small t t.sizes.definitions n s v in
      let others = stored_others s n c in
      record {
        held = held_more held n c h v.0 v.1;
        counted = stored_counted s n c room small;
        pair = sym (stored_at s n c room);
        kept = kept_counted others (λ x. stored_counted s n c room small);
      }

  held_at : (n : ℕ) → n < first_root t → is_counted s n ≡ true → pair_at s n ≡ counts_of (node_process t n)
  unfolding node_process
  held_at n h k = (held.nodes n h k).counts

  overfull_held : (n : ℕ) → n < first_root t → is_counted s n ≡ true → overfull t n ≡ not (leb (sum (pair_at s n)) 65535)
  overfull_held n h k = ⊎_elim process other (either (is_process (kind_at t n)))
    where
      full : not (few (node_process t n)) ≡ not (leb (sum (pair_at s n)) 65535)
      full = ap not (few_held (node_process t n) ∙ sym (ap (λ (c : Counts). leb (sum c) 65535) (held_at n h k)))

      process : is_process (kind_at t n) ≡ true → overfull t n ≡ not (leb (sum (pair_at s n)) 65535)
      process e = rw e full

      other : is_process (kind_at t n) ≡ false → overfull t n ≡ not (leb (sum (pair_at s n)) 65535)
      other e =
          rw e (ap (λ (c : Counts). not (leb (sum c) 65535)) (sym (held_at n h k ∙ ap counts_of (no_process t n e) ∙ counts_idle)))

  -- as code finds it
  pub overfull_yes : (n : ℕ) (c : Counts) → n < first_root t → is_counted s n ≡ true → c ≡ pair_at s n → 65535 < c.actions + c.ticks → overfull t n ≡ true
  overfull_yes n c h k e l = overfull_held n h k ∙ ap (λ (x : Counts). not (leb (sum x) 65535)) (sym e) ∙ ap not (lt-leb (sum c) 65535 l)

  pub overfull_no : (n : ℕ) (c : Counts) → n < first_root t → is_counted s n ≡ true → c ≡ pair_at s n → c.actions + c.ticks ≤ 65535 → overfull t n ≡ false
  overfull_no n c h k e l = overfull_held n h k ∙ ap (λ (x : Counts). not (leb (sum x) 65535)) (sym e) ∙ ap not (le-leb (sum c) 65535 l)

  -- refusal 7, where it is found and where it is not
  pub full_found : (n : ℕ) (words : List ℕ) → n < first_root t → overfull t n ≡ true → ((k : ℕ) → k < n → overfull t k ≡ false)
      → Held t t.sizes.definitions words → NodesJudged t words (Err (NodeDerivations n))
  full_found n words h e f w =
      record {
        check = line_refuses t.sizes.nodes (overfull t) 7 n (omega arith) (sym (lowest_at (overfull t) t.sizes.nodes n (omega arith) e f));
        held = w;
        all = λ g. absurd (refused g);
      }

  pub none_full : ((k : ℕ) → k < first_root t → is_counted s k ≡ true) → ((k : ℕ) → k < first_root t → overfull t k ≡ false) → NodesJudged t s (Ok tt)
  none_full g f =
      record {
        check = line_passes t.sizes.nodes (overfull t) 7 (λ k h. ⊎_elim (λ (l : k < first_root t). f k l) (root k h) (lt_or_le k (first_root t)));
        held = held;
        all = λ e. g;
      }
    where
      -- roots are no processes
      root : (k : ℕ) → k < t.sizes.nodes → first_root t ≤ k → overfull t k ≡ false
      root k h l = rw (root_kind t held.sound k h l)

  -- what is left: the true counts, which are few
  pub counted : ((n : ℕ) → n < first_root t → is_counted s n ≡ true) → Checked t → Counted t s
  counted all c = record { words = held.words; nodes = is; few = λ n h. subst (λ (x : Counts). sum x ≤ 65535) (sym (is n h)) (bound n) }
    where
      bound : (n : ℕ) → sum (true_counts (node_process t n)) ≤ 65535
      bound n = leb-true (sum (true_counts (node_process t n))) 65535 (sym (few_count (node_process t n)) ∙ nodes_few t c n)

      exact : (n : ℕ) → counts_of (node_process t n) ≡ true_counts (node_process t n)
      exact n = unfold counts_of in
          (let b = bound n in
          let a : capped (action_count (node_process t n)) ≡ action_count (node_process t n) = omega arith in
          let k : capped (tick_count (node_process t n)) ≡ tick_count (node_process t n) = omega arith in
          λ i. counts (a i) (k i))

      is : (n : ℕ) → n < first_root t → pair_at s n ≡ true_counts (node_process t n)
      is n h = held_at n h (all n h) ∙ exact n
