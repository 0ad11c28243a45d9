-- Words of nodes: what is stored at a node is there, and the words of the others stay; what that does to the nodes that are counted.
-- Assumes nothing.
use Prim.Native.Nat.{ℕ, ◌+◌, ◌*◌, ◌<◌}
use mathlib.Core.Bool.{Bool, true, false}
use mathlib.Core.Path.{◌≡◌, refl, sym, ap, ◌∙◌}
use mathlib.Core.Logic.{⊎_elim}
use mathlib.Core.List.{List}
use native.Mathlib.Omega.{arith}
use lib.Dec.{leb}
use lib.ListN.{length, get_or, set, length-set}
use lib.Seq.{get_or-set_same, get_or-set_other}
use borrow.Author.Tests.{le-leb, lt-leb}
use Rattle.std.specs.Prelude.{Some, None}
use Rattle.std.specs.Bool.{then_some}
use Rattle.basis.proofs.Tests.{not_both, same_or_other}
use Rattle.table.specs.Tables.{Table, first_root, body_at}
use Rattle.term.specs.Exposure.{calls_below}
use Rattle.term.specs.Processes.{process_at}
use Rattle.accept.specs.Counts.{count_limit, counts_of, Capped}
use Rattle.accept.specs.Scratch.{pair_at, stored, is_counted, back, led, Settled, Held}
use Rattle.accept.specs.declared.Counts.{Counts}
use Rattle.accept.proofs.Caps.{counts_small}

pub stored_length : (s : List ℕ) (n : ℕ) (c : Counts) → length (stored s n c) ≡ length s
stored_length s n c = simp length-set

pub stored_at : (s : List ℕ) (n : ℕ) (c : Counts) → 2 * n + 1 < length s → pair_at (stored s n c) n ≡ c
stored_at s n c h = λ i. record { actions = a i; ticks = t i }
  where
    a : get_or (stored s n c) (2 * n) 0 ≡ c.actions
    a =
        get_or-set_other (set s (2 * n) c.actions) (2 * n + 1) (2 * n) c.ticks 0 (λ e. omega arith) ∙
        get_or-set_same s (2 * n) c.actions 0 (omega arith)

    t : get_or (stored s n c) (2 * n + 1) 0 ≡ c.ticks
    t = get_or-set_same (set s (2 * n) c.actions) (2 * n + 1) c.ticks 0 (rw length-set h)

pub stored_other : (s : List ℕ) (n : ℕ) (c : Counts) (k : ℕ) → (k ≡ n → ⊥) → pair_at (stored s n c) k ≡ pair_at s k
stored_other s n c k d = λ i. record { actions = a i; ticks = t i }
  where
    a : get_or (stored s n c) (2 * k) 0 ≡ get_or s (2 * k) 0
    a =
        get_or-set_other (set s (2 * n) c.actions) (2 * n + 1) (2 * k) c.ticks 0 (λ e. omega arith) ∙
        get_or-set_other s (2 * n) (2 * k) c.actions 0 (λ e. d (omega arith))

    t : get_or (stored s n c) (2 * k + 1) 0 ≡ get_or s (2 * k + 1) 0
    t =
        get_or-set_other (set s (2 * n) c.actions) (2 * n + 1) (2 * k + 1) c.ticks 0 (λ e. d (omega arith)) ∙
        get_or-set_other s (2 * n) (2 * k + 1) c.actions 0 (λ e. omega arith)

pub led_length : (s : List ℕ) (m n : ℕ) → length (led s m n) ≡ length s
led_length s m n = simp length-set

pub led_at : (s : List ℕ) (m n : ℕ) → 2 * m + 1 < length s → get_or (led s m n) (2 * m) 0 ≡ back n
led_at s m n h = get_or-set_same s (2 * m) (back n) 0 (omega arith)

led_other : (s : List ℕ) (m n k : ℕ) → (k ≡ m → ⊥) → pair_at (led s m n) k ≡ pair_at s k
led_other s m n k d = λ i. record { actions = a i; ticks = t i }
  where
    a : get_or (led s m n) (2 * k) 0 ≡ get_or s (2 * k) 0
    a = get_or-set_other s (2 * m) (2 * k) (back n) 0 (λ e. d (omega arith))

    t : get_or (led s m n) (2 * k + 1) 0 ≡ get_or s (2 * k + 1) 0
    t = get_or-set_other s (2 * m) (2 * k + 1) (back n) 0 (λ e. omega arith)

-- what is found of a node's counts, where it is counted and where not
pub found_there : (b : Bool) {x c : Counts} → Some c ≡ then_some b x → (b ≡ true) × (c ≡ x)
found_there true e = (refl, cc)
found_there false e = absurd (cc)

pub not_found : (b : Bool) (x : Counts) → None ≡ then_some b x → b ≡ false
not_found true x e = absurd (cc)
not_found false x e = refl

-- whether a node is counted, by its pair
abbrev pub is_counts : Counts → Bool
is_counts c = leb c.actions count_limit

-- words that keep the pairs of the nodes but n
pub record Others (n : ℕ) (s after : List ℕ) : Type 0 where
  pub long : length after ≡ length s
  pub pairs : (k : ℕ) → (k ≡ n → ⊥) → pair_at after k ≡ pair_at s k

pub stored_others : (s : List ℕ) (n : ℕ) (c : Counts) → Others n s (stored s n c)
stored_others s n c = record { long = stored_length s n c; pairs = stored_other s n c }

pub led_others : (s : List ℕ) (m n : ℕ) → Others m s (led s m n)
led_others s m n = record { long = led_length s m n; pairs = led_other s m n }

module _ {n : ℕ} {s after : List ℕ} (o : Others n s after) where
  pub same_counted : (k : ℕ) → (k ≡ n → ⊥) → is_counted after k ≡ is_counted s k
  same_counted k d = ap is_counts (o.pairs k d)

  -- what is counted stays so, if node n does
  pub kept_counted : (is_counted s n ≡ true → is_counted after n ≡ true) → (k : ℕ) → is_counted s k ≡ true → is_counted after k ≡ true
  kept_counted f k e =
      ⊎_elim (λ (u : k ≡ n). rw u (f (rw u at e))) (λ (u : k ≡ n → ⊥). same_counted k u ∙ e) (same_or_other k n)

  -- the words are held, where node n is settled or is not counted
  pub held_others : {t : Table} {level : ℕ} → Held t level s → (is_counted s n ≡ true → is_counted after n ≡ true)
      → (is_counted after n ≡ true → Settled t level after n) → Held t level after
  held_others {t} {level} held f g =
      record {
        sound = held.sound;
        words = omega (arith, held.words, o.long);
        low = held.low;
        lower = held.lower;
        bodies = λ d l. kept_counted f (body_at t d) (held.bodies d l);
        nodes = λ k l e. ⊎_elim (λ (u : k ≡ n). rw u (g (rw u at e))) (other k l e) (same_or_other k n);
      }
    where
      other : (k : ℕ) → k < first_root t → is_counted after k ≡ true → (k ≡ n → ⊥) → Settled t level after k
      other k l e u =
          let x = held.nodes k l (sym (same_counted k u) ∙ e) in
          record { calls = x.calls; counts = o.pairs k u ∙ x.counts }

pub stored_counted : (s : List ℕ) (n : ℕ) (c : Counts) → 2 * n + 1 < length s → Capped c → is_counted (stored s n c) n ≡ true
stored_counted s n c h x = ap is_counts (stored_at s n c h) ∙ le-leb c.actions count_limit x.actions

pub led_counted : (s : List ℕ) (m n : ℕ) → 2 * m + 1 < length s → is_counted (led s m n) m ≡ false
led_counted s m n h = lt-leb (get_or (led s m n) (2 * m) 0) count_limit (omega (arith, led_at s m n h))

-- no node is counted yet

module _ {t : Table} {level : ℕ} {s : List ℕ} (held : Held t level s) where
  -- room for a node's pair
  pub node_room : (k : ℕ) → k < first_root t → 2 * k + 1 < length s
  node_room k h = omega (arith, held.words)

  pub held_small : (k : ℕ) → k < first_root t → is_counted s k ≡ true → Capped (pair_at s k)
  held_small k h e = rw (held.nodes k h e).counts (counts_small (process_at t level k))

  -- one node more is counted
  pub held_more : (n : ℕ) (c : Counts) → n < first_root t → c ≡ counts_of (process_at t level n) → calls_below level (process_at t level n) ≡ true → Held t level (stored s n c)
  held_more n c h e f =
      let small : Capped c = rw e (counts_small (process_at t level n)) in
      held_others (stored_others s n c) held (λ x. stored_counted s n c (node_room n h) small) (λ x. record { calls = f; counts = stored_at s n c (node_room n h) ∙ e })

  -- a node that is not counted leads back
  pub held_led : (m n : ℕ) → m < first_root t → is_counted s m ≡ false → Held t level (led s m n)
  held_led m n h e = held_others (led_others s m n) held (λ x. absurd (not_both x e)) (λ x. absurd (not_both x (led_counted s m n (node_room m h))))
