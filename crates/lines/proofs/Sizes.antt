-- What is printed fits: `shownBytes` bytes suffice.
-- Assumes nothing.
use Prim.Native.Nat.{ℕ, zero, suc, ◌+◌, ◌-◌, ◌*◌, ◌^◌, ◌<◌, ◌≤◌}
use mathlib.Core.Logic.{⊎_elim}
use mathlib.Core.Path.{◌≡◌, refl}
use mathlib.Core.List.{List, [], ◌∷◌}
use native.Mathlib.Nat.{suc-mul}
use native.Mathlib.Omega.{arith}
use lib.Dec.{eqb, ltb}
use lib.ListN.{length, get_or, length-append}
use Rattle.basis.specs.KeySets.{has}
use Rattle.basis.proofs.Tests.{lt_or_le, cond_cases}
use Rattle.value.specs.Values.{Value}
use Rattle.std.specs.Prelude.{None, Some}
use Rattle.table.specs.Checks.{Check, passes, refuses}
use Rattle.state.specs.declared.Store.{Store}
use Rattle.state.specs.declared.Store.TheVariants.{Environment, Attributes, Entries}
use Rattle.state.specs.Layout.{agent_limit, key_limit, clock_at, agents_at, mark_at, value_at, writer_at, mark_of, word_of, stamp_of, writer_of, value_in, zc_of, zp_of}
use Rattle.state.specs.Entries.{clock_of}
use Rattle.state.specs.Standing.{store_agent}
use Rattle.steps.specs.Runs.{Rehearsal}
use Rattle.machine.specs.declared.Totals.{Totals}
use Rattle.machine.specs.Answers.{totals_of}
use Rattle.lines.specs.Text.{decimal, each_below}
use Rattle.lines.specs.Lines.{value, totals_line, refused_line, clock_line, environment_line, attribute_line, entry_line, pending_line}
use Rattle.lines.specs.Lines.{value_line, key_line, store_lines, member_line, pending_lines, agent_lines, state_lines, shown}
use Rattle.lines.specs.Sizes.{totals_bytes, clock_bytes, environment_bytes, attribute_bytes, entry_bytes, pending_bytes, agent_bytes, shown_bytes}
use Rattle.lines.proofs.Decimal.{decimal_few, value_low, value_high}
use Rattle.lines.proofs.Writing.{line_size}

-- NUMBERS: of 64 bits, words, sums of two, and words as values
count : (n : ℕ) → n < 2 ^ 64 → length (decimal n) ≤ 20
count n h = decimal_few 19 n (omega arith)

word : (n : ℕ) → n < 2 ^ 32 → length (decimal n) ≤ 10
word n h = decimal_few 9 n (omega arith)

sum : (m n : ℕ) → m < 2 ^ 32 → n < 2 ^ 32 → length (decimal (m + n)) ≤ 10
sum m n h k = decimal_few 9 (m + n) (omega arith)

signed : (w : ℕ) → w < 2 ^ 32 → length (value w) ≤ 11
signed w h =
    ⊎_elim (λ (l : w < 2147483648). rw (value_low w l) (omega (arith, word w h)))
    (λ (l : 2147483648 ≤ w). rw (value_high w l h) (omega (arith, decimal_few 9 (4294967295 - w + 1) (omega arith)))) (lt_or_le w 2147483648)

-- LINES. A refusal is all that is printed of it
pub record Counts (t : Totals) : Type 0 where
  pub done : t.done < 2 ^ 32
  pub refused : t.refused < 2 ^ 32
  pub added : t.tally.added < 2 ^ 32
  pub replaced : t.tally.replaced < 2 ^ 32

totals_fit : (t : Totals) → Counts t → length (totals_line t) ≤ totals_bytes
unfolding totals_line
totals_fit t c =
    simp line_size
    (omega (
      arith,
      word t.done c.done,
      word t.refused c.refused,
      sum t.tally.added t.tally.replaced c.added c.replaced,
      word t.tally.added c.added,
      word t.tally.replaced c.replaced,
    ))

pub refusal_fits : (number place : ℕ) → number < 2 ^ 64 → place < 2 ^ 64 → length (refused_line number place) ≤ shown_bytes
unfolding refused_line
refusal_fits number place h l = simp line_size (omega (arith, count number h, count place l))

clock_fits : (clock : ℕ) → clock < 2 ^ 32 → length (clock_line clock) ≤ clock_bytes
unfolding clock_line
clock_fits clock h = simp line_size (omega (arith, word clock h))

pending_fits : (c agent key : ℕ) → agent < agent_limit → key < key_limit → length (pending_line (c ∷ []) agent key) ≤ pending_bytes
unfolding pending_line
pending_fits c agent key h l = simp line_size (omega (arith, word agent (omega arith), word key (omega arith)))

abbrev line_bytes : Store → ℕ
line_bytes Environment = environment_bytes
line_bytes (Attributes a) = attribute_bytes
line_bytes (Entries a) = entry_bytes

-- WHAT IS PRINTED FOR EACH NUMBER below n
each_fits : (text : ℕ → List ℕ) (b n : ℕ) → ((k : ℕ) → k < n → length (text k) ≤ b) → length (each_below text n) ≤ n * b
unfolding each_below
each_fits text b zero h = omega arith
each_fits text b (suc n) h =
    rw (suc-mul n b) (omega (arith, length-append (each_below text n) (text n), each_fits text b n (λ k l. h k (omega arith)), h n (omega arith)))

member_fits : (c agent keys key : ℕ) → agent < agent_limit → key < key_limit → length (member_line (c ∷ []) agent keys key) ≤ pending_bytes
unfolding member_line
member_fits c agent keys key h l =
    cond_cases (λ (t : List ℕ). length t ≤ pending_bytes) (has keys key) (λ e. pending_fits c agent key h l) (λ e. omega arith)

keys_fit : (c agent keys : ℕ) → agent < agent_limit → length (pending_lines (c ∷ []) agent keys) ≤ key_limit * pending_bytes
keys_fit c agent keys h = each_fits (member_line (c ∷ []) agent keys) pending_bytes key_limit (λ k l. member_fits c agent keys k h l)

-- A STATE of words
module _ (s : List ℕ) (words : (i : ℕ) → get_or s i 0 < 2 ^ 32) where
  value_fits : (store : Store) (key w : ℕ) → store_agent store < agent_limit → key < key_limit → w < 2 ^ 32 → length (value_line s store key w) ≤ line_bytes store
  unfolding value_line environment_line attribute_line entry_line
  value_fits Environment key w a k h = simp line_size (omega (arith, word key (omega arith), signed w h))
  value_fits (Attributes x) key w a k h = simp line_size (omega (arith, word x (omega arith), word key (omega arith), signed w h))
  value_fits (Entries x) key w a k h =
      simp line_size
      (omega (
        arith,
        word x (omega arith),
        word key (omega arith),
        signed (word_of s (Entries x) key) (words (value_at (Entries x) key)),
        word (stamp_of s x key) (words (mark_at (Entries x) key)),
        word (writer_of s x key) (words (writer_at x key)),
      ))

  abbrev line_of : Store → ℕ → Value → List ℕ
  line_of store key v = elim v [ None ↦ [] | Some w ↦ value_line s store key w ]

  key_fits : (store : Store) (key : ℕ) → store_agent store < agent_limit → key < key_limit → length (key_line s store key) ≤ line_bytes store
  unfolding key_line value_in
  key_fits store key a k =
      cond_cases (λ (v : Value). length (line_of store key v) ≤ line_bytes store) (ltb key key_limit)
      (λ e. cond_cases (λ (v : Value). length (line_of store key v) ≤ line_bytes store) (eqb (mark_of s store key) 0) (λ f. omega arith)
      (λ f. value_fits store key (get_or s (value_at store key) 0) a k (words (value_at store key)))) (λ e. omega arith)

  store_fits : (store : Store) → store_agent store < agent_limit → length (store_lines s store) ≤ key_limit * line_bytes store
  store_fits store a = each_fits (key_line s store) (line_bytes store) key_limit (λ k h. key_fits store k a h)

  agent_fits : (a : ℕ) → a < agent_limit → length (agent_lines s a) ≤ agent_bytes
  unfolding agent_lines
  agent_fits a h = simp length-append (omega (arith, store_fits (Attributes a) h, store_fits (Entries a) h, keys_fit 99 a (zc_of s a) h, keys_fit 112 a (zp_of s a) h))

  state_fits : get_or s agents_at 0 ≤ agent_limit → totals_bytes + length (state_lines s) ≤ shown_bytes
  unfolding state_lines
  state_fits h =
      simp length-append
      (omega (
        arith,
        clock_fits (clock_of s) (words clock_at),
        store_fits Environment (omega arith),
        each_fits (agent_lines s) agent_bytes (get_or s agents_at 0) (λ a l. agent_fits a (omega arith)),
      ))

  -- what is printed of a done run
  pub done_fits : (t : Totals) → Counts t → get_or s agents_at 0 ≤ agent_limit → length (totals_line t) + length (state_lines s) ≤ shown_bytes
  done_fits t c h = omega (arith, totals_fit t c, state_fits h)

-- WHAT IS PRINTED of a rehearsal: a refusal of 64 bits; totals and words of 32 bits, and at most 32 agents
pub record Bounded (o : Rehearsal) : Type 0 where
  pub refusal : (number place : ℕ) → o.check ≡ refuses number place → (number < 2 ^ 64) × (place < 2 ^ 64)
  pub counts : Counts (totals_of o.progress)
  pub words : (i : ℕ) → get_or o.progress.state i 0 < 2 ^ 32
  pub agents : get_or o.progress.state agents_at 0 ≤ agent_limit

pub shown_fits : (o : Rehearsal) → Bounded o → length (shown o) ≤ shown_bytes
unfolding shown
shown_fits o b = by o.check refl
  where
    by : (c : Check) → o.check ≡ c → length (shown o) ≤ shown_bytes
    by passes e =
        rw (shown, e)
        (omega
        (arith, length-append (totals_line (totals_of o.progress)) (state_lines o.progress.state), done_fits o.progress.state b.words (totals_of o.progress) b.counts b.agents))
    by (refuses number place) e = rw (shown, e) (refusal_fits number place (b.refusal number place e).0 (b.refusal number place e).1)
