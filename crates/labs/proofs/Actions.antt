-- ACTIONS AND GUARDS: what an action assigns by its kind, when a derivation's guards hold, and which keys it has an agent confirm.
-- Assumes nothing.
use Prim.Native.Nat.{ℕ, zero, suc, ◌-◌, ◌≤◌}
use mathlib.Core.Bool.{Bool, true, false, cond, ◌&&◌, ◌||◌}
use mathlib.Core.Path.{◌≡◌, refl, sym, ap, ap₂, ◌∙◌}
use mathlib.Core.List.{List, [], ◌∷◌}
use mathlib.Core.Logic.{◌↔◌}
use mathlib.Core.Option.{Option, none, some}
use native.Mathlib.Omega.{arith}
use lib.Dec.{eqb, ltb, eqb-suc-zero}
use lib.ListN.{get_or}
use borrow.Author.Tests.{lt-ltb}
use Rattle.table.specs.Tables.{Table, kind_at, p_at, q_at}
use Rattle.table.specs.Sound.{Sound}
use Rattle.table.specs.Sound.{LowerExpression}
use Rattle.table.proofs.Promises.{attribute_set_operands, stigmergy_set_operands, environment_set_operands}
use Rattle.term.specs.declared.Label.{Label}
use Rattle.term.specs.declared.Label.TheVariants.{Ticking, Acting}
use Rattle.term.specs.Processes.{Derivation}
use Rattle.term.specs.Accepted.{ActionNode, GuardNode, Labelled}
use Rattle.term.proofs.Each.{Each}
use Rattle.term.proofs.Inside.{Inside}
use Rattle.state.specs.declared.Store.TheVariants.{Entries}
use Rattle.state.specs.Layout.{key_limit, word_of, stamp_of, writer_of}
use Rattle.state.specs.Evaluation.{holds}
use Rattle.steps.specs.Acts.{all_hold, guards_read, label_reads, to_confirm}
use Rattle.labs.specs.Agents.{Entry, Keys}
use Rattle.labs.specs.Expressions.{expr_of, K⟦◌⟧}
use Rattle.labs.specs.Processes.{Variable, attribute, stigmergy, environment, assign, action_of}
use Rattle.labs.specs.Systems.{present, known, Await, guard_keys}
use Rattle.labs.specs.Reading.{entry_of, agent_of, system_of}
use Rattle.labs.proofs.Expressions.{and_says, Narrow, guard_holds}
use Rattle.labs.proofs.Keys.{expression_keys, guard_keys_lem}

-- TABLE 14, by kind
module _ (t : Table) (n : ℕ) where
  abbrev variables : List Variable
  variables = attribute (p_at t n) ∷ stigmergy (p_at t n) ∷ environment (p_at t n) ∷ []

  assigned : (k : ℕ) → kind_at t n ≡ k → action_of t n ≡ assign (get_or variables (k - 2) (environment (p_at t n))) (expr_of t (q_at t n))
  assigned k e = ap (λ (j : ℕ). assign (get_or variables (j - 2) (environment (p_at t n))) (expr_of t (q_at t n))) e

  pub attribute_action : kind_at t n ≡ 2 → action_of t n ≡ assign (attribute (p_at t n)) (expr_of t (q_at t n))
  attribute_action e = assigned 2 e

  pub stigmergy_action : kind_at t n ≡ 3 → action_of t n ≡ assign (stigmergy (p_at t n)) (expr_of t (q_at t n))
  stigmergy_action e = assigned 3 e

  pub environment_action : kind_at t n ≡ 4 → action_of t n ≡ assign (environment (p_at t n)) (expr_of t (q_at t n))
  environment_action e = assigned 4 e

-- an action of any kind names an expression
pub action_expression : (t : Table) → Sound t → (n : ℕ) → ActionNode t n → LowerExpression t n (q_at t n)
action_expression t sound n h = by (kind_at t n) refl h.1 h.2
  where
    by : (k : ℕ) → kind_at t n ≡ k → 2 ≤ k → k ≤ 4 → LowerExpression t n (q_at t n)
    by zero e a b = absurd (omega arith)
    by (suc zero) e a b = absurd (omega arith)
    by (suc (suc zero)) e a b = (attribute_set_operands t sound n e).1
    by (suc (suc (suc zero))) e a b = (stigmergy_set_operands t sound n e).1
    by (suc (suc (suc (suc zero)))) e a b = (environment_set_operands t sound n e).1
    by (suc (suc (suc (suc (suc k))))) e a b = absurd (omega arith)

-- AWAIT: all guards of a derivation hold
pub guards_await : (t : Table) (s : List ℕ) → Narrow t s → (x : ℕ) (g : List ℕ) → (all_hold t s x g ≡ true) ↔ Await t (system_of s).E (agent_of s x) g
guards_await t s narrow x [] = (λ e. tt, λ h. refl)
guards_await t s narrow x (b ∷ g) = and_says (holds t s x x b) (all_hold t s x g) (guard_holds t s narrow x x b) (guards_await t s narrow x g)

-- the keys of an action's expression; a tick has none
abbrev pub label_keys : Table → Label → Keys
label_keys t Ticking = λ k. false
label_keys t (Acting n) = K⟦ expr_of t (q_at t n) ⟧

-- what has an entry
pub present_entry : (s : List ℕ) (x k : ℕ) → present (entry_of s x k) ≡ (ltb k key_limit && ltb 0 (stamp_of s x k))
present_entry s x k = by (ltb k key_limit) (stamp_of s x k)
  where
    by : (b : Bool) (m : ℕ) → present (cond b (cond {A = Option Entry} (eqb m 0) none (some (record { value = word_of s (Entries x) k; time = m; writer = writer_of s x k }))) none) ≡ (b && ltb 0 m)
    by true zero = refl
    by true (suc m) = rw (eqb-suc-zero m, lt-ltb 0 (suc m) (omega arith))
    by false m = refl

module _ (t : Table) (sound : Sound t) (s : List ℕ) (x : ℕ) where
  pub guards_read_lem : (g : List ℕ) → Each (GuardNode t) g → (k : ℕ) → guards_read t g k ≡ guard_keys t g k
  guards_read_lem [] e k = refl
  guards_read_lem (b ∷ g) e k = ap₂ (λ c d. c || d) (guard_keys_lem t sound b k e.0.1) (guards_read_lem g e.1 k)

  pub label_reads_lem : (l : Label) → Labelled t l → (k : ℕ) → label_reads t l k ≡ label_keys t l k
  label_reads_lem Ticking h k = refl
  label_reads_lem (Acting n) h k = expression_keys t sound (q_at t n) k (action_expression t sound n h).1

  -- what Zc gains: of the keys of the expression and of the guards those that have an entry
  pub keys_to_confirm : (d : Derivation) → Inside t d → (k : ℕ)
      → (ltb k key_limit && to_confirm t s x d k) ≡ (known (agent_of s x) (label_keys t d.label) k || known (agent_of s x) (guard_keys t d.guards) k)
  keys_to_confirm d i k =
      ap₂ (λ a b. ltb k key_limit && ((a || b) && ltb 0 (stamp_of s x k))) (guards_read_lem d.guards i.guards k) (label_reads_lem d.label i.label k)
      ∙ shared (ltb k key_limit) (guard_keys t d.guards k) (label_keys t d.label k) (ltb 0 (stamp_of s x k))
      ∙ ap (λ e. (label_keys t d.label k && e) || (guard_keys t d.guards k && e)) (sym (present_entry s x k))
    where
      shared : (a b c e : Bool) → (a && ((b || c) && e)) ≡ ((c && (a && e)) || (b && (a && e)))
      shared true true true true = refl
      shared true true true false = refl
      shared true true false e = refl
      shared true false true true = refl
      shared true false true false = refl
      shared true false false e = refl
      shared false true true e = refl
      shared false true false e = refl
      shared false false true e = refl
      shared false false false e = refl
