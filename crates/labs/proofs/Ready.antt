-- READY: what load leaves of an accepted table is ready, and stands for the initial system;
-- and no other state has a step that is done.
-- Assumes nothing.
use Prim.Native.Nat.{ℕ, ◌+◌, ◌*◌, ◌<◌}
use mathlib.Core.Bool.{Bool, true}
use mathlib.Core.Option.{Option, none}
use mathlib.Core.Path.{◌≡◌, refl, sym, ap, subst, ◌∙◌, fun_ext}
use mathlib.Core.List.{List}
use native.Mathlib.Omega.{arith}
use lib.Dec.{ltb}
use lib.ListN.{get_or}
use lib.Seq.{get_or-drop}
use borrow.Author.Tests.{ltb-true}
use Rattle.basis.specs.KeySets.{has}
use Rattle.basis.proofs.KeySets.{has_nothing}
use Rattle.basis.proofs.Tests.{cond_cases}
use Rattle.table.specs.Checks.{passes, first_of}
use Rattle.table.specs.Tables.{Table, sizes_of, table_of, p_at, start_at}
use Rattle.table.specs.Sound.{Limits}
use Rattle.table.proofs.Promises.{start_process}
use Rattle.term.specs.Acceptance.{table_checks}
use Rattle.term.specs.Accepted.{Acceptable}
use Rattle.term.proofs.Acceptance.{passes_accepted, accepted_passes}
use Rattle.term.specs.Terms.{Node}
use Rattle.state.specs.declared.Store.TheVariants.{Environment, Attributes, Entries}
use Rattle.state.specs.Layout.{key_limit}
use Rattle.state.specs.WellFormed.{Proper, loaded, Words}
use Rattle.state.proofs.Places.{Zc, Zp}
use Rattle.state.proofs.Formed.{proper_facts, facts_proper}
use Rattle.state.proofs.Load.{loaded_clock, loaded_mark, loaded_value, loaded_set, loaded_term}
use Rattle.steps.specs.Steps.{Outcome, load_of, step_of}
use Rattle.steps.proofs.Proper.{load_proper, proper_passes}
use Rattle.steps.proofs.Steps.{state_checks_lem, done_step, load_accepted, accepted_load}
use Rattle.labs.specs.Agents.{Entry}
use Rattle.labs.specs.Roots.{start_of}
use Rattle.labs.specs.Reading.{entry_of, system_of, initial}
use Rattle.labs.specs.Demand2.{Bytes, Same, Ready}
use Rattle.labs.proofs.Expressions.{Narrow}
use Rattle.labs.proofs.Reading.{tuple}

-- the numbers of a ready table and state have 32 bits
pub ready_narrow : (bytes s : List ℕ) → Bytes bytes → Words s → Narrow (table_of bytes) s
ready_narrow bytes s small narrow = record {
  constants = λ n. let i = 4 * n in omega (arith, operand i, operand (i + 1), operand (i + 2), operand (i + 2 + 1));
  words = narrow;
}
  where
    operand : (i : ℕ) → get_or (table_of bytes).operands i 0 < 256
    operand i = rw (get_or-drop (12 + (sizes_of bytes).nodes) bytes i 0) (small (12 + (sizes_of bytes).nodes + i))

module _ (bytes : List ℕ) (small : Bytes bytes) (scratch : ℕ) (pass : first_of (table_checks bytes true scratch) ≡ passes) where
  abbrev t : Table
  t = table_of bytes

  accepted : Acceptable bytes true scratch
  accepted = passes_accepted bytes true scratch pass

  limits : Limits t.sizes
  limits = accepted.table.sound.shaped.limits

  -- a well-formed state of an accepted table is ready
  pub state_ready : (s : List ℕ) → Proper (table_of bytes) s → Ready bytes s scratch
  state_ready s h = record { small = small; state = h; passed = proper_passes bytes true scratch accepted s (proper_facts t limits s h) }

  pub loaded_ready : Ready bytes (loaded (table_of bytes)) scratch
  loaded_ready = state_ready (loaded t) (facts_proper t limits (loaded t) (load_proper bytes true scratch pass))

  no_entry : (a k : ℕ) → entry_of (loaded t) a k ≡ none
  no_entry a k = cond_cases (λ (o : Option Entry). o ≡ none) (ltb k key_limit) (λ e. rw (loaded_mark t (Entries a) k (ltb-true k key_limit e))) (λ e. refl)

  -- the paper's arithmetic of roots and the table's agree
  start_root : (a : ℕ) → start_at t a ≡ start_of t a
  start_root a = ap (λ (n : ℕ). p_at t n) (omega (arith, limits.roots))

  pub loaded_initial : Same (table_of bytes).sizes.agents (system_of (loaded (table_of bytes))) (initial (table_of bytes))
  loaded_initial = record {
    environment_same = fun_ext λ k. loaded_value t Environment k;
    clock_same = loaded_clock t;
    agents_same = λ a l. tuple (fun_ext λ k. loaded_value t (Attributes a) k) (fun_ext λ k. no_entry a k)
        (loaded_term t limits (start_process t accepted.table.sound) a l ∙ ap Node (start_root a))
        (fun_ext λ k. ap (λ (w : ℕ). has w k) (loaded_set t Zc a) ∙ has_nothing k) (fun_ext λ k. ap (λ (w : ℕ). has w k) (loaded_set t Zp a) ∙ has_nothing k);
  }

-- a step is done of a ready state only
pub done_ready : (bytes s : List ℕ) (scratch kind x number : ℕ) → Bytes bytes → Words s →
    (step_of bytes s scratch kind x number).check ≡ passes → Ready bytes s scratch
done_ready bytes s scratch kind x number small narrow e =
    let d = done_step bytes s scratch kind x number e in
    record {
      small = small;
      state = record { whole = d.whole; small = narrow; formed = d.formed };
      passed = (state_checks_lem bytes s scratch).1 (d.accepted, d.formed);
    }

-- whatever words were lent, load leaves a ready state, of the initial system
module _ (bytes lent : List ℕ) (scratch : ℕ) (small : Bytes bytes) (e : (load_of bytes lent scratch).check ≡ passes) where
  by_load : (P : List ℕ → Type 0) → (first_of (table_checks bytes true scratch) ≡ passes → P (loaded (table_of bytes))) → P (load_of bytes lent scratch).state
  by_load P h =
      let a = load_accepted bytes lent scratch e in
      let p : Acceptable bytes true scratch = subst (λ (b : Bool). Acceptable bytes b scratch) a.fit a in
      subst (λ (o : Outcome). P o.state) (sym (accepted_load bytes lent scratch a)) (h (accepted_passes bytes true scratch p))

  pub load_ready : Ready bytes (load_of bytes lent scratch).state scratch
  load_ready = by_load (λ s. Ready bytes s scratch) (loaded_ready bytes small scratch)

  pub load_initial : Same (table_of bytes).sizes.agents (system_of (load_of bytes lent scratch).state) (initial (table_of bytes))
  load_initial = by_load (λ s. Same (table_of bytes).sizes.agents (system_of s) (initial (table_of bytes))) (loaded_initial bytes small scratch)
