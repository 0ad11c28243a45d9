-- DEMAND 2: a step is done exactly when the rules and the limits allow it, and leaves what they give.
-- Assumes nothing.
use Prim.Native.Nat.{ℕ, zero, suc, ◌<◌}
use mathlib.Core.Bool.{true, false}
use mathlib.Core.Logic.{◌↔◌}
use mathlib.Core.Path.{◌≡◌, refl, sym, ap, subst, ◌∙◌}
use mathlib.Core.List.{List, []}
use native.Mathlib.Omega.{arith}
use Rattle.basis.specs.KeySets.{has}
use Rattle.basis.proofs.Lists.{nth_in, nth_is}
use Rattle.table.specs.Checks.{passes, first_of}
use Rattle.table.specs.Tables.{Table, table_of}
use Rattle.table.specs.Sound.{Limits}
use Rattle.term.specs.declared.Label.TheVariants.{Ticking}
use Rattle.term.specs.Accepted.{Acceptable, Checked}
use Rattle.term.specs.Processes.{Derivation, derivation}
use Rattle.term.specs.Terms.{Idle}
use Rattle.term.proofs.Subterms.{few_part, few_all}
use Rattle.state.specs.declared.Store.{Store}
use Rattle.state.specs.declared.Store.TheVariants.{Environment, Attributes, Entries}
use Rattle.state.specs.Layout.{is_whole, key_limit, stamp_of, writer_of, term_in, value_in}
use Rattle.state.specs.WellFormed.{Proper}
use Rattle.state.specs.Standing.{HasBlocks}
use Rattle.state.proofs.Places.{KeySet, Zc, Zp, Waits}
use Rattle.state.specs.Entries.{clock_of}
use Rattle.state.proofs.Frames.{word_at}
use Rattle.state.specs.Formed.{WellFormed, ProperFacts, There}
use Rattle.state.proofs.Formed.{sets_of, proper_facts, facts_proper}
use Rattle.state.proofs.Exact.{show_exact}
use Rattle.steps.specs.Acts.{choices, chosen, acted}
use Rattle.steps.specs.declared.Tally.{Tally}
use Rattle.steps.specs.Steps.{Outcome, done, tally_of, after, own_checks, step_of}
use Rattle.steps.specs.Refusals.{InRange}
use Rattle.steps.proofs.Steps.{Done, act_able, state_checks_lem, step_in_lem, done_step, step_done}
use Rattle.steps.proofs.Proper.{step_checked}
use Rattle.steps.proofs.Steps.{propagates as may-propagate, confirms as may-confirm}
use Rattle.labs.specs.Agents.{Agent, Interface, System}
use Rattle.labs.specs.Expressions.{value_in as value_of_entry}
use Rattle.labs.specs.Reading.{agent_of, system_of}
use Rattle.labs.specs.Demand2.{Allowed, act, propagate, confirm, Same, Ready, Demand2}
use Rattle.labs.proofs.Moves.{trees_listed}
use Rattle.labs.proofs.Expressions.{Narrow, entry_value, link_holds_lem}
use Rattle.labs.proofs.Reading.{time_in, entry_stamp, writer_in, entry_writer}
use Rattle.labs.proofs.Ready.{ready_narrow, done_ready, load_ready, load_initial}
use Rattle.labs.proofs.Acting.{act_exactly}
use Rattle.labs.proofs.Offers.{sent_passed, passed_sent}
use Rattle.labs.proofs.Run.{run_is}

same_refl : {agents : ℕ} {S : System} → Same agents S S
same_refl = record { environment_same = refl; clock_same = refl; agents_same = λ a l. refl }

module _ (bytes s : List ℕ) (scratch : ℕ) (ready : Ready bytes s scratch) where
  abbrev t : Table
  t = table_of bytes

  abbrev A : ℕ
  A = t.sizes.agents

  accepted : Acceptable bytes (is_whole s) scratch
  accepted = ((state_checks_lem bytes s scratch).0 ready.passed).0

  checked : Checked t
  checked = accepted.table

  limits : Limits t.sizes
  limits = checked.sound.shaped.limits

  formed : WellFormed t s
  formed = (proper_facts t limits s ready.state).formed

  room : HasBlocks s
  room = omega (arith, ready.state.whole)

  narrow : Narrow t s
  narrow = ready_narrow bytes s ready.small ready.state.small

  key : (k : ℕ) → k < t.sizes.stigmergy → k < key_limit
  key k l = omega (arith, limits.stigmergy)

  pending : (z : KeySet) (x k : ℕ) → x < A → k < t.sizes.stigmergy → has (word_at s (Waits z x)) k ≡ true → 0 < stamp_of s x k
  pending z x k l i h = (sets_of t (clock_of s) s formed.formed z x l).entered k (key k i) h

  -- A DONE STEP IS ALLOWED
  after_allowed : (kind x number : ℕ) → Done bytes s scratch kind x number →
      Allowed t (system_of s) (system_of (after t s kind x number)) kind x number (tally_of t s kind x number)
  after_allowed zero x c d =
      let a = (act_able t s x c).0 d.own in
      let e = nth_in (choices t s x) c (derivation Ticking [] Idle) a.there in
      let p = (act_exactly t checked s narrow room formed x d.range.agent_below c (chosen t s x c) e (system_of (after t s zero x c))).1 (a, same_refl) in
      act p.0 e (λ P m. few_part t m p.1) p.2 p.3
  after_allowed (suc zero) x k d =
      let l = d.range.key_below (omega arith) in
      let h = (may-propagate t s x k).0 d.own in
      propagate l (sent_passed t limits s narrow x k A room limits.agents d.range.agent_below (key k l) (pending Zp x k d.range.agent_below l h) false h)
  after_allowed (suc (suc zero)) x k d =
      let l = d.range.key_below (omega arith) in
      let h = (may-confirm t s x k).0 d.own in
      confirm l (sent_passed t limits s narrow x k A room limits.agents d.range.agent_below (key k l) (pending Zc x k d.range.agent_below l h) true h)
  after_allowed (suc (suc (suc kind))) x k d = absurd (omega (arith, d.range.kind_below))

  allowed : (s' : List ℕ) (kind x number : ℕ) (counted : Tally) → step_of bytes s scratch kind x number ≡ done counted s' → Allowed t (system_of s) (system_of s') kind x number counted
  allowed s' kind x number counted e =
      let d = done_step bytes s scratch kind x number (ap (λ (o : Outcome). o.check) e) in
      let f : done (tally_of t s kind x number) (after t s kind x number) ≡ done counted s' = sym (step_done bytes s scratch kind x number d) ∙ e in
      subst (λ (o : Outcome). Allowed t (system_of s) (system_of o.state) kind x number o.tally) f (after_allowed kind x number d)

  -- AND WHAT IS ALLOWED IS DONE
  abbrev Made : ℕ → ℕ → ℕ → Tally → System → Type 0
  Made kind x number counted S' = (s' : List ℕ) × (step_of bytes s scratch kind x number ≡ done counted s') × Same A S' (system_of s')

  made : (kind x number : ℕ) (counted : Tally) (S' : System) → InRange t kind x number → first_of (own_checks t s kind x number) ≡ passes →
      counted ≡ tally_of t s kind x number → Same A S' (system_of (after t s kind x number)) → Made kind x number counted S'
  made kind x number counted S' r o e h = (
    after t s kind x number,
    step_done bytes s scratch kind x number (record { accepted = accepted; whole = ready.state.whole; formed = ready.state.formed; range = r; own = o })
        ∙ ap (λ (n : Tally). done n (after t s kind x number)) (sym e),
    h,
  )

  in_range_lem : (kind x k : ℕ) → kind < 3 → x < A → k < t.sizes.stigmergy → InRange t kind x k
  in_range_lem kind x k l h i = record { kind_below = l; agent_below = h; key_below = λ p. i }

  every : (kind x number : ℕ) (counted : Tally) (S' : System) → Allowed t (system_of s) S' kind x number counted → Made kind x number counted S'
  every kind x number counted S' (act {d = d} a e all_few_lem clock short) =
      let w = (act_exactly t checked s narrow room formed x a.there number d e S').0 (a, few_all t (term_in s x) all_few_lem, clock, short) in
      let i : d ≡ chosen t s x number = sym (nth_is (choices t s x) number (derivation Ticking [] Idle) d e).1 in
      made 0 x number counted S' (record { kind_below = omega arith; agent_below = a.there; key_below = λ h. absurd (omega arith) }) ((act_able t s x number).1 w.0) refl
      (subst (λ (o : Derivation). Same A S' (system_of (acted t s x o))) i w.1)
  every kind x k counted S' (propagate l p) =
      let w = passed_sent t limits s narrow x k A room limits.agents (key k l) false (pending Zp x k p.there l) p in
      made 1 x k counted S' (in_range_lem 1 x k (omega arith) p.there l) ((may-propagate t s x k).1 w.0) w.1 w.2
  every kind x k counted S' (confirm l p) =
      let w = passed_sent t limits s narrow x k A room limits.agents (key k l) true (pending Zc x k p.there l) p in
      made 2 x k counted S' (in_range_lem 2 x k (omega arith) p.there l) ((may-confirm t s x k).1 w.0) w.1 w.2

  -- ONE STATE FOR A SYSTEM
  module _ (u v : List ℕ) (first : Proper t u) (second : Proper t v) (same : Same A (system_of u) (system_of v)) where
    agent : (a : ℕ) → a < A → agent_of u a ≡ agent_of v a
    agent a l = same.agents_same a l

    values : (store : Store) → There t store → (k : ℕ) → value_in u store k ≡ value_in v store k
    values Environment h k = ap (λ (E : Interface). E k) same.environment_same
    values (Attributes a) h k = ap (λ (b : Agent). b.I k) (agent a h)
    values (Entries a) h k = sym (entry_value u a k) ∙ ap (λ (b : Agent). value_of_entry (b.L k)) (agent a h) ∙ entry_value v a k

    sets : (z : KeySet) (a : ℕ) → a < A → (k : ℕ) → has (word_at u (Waits z a)) k ≡ has (word_at v (Waits z a)) k
    sets Zc a l k = ap (λ (b : Agent). b.Zc k) (agent a l)
    sets Zp a l k = ap (λ (b : Agent). b.Zp k) (agent a l)

    stamp : (a : ℕ) → a < A → (k : ℕ) → k < key_limit → stamp_of u a k ≡ stamp_of v a k
    stamp a h k l = sym (entry_stamp u a k l) ∙ ap (λ (b : Agent). time_in (b.L k)) (agent a h) ∙ entry_stamp v a k l

    writer : (a : ℕ) → a < A → (k : ℕ) → k < key_limit → 0 < stamp_of u a k → writer_of u a k ≡ writer_of v a k
    writer a h k l pos = sym (entry_writer u a k l pos) ∙ ap (λ (b : Agent). writer_in (b.L k)) (agent a h) ∙ entry_writer v a k l (omega (arith, stamp a h k l))

    one : u ≡ v
    one = show_exact t u v (proper_facts t limits u first).formed (proper_facts t limits v second).formed
        (record {
          clock = same.clock_same;
          values = λ store h k l. values store h k;
          stamps = stamp;
          writers = writer;
          sets = λ z a h k l. sets z a h k;
          terms = λ a h. ap (λ (b : Agent). b.P) (agent a h);
        }) first.whole second.whole

  -- A DONE STEP LEAVES A WELL-FORMED STATE
  kept : (s' : List ℕ) (kind x number : ℕ) (counted : Tally) → step_of bytes s scratch kind x number ≡ done counted s' → Proper t s'
  kept s' kind x number counted e =
      let f = ap (λ (o : Outcome). o.state) (sym (step_in_lem bytes s scratch kind x number ready.passed) ∙ e) in
      facts_proper t limits s' (subst (ProperFacts t) f (step_checked bytes ready.small s ready.state.small scratch ready.passed kind x number))

  exactly : (s' : List ℕ) (kind x number : ℕ) (counted : Tally) →
      (step_of bytes s scratch kind x number ≡ done counted s') ↔ (Proper t s' × Allowed t (system_of s) (system_of s') kind x number counted)
  exactly s' kind x number counted = (
    λ e. (kept s' kind x number counted e, allowed s' kind x number counted e),
    λ h. let w = every kind x number counted (system_of s') h.1 in
        w.1 ∙ ap (done counted) (sym (one s' w.0 h.0 (kept w.0 kind x number counted w.1) w.2)),
  )

pub demand_2 : Demand2
demand_2 = record {
  ready = done_ready;
  loads = λ bytes lent scratch small e. load_ready bytes lent scratch small e;
  begins = λ bytes lent scratch small e. load_initial bytes lent scratch small e;
  exactly = λ bytes s s' scratch kind x number counted r. exactly bytes s scratch r s' kind x number counted;
  every = λ bytes s scratch kind x number counted r S' h. every bytes s scratch r kind x number counted S' h;
  one = λ bytes s s' scratch r state same. one bytes s scratch r s s' r.state state same;
  link = λ bytes s scratch k x y r hk hx hy. link_holds_lem (table_of bytes) s (narrow bytes s scratch r) x y (limits bytes s scratch r) k;
  transitions = λ bytes s scratch x r l. trees_listed (table_of bytes) (checked bytes s scratch r) (agent_of s x).P;
  runs = run_is;
}
