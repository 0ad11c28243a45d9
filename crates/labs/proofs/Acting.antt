-- TABLES 7, 15 AND 16: an act on words is the rules' act on the system that the words stand for.
-- Assumes nothing.
use Prim.Native.Nat.{ℕ, zero, suc, ◌<◌, ◌≤◌}
use mathlib.Core.Bool.{Bool, true, false, cond, ◌&&◌, ◌||◌, and-false}
use mathlib.Core.Logic.{⊎_elim, ◌↔◌}
use mathlib.Core.Option.{some}
use mathlib.Core.Path.{◌≡◌, refl, sym, ap, subst, ◌∙◌, fun_ext}
use mathlib.Core.List.{List, []}
use native.Mathlib.Omega.{arith}
use native.Mathlib.Numerals.{add-one}
use lib.Dec.{eqb}
use lib.ListN.{length, get_elem?, set, length-set}
use borrow.Author.Tests.{eqb-true, eq-eqb}
use Rattle.basis.specs.KeySets.{has, plus_all}
use Rattle.basis.proofs.KeySets.{has_plus_all, has_nothing, nothing_zero}
use Rattle.basis.proofs.Tests.{not_both, same_test, and_left, and_both, same_or_other}
use Rattle.basis.proofs.Lists.{nth_in, nth_is}
use Rattle.value.specs.Values.{Value}
use Rattle.std.specs.Prelude.{None, Some}
use Rattle.table.specs.Tables.{Table, kind_at, p_at, q_at}
use Rattle.term.specs.declared.Label.{Label}
use Rattle.term.specs.declared.Label.TheVariants.{Ticking, Acting}
use Rattle.term.specs.Terms.{Term, Idle, words}
use Rattle.term.specs.Processes.{Derivation, derivation, all_few}
use Rattle.term.specs.Accepted.{ActionNode, Labelled}
use Rattle.term.specs.Accepted.{Checked}
use Rattle.term.proofs.Words.{Low, over_low}
use Rattle.term.proofs.Inside.{Inside as InsideTable, derivation_inside}
use Rattle.state.specs.declared.Store.{Store}
use Rattle.state.specs.declared.Store.TheVariants.{Environment, Attributes, Entries}
use Rattle.state.specs.Layout.{clock_at, zp_at, key_limit, residual_words, zc_of, zp_of, term_in, put, add_key}
use Rattle.state.specs.declared.Entry.{Entry as Stored}
use Rattle.state.specs.Entries.{entry as stored, put_entry, clock_of, next_stamp}
use Rattle.state.specs.Standing.{HasBlocks}
use Rattle.state.proofs.Places.{Place, Zc, Zp, Clock, Mark, Word, Writer, Waits, Length, Residual, Inside, place_kind, store_kind, store_agent, same, same_not}
use Rattle.state.proofs.Places.{place_agent as owner_of}
use Rattle.state.proofs.Frames.{SameAt, set_other, set_here, value_same, term_same, put_length, put_other, put_value_in, put_entry_length, put_entry_other, add_length, add_other}
use Rattle.state.specs.Formed.{WellFormed}
use Rattle.steps.specs.Acts.{is_absent, word_in, all_hold, value_for, lacks_value, writes_entry, choices, chosen, to_confirm, store_of, set_key, acted}
use Rattle.steps.proofs.Steps.{Able}
use Rattle.steps.proofs.Acts.{action_key, store_attribute, store_environment, set_tick, set_value, set_entry, set_length, acted_length, acted_other, acted_zc, acted_term}
use Rattle.labs.specs.Agents.{⟨◌⸴◌⸴◌⸴◌⸴◌⟩, Agent, Interface, Keys, System, ◌⟦◌≔◌⟧, ◌∪｛◌｝, ◌∪◌}
use Rattle.labs.specs.Expressions.{Expr, E⟦◌⟧◌⇓◌, expr_of}
use Rattle.labs.specs.Processes.{Variable, attribute, stigmergy, environment}
use Rattle.labs.specs.Systems.{Settled, known, Will, ε, ◌▹◌, Wills, SKIP, ATTR, LSTIG, ENV, alone, Await, guard_keys, Acts, EPSILON, EVAL-I, EVAL-L, EVAL-E, Acted}
use Rattle.labs.specs.Reading.{agent_of, system_of}
use Rattle.labs.specs.Demand2.{Same}
use Rattle.labs.proofs.Moves.{Derivable, moves_in, moves_chosen}
use Rattle.labs.proofs.Expressions.{Narrow, expression_value}
use Rattle.labs.proofs.Actions.{attribute_action, stigmergy_action, environment_action, guards_await, label_keys, keys_to_confirm}
use Rattle.labs.proofs.Reading.{tuple, ISame, LSame, ZcSame, ZpSame, agent_same, entry, time_in, entry_stamp, put_agent, add_zp_agent}
use Rattle.labs.proofs.Passing.{inserted}
use Rattle.labs.proofs.Willing.{will_of, wills_will, wills_derivable, wills_settled, acted_unique, acted_same}

-- a place of agent y, and a place that is not
apart : (p q : Place) (y : ℕ) → 0 < place_kind p → owner_of p ≡ y → (0 < place_kind q → owner_of q ≡ y → ⊥) → same p q ≡ false
apart p q y k o f = same_not p q (λ (i : p ≡ q). f (subst (λ (r : Place). 0 < place_kind r) i k) (sym (ap (λ (r : Place). owner_of r) i) ∙ o))

-- A PAIR IS PUT: agents without that store stay
put_agents : (store : Store) (k v m : ℕ) (s : List ℕ) → k < key_limit → (y : ℕ) → (0 < store_kind store → store_agent store ≡ y → ⊥) → agent_of (put store k v m s) y ≡ agent_of s y
put_agents store k v m s key y f =
    agent_same (put store k v m s) s y (put_length store k v m s)
    (λ p h b o. put_other store k v m s key p h (apart p (Mark store k) y b o f) (apart p (Word store k) y b o f))

-- the same key of the same store
here : (j k a : ℕ) → (eqb j k && eqb a a) ≡ eqb k j
here j k a =
    same_test (eqb j k && eqb a a) (eqb k j) (λ e. eq-eqb k j (sym (eqb-true j k (and_left (eqb j k) (eqb a a) e))))
    (λ e. and_both (eqb j k) (eqb a a) (eq-eqb j k (sym (eqb-true k j e))) (eq-eqb a a refl))

module _ (k v : ℕ) (s : List ℕ) (key : k < key_limit) (room : HasBlocks s) where
  put_environment : (system_of (put Environment k v 1 s)).E ≡ ((system_of s).E ⟦ k ≔ Some v ⟧)
  put_environment = fun_ext λ j. put_value_in Environment k v 1 s key room (omega arith) (omega arith) Environment j ∙ ap (λ (b : Bool). cond b (Some v) ((system_of s).E j)) (here j k 0)

  put_attribute : (x : ℕ) → x < 32
      → agent_of (put (Attributes x) k v 1 s) x ≡ ⟨ (agent_of s x).I ⟦ k ≔ Some v ⟧ ⸴ (agent_of s x).L ⸴ (agent_of s x).P ⸴ (agent_of s x).Zc ⸴ (agent_of s x).Zp ⟩
  put_attribute x there = tuple
      (fun_ext λ j. put_value_in (Attributes x) k v 1 s key room there (omega arith) (Attributes x) j ∙ ap (λ (b : Bool). cond b (Some v) ((agent_of s x).I j)) (here j k x))
      (LSame after s x (λ j l. other (Mark (Entries x) j) l (rw and-false) refl) (λ j l. other (Word (Entries x) j) l refl (rw and-false)) (λ j l. other (Writer x j) l refl refl))
      (term_same after s x (put_length (Attributes x) k v 1 s) (other (Length x) tt refl refl) (λ i l. other (Residual x i) l refl refl))
      (ZcSame after s x (other (Waits Zc x) tt refl refl))
      (ZpSame after s x (other (Waits Zp x) tt refl refl))
    where
      after : List ℕ
      after = put (Attributes x) k v 1 s

      other : (q : Place) → Inside q → same q (Mark (Attributes x) k) ≡ false → same q (Word (Attributes x) k) ≡ false → SameAt after s q
      other = put_other (Attributes x) k v 1 s key

-- AFTER THE KEY IS SET: Zc and the residual
module _ (t : Table) (s : List ℕ) (x : ℕ) (d : Derivation) (room : HasBlocks s) (there : x < 32) where
  abbrev key_set : List ℕ
  key_set = set_key t s x d.label

  abbrev final : List ℕ
  final = acted t s x d

  abbrev gains : ℕ
  gains = plus_all (to_confirm t s x d) key_limit (zc_of key_set x)

  long : length final ≡ length key_set
  long = acted_length t s x d ∙ sym (set_length t s x d.label)

  -- what is the agent's own but neither Zc nor residual, and all that is not the agent's
  final_other : (q : Place) → Inside q → same q (Waits Zc x) ≡ false → same q (Length x) ≡ false → ((i : ℕ) → same q (Residual x i) ≡ false) → SameAt final key_set q
  final_other q h a b c = acted_other t s x d q h a b (λ i l. c i)

  final_agent : Low d.leaving → length (words d.leaving) ≤ residual_words
      → agent_of final x ≡ ⟨ (agent_of key_set x).I ⸴ (agent_of key_set x).L ⸴ d.leaving ⸴ (λ k. has gains k) ⸴ (agent_of key_set x).Zp ⟩
  final_agent low short = tuple
      (ISame final key_set x (λ k l. final_other (Mark (Attributes x) k) l refl refl (λ i. refl)) (λ k l. final_other (Word (Attributes x) k) l refl refl (λ i. refl)))
      (LSame final key_set x (λ k l. final_other (Mark (Entries x) k) l refl refl (λ i. refl)) (λ k l. final_other (Word (Entries x) k) l refl refl (λ i. refl))
      (λ k l. final_other (Writer x k) l refl refl (λ i. refl)))
      (acted_term t s x d room there low short)
      (ap (λ (w : ℕ). λ (k : ℕ). has w k) (acted_zc t s x d room there))
      (ZpSame final key_set x (final_other (Waits Zp x) tt refl refl (λ i. refl)))

  final_others : (y : ℕ) → (y ≡ x → ⊥) → agent_of final y ≡ agent_of key_set y
  final_others y o =
      agent_same final key_set y long
      (λ p h k e. final_other p h (apart p (Waits Zc x) y k e (λ l f. o (sym f))) (apart p (Length x) y k e (λ l f. o (sym f))) (λ i. apart p (Residual x i) y k e (λ l f. o (sym f))))

  final_environment : (system_of final).E ≡ (system_of key_set).E
  final_environment =
      fun_ext λ k. value_same final key_set Environment k (λ l. final_other (Mark Environment k) l refl refl (λ i. refl)) (λ l. final_other (Word Environment k) l refl refl (λ i. refl))

  final_clock : clock_of final ≡ clock_of key_set
  final_clock = final_other Clock tt refl refl (λ i. refl)

  -- from what the set key makes of the system
  module _ (ok : Checked t) (inside : InsideTable t d) (short : length (words d.leaving) ≤ residual_words) (agents : ℕ) (is : x < agents) where
    abbrev a : Agent
    a = agent_of s x

    low : Low d.leaving
    low = over_low t (omega (arith, ok.sound.shaped.limits.nodes)) d.leaving inside.leaving

    abbrev after : Agent → Agent
    after b = ⟨ b.I ⸴ b.L ⸴ d.leaving ⸴ (b.Zc ∪ known a (label_keys t d.label)) ∪ known a (guard_keys t d.guards) ⸴ b.Zp ⟩

    gained : (k : ℕ) → has gains k ≡ ((has (zc_of key_set x) k || known a (label_keys t d.label) k) || known a (guard_keys t d.guards) k)
    gained k =
        has_plus_all (to_confirm t s x d) key_limit (zc_of key_set x) k
        ∙ ap (λ (b : Bool). b || has (zc_of key_set x) k) (keys_to_confirm t ok.sound s x d inside k)
        ∙ regroup (known a (label_keys t d.label) k) (known a (guard_keys t d.guards) k) (has (zc_of key_set x) k)
      where
        regroup : (p q z : Bool) → ((p || q) || z) ≡ ((z || p) || q)
        regroup true q true = refl
        regroup true q false = refl
        regroup false true true = refl
        regroup false true false = refl
        regroup false false true = refl
        regroup false false false = refl

    finished : (E₁ : Interface) (T₁ : ℕ) (b : Agent) → agent_of key_set x ≡ b → ((y : ℕ) → (y ≡ x → ⊥) → agent_of key_set y ≡ agent_of s y)
        → (system_of key_set).E ≡ E₁ → clock_of key_set ≡ T₁ → Acts t (system_of s).E (clock_of s) x a d E₁ T₁ (after b)
        → Acted t agents x d (system_of s) (system_of final)
    finished E₁ T₁ b own others e c did =
        record {
          there = is;
          acts =
              subst (λ (E' : Interface). Acts t (system_of s).E (clock_of s) x a d E' (clock_of final) (agent_of final x)) (sym (final_environment ∙ e))
              (subst (λ (T : ℕ). Acts t (system_of s).E (clock_of s) x a d E₁ T (agent_of final x)) (sym (final_clock ∙ c))
              (subst (λ (o : Agent). Acts t (system_of s).E (clock_of s) x a d E₁ T₁ o) (sym mine) did));
          others = λ y l o. final_others y o ∙ others y o;
        }
      where
        mine : agent_of final x ≡ after b
        mine =
            final_agent low short
            ∙ ap (λ (z : Keys). ⟨ (agent_of key_set x).I ⸴ (agent_of key_set x).L ⸴ d.leaving ⸴ z ⸴ (agent_of key_set x).Zp ⟩) (fun_ext gained)
            ∙ ap after own

-- the derivation d of agent x's process is enabled in s: it has no key to confirm or to propagate, and guards and value are as they must be
pub record Enabled (t : Table) (s : List ℕ) (x : ℕ) (d : Derivation) : Type 0 where
  pub moves : Derivable t (term_in s x) d
  pub confirmed : zc_of s x ≡ 0
  pub propagated : zp_of s x ≡ 0
  pub guards : all_hold t s x d.guards ≡ true
  pub present : lacks_value t s x d.label ≡ false

present_value : (o : Value) → is_absent o ≡ false → o ≡ Some (word_in o)
present_value None e = absurd (not_both refl e)
present_value (Some v) e = refl

clock_agents : (s : List ℕ) (m y : ℕ) → agent_of (set s clock_at m) y ≡ agent_of s y
clock_agents s m y = agent_same (set s clock_at m) s y (length-set s clock_at m) (λ p h k o. set_other s Clock m tt p h (apart p Clock y k o (λ l f. omega arith)))

module _ (t : Table) (ok : Checked t) (s : List ℕ) (narrow : Narrow t s) (room : HasBlocks s) (formed : WellFormed t s) (x : ℕ) (is : x < t.sizes.agents) where
  there : x < 32
  there = omega (arith, ok.sound.shaped.limits.agents)

  abbrev me : Agent
  me = agent_of s x

  inside : (d : Derivation) → Derivable t (term_in s x) d → InsideTable t d
  inside d m = derivation_inside t ok.sound (term_in s x) (formed.formed.residuals x is).over (moves_in t ok (term_in s x) d m)

  settled : zc_of s x ≡ 0 → zp_of s x ≡ 0 → Settled me
  settled c p k = (ap (λ (w : ℕ). has w k) c ∙ has_nothing k, ap (λ (w : ℕ). has w k) p ∙ has_nothing k)

  module _ (n : ℕ) (g : List ℕ) (T : Term) (r : Enabled t s x (derivation (Acting n) g T)) (short : length (words T) ≤ residual_words) where
    abbrev d : Derivation
    d = derivation (Acting n) g T

    abbrev p : ℕ
    p = p_at t n

    abbrev v : ℕ
    v = word_in (value_for t s x n)

    node : ActionNode t n
    node = (inside d r.moves).label

    key : p < key_limit
    key = action_key t s x ok.sound n node

    value_is : E⟦ expr_of t (q_at t n) ⟧ alone (system_of s).E me ⇓ v
    value_is = (expression_value t s narrow x x (q_at t n) v).0 (present_value (value_for t s x n) r.present)

    await : Await t (system_of s).E me g
    await = (guards_await t s narrow x g).0 r.guards

    is_settled : Settled me
    is_settled = settled r.confirmed r.propagated

    abbrev Done : Type 0
    Done = Acted t t.sizes.agents x d (system_of s) (system_of (acted t s x d))

    -- u are the words with the key set
    finish : (u : List ℕ) → set_key t s x (Acting n) ≡ u → (E₁ : Interface) (T₁ : ℕ) (b : Agent) → agent_of u x ≡ b
        → ((y : ℕ) → (y ≡ x → ⊥) → agent_of u y ≡ agent_of s y) → (system_of u).E ≡ E₁ → clock_of u ≡ T₁
        → Acts t (system_of s).E (clock_of s) x me d E₁ T₁ ⟨ b.I ⸴ b.L ⸴ T ⸴ (b.Zc ∪ known me (label_keys t (Acting n))) ∪ known me (guard_keys t g) ⸴ b.Zp ⟩
        → Acted t t.sizes.agents x d (system_of s) (system_of (acted t s x d))
    finish u e E₁ T₁ b own others environs clocks =
        finished t s x d room there ok (inside d r.moves) short t.sizes.agents is E₁ T₁ b (ap (λ (w : List ℕ). agent_of w x) e ∙ own)
        (λ y o. ap (λ (w : List ℕ). agent_of w y) e ∙ others y o) (ap (λ (w : List ℕ). (system_of w).E) e ∙ environs) (ap (λ (w : List ℕ). clock_of w) e ∙ clocks)

    done_attribute : kind_at t n ≡ 2 → Done
    done_attribute k =
        finish (put (Attributes x) p v 1 s) (set_value t s x n (λ h. omega arith) ∙ ap (λ (store : Store). put store p v 1 s) (store_attribute t x n k))
        (system_of s).E (clock_of s) ⟨ me.I ⟦ p ≔ Some v ⟧ ⸴ me.L ⸴ me.P ⸴ me.Zc ⸴ me.Zp ⟩
        (put_attribute p v s key room x there)
        (λ y o. put_agents (Attributes x) p v 1 s key y (λ l f. o (sym f)))
        (fun_ext λ j. put_value_in (Attributes x) p v 1 s key room there (omega arith) Environment j ∙ rw and-false)
        (put_other (Attributes x) p v 1 s key Clock tt refl refl)
        (EVAL-I v (ATTR r.moves.1 (attribute_action t n k) is_settled) await value_is)

    done_environment : kind_at t n ≡ 4 → Done
    done_environment k =
        finish (put Environment p v 1 s) (set_value t s x n (λ h. omega arith) ∙ ap (λ (store : Store). put store p v 1 s) (store_environment t x n k))
        ((system_of s).E ⟦ p ≔ Some v ⟧) (clock_of s) me
        (put_agents Environment p v 1 s key x (λ l f. omega arith))
        (λ y o. put_agents Environment p v 1 s key y (λ l f. omega arith))
        (put_environment p v s key room)
        (put_other Environment p v 1 s key Clock tt refl refl)
        (EVAL-E v (ENV r.moves.1 (environment_action t n k) is_settled) await value_is)

    done_stigmergy : kind_at t n ≡ 3 → Done
    done_stigmergy k =
        finish (set queued clock_at m) (set_entry t s x n k)
        (system_of s).E (suc (clock_of s)) ⟨ me.I ⸴ me.L ⟦ p ≔ some (entry v (suc (clock_of s)) x) ⟧ ⸴ me.P ⸴ me.Zc ⸴ me.Zp ∪｛ p ｝ ⟩
        (clock_agents queued m x ∙ add_zp_agent x p entered entered_room there
        ∙ ap (λ (o : Agent). ⟨ o.I ⸴ o.L ⸴ o.P ⸴ o.Zc ⸴ o.Zp ∪｛ p ｝ ⟩) (put_agent x p fresh s key room there (omega arith))
        ∙ ap (λ (i : ℕ). ⟨ me.I ⸴ me.L ⟦ p ≔ some (entry v i x) ⟧ ⸴ me.P ⸴ me.Zc ⸴ me.Zp ∪｛ p ｝ ⟩) (add-one (clock_of s)))
        (λ y o. clock_agents queued m y
        ∙ agent_same queued entered y (add_length Zp x p entered) (λ q h b f. add_other Zp x p entered q h (away q (Waits Zp x) y b f o))
        ∙ agent_same entered s y (put_entry_length x p fresh s)
        (λ q h b f. put_entry_other x p fresh s key q h (away q (Mark (Entries x) p) y b f o) (away q (Word (Entries x) p) y b f o) (away q (Writer x p) y b f o)))
        (fun_ext λ j. value_same (set queued clock_at m) s Environment j (λ l. stays (Mark Environment j) l refl refl (rw and-false) refl refl) (λ l. stays (Word Environment j) l refl refl refl (rw and-false) refl))
        (set_here queued Clock m tt (omega (arith, add_length Zp x p entered, entered_room)) (omega arith) ∙ add-one (clock_of s))
        (EVAL-L v (LSTIG r.moves.1 (stigmergy_action t n k) is_settled) await value_is
        (inserted me.L p (entry v (suc (clock_of s)) x) (λ f i. omega (arith, sym (ap time_in i) ∙ entry_stamp s x p key, (formed.formed.pairs (Entries x) is p key).bound))))
      where
        m : ℕ
        m = next_stamp s

        fresh : Stored
        fresh = stored v m x

        entered : List ℕ
        entered = put_entry x p fresh s

        queued : List ℕ
        queued = add_key (zp_at x) p entered

        entered_room : HasBlocks entered
        entered_room = omega (arith, put_entry_length x p fresh s, room)

        stays : (q : Place) → Inside q → same q Clock ≡ false → same q (Waits Zp x) ≡ false → same q (Mark (Entries x) p) ≡ false → same q (Word (Entries x) p) ≡ false
            → same q (Writer x p) ≡ false → SameAt (set queued clock_at m) s q
        stays q h a b c e f = set_other queued Clock m tt q h a ∙ add_other Zp x p entered q h b ∙ put_entry_other x p fresh s key q h c e f

        away : (q r : Place) (y : ℕ) → 0 < place_kind q → owner_of q ≡ y → (y ≡ owner_of r → ⊥) → same q r ≡ false
        away q r y b f o = apart q r y b f (λ l i. o (sym i))

  -- AN ENABLED DERIVATION IS DONE by the rules, and leaves what the words then stand for
  act_by : (l : Label) (g : List ℕ) (T : Term) → Enabled t s x (derivation l g T) → length (words T) ≤ residual_words
      → Acted t t.sizes.agents x (derivation l g T) (system_of s) (system_of (acted t s x (derivation l g T)))
  act_by Ticking g T r short =
      let d = derivation Ticking g T in
      let e = set_tick t s x in
      finished t s x d room there ok (inside d r.moves) short t.sizes.agents is (system_of s).E (clock_of s) me (ap (λ (u : List ℕ). agent_of u x) e)
      (λ y o. ap (λ (u : List ℕ). agent_of u y) e) (ap (λ (u : List ℕ). (system_of u).E) e) (ap (λ (u : List ℕ). clock_of u) e)
      (EPSILON (SKIP r.moves.1 (settled r.confirmed r.propagated)) ((guards_await t s narrow x g).0 r.guards))
  act_by (Acting n) g T r short = let w = node n g T r short in by (kind_at t n) refl w.1 w.2
    where
      by : (k : ℕ) → kind_at t n ≡ k → 2 ≤ k → k ≤ 4 → Done n g T r short
      by zero e a b = absurd (omega arith)
      by (suc zero) e a b = absurd (omega arith)
      by (suc (suc zero)) e a b = done_attribute n g T r short e
      by (suc (suc (suc zero))) e a b = done_stigmergy n g T r short e
      by (suc (suc (suc (suc zero)))) e a b = done_environment n g T r short e
      by (suc (suc (suc (suc (suc k))))) e a b = absurd (omega arith)

  pub act_done : (d : Derivation) → Enabled t s x d → length (words d.leaving) ≤ residual_words
      → Acted t t.sizes.agents x d (system_of s) (system_of (acted t s x d))
  act_done d = act_by d.label d.guards d.leaving

  -- AND THE RULES DO NO OTHER
  still : (l : Label) → ε ≡ will_of t l → lacks_value t s x l ≡ false
  still Ticking w = refl
  still (Acting n) w = let z : ◌≡◌ {A = ℕ} 0 1 = cc in absurd (omega arith)

  valued : (l : Label) (e : Expr) (y : Variable) (v : ℕ) → (e ▹ y) ≡ will_of t l → E⟦ e ⟧ alone (system_of s).E me ⇓ v → lacks_value t s x l ≡ false
  valued Ticking e y v w h = refl
  valued (Acting n) e y v w h =
      let i : e ≡ expr_of t (q_at t n) = cc in
      ap (λ (o : Value). is_absent o) ((expression_value t s narrow x x (q_at t n) v).1 (subst (λ (f : Expr). E⟦ f ⟧ alone (system_of s).E me ⇓ v) i h))

  enabled : {d : Derivation} {w : Will} {a' : Agent} → Wills t me d w a' → Await t (system_of s).E me d.guards → lacks_value t s x d.label ≡ false → Enabled t s x d
  enabled {d} m g v =
      record {
        moves = wills_derivable m;
        confirmed = nothing_zero key_limit (zc_of s x) (formed.formed.zc_formed x is).narrow (λ k l. (wills_settled m k).0);
        propagated = nothing_zero key_limit (zp_of s x) (formed.formed.zp_formed x is).narrow (λ k l. (wills_settled m k).1);
        guards = (guards_await t s narrow x d.guards).1 g;
        present = v;
      }

  acts_enabled : {d : Derivation} {E₁ : Interface} {T₁ : ℕ} {b : Agent} → Acts t (system_of s).E (clock_of s) x me d E₁ T₁ b → Enabled t s x d
  acts_enabled {d} (EPSILON m g) = enabled m g (still d.label (wills_will m))
  acts_enabled {d} (EVAL-I {e = e} {x = k} v m g h) = enabled m g (valued d.label e (attribute k) v (wills_will m) h)
  acts_enabled {d} (EVAL-L {e = e} {x = k} v m g h i) = enabled m g (valued d.label e (stigmergy k) v (wills_will m) h)
  acts_enabled {d} (EVAL-E {e = e} {x = k} v m g h) = enabled m g (valued d.label e (environment k) v (wills_will m) h)

  pub act_enabled : {d : Derivation} {S' : System} → Acted t t.sizes.agents x d (system_of s) S' → Enabled t s x d
  act_enabled p = acts_enabled p.acts

  -- the rules allow an act where it is enabled on words, and give the act on words and no other
  pub act_agrees : (d : Derivation) → length (words d.leaving) ≤ residual_words → (S' : System)
      → Acted t t.sizes.agents x d (system_of s) S' ↔ (Enabled t s x d × Same t.sizes.agents S' (system_of (acted t s x d)))
  act_agrees d short S' = (
    λ p. let r = act_enabled p in (r, acted_unique p (act_done d r short)),
    λ h. acted_same (act_done d h.0 short) h.1,
  )

  -- the clock after it
  clock_entry : (n : ℕ) → kind_at t n ≡ 3 → clock_of (set_key t s x (Acting n)) ≡ suc (clock_of s)
  clock_entry n k =
      let e = stored (word_in (value_for t s x n)) (next_stamp s) x in
      let entered = put_entry x (p_at t n) e s in
      ap (λ (u : List ℕ). clock_of u) (set_entry t s x n k)
      ∙ set_here (add_key (zp_at x) (p_at t n) entered) Clock (next_stamp s) tt
      (omega (arith, add_length Zp x (p_at t n) entered, put_entry_length x (p_at t n) e s, room)) (omega arith)
      ∙ add-one (clock_of s)

  clock_other : (n : ℕ) → ActionNode t n → (kind_at t n ≡ 3 → ⊥) → clock_of (set_key t s x (Acting n)) ≡ clock_of s
  clock_other n h d =
      ap (λ (u : List ℕ). clock_of u) (set_value t s x n d)
      ∙ put_other (store_of t x n) (p_at t n) (word_in (value_for t s x n)) 1 s (action_key t s x ok.sound n h) Clock tt refl refl

  -- it stays within its limit where a write has room
  clock_fits : (l : Label) → Labelled t l → (clock_of (set_key t s x l) ≤ 65535) ↔ (writes_entry t l ≡ true → clock_of s < 65535)
  clock_fits Ticking h = (λ c e. absurd (not_both e refl), λ f. rw (set_tick t s x) formed.clock)
  clock_fits (Acting n) h =
      ⊎_elim
      (λ (k : kind_at t n ≡ 3). (λ c e. omega (arith, clock_entry n k), λ f. omega (arith, clock_entry n k, f (eq-eqb (kind_at t n) 3 k))))
      (λ (k : kind_at t n ≡ 3 → ⊥). (λ c e. absurd (k (eqb-true (kind_at t n) 3 e)), λ f. omega (arith, clock_other n h k, formed.clock)))
      (same_or_other (kind_at t n) 3)

  -- OF CHOICES, with the limits: the rules and the limits allow choice c where checks 11 to 17 pass, and give what it then leaves
  abbrev A : ℕ
  A = t.sizes.agents

  enabled_choice : (c : ℕ) (d : Derivation) → get_elem? (choices t s x) c ≡ some d → Able t s x c → Enabled t s x d
  enabled_choice c d e a =
      subst (λ (o : Derivation). Enabled t s x o) (nth_is (choices t s x) c (derivation Ticking [] Idle) d e).1
      (record {
        moves = moves_chosen t ok (term_in s x) c (chosen t s x c) (nth_in (choices t s x) c (derivation Ticking [] Idle) a.there);
        confirmed = a.confirmed;
        propagated = a.propagated;
        guards = a.guards;
        present = a.present;
      })

  able_choice : (c : ℕ) (d : Derivation) → get_elem? (choices t s x) c ≡ some d → Enabled t s x d → all_few t (term_in s x) ≡ true
      → (writes_entry t d.label ≡ true → clock_of s < 65535) → length (words d.leaving) ≤ residual_words → Able t s x c
  able_choice c d e r few room short =
      let w = nth_is (choices t s x) c (derivation Ticking [] Idle) d e in
      let i : d ≡ chosen t s x c = sym w.1 in
      record {
        confirmed = r.confirmed;
        propagated = r.propagated;
        few = few;
        there = w.0;
        guards = subst (λ (o : Derivation). all_hold t s x o.guards ≡ true) i r.guards;
        present = subst (λ (o : Derivation). lacks_value t s x o.label ≡ false) i r.present;
        room = subst (λ (o : Derivation). writes_entry t o.label ≡ true → clock_of s < 65535) i room;
        short = subst (λ (o : Derivation). length (words o.leaving) ≤ residual_words) i short;
      }

  pub act_exactly : (c : ℕ) (d : Derivation) → get_elem? (choices t s x) c ≡ some d → (S' : System)
      → (Acted t t.sizes.agents x d (system_of s) S' × (all_few t (term_in s x) ≡ true) × (S'.clock ≤ 65535) × (length (words d.leaving) ≤ residual_words))
      ↔ (Able t s x c × Same t.sizes.agents S' (system_of (acted t s x d)))
  act_exactly c d e S' = (allowed, given)
    where
      fits : (r : Enabled t s x d) → (clock_of (acted t s x d) ≤ 65535) ↔ (writes_entry t d.label ≡ true → clock_of s < 65535)
      fits r =
          let f = clock_fits d.label (inside d r.moves).label in
          let i = final_clock t s x d room there in
          (λ h. f.0 (omega arith), λ h. let g = f.1 h in omega arith)

      allowed : Acted t A x d (system_of s) S' × (all_few t (term_in s x) ≡ true) × (S'.clock ≤ 65535) × (length (words d.leaving) ≤ residual_words)
          → Able t s x c × Same A S' (system_of (acted t s x d))
      allowed p =
          let w = (act_agrees d p.3 S').0 p.0 in
          (able_choice c d e w.0 p.1 ((fits w.0).0 (omega (arith, w.1.clock_same, p.2))) p.3, w.1)

      given : Able t s x c × Same A S' (system_of (acted t s x d))
          → Acted t A x d (system_of s) S' × (all_few t (term_in s x) ≡ true) × (S'.clock ≤ 65535) × (length (words d.leaving) ≤ residual_words)
      given p =
          let r = enabled_choice c d e p.0 in
          let i : chosen t s x c ≡ d = (nth_is (choices t s x) c (derivation Ticking [] Idle) d e).1 in
          let short = subst (λ (o : Derivation). length (words o.leaving) ≤ residual_words) i p.0.short in
          let room = subst (λ (o : Derivation). writes_entry t o.label ≡ true → clock_of s < 65535) i p.0.room in
          ((act_agrees d short S').1 (r, p.1), p.0.few, omega (arith, (fits r).1 room, p.1.clock_same), short)
