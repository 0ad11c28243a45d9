-- An agent's choice, by the words that hold its residual.
-- Assumes nothing.
use Prim.Native.Nat.{ℕ, ◌+◌, ◌-◌, ◌<◌, ◌≤◌}
use mathlib.Core.Bool.{Bool, true, false, not, ◌&&◌, ◌||◌}
use mathlib.Core.Path.{◌≡◌, refl, sym, ap, ap₂, subst, ◌∙◌}
use mathlib.Core.List.{List}
use native.Mathlib.Omega.{arith}
use Rattle.std.specs.Prelude.{Result, Ok, Err}
use lib.Dec.{eqb}
use lib.ListN.{get_or, take, drop, replicate}
use lib.Seq.{take-take}
use borrow.Author.Tests.{eqb-true, not-false}
use Rattle.basis.proofs.Tests.{and_left, and_right, not_and}
use Rattle.table.specs.Tables.{Table, first_root}
use Rattle.table.specs.declared.refusals.Refused.{Refused}
use Rattle.table.specs.declared.refusals.Refused.TheVariants.{KeysPending, ResidualDerivations, NoSuchChoice}
use Rattle.term.specs.Terms.{Term, term_of}
use Rattle.term.specs.Processes.{Derivation, all_few, derivation_at, process}
use Rattle.term.specs.Accepted.{Labelled, Checked}
use Rattle.term.proofs.Inside.{Inside}
use Rattle.choice.specs.declared.Effect.{Effect}
use Rattle.choice.specs.Marking.{Marked}
use Rattle.choice.specs.Outcomes.{Tells, Walked}
use Rattle.residual.specs.Wholes.{Whole, Taking, Choices, residual_term}
use Rattle.state.specs.Layout.{zc_at, zp_at, length_at, residual_at, residual_words, zc_of, zp_of, length_of, term_in}
use Rattle.state.specs.Standing.{HasBlocks}
use Rattle.state.specs.WellFormed.{Proper}
use Rattle.state.specs.Formed.{ResidualFormed}
use Rattle.state.proofs.Formed.{proper_facts, residual_test}
use Rattle.evaluation.specs.Situated.{Situated}
use Rattle.steps.specs.Acts.{chosen}
use Rattle.steps.proofs.Acts.{chosen_inside}
use Rattle.judging.specs.declared.Allowed.{Allowed}
use Rattle.judging.specs.Guards.{GuardsMarked, GuardsGiven, asked_of}
use Rattle.judging.specs.Judging.{Judges}
use Rattle.judging.specs.Outcomes.{Doing, Ended}
use Rattle.judging.specs.Residuals.{ResidualGiven}
use Rattle.judging.proofs.Wholes.{formed_whole}
use Rattle.judging.proofs.Asking.{collected, hold_asked, fails_asked}
use Rattle.judging.proofs.Ordering.{judges_11, judges_12, judges_13, judges_14, judges_last}

-- the residual is within its words
pub agent_short : {t : Table} {was : List ℕ} {x : ℕ} → Checked t → Proper t was → x < t.sizes.agents → (place : ℕ) → place ≡ length_at x → get_or was place 0 ≤ residual_words
agent_short {t} {was} {x} checked proper agent place p =
    let f = (proper_facts t checked.sound.shaped.limits was proper).formed.formed.residuals x agent in
    omega (arith, f.short, ap (λ (i : ℕ). get_or was i 0) p)

-- 11, by the places of Zc and Zp
module _ (t : Table) (was : List ℕ) (x zc zp : ℕ) (confirm : zc ≡ zc_at x) (propagate : zp ≡ zp_at x) where
  abbrev waits : Bool
  waits = not (eqb (get_or was zc 0) 0) || not (eqb (get_or was zp 0) 0)

  waits_is : waits ≡ not (eqb (zc_of was x) 0 && eqb (zp_of was x) 0)
  waits_is =
      ap₂ (λ (i j : ℕ). not (eqb (get_or was i 0) 0) || not (eqb (get_or was j 0) 0)) confirm propagate
      ∙ sym (not_and (eqb (zc_of was x) 0) (eqb (zp_of was x) 0))

  pub agent_11 : (not (eqb (get_or was zc 0) 0) || not (eqb (get_or was zp 0) 0)) ≡ true → (c : ℕ) → Judges t was x c (Err KeysPending)
  agent_11 e c = judges_11 t was x c (sym waits_is ∙ e)

  -- the length is read, and the words are lent
  pub agent_given : (not (eqb (get_or was zc 0) 0) || not (eqb (get_or was zp 0) 0)) ≡ false → Checked t → Proper t was → x < t.sizes.agents
      → (place : ℕ) → place ≡ length_at x → (at : ℕ) → at ≡ residual_at x → ResidualGiven t was x (take (at + get_or was place 0 - at) (drop at was))
  agent_given e checked proper agent place p at q =
      let idle = not-false (eqb (zc_of was x) 0 && eqb (zp_of was x) 0) (sym waits_is ∙ e) in
      let n : at + get_or was place 0 - at ≡ length_of was x = omega (arith, ap (λ (i : ℕ). get_or was i 0) p) in
      record {
        proper = proper;
        agent = agent;
        confirmed = eqb-true (zc_of was x) 0 (and_left (eqb (zc_of was x) 0) (eqb (zp_of was x) 0) idle);
        propagated = eqb-true (zp_of was x) 0 (and_right (eqb (zc_of was x) 0) (eqb (zp_of was x) 0) idle);
        words = ap₂ (λ (m i : ℕ). take m (drop i was)) n q ∙ sym (take-take (length_of was x) residual_words (drop (residual_at x) was) (agent_short checked proper agent (length_at x) refl));
      }

-- 12 and 13, by what is found of the residual's choices
module _ {t : Table} {was : List ℕ} {x : ℕ} {ws : List ℕ} (checked : Checked t) (given : ResidualGiven t was x ws) where
  formed : ResidualFormed t was x
  formed = (proper_facts t checked.sound.shaped.limits was given.proper).formed.formed.residuals x given.agent

  there : x < 32
  there = omega (arith, given.agent, checked.sound.shaped.limits.agents)

  blocks : HasBlocks was
  blocks = omega (arith, given.proper.whole)

  situated : Situated was x x
  situated = record { blocks = blocks; sends = there; receives = there }

  term_is : residual_term ws ≡ term_in was x
  term_is = ap (λ (vs : List ℕ). term_of vs) given.words

  pub whole_residual : Whole t ws
  whole_residual =
      let few : first_root t ≤ 65532 = omega (arith, checked.sound.shaped.limits.nodes) in
      formed_whole t was x blocks there (residual_test t few was blocks x there formed) ws given.words

  pub agent_12 : all_few t (residual_term ws) ≡ false → (c : ℕ) → Judges t was x c (Err ResidualDerivations)
  agent_12 few c = judges_12 t was x c given.confirmed given.propagated (subst (λ (T : Term). all_few t T ≡ false) term_is few)

  -- where each subterm has few
  module _ {count : ℕ} (offered : Choices t (residual_term ws) count) (c : ℕ) where
    offers : Choices t (term_in was x) count
    offers = subst (λ (T : Term). Choices t T count) term_is offered

    pub agent_13 : count ≤ c → Judges t was x c (Err NoSuchChoice)
    agent_13 h = judges_13 t was x c given.confirmed given.propagated offers.few (omega (arith, offers.count))

    -- and c is a choice
    pub agent_taking : c < count → Taking t (residual_term ws) c
    agent_taking h = record { few = offered.few; choice = omega (arith, offered.count) }

  -- 14 and on, of a choice that is there
  module _ (c : ℕ) (taking : Taking t (residual_term ws) c) where
    takes : Taking t (term_in was x) c
    takes = subst (λ (T : Term). Taking t T c) term_is taking

    taken_is : derivation_at (process t (residual_term ws)) c ≡ chosen t was x c
    taken_is = ap (λ (T : Term). derivation_at (process t T) c) term_is

    inside : Inside t (chosen t was x c)
    inside = chosen_inside t was x checked.sound formed.over c takes.choice

    module _ {out : List ℕ} {limit : ℕ} {o : Effect} (walked : Walked t (derivation_at (process t (residual_term ws)) c) limit (replicate 128 0) o out) where
      pub agent_guards : GuardsGiven t was x out
      agent_guards = record { situated = situated; room = walked.marked.marks.room }

      pub agent_doing : Doing t was x o.label
      agent_doing =
          record {
            situated = situated;
            labelled = subst (Labelled t) (sym (walked.tells.label ∙ ap (λ (d : Derivation). d.label) taken_is)) inside.label;
          }

      guards : GuardsMarked t (chosen t was x c).guards out
      guards =
          collected t (chosen t was x c).guards 128 out inside.guards (subst (λ (d : Derivation). Marked t d.guards (replicate 128 0) out) taken_is walked.marked)

      module _ {found : Result ℕ Refused} (asked : (gs : List ℕ) → GuardsMarked t gs out → found ≡ asked_of t was x gs) where
        is : found ≡ asked_of t was x (chosen t was x c).guards
        is = asked (chosen t was x c).guards guards

        pub agent_14 : {e : Refused} → found ≡ Err e → Judges t was x c (Err e)
        agent_14 h =
            let g = fails_asked t was x (chosen t was x c).guards (sym h ∙ is) in
            rw g.1 (judges_14 t was x c given.confirmed given.propagated takes.few takes.choice g.0)

        pub agent_last : {keys : ℕ} → found ≡ Ok keys → (r : Result Allowed Refused) → Ended t was x o.label keys o.size r → Judges t was x c r
        agent_last {keys} h r ends =
            let g = hold_asked t was x (chosen t was x c).guards (sym h ∙ is) in
            judges_last t was x c given.confirmed given.propagated takes.few takes.choice g.0 o (subst (λ (d : Derivation). Tells d limit o) taken_is walked.tells) r
            (subst (λ (k : ℕ). Ended t was x o.label k o.size r) g.1 ends)
