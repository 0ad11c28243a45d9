-- What an act that can be done asks of its parts, and that they come to the whole act.
-- Assumes nothing.
use Prim.Native.Nat.{ℕ, ◌<◌, ◌≤◌}
use mathlib.Core.Bool.{false}
use mathlib.Core.Path.{◌≡◌, refl, sym, ap, ap₂, subst, ◌∙◌}
use mathlib.Core.List.{List}
use native.Mathlib.Omega.{arith}
use lib.ListN.{length, set, length-set}
use borrow.Author.Tests.{eq-eqb}
use Rattle.basis.specs.KeySets.{plus_all}
use Rattle.basis.specs.Kinds as kind
use Rattle.basis.proofs.KeySets.{plus_all_small}
use Rattle.table.specs.Tables.{Table, kind_at, p_at, first_root}
use Rattle.term.specs.declared.Label.{Label}
use Rattle.term.specs.declared.Label.TheVariants.{Ticking, Acting}
use Rattle.term.specs.Terms.{Term, words}
use Rattle.term.specs.Processes.{Derivation, derivation_at, process}
use Rattle.term.specs.Accepted.{ActionNode, Labelled, Checked}
use Rattle.term.proofs.Inside.{Inside as InsideTable}
use Rattle.state.specs.declared.Store.{Store}
use Rattle.state.specs.Layout.{zc_at, key_limit, residual_words, zc_of, term_in}
use Rattle.state.proofs.Places.{Place, Zc, Zp, Clock, Mark, Word, Writer, Waits, Length, Residual, Inside, same}
use Rattle.state.proofs.Frames.{SameAt, word_at, set_other, term_same}
use Rattle.state.specs.Standing.{HasBlocks}
use Rattle.state.specs.WellFormed.{Proper}
use Rattle.state.specs.Formed.{ResidualFormed}
use Rattle.state.proofs.Formed.{proper_facts, residual_test}
use Rattle.state.proofs.Keep.{residual_kept}
use Rattle.steps.specs.Acts.{writes_entry, chosen, guards_read, to_confirm, store_of, set_key, leave, acted}
use Rattle.steps.proofs.Steps.{Able, act_able}
use Rattle.steps.proofs.Acts.{chosen_inside, action_key, set_tick, set_key_other, set_length}
use Rattle.std.specs.Prelude.{Ok}
use Rattle.judging.specs.declared.Allowed.{Allowed}
use Rattle.judging.specs.Judging.{Judges}
use Rattle.judging.specs.Outcomes.{word_for}
use Rattle.acting.specs.Acting.{Leaving, Setting}
use Rattle.acting.specs.Gaining.{LabelKey, Gaining, Gains}

-- a place that no setting of a key of agent x changes
record Still (x : ℕ) (q : Place) : Type 0 where
  inside : Inside q
  clock : same q Clock ≡ false
  waits : same q (Waits Zp x) ≡ false
  mark : (store : Store) (k : ℕ) → same q (Mark store k) ≡ false
  word : (store : Store) (k : ℕ) → same q (Word store k) ≡ false
  writer : (k : ℕ) → same q (Writer x k) ≡ false

module _ (t : Table) (checked : Checked t) (was : List ℕ) (proper : Proper t was) (x : ℕ) (there : x < t.sizes.agents) where
  low : x < 32
  low = omega (arith, checked.sound.shaped.limits.agents)

  blocks : HasBlocks was
  blocks = omega (arith, proper.whole)

  few : first_root t ≤ 65532
  few = omega (arith, checked.sound.shaped.limits.nodes)

  formed : ResidualFormed t was x
  formed = (proper_facts t checked.sound.shaped.limits was proper).formed.formed.residuals x there

  -- WHAT A LABEL'S KEY LEAVES
  label_other : (l : Label) → Labelled t l → (q : Place) → Still x q → SameAt (set_key t was x l) was q
  label_other Ticking h q s = ap (λ (u : List ℕ). word_at u q) (set_tick t was x)
  label_other (Acting n) h q s = set_key_other t was x n (action_key t was x checked.sound n h) q s.inside s.clock s.waits
      (s.mark (store_of t x n) (p_at t n)) (s.word (store_of t x n) (p_at t n)) (s.writer (p_at t n))

  module _ (c : ℕ) (a : Allowed) (j : Judges t was x c (Ok a)) where
    abbrev D : Derivation
    D = chosen t was x c

    able : Able t was x c
    able = (act_able t was x c).0 j.0

    inside : InsideTable t D
    inside = chosen_inside t was x checked.sound formed.over c able.there

    labelled : Labelled t a.label
    labelled = subst (Labelled t) (sym j.1) inside.label

    within : (e : Label) → Labelled t e → LabelKey t e
    within Ticking h = tt
    within (Acting n) h = omega arith

    pub allowed_gaining : Gaining t was x a
    allowed_gaining =
        record {
          blocks = blocks;
          agent = low;
          within = within a.label labelled;
          small = rw j.3 (plus_all_small (guards_read t D.guards) key_limit key_limit 0 (omega arith) (omega arith));
        }

    pub allowed_setting : (n : ℕ) → a.label ≡ Acting n → Setting t was x n a.value
    allowed_setting n e =
        let l : Acting n ≡ D.label = sym e ∙ j.1 in
        let action : ActionNode t n = subst (Labelled t) (sym l) inside.label in
        record {
          blocks = blocks;
          agent = low;
          action = action;
          key = action_key t was x checked.sound n action;
          room = λ k. able.room (ap (writes_entry t) (sym l) ∙ eq-eqb (kind_at t n) kind.set_stigmergy k);
          value = j.2 ∙ ap (word_for t was x) (sym l);
        }

    -- AFTER THE KEY AND ZC
    module _ (g : ℕ) (key_set s : List ℕ) (set_key_lem : key_set ≡ set_key t was x a.label) (set-zc : s ≡ set key_set (zc_at x) g) where
      long : length s ≡ length was
      long = ap (λ (u : List ℕ). length u) set-zc ∙ length-set key_set (zc_at x) g ∙ ap (λ (u : List ℕ). length u) set_key_lem ∙ set_length t was x a.label

      key_still : (q : Place) → Still x q → SameAt key_set was q
      key_still q h = ap (λ (u : List ℕ). word_at u q) set_key_lem ∙ label_other a.label labelled q h

      still : (q : Place) → Still x q → same q (Waits Zc x) ≡ false → SameAt s was q
      still q h e = ap (λ (u : List ℕ). word_at u q) set-zc ∙ set_other key_set (Waits Zc x) g tt q h.inside e ∙ key_still q h

      same_size : SameAt s was (Length x)
      same_size = still (Length x) (record { inside = tt; clock = refl; waits = refl; mark = λ store k. refl; word = λ store k. refl; writer = λ k. refl }) refl

      same_words : (i : ℕ) → i < residual_words → SameAt s was (Residual x i)
      same_words i l = still (Residual x i) (record { inside = l; clock = refl; waits = refl; mark = λ store k. refl; word = λ store k. refl; writer = λ k. refl }) refl

      same_term : term_in s x ≡ term_in was x
      same_term = term_same s was x long same_size same_words

      same_chosen : chosen t s x c ≡ chosen t was x c
      same_chosen = ap (λ (T : Term). derivation_at (process t T) c) same_term

      pub allowed_leaving : Leaving t s x c
      allowed_leaving = record {
        blocks = omega (arith, long, blocks);
        agent = low;
        formed = residual_test t few s (omega (arith, long, blocks)) x low (residual_kept t was s x long same_size same_words formed);
        few = rw same_term able.few;
        there = rw same_term able.there;
        short = rw same_chosen able.short;
      }

      zc_empty : zc_of key_set x ≡ 0
      zc_empty = key_still (Waits Zc x) (record { inside = tt; clock = refl; waits = refl; mark = λ store k. refl; word = λ store k. refl; writer = λ k. refl }) ∙ able.confirmed

      is_key_set : key_set ≡ set_key t was x D.label
      is_key_set = set_key_lem ∙ ap (set_key t was x) j.1

      -- the residual comes last
      pub allowed_acted : Gains t was x a g → (out : List ℕ) → out ≡ leave x (words (chosen t s x c).leaving) s → out ≡ acted t was x (chosen t was x c)
      unfolding acted
      allowed_acted gains out o =
          let e : g ≡ plus_all (to_confirm t was x D) key_limit (zc_of key_set x) = gains D j.1 j.3 ∙ ap (plus_all (to_confirm t was x D) key_limit) (sym zc_empty) in
          o ∙ ap₂ (λ (e : Derivation) (u : List ℕ). leave x (words e.leaving) u) same_chosen
          (set-zc ∙ ap (set key_set (zc_at x)) e ∙ ap (λ (u : List ℕ). set u (zc_at x) (plus_all (to_confirm t was x D) key_limit (zc_of u x))) is_key_set)
