-- Refusals 15 to 17, in order.
-- Assumes nothing.
use Rattle.std.proofs.Common.{ℕ, ◌<◌, ◌≤◌, Bool, true, false, ◌&&◌, ◌≡◌, refl, sym, ap, ◌∙◌, List, [], ◌∷◌, Some, None, Ok, Err, ltb, leb}
use borrow.Author.Tests.{lt-ltb, le-ltb}
use Rattle.table.specs.Checks.{refuse_if, first_of}
use Rattle.table.specs.Tables.{Table}
use Rattle.table.specs.declared.refusals.Refused.{Refused}
use Rattle.table.specs.declared.refusals.Refused.TheVariants.{ExpressionAbsent, ClockAtEnd, ResidualTooLong}
use Rattle.table.proofs.Checks.{first_refuses, first_both, none_passes}
use Rattle.table.proofs.Refusing.{refused_first, passed_first}
use Rattle.term.specs.declared.Label.{Label}
use Rattle.term.specs.declared.Label.TheVariants.{Ticking, Acting}
use Rattle.state.specs.Layout.{residual_words}
use Rattle.state.specs.Entries.{clock_of, clock_limit}
use Rattle.steps.specs.Acts.{value_for, is_absent, word_in, lacks_value, writes_entry}
use Rattle.judging.specs.Outcomes.{value_checks, Sets, Ended}

-- THE WORD THAT IS SET
module _ (t : Table) (was : List ℕ) (x : ℕ) where
  pub tick_sets : Sets t was x Ticking (Ok 0)
  unfolding first_of
  tick_sets = record { check = refl; word = λ w e. cc }

  module _ (n : ℕ) where
    pub absent_sets : value_for t was x n ≡ None → Sets t was x (Acting n) (Err ExpressionAbsent)
    absent_sets e = record { check = sym (first_refuses (refuse_if 15 (lacks_value t was x (Acting n))) _ (ap is_absent e)); word = λ w f. cc }

    -- of a value that is there, by the clock
    module _ (word : ℕ) (present : value_for t was x n ≡ Some word) where
      abbrev full : Bool
      full = writes_entry t (Acting n) && leb clock_limit (clock_of was)

      pub full_sets : full ≡ true → Sets t was x (Acting n) (Err ClockAtEnd)
      unfolding first_of
      full_sets e = record { check = rw (first_of, present, e); word = λ w f. cc }

      pub action_sets : full ≡ false → Sets t was x (Acting n) (Ok word)
      unfolding first_of
      action_sets e = record { check = rw (first_of, present, e); word = λ w f. let same : word ≡ w = cc in sym same ∙ sym (ap word_in present) }

-- AND THEN THE LENGTH
module _ (t : Table) (was : List ℕ) (x : ℕ) (label : Label) (keys size : ℕ) where
  pub value_ends : {e : Refused} → Sets t was x label (Err e) → Ended t was x label keys size (Err e)
  value_ends {e} s = sym (refused_first (value_checks t was x label) (refuse_if 17 (ltb residual_words size) ∷ []) e s.check)

  module _ (word : ℕ) (s : Sets t was x label (Ok word)) where
    pub long_ends : residual_words < size → Ended t was x label keys size (Err ResidualTooLong)
    long_ends h =
        sym (passed_first (value_checks t was x label) (refuse_if 17 (ltb residual_words size) ∷ []) s.check
        (sym (first_refuses (refuse_if 17 (ltb residual_words size)) [] (lt-ltb residual_words size h))))

    pub short_ends : size ≤ residual_words → Ended t was x label keys size (Ok (record { label = label; value = word; keys = keys }))
    short_ends h = (
      sym (passed_first (value_checks t was x label) (refuse_if 17 (ltb residual_words size) ∷ []) s.check
          (sym (first_both (refuse_if 17 (ltb residual_words size)) [] (le-ltb residual_words size h) none_passes))),
      refl,
      s.word word refl,
      refl,
    )
