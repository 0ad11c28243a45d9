-- What load is given, and what it answers.
-- Assumes nothing.
use Rattle.std.proofs.Common.{ℕ, ◌≡◌, refl, sym, ap, ◌∙◌, List, Ok, Err, length, arith}
use borrow.Author.Tests.{eqb-true}
use Rattle.table.specs.declared.fleets.Fleet.{Fleet}
use Rattle.table.specs.declared.refusals.Refused.{Refused}
use Rattle.table.specs.Checks.{first_of}
use Rattle.table.specs.Tables.{Table, table_of}
use Rattle.table.specs.Fleets.{table_in}
use Rattle.term.specs.Acceptance.{table_checks}
use Rattle.accept.specs.Answers.{Accepts}
use Rattle.accept.proofs.Answering.{accepted_table}
use Rattle.state.specs.Layout.{state_words, is_whole}
use Rattle.state.specs.WellFormed.{loaded}
use Rattle.wellformed.specs.Given.{LoadGiven}
use Rattle.steps.specs.Tallies.{no_tally}
use Rattle.steps.specs.Steps.{Outcome, load_of}
use Rattle.steps.proofs.Steps.{accepted_load}
use Rattle.machine.specs.Answers.{Loads}
use Rattle.machine.proofs.Outcomes.{outcome_stopped}

module _ (was : List ℕ) {bytes before after : List ℕ} where
  pub load_refused : {e : Refused} → Accepts bytes (is_whole was) before after (Err e) → Loads (load_of bytes was (length before)) (Err e) was
  load_refused {e} a =
      let d = outcome_stopped was no_tally (loaded (table_of bytes)) (first_of (table_checks bytes (is_whole was) (length before))) e (sym a.check) in
      record { check = sym (ap (λ (o : Outcome). o.check) d); words = sym (ap (λ (o : Outcome). o.state) d) }

  module _ {f : Fleet} (a : Accepts bytes (is_whole was) before after (Ok f)) where
    pub load_given : LoadGiven f.sizes f.operands.now was
    load_given =
        record { limits = f.shaped.limits; nodes = omega (arith, f.shaped.operands); whole = eqb-true (length was) state_words (accepted_table a refl).fit }

    pub load_done : {left : List ℕ} → left ≡ loaded (table_in f) → Loads (load_of bytes was (length before)) (Ok tt) left
    load_done g =
        let d = accepted_load bytes was (length before) (accepted_table a refl) in
        record {
          check = sym (ap (λ (o : Outcome). o.check) d);
          words = g ∙ ap (λ (t : Table). loaded t) (a.fleet f refl) ∙ sym (ap (λ (o : Outcome). o.state) d);
        }
