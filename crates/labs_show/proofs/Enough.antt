-- No more than `inputBytes` bytes need be read: what follows them changes nothing.
-- Assumes nothing.
use Prim.Native.Nat.{ℕ, ◌+◌, ◌*◌, ◌<◌, ◌≤◌}
use mathlib.Core.Bool.{Bool, true, false, not, cond}
use mathlib.Core.Path.{◌≡◌, refl, sym, ap, subst, ◌∙◌}
use mathlib.Core.List.{List, ◌++◌}
use native.Mathlib.Nat.{le-min}
use native.Mathlib.Omega.{arith}
use lib.Dec.{eqb, ltb, leb}
use lib.ListN.{length, take, drop, length-take, length-drop}
use lib.Seq.{length-take-le, take_all, get_or-take, take-take}
use borrow.Author.Tests.{lt-ltb, le-ltb, leb-true, leb-false, eqb-true, eqb-false}
use Rattle.basis.specs.Bytes.{u16_at}
use Rattle.table.specs.Checks.{Check, passes, refuses, refuse_if, first_of}
use Rattle.table.specs.Measuring.{size_checks}
use Rattle.table.specs.Tables.{header_bytes, sizes_of, within_limits, table_of}
use Rattle.table.proofs.Checks.{first_later, first_refuses, append_later, append_refuses}
use Rattle.table.proofs.Limits.{within_limits_lem}
use Rattle.term.specs.Acceptance.{table_checks}
use Rattle.state.specs.Layout.{is_whole}
use Rattle.state.specs.WellFormed.{loaded}
use Rattle.steps.specs.Steps.{load_of, state_checks}
use Rattle.steps.specs.Runs.{steps_of, schedule_checks, begun, Rehearsal, run_of}
use Rattle.steps.specs.Tallies.{no_tally}
use Rattle.steps.proofs.Steps.{outcome_check}
use Rattle.machine.proofs.Schedules.{schedule_odd, schedule_long}
use Rattle.labs_show.specs.Input.{table_end, input_bytes}
use Rattle.labs_show.specs.Rehearsal.{rehearsed, rehearsed_input}

abbrev refusal : List ℕ → List ℕ → ℕ → ℕ → Rehearsal
refusal was answers number place = record { check = refuses number place; progress = begun was answers }

-- A SCHEDULE over the longest is refused with 19
long_schedule : (schedule answers : List ℕ) → 2 + 5 * 8192 < length schedule → first_of (schedule_checks schedule answers) ≡ refuses 19 0
long_schedule schedule answers h = by (eqb (length schedule) (2 + 5 * steps_of schedule)) refl
  where
    by : (b : Bool) → eqb (length schedule) (2 + 5 * steps_of schedule) ≡ b → first_of (schedule_checks schedule answers) ≡ refuses 19 0
    by true e = schedule_long schedule answers (omega (arith, eqb-true (length schedule) (2 + 5 * steps_of schedule) e))
    by false e = schedule_odd schedule answers (eqb-false (length schedule) (2 + 5 * steps_of schedule) e)

module _ (table was : List ℕ) (scratch : ℕ) (answers : List ℕ) where
  run_refused : (mid schedule : List ℕ) {number place : ℕ} → first_of (state_checks table mid scratch ++ schedule_checks schedule answers) ≡ refuses number place
      → run_of table mid scratch schedule answers ≡ refusal mid answers number place
  unfolding run_of
  run_refused mid schedule e = rw (run_of, e)

  load_refused : (schedule : List ℕ) {number place : ℕ} → (load_of table was scratch).check ≡ refuses number place
      → rehearsed table schedule was scratch answers ≡ refusal was answers number place
  unfolding rehearsed
  load_refused schedule e = rw (rehearsed, e)

  load_done : (schedule : List ℕ) → (load_of table was scratch).check ≡ passes
      → rehearsed table schedule was scratch answers ≡ run_of table (load_of table was scratch).state scratch schedule answers
  unfolding rehearsed
  load_done schedule e = rw (rehearsed, e)

  -- two such schedules are refused alike
  module _ (s u : List ℕ) (ls : 2 + 5 * 8192 < length s) (lu : 2 + 5 * 8192 < length u) where
    same_run : (mid : List ℕ) → run_of table mid scratch s answers ≡ run_of table mid scratch u answers
    same_run mid = by (first_of (state_checks table mid scratch)) refl
      where
        by : (c : Check) → first_of (state_checks table mid scratch) ≡ c → run_of table mid scratch s answers ≡ run_of table mid scratch u answers
        by passes e =
            run_refused mid s (append_later (state_checks table mid scratch) (schedule_checks s answers) e ∙ long_schedule s answers ls)
            ∙ sym (run_refused mid u (append_later (state_checks table mid scratch) (schedule_checks u answers) e ∙ long_schedule u answers lu))
        by (refuses number place) e =
            run_refused mid s (append_refuses (state_checks table mid scratch) (schedule_checks s answers) e)
            ∙ sym (run_refused mid u (append_refuses (state_checks table mid scratch) (schedule_checks u answers) e))

    same_rehearsal : rehearsed table s was scratch answers ≡ rehearsed table u was scratch answers
    same_rehearsal = by (load_of table was scratch).check refl
      where
        by : (c : Check) → (load_of table was scratch).check ≡ c → rehearsed table s was scratch answers ≡ rehearsed table u was scratch answers
        by passes e = load_done s e ∙ same_run (load_of table was scratch).state ∙ sym (load_done u e)
        by (refuses number place) e = load_refused s e ∙ sym (load_refused u e)

-- A TABLE of over 4,096 nodes is refused with 2
module _ (table : List ℕ) (h : 12 ≤ length table) (many : 4096 < u16_at table 0) where
  outside : (b : Bool) → within_limits (sizes_of table) ≡ b → within_limits (sizes_of table) ≡ false
  outside true e = absurd (omega (arith, (within_limits_lem (sizes_of table) e).nodes))
  outside false e = e

  size_refuses : first_of (size_checks table) ≡ refuses 2 0
  size_refuses =
      first_later (refuse_if 1 (ltb (length table) header_bytes)) _ (le-ltb (length table) header_bytes h)
      ∙ first_refuses (refuse_if 2 (not (within_limits (sizes_of table)))) _ (ap not (outside (within_limits (sizes_of table)) refl))

  load_refuses_2 : (was : List ℕ) (scratch : ℕ) → (load_of table was scratch).check ≡ refuses 2 0
  load_refuses_2 was scratch =
      outcome_check was no_tally (loaded (table_of table)) (first_of (table_checks table (is_whole was) scratch))
      ∙ append_refuses (size_checks table) _ size_refuses

-- THE INPUT. The sizes are read from its first bytes
same_nodes : (n : ℕ) (input : List ℕ) → 2 ≤ n → u16_at (take n input) 0 ≡ u16_at input 0
same_nodes n input h = λ j. get_or-take n input 0 0 (omega arith) j + 256 * get_or-take n input 1 0 (omega arith) j

end_after : (n m : ℕ) → 12 ≤ n → 12 ≤ m → (b c : Bool) → 12 ≤ cond b n (cond c m n)
end_after n m h l true c = h
end_after n m h l false true = l
end_after n m h l false false = h

module _ (was : List ℕ) (scratch : ℕ) (answers : List ℕ) where
  many_nodes : (input : List ℕ) → 12 ≤ length input → 4096 < u16_at input 0 → rehearsed_input input was scratch answers ≡ refusal was answers 2 0
  many_nodes input h many =
      let e : 12 ≤ table_end input = end_after (length input) (12 + 5 * u16_at input 0) h (omega arith) (ltb (length input) 12) (ltb (12 + 5 * u16_at input 0) (length input)) in
      let l : 12 ≤ length (take (table_end input) input) = rw (length-take (table_end input) input) (le-min e h) in
      load_refused (take (table_end input) input) was scratch answers (drop (table_end input) input)
      (load_refuses_2 (take (table_end input) input) l (subst (λ (n : ℕ). 4096 < n) (sym (same_nodes (table_end input) input (omega arith))) many) was scratch)

  table_ends : (input : List ℕ) → 12 + 5 * u16_at input 0 < length input → table_end input ≡ 12 + 5 * u16_at input 0
  table_ends input h = rw (le-ltb (length input) 12 (omega arith), lt-ltb (12 + 5 * u16_at input 0) (length input) h)

  module _ (input : List ℕ) (h : input_bytes < length input) where
    abbrev cut : List ℕ
    cut = take input_bytes input

    cut_length : length cut ≡ input_bytes
    cut_length = length-take-le input_bytes input (omega arith)

    few_nodes : u16_at input 0 ≤ 4096 → rehearsed_input cut was scratch answers ≡ rehearsed_input input was scratch answers
    few_nodes l =
        let k = 12 + 5 * u16_at input 0 in
        let n = same_nodes input_bytes input (omega arith) in
        let e : table_end cut ≡ k = table_ends cut (omega (arith, n, cut_length)) ∙ ap (λ (m : ℕ). 12 + 5 * m) n in
        let f : table_end input ≡ k = table_ends input (omega arith) in
        ap (λ (m : ℕ). rehearsed (take m cut) (drop m cut) was scratch answers) e
        ∙ ap (λ (t : List ℕ). rehearsed t (drop k cut) was scratch answers) (take-take k input_bytes input (omega arith))
        ∙ same_rehearsal (take k input) was scratch answers (drop k cut) (drop k input)
        (omega (arith, length-drop k cut, cut_length)) (omega (arith, length-drop k input))
        ∙ ap (λ (m : ℕ). rehearsed (take m input) (drop m input) was scratch answers) (sym f)

    longer : (b : Bool) → leb (u16_at input 0) 4096 ≡ b → rehearsed_input cut was scratch answers ≡ rehearsed_input input was scratch answers
    longer true e = few_nodes (leb-true (u16_at input 0) 4096 e)
    longer false e =
        let many = leb-false (u16_at input 0) 4096 e in
        many_nodes cut (omega (arith, cut_length)) (subst (λ (n : ℕ). 4096 < n) (sym (same_nodes input_bytes input (omega arith))) many)
        ∙ sym (many_nodes input (omega arith) many)

  pub enough : (input : List ℕ) → rehearsed_input (take input_bytes input) was scratch answers ≡ rehearsed_input input was scratch answers
  enough input = by (leb (length input) input_bytes) refl
    where
      by : (b : Bool) → leb (length input) input_bytes ≡ b → rehearsed_input (take input_bytes input) was scratch answers ≡ rehearsed_input input was scratch answers
      by true e = ap (λ (l : List ℕ). rehearsed_input l was scratch answers) (take_all input_bytes input (leb-true (length input) input_bytes e))
      by false e = longer input (leb-false (length input) input_bytes e) (leb (u16_at input 0) 4096) refl
