-- What is printed of an input.
use Rattle.std.specs.Prelude.{ℕ, ◌*◌, List, replicate}
use Rattle.state.specs.Layout.{state_words}
use Rattle.steps.specs.Runs.{step_limit}
use Rattle.lines.specs.Lines.{shown}
use Rattle.labs_show.specs.Rehearsal.{rehearsed_input}

-- words of scratch: two for each of 4,096 nodes
abbrev pub scratch_lent : ℕ
scratch_lent = 2 * 4096

-- the lines of its rehearsal, in which state and answers are 0 at first
unfoldable pub printed : List ℕ → List ℕ
printed input = shown (rehearsed_input input (replicate state_words 0) scratch_lent (replicate step_limit 0))
