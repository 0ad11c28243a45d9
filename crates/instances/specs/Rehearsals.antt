-- What a rehearsal comes to, as numbers: to compare the definitions with the second implementation by computing both.
use Rattle.std.specs.Prelude.{ℕ, suc, ◌*◌, cond, ◌≡◌, List, [], ◌∷◌, ◌++◌, map, eqb, replicate, set}
use Rattle.table.specs.Checks.{number_of, place_of}
use Rattle.table.specs.Tables.{sizes_of}
use Rattle.state.specs.Layout.{state_words}
use Rattle.steps.specs.Steps.{Outcome, load_of}
use Rattle.steps.specs.Runs.{Rehearsal, steps_of, run_of}
use Rattle.instances.specs.Cases.{Case, cases}

-- the place and the word of each word that is not 0, counted from i
unfoldable pub words_from : ℕ → List ℕ → List ℕ
words_from i [] = []
words_from i (w ∷ ws) = cond (eqb w 0) (words_from (suc i) ws) (i ∷ w ∷ words_from (suc i) ws)

-- load's refusal and place, run's refusal and place, done, refused, added, replaced, the answer bytes, and the state's words that are not 0
abbrev pub summary : Outcome → Rehearsal → List ℕ
summary l r =
    number_of l.check ∷ place_of l.check ∷ number_of r.check ∷ place_of r.check
    ∷ r.progress.done ∷ r.progress.refused ∷ r.progress.tally.added ∷ r.progress.tally.replaced ∷ (r.progress.answers ++ words_from 0 r.progress.state)

-- words with some of them replaced: a place and a word, and so on
unfoldable pub patched : List ℕ → List ℕ → List ℕ
patched [] s = s
patched (i ∷ []) s = s
patched (i ∷ w ∷ patches) s = patched patches (set s i w)

-- load on words of 0, the case's patches of what it leaves, then run, with just enough scratch and an answer buffer of 0
abbrev pub rehearsed : Case → List ℕ
rehearsed c =
    let scratch = 2 * (sizes_of c.table).nodes in
    let l = load_of c.table (replicate state_words 0) scratch in
    summary l (run_of c.table (patched c.patches l.state) scratch c.schedule (replicate (steps_of c.schedule) 0))

-- every case, computed from the definitions, gives what the second implementation gave
abbrev pub AllAgree : Type 0
AllAgree = map rehearsed cases ≡ map (λ (c : Case). c.given) cases
