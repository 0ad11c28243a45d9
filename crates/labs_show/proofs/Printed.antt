-- For every input, of any length: what `show` writes of its first `inputBytes` bytes is what is printed of all of it.
-- Assumes nothing.
use Prim.Native.Nat.{ℕ}
use mathlib.Core.Path.{◌≡◌, ap, subst, ◌∙◌}
use mathlib.Core.List.{List}
use lib.ListN.{take, replicate}
use Rattle.state.specs.Layout.{state_words}
use Rattle.steps.specs.Runs.{step_limit}
use Rattle.lines.specs.declared.page.Page.{Page}
use Rattle.lines.specs.Lines.{shown}
use Rattle.lines.specs.Pages.{Writes}
use Rattle.lines.specs.Writing.{Wrote}
use Rattle.lines.proofs.Writing.{wrote_front}
use Rattle.labs_show.specs.Input.{input_bytes}
use Rattle.labs_show.specs.Printed.{scratch_lent, printed}
use Rattle.labs_show.proofs.Enough.{enough}

same : (input : List ℕ) → printed (take input_bytes input) ≡ printed input
unfolding printed
same input = ap shown (enough (replicate state_words 0) scratch_lent (replicate step_limit 0) input)

pub whole : (input : List ℕ) {was out : List ℕ} {r : ℕ} → Wrote (printed (take input_bytes input)) 0 was out r → take r out ≡ printed input
whole input w = wrote_front w ∙ same input

-- the same of a page on which nothing is written yet, which is what `print` hands to `show`
pub whole_page : (input : List ℕ) {was now : Page} → was.len ≡ 0 → Writes (printed (take input_bytes input)) was now
    → take now.len now.bytes.now ≡ printed input
whole_page input {was} {now} empty w =
    whole input (subst (λ (at : ℕ). Wrote (printed (take input_bytes input)) at was.bytes.now now.bytes.now now.len) empty w.wrote)
