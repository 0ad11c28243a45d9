-- Derivation c of those of a mode.
use Rattle.std.specs.Prelude.{ℕ, [], get_or}
use Rattle.term.specs.declared.Label.TheVariants.{Ticking}
use Rattle.term.specs.declared.Mode.{Mode}
use Rattle.term.specs.Terms.{Idle}
use Rattle.term.specs.Processes.{Process, Derivation, derivation}
use Rattle.term.specs.Choices.{derivations_in}

unfoldable pub chosen_in : Mode → Process → ℕ → Derivation
chosen_in m P c = get_or (derivations_in m P) c (derivation Ticking [] Idle)
