-- Refusal 6: which calls a definition's body exposes. An exposed call names a lower definition than the one that exposes it.
use Rattle.std.specs.Prelude.{ℕ, Bool, true, false, not, ◌&&◌, ◌||◌, ltb}
use Rattle.table.specs.Tables.{Table, body_at}
use Rattle.term.specs.Processes.{Process, idle, tick, act, choice, guarded, call, seq, par, process_at}

unfoldable pub can_tick : Process → Bool
can_tick idle = false
can_tick tick = true
can_tick (act n) = false
can_tick (choice P Q) = can_tick P || can_tick Q
can_tick (guarded g P) = can_tick P
can_tick (call d P) = can_tick P
can_tick (seq P Q q) = can_tick P && can_tick Q
can_tick (par P p Q q) = can_tick P && can_tick Q

-- each call that the process exposes names a definition below d
unfoldable pub calls_below : ℕ → Process → Bool
calls_below d idle = true
calls_below d tick = true
calls_below d (act n) = true
calls_below d (choice P Q) = calls_below d P && calls_below d Q
calls_below d (guarded g P) = calls_below d P
calls_below d (call e P) = ltb e d
calls_below d (seq P Q q) = calls_below d P && (not (can_tick P) || calls_below d Q)
calls_below d (par P p Q q) = calls_below d P && calls_below d Q

-- the body of definition d exposes a call of a definition that is not lower
abbrev pub bad_call : Table → ℕ → Bool
bad_call t d = not (calls_below d (process_at t d (body_at t d)))
