-- How many actions and ticks a process has, each held at 65,536.
use Rattle.std.specs.Prelude.{ℕ, ◌+◌, ◌*◌, ◌≤◌, min}
use Rattle.term.specs.Processes.{Process}
use Rattle.term.specs.Choices.{action_count, tick_count}
use Rattle.accept.specs.declared.Counts.{Counts}

-- what a count is held at
abbrev pub count_limit : ℕ
count_limit = 65536

-- the smaller of the true number and the limit
abbrev pub capped : ℕ → ℕ
capped x = min count_limit x

abbrev pub counts : ℕ → ℕ → Counts
counts a t = record { actions = a; ticks = t }

-- of a process: the true numbers, and as they are held
abbrev pub true_counts : Process → Counts
true_counts P = counts (action_count P) (tick_count P)

unfoldable pub counts_of : Process → Counts
counts_of P = counts (capped (action_count P)) (capped (tick_count P))

pub record Capped (c : Counts) : Type 0 where
  pub actions : c.actions ≤ count_limit
  pub ticks : c.ticks ≤ count_limit

-- of a choice, a sequence and a parallel, from those of the parts
unfoldable pub choice_counts : Counts → Counts → Counts
choice_counts p q = counts (capped (p.actions + q.actions)) (capped (p.ticks + q.ticks))

unfoldable pub seq_counts : Counts → Counts → Counts
seq_counts p q = counts (capped (p.actions + p.ticks * q.actions)) (capped (p.ticks * q.ticks))

unfoldable pub par_counts : Counts → Counts → Counts
par_counts p q =
    counts (capped (p.actions + (q.actions + (p.ticks * q.actions + q.ticks * p.actions))))
    (capped (p.ticks * q.ticks + q.ticks * p.ticks))
