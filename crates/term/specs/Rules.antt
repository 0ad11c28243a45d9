-- Which tables are accepted, and which refusal any other has, in the paper's words and with its numbers: a second reading of Exposure and Acceptance.
use Rattle.std.specs.Prelude.{ℕ, ◌+◌, ◌*◌, ◌<◌, ◌≤◌, Bool, true, false, ◌⊎◌, ◌↔◌, ◌≡◌, List, [], ◌∷◌, length}
use Rattle.table.specs.Checks.{passes, first_of}
use Rattle.table.specs.Conditions.{Condition, ◌when◌, at_lowest, Comes}
use Rattle.table.specs.Tables.{Table, sizes_of, table_of, kind_at, p_at, q_at, body_at}
use Rattle.table.specs.Rules.{Limits, IsProcess, Node, Again, Bad, Wrong}
use Rattle.term.specs.Processes.{derivations, node_process}
use Rattle.term.specs.Acceptance.{table_checks}

module _ (t : Table) where
  -- CAN TICK: tick; a choice with either side that can; a guarded one whose process can; a sequence or parallel with both; a call whose
  -- definition's body can
  pub data CanTick : ℕ → Type 0 where
    tick : {n : ℕ} → kind_at t n ≡ 1 → CanTick n
    sequence : {n : ℕ} → kind_at t n ≡ 5 → CanTick (p_at t n) → CanTick (q_at t n) → CanTick n
    choice_left : {n : ℕ} → kind_at t n ≡ 6 → CanTick (p_at t n) → CanTick n
    choice_right : {n : ℕ} → kind_at t n ≡ 6 → CanTick (q_at t n) → CanTick n
    guarded : {n : ℕ} → kind_at t n ≡ 7 → CanTick (q_at t n) → CanTick n
    parallel : {n : ℕ} → kind_at t n ≡ 8 → CanTick (p_at t n) → CanTick (q_at t n) → CanTick n
    call : {n : ℕ} → kind_at t n ≡ 9 → CanTick (body_at t (p_at t n)) → CanTick n

  -- NODE n EXPOSES A CALL of definition d: itself, or by both sides of a choice or parallel, a guarded one's process, the left of a sequence, and its
  -- right if the left can tick
  pub data Exposes : ℕ → ℕ → Type 0 where
    itself : {n : ℕ} → kind_at t n ≡ 9 → Exposes n (p_at t n)
    sequence_left : {n d : ℕ} → kind_at t n ≡ 5 → Exposes (p_at t n) d → Exposes n d
    sequence_right : {n d : ℕ} → kind_at t n ≡ 5 → CanTick (p_at t n) → Exposes (q_at t n) d → Exposes n d
    choice_left : {n d : ℕ} → kind_at t n ≡ 6 → Exposes (p_at t n) d → Exposes n d
    choice_right : {n d : ℕ} → kind_at t n ≡ 6 → Exposes (q_at t n) d → Exposes n d
    guarded : {n d : ℕ} → kind_at t n ≡ 7 → Exposes (q_at t n) d → Exposes n d
    parallel_left : {n d : ℕ} → kind_at t n ≡ 8 → Exposes (p_at t n) d → Exposes n d
    parallel_right : {n d : ℕ} → kind_at t n ≡ 8 → Exposes (q_at t n) d → Exposes n d

  -- 6: definition d's body exposes a call that is not lower
  pub record NotLower (d : ℕ) : Type 0 where
    pub called : ℕ
    pub exposed : Exposes (body_at t d) called
    pub not_lower : d ≤ called

  -- 7: a process node with over 65,535 derivations
  abbrev pub Overfull : ℕ → Type 0
  Overfull n = IsProcess t n × (65535 < length (derivations (node_process t n)))

module _ (bytes : List ℕ) where
  abbrev pub N : ℕ
  N = (sizes_of bytes).nodes

  abbrev pub D : ℕ
  D = (sizes_of bytes).definitions

  -- THE REFUSALS of a table, where `Misfit` says that a buffer of a fixed length has another one
  abbrev pub table_conditions : Type 0 → ℕ → List Condition
  table_conditions Misfit scratch =
      (1 when (length bytes < 12))
      ∷ (2 when (Limits (sizes_of bytes) → ⊥))
      ∷ (3 when (length bytes ≡ 12 + 5 * N → ⊥))
      ∷ (8 when (Misfit ⊎ (scratch < 2 * N)))
      ∷ at_lowest 4 N (Bad (table_of bytes))
      ∷ at_lowest 5 N (Wrong (table_of bytes))
      ∷ at_lowest 6 D (NotLower (table_of bytes))
      ∷ at_lowest 7 N (Overfull (table_of bytes))
      ∷ []

  -- WHAT AN ACCEPTED TABLE IS
  pub record Accepted : Type 0 where
    pub limits : Limits (sizes_of bytes)
    pub size : length bytes ≡ 12 + 5 * N
    pub nodes : (n : ℕ) → n < N → Node (table_of bytes) n
    pub once : (n : ℕ) → n < N → Again (table_of bytes) n → ⊥
    pub keys : (n : ℕ) → n < N → Wrong (table_of bytes) n → ⊥
    pub calls : (d e : ℕ) → d < D → Exposes (table_of bytes) (body_at (table_of bytes) d) e → e < d
    pub few : (n : ℕ) → n < N → IsProcess (table_of bytes) n → length (derivations (node_process (table_of bytes) n)) ≤ 65535

  -- for every input: what the checks come to, and when they pass
  pub record Judged (fits : Bool) (scratch : ℕ) : Type 0 where
    pub comes : Comes (table_conditions (fits ≡ false) scratch) (first_of (table_checks bytes fits scratch))
    pub exactly : (first_of (table_checks bytes fits scratch) ≡ passes) ↔ (Accepted × (fits ≡ true) × (2 * N ≤ scratch))
