-- The checks pass exactly where the table is accepted; what may be relied on then.
-- Assumes nothing.
use Prim.Native.Nat.{ℕ, ◌+◌, ◌*◌, ◌<◌, ◌≤◌}
use mathlib.Core.Bool.{Bool, true, false, not}
use mathlib.Core.Logic.{⊎_elim}
use mathlib.Core.Path.{◌≡◌, refl, ap, ◌∙◌}
use mathlib.Core.List.{List, [], ◌∷◌, ◌++◌}
use native.Mathlib.Omega.{arith}
use lib.Dec.{ltb, eqb}
use lib.ListN.{length, get_or-eq_default}
use borrow.Author.Tests.{ltb-false, leb-false, eqb-true, le-ltb, eq-eqb, not-false}
use Rattle.basis.proofs.Tests.{either, or_neither, lt_or_le}
use Rattle.table.specs.Checks.{Refusal, passes, first_of}
use Rattle.table.specs.Tables.{Table, header_bytes, sizes_of, within_limits, table_of, kind_at, p_at, q_at, first_root}
use Rattle.table.specs.Nodes.{is_process, bad_node}
use Rattle.table.specs.Reach.{wrong_key}
use Rattle.table.specs.Sound.{Sound}
use Rattle.table.specs.Measuring.{size_checks}
use Rattle.table.proofs.Checks.{first_passes, first_both, none_passes, lowest_passes, passes_lowest}
use Rattle.table.proofs.Limits.{limits_within}
use Rattle.table.proofs.Promises.{sound_table}
use Rattle.term.specs.Processes.{idle, derivations, few, by_kind, defined, node_process}
use Rattle.term.specs.Exposure.{bad_call}
use Rattle.term.specs.Acceptance.{scratch_words, overfull, table_checks}
use Rattle.term.specs.Parts.{lent_check, content_checks}
use Rattle.term.specs.Accepted.{Checked, Acceptable}
use Rattle.term.proofs.Each.{Each}
use Rattle.term.proofs.Opened.{process_opened, process_out}

-- checks in a row pass where none refuses
each_passes : (rs : List Refusal) → first_of rs ≡ passes → Each (λ r. r.when ≡ false) rs
each_passes [] e = tt
each_passes (r ∷ rs) e = let w = first_passes r rs e in (w.0, each_passes rs w.1)

passes_each : (rs : List Refusal) → Each (λ r. r.when ≡ false) rs → first_of rs ≡ passes
passes_each [] e = none_passes
passes_each (r ∷ rs) e = first_both r rs e.0 (passes_each rs e.1)

module _ (bytes : List ℕ) (fits : Bool) (scratchLength : ℕ) where
  abbrev t : Table
  t = table_of bytes

  abbrev N : ℕ
  N = (sizes_of bytes).nodes

  abbrev D : ℕ
  D = (sizes_of bytes).definitions

  -- the list by its parts, as the code goes through them
  pub by_parts : table_checks bytes fits scratchLength ≡ size_checks bytes ++ (lent_check bytes fits scratchLength ∷ content_checks (table_of bytes))
  by_parts = refl

  pub passes_accepted : first_of (table_checks bytes fits scratchLength) ≡ passes → Acceptable bytes fits scratchLength
  passes_accepted e =
      let c = each_passes (table_checks bytes fits scratchLength) e in
      let limits = not-false (within_limits (sizes_of bytes)) c.1.0 in
      let size = eqb-true (length bytes) (header_bytes + 5 * N) (not-false (eqb (length bytes) (header_bytes + 5 * N)) c.1.1.0) in
      let lent = or_neither (not fits) (ltb scratchLength (scratch_words (sizes_of bytes))) c.1.1.1.0 in
      record {
        size = size;
        fit = not-false fits lent.0;
        scratch = ltb-false scratchLength (scratch_words (sizes_of bytes)) lent.1;
        table =
            record {
              sound = sound_table bytes limits size c.1.1.1.1.0 c.1.1.1.1.1.0;
              calls = lowest_passes D (bad_call t) c.1.1.1.1.1.1.0;
              nodes = lowest_passes N (overfull t) c.1.1.1.1.1.1.1.0;
            };
      }

  pub accepted_passes : Acceptable bytes fits scratchLength → first_of (table_checks bytes fits scratchLength) ≡ passes
  accepted_passes a =
      let s : Sound t = a.table.sound in
      passes_each (table_checks bytes fits scratchLength) (
        le-ltb (length bytes) header_bytes (omega (arith, a.size)),
        (
          ap not (limits_within (sizes_of bytes) s.shaped.limits),
          (
            ap not (eq-eqb (length bytes) (header_bytes + 5 * N) a.size),
            (
              rw (a.fit, le-ltb scratchLength (scratch_words (sizes_of bytes)) a.scratch),
              (
                passes_lowest N (bad_node t) s.nodes,
                (
                  passes_lowest N (wrong_key t) s.keys,
                  (
                    passes_lowest D (bad_call t) a.table.calls,
                    (passes_lowest N (overfull t) a.table.nodes, tt),
                  ),
                ),
              ),
            ),
          ),
        ),
      )

few_idle : few idle ≡ true
unfolding derivations
few_idle = refl

module _ (t : Table) where
  -- a node of no process kind has no derivations
  pub no_process : (n : ℕ) → is_process (kind_at t n) ≡ false → node_process t n ≡ idle
  no_process n e =
      let k : 9 < kind_at t n = leb-false (kind_at t n) 9 e in
      ⊎_elim (λ (l : n < first_root t).
      process_opened t n (kind_at t n) l (λ a b. absurd (omega arith)) refl ∙
      get_or-eq_default (by_kind (defined t t.sizes.definitions) (node_process t) n (p_at t n) (q_at t n)) idle {n = kind_at t n} (omega arith))
      (λ (l : first_root t ≤ n). process_out t n l) (lt_or_le n (first_root t))

  -- no node has over 65,535 derivations
  pub nodes_few : Checked t → (n : ℕ) → few (node_process t n) ≡ true
  nodes_few c n =
      ⊎_elim (λ (e : is_process (kind_at t n) ≡ true). ⊎_elim (process e) root (lt_or_le n (first_root t)))
      (λ (e : is_process (kind_at t n) ≡ false). ap (λ P. few P) (no_process n e) ∙ few_idle)
      (either (is_process (kind_at t n)))
    where
      root : first_root t ≤ n → few (node_process t n) ≡ true
      root l = ap (λ P. few P) (process_out t n l) ∙ few_idle

      process : is_process (kind_at t n) ≡ true → n < first_root t → few (node_process t n) ≡ true
      process e l = not-false (few (node_process t n)) (rw e at (c.nodes n (omega arith)))
