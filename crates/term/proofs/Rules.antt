-- Every table is judged as the paper says: what the checks come to, and when they pass.
-- Assumes nothing.
use Prim.Native.Nat.{ℕ, ◌+◌, ◌*◌, ◌<◌, ◌≤◌}
use mathlib.Core.Bool.{Bool, true, false, not, ◌||◌}
use mathlib.Core.Logic.{inr, ◌↔◌, ⊎_elim}
use mathlib.Core.Path.{◌≡◌, ap}
use mathlib.Core.List.{List}
use native.Mathlib.Omega.{arith}
use lib.Dec.{ltb, leb, eqb}
use lib.ListN.{length}
use borrow.Author.Tests.{leb-false, lt-leb, eqb-true, not-false}
use Rattle.basis.proofs.Tests.{not_both, is_false, lt_or_le}
use Rattle.table.specs.Checks.{refuse_if, first_of}
use Rattle.table.specs.Conditions.{◌when◌, Comes}
use Rattle.table.specs.Tables.{Table, sizes_of, within_limits, table_of, kind_at}
use Rattle.table.specs.Nodes.{is_process, bad_node}
use Rattle.table.specs.Reach.{wrong_key}
use Rattle.table.specs.Rules.{Node, Again}
use Rattle.table.specs.Sound.{Sound}
use Rattle.table.proofs.Checks.{lowest_passes}
use Rattle.table.proofs.Conditions.{Line, Follows, follows_if, follows_lowest, follows_lowest_after, None, none_comes}
use Rattle.table.proofs.Conditions as conditions
use Rattle.table.proofs.Fitting.{fit_node}
use Rattle.table.proofs.Limits.{shaped}
use Rattle.table.proofs.Promises.{sound_table, not_bad}
use Rattle.table.proofs.Rows.{and_iff, or_iff, not_iff, ltb_iff, leb_iff, eqb_iff}
use Rattle.table.proofs.Rules.{within_iff, bad_iff, wrong_iff}
use Rattle.term.specs.Processes.{derivations, node_process, few}
use Rattle.term.specs.Exposure.{bad_call}
use Rattle.term.specs.Acceptance.{overfull, table_checks}
use Rattle.term.specs.Accepted.{Checked}
use Rattle.term.specs.Rules.{Overfull, table_conditions, Accepted, Judged}
use Rattle.term.proofs.Acceptance.{passes_accepted}
use Rattle.term.proofs.Exposes.{not_lower_iff}

false_iff : (a : Bool) → (not a ≡ true) ↔ (a ≡ false)
false_iff a = (λ e. is_false a (λ f. not_both e (ap not f)), λ e. ap not e)

over_iff : (a b : ℕ) → (not (leb a b) ≡ true) ↔ (b < a)
over_iff a b = (λ e. leb-false a b ((false_iff (leb a b)).0 e), λ h. ap not (lt-leb a b h))

-- 7
overfull_iff : (t : Table) (n : ℕ) → (overfull t n ≡ true) ↔ Overfull t n
overfull_iff t n =
    and_iff (is_process (kind_at t n)) (not (few (node_process t n))) (leb_iff (kind_at t n) 9) (over_iff (length (derivations (node_process t n))) 65535)

-- a line with place 0
at_zero : (number : ℕ) (test : Bool) {Fact : Type 0} → (test ≡ true) ↔ Fact → Line (refuse_if number test) (number when Fact)
at_zero number test f = follows_if number test f.0 (λ e w. not_both (f.1 w) e)

module _ (bytes : List ℕ) (fits : Bool) (scratch : ℕ) where
  abbrev t : Table
  t = table_of bytes

  abbrev N : ℕ
  N = (sizes_of bytes).nodes

  abbrev D : ℕ
  D = (sizes_of bytes).definitions

  abbrev sized : Bool
  sized = eqb (length bytes) (12 + 5 * N)

  follows : Follows (table_checks bytes fits scratch) (table_conditions bytes (fits ≡ false) scratch)
  follows = (
    at_zero 1 (ltb (length bytes) 12) (ltb_iff (length bytes) 12),
    λ e1. (
      at_zero 2 (not (within_limits (sizes_of bytes))) (not_iff (within_limits (sizes_of bytes)) (within_iff (sizes_of bytes))),
      λ e2. (
        at_zero 3 (not sized) (not_iff sized (eqb_iff (length bytes) (12 + 5 * N))),
        λ e3.
            let limits = not-false (within_limits (sizes_of bytes)) e2 in
            let size = eqb-true (length bytes) (12 + 5 * N) (not-false sized e3) in (
              at_zero 8 (not fits || ltb scratch (2 * N)) (or_iff (not fits) (ltb scratch (2 * N)) (false_iff fits) (ltb_iff scratch (2 * N))),
              λ e8. (
                follows_lowest 4 N (bad_node t) (bad_iff t (shaped bytes limits size).limits),
                λ e4. (
                  follows_lowest 5 N (wrong_key t) (wrong_iff t (shaped bytes limits size) (lowest_passes N (bad_node t) e4)),
                  λ e5. (
                    follows_lowest_after 6 D (bad_call t) (λ d h good. not_lower_iff t (sound_table bytes limits size e4 e5) d good),
                    λ e6. (follows_lowest 7 N (overfull t) (λ n h. overfull_iff t n), λ e7. tt),
                  ),
                ),
              ),
            ),
      ),
    ),
  )

  comes : Comes (table_conditions bytes (fits ≡ false) scratch) (first_of (table_checks bytes fits scratch))
  comes = conditions.comes (table_checks bytes fits scratch) (table_conditions bytes (fits ≡ false) scratch) follows

  -- a table that passes is as the paper says
  accepted : length bytes ≡ 12 + 5 * N → Checked t → Accepted bytes
  accepted size c =
      let s : Sound t = c.sound in
      record {
        limits = s.shaped.limits;
        size = size;
        nodes = λ n h. (fit_node t s.shaped.limits n).0 (not_bad t n (s.nodes n h)).0;
        once = λ n h w. not_both ((bad_iff t s.shaped.limits n h).1 (inr w)) (s.nodes n h);
        keys = λ n h w. not_both ((wrong_iff t s.shaped s.nodes n h).1 w) (s.keys n h);
        calls = λ d e h x.
            ⊎_elim (λ (l : e < d). l)
            (λ (l : d ≤ e).
            absurd (not_both ((not_lower_iff t s d (λ f g. c.calls f (omega arith))).1 (record { called = e; exposed = x; not_lower = l })) (c.calls d h)))
            (lt_or_le e d);
        few = λ n h p.
            ⊎_elim (λ (l : 65535 < length (derivations (node_process t n))). absurd (not_both ((overfull_iff t n).1 (p, l)) (c.nodes n h)))
            (λ (l : length (derivations (node_process t n)) ≤ 65535). l) (lt_or_le 65535 (length (derivations (node_process t n))));
      }

  -- and no line is so of one that is as the paper says
  none : Accepted bytes → fits ≡ true → 2 * N ≤ scratch → None (table_conditions bytes (fits ≡ false) scratch)
  none a f h = (
    λ place w. absurd (omega (arith, w.1, a.size)),
    (
      λ place w. w.1 a.limits,
      (
        λ place w. w.1 a.size,
        (
          λ place w. ⊎_elim (λ (e : fits ≡ false). not_both f e) (λ (l : scratch < 2 * N). omega arith) w.1,
          (
            λ place w. ⊎_elim (λ (x : Node t place → ⊥). x (a.nodes place w.below)) (λ (x : Again t place). a.once place w.below x) w.fault,
            (
              λ place w. a.keys place w.below w.fault,
              (
                λ place w. absurd (omega (arith, a.calls place w.fault.called w.below w.fault.exposed, w.fault.not_lower)),
                (λ place w. absurd (omega (arith, a.few place w.below w.fault.0, w.fault.1)), tt),
              ),
            ),
          ),
        ),
      ),
    ),
  )

  pub judged : Judged bytes fits scratch
  judged =
      record {
        comes = comes;
        exactly = (
          λ e. let a = passes_accepted bytes fits scratch e in (accepted a.size a.table, a.fit, a.scratch),
          λ w. none_comes (table_conditions bytes (fits ≡ false) scratch) comes (none w.0 w.1 w.2),
        );
      }
