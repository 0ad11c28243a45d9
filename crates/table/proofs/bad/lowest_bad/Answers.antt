-- `table::bad::lowest_bad` meets its contract.
-- Assumes nothing.
use Prim.Native.Nat.{ℕ, ◌+◌, ◌<◌}
use native.Mathlib.Omega.{arith}
use mathlib.Core.Path.{◌≡◌, refl, sym, ap₂, subst, ◌∙◌}
use mathlib.Core.Bool.{Bool, true, false, ◌&&◌, ◌||◌}
use mathlib.Core.List.{List}
use lib.Bits.{bit_or}
use lib.ListN.{length, set, length-set}
use borrow.Author.Count.{below_more}
use borrow.Author.Tests.{lt-ltb, le-ltb}
use Rattle.std.specs.Prelude.{Option, None, Some, MatchOption, Err}
use Rattle.std.specs.Bool.{then_some}
use Rattle.std.proofs.lemmas.Option.{MatchOption-at_none, MatchOption-at_some}
use Rattle.std.proofs.lemmas.Result.{err_from_is_err_and}
use Rattle.basis.proofs.Numbers.{lowest_at}
use Rattle.table.specs.declared.refusals.Refused.TheVariants.{BadNode}
use Rattle.table.specs.declared.Look.{Look}
use Rattle.table.specs.Tables.{Table, p_at, q_at, first_root}
use Rattle.table.specs.Fleets.{table_in}
use Rattle.table.specs.Nodes.{inner, fitting, left_node, right_node, bad_node}
use Rattle.table.specs.Marks.{doubted, TwoMarks, Looked, Bad}
use Rattle.table.proofs.Checks.{line_passes, line_refuses}
use Rattle.table.proofs.Marking.{marks_when, marks_not, marks_left, marks_right}
use Rattle.table.proofs.Naming.{bad_unfit, Turned, bad_is, twice, turned_more}
use Rattle.table.proofs.Promises.{not_bad}
use Rattle.table.proofs.Rising.{Informed, word_unnamed, informed_more, informed_sure}
use Rattle.table.proofs.bad.lowest_bad.Goals as goal
use Rattle.table.proofs.bad.lowest_bad.Goals.{else-inner-via-then-inner+else-mark_both, else-inner-via-else-inner, In_ok-look, After-is_doubted-doubtful}

found_at : (t : Table) (i : ℕ) → i < t.sizes.nodes → bad_node t i ≡ true → ((k : ℕ) → k < i → bad_node t k ≡ false) → Bad t (Err (BadNode i))
found_at t i h e f =
    record { check = line_refuses t.sizes.nodes (bad_node t) 4 i h (sym (lowest_at (bad_node t) t.sizes.nodes i h e f)); sure = λ g. (cc) }

at_look : {t : Table} {i : ℕ} {o : Option Look} {l : Look} → o ≡ Some l → MatchOption o (fitting t i ≡ false) (λ l. Looked t i l) → Looked t i l
at_look {t} {i} {o} {l} e h = MatchOption-at_some (fitting t i ≡ false) (λ l. Looked t i l) l e h

looked : (c : In_ok-look) → Looked (table_in c.args.fleet.now) c.loop-node.node c.in_ok-look.look
looked c = at_look c.in_ok-look.ensures.ok_part c.look_at.ensures

-- the words when node i has had its turn, by what its marks do
turn : (c : After-is_doubted-doubtful) (after : List ℕ) (r : Bool)
    → (let t = table_in c.args.fleet.now in let i = c.loop-node.node in
    TwoMarks false false (set c.loop-node.scratch i (bit_or c.own_bits.result c.rising.result)) after
    (then_some (inner t i && left_node t i) (p_at t i)) (then_some (inner t i && right_node t i) (q_at t i)) r)
    → (r ≡ bad_node (table_in c.args.fleet.now) c.loop-node.node)
    × Turned (table_in c.args.fleet.now) after (c.loop-node.node + 1)
    × Informed (table_in c.args.fleet.now) after (c.loop-node.node + 1) (c.loop-node.doubtful || c.is_doubted-doubtful.result)
turn c after r m =
    let l = c.loop-node in
    let v = l.invariant in
    let i = l.node in
    let t = table_in c.args.fleet.now in
    let look = at_look c.in_ok-look.ensures.ok_part c.look_at.ensures in
    let d = ap₂ bit_or c.own_bits.ensures c.rising.ensures in
    let w = word_unnamed t l.scratch i look d in
    let W = bit_or c.own_bits.result c.rising.result in
    let small : i < length l.scratch = omega arith in (
      bad_is t W v.turned v.fine small look.fit w m,
      turned_more t W v.turned v.fine small look.fit w m,
      subst (λ (b : Bool). Informed t after (i + 1) (l.doubtful || b))
          (sym (c.is_doubted-doubtful.ensures ∙ ap₂ (λ (p k : Bool). doubted p k W) c.starts.ensures.process c.starts.ensures.link))
          (informed_more t l.scratch after v.informed small
          (below_more (λ (k : ℕ). fitting t k ≡ true) i (λ k h. (not_bad t k (v.fine k h)).0) look.fit)
          look (λ j k h. twice t W v.turned v.fine small look.fit w m j k ∙ rw h) d),
    )

-- the invariant, where a turn has found no fault
next : {t : Table} {i : ℕ} {words : List ℕ} {doubt r : Bool} → ((k : ℕ) → k < i → bad_node t k ≡ false) → r ≡ false
    → (r ≡ bad_node t i) × Turned t words (i + 1) × Informed t words (i + 1) doubt
    → record { turned : Turned t words (i + 1); fine : (k : ℕ) → k < i + 1 → bad_node t k ≡ false; informed : Informed t words (i + 1) doubt }
next {t} {i} f e w = record { turned = w.1; fine = below_more (λ k. bad_node t k ≡ false) i f (sym w.0 ∙ e); informed = w.2 }

pub returns-in_err-look : goal.returns-in_err-look
returns-in_err-look c =
    let t = table_in c.args.fleet.now in
    let i = c.loop-node.node in
    let p = err_from_is_err_and c.from_residual.result c.from_residual.ensures.1 in
    let none : c.look_at.result ≡ None = c.in_err-look.ensures.ok_part in
    let e = rw none at c.in_err-look.ensures.value in
    let r : c.from_residual.result ≡ Err (BadNode i) = cc in
    let unfit = MatchOption-at_none (fitting t i ≡ false) (λ l. Looked t i l) none c.look_at.ensures in
    rw r (found_at t i (omega arith) (bad_unfit t i unfit) c.loop-node.invariant.fine)

pub rising-requires-clause-left : goal.rising-requires-clause-left
rising-requires-clause-left c = marks_left (table_in c.args.fleet.now) (looked (goal.at.rising-requires-clause-left c).In_ok-look) (omega arith)

pub rising-requires-clause-right : goal.rising-requires-clause-right
rising-requires-clause-right c = marks_right (table_in c.args.fleet.now) (looked (goal.at.rising-requires-clause-right c).In_ok-look) (omega arith)

pub mark_both-requires-clause-left : goal.mark_both-requires-clause-left
mark_both-requires-clause-left c =
    marks_left (table_in c.args.fleet.now) (looked (goal.at.mark_both-requires-clause-left c).In_ok-look) (omega (arith, length-set {A = ℕ}))

pub mark_both-requires-clause-right : goal.mark_both-requires-clause-right
mark_both-requires-clause-right c =
    marks_right (table_in c.args.fleet.now) (looked (goal.at.mark_both-requires-clause-right c).In_ok-look) (omega (arith, length-set {A = ℕ}))

pub returns-then-mark_both : goal.returns-then-mark_both
returns-then-mark_both c =
    let l = c.loop-node in
    let t = table_in c.args.fleet.now in
    let i = l.node in
    let e : inner t i ≡ true = lt-ltb i (first_root t) (omega arith) in
    let w = turn (goal.at.returns-then-mark_both c).After-is_doubted-doubtful _ _
    (marks_when t (looked (goal.at.returns-then-mark_both c).In_ok-look) false false (inner t i) e c.mark_both.ensures) in
    found_at t i (omega arith) (sym w.0 ∙ c.if-mark_both.true) l.invariant.fine

pub loop-node-preserved : goal.loop-node-preserved
loop-node-preserved c =
    let l = c.loop-node in
    let t = table_in c.args.fleet.now in
    let i = l.node in
    let k = looked (goal.at.loop-node-preserved c).In_ok-look in
    let done = turn (goal.at.loop-node-preserved c).After-is_doubted-doubtful in
    elim c.else-inner.branch [
      | else-inner-via-then-inner+else-mark_both w ↦
          next l.invariant.fine w.if-mark_both.false
          (done _ _ (rw w.scratch-is (marks_when t k false false (inner t i) (lt-ltb i (first_root t) (omega arith)) w.mark_both.ensures)))
      | else-inner-via-else-inner w ↦
          next l.invariant.fine refl
          (done _ _ (rw w.scratch-is (marks_not t k _ false false (inner t i) (le-ltb i (first_root t) (omega arith)))))
    ]

pub returns : goal.returns
returns c =
    let t = table_in c.args.fleet.now in
    let l = c.loop-node in
    let fine : (k : ℕ) → k < t.sizes.nodes → bad_node t k ≡ false = λ k h. l.invariant.fine k (omega arith) in
    let e : l.node ≡ t.sizes.nodes = omega arith in
    record {
      check = line_passes t.sizes.nodes (bad_node t) 4 fine;
      sure = λ h. informed_sure t (λ k h. (not_bad t k (fine k h)).0) (subst (λ i. Informed t l.scratch i l.doubtful) e l.invariant.informed) (cc);
    }
