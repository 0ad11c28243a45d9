-- How the sets that are found before anything is written tell each agent's response, and what one turn more makes of the turns before it.
-- Assumes nothing.
use Prim.Native.Nat.{ℕ, zero, suc, ◌+◌, ◌<◌, ◌≤◌}
use mathlib.Core.Bool.{Bool, true, false, cond, not, ◌&&◌, ◌||◌, and-true, and-false, or-false}
use mathlib.Core.Path.{◌≡◌, refl, sym, ap, ap₂, subst, ◌∙◌}
use mathlib.Core.List.{List}
use native.Mathlib.Omega.{arith}
use native.Mathlib.Numerals.{add-one}
use lib.Dec.{eqb}
use borrow.Author.Tests.{eqb-true, lt-ltb, le-ltb}
use Rattle.basis.specs.Numbers.{for_each, how_many}
use Rattle.basis.specs.KeySets.{has, plus_if, plus_all}
use Rattle.basis.proofs.Numbers.{for_each_more, how_many_more, how_many_bound}
use Rattle.basis.proofs.KeySets.{has_nothing, has_plus_all, plus_all_more}
use Rattle.table.specs.Tables.{Table}
use Rattle.state.specs.declared.Entry.{Entry}
use Rattle.state.specs.Layout.{key_limit, stamp_of}
use Rattle.state.specs.declared.Insertion.{Insertion}
use Rattle.state.specs.declared.Insertion.TheVariants.{Add, Update, Discard}
use Rattle.state.specs.Entries.{entry_of, is_add, is_update}
use Rattle.state.specs.Evaluation.{link_holds}
use Rattle.steps.specs.declared.Response.{Response}
use Rattle.steps.specs.declared.Response.TheVariants.{Takes, Propagates, Ignores}
use Rattle.steps.specs.declared.Tally.{Tally}
use Rattle.steps.specs.Tallies.{tally, no_tally, add_tally}
use Rattle.steps.specs.Offers.{response_by, responded, linked, inserts, response, offer, offered, offer_tally}
use Rattle.steps.proofs.Offers.{rule_by, own_entry}
use Rattle.offering.specs.Passing.{touched, Passed, rule_response, response_in, response_tally, TallyWithin}

-- a set of agents below n that pass: one agent more, and who is in it
module _ (test : ℕ → Bool) (n : ℕ) {w : ℕ} (e : w ≡ plus_all test n 0) where
  pub set_more : {u : ℕ} → u ≡ plus_if w n (test n) → u ≡ plus_all test (n + 1) 0
  unfolding plus_if
  set_more f = f ∙ rw e (sym (plus_all_more test n 0))

  in_set : (y : ℕ) → y < n → has w y ≡ test y
  in_set y l = rw (e, has_plus_all test n 0 y, lt-ltb y n l, has_nothing y) (or-false (test y))

-- a response by tests: o and n, whether x's entry and y's is the newer one; neither is where y is x. z: whether y has none
by_tests : (c f i l o n z : Bool) → (i ≡ true → (o ≡ false) × (n ≡ false))
    → cond ((c && (o || (f && n))) && l) (rule_response (rule_by o z)) Ignores
    ≡ response_by (cond (c && (not i && l)) (rule_by o z) Discard) (f && ((c && (not i && l)) && n))
by_tests false f i l o n z h = rw (and-false f)
by_tests true f true l o n z h = rw ((h refl).0, (h refl).1, and-false f)
by_tests true f false false o n z h = rw (and-false (o || (f && n)), and-false f)
by_tests true f false true true n true h = refl
by_tests true f false true true n false h = refl
by_tests true f false true false n z h = rw (and-true (f && n))

-- what a response counts is what its rule does
abbrev counted : Insertion → Tally
counted r = tally (cond (is_add r) 1 0) (cond (is_update r) 1 0)

rule_counts : (r : Insertion) (answers : Bool) → response_tally (response_by r answers) ≡ counted r
rule_counts Add answers = refl
rule_counts Update answers = refl
rule_counts Discard true = refl
rule_counts Discard false = refl

response_counts : (t : Table) (s : List ℕ) (x k : ℕ) (counts confirming : Bool) (y : ℕ)
    → response_tally (response t s x k counts confirming y) ≡ counted (inserts t s x k counts y)
unfolding response
response_counts t s x k counts confirming y = rule_counts (inserts t s x k counts y) _

module _ (t : Table) (was : List ℕ) (x k : ℕ) (counts confirming : Bool) where
  -- the turns of the agents below y
  abbrev pub Turns : ℕ → Tally → List ℕ → Type 0
  Turns agents n s = Passed (offer_tally t was x k counts agents) (offered t was x k counts confirming agents) n s

  module _ (y : ℕ) {n : Tally} {s : List ℕ} (before : Turns y n s) where
    pub few_take : (n.added ≤ y) × (n.replaced ≤ y)
    few_take =
        rw before.answer (how_many_bound (λ (z : ℕ). is_add (inserts t was x k counts z)) y, how_many_bound (λ (z : ℕ). is_update (inserts t was x k counts z)) y)

    pub next_turn : {e : Entry} {r : Response} {out : List ℕ} {m q : Tally} → e ≡ entry_of was x k → r ≡ response t was x k counts confirming y → out ≡ responded k e y r s
        → q ≡ response_tally r → m ≡ add_tally n q → Turns (y + 1) m out
    unfolding offer
    next_turn mine is wrote counted added =
        record {
          answer = added ∙ rw (before.answer, counted, is) (ap (add_tally _) (response_counts t was x k counts confirming y)
              ∙ sym (ap₂ tally (how_many_more (λ (z : ℕ). is_add (inserts t was x k counts z)) y) (how_many_more (λ (z : ℕ). is_update (inserts t was x k counts z)) y)));
          state = wrote ∙ rw (mine, is, before.state) (sym (for_each_more (offer t was x k counts confirming) y was));
        }

  -- of the agents below n, those who could be touched are asked, and the link reaches some of them
  module _ (n asked : ℕ) (asks : asked ≡ touched (entry_of was x k) was k counts confirming n) where
    judged : (reached : ℕ) → ((y : ℕ) → has reached y ≡ (has asked y && link_holds t was k x y)) → (y : ℕ) → y < n
        → response_in reached (entry_of was x k) (entry_of was y k) y ≡ response t was x k counts confirming y
    unfolding response inserts linked
    judged reached links y l =
        rw (links y, in_set _ n asks y l)
        (by_tests counts confirming (eqb x y) (link_holds t was k x y) _ _ (eqb (stamp_of was y k) 0) (λ e. let d = eqb-true x y e in (le-ltb (stamp_of was y k) (stamp_of was x k) (rw d (omega arith)), le-ltb (stamp_of was x k) (stamp_of was y k) (rw d (omega arith)))))

    -- in its turn an agent still has the entry that it had
    pub responds : (key : k < key_limit) (reached : ℕ) → ((y : ℕ) → has reached y ≡ (has asked y && link_holds t was k x y)) → (y : ℕ) → y < n
        → {e : Entry} {s : List ℕ} {r : Response} → e ≡ entry_of was x k → s ≡ offered t was x k counts confirming y → r ≡ response_in reached e (entry_of s y k) y → r ≡ response t was x k counts confirming y
    responds key reached links y l mine now is =
        is ∙ ap₂ (λ (e f : Entry). response_in reached e f y) mine (ap (λ (u : List ℕ). entry_of u y k) now ∙ own_entry t was x k counts confirming key y) ∙ judged reached links y l

    -- where nobody is asked, nothing changes
    pub nobody : asked ≡ 0 → (y : ℕ) → y ≤ n → Turns y no_tally was
    unfolding for_each how_many responded
    nobody e zero l = record { answer = refl; state = refl }
    nobody e (suc y) l =
        let ignores : response_in 0 (entry_of was x k) (entry_of was y k) y ≡ response t was x k counts confirming y = judged 0 (λ z. rw (e, has_nothing z)) y (omega arith) in
        subst (λ (m : ℕ). Turns m no_tally was) (add-one y) (next_turn y (nobody e y (omega arith)) {r = Ignores} refl (rw (← ignores, has_nothing y)) refl refl refl)

-- a response counts an agent at most once
pub counts_once : (r : Response) → TallyWithin 1 (response_tally r)
counts_once (Takes Add) = record { added = omega arith; replaced = omega arith }
counts_once (Takes Update) = record { added = omega arith; replaced = omega arith }
counts_once (Takes Discard) = record { added = omega arith; replaced = omega arith }
counts_once Propagates = record { added = omega arith; replaced = omega arith }
counts_once Ignores = record { added = omega arith; replaced = omega arith }
