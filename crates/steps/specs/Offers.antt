-- Propagate and confirm: agent x's entry for key k is offered to every other agent, all judged in the state before the step.
use Rattle.std.specs.Prelude.{ℕ, Bool, cond, not, ◌&&◌, List, eqb}
use Rattle.basis.specs.Numbers.{for_each, how_many}
use Rattle.table.specs.Tables.{Table}
use Rattle.state.specs.declared.Entry.{Entry}
use Rattle.state.specs.declared.Insertion.{Insertion}
use Rattle.state.specs.declared.Insertion.TheVariants.{Add, Update, Discard}
use Rattle.state.specs.Layout.{zc_at, zp_at, add_key, drop_key}
use Rattle.state.specs.Entries.{entry_of, newer, insertion, is_add, is_update, put_entry}
use Rattle.state.specs.Evaluation.{link_holds}
use Rattle.steps.specs.declared.Response.{Response}
use Rattle.steps.specs.declared.Response.TheVariants.{Takes, Propagates, Ignores}
use Rattle.steps.specs.declared.Tally.{Tally}
use Rattle.steps.specs.Tallies.{tally}

-- agent y takes entry e with its stamp and its writer: it no longer has to confirm the key, and has to propagate it
unfoldable pub take_entry : ℕ → Entry → ℕ → List ℕ → List ℕ
take_entry k e y s = add_key (zp_at y) k (drop_key (zc_at y) k (put_entry y k e s))

-- an agent takes an entry that is inserted there, by that rule; one that is discarded it may answer
abbrev pub response_by : Insertion → Bool → Response
response_by Add answers = Takes Add
response_by Update answers = Takes Update
response_by Discard answers = cond answers Propagates Ignores

-- agent y's words after its response to entry e
unfoldable pub responded : ℕ → Entry → ℕ → Response → List ℕ → List ℕ
responded k e y (Takes rule) s = take_entry k e y s
responded k e y Propagates s = add_key (zp_at y) k s
responded k e y Ignores s = s

-- `counts`: whether the key's link counts in this step
module _ (t : Table) (was : List ℕ) (x k : ℕ) (counts : Bool) where
  -- the key's link counts, y is another agent, and the link from x to y holds
  unfoldable pub linked : ℕ → Bool
  linked y = counts && (not (eqb x y) && link_holds t was k x y)

  -- by which rule of Table 1 the entry is inserted at y: where the link does not reach y, it is not
  unfoldable pub inserts : ℕ → Insertion
  inserts y = cond (linked y) (insertion (entry_of was x k) (entry_of was y k)) Discard

  -- in a confirm, a linked agent with a newer entry only gains the key in Zp
  unfoldable pub response : Bool → ℕ → Response
  response confirming y = response_by (inserts y) (confirming && (linked y && newer (entry_of was y k) (entry_of was x k)))

  -- what an offer does to y
  unfoldable pub offer : Bool → ℕ → List ℕ → List ℕ
  offer confirming y s = responded k (entry_of was x k) y (response confirming y) s

  abbrev pub offered : Bool → ℕ → List ℕ
  offered confirming agents = for_each (offer confirming) agents was

  -- the linked agents that had no entry for the key, and those that had an older one
  abbrev pub offer_tally : ℕ → Tally
  offer_tally agents = tally (how_many (λ (y : ℕ). is_add (inserts y)) agents) (how_many (λ (y : ℕ). is_update (inserts y)) agents)

  -- then x no longer has to confirm the key, or to propagate it
  abbrev pub sent : Bool → ℕ → List ℕ
  sent confirming agents = drop_key (cond confirming (zc_at x) (zp_at x)) k (offered confirming agents)
