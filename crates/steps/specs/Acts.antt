-- Act: what agent x's choice needs in the state before, and what it writes.
use Rattle.std.specs.Prelude.{ℕ, ◌+◌, ◌-◌, Bool, true, false, cond, not, ◌&&◌, ◌||◌, List, [], ◌∷◌, eqb, leb, ltb, length, get_or, set}
use Rattle.basis.specs.Numbers.{for_each}
use Rattle.basis.specs.KeySets.{plus_all}
use Rattle.basis.specs.Kinds as kind
use Rattle.value.specs.Values.{Value}
use Rattle.std.specs.Prelude.{None, Some}
use Rattle.table.specs.Checks.{Refusal, refuse_if}
use Rattle.table.specs.Tables.{Table, kind_at, p_at, q_at}
use Rattle.term.specs.declared.Label.{Label}
use Rattle.term.specs.declared.Label.TheVariants.{Ticking, Acting}
use Rattle.term.specs.Terms.{words}
use Rattle.term.specs.Processes.{Derivation, derivations, derivation_at, process, all_few}
use Rattle.state.specs.declared.Store.{Store}
use Rattle.state.specs.declared.Store.TheVariants.{Environment, Attributes, Entries}
use Rattle.state.specs.Layout.{zc_at, zp_at, length_at, residual_at, residual_words, key_limit, stamp_of, zc_of, zp_of, term_in, put, add_key}
use Rattle.state.specs.Entries.{entry, put_entry, clock_limit, clock_of, next_stamp, set_clock}
use Rattle.state.specs.Evaluation.{value_of, holds, reads}

-- absent, and the word of a value that is not
abbrev pub is_absent : Value → Bool
is_absent None = true
is_absent (Some v) = false

abbrev pub word_in : Value → ℕ
word_in None = 0
word_in (Some v) = v

-- agent x writes v to stigmergy key k: the entry takes the next stamp, which becomes the clock; its writer is x; and the key waits to be
-- propagated
abbrev pub entered : List ℕ → ℕ → ℕ → ℕ → List ℕ
entered s x k v = set_clock (next_stamp s) (add_key (zp_at x) k (put_entry x k (entry v (next_stamp s) x) s))

-- the residual of agent x becomes these words, and 0 after them
unfoldable pub leave : ℕ → List ℕ → List ℕ → List ℕ
leave x ws s =
    set (for_each (λ (i : ℕ) (u : List ℕ). set u (residual_at x + i) (get_or ws i 0)) residual_words s) (length_at x) (length ws)

module _ (t : Table) where
  -- a stigmergy key is set
  abbrev pub writes_entry : Label → Bool
  writes_entry Ticking = false
  writes_entry (Acting n) = eqb (kind_at t n) kind.set_stigmergy

  -- a stigmergy key in the guards or the expression
  abbrev pub guards_read : List ℕ → ℕ → Bool
  guards_read [] k = false
  guards_read (b ∷ g) k = reads t b k || guards_read g k

  abbrev pub label_reads : Label → ℕ → Bool
  label_reads Ticking k = false
  label_reads (Acting n) k = reads t (q_at t n) k

  -- the store in which node n of agent x sets a key: an attribute, a stigmergy key or an environment key
  abbrev pub store_of : ℕ → ℕ → Store
  store_of x n = get_or (Attributes x ∷ Entries x ∷ Environment ∷ []) (kind_at t n - kind.set_attribute) Environment

module _ (t : Table) (was : List ℕ) (x : ℕ) where
  -- the derivations of what is left of its process; choice c is derivation c
  abbrev pub choices : List Derivation
  choices = derivations (process t (term_in was x))

  abbrev pub chosen : ℕ → Derivation
  chosen c = derivation_at (process t (term_in was x)) c

  abbrev pub all_hold : List ℕ → Bool
  all_hold [] = true
  all_hold (b ∷ g) = holds t was x x b && all_hold g

  -- the expression's value; a tick has no expression
  abbrev pub value_for : ℕ → Value
  value_for n = value_of t was x x (q_at t n)

  abbrev pub lacks_value : Label → Bool
  lacks_value Ticking = false
  lacks_value (Acting n) = is_absent (value_for n)

  -- refusals 15 to 17, of what is done and how many words it leaves
  abbrev pub last_checks : Label → ℕ → List Refusal
  last_checks label size =
      refuse_if 15 (lacks_value label)
      ∷ refuse_if 16 (writes_entry t label && leb clock_limit (clock_of was))
      ∷ refuse_if 17 (ltb residual_words size)
      ∷ []

  -- refusals 11 to 17, of choice c
  abbrev pub act_checks : ℕ → List Refusal
  act_checks c =
      refuse_if 11 (not (eqb (zc_of was x) 0 && eqb (zp_of was x) 0))
      ∷ refuse_if 12 (not (all_few t (term_in was x)))
      ∷ refuse_if 13 (leb (length choices) c)
      ∷ refuse_if 14 (not (all_hold (chosen c).guards))
      ∷ last_checks (chosen c).label (length (words (chosen c).leaving))

  -- Zc gains the stigmergy keys of the guards and the expression that had an entry before (house rule: a key without one could never be confirmed)
  abbrev pub to_confirm : Derivation → ℕ → Bool
  to_confirm d k = (guards_read t d.guards k || label_reads t d.label k) && ltb 0 (stamp_of was x k)

  -- the key is set; a tick sets none
  unfoldable pub set_key : Label → List ℕ
  set_key Ticking = was
  set_key (Acting n) =
      cond (writes_entry t (Acting n))
      (entered was x (p_at t n) (word_in (value_for n)))
      (put (store_of t x n) (p_at t n) (word_in (value_for n)) 1 was)

  -- then Zc and the residual
  unfoldable pub acted : Derivation → List ℕ
  acted d =
      let s = set_key d.label in
      leave x (words d.leaving) (set s (zc_at x) (plus_all (to_confirm d) key_limit (zc_of s x)))
