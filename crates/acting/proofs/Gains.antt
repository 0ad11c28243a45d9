-- The keys that an act's guards and expression read, and those of them that Zc gains.
-- Assumes nothing.
use Prim.Native.Nat.{ℕ, ◌+◌, ◌^◌, ◌<◌}
use mathlib.Core.Bool.{Bool, ◌&&◌, ◌||◌}
use mathlib.Core.Path.{◌≡◌, sym, ap, ap₂, ◌∙◌}
use mathlib.Core.List.{List}
use native.Mathlib.Omega.{arith}
use lib.Dec.{ltb}
use Rattle.term.specs.declared.Label.{Label}
use Rattle.term.specs.declared.Label.TheVariants.{Acting}
use Rattle.basis.specs.KeySets.{has, plus_if, plus_all}
use Rattle.basis.proofs.KeySets.{has_nothing, plus_all_more, plus_all_ext}
use Rattle.table.specs.Tables.{Table, q_at}
use Rattle.state.specs.Layout.{key_limit, stamp_of}
use Rattle.state.specs.Evaluation.{reads}
use Rattle.evaluation.specs.Reading.{Adds}
use Rattle.evaluation.proofs.Adding.{adds_same, all_adds}
use Rattle.steps.specs.Acts.{guards_read, label_reads, to_confirm}
use Rattle.judging.specs.declared.Allowed.{Allowed}
use Rattle.acting.specs.Gaining.{has_entry, Gains}

-- one key more of those that pass
pub one_more : (test : ℕ → Bool) (key : ℕ) {found next : ℕ} → found ≡ plus_all test key 0 → next ≡ plus_if found key (test key) → next ≡ plus_all test (key + 1) 0
unfolding plus_if
one_more test key e f = f ∙ rw e (sym (plus_all_more test key 0))

-- WHAT AN ACTION'S EXPRESSION READS
module _ (t : Table) (label : Label) where
  pub label_expression : {n : ℕ} → label ≡ Acting n → (q : ℕ) → q ≡ q_at t n → (w : ℕ) → w < 2 ^ key_limit → (r : ℕ) → r ≡ plus_all (reads t q) key_limit w → Adds (label_reads t label) w r
  label_expression e q f w low r a =
      adds_same (λ k. ap (λ (d : Label). label_reads t d k) e ∙ sym (ap (λ (m : ℕ). reads t m k) f)) (all_adds low a)

-- WHAT ZC GAINS
pub gains : (t : Table) (was : List ℕ) (x : ℕ) (a : Allowed) (r : ℕ) → Adds (label_reads t a.label) a.keys r → Gains t was x a (plus_all (has_entry was x r) key_limit 0)
gains t was x a r adds d e c = plus_all_ext (has_entry was x r) (to_confirm t was x d) key_limit 0 (λ k l. ap (λ f. f && ltb 0 (stamp_of was x k)) (read k l))
  where
    guards : Adds (guards_read t d.guards) 0 a.keys
    guards = all_adds (omega arith) c

    read : (k : ℕ) → k < key_limit → has r k ≡ (guards_read t d.guards k || label_reads t d.label k)
    read k l =
        adds.keys k l
        ∙ ap₂ (λ p q. p || q) (guards.keys k l ∙ ap (λ f. f || guards_read t d.guards k) (has_nothing k)) (ap (λ m. label_reads t m k) e)
