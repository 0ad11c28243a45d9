-- Chains of agents in which a key waits nowhere: all have the same entry, or none has one.
-- Assumes nothing.
use Prim.Native.Nat.{ℕ, ◌<◌, ◌≤◌}
use mathlib.Core.Path.{◌≡◌, refl, sym, ap, subst, ◌∙◌}
use mathlib.Core.Logic.{inl, inr, ⊎_elim}
use mathlib.Core.List.Memᴰ
use mathlib.Core.List.{List, [], ◌∷◌, ◌++◌, Memᴰ}
use lib.Dec.{T}
use Rattle.agreement.specs.View.{View, NoneWaits}
use Rattle.agreement.specs.Machine.{InContact as MachineInContact}
use Rattle.agreement.proofs.Turns.{neighbours_map}
use Rattle.table.specs.Tables.{table_of}
use Rattle.state.specs.declared.Entry.{Entry}
use Rattle.state.specs.Layout.{key_limit}
use Rattle.state.specs.Entries.{entry_of}
use Rattle.state.specs.WellFormed.{loaded}
use Rattle.steps.specs.Shelves.{saved_of}
use Rattle.steps.proofs.Steps.{load_accepted}
use Rattle.labs.specs.Lists.{Step, Line, state_from, state_after, state_of}
use Rattle.theorems.specs.Demand3.{HeldBeforeSteps}
use Rattle.theorems.specs.Contact.{HeldBeforePropagates, InContact}
use Rattle.theorems.specs.Surviving.{Element, shelf_then, surviving_line, Surviving}
use Rattle.theorems.specs.Chains.{Silent, Agree, ChainsAgree, Chains, ChainsSurviving, ChainsHold}
use Rattle.theorems.proofs.Lists.{machine, after_list, view_there, entry_there}
use Rattle.theorems.proofs.Latest.{present_or_none, none_newer_own, none_newer, last_written}
use Rattle.theorems.proofs.Contact.{in_contact, from_load_lem, steady_held}
use Rattle.theorems.proofs.Surviving.{surviving}

-- P of each number of a list, one by one, is P of its members
abbrev pub Each : (ℕ → Type 0) → List ℕ → Type 0
Each P [] = Unit {0}
Each P (a ∷ l) = P a × Each P l

pub members : (P : ℕ → Type 0) (l : List ℕ) → Each P l → (a : ℕ) → Memᴰ a l → P a
members P [] h a m = absurd (Memᴰ.not-nil m)
members P (b ∷ l) h a m = ⊎_elim (λ (e : a ≡ b). subst P (sym e) h.0) (λ n. members P l h.1 a n) (Memᴰ.cases_cons m)

-- agents that agree have the same for the key
pub same_words : (s : List ℕ) (k : ℕ) (l : List ℕ) → Agree s k l → (a b : ℕ) → Memᴰ a l → Memᴰ b l → entry_of s a k ≡ entry_of s b k
same_words s k l (inl h) a b m n = h.2 a m ∙ sym (h.2 b n)
same_words s k l (inr h) a b m n = h a m ∙ sym (h b n)

-- a key that does not wait, of words and of the view that they show
pub not_waiting : (bytes s : List ℕ) (k a : ℕ) → k < (table_of bytes).sizes.stigmergy → Silent s k a → T (((machine bytes).view s k).waits a) → ⊥
not_waiting bytes s k a l silent w = let z = subst (λ (v : View Entry). T (v.waits a)) (view_there bytes s k l) w in rw silent at z

module _ (bytes : List ℕ) (few : (table_of bytes).sizes.stigmergy ≤ key_limit) where
  -- from any moment on
  pub agree_since : (before since : List Step) → ChainsAgree bytes (state_after bytes (before ++ since)) (InContact bytes before since)
  agree_since before since k [] h agents near silent = inr (λ a m. absurd (Memᴰ.not-nil m))
  agree_since before since k (b ∷ l) h agents near silent =
      ⊎_elim (λ p. inl (entry_of (state_after bytes end) b k, p, as_first)) (λ e. inr (λ a m. as_first a m ∙ e)) (present_or_none bytes few end k b h)
    where
      end : List Step
      end = before ++ since

      none : NoneWaits (b ∷ l) ((machine bytes).view (state_after bytes end) k)
      none c i = not_waiting bytes (state_after bytes end) k c h (silent c i)

      as_first : (a : ℕ) → Memᴰ a (b ∷ l) → entry_of (state_after bytes end) a k ≡ entry_of (state_after bytes end) b k
      as_first a m =
          sym (entry_there bytes end k a h)
          ∙ (after_list bytes few end).agreement.chain before since refl k ((after_list bytes few end).comparable k) (b ∷ l)
          (neighbours_map (InContact bytes before since k) (MachineInContact (machine bytes) (loaded (table_of bytes)) before since k) (b ∷ l)
          (λ c d i j. in_contact bytes few before since k c d h (agents d j)) near) none a b m (Memᴰ.head refl)
          ∙ entry_there bytes end k b h

  -- links of which more is asked
  asked : (s : List ℕ) (More Held : ℕ → ℕ → ℕ → Type 0) → ((k a b : ℕ) → k < (table_of bytes).sizes.stigmergy → More k a b → Held k a b)
      → ChainsAgree bytes s Held → ChainsAgree bytes s More
  asked s More Held f all k l h agents near = all k l h agents (neighbours_map (More k) (Held k) l (λ a b i j. f k a b h) near)

  module _ (some : 0 < (table_of bytes).sizes.agents) (xs : List Step) where
    abbrev s : List ℕ
    s = state_after bytes xs

    steady : ChainsAgree bytes s (HeldBeforeSteps bytes xs)
    steady = asked s (HeldBeforeSteps bytes xs) (InContact bytes [] xs) (λ k a b h held. from_load_lem bytes few xs k a b h (steady_held bytes few xs k a b held)) (agree_since [] xs)

    chains : Chains bytes s xs
    chains = record {
      steady = steady;
      propagated = asked s (HeldBeforePropagates bytes (loaded (table_of bytes)) xs) (InContact bytes [] xs) (from_load_lem bytes few xs) (agree_since [] xs);
      contact = λ before since e.
          subst (λ (ys : List Step). ChainsAgree bytes (state_after bytes ys) (InContact bytes before since)) (sym e) (agree_since before since);
      two = λ a b k ha hb h there back qa qb.
          same_words s k (a ∷ b ∷ []) (steady k (a ∷ b ∷ []) h (members (λ c. c < (table_of bytes).sizes.agents) (a ∷ b ∷ []) (ha, (hb, tt)))
          (there, back, tt) (members (Silent s k) (a ∷ b ∷ []) (qa, (qb, tt)))) a b (Memᴰ.head refl) (Memᴰ.tail (Memᴰ.head refl));
      none_newer_own = none_newer_own bytes few xs;
      none_newer = none_newer bytes few xs;
      last_written = λ k l e h all whole. last_written bytes few xs k l e h all whole some;
    }

-- state and held states are those that their lines give
module _ (bytes shelf : List ℕ) (es : List Element) (survives : Surviving bytes shelf es) (all : (xs : List Step) → Chains bytes (state_after bytes xs) xs) where
  moved : (s : List ℕ) (l : Line) → s ≡ state_of bytes l → l.start ≡ loaded (table_of bytes) → Chains bytes s l.steps
  moved s l e f = subst (λ (s : List ℕ). Chains bytes s l.steps) (sym (e ∙ ap (λ (u : List ℕ). state_from bytes u l.steps) f)) (all l.steps)

  chains_surviving : ChainsSurviving bytes shelf es
  chains_surviving = record {
    now = moved _ (surviving_line bytes shelf es) survives.state survives.starts;
    held = λ i h n. let w = survives.held i h n in
        (w.0, w.1, moved (saved_of (shelf_then bytes shelf es) i) w.0 w.2 (survives.kept_starts _ w.0 w.1));
  }

pub chains_hold : ChainsHold
chains_hold bytes lent scratch e =
    let limits = (load_accepted bytes lent scratch e).table.sound.shaped.limits in
    let all = chains bytes limits.stigmergy limits.some_agent in
    (all, λ small shelf free es. chains_surviving bytes shelf es (surviving bytes lent scratch small e shelf free es) all)
