-- Residuals: what is left of a process, a term over the table's process nodes, and the words that it is written as.
use Rattle.std.specs.Prelude.{ℕ, zero, suc, Bool, true, false, cond, ◌&&◌, ◌||◌, List, [], ◌∷◌, ◌++◌, eqb, ltb, get_or, drop}
use Rattle.table.specs.Tables.{Table, kind_at, first_root}
use Rattle.table.specs.Nodes.{is_process}

pub data Term : Type 0 where
  Seq Par : Term → Term → Term
  Tick Idle : Term
  Node : ℕ → Term

-- P is R, or a part of it
pub data Subterm (P : Term) : Term → Type 0 where
  whole : Subterm P P
  seq_left : {Q R : Term} → Subterm P Q → Subterm P (Seq Q R)
  seq_right : {Q R : Term} → Subterm P R → Subterm P (Seq Q R)
  par_left : {Q R : Term} → Subterm P Q → Subterm P (Par Q R)
  par_right : {Q R : Term} → Subterm P R → Subterm P (Par Q R)

abbrev pub seq_word : ℕ
seq_word = 65535

abbrev pub par_word : ℕ
par_word = 65534

abbrev pub tick_word : ℕ
tick_word = 65533

abbrev pub idle_word : ℕ
idle_word = 65532

-- prefix order: an operator's word, its left part, its right part
unfoldable pub words : Term → List ℕ
words (Seq P Q) = seq_word ∷ (words P ++ words Q)
words (Par P Q) = par_word ∷ (words P ++ words Q)
words Tick = tick_word ∷ []
words Idle = idle_word ∷ []
words (Node n) = n ∷ []

-- a word in front of terms that stand one after another: an operator takes the first two of them
abbrev pub fronted : ℕ → List Term → List Term
fronted w ts =
    cond (eqb w seq_word) (Seq (get_or ts 0 Idle) (get_or ts 1 Idle) ∷ drop 2 ts)
    (cond (eqb w par_word) (Par (get_or ts 0 Idle) (get_or ts 1 Idle) ∷ drop 2 ts)
    (cond (eqb w tick_word) (Tick ∷ ts)
    (cond (eqb w idle_word) (Idle ∷ ts)
    (Node w ∷ ts))))

-- the terms that some words are, one after another
unfoldable pub terms_of : List ℕ → List Term
terms_of [] = []
terms_of (w ∷ ws) = fronted w (terms_of ws)

-- the term that some words begin with: it undoes `words`
abbrev pub term_of : List ℕ → Term
term_of ws = get_or (terms_of ws) 0 Idle

-- a word that is an operator
abbrev pub is_operator : ℕ → Bool
is_operator w = eqb w seq_word || eqb w par_word

module _ (t : Table) where
  -- a word that is a term by itself: tick, idle or a process node
  abbrev pub is_leaf : ℕ → Bool
  is_leaf w = eqb w tick_word || (eqb w idle_word || (ltb w (first_root t) && is_process (kind_at t w)))

  -- the words are this many whole terms over process nodes, one after another
  unfoldable pub are_terms : ℕ → List ℕ → Bool
  are_terms zero [] = true
  are_terms (suc n) [] = false
  are_terms zero (w ∷ ws) = false
  are_terms (suc n) (w ∷ ws) = cond (is_operator w) (are_terms (suc (suc n)) ws) (is_leaf w && are_terms n ws)
