-- A term at a place among words: its first word, and its parts.
-- Assumes nothing.
use Prim.Native.Nat.{ℕ, suc, ◌+◌, ◌≤◌, ◌<◌}
use mathlib.Core.Bool.{false}
use mathlib.Core.Path.{◌≡◌, refl, sym, ap, ◌∙◌}
use mathlib.Core.List.{List, [], ◌∷◌, ◌++◌, append_assoc, head-eq_of_cons-eq, tail-eq_of_cons-eq}
use native.Mathlib.Numerals.{add-one}
use native.Mathlib.Omega.{arith}
use lib.ListN.{length, get_or, drop, length-append, length-drop}
use lib.Seq.{drop-cons, drop-drop, drop-append_seam}
use borrow.Author.Tests.{ne_eqb}
use Rattle.table.specs.Tables.{Table, first_root}
use Rattle.term.specs.Terms.{Term, Seq, Par, Tick, Idle, Node, words, seq_word, par_word, tick_word, idle_word}
use Rattle.term.proofs.Words.{words_some}
use Rattle.term.specs.Terms.{is_operator}

abbrev pub first : Term → ℕ
first (Seq p q) = seq_word
first (Par p q) = par_word
first Tick = tick_word
first Idle = idle_word
first (Node n) = n

abbrev pub others : Term → List ℕ
others (Seq p q) = words p ++ words q
others (Par p q) = words p ++ words q
others Tick = []
others Idle = []
others (Node n) = []

pub words_first : (T : Term) → words T ≡ first T ∷ others T
unfolding words
words_first (Seq p q) = refl
words_first (Par p q) = refl
words_first Tick = refl
words_first Idle = refl
words_first (Node n) = refl

-- a list of no length
pub empty : (l : List ℕ) → length l ≡ 0 → l ≡ []
empty [] e = refl
empty (x ∷ l) e = absurd (omega arith)

-- past a part
pub past : (ws : List ℕ) (at : ℕ) (xs rest : List ℕ) → drop at ws ≡ xs ++ rest → drop (at + length xs) ws ≡ rest
past ws at xs rest e = sym (drop-drop (length xs) at ws) ∙ rw e (drop-append_seam xs rest)

-- what stands there is the part and what is past it
pub begins : (ws : List ℕ) (at : ℕ) (xs rest : List ℕ) → drop at ws ≡ xs ++ rest → drop at ws ≡ xs ++ drop (at + length xs) ws
begins ws at xs rest e = e ∙ ap (λ (l : List ℕ). xs ++ l) (sym (past ws at xs rest e))

-- where a term begins, its first word stands, and the others after it
module _ (ws : List ℕ) (at : ℕ) (T : Term) (rest : List ℕ) (e : drop at ws ≡ words T ++ rest) where
  pub term_within : at + length (words T) ≤ length ws
  term_within =
      let f : length (drop at ws) ≡ length (words T) + length rest = ap length e ∙ length-append (words T) rest in
      let g = length-drop at ws in
      let h = words_some T in
      omega arith

  here : at < length ws
  here = let h = words_some T in let w = term_within in omega arith

  both : get_or ws at 0 ∷ drop (suc at) ws ≡ first T ∷ (others T ++ rest)
  both = sym (drop-cons ws at 0 here) ∙ e ∙ rw (words_first T)

  pub word_is : get_or ws at 0 ≡ first T
  word_is = head-eq_of_cons-eq both

  others_are : drop (at + 1) ws ≡ others T ++ rest
  others_are = rw add-one (tail-eq_of_cons-eq both)

-- the two parts of an operator's term
pub record Halves (ws : List ℕ) (at : ℕ) (T p q : Term) (rest : List ℕ) : Type 0 where
  pub left : drop (at + 1) ws ≡ words p ++ (words q ++ rest)
  pub right : drop (at + 1 + length (words p)) ws ≡ words q ++ rest
  pub size : length (words T) ≡ 1 + length (words p) + length (words q)

pub halves : (ws : List ℕ) (at : ℕ) (T p q : Term) (rest : List ℕ) → others T ≡ words p ++ words q → drop at ws ≡ words T ++ rest → Halves ws at T p q rest
halves ws at T p q rest h e =
    let l = others_are ws at T rest e ∙ ap (λ (l : List ℕ). l ++ rest) h ∙ append_assoc (words p) (words q) rest in
    record {
      left = l;
      right = past ws (at + 1) (words p) (words q ++ rest) l;
      size = ap length (words_first T) ∙ (let n = ap length h ∙ length-append (words p) (words q) in omega arith);
    }

-- a node's number is no other word
pub node_plain : (t : Table) → first_root t ≤ 4096 → (n : ℕ) → n < first_root t → is_operator n ≡ false
node_plain t r n h = rw (ne_eqb n seq_word (λ e. omega arith), ne_eqb n par_word (λ e. omega arith))
