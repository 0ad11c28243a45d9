-- A term is read back from its words, and the words that are whole terms are those of a term over process nodes.
-- Assumes nothing.
use Prim.Native.Nat.{ℕ, zero, suc, ◌<◌, ◌≤◌}
use mathlib.Core.Bool.{Bool, true, false, cond, ◌&&◌, ◌||◌}
use mathlib.Core.Logic.{◌↔◌, ⊎_elim}
use mathlib.Core.Path.{◌≡◌, refl, sym, ap, ap₂, ◌∙◌}
use mathlib.Core.List.{List, [], ◌∷◌, ◌++◌, append_assoc, append-nil}
use native.Mathlib.Omega.{arith}
use lib.Dec.{eqb, ltb}
use lib.ListN.{length, get_or}
use borrow.Author.Tests.{eqb-true, ltb-true, lt-ltb, ne_eqb}
use Rattle.basis.proofs.Tests.{not_both, or_either, and_left, and_right}
use Rattle.table.specs.Tables.{Table, kind_at, first_root}
use Rattle.table.specs.Nodes.{is_process}
use Rattle.term.specs.Terms.{Term, Seq, Par, Tick, Idle, Node, words, fronted, terms_of, term_of, is_operator, is_leaf, are_terms}
use Rattle.term.specs.Accepted.{Over}

-- a term whose node numbers are no other words
abbrev pub Low : Term → Type 0
Low (Seq P Q) = Low P × Low Q
Low (Par P Q) = Low P × Low Q
Low Tick = Unit {0}
Low Idle = Unit {0}
Low (Node n) = n < 65532

pub over_low : (t : Table) → first_root t ≤ 65532 → (T : Term) → Over t T → Low T
over_low t r (Seq P Q) o = (over_low t r P o.0, over_low t r Q o.1)
over_low t r (Par P Q) o = (over_low t r P o.0, over_low t r Q o.1)
over_low t r Tick o = tt
over_low t r Idle o = tt
over_low t r (Node n) o = omega arith

pub words_some : (T : Term) → 1 ≤ length (words T)
unfolding words
words_some (Seq P Q) = omega arith
words_some (Par P Q) = omega arith
words_some Tick = omega arith
words_some Idle = omega arith
words_some (Node n) = omega arith

-- every word of a term is below 65,536

abbrev Narrow : List ℕ → Type 0
Narrow ws = (i : ℕ) → get_or ws i 0 < 65536

small_cons : (w : ℕ) (ws : List ℕ) → w < 65536 → Narrow ws → Narrow (w ∷ ws)
small_cons w ws h s zero = h
small_cons w ws h s (suc i) = s i

small_append : (vs ws : List ℕ) → Narrow vs → Narrow ws → Narrow (vs ++ ws)
small_append [] ws r s = s
small_append (v ∷ vs) ws r s = small_cons v (vs ++ ws) (r 0) (small_append vs ws (λ i. r (suc i)) s)

small_nil : Narrow []
small_nil i = omega arith

pub words_small : (T : Term) → Low T → (i : ℕ) → get_or (words T) i 0 < 65536
unfolding words
words_small (Seq P Q) l = small_cons 65535 (words P ++ words Q) (omega arith) (small_append (words P) (words Q) (words_small P l.0) (words_small Q l.1))
words_small (Par P Q) l = small_cons 65534 (words P ++ words Q) (omega arith) (small_append (words P) (words Q) (words_small P l.0) (words_small Q l.1))
words_small Tick l = small_cons 65533 [] (omega arith) small_nil
words_small Idle l = small_cons 65532 [] (omega arith) small_nil
words_small (Node n) l = small_cons n [] (omega arith) small_nil

-- Reading back.

fronted_node : (n : ℕ) (ts : List Term) → n < 65532 → fronted n ts ≡ Node n ∷ ts
fronted_node n ts h = rw (ne_eqb n 65535 (λ e. omega arith), ne_eqb n 65534 (λ e. omega arith), ne_eqb n 65533 (λ e. omega arith), ne_eqb n 65532 (λ e. omega arith))

pub terms_of_words : (T : Term) (ws : List ℕ) → Low T → terms_of (words T ++ ws) ≡ T ∷ terms_of ws
unfolding words terms_of
terms_of_words (Seq P Q) ws l =
    ap (fronted 65535) (ap terms_of (append_assoc (words P) (words Q) ws) ∙ terms_of_words P (words Q ++ ws) l.0 ∙ ap (λ (ts : List Term). P ∷ ts) (terms_of_words Q ws l.1))
terms_of_words (Par P Q) ws l =
    ap (fronted 65534) (ap terms_of (append_assoc (words P) (words Q) ws) ∙ terms_of_words P (words Q ++ ws) l.0 ∙ ap (λ (ts : List Term). P ∷ ts) (terms_of_words Q ws l.1))
terms_of_words Tick ws l = refl
terms_of_words Idle ws l = refl
terms_of_words (Node n) ws l = fronted_node n (terms_of ws) l

pub term_of_words : (T : Term) → Low T → term_of (words T) ≡ T
term_of_words T l = ap (λ (ws : List ℕ). term_of ws) (sym (append-nil (words T))) ∙ ap (λ (ts : List Term). get_or ts 0 Idle) (terms_of_words T [] l)

-- Whole terms.

module _ (t : Table) where
  -- a word that is no operator
  are_node : (n w : ℕ) (ws : List ℕ) → is_operator w ≡ false → is_leaf t w ≡ true → are_terms t (suc n) (w ∷ ws) ≡ are_terms t n ws
  unfolding are_terms
  are_node n w ws e f = rw (are_terms, e, f)

  pub are_terms_words : first_root t ≤ 65532 → (T : Term) (n : ℕ) (ws : List ℕ) → Over t T → are_terms t (suc n) (words T ++ ws) ≡ are_terms t n ws
  unfolding words are_terms
  are_terms_words r (Seq P Q) n ws o =
      ap (are_terms t (suc (suc n))) (append_assoc (words P) (words Q) ws) ∙ are_terms_words r P (suc n) (words Q ++ ws) o.0 ∙ are_terms_words r Q n ws o.1
  are_terms_words r (Par P Q) n ws o =
      ap (are_terms t (suc (suc n))) (append_assoc (words P) (words Q) ws) ∙ are_terms_words r P (suc n) (words Q ++ ws) o.0 ∙ are_terms_words r Q n ws o.1
  are_terms_words r Tick n ws o = refl
  are_terms_words r Idle n ws o = refl
  are_terms_words r (Node k) n ws o =
      are_node n k ws (rw (ne_eqb k 65535 (λ e. omega arith), ne_eqb k 65534 (λ e. omega arith)))
      (rw (ne_eqb k 65533 (λ e. omega arith), ne_eqb k 65532 (λ e. omega arith), lt-ltb k (first_root t) o.0, o.1))

  pub over_whole : first_root t ≤ 65532 → (T : Term) → Over t T → are_terms t 1 (words T) ≡ true
  unfolding are_terms
  over_whole r T o = ap (are_terms t 1) (sym (append-nil (words T))) ∙ are_terms_words r T 0 [] o

  -- words that are n terms over process nodes, one after another
  abbrev Made : ℕ → List ℕ → Type 0
  Made zero ws = ws ≡ []
  Made (suc n) ws = (T : Term) × (rest : List ℕ) × Over t T × Made n rest × (ws ≡ words T ++ rest)

  made_operator : (n w : ℕ) (ws : List ℕ) → is_operator w ≡ true → Made (suc (suc n)) ws → Made (suc n) (w ∷ ws)
  unfolding words
  made_operator n w ws e (P, vs, p, (Q, us, q, m, f), g) =
      let h : ws ≡ (words P ++ words Q) ++ us = g ∙ ap (λ (xs : List ℕ). words P ++ xs) f ∙ sym (append_assoc (words P) (words Q) us) in
      ⊎_elim (λ (i : eqb w 65535 ≡ true). (Seq P Q, us, (p, q), m, ap₂ (λ (x : ℕ) (xs : List ℕ). x ∷ xs) (eqb-true w 65535 i) h))
      (λ (i : eqb w 65534 ≡ true). (Par P Q, us, (p, q), m, ap₂ (λ (x : ℕ) (xs : List ℕ). x ∷ xs) (eqb-true w 65534 i) h)) (or_either (eqb w 65535) (eqb w 65534) e)

  made_leaf : (n w : ℕ) (ws : List ℕ) → is_leaf t w ≡ true → Made n ws → Made (suc n) (w ∷ ws)
  unfolding words
  made_leaf n w ws e m =
      ⊎_elim (λ (i : eqb w 65533 ≡ true). (Tick, ws, tt, m, ap (λ (x : ℕ). x ∷ ws) (eqb-true w 65533 i)))
      (λ i. ⊎_elim (λ (j : eqb w 65532 ≡ true). (Idle, ws, tt, m, ap (λ (x : ℕ). x ∷ ws) (eqb-true w 65532 j)))
      (λ (j : (ltb w (first_root t) && is_process (kind_at t w)) ≡ true).
      (Node w, ws, (ltb-true w (first_root t) (and_left (ltb w (first_root t)) (is_process (kind_at t w)) j), and_right (ltb w (first_root t)) (is_process (kind_at t w)) j), m, refl))
      (or_either (eqb w 65532) (ltb w (first_root t) && is_process (kind_at t w)) i)) (or_either (eqb w 65533) (eqb w 65532 || (ltb w (first_root t) && is_process (kind_at t w))) e)

  made : (n : ℕ) (ws : List ℕ) → are_terms t n ws ≡ true → Made n ws
  unfolding are_terms
  made zero [] e = refl
  made (suc n) [] e = absurd (not_both e refl)
  made zero (w ∷ ws) e = absurd (not_both e refl)
  made (suc n) (w ∷ ws) e = by (is_operator w) refl e (made (suc (suc n)) ws) (made n ws)
    where
      by : (b : Bool) → is_operator w ≡ b → cond b (are_terms t (suc (suc n)) ws) (is_leaf t w && are_terms t n ws) ≡ true
          → (are_terms t (suc (suc n)) ws ≡ true → Made (suc (suc n)) ws) → (are_terms t n ws ≡ true → Made n ws) → Made (suc n) (w ∷ ws)
      by true i f r s = made_operator n w ws i (r f)
      by false i f r s = made_leaf n w ws (and_left (is_leaf t w) (are_terms t n ws) f) (s (and_right (is_leaf t w) (are_terms t n ws) f))

  whole_term : (ws : List ℕ) → are_terms t 1 ws ≡ true → (T : Term) × Over t T × (words T ≡ ws)
  whole_term ws e =
      let m = made 1 ws e in
      (m.0, m.2, sym (m.4 ∙ ap (λ (xs : List ℕ). words m.0 ++ xs) m.3 ∙ append-nil (words m.0)))

  -- one whole term is the words of the term that is read of it
  pub whole_read : first_root t ≤ 65532 → (ws : List ℕ) → are_terms t 1 ws ≡ true → Over t (term_of ws) × (words (term_of ws) ≡ ws)
  whole_read r ws e =
      let m = whole_term ws e in
      let f : term_of ws ≡ m.0 = ap (λ (xs : List ℕ). term_of xs) (sym m.2) ∙ term_of_words m.0 (over_low t r m.0 m.1) in
      (rw f m.1, rw f m.2)

  pub whole_iff : first_root t ≤ 65532 → (ws : List ℕ) → (are_terms t 1 ws ≡ true) ↔ ((T : Term) × Over t T × (words T ≡ ws))
  whole_iff r ws = (whole_term ws, λ m. ap (are_terms t 1) (sym m.2) ∙ over_whole r m.0 m.1)
