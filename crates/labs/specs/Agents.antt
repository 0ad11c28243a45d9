-- Agents ⟨I, L, P, Zc, Zp⟩ and situated systems (E, S): sections 2 and 4.1 of document 000.
use Rattle.std.specs.Prelude.{ℕ, ◌<◌, ◌≤◌, ◌≡◌, Bool, cond, not, ◌&&◌, ◌||◌, eqb}
use Rattle.std.proofs.Math.Option.{Option, none, some}
use Rattle.value.specs.Values.{Value}
use Rattle.state.specs.declared.Insertion.{Insertion}
use Rattle.state.specs.declared.Insertion.TheVariants.{Add, Update, Discard}
use Rattle.term.specs.Terms.{Term}

infixl 60 ◌⟦◌≔◌⟧
infixl 60 ◌∪｛◌｝
infixl 60 ◌∖｛◌｝
infixl 60 ◌∪◌
-- (v, t): a value, by its word, and its timestamp; and, which the document has not (change request 2), the number of the agent that
-- wrote it
pub record Entry : Type 0 where
  pub value : ℕ
  pub time : ℕ
  pub writer : ℕ

-- an interface, or an environment; a local stigmergy; a set of keys
abbrev pub Interface : Type 0
Interface = ℕ → Value

abbrev pub Stigmergy : Type 0
Stigmergy = ℕ → Option Entry

abbrev pub Keys : Type 0
Keys = ℕ → Bool

pub record Agent : Type 0 where
  pub I : Interface
  pub L : Stigmergy
  pub P : Term
  pub Zc : Keys
  pub Zp : Keys

abbrev pub ⟨◌⸴◌⸴◌⸴◌⸴◌⟩ : Interface → Stigmergy → Term → Keys → Keys → Agent
⟨◌⸴◌⸴◌⸴◌⸴◌⟩ I L P Zc Zp = record { I = I; L = L; P = P; Zc = Zc; Zp = Zp }

-- (E, S), with the global clock that tod() reads; the agents of S are numbered
pub record System : Type 0 where
  pub E : Interface
  pub clock : ℕ
  pub agent : ℕ → Agent

-- f[x ↦ e]; Z ∪ {x}, Z \ {x}, Z ∪ W
abbrev pub ◌⟦◌≔◌⟧ : {A : Type 0} → (ℕ → A) → ℕ → A → ℕ → A
◌⟦◌≔◌⟧ f x e = λ y. cond (eqb x y) e (f y)

abbrev pub ◌∪｛◌｝ : Keys → ℕ → Keys
◌∪｛◌｝ Z x = λ y. eqb x y || Z y

abbrev pub ◌∖｛◌｝ : Keys → ℕ → Keys
◌∖｛◌｝ Z x = λ y. not (eqb x y) && Z y

abbrev pub ◌∪◌ : Keys → Keys → Keys
◌∪◌ Z W = λ y. Z y || W y

-- TABLE 1. L ⊕ (x, e) is L', by one of its rules; that the rule is told is change request 5's
pub data Inserted (L : Stigmergy) (x : ℕ) (e : Entry) : Insertion → Stigmergy → Type 0 where
  add : L x ≡ none → Inserted L x e Add (L ⟦ x ≔ some e ⟧)
  update : {f : Entry} → L x ≡ some f → f.time < e.time → Inserted L x e Update (L ⟦ x ≔ some e ⟧)
  discard : {f : Entry} → L x ≡ some f → e.time ≤ f.time → Inserted L x e Discard L
