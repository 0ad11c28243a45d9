-- Agents and systems: Tables 7, 8, 15 and 16.
-- PAR, COMM and ASSOC of Table 8 are not needed: the agents of a system are numbered, and a rule names the one that goes on.
use Rattle.std.specs.Prelude.{ℕ, suc, ◌<◌, Bool, true, false, ◌&&◌, ◌≡◌, List, [], ◌∷◌}
use Rattle.std.proofs.Math.Option.{Option, none, some}
use Rattle.std.specs.Prelude.{Some}
use Rattle.table.specs.Tables.{Table}
use Rattle.state.specs.declared.Insertion.{Insertion}
use Rattle.state.specs.declared.Insertion.TheVariants.{Discard}
use Rattle.term.specs.declared.Label.TheVariants.{Ticking, Acting}
use Rattle.term.specs.Terms.{Term}
use Rattle.term.specs.Processes.{Derivation, derivation}
use Rattle.labs.specs.Agents.{⟨◌⸴◌⸴◌⸴◌⸴◌⟩, Agent, Entry, Interface, Stigmergy, Keys, System, ◌⟦◌≔◌⟧, ◌∪｛◌｝, ◌∖｛◌｝, ◌∪◌, Inserted}
use Rattle.labs.specs.Expressions.{Expr, Knowledge, E⟦◌⟧◌⇓◌, K⟦◌⟧, K⟦◌⟧ᵇ, ◌⊨◌, guard_of, φ}
use Rattle.labs.specs.Processes.{Variable, attribute, stigmergy, environment, assign, action_of, Tree, Moves}

infix 30 ◌▹◌
-- Zc = Zp = ∅
abbrev pub Settled : Agent → Type 0
Settled a = (x : ℕ) → (a.Zc x ≡ false) × (a.Zp x ≡ false)

-- the keys of Z that have an entry: the paper's house rule, which the document lacks (a key without one could never be confirmed)
abbrev pub present : Option Entry → Bool
present none = false
present (some e) = true

abbrev pub known : Agent → Keys → Keys
known a Z = λ x. Z x && present (a.L x)

-- TABLES 7 AND 15. `Wills t a d w a'`: by the derivation d of its process, agent a is willing to do w, and would go on as a'.
-- w is ε, or e ▹ x: to assign the value of e to x
pub data Will : Type 0 where
  ε : Will
  ◌▹◌ : Expr → Variable → Will

abbrev pub onward : Agent → Term → Keys → Agent
onward a P' Z = ⟨ a.I ⸴ a.L ⸴ P' ⸴ a.Zc ∪ known a Z ⸴ a.Zp ⟩

pub data Wills (t : Table) (a : Agent) : Derivation → Will → Agent → Type 0 where
  SKIP : {T : Tree} {g : List ℕ} {P' : Term} → Moves t T a.P Ticking g P' → Settled a →
      Wills t a (derivation Ticking g P') ε (onward a P' (λ x. false))
  ATTR : {n x : ℕ} {e : Expr} {T : Tree} {g : List ℕ} {P' : Term} → Moves t T a.P (Acting n) g P' → action_of t n ≡ assign (attribute x) e → Settled a →
      Wills t a (derivation (Acting n) g P') (e ▹ attribute x) (onward a P' K⟦ e ⟧)
  LSTIG : {n x : ℕ} {e : Expr} {T : Tree} {g : List ℕ} {P' : Term} → Moves t T a.P (Acting n) g P' → action_of t n ≡ assign (stigmergy x) e → Settled a →
      Wills t a (derivation (Acting n) g P') (e ▹ stigmergy x) (onward a P' K⟦ e ⟧)
  ENV : {n x : ℕ} {e : Expr} {T : Tree} {g : List ℕ} {P' : Term} → Moves t T a.P (Acting n) g P' → action_of t n ≡ assign (environment x) e → Settled a →
      Wills t a (derivation (Acting n) g P') (e ▹ environment x) (onward a P' K⟦ e ⟧)

-- TABLE 16. AWAIT: E, I, L ⊨ b for each guard b of a derivation, judged before the step; then Zc gains K⟦b⟧
abbrev pub alone : Interface → Agent → Knowledge
alone E a = record { E = E; sender = a; receiver = a }

abbrev pub Await : Table → Interface → Agent → List ℕ → Type 0
Await t E a [] = Unit {0}
Await t E a (b ∷ g) = (alone E a ⊨ guard_of t b) × Await t E a g

abbrev pub guard_keys : Table → List ℕ → Keys
guard_keys t [] = λ x. false
guard_keys t (b ∷ g) = K⟦ guard_of t b ⟧ᵇ ∪ guard_keys t g

abbrev pub awaited : Table → Agent → List ℕ → Agent → Agent
awaited t a g a' = ⟨ a'.I ⸴ a'.L ⸴ a'.P ⸴ a'.Zc ∪ known a (guard_keys t g) ⸴ a'.Zp ⟩

-- one agent, of number n, in its environment E at clock T; tod() is the clock's next number. The clock rises at a stigmergy write only, by
-- the paper; section 2.5 would raise it at every transition. That EVAL-L names n as the writer is change request 2's
pub data Acts (t : Table) (E : Interface) (T n : ℕ) (a : Agent) (d : Derivation) : Interface → ℕ → Agent → Type 0 where
  -- SKIP's ε in an environment, for which Table 16 prints no rule
  EPSILON : {a' : Agent} → Wills t a d ε a' → Await t E a d.guards → Acts t E T n a d E T (awaited t a d.guards a')
  EVAL-I : {e : Expr} {x : ℕ} {a' : Agent} (v : ℕ) → Wills t a d (e ▹ attribute x) a' → Await t E a d.guards → E⟦ e ⟧ alone E a ⇓ v →
      Acts t E T n a d E T (awaited t a d.guards ⟨ a'.I ⟦ x ≔ Some v ⟧ ⸴ a'.L ⸴ a'.P ⸴ a'.Zc ⸴ a'.Zp ⟩)
  EVAL-L : {e : Expr} {x : ℕ} {a' : Agent} {rule : Insertion} {L' : Stigmergy} (v : ℕ) → Wills t a d (e ▹ stigmergy x) a' → Await t E a d.guards → E⟦ e ⟧ alone E a ⇓ v →
      Inserted a'.L x (record { value = v; time = suc T; writer = n }) rule L' →
      Acts t E T n a d E (suc T) (awaited t a d.guards ⟨ a'.I ⸴ L' ⸴ a'.P ⸴ a'.Zc ⸴ a'.Zp ∪｛ x ｝ ⟩)
  EVAL-E : {e : Expr} {x : ℕ} {a' : Agent} (v : ℕ) → Wills t a d (e ▹ environment x) a' → Await t E a d.guards → E⟦ e ⟧ alone E a ⇓ v →
      Acts t E T n a d (E ⟦ x ≔ Some v ⟧) T (awaited t a d.guards a')

-- PAR-E: agent x acts, and the others stay. It is not applied to messages: as printed it would let any part of a system receive nothing,
-- and so a propagate reach nobody. By 2.3 (PUT is applied until all neighbours have it) and by the paper every other agent receives
pub record Acted (t : Table) (agents x : ℕ) (d : Derivation) (S S' : System) : Type 0 where
  pub there : x < agents
  pub acts : Acts t S.E S.clock x (S.agent x) d S'.E S'.clock (S'.agent x)
  pub others : (y : ℕ) → y < agents → (y ≡ x → ⊥) → S'.agent y ≡ S.agent y

-- TABLE 8. put(I, L, x, v, t) and qry(I, L, x, v, t): which of them, the sender as it was, the key and the entry, its writer with it
pub data Kind : Type 0 where
  put qry : Kind

pub record Message : Type 0 where
  pub kind : Kind
  pub sender : Agent
  pub x : ℕ
  pub entry : Entry

abbrev pub message : Kind → Agent → ℕ → Entry → Message
message kind a x e = record { kind = kind; sender = a; x = x; entry = e }

pub data Sends (a : Agent) : Message → Agent → Type 0 where
  PROPAGATE : {x : ℕ} {e : Entry} → a.Zp x ≡ true → a.L x ≡ some e →
      Sends a (message put a x e) ⟨ a.I ⸴ a.L ⸴ a.P ⸴ a.Zc ⸴ a.Zp ∖｛ x ｝ ⟩
  -- the table's printed Zp \ {x} is a slip
  CONFIRM : {x : ℕ} {e : Entry} → a.Zc x ≡ true → a.L x ≡ some e →
      Sends a (message qry a x e) ⟨ a.I ⸴ a.L ⸴ a.P ⸴ a.Zc ∖｛ x ｝ ⸴ a.Zp ⟩

-- an entry older, or newer, than one of time t; ⊥ is older than any
abbrev pub Older : Option Entry → ℕ → Type 0
Older none t = Unit {0}
Older (some f) t = f.time < t

abbrev pub Newer : Option Entry → ℕ → Type 0
Newer none t = ⊥
Newer (some f) t = t < f.time

-- what a link predicate is evaluated against, from sender x to receiver y; it looks at no environment key (refusal 5)
abbrev pub between : System → ℕ → ℕ → Knowledge
between S x y = record { E = S.E; sender = S.agent x; receiver = S.agent y }

-- the link predicate of the message's key holds from its sender to a
abbrev pub Linked : Table → Interface → Message → Agent → Type 0
Linked t E m a = record { E = E; sender = m.sender; receiver = a } ⊨ φ t m.x

-- `Receives t E m a rule a'`: message m makes another agent a into a', by this rule of Table 1; Discard where no entry is inserted. Table 8 as printed labels
-- PUT's conclusion qry, prints QRY₁ in QRY₂'s place, and has neither that a is linked nor that its entry is older or newer: these are from
-- 2.3's prose and from the paper
pub data Receives (t : Table) (E : Interface) (m : Message) (a : Agent) : Insertion → Agent → Type 0 where
  PUT : {rule : Insertion} {L' : Stigmergy} → m.kind ≡ put → Linked t E m a → Older (a.L m.x) m.entry.time → Inserted a.L m.x m.entry rule L' →
      Receives t E m a rule ⟨ a.I ⸴ L' ⸴ a.P ⸴ a.Zc ∖｛ m.x ｝ ⸴ a.Zp ∪｛ m.x ｝ ⟩
  QRY₁ : {rule : Insertion} {L' : Stigmergy} → m.kind ≡ qry → Linked t E m a → Older (a.L m.x) m.entry.time → Inserted a.L m.x m.entry rule L' →
      Receives t E m a rule ⟨ a.I ⸴ L' ⸴ a.P ⸴ a.Zc ∖｛ m.x ｝ ⸴ a.Zp ∪｛ m.x ｝ ⟩
  QRY₂ : m.kind ≡ qry → Linked t E m a → Newer (a.L m.x) m.entry.time →
      Receives t E m a Discard ⟨ a.I ⸴ a.L ⸴ a.P ⸴ a.Zc ⸴ a.Zp ∪｛ m.x ｝ ⟩
  -- Table 8 prints no rule for an agent that none above reaches: it stays as it is
  STAY : (Linked t E m a → Older (a.L m.x) m.entry.time → ⊥) →
      (m.kind ≡ qry → Linked t E m a → Newer (a.L m.x) m.entry.time → ⊥) → Receives t E m a Discard a

-- MSG: agent x sends a message on key k, every other agent receives it, and the environment and the clock stay; `rule` tells how each inserted the entry
pub record Passed (t : Table) (agents x : ℕ) (kind : Kind) (k : ℕ) (rule : ℕ → Insertion) (S S' : System) : Type 0 where
  pub there : x < agents
  pub entry : Entry
  pub sends : Sends (S.agent x) (message kind (S.agent x) k entry) (S'.agent x)
  pub itself : rule x ≡ Discard
  pub receives : (y : ℕ) → y < agents → (y ≡ x → ⊥) → Receives t S.E (message kind (S.agent x) k entry) (S.agent y) (rule y) (S'.agent y)
  pub environment_stays : S'.E ≡ S.E
  pub clock_stays : S'.clock ≡ S.clock
