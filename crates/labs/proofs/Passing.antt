-- TABLES 1 AND 8 determine what they give: by a message of one kind on one key a system goes on in one way, and each agent inserts the entry by one rule.
-- Assumes nothing.
use Prim.Native.Nat.{ℕ, ◌<◌}
use mathlib.Core.Bool.{true}
use mathlib.Core.Logic.{⊎_elim}
use mathlib.Core.Option.{Option, none, some}
use mathlib.Core.Path.{◌≡◌, refl, sym, ap, ap₂, subst, ◌∙◌}
use native.Mathlib.Omega.{arith}
use Rattle.basis.proofs.Numbers.{how_many_ext}
use Rattle.basis.proofs.Tests.{same_or_other}
use Rattle.table.specs.Tables.{Table}
use Rattle.state.specs.declared.Insertion.{Insertion}
use Rattle.state.specs.declared.Insertion.TheVariants.{Add, Update, Discard}
use Rattle.state.specs.Entries.{is_add, is_update}
use Rattle.steps.specs.Tallies.{tally}
use Rattle.labs.specs.Agents.{⟨◌⸴◌⸴◌⸴◌⸴◌⟩, Agent, Entry, Interface, Stigmergy, System, ◌⟦◌≔◌⟧, ◌∪｛◌｝, ◌∖｛◌｝, Inserted, add, update, discard}
use Rattle.labs.specs.Systems.{Kind, put, qry, Message, message, Sends, PROPAGATE, CONFIRM, Older, Newer, Linked, Receives, PUT, QRY₁, QRY₂, STAY, Passed}
use Rattle.labs.specs.Demand2.{rule_tally, Same}

-- TABLE 1
no_entry : {o : Option Entry} {f : Entry} → o ≡ none → o ≡ some f → ⊥
no_entry p q = let z : ◌≡◌ {A = ℕ} 0 1 = cc in omega arith

one_time : {o : Option Entry} {f g : Entry} → o ≡ some f → o ≡ some g → f.time ≡ g.time
one_time {o} {f} {g} p q = let e : f ≡ g = cc in ap (λ (h : Entry). h.time) e

pub inserted_unique : {L : Stigmergy} {x : ℕ} {e : Entry} {L' L'' : Stigmergy} {p q : Insertion} → Inserted L x e p L' → Inserted L x e q L'' → (p ≡ q) × (L' ≡ L'')
inserted_unique (add p) (add q) = (refl, refl)
inserted_unique (add p) (update q r) = absurd (no_entry p q)
inserted_unique (add p) (discard q r) = absurd (no_entry p q)
inserted_unique (update p u) (add q) = absurd (no_entry q p)
inserted_unique (update p u) (update q r) = (refl, refl)
inserted_unique (update p u) (discard q r) = absurd (omega (arith, one_time p q))
inserted_unique (discard p u) (add q) = absurd (no_entry q p)
inserted_unique (discard p u) (update q r) = absurd (omega (arith, one_time p q))
inserted_unique (discard p u) (discard q r) = (refl, refl)

-- what is newer than all that was there is added, or replaces it
abbrev pub taken_by : Option Entry → Insertion
taken_by none = Add
taken_by (some f) = Update

pub inserted : (L : Stigmergy) (x : ℕ) (e : Entry) → ((f : Entry) → L x ≡ some f → f.time < e.time) → Inserted L x e (taken_by (L x)) (L ⟦ x ≔ some e ⟧)
inserted L x e h = by (L x) refl
  where
    by : (o : Option Entry) → L x ≡ o → Inserted L x e (taken_by o) (L ⟦ x ≔ some e ⟧)
    by none i = add i
    by (some f) i = update i (h f i)

-- TABLE 8
older_or_newer : (o : Option Entry) (t : ℕ) → Older o t → Newer o t → ⊥
older_or_newer none t p q = q
older_or_newer (some f) t p q = omega arith

-- an agent that takes the entry, and one that answers
abbrev took_entry : Message → Agent → Stigmergy → Agent
took_entry m a L' = ⟨ a.I ⸴ L' ⸴ a.P ⸴ a.Zc ∖｛ m.x ｝ ⸴ a.Zp ∪｛ m.x ｝ ⟩

abbrev answered : Message → Agent → Agent
answered m a = ⟨ a.I ⸴ a.L ⸴ a.P ⸴ a.Zc ⸴ a.Zp ∪｛ m.x ｝ ⟩

module _ {t : Table} {E : Interface} {m : Message} {a : Agent} where
  when_older : {L' : Stigmergy} {p q : Insertion} {b : Agent} → Linked t E m a → Older (a.L m.x) m.entry.time → Inserted a.L m.x m.entry p L' →
      Receives t E m a q b → (p ≡ q) × (took_entry m a L' ≡ b)
  when_older l o i (PUT _ _ _ j) = let u = inserted_unique i j in (u.0, ap (took_entry m a) u.1)
  when_older l o i (QRY₁ _ _ _ j) = let u = inserted_unique i j in (u.0, ap (took_entry m a) u.1)
  when_older l o i (QRY₂ _ _ n) = absurd (older_or_newer (a.L m.x) m.entry.time o n)
  when_older l o i (STAY u _) = absurd (u l o)

  when_newer : {q : Insertion} {b : Agent} → m.kind ≡ qry → Linked t E m a → Newer (a.L m.x) m.entry.time →
      Receives t E m a q b → (Discard ≡ q) × (answered m a ≡ b)
  when_newer k l n (PUT _ _ o _) = absurd (older_or_newer (a.L m.x) m.entry.time o n)
  when_newer k l n (QRY₁ _ _ o _) = absurd (older_or_newer (a.L m.x) m.entry.time o n)
  when_newer k l n (QRY₂ _ _ _) = (refl, refl)
  when_newer k l n (STAY _ v) = absurd (v k l n)

  when_neither : {q : Insertion} {b : Agent} → (Linked t E m a → Older (a.L m.x) m.entry.time → ⊥) →
      (m.kind ≡ qry → Linked t E m a → Newer (a.L m.x) m.entry.time → ⊥) → Receives t E m a q b → (Discard ≡ q) × (a ≡ b)
  when_neither u v (PUT _ l o _) = absurd (u l o)
  when_neither u v (QRY₁ _ l o _) = absurd (u l o)
  when_neither u v (QRY₂ k l n) = absurd (v k l n)
  when_neither u v (STAY _ _) = (refl, refl)

  pub receives_unique : {p q : Insertion} {b c : Agent} → Receives t E m a p b → Receives t E m a q c → (p ≡ q) × (b ≡ c)
  receives_unique (PUT k l o i) h = when_older l o i h
  receives_unique (QRY₁ k l o i) h = when_older l o i h
  receives_unique (QRY₂ k l n) h = when_newer k l n h
  receives_unique (STAY u v) h = when_neither u v h

put_or_qry : put ≡ qry → ⊥
put_or_qry e = let z : ◌≡◌ {A = ℕ} 0 1 = cc in omega arith

-- an agent sends one message of a kind on a key, and goes on in one way; the key is in the set
sends_unique : {a b c : Agent} {m m' : Message} → Sends a m b → Sends a m' c → m.kind ≡ m'.kind → m.x ≡ m'.x → (m.entry ≡ m'.entry) × (b ≡ c)
sends_unique {a} (PROPAGATE {x = x} p q) (PROPAGATE {x = y} r s) k h = (cc, ap (λ (z : ℕ). ⟨ a.I ⸴ a.L ⸴ a.P ⸴ a.Zc ⸴ a.Zp ∖｛ z ｝ ⟩) h)
sends_unique (PROPAGATE p q) (CONFIRM r s) k h = absurd (put_or_qry k)
sends_unique (CONFIRM p q) (PROPAGATE r s) k h = absurd (put_or_qry (sym k))
sends_unique {a} (CONFIRM p q) (CONFIRM r s) k h = (cc, ap (λ (z : ℕ). ⟨ a.I ⸴ a.L ⸴ a.P ⸴ a.Zc ∖｛ z ｝ ⸴ a.Zp ⟩) h)

pub sends_zp : {a b : Agent} {m : Message} → Sends a m b → m.kind ≡ put → a.Zp m.x ≡ true
sends_zp (PROPAGATE p q) e = p
sends_zp (CONFIRM p q) e = absurd (put_or_qry (sym e))

pub sends_zc : {a b : Agent} {m : Message} → Sends a m b → m.kind ≡ qry → a.Zc m.x ≡ true
sends_zc (PROPAGATE p q) e = absurd (put_or_qry e)
sends_zc (CONFIRM p q) e = p

module _ {t : Table} {agents x : ℕ} {kind : Kind} {k : ℕ} {rule rule' : ℕ → Insertion} {S S' S'' : System}
    (p : Passed t agents x kind k rule S S') (q : Passed t agents x kind k rule' S S'') where
  sent : (p.entry ≡ q.entry) × (S'.agent x ≡ S''.agent x)
  sent = sends_unique p.sends q.sends refl refl

  agent_alike : (y : ℕ) → y < agents → (rule y ≡ rule' y) × (S'.agent y ≡ S''.agent y)
  agent_alike y l =
      ⊎_elim (λ (e : y ≡ x). rw e (p.itself ∙ sym q.itself, sent.1))
      (λ (d : y ≡ x → ⊥). receives_unique (p.receives y l d)
      (subst (λ (e : Entry). Receives t S.E (message kind (S.agent x) k e) (S.agent y) (rule' y) (S''.agent y)) (sym sent.0) (q.receives y l d)))
      (same_or_other y x)

  pub passed_unique : Same agents S' S''
  passed_unique = record {
    environment_same = p.environment_stays ∙ sym q.environment_stays;
    clock_same = p.clock_stays ∙ sym q.clock_stays;
    agents_same = λ y l. (agent_alike y l).1;
  }

  pub passed_count : rule_tally rule agents ≡ rule_tally rule' agents
  passed_count =
      ap₂ tally (how_many_ext (λ (y : ℕ). is_add (rule y)) (λ (y : ℕ). is_add (rule' y)) agents (λ y l. ap is_add (agent_alike y l).0))
      (how_many_ext (λ (y : ℕ). is_update (rule y)) (λ (y : ℕ). is_update (rule' y)) agents (λ y l. ap is_update (agent_alike y l).0))
