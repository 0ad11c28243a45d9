-- The paper's "Choices of a process" on small processes: which of them can tick, and their derivations in order.
use Rattle.std.specs.Prelude.{true, false, ◌≡◌, [], ◌∷◌}
use Rattle.term.specs.declared.Label.{Label}
use Rattle.term.specs.declared.Label.TheVariants.{Ticking, Acting}
use Rattle.term.specs.Terms.{Term, Seq, Par, Tick, Idle, Node, words}
use Rattle.term.specs.Processes.{Process, tick, act, choice, guarded, call, seq, par, Derivation, derivation, derivations}
use Rattle.term.specs.Exposure.{can_tick}

-- a and b are the actions at nodes 1 and 2, P is a + tick at node 3, and Q is b + tick at node 4
abbrev pub a : Process
a = act 1

abbrev pub b : Process
b = act 2

abbrev pub P : Process
P = choice a tick

abbrev pub Q : Process
Q = choice b tick

-- P₂ is guarded 10 tick + (a + guarded 11 tick) at node 5, and Q₂ is guarded 20 tick + (b + guarded 21 tick) at node 6
abbrev pub P₂ : Process
P₂ = choice (guarded 10 tick) (choice a (guarded 11 tick))

abbrev pub Q₂ : Process
Q₂ = choice (guarded 20 tick) (choice b (guarded 21 tick))

-- under no guards
abbrev pub ◌leaving◌ : Label → Term → Derivation
◌leaving◌ l R = derivation l [] R

infix 10 ◌leaving◌
pub record Examples : Type 0 where
  -- a sequence can tick with both: P;Q, but not a;Q and not P;b
  pub tick_of_both : (can_tick (seq P Q (Node 4)) ≡ true) × (can_tick (seq a Q (Node 4)) ≡ false) × (can_tick (seq P b (Node 2)) ≡ false)
  -- a + b: a's, then b's
  pub choice_in_order : derivations (choice a b) ≡
      (Acting 1 leaving Tick)
      ∷ (Acting 2 leaving Tick)
      ∷ []
  -- P;Q: each action of P leaving P';Q; then for each tick of P each derivation of Q, leaving Q'
  pub sequence_in_order : derivations (seq P Q (Node 4)) ≡
      (Acting 1 leaving Seq Tick (Node 4))
      ∷ (Acting 2 leaving Tick)
      ∷ (Ticking leaving Idle)
      ∷ []
  -- P|Q: each action of P leaving P'|Q; each action of Q leaving P|Q'; for each tick of P each derivation of Q, leaving Q'; for each tick of Q each of P, leaving P'
  pub parallel_in_order : derivations (par P (Node 3) Q (Node 4)) ≡
      (Acting 1 leaving Par Tick (Node 4))
      ∷ (Acting 2 leaving Par (Node 3) Tick)
      ∷ (Acting 2 leaving Tick)
      ∷ (Ticking leaving Idle)
      ∷ (Acting 1 leaving Tick)
      ∷ (Ticking leaving Idle)
      ∷ []
  -- the same with two guarded ticks and an action on each side: in `;` and in `|` each tick goes with every derivation of the other side before the
  -- next tick does, and the guards of both are collected
  pub sequence_of_two : derivations (seq P₂ Q₂ (Node 6)) ≡
      (Acting 1 leaving Seq Tick (Node 6))
      ∷ derivation Ticking (10 ∷ 20 ∷ []) Idle
      ∷ derivation (Acting 2) (10 ∷ []) Tick
      ∷ derivation Ticking (10 ∷ 21 ∷ []) Idle
      ∷ derivation Ticking (11 ∷ 20 ∷ []) Idle
      ∷ derivation (Acting 2) (11 ∷ []) Tick
      ∷ derivation Ticking (11 ∷ 21 ∷ []) Idle
      ∷ []
  pub parallel_of_two : derivations (par P₂ (Node 5) Q₂ (Node 6)) ≡
      (Acting 1 leaving Par Tick (Node 6))
      ∷ (Acting 2 leaving Par (Node 5) Tick)
      ∷ derivation Ticking (10 ∷ 20 ∷ []) Idle
      ∷ derivation (Acting 2) (10 ∷ []) Tick
      ∷ derivation Ticking (10 ∷ 21 ∷ []) Idle
      ∷ derivation Ticking (11 ∷ 20 ∷ []) Idle
      ∷ derivation (Acting 2) (11 ∷ []) Tick
      ∷ derivation Ticking (11 ∷ 21 ∷ []) Idle
      ∷ derivation Ticking (20 ∷ 10 ∷ []) Idle
      ∷ derivation (Acting 1) (20 ∷ []) Tick
      ∷ derivation Ticking (20 ∷ 11 ∷ []) Idle
      ∷ derivation Ticking (21 ∷ 10 ∷ []) Idle
      ∷ derivation (Acting 1) (21 ∷ []) Tick
      ∷ derivation Ticking (21 ∷ 11 ∷ []) Idle
      ∷ []
  -- a guard counts wherever it occurs: in (guarded 10 a + guarded 11 tick) ; call of a definition whose body is guarded 20 (guarded 21 b),
  -- under a choice at the left of a sequence, and in a called body
  pub guards_anywhere : derivations (seq (choice (guarded 10 a) (guarded 11 tick)) (call 0 (guarded 20 (guarded 21 b))) (Node 6)) ≡
      derivation (Acting 1) (10 ∷ []) (Seq Tick (Node 6))
      ∷ derivation (Acting 2) (11 ∷ 20 ∷ 21 ∷ []) Tick
      ∷ []
  -- the words of tick ; (idle | node 7): 65,535 sequence, 65,534 parallel, 65,533 tick, 65,532 idle, else a process node's number
  pub residual_words : words (Seq Tick (Par Idle (Node 7))) ≡ 65535 ∷ 65533 ∷ 65534 ∷ 65532 ∷ 7 ∷ []
