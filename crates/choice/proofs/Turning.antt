-- Each step from a node towards its choice is right, and goes down.
-- Assumes nothing.
use Prim.Native.Nat.{ℕ, zero, suc, ◌+◌, ◌*◌, ◌-◌, ◌<◌, ◌≤◌, zero-le}
use mathlib.Core.Bool.{Bool, true, false, not, cond, ◌||◌}
use mathlib.Core.Logic.{⊎_elim}
use mathlib.Core.Path.{◌≡◌, refl, sym, ap, ap₂, subst, ◌∙◌}
use mathlib.Core.List.{List, [], ◌∷◌, ◌++◌, append-nil}
use native.Mathlib.Nat.{le-max_left, le-max_right, max-le}
use native.Mathlib.Omega.{arith}
use lib.ListN.{length, length-append, get_or}
use borrow.Author.Tests.{lt-ltb, le-ltb, ltb-true}
use Rattle.basis.proofs.Tests.{lt_or_le, and_left, and_right, cond_true}
use Rattle.table.specs.Tables.{Table, kind_at, p_at, q_at, first_root, body_at}
use Rattle.table.specs.Sound.{Sound, LowerProcess, LowerGuard}
use Rattle.table.proofs.Promises.{guarded_operands, call_operands, body_process}
use Rattle.term.specs.declared.Label.{Label}
use Rattle.term.specs.declared.Label.TheVariants.{Ticking, Acting}
use Rattle.term.specs.declared.Mode.{Mode}
use Rattle.term.specs.declared.Mode.TheVariants.{Actions, Ticks}
use Rattle.term.specs.Terms.{Term, Seq, Par, Tick, Idle, Node, words, seq_word, par_word, tick_word, idle_word}
use Rattle.term.specs.Processes.{Process, idle, tick, act, choice, guarded, call, seq, par, Derivation, derivation, derivations, before, beside_right, beside_left, by_kind, defined, node_process}
use Rattle.term.specs.Choices.{tick_count, count_in, actions_of}
use Rattle.term.specs.Exposure.{can_tick, calls_below}
use Rattle.term.proofs.Counting.{count_choice, count_guarded, can_tick_iff}
use Rattle.term.proofs.Opened.{sound_lower, process_opened}
use Rattle.term.proofs.Calls.{body_same, call_opened}
use Rattle.term.proofs.Exposed.{node_calls}
use Rattle.accept.specs.declared.Counts.{Counts}
use Rattle.accept.specs.Counts.{Capped, true_counts}
use Rattle.accept.specs.Scratch.{pair_at}
use Rattle.accept.specs.Prepared.{Prepared}
use Rattle.choice.specs.declared.Goal.{Goal}
use Rattle.choice.specs.declared.Pick.{Pick}
use Rattle.choice.specs.declared.Pick.TheVariants.{LeftActs, RightActs, LeftTicks, RightTicks}
use Rattle.choice.specs.declared.Side.{Side}
use Rattle.choice.specs.declared.Side.TheVariants.{Alone, Under, After}
use Rattle.choice.specs.declared.Kept.TheVariants.{Nothing}
use Rattle.choice.specs.declared.Turn.{Turn}
use Rattle.choice.specs.declared.Turn.TheVariants.{End, On}
use Rattle.choice.specs.Chosen.{chosen_in}
use Rattle.choice.specs.Picks.{acting_of, total_of, pick_of}
use Rattle.choice.specs.Turns.{goal_of, pick_turn, choice_turn, exposure, chosen_at, ahead, Reached, Nearer, side_guards, SideReached, Around, Ended, Onward, Turned}
use Rattle.choice.proofs.Chosen.{no_idle, chosen_tick, chosen_act, chosen_guarded, chosen_choice_left, chosen_choice_right, chosen_same, count_same}
use Rattle.choice.proofs.Picking.{acting_true, total_true, SeqPicked, ParPicked, seq_picked, par_picked}

-- a derivation that ends a walk
ended : (d : Derivation) (l : Label) (T : Term) (w : ℕ) → words T ≡ w ∷ [] → d ≡ derivation l [] T → Ended d l w
ended d l T w f e =
    record { label = ap (λ (x : Derivation). x.label) e; guards = ap (λ (x : Derivation). x.guards) e; words = ap (λ (x : Derivation). words x.leaving) e ∙ f }

pub ended_tick : (d : Derivation) → d ≡ derivation Ticking [] Idle → Ended d Ticking idle_word
unfolding words
ended_tick d e = ended d Ticking Idle idle_word refl e

ended_act : (d : Derivation) (n : ℕ) → d ≡ derivation (Acting n) [] Tick → Ended d (Acting n) tick_word
unfolding words
ended_act d n e = ended d (Acting n) Tick tick_word refl e

-- the ways to stand around a derivation
module _ (d e : Derivation) where
  around_by : (gs front back : List ℕ) (f : Term → Term) → d ≡ derivation e.label (gs ++ e.guards) (f e.leaving) → words (f e.leaving) ≡ front ++ (words e.leaving ++ back)
      → Around d e gs front back
  around_by gs front back f h w =
      record { label = ap (λ (x : Derivation). x.label) h; guards = ap (λ (x : Derivation). x.guards) h; words = ap (λ (x : Derivation). words x.leaving) h ∙ w }

  pub around_under : (gs : List ℕ) → d ≡ derivation e.label (gs ++ e.guards) e.leaving → Around d e gs [] []
  around_under gs h = around_by gs [] [] (λ T. T) h (sym (append-nil (words e.leaving)))

  module _ (q : Term) where
    pub around_before : d ≡ before q e → Around d e [] (seq_word ∷ []) (words q)
    unfolding words
    around_before h = around_by [] (seq_word ∷ []) (words q) (λ T. Seq T q) h refl

    pub around_right : d ≡ beside_right q e → Around d e [] (par_word ∷ []) (words q)
    unfolding words
    around_right h = around_by [] (par_word ∷ []) (words q) (λ T. Par T q) h refl

    pub around_left : d ≡ beside_left q e → Around d e [] (par_word ∷ words q) []
    unfolding words
    around_left h = around_by [] (par_word ∷ words q) [] (λ T. Par q T) h (ap (λ (ws : List ℕ). par_word ∷ (words q ++ ws)) (sym (append-nil (words e.leaving))))

pub around_size : {d e : Derivation} {gs front back : List ℕ} → Around d e gs front back → length (words d.leaving) ≡ length front + (length (words e.leaving) + length back)
around_size a = ap length a.words ∙ simp length-append

-- no level with the exposed calls below it is lower
pub exposure_least : (level : ℕ) (P : Process) → calls_below level P ≡ true → exposure P ≤ level
unfolding exposure calls_below
exposure_least level idle e = zero-le
exposure_least level tick e = zero-le
exposure_least level (act n) e = zero-le
exposure_least level (choice P Q) e =
    max-le (exposure_least level P (and_left (calls_below level P) (calls_below level Q) e)) (exposure_least level Q (and_right (calls_below level P) (calls_below level Q) e))
exposure_least level (guarded g P) e = exposure_least level P e
exposure_least level (call d P) e = ltb-true d level e
exposure_least level (seq P Q q) e =
    max-le (exposure_least level P (and_left (calls_below level P) (not (can_tick P) || calls_below level Q) e))
    (by (can_tick P) (exposure Q) (exposure_least level Q) (and_right (calls_below level P) (not (can_tick P) || calls_below level Q) e))
  where
    by : (b : Bool) (x : ℕ) → (calls_below level Q ≡ true → x ≤ level) → (not b || calls_below level Q) ≡ true → cond b x 0 ≤ level
    by true x f g = f g
    by false x f g = zero-le
exposure_least level (par P p Q q) e =
    max-le (exposure_least level P (and_left (calls_below level P) (calls_below level Q) e)) (exposure_least level Q (and_right (calls_below level P) (calls_below level Q) e))

-- a walk is at a goal whose node names p and q
pub record Here (t : Table) (s : List ℕ) (g : Goal ℕ) (p q : ℕ) : Type 0 where
  pub ready : Prepared t s
  pub reached : Reached t g
  pub p_is : p ≡ p_at t g.from
  pub q_is : q ≡ q_at t g.from

module _ {t : Table} {s : List ℕ} {g : Goal ℕ} {p q : ℕ} (here : Here t s g p q) where
  abbrev n : ℕ
  n = g.from

  abbrev m : Mode
  m = g.mode

  abbrev c : ℕ
  c = g.choice

  abbrev sound : Sound t
  sound = here.ready.checked.sound

  abbrev N : ℕ → Process
  N k = node_process t k

  named : (P : ℕ → ℕ → Type 0) → P (p_at t n) (q_at t n) → P p q
  named P h = subst (λ (i : ℕ). P i q) (sym here.p_is) (subst (P (p_at t n)) (sym here.q_is) h)

  -- the nodes that node n names, and their words
  pub lower_nodes : (k : ℕ) → kind_at t n ≡ k → 5 ≤ k → k ≤ 8 → (p < n) × (q < n)
  lower_nodes k e a b = named (λ i j. (i < n) × (j < n)) (sound_lower t sound n (omega arith) (omega arith))

  lower_true : (k : ℕ) → k < n → pair_at s k ≡ true_counts (N k)
  lower_true k h = here.ready.counted.nodes k (omega (arith, here.reached.low))

  pub lower_small : (k : ℕ) → k < n → Capped (pair_at s k)
  lower_small k h = let f = here.ready.counted.few k (omega (arith, here.reached.low)) in record { actions = omega arith; ticks = omega arith }

  pub lower_low : {k : ℕ} → k < n → k < first_root t
  lower_low h = omega (arith, here.reached.low)

  -- node n, of kind k, and what is known of its process
  abbrev Form : ℕ → Process
  Form k = get_or (by_kind (defined t t.sizes.definitions) N n p q) k idle

  module _ (k : ℕ) (e : kind_at t n ≡ k) where
    opened : N n ≡ Form k
    opened = named (λ i j. N n ≡ get_or (by_kind (defined t t.sizes.definitions) N n i j) k idle) (process_opened t n k here.reached.low (sound_lower t sound n) e)

    form_choice : c < count_in m (Form k)
    form_choice = subst (λ (P : Process). c < count_in m P) opened here.reached.choice

    form_chosen : chosen_in m (N n) c ≡ chosen_in m (Form k) c
    form_chosen = ap (λ (P : Process). chosen_in m P c) opened

    form_exposure : exposure (N n) ≡ exposure (Form k)
    form_exposure = ap exposure opened

  -- a goal in a lower node
  nearer : (k : ℕ) (j : Mode) (i : ℕ) → k < n → i < count_in j (N k) → exposure (N k) ≤ exposure (N n) → Nearer t g (goal_of k j i)
  nearer k j i l h x = record { reached = record { low = omega (arith, here.reached.low); choice = h }; falls = omega arith }

  -- a step that keeps nothing
  onward : (h : Goal ℕ) (side : Side) → Nearer t g h → SideReached t g side
      → chosen_at t g ≡ derivation (chosen_at t h).label (side_guards t side ++ (chosen_at t h).guards) (chosen_at t h).leaving → Onward t g h side Nothing
  onward h side l r e = record { nearer = l; collects = r; around = around_under (chosen_at t g) (chosen_at t h) (side_guards t side) e }

  abbrev Is : Turn → Type 0
  Is r = Turned t g r

  pub turned_tick : kind_at t n ≡ 1 → Is (End Ticking idle_word)
  turned_tick e = ended_tick (chosen_at t g) (form_chosen 1 e ∙ chosen_tick m c (form_choice 1 e))

  -- any kind but those that have an answer of their own
  pub turned_act : (kind_at t n ≡ 1 → ⊥) → (kind_at t n ≡ 5 → ⊥) → (kind_at t n ≡ 6 → ⊥) → (kind_at t n ≡ 7 → ⊥) → (kind_at t n ≡ 8 → ⊥) → (kind_at t n ≡ 9 → ⊥) → Is (End (Acting n) tick_word)
  turned_act x1 x5 x6 x7 x8 x9 = by (kind_at t n) refl
    where
      acts : (k : ℕ) → kind_at t n ≡ k → Form k ≡ act n → Is (End (Acting n) tick_word)
      acts k e f =
          ended_act (chosen_at t g) n
          (form_chosen k e ∙ ap (λ (P : Process). chosen_in m P c) f ∙ chosen_act m n c (subst (λ (P : Process). c < count_in m P) f (form_choice k e)))

      by : (k : ℕ) → kind_at t n ≡ k → Is (End (Acting n) tick_word)
      by zero e = absurd (no_idle m c (form_choice 0 e))
      by (suc zero) e = absurd (x1 e)
      by (suc (suc zero)) e = acts 2 e refl
      by (suc (suc (suc zero))) e = acts 3 e refl
      by (suc (suc (suc (suc zero)))) e = acts 4 e refl
      by (suc (suc (suc (suc (suc zero))))) e = absurd (x5 e)
      by (suc (suc (suc (suc (suc (suc zero)))))) e = absurd (x6 e)
      by (suc (suc (suc (suc (suc (suc (suc zero))))))) e = absurd (x7 e)
      by (suc (suc (suc (suc (suc (suc (suc (suc zero)))))))) e = absurd (x8 e)
      by (suc (suc (suc (suc (suc (suc (suc (suc (suc zero))))))))) e = absurd (x9 e)
      by (suc (suc (suc (suc (suc (suc (suc (suc (suc (suc k)))))))))) e = absurd (no_idle m c (form_choice (suc (suc (suc (suc (suc (suc (suc (suc (suc (suc k)))))))))) e))

  -- the left part stays in reach, and the right where the left ticks
  seq_left : kind_at t n ≡ 5 → exposure (N p) ≤ exposure (N n)
  unfolding exposure
  seq_left e = rw (form_exposure 5 e) (le-max_left _ _)

  seq_right : kind_at t n ≡ 5 → (j : ℕ) → j < tick_count (N p) → exposure (N q) ≤ exposure (N n)
  unfolding exposure
  seq_right e j h = rw (form_exposure 5 e, cond_true (can_tick (N p)) (exposure (N q)) 0 ((can_tick_iff (N p)).1 (omega arith))) (le-max_right _ _)

  pub turned_seq : kind_at t n ≡ 5 → (x : Pick) → x ≡ pick_of m c 0 (pair_at s p) (pair_at s q) → Is (pick_turn seq_word m p q x)
  unfolding words
  turned_seq e x f = by x (subst Picked (sym (f ∙ true_counts_lem)) (seq_picked m (N p) (N q) (Node q) c (form_choice 5 e)))
    where
      w : (p < n) × (q < n)
      w = lower_nodes 5 e (omega arith) (omega arith)

      Picked : Pick → Type 0
      Picked y = SeqPicked m (N p) (N q) (Node q) (chosen_in m (seq (N p) (N q) (Node q)) c) y

      true_counts_lem : pick_of m c 0 (pair_at s p) (pair_at s q) ≡ pick_of m c 0 (true_counts (N p)) (true_counts (N q))
      true_counts_lem = ap₂ (pick_of m c 0) (lower_true p w.0) (lower_true q w.1)

      by : (y : Pick) → Picked y → Is (pick_turn seq_word m p q y)
      by (LeftActs i) (h, d) = record { nearer = nearer p Actions i w.0 h (seq_left e); collects = tt; around = around_before _ _ (Node q) (form_chosen 5 e ∙ d) }
      by (RightActs i) h = absurd h
      by (LeftTicks j i) (h, k, d) =
          onward (goal_of q m i) (After (goal_of p Ticks j)) (nearer q m i w.1 k (seq_right e j h)) (nearer p Ticks j w.0 h (seq_left e)) (form_chosen 5 e ∙ d)
      by (RightTicks j i) h = absurd h

  par_left : kind_at t n ≡ 8 → exposure (N p) ≤ exposure (N n)
  unfolding exposure
  par_left e = rw (form_exposure 8 e) (le-max_left _ _)

  par_right : kind_at t n ≡ 8 → exposure (N q) ≤ exposure (N n)
  unfolding exposure
  par_right e = rw (form_exposure 8 e) (le-max_right _ _)

  pub turned_par : kind_at t n ≡ 8 → (x : Pick) → x ≡ pick_of m c (acting_of m (pair_at s q)) (pair_at s p) (pair_at s q) → Is (pick_turn par_word m p q x)
  unfolding words
  turned_par e x f = by x (subst Picked (sym (f ∙ true_counts_lem)) (par_picked m (N p) (Node p) (N q) (Node q) c (form_choice 8 e)))
    where
      w : (p < n) × (q < n)
      w = lower_nodes 8 e (omega arith) (omega arith)

      Picked : Pick → Type 0
      Picked y = ParPicked m (N p) (Node p) (N q) (Node q) (chosen_in m (par (N p) (Node p) (N q) (Node q)) c) y

      true_counts_lem : pick_of m c (acting_of m (pair_at s q)) (pair_at s p) (pair_at s q) ≡ pick_of m c (actions_of m (N q)) (true_counts (N p)) (true_counts (N q))
      true_counts_lem =
          ap₂ (λ (P Q : Counts). pick_of m c (acting_of m Q) P Q) (lower_true p w.0) (lower_true q w.1) ∙
          ap (λ (b : ℕ). pick_of m c b (true_counts (N p)) (true_counts (N q))) (acting_true m (N q))

      left : (j : Mode) (i : ℕ) → i < count_in j (N p) → Nearer t g (goal_of p j i)
      left j i h = nearer p j i w.0 h (par_left e)

      right : (j : Mode) (i : ℕ) → i < count_in j (N q) → Nearer t g (goal_of q j i)
      right j i h = nearer q j i w.1 h (par_right e)

      by : (y : Pick) → Picked y → Is (pick_turn par_word m p q y)
      by (LeftActs i) (h, d) = record { nearer = left Actions i h; collects = tt; around = around_right _ _ (Node q) (form_chosen 8 e ∙ d) }
      by (RightActs i) (h, d) = record { nearer = right Actions i h; collects = tt; around = around_left _ _ (Node p) (form_chosen 8 e ∙ d) }
      by (LeftTicks j i) (h, k, d) = onward (goal_of q m i) (After (goal_of p Ticks j)) (right m i k) (left Ticks j h) (form_chosen 8 e ∙ d)
      by (RightTicks j i) (h, k, d) = onward (goal_of p m i) (After (goal_of q Ticks j)) (left m i k) (right Ticks j h) (form_chosen 8 e ∙ d)

  pub turned_choice : kind_at t n ≡ 6 → (k : ℕ) → k ≡ total_of m (pair_at s p) → Is (choice_turn m c p q k)
  unfolding choice_turn exposure
  turned_choice e k f = rw (f ∙ ap (total_of m) (lower_true p w.0) ∙ total_true m (N p)) (⊎_elim left right (lt_or_le c (count_in m (N p))))
    where
      w : (p < n) × (q < n)
      w = lower_nodes 6 e (omega arith) (omega arith)

      left : c < count_in m (N p) → Is (choice_turn m c p q (count_in m (N p)))
      left h =
          rw (choice_turn, lt-ltb c (count_in m (N p)) h)
          (onward (goal_of p m c) Alone (nearer p m c w.0 h (rw (form_exposure 6 e) (le-max_left _ _))) tt (form_chosen 6 e ∙ chosen_choice_left m (N p) (N q) c h))

      right : count_in m (N p) ≤ c → Is (choice_turn m c p q (count_in m (N p)))
      right h =
          let l = form_choice 6 e in
          let x = count_choice m (N p) (N q) in
          rw (choice_turn, le-ltb c (count_in m (N p)) h)
          (onward (goal_of q m (c - count_in m (N p))) Alone (nearer q m (c - count_in m (N p)) w.1 (omega arith) (rw (form_exposure 6 e) (le-max_right _ _))) tt
          (form_chosen 6 e ∙ chosen_choice_right m (N p) (N q) c h l))

  pub turned_guarded : kind_at t n ≡ 7 → Is (On (goal_of q m c) (Under p) Nothing)
  unfolding exposure
  turned_guarded e =
      let w = named (λ i j. LowerGuard t n i × LowerProcess t n j) (guarded_operands t sound n e) in
      let l = form_choice 7 e in
      let x = count_guarded m p (N q) in
      let z = form_exposure 7 e in
      onward (goal_of q m c) (Under p) (nearer q m c w.1.0 (omega arith) (omega arith)) (omega (arith, w.0.0, here.reached.low), w.0.1) (form_chosen 7 e ∙ chosen_guarded m p (N q) c l)

  pub call_definition : kind_at t n ≡ 9 → p < t.sizes.definitions
  call_definition e = named (λ i j. i < t.sizes.definitions) (call_operands t sound n e).0

  pub turned_call : kind_at t n ≡ 9 → Is (On (goal_of (body_at t p) m c) Alone Nothing)
  unfolding exposure
  turned_call e =
      let h = call_definition e in
      let calls = here.ready.checked.calls in
      let same = named (λ i j. derivations (N n) ≡ derivations (N (body_at t i))) (call_opened t calls n here.reached.low e (call_operands t sound n e).0) in
      let low = (body_process t sound p h).0 in
      let x = exposure_least p (N (body_at t p)) (body_same t calls p h).1 in
      onward (goal_of (body_at t p) m c) Alone
      (record {
        reached = record { low = low; choice = subst (λ (x : ℕ). c < x) (count_same m (N n) c (N (body_at t p)) same) here.reached.choice };
        falls = omega (arith, form_exposure 9 e, sound.shaped.limits.nodes);
      })
      tt (chosen_same m (N n) c (N (body_at t p)) same)

-- a walk in a checked table goes no further than its last node, at its last definition
pub ahead_most : (t : Table) (s : List ℕ) → Prepared t s → (g : Goal ℕ) → Reached t g → ahead t g ≤ 4097 * t.sizes.definitions + t.sizes.nodes
ahead_most t s ready g r =
    omega (arith, r.low, exposure_least t.sizes.definitions (node_process t g.from) (node_calls t ready.checked.sound g.from))
