-- TABLE 3: the derivations of a process are what its derivation trees derive, one place for each tree.
-- Assumes nothing.
use Prim.Native.Nat.{ℕ, zero, suc, ◌<◌, ◌≤◌}
use mathlib.Core.Bool.{Bool, true, false, not, ◌||◌}
use mathlib.Core.Path.{◌≡◌, refl, sym, ap, subst, ◌∙◌}
use mathlib.Core.List.Memᴰ
use mathlib.Core.List.{List, [], map-id}
use mathlib.Core.Logic.{inl, inr, ⊎_elim}
use mathlib.Core.Option.{some}
use native.Mathlib.Omega.{arith}
use lib.ListN.{get_or, get_elem?}
use borrow.Author.Tests.{ltb-true, not-false}
use Rattle.basis.specs.Below.{below}
use Rattle.basis.proofs.Below.{below_each}
use Rattle.basis.proofs.Tests.{not_both, and_left, and_right, or_implies, lt_or_le}
use Rattle.table.specs.Tables.{Table, kind_at, p_at, q_at, first_root, body_at}
use Rattle.table.specs.Sound.{Sound}
use Rattle.table.proofs.Promises.{root_kind, past_kind}
use Rattle.term.specs.declared.Label.{Label}
use Rattle.term.specs.declared.Label.TheVariants.{Ticking, Acting}
use Rattle.term.specs.Terms.{Term, Seq, Par, Tick, Idle, Node}
use Rattle.term.specs.Processes.{Process, idle, tick, act, choice, guarded, call, seq, par, label_ticks}
use Rattle.term.specs.Processes.{Derivation, derivation, derivations, keep, is_tick, is_action, under, before, beside_right, beside_left, join, joins}
use Rattle.term.specs.Processes.{by_kind, node_step, node_with, process_at, defined, node_process, process}
use Rattle.term.specs.Exposure.{can_tick, calls_below}
use Rattle.term.specs.Accepted.{Checked}
use Rattle.term.proofs.Counting.{no_ticks}
use Rattle.term.proofs.Opened.{sound_lower, node_out}
use Rattle.term.proofs.Exposed.{node_calls}
use Rattle.term.proofs.Members.{In, place_in}
use Rattle.labs.specs.Processes.{Form, 𝟎, √, α, ◌⨾◌, ◌⊹◌, ◌∣◌, ◌⇒◌, K, forms, form, Moves}
use Rattle.labs.specs.Processes.{Tree, by-TICK, by-ACT, by-CHOICE-L, by-CHOICE-R, by-SEQ₁, by-SEQ₂, by-CON, by-PAR₁, by-PAR₂, by-PAR₁-COMM, by-PAR₂-COMM, by-AWAIT}
use Rattle.labs.specs.Processes.{TICK, ACT, CHOICE-L, CHOICE-R, SEQ₁, SEQ₂, CON, PAR₁, PAR₂, PAR₁COMM, PAR₂COMM, AWAIT}
use Rattle.labs.specs.Demand2.{Transitions}
use Rattle.labs.proofs.Enumerations.{Relation, Enumerated, names, Changed, Tested, Joined, Either}
use Rattle.labs.proofs.Enumerations.{enumerated_same, enumerated_none, enumerated_one, enumerated_changed, enumerated_tested, enumerated_append, enumerated_joined, enumerated_in, enumerated_some}
use Rattle.labs.proofs.Enumerations.{enumerated_length, enumerated_once, enumerated_places}

-- the tree T derives d from the term P; some tree does
abbrev pub Derives : Table → Term → Relation Tree
Derives t P T d = Moves t T P d.label d.guards d.leaving

abbrev pub Derivable : Table → Term → Derivation → Type 0
Derivable t P d = (T : Tree) × Derives t P T d

-- WHAT THE RULES DERIVE FROM A FORM
abbrev Renamed : (Tree → Tree) → Relation Tree → Relation Tree
Renamed f H = Changed f (λ d. d) H

module _ (t : Table) where
  abbrev Rules : Form → Relation Tree
  Rules 𝟎 T d = ⊥
  Rules √ T d = (T ≡ by-TICK) × (d ≡ derivation Ticking [] Idle)
  Rules (α n) T d = (T ≡ by-ACT) × (d ≡ derivation (Acting n) [] Tick)
  Rules (P ⊹ Q) T d = Either (Renamed by-CHOICE-L (Derives t P)) (Renamed by-CHOICE-R (Derives t Q)) T d
  Rules (b ⇒ P) T d = Changed by-AWAIT (under b) (Derives t P) T d
  Rules (K e) T d = Renamed by-CON (Derives t (Node (body_at t e))) T d
  Rules (P ⨾ Q) T d =
      Either (Changed by-SEQ₁ (before Q) (Tested is_action (Derives t P))) (Joined by-SEQ₂ (Tested is_tick (Derives t P)) (Derives t Q)) T d
  Rules (P ∣ Q) T d =
      Either (Changed by-PAR₁ (beside_right Q) (Tested is_action (Derives t P)))
      (Either (Changed by-PAR₁-COMM (beside_left P) (Tested is_action (Derives t Q)))
      (Either (Joined by-PAR₂ (Tested is_tick (Derives t P)) (Derives t Q)) (Joined by-PAR₂-COMM (Tested is_tick (Derives t Q)) (Derives t P)))) T d

  -- a derivation ends with a rule of its term's form
  rules : {T : Tree} {R P' : Term} {l : Label} {g : List ℕ} → Moves t T R l g P' → Rules (form t R) T (derivation l g P')
  rules (TICK e) = rw e (refl, refl)
  rules (ACT e) = rw e (refl, refl)
  rules (CHOICE-L e m) = rw e (inl (_, _, m, refl, refl))
  rules (CHOICE-R e m) = rw e (inr (_, _, m, refl, refl))
  rules (SEQ₁ e m) = rw e (inl (_, _, (m, refl), refl, refl))
  rules (SEQ₂ e m n) = rw e (inr (_, _, _, _, (m, refl), n, refl, refl))
  rules (CON e m) = rw e (_, _, m, refl, refl)
  rules (PAR₁ e m) = rw e (inl (_, _, (m, refl), refl, refl))
  rules (PAR₂ e m n) = rw e (inr (inr (inl (_, _, _, _, (m, refl), n, refl, refl))))
  rules (PAR₁COMM e m) = rw e (inr (inl (_, _, (m, refl), refl, refl)))
  rules (PAR₂COMM e m n) = rw e (inr (inr (inr (_, _, _, _, (m, refl), n, refl, refl))))
  rules (AWAIT e m) = rw e (_, _, m, refl, refl)

  -- a label that does not tick is `Acting n`, and one that does is `Ticking`
  of_action : (l : Label) (A B : Label → Type 0) → ((n : ℕ) → A (Acting n) → B (Acting n)) → not (label_ticks l) ≡ true → A l → B l
  of_action Ticking A B f h = absurd (not_both h refl)
  of_action (Acting n) A B f h = f n

  of_tick : (l : Label) (A : Label → Type 0) → label_ticks l ≡ true → A l → A Ticking
  of_tick Ticking A h a = a
  of_tick (Acting n) A h a = absurd (not_both h refl)

  module _ (R P : Term) (T : Tree) (d : Derivation) where
    -- an action of P, beside what is left of it; a tick of P that joins what Q does
    acted : (f : Tree → Tree) (beside : Term → Term)
        → ((U : Tree) (n : ℕ) (g : List ℕ) (P' : Term) → Moves t U P (Acting n) g P' → Moves t (f U) R (Acting n) g (beside P'))
        → Changed f (λ x. derivation x.label x.guards (beside x.leaving)) (Tested is_action (Derives t P)) T d → Derives t R T d
    acted f beside rule h =
        let U = h.0 in
        let x = h.1 in
        rw (h.3, h.4)
        (of_action x.label (λ l. Moves t U P l x.guards x.leaving) (λ l. Moves t (f U) R l x.guards (beside x.leaving)) (λ n m. rule U n x.guards x.leaving m)
        h.2.1 h.2.0)

    joined : (Q : Term) (f : Tree → Tree → Tree)
        → ((U W : Tree) (u x : Derivation) → Moves t U P Ticking u.guards u.leaving → Derives t Q W x → Derives t R (f U W) (join u x))
        → Joined f (Tested is_tick (Derives t P)) (Derives t Q) T d → Derives t R T d
    joined Q f rule h =
        let u = h.1 in
        rw (h.6, h.7) (rule h.0 h.2 u h.3 (of_tick u.label (λ l. Moves t h.0 P l u.guards u.leaving) h.4.1 h.4.0) h.5)

  derived : (R : Term) (F : Form) → form t R ≡ F → (T : Tree) (d : Derivation) → Rules F T d → Derives t R T d
  derived R 𝟎 e T d h = absurd h
  derived R √ e T d h = rw (h.0, h.1) (TICK e)
  derived R (α n) e T d h = rw (h.0, h.1) (ACT e)
  derived R (P ⊹ Q) e T d (inl h) = rw (h.3, h.4) (CHOICE-L {Q = Q} e h.2)
  derived R (P ⊹ Q) e T d (inr h) = rw (h.3, h.4) (CHOICE-R {P = P} e h.2)
  derived R (b ⇒ P) e T d h = rw (h.3, h.4) (AWAIT e h.2)
  derived R (K n) e T d h = rw (h.3, h.4) (CON e h.2)
  derived R (P ⨾ Q) e T d (inl h) = acted R P T d by-SEQ₁ (λ P'. Seq P' Q) (λ U n g P' m. SEQ₁ e m) h
  derived R (P ⨾ Q) e T d (inr h) = joined R P T d Q by-SEQ₂ (λ U W u x m n. SEQ₂ e m n) h
  derived R (P ∣ Q) e T d (inl h) = acted R P T d by-PAR₁ (λ P'. Par P' Q) (λ U n g P' m. PAR₁ e m) h
  derived R (P ∣ Q) e T d (inr (inl h)) = acted R Q T d by-PAR₁-COMM (λ Q'. Par P Q') (λ U n g Q' m. PAR₁COMM e m) h
  derived R (P ∣ Q) e T d (inr (inr (inl h))) = joined R P T d Q by-PAR₂ (λ U W u x m n. PAR₂ e m n) h
  derived R (P ∣ Q) e T d (inr (inr (inr h))) = joined R Q T d P by-PAR₂-COMM (λ U W u x m n. PAR₂COMM e m n) h

  -- EACH FORM OF PROCESS: the derivations of the process X are what the trees of the term R derive
  abbrev Listed : Term → Process → Type 0
  Listed R X = Enumerated (Derives t R) (derivations X)

  by_rules : (R : Term) (F : Form) → form t R ≡ F → {ds : List Derivation} → Enumerated (Rules F) ds → Enumerated (Derives t R) ds
  by_rules R F e p = enumerated_same {K = Derives t R} (λ T d. (λ h. derived R F e T d h, λ m. subst (λ (G : Form). Rules G T d) e (rules m))) p

  listed_idle : (R : Term) → form t R ≡ 𝟎 → Listed R idle
  unfolding derivations
  listed_idle R e = by_rules R 𝟎 e (enumerated_none (Rules 𝟎) (λ T d h. h))

  listed_tick : (R : Term) → form t R ≡ √ → Listed R tick
  unfolding derivations
  listed_tick R e = by_rules R √ e (enumerated_one by-TICK (derivation Ticking [] Idle))

  listed_act : (R : Term) (n : ℕ) → form t R ≡ α n → Listed R (act n)
  unfolding derivations
  listed_act R n e = by_rules R (α n) e (enumerated_one by-ACT (derivation (Acting n) [] Tick))

  -- under another name only
  renamed : (f : Tree → Tree) → ((T U : Tree) → f T ≡ f U → T ≡ U) → {H : Relation Tree} (ds : List Derivation) → Enumerated H ds → Enumerated (Renamed f H) ds
  renamed f inj {H} ds p = subst (λ (es : List Derivation). Enumerated (Renamed f H) es) (map-id ds) (enumerated_changed f (λ d. d) inj p)

  listed_guarded : (R P : Term) (b : ℕ) (X : Process) → form t R ≡ (b ⇒ P) → Listed P X → Listed R (guarded b X)
  unfolding derivations
  listed_guarded R P b X e p = by_rules R (b ⇒ P) e (enumerated_changed by-AWAIT (under b) (λ T U i. cc) p)

  listed_call : (R : Term) (n : ℕ) (X : Process) → form t R ≡ K n → Listed (Node (body_at t n)) X → Listed R (call n X)
  unfolding derivations
  listed_call R n X e p = by_rules R (K n) e (renamed by-CON (λ T U i. cc) (derivations X) p)

  -- no tree is made by two rules
  apart : {T U W : Tree} → T ≡ U → T ≡ W → (U ≡ W → ◌≡◌ {A = ℕ} 0 1) → ⊥
  apart i j f = let z = f (sym i ∙ j) in omega arith

  -- the ticks of P, each with what Q does: Q is asked only if P can tick
  module _ (P Q : Term) (X Y : Process) (p : Listed P X) (q : can_tick X ≡ true → Listed Q Y) (f : Tree → Tree → Tree) (inj : (a b c d : Tree) → f a c ≡ f b d → (a ≡ b) × (c ≡ d)) where
    listed_ticks : (b : Bool) → can_tick X ≡ b → Enumerated (Joined f (Tested is_tick (Derives t P)) (Derives t Q)) (joins (keep is_tick (derivations X)) (derivations Y))
    unfolding joins
    listed_ticks true e = enumerated_joined f inj (enumerated_tested is_tick p) (q e)
    listed_ticks false e =
        let none : keep is_tick (derivations X) ≡ [] = no_ticks X e in
        rw none
        (enumerated_none (Joined f (Tested is_tick (Derives t P)) (Derives t Q))
        (λ T d h. Memᴰ.not-nil (rw none at (enumerated_in (enumerated_tested is_tick p) h.4))))

  module _ (R P Q : Term) (X Y : Process) (p : Listed P X) where
    listed_choice : form t R ≡ (P ⊹ Q) → Listed Q Y → Listed R (choice X Y)
    unfolding derivations
    listed_choice e q =
        by_rules R (P ⊹ Q) e
        (enumerated_append (renamed by-CHOICE-L (λ T U i. cc) (derivations X) p) (renamed by-CHOICE-R (λ T U i. cc) (derivations Y) q)
        (λ T d x h k. apart h.3 k.3 (λ i. cc)))

    listed_seq : form t R ≡ (P ⨾ Q) → (can_tick X ≡ true → Listed Q Y) → Listed R (seq X Y Q)
    unfolding derivations
    listed_seq e q =
        by_rules R (P ⨾ Q) e
        (enumerated_append (enumerated_changed by-SEQ₁ (before Q) (λ T U i. cc) (enumerated_tested is_action p))
        (listed_ticks P Q X Y p q by-SEQ₂ (λ a b c d i. (cc, cc)) (can_tick X) refl)
        (λ T d x h k. apart h.3 k.6 (λ i. cc)))

    listed_par : form t R ≡ (P ∣ Q) → Listed Q Y → Listed R (par X P Y Q)
    unfolding derivations
    listed_par e q =
        by_rules R (P ∣ Q) e
        (enumerated_append (enumerated_changed by-PAR₁ (beside_right Q) (λ T U i. cc) (enumerated_tested is_action p))
        (enumerated_append (enumerated_changed by-PAR₁-COMM (beside_left P) (λ T U i. cc) (enumerated_tested is_action q))
        (enumerated_append (listed_ticks P Q X Y p (λ c. q) by-PAR₂ (λ a b c d i. (cc, cc)) (can_tick X) refl)
        (listed_ticks Q P Y X q (λ c. p) by-PAR₂-COMM (λ a b c d i. (cc, cc)) (can_tick Y) refl)
        (λ T d x h k. apart h.6 k.6 (λ i. cc)))
        (λ T d x h. ⊎_elim (λ k. apart h.3 k.6 (λ i. cc)) (λ k. apart h.3 k.6 (λ i. cc))))
        (λ T d x h. ⊎_elim (λ k. apart h.3 k.3 (λ i. cc)) (⊎_elim (λ k. apart h.3 k.6 (λ i. cc)) (λ k. apart h.3 k.6 (λ i. cc)))))

  -- A NODE that exposes calls of definitions below e only, by its kind
  abbrev Exposing : ℕ → Term → Process → Type 0
  Exposing e R X = calls_below e X ≡ true → Listed R X

  module _ (sound : Sound t) (e : ℕ) (calls : ℕ → Process) (bodies : (d : ℕ) → d < e → Listed (Node (body_at t d)) (calls d)) where
    listed_step : (lower : ℕ → Process) (n : ℕ) → ((k : ℕ) → k < n → Exposing e (Node k) (lower k)) → Exposing e (Node n) (node_step t calls lower n)
    unfolding form node_step calls_below
    listed_step lower n r = by (kind_at t n) refl refl
      where
        p : ℕ
        p = p_at t n

        q : ℕ
        q = q_at t n

        L : Process
        L = lower (p_at t n)

        M : Process
        M = lower (q_at t n)

        left : 5 ≤ kind_at t n → kind_at t n ≤ 8 → Exposing e (Node (p_at t n)) (lower (p_at t n))
        left a b = r (p_at t n) (sound_lower t sound n a b).0

        right : 5 ≤ kind_at t n → kind_at t n ≤ 8 → Exposing e (Node (q_at t n)) (lower (q_at t n))
        right a b = r (q_at t n) (sound_lower t sound n a b).1

        by : (k : ℕ) → kind_at t n ≡ k → form t (Node n) ≡ get_or (forms n (p_at t n) (q_at t n)) k 𝟎 → Exposing e (Node n) (get_or (by_kind calls lower n (p_at t n) (q_at t n)) k idle)
        by zero k f c = listed_idle (Node n) f
        by (suc zero) k f c = listed_tick (Node n) f
        by (suc (suc zero)) k f c = listed_act (Node n) n f
        by (suc (suc (suc zero))) k f c = listed_act (Node n) n f
        by (suc (suc (suc (suc zero)))) k f c = listed_act (Node n) n f
        by (suc (suc (suc (suc (suc zero))))) k f c =
            listed_seq (Node n) (Node p) (Node q) L M (left (omega arith) (omega arith) (and_left (calls_below e L) (not (can_tick L) || calls_below e M) c)) f
            (λ h. right (omega arith) (omega arith) (or_implies (can_tick L) (calls_below e M) h (and_right (calls_below e L) (not (can_tick L) || calls_below e M) c)))
        by (suc (suc (suc (suc (suc (suc zero)))))) k f c =
            listed_choice (Node n) (Node p) (Node q) L M (left (omega arith) (omega arith) (and_left (calls_below e L) (calls_below e M) c)) f
            (right (omega arith) (omega arith) (and_right (calls_below e L) (calls_below e M) c))
        by (suc (suc (suc (suc (suc (suc (suc zero))))))) k f c = listed_guarded (Node n) (Node q) p M f (right (omega arith) (omega arith) c)
        by (suc (suc (suc (suc (suc (suc (suc (suc zero)))))))) k f c =
            listed_par (Node n) (Node p) (Node q) L M (left (omega arith) (omega arith) (and_left (calls_below e L) (calls_below e M) c)) f
            (right (omega arith) (omega arith) (and_right (calls_below e L) (calls_below e M) c))
        by (suc (suc (suc (suc (suc (suc (suc (suc (suc zero))))))))) k f c = listed_call (Node n) p (calls p) f (bodies p (ltb-true p e c))
        by (suc (suc (suc (suc (suc (suc (suc (suc (suc (suc i)))))))))) k f c = listed_idle (Node n) f

    listed_with : (n : ℕ) → Exposing e (Node n) (node_with t calls n)
    unfolding node_with form
    listed_with n =
        ⊎_elim
        (λ (l : n < first_root t). below_each (node_step t calls) idle (λ k X. Exposing e (Node k) X) (first_root t) (λ k h r. listed_step (below (node_step t calls) idle k) k r) n l)
        (λ (l : first_root t ≤ n). rw (node_out t calls n l) (λ c. listed_idle (Node n) (⊎_elim (root l) past (lt_or_le n t.sizes.nodes)))) (lt_or_le n (first_root t))
      where
        root : first_root t ≤ n → n < t.sizes.nodes → form t (Node n) ≡ 𝟎
        root l h = ap (λ (k : ℕ). get_or (forms n (p_at t n) (q_at t n)) k 𝟎) (root_kind t sound n h l)

        past : t.sizes.nodes ≤ n → form t (Node n) ≡ 𝟎
        past h = ap (λ (k : ℕ). get_or (forms n (p_at t n) (q_at t n)) k 𝟎) (past_kind t sound n h)

-- OVER AN ACCEPTED TABLE: bodies, which expose lower calls only, nodes, residuals
module _ (t : Table) (ok : Checked t) where
  abbrev D : ℕ
  D = t.sizes.definitions

  listed_defined : (d : ℕ) → d < t.sizes.definitions → Listed t (Node (body_at t d)) (defined t t.sizes.definitions d)
  unfolding defined
  listed_defined =
      below_each (λ lower d. node_with t lower (body_at t d)) idle (λ d X. Listed t (Node (body_at t d)) X) D
      (λ d h r. listed_with t ok.sound d (below (λ lower x. node_with t lower (body_at t x)) idle d) r (body_at t d) (not-false (calls_below d (process_at t d (body_at t d))) (ok.calls d h)))

  listed_term : (P : Term) → Listed t P (process t P)
  unfolding process form node_process
  listed_term (Seq P Q) = listed_seq t (Seq P Q) P Q (process t P) (process t Q) (listed_term P) refl (λ c. listed_term Q)
  listed_term (Par P Q) = listed_par t (Par P Q) P Q (process t P) (process t Q) (listed_term P) refl (listed_term Q)
  listed_term Tick = listed_tick t Tick refl
  listed_term Idle = listed_idle t Idle refl
  listed_term (Node n) = listed_with t ok.sound D (defined t D) listed_defined n (node_calls t ok.sound n)

  pub trees_listed : (P : Term) → Transitions t P
  trees_listed P =
      let p = listed_term P in
      record {
        trees = names p.named;
        as_many = enumerated_length p;
        once = enumerated_once p;
        derive = enumerated_places p;
      }

  -- what a tree derives is a derivation, and a derivation is what some tree derives
  pub moves_in : (P : Term) (d : Derivation) → Derivable t P d → In d (derivations (process t P))
  moves_in P d m = enumerated_in (listed_term P) m.1

  pub moves_chosen : (P : Term) (c : ℕ) (d : Derivation) → get_elem? (derivations (process t P)) c ≡ some d → Derivable t P d
  moves_chosen P c d e = enumerated_some (listed_term P) (place_in (derivations (process t P)) c e)
