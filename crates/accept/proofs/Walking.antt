-- The way from the top down to a node that is not counted, and back: it leads through nodes that are not counted, and ends.
-- Assumes nothing.
use Prim.Native.Nat.{ℕ, zero, suc, ◌+◌, ◌*◌, ◌<◌}
use mathlib.Core.Bool.{Bool, true, false, not}
use mathlib.Core.Path.{◌≡◌, refl, sym, ap, subst, ◌∙◌}
use mathlib.Core.Logic.{⊎_elim}
use mathlib.Core.List.{List, [], ◌∷◌}
use native.Mathlib.Omega.{arith}
use lib.ListN.{length, get_or}
use Rattle.basis.specs.Numbers.{how_many}
use Rattle.basis.proofs.Numbers.{how_many_ext}
use Rattle.basis.proofs.Tests.{not_both, same_or_other, below_or_last}
use Rattle.table.specs.Tables.{Table, first_root}
use Rattle.term.specs.Exposure.{calls_below}
use Rattle.term.specs.Processes.{process_at}
use Rattle.accept.specs.Counts.{Capped}
use Rattle.accept.specs.Scratch.{stored, is_counted, back, led, Held}
use Rattle.accept.specs.Calls.{Visits, Settles}
use Rattle.accept.specs.declared.Counts.{Counts}
use Rattle.accept.specs.declared.Visit.TheVariants.{Done, Part, High}
use Rattle.accept.proofs.Caps.{counts_small}
use Rattle.accept.proofs.Cells.{Others, stored_others, led_others, stored_counted, led_counted, led_at, same_counted, kept_counted, node_room, held_more, held_led}

-- one number fewer passes
one_fewer : (f g : ℕ → Bool) (n limit : ℕ) → n < limit → f n ≡ true → g n ≡ false → ((k : ℕ) → (k ≡ n → ⊥) → f k ≡ g k) → how_many f limit ≡ how_many g limit + 1
unfolding how_many
one_fewer f g n zero h a b e = absurd (omega arith)
one_fewer f g n (suc limit) h a b e =
    ⊎_elim (λ (l : n < limit). rw (e limit (λ u. omega arith)) (omega (arith, one_fewer f g n limit l a b e)))
    (λ (l : n ≡ limit).
    let x : f limit ≡ true = rw l at a in
    let y : g limit ≡ false = rw l at b in
    rw (x, y) (omega (arith, how_many_ext f g limit (λ k u. e k (λ v. omega arith)))))
    (below_or_last n limit h)

module _ (t : Table) where
  -- the nodes that are not counted, and then the node's number, fall
  abbrev waiting : List ℕ → ℕ
  waiting s = how_many (λ k. not (is_counted s k)) (first_root t)

  abbrev pub left : List ℕ → ℕ → ℕ
  left s n = waiting s * 4097 + n

  module _ (level top : ℕ) where
    abbrev A : ℕ → Bool
    A m = calls_below level (process_at t level m)

    -- the nodes that node n leads back to, one after another up to the top: none is counted, and where n exposes a call
    -- that is not below the level, so does each of them
    abbrev Way : List ℕ → List ℕ → ℕ → Type 0
    Way s [] n = n ≡ top
    Way s (m ∷ ms) n = (n < m) × (m < first_root t) × (is_counted s m ≡ false) × (get_or s (2 * n) 0 ≡ back m) × (A n ≡ false → A m ≡ false) × Way s ms m

    way_kept : {k : ℕ} {s after : List ℕ} → Others k s after → (ms : List ℕ) (n : ℕ) → k < n → Way s ms n → Way after ms n
    way_kept o [] n h w = w
    way_kept {k} o (m ∷ ms) n h w =
        let d = w.0 in (
          d,
          w.1,
          same_counted o m (λ e. omega arith) ∙ w.2,
          ap (λ (c : Counts). c.actions) (o.pairs n (λ e. omega arith)) ∙ w.3,
          w.4,
          way_kept o ms m (omega arith) w.5,
        )

    way_high : (s ms : List ℕ) (n : ℕ) → Way s ms n → A n ≡ false → A top ≡ false
    way_high s [] n w e = rw w at e
    way_high s (m ∷ ms) n w e = way_high s ms m w.5 (w.4 e)

    -- on the way, at node n
    pub record Walk (before s : List ℕ) (n : ℕ) : Type 0 where
      pub held : Held t level s
      pub inner : n < first_root t
      pub waits : is_counted s n ≡ false
      pub kept : (k : ℕ) → is_counted before k ≡ true → is_counted s k ≡ true
      pub ways : (ms : List ℕ) × Way s ms n
      pub long : length s ≡ length before

module _ {t : Table} {level top : ℕ} where
  module _ {before s : List ℕ} {n : ℕ} (w : Walk t level top before s n) where
    abbrev room : 2 * n + 1 < length s
    room = node_room w.held n w.inner

    -- it is counted now
    module _ {c : Counts} (v : Visits t level s n (Done c)) where
      small : Capped c
      small = rw v.0 (counts_small (process_at t level n))

      now_counted : is_counted (stored s n c) n ≡ true
      now_counted = stored_counted s n c room small

      kept_stored : (k : ℕ) → is_counted before k ≡ true → is_counted (stored s n c) k ≡ true
      kept_stored k e = kept_counted (stored_others s n c) (λ x. now_counted) k (w.kept k e)

      pub walk_done : n ≡ top → Settles t level top before (stored s n c) true
      walk_done e =
          record {
            held = held_more w.held n c w.inner v.0 v.1;
            kept = kept_stored;
            counted = λ x. rw (← e) now_counted;
            high = λ x. absurd (not_both refl x);
          }

      pub walk_back : {b : ℕ} → (n ≡ top → ⊥) → back b ≡ get_or s (2 * n) 0 → Walk t level top before (stored s n c) b
      walk_back {b} d e = by w.ways.0 w.ways.1
        where
          by : (ms : List ℕ) → Way t level top s ms n → Walk t level top before (stored s n c) b
          by [] x = absurd (d x)
          by (m ∷ ms) x =
              let f = x.3 in
              let g : m ≡ b = omega arith in
              let h = x.0 in
              let o = stored_others s n c in
              subst (Walk t level top before (stored s n c)) g
              (record {
                held = held_more w.held n c w.inner v.0 v.1;
                inner = x.1;
                waits = same_counted o m (λ u. omega arith) ∙ x.2;
                kept = kept_stored;
                ways = (ms, way_kept t level top o ms m h x.5);
                long = o.long ∙ w.long;
              })

      pub back_less : {b : ℕ} → Walk t level top before (stored s n c) b → left t (stored s n c) b < left t s n
      back_less x =
          let e = one_fewer (λ k. not (is_counted s k)) (λ k. not (is_counted (stored s n c) k)) n (first_root t) w.inner (ap not w.waits) (ap not now_counted)
          (λ k d. ap not (sym (same_counted (stored_others s n c) k d))) in
          let h = x.inner in
          omega (arith, w.held.sound.shaped.limits.nodes)

    -- a part is to be counted first
    module _ {m : ℕ} (v : Visits t level s n (Part m)) where
      lower : m < first_root t
      lower = let l = v.0 in omega (arith, w.inner)

      part_room : 2 * m + 1 < length s
      part_room = node_room w.held m lower

      pub walk_down : Walk t level top before (led s m n) m
      walk_down =
          let o = led_others s m n in
          let l = v.0 in
          record {
            held = held_led w.held m n lower v.1;
            inner = lower;
            waits = led_counted s m n part_room;
            kept = λ k e. kept_counted o (λ x. absurd (not_both x v.1)) k (w.kept k e);
            ways = (
              n ∷ w.ways.0,
              (
                l,
                w.inner,
                same_counted o n (λ u. omega arith) ∙ w.waits,
                led_at s m n part_room,
                v.2,
                way_kept t level top o w.ways.0 n l w.ways.1,
              ),
            );
            long = o.long ∙ w.long;
          }

      pub down_less : left t (led s m n) m < left t s n
      down_less =
          let e = how_many_ext (λ k. not (is_counted (led s m n) k)) (λ k. not (is_counted s k)) (first_root t)
          (λ k h. ap not (⊎_elim (λ (u : k ≡ m). rw u (led_counted s m n part_room ∙ sym v.1)) (λ (u : k ≡ m → ⊥). same_counted (led_others s m n) k u) (same_or_other k m))) in
          let l = v.0 in
          omega arith

    -- a call that is not below the level
    pub walk_high : Visits t level s n High → Settles t level top before s false
    walk_high v =
        record {
          held = w.held;
          kept = w.kept;
          counted = λ x. absurd (not_both x refl);
          high = λ x. way_high t level top s w.ways.0 n w.ways.1 v;
        }
