-- The limits of sizes as a test and as facts, and the lengths of a table's parts.
-- Assumes nothing.
use Prim.Native.Nat.{ℕ, ◌+◌, ◌-◌, ◌*◌, ◌≤◌}
use mathlib.Core.Bool.{Bool, true, ◌&&◌}
use mathlib.Core.Path.{◌≡◌}
use mathlib.Core.List.{List}
use native.Mathlib.Omega.{arith}
use lib.Dec.{leb}
use lib.ListN.{length, take, drop, length-take, length-drop}
use borrow.Author.Tests.{leb-true, le-leb}
use Rattle.basis.proofs.Lists.{take_rest}
use Rattle.basis.proofs.Tests.{and_left, and_right}
use Rattle.table.specs.declared.Sizes.{Sizes}
use Rattle.table.specs.Tables.{sizes_of, roots_of, within_limits, table, table_of}
use Rattle.table.specs.Measuring.{kinds_of, operands_of}
use Rattle.table.specs.Sound.{Limits, Shaped}

-- the first of two tests as a fact, and what is left
first_fact : (a b : ℕ) (rest : Bool) → (leb a b && rest) ≡ true → (a ≤ b) × (rest ≡ true)
first_fact a b rest e = (leb-true a b (and_left (leb a b) rest e), and_right (leb a b) rest e)

module _ (n : Sizes) where
  pub within_limits_lem : within_limits n ≡ true → Limits n
  unfolding within_limits
  within_limits_lem e =
      let a = first_fact 1 n.nodes _ e in
      let b = first_fact n.nodes 4096 _ a.1 in
      let c = first_fact n.definitions 64 _ b.1 in
      let d = first_fact 1 n.agents _ c.1 in
      let f = first_fact n.agents 32 _ d.1 in
      let g = first_fact n.attributes 16 _ f.1 in
      let h = first_fact n.stigmergy 16 _ g.1 in
      let i = first_fact n.environment 16 _ h.1 in
      record {
        some_node = a.0;
        nodes = b.0;
        definitions = c.0;
        some_agent = d.0;
        agents = f.0;
        attributes = g.0;
        stigmergy = h.0;
        environment = i.0;
        roots = leb-true (roots_of n) n.nodes i.1;
      }

  pub limits_within : Limits n → within_limits n ≡ true
  unfolding within_limits
  limits_within l =
      rw (
        le-leb 1 n.nodes l.some_node,
        le-leb n.nodes 4096 l.nodes,
        le-leb n.definitions 64 l.definitions,
        le-leb 1 n.agents l.some_agent,
        le-leb n.agents 32 l.agents,
        le-leb n.attributes 16 l.attributes,
        le-leb n.stigmergy 16 l.stigmergy,
        le-leb n.environment 16 l.environment,
        le-leb (roots_of n) n.nodes l.roots,
      )

-- the parts of bytes of the right length
module _ (bytes : List ℕ) (n : ℕ) (h : length bytes ≡ 12 + 5 * n) where
  pub length_kinds : length (kinds_of bytes n) ≡ n
  length_kinds = simp (length-take, length-drop) (omega arith)

  pub length_operands : length (operands_of bytes n) ≡ 4 * n
  length_operands = simp length-drop (omega arith)

pub shaped : (bytes : List ℕ) → within_limits (sizes_of bytes) ≡ true → length bytes ≡ 12 + 5 * (sizes_of bytes).nodes → Shaped (table_of bytes)
shaped bytes w h =
    record {
      limits = within_limits_lem (sizes_of bytes) w;
      kinds = length_kinds bytes (sizes_of bytes).nodes h;
      operands = length_operands bytes (sizes_of bytes).nodes h;
    }

-- the kinds and the operands as code lends them: the count of a part is its end less its start
pub lent_table : (bytes : List ℕ) (n : Sizes) → n ≡ sizes_of bytes
    → table n (take (12 + n.nodes - 12) (drop 12 bytes)) (take (length bytes - (12 + n.nodes)) (drop (12 + n.nodes) bytes)) ≡ table_of bytes
lent_table bytes n e =
    let k : 12 + n.nodes - 12 ≡ n.nodes = omega arith in
    rw (k, take_rest bytes (12 + n.nodes), e)

pub lent_shape : (bytes : List ℕ) (n : Sizes) → n ≡ sizes_of bytes → within_limits n ≡ true → length bytes ≡ 12 + 5 * n.nodes
    → Shaped (table n (take (12 + n.nodes - 12) (drop 12 bytes)) (take (length bytes - (12 + n.nodes)) (drop (12 + n.nodes) bytes)))
lent_shape bytes n e w h = rw (lent_table bytes n e) (shaped bytes (rw e at w) (rw e at h))
