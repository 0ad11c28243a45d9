-- Tables as examples: how bytes are read, and which node is named where two have a fault of one number.
use Rattle.std.specs.Prelude.{ℕ, ◌≡◌, List, [], ◌∷◌, ◌++◌, set}
use Rattle.basis.specs.Numbers.{lowest}
use Rattle.table.specs.declared.Sizes.{Sizes}
use Rattle.table.specs.Checks.{Check, passes, refuses, refuse_at, first_of}
use Rattle.table.specs.Tables.{Table, sizes_of, table_of, kind_at, p_at, q_at, constant_at, body_at, link_at, start_at}
use Rattle.table.specs.Nodes.{bad_node}
use Rattle.table.specs.Reach.{wrong_key}
use Rattle.table.specs.Measuring.{size_checks}

-- two nodes: no two bytes are alike, and none but N's high one is 0
abbrev pub bytes : List ℕ
bytes =
    2 ∷ 0 ∷ 0x14 ∷ 0x15 ∷ 0x16 ∷ 0x17 ∷ 0x18 ∷ 0x19 ∷ 0x1a ∷ 0x1b ∷ 0x1c ∷ 0x1d
    ∷ 0x21 ∷ 0x25
    ∷ 0x9a ∷ 0xbc ∷ 0xde ∷ 0xf1
    ∷ 0x12 ∷ 0x34 ∷ 0x56 ∷ 0x78 ∷ []

-- what is read of a node
abbrev pub node_at : Table → ℕ → List ℕ
node_at t n = kind_at t n ∷ p_at t n ∷ q_at t n ∷ constant_at t n ∷ []

-- sizes 7, 1, 3, 0, 2, 0, and p of node n is 30 + n
abbrev pub rooted : Table
rooted =
    table_of
    (7 ∷ 0 ∷ 1 ∷ 0 ∷ 3 ∷ 0 ∷ 0 ∷ 0 ∷ 2 ∷ 0 ∷ 0 ∷ 0
    ∷ 0 ∷ 64 ∷ 64 ∷ 64 ∷ 64 ∷ 64 ∷ 64
    ∷ 30 ∷ 0 ∷ 0 ∷ 0 ∷ 31 ∷ 0 ∷ 0 ∷ 0 ∷ 32 ∷ 0 ∷ 0 ∷ 0 ∷ 33 ∷ 0 ∷ 0 ∷ 0 ∷ 34 ∷ 0 ∷ 0 ∷ 0 ∷ 35 ∷ 0 ∷ 0 ∷ 0 ∷ 36 ∷ 0 ∷ 0 ∷ 0 ∷ [])

-- N, D, A, I, S, V
abbrev pub shown : Sizes → List ℕ
shown n = n.nodes ∷ n.definitions ∷ n.agents ∷ n.attributes ∷ n.stigmergy ∷ n.environment ∷ []

-- checks 1 to 5
abbrev pub judged : List ℕ → Check
judged bytes =
    first_of
    (size_checks bytes
    ++ (refuse_at 4 (sizes_of bytes).nodes (lowest (bad_node (table_of bytes)) (sizes_of bytes).nodes)
    ∷ refuse_at 5 (sizes_of bytes).nodes (lowest (wrong_key (table_of bytes)) (sizes_of bytes).nodes) ∷ []))

-- the paper's: sizes 8, 0, 2, 1, 1, 0; nodes 32:7, 3:(0,0), 34:(0,0), 2:(0,2), 16:(0,0), 64:(4,0), 64:(1,0), 64:(3,0)
abbrev pub rehearsed : List ℕ
rehearsed =
    8 ∷ 0 ∷ 0 ∷ 0 ∷ 2 ∷ 0 ∷ 1 ∷ 0 ∷ 1 ∷ 0 ∷ 0 ∷ 0
    ∷ 32 ∷ 3 ∷ 34 ∷ 2 ∷ 16 ∷ 64 ∷ 64 ∷ 64
    ∷ 7 ∷ 0 ∷ 0 ∷ 0 ∷ 0 ∷ 0 ∷ 0 ∷ 0 ∷ 0 ∷ 0 ∷ 0 ∷ 0 ∷ 0 ∷ 0 ∷ 2 ∷ 0 ∷ 0 ∷ 0 ∷ 0 ∷ 0 ∷ 4 ∷ 0 ∷ 0 ∷ 0 ∷ 1 ∷ 0 ∷ 0 ∷ 0 ∷ 3 ∷ 0 ∷ 0 ∷ 0 ∷ []

-- sizes 10, 1, 1, 1, 1, 1; nodes 33:(0,0), 2:(0,0), 34:(0,1), 35:(0,0), 17:(2,3), 33:(0,1), 2:(0,5), 64:(1,0), 64:(4,0), 64:(6,0): the body is fine,
-- the link asks 3 for an environment key, and the starting process asks 5 for the sender
abbrev pub linked : List ℕ
linked =
    10 ∷ 0 ∷ 1 ∷ 0 ∷ 1 ∷ 0 ∷ 1 ∷ 0 ∷ 1 ∷ 0 ∷ 1 ∷ 0
    ∷ 33 ∷ 2 ∷ 34 ∷ 35 ∷ 17 ∷ 33 ∷ 2 ∷ 64 ∷ 64 ∷ 64
    ∷ 0 ∷ 0 ∷ 0 ∷ 0 ∷ 0 ∷ 0 ∷ 0 ∷ 0 ∷ 0 ∷ 0 ∷ 1 ∷ 0 ∷ 0 ∷ 0 ∷ 0 ∷ 0 ∷ 2 ∷ 0 ∷ 3 ∷ 0 ∷ 0 ∷ 0 ∷ 1 ∷ 0 ∷ 0 ∷ 0 ∷ 5 ∷ 0
    ∷ 1 ∷ 0 ∷ 0 ∷ 0 ∷ 4 ∷ 0 ∷ 0 ∷ 0 ∷ 6 ∷ 0 ∷ 0 ∷ 0 ∷ []

-- sizes 7, 0, 1, 1, 1, 1; nodes 32:7, 33:(0,2), 2:(0,1), 34:(0,0), 17:(0,3), 64:(4,0), 64:(2,0): the process asks 1 for the receiver, and the
-- link asks 3 for neither party
abbrev pub processed : List ℕ
processed =
    7 ∷ 0 ∷ 0 ∷ 0 ∷ 1 ∷ 0 ∷ 1 ∷ 0 ∷ 1 ∷ 0 ∷ 1 ∷ 0
    ∷ 32 ∷ 33 ∷ 2 ∷ 34 ∷ 17 ∷ 64 ∷ 64
    ∷ 7 ∷ 0 ∷ 0 ∷ 0 ∷ 0 ∷ 0 ∷ 2 ∷ 0 ∷ 0 ∷ 0 ∷ 1 ∷ 0 ∷ 0 ∷ 0 ∷ 0 ∷ 0 ∷ 0 ∷ 0 ∷ 3 ∷ 0 ∷ 4 ∷ 0 ∷ 0 ∷ 0 ∷ 2 ∷ 0 ∷ 0 ∷ 0 ∷ []

pub record Examples : Type 0 where
  -- every number has its low byte first, and its own place
  pub sizes : shown (sizes_of (1 ∷ 2 ∷ 3 ∷ 4 ∷ 5 ∷ 6 ∷ 7 ∷ 8 ∷ 9 ∷ 10 ∷ 11 ∷ 12 ∷ [])) ≡ 0x0201 ∷ 0x0403 ∷ 0x0605 ∷ 0x0807 ∷ 0x0a09 ∷ 0x0c0b ∷ []
  pub first_node : node_at (table_of bytes) 0 ≡ 0x21 ∷ 0xbc9a ∷ 0xf1de ∷ 0xf1debc9a ∷ []
  pub second_node : node_at (table_of bytes) 1 ≡ 0x25 ∷ 0x3412 ∷ 0x7856 ∷ 0x78563412 ∷ []
  -- one body, two links, three starting processes
  pub roots : body_at rooted 0 ∷ link_at rooted 0 ∷ link_at rooted 1 ∷ start_at rooted 0 ∷ start_at rooted 1 ∷ start_at rooted 2 ∷ [] ≡ 31 ∷ 32 ∷ 33 ∷ 34 ∷ 35 ∷ 36 ∷ []
  pub passed : judged rehearsed ≡ passes
  -- node 3 sets its attribute by node 0, which node 1 names already
  pub named_twice : judged (set rehearsed 34 0) ≡ refuses 4 3
  -- and node 1 sets a key that is not there; and node 4, which is true, has an operand
  pub lower_operand : judged (set (set rehearsed 34 0) 24 1) ≡ refuses 4 1
  pub lower_naming : judged (set (set rehearsed 34 0) 36 1) ≡ refuses 4 3
  -- node 4 names node 3 by p and by q
  pub named_by_both : judged (set processed 35 3) ≡ refuses 4 4
  -- node 2, which a process reaches, asks for the sender
  pub sender : judged (set rehearsed 30 1) ≡ refuses 5 2
  -- two keys are wrong: one by the link and one by the process; one by the process and one by the link
  pub lower_linked : judged linked ≡ refuses 5 3
  pub lower_processed : judged processed ≡ refuses 5 1
