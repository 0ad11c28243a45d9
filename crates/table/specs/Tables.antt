-- Reading a fleet table: 12 bytes of sizes; a kind of one byte for each node; an operand of four bytes for each node.
use Rattle.std.specs.Prelude.{ℕ, ◌+◌, ◌-◌, ◌*◌, Bool, ◌&&◌, List, leb, get_or, take, drop}
use Rattle.basis.specs.Bytes.{u16_at, u32_at}
use Rattle.table.specs.declared.Sizes.{Sizes}

-- bytes of the sizes; agents of a fleet at most
abbrev pub header_bytes : ℕ
header_bytes = 12

abbrev pub agent_limit : ℕ
agent_limit = 32

-- keys of a store: attributes, stigmergy, environment
abbrev pub key_limit : ℕ
key_limit = 16

-- N, D, A, I, S, V
abbrev pub sizes_of : List ℕ → Sizes
sizes_of bytes =
    record {
      nodes = u16_at bytes 0;
      definitions = u16_at bytes 2;
      agents = u16_at bytes 4;
      attributes = u16_at bytes 6;
      stigmergy = u16_at bytes 8;
      environment = u16_at bytes 10;
    }

-- D + S + A
abbrev pub roots_of : Sizes → ℕ
roots_of n = n.definitions + n.stigmergy + n.agents

-- N 1 to 4,096; D at most 64; A 1 to 32; I, S, V at most 16 each; D + S + A at most N
unfoldable pub within_limits : Sizes → Bool
within_limits n =
    leb 1 n.nodes && (leb n.nodes 4096
    && (leb n.definitions 64
    && (leb 1 n.agents && (leb n.agents agent_limit
    && (leb n.attributes key_limit && (leb n.stigmergy key_limit && (leb n.environment key_limit
    && leb (roots_of n) n.nodes)))))))

pub record Table : Type 0 where
  pub sizes : Sizes
  pub kinds : List ℕ
  pub operands : List ℕ

abbrev pub table : Sizes → List ℕ → List ℕ → Table
table n kinds operands = record { sizes = n; kinds = kinds; operands = operands }

-- N kinds, and the operands right after them, at byte 12 + N
abbrev pub table_of : List ℕ → Table
table_of bytes =
    let n = sizes_of bytes in
    table n (take n.nodes (drop header_bytes bytes)) (drop (header_bytes + n.nodes) bytes)

-- a node's kind, and its operand: p then q, or a constant in all four bytes
abbrev pub kind_at : Table → ℕ → ℕ
kind_at t n = get_or t.kinds n 0

abbrev pub p_at : Table → ℕ → ℕ
p_at t n = u16_at t.operands (4 * n)

abbrev pub q_at : Table → ℕ → ℕ
q_at t n = u16_at t.operands (4 * n + 2)

abbrev pub constant_at : Table → ℕ → ℕ
constant_at t n = u32_at t.operands (4 * n)

-- the last D + S + A nodes are the roots: of definitions, of links, of agents
abbrev pub first_root : Table → ℕ
first_root t = t.sizes.nodes - roots_of t.sizes

abbrev pub first_link_root : Table → ℕ
first_link_root t = first_root t + t.sizes.definitions

abbrev pub first_agent_root : Table → ℕ
first_agent_root t = first_link_root t + t.sizes.stigmergy

-- the body of definition d, the link of key k, the process that agent a starts as
abbrev pub body_at : Table → ℕ → ℕ
body_at t d = p_at t (first_root t + d)

abbrev pub link_at : Table → ℕ → ℕ
link_at t k = p_at t (first_link_root t + k)

abbrev pub start_at : Table → ℕ → ℕ
start_at t a = p_at t (first_agent_root t + a)
