-- Bits in lent words, a word for each node, as refusals 4 and 5 use them. And what is found of a node.
use Rattle.std.specs.Prelude.{ℕ, ◌+◌, ◌<◌, ◌≤◌, ◌≡◌, Bool, true, false, ◌&&◌, ◌||◌, List, [], ◌∷◌, length, get_or, set, Option, Some, None, Result, Ok}
use Rattle.std.specs.Bool.{then_some}
use Rattle.std.specs.Int.Bits.{bit_and, bit_or}
use Rattle.basis.specs.KeySets.{has, plus, plus_if}
use Rattle.basis.specs.Numbers.{lowest}
use Rattle.table.specs.declared.Look.{Look}
use Rattle.table.specs.declared.refusals.Refused.{Refused}
use Rattle.table.specs.Checks.{refuse_at, first_of}
use Rattle.table.specs.Refusals.{result_check}
use Rattle.table.specs.Tables.{Table, p_at, q_at}
use Rattle.table.specs.Nodes.{fitting, left_node, right_node, names, bad_node}
use Rattle.table.specs.Reach.{process_node, link_root, reached_from, wrong_here, wrong_key}
use Rattle.table.specs.Sound.{Shaped}

-- the bits of a node's word: another node names it; its p, its q is a node; a process, a link reaches it; it reaches a
-- key that a process, that a link must not reach
abbrev pub named_bit : ℕ
named_bit = 0

abbrev pub left_bit : ℕ
left_bit = 1

abbrev pub right_bit : ℕ
right_bit = 2

abbrev pub process_bit : ℕ
process_bit = 3

abbrev pub link_bit : ℕ
link_bit = 4

abbrev pub not_process_bit : ℕ
not_process_bit = 5

abbrev pub not_link_bit : ℕ
not_link_bit = 6

-- the word of a node by which processes and links start to be handed on
abbrev pub first_word : Bool → Bool → Bool → Bool → ℕ
first_word left right process link = plus_if (plus_if (plus_if (plus_if 0 left_bit left) right_bit right) process_bit process) link_bit link

abbrev pub is_marked : List ℕ → ℕ → ℕ → Bool
is_marked words bit x = has (get_or words x 0) bit

-- the bits that a node of this kind and party has by itself: of keys alone
abbrev pub own_bits : ℕ → ℕ → ℕ
own_bits k party = plus_if (plus_if 0 not_process_bit (wrong_here k party true false)) not_link_bit (wrong_here k party false true)

-- the word of a node, and whether it has a bit, if there is one
abbrev pub word_of : List ℕ → Option ℕ → ℕ
word_of words None = 0
word_of words (Some x) = get_or words x 0

abbrev pub has_marked : List ℕ → ℕ → Option ℕ → Bool
has_marked words bit None = false
has_marked words bit (Some x) = is_marked words bit x

-- the bits that a node has from those that it names: 96 has the last two bits
abbrev pub risen : List ℕ → Look → ℕ
risen words l = bit_and 96 (bit_or (word_of words l.left) (word_of words l.right))

-- by its word, a node that is a process node, the root of a link, reaches what it must not
abbrev pub doubted : Bool → Bool → ℕ → Bool
doubted process link w = (process && has w not_process_bit) || (link && has w not_link_bit)

-- the word of a node is changed, if there is one
abbrev pub changed : (ℕ → ℕ) → List ℕ → Option ℕ → List ℕ
changed change words None = words
changed change words (Some x) = set words x (change (get_or words x 0))

-- to that of a node which is named too, by one that a process, a link reaches
abbrev pub marking : Bool → Bool → ℕ → ℕ
marking process link w = plus_if (plus_if (plus w named_bit) process_bit process) link_bit link

module _ (process link : Bool) where
  -- one node marked: whether it was named before, and the words after
  pub record Mark (before after : List ℕ) (node : Option ℕ) (there : Bool) : Type 0 where
    pub is : there ≡ has_marked before named_bit node
    pub leaves : after ≡ changed (marking process link) before node

  -- two, one after the other: whether one of them was
  pub record TwoMarks (before after : List ℕ) (first second : Option ℕ) (there : Bool) : Type 0 where
    pub is : there ≡ (has_marked before named_bit first || has_marked (changed (marking process link) before first) named_bit second)
    pub leaves : after ≡ changed (marking process link) (changed (marking process link) before first) second

-- what is found of node n where its fields fit
pub record Looked (t : Table) (n : ℕ) (l : Look) : Type 0 where
  pub fit : fitting t n ≡ true
  pub left : l.left ≡ then_some (left_node t n) (p_at t n)
  pub right : l.right ≡ then_some (right_node t n) (q_at t n)

-- a bit of the words shows a test of the first n nodes
abbrev pub Shows : List ℕ → ℕ → ℕ → (ℕ → Bool) → Type 0
Shows words bit n test = (m : ℕ) → m < n → is_marked words bit m ≡ test m

-- the words show of the first n nodes which fields are nodes, and where processes and links start
pub record Shown (t : Table) (words : List ℕ) (n : ℕ) : Type 0 where
  pub left : Shows words left_bit n (left_node t)
  pub right : Shows words right_bit n (right_node t)
  pub process : Shows words process_bit n (process_node t)
  pub link : Shows words link_bit n (link_root t)

-- what looking for a bad node answers: refusal 4; where there is none and it is not doubtful, no key is wrong
pub record Bad (t : Table) (r : Result Bool Refused) : Type 0 where
  pub check : result_check r ≡ first_of (refuse_at 4 t.sizes.nodes (lowest (bad_node t) t.sizes.nodes) ∷ [])
  pub sure : r ≡ Ok false → (k : ℕ) → k < t.sizes.nodes → wrong_key t k ≡ false

-- the nodes from i up have handed on a bit: only reached nodes have it, all starts, and what the reached of those name
pub record Handed (t : Table) (words : List ℕ) (bit : ℕ) (start : ℕ → Bool) (i : ℕ) : Type 0 where
  pub sound : (m : ℕ) → m < t.sizes.nodes → is_marked words bit m ≡ true → reached_from t start m ≡ true
  pub starts : (m : ℕ) → m < t.sizes.nodes → start m ≡ true → is_marked words bit m ≡ true
  pub named : (k m : ℕ) → i ≤ k → k < t.sizes.nodes → reached_from t start k ≡ true → names t k m ≡ true → is_marked words bit m ≡ true

-- the words then
pub record Above (t : Table) (words : List ℕ) (i : ℕ) : Type 0 where
  pub left : Shows words left_bit t.sizes.nodes (left_node t)
  pub right : Shows words right_bit t.sizes.nodes (right_node t)
  pub process : Handed t words process_bit (process_node t) i
  pub link : Handed t words link_bit (link_root t) i

-- node i is next: what visiting it asks, and does
pub record Descends (t : Table) (words : List ℕ) (i : ℕ) : Type 0 where
  pub shaped : Shaped t
  pub long : t.sizes.nodes ≤ length words
  pub inside : i < t.sizes.nodes
  pub fit : (k : ℕ) → k < t.sizes.nodes → fitting t k ≡ true
  pub above : Above t words (i + 1)

pub record Visit (t : Table) (words : List ℕ) (i : ℕ) (wrong : Bool) : Type 0 where
  pub is : wrong ≡ wrong_key t i
  pub above : Above t words i

-- the lowest number below n that passes, if one does
abbrev pub LowestOf : (ℕ → Bool) → ℕ → Option ℕ → Type 0
LowestOf test n None = (k : ℕ) → k < n → test k ≡ false
LowestOf test n (Some x) = (x < n) × (x ≡ lowest test n)
