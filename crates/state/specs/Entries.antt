-- An agent's entry for a stigmergy key, and the clock that its stamp comes from.
use Rattle.std.specs.Prelude.{ℕ, ◌+◌, Bool, true, false, cond, List, eqb, ltb, get_or, set}
use Rattle.state.specs.declared.Store.TheVariants.{Entries}
use Rattle.state.specs.declared.Entry.{Entry}
use Rattle.state.specs.declared.Insertion.{Insertion}
use Rattle.state.specs.declared.Insertion.TheVariants.{Add, Update, Discard}
use Rattle.state.specs.Layout.{clock_at, writer_at, word_of, stamp_of, writer_of, put}

abbrev pub entry : ℕ → ℕ → ℕ → Entry
entry v stamp writer = record { value = v; stamp = stamp; writer = writer }

-- agent a's entry for key k; where there is none, its stamp is 0
abbrev pub entry_of : List ℕ → ℕ → ℕ → Entry
entry_of s a k = entry (word_of s (Entries a) k) (stamp_of s a k) (writer_of s a k)

-- the first is newer than the second; any entry is newer than none
abbrev pub newer : Entry → Entry → Bool
newer e f = ltb f.stamp e.stamp

-- Table 1: by which rule e is inserted where f is. What has stamp 0 is no entry: any is added there, and it is inserted nowhere
abbrev pub insertion : Entry → Entry → Insertion
insertion e f = cond (newer e f) (cond (eqb f.stamp 0) Add Update) Discard

abbrev pub is_add : Insertion → Bool
is_add Add = true
is_add Update = false
is_add Discard = false

abbrev pub is_update : Insertion → Bool
is_update Add = false
is_update Update = true
is_update Discard = false

-- agent a's entry for key k becomes e
abbrev pub put_entry : ℕ → ℕ → Entry → List ℕ → List ℕ
put_entry a k e s = set (put (Entries a) k e.value e.stamp s) (writer_at a k) e.writer

-- THE CLOCK: the highest stamp so far. A write takes the next stamp; a clock at its limit has none
abbrev pub clock_limit : ℕ
clock_limit = 65535

abbrev pub clock_of : List ℕ → ℕ
clock_of s = get_or s clock_at 0

abbrev pub next_stamp : List ℕ → ℕ
next_stamp s = clock_of s + 1

abbrev pub set_clock : ℕ → List ℕ → List ℕ
set_clock stamp s = set s clock_at stamp
