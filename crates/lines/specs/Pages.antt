-- What code asks of a page, and what it leaves there.
use Rattle.std.specs.Prelude.{ℕ, ◌+◌, ◌≤◌, ◌≡◌, List, [], length, ℤ, pos, negsuc}
use Rattle.lines.specs.declared.page.Page.{Page}
use Rattle.lines.specs.Text.{ascii}
use Rattle.lines.specs.Sizes.{shown_bytes}
use Rattle.lines.specs.Writing.{Wrote}

-- there is room for a text after what is written
pub record HasRoom (text : List ℕ) (p : Page) : Type 0 where
  pub fits : p.len + length text ≤ length p.bytes.now

-- there is room for all that is printed
abbrev pub HasRoomForAll : Page → Type 0
HasRoomForAll p = p.len + shown_bytes ≤ length p.bytes.now

-- the text follows what was written, in the same buffer
pub record Writes (text : List ℕ) (was now : Page) : Type 0 where
  pub wrote : Wrote text was.len was.bytes.now now.bytes.now now.len
  pub buffer : now.bytes.ghost_name ≡ was.bytes.ghost_name

-- what stands before the digits of a number
abbrev pub sign : ℤ → List ℕ
sign (pos n) = []
sign (negsuc n) = ascii "-"
