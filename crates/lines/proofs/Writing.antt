-- Laws of texts in a lent buffer: nothing written, and one text after another.
-- Assumes nothing.
use Prim.Native.Nat.{ℕ, suc, ◌+◌, ◌≤◌}
use mathlib.Core.Path.{◌≡◌, refl, sym, ap, subst, ◌∙◌}
use mathlib.Core.List.{List, [], ◌∷◌, ◌++◌, append_assoc}
use native.Mathlib.Omega.{arith}
use lib.ListN.{length, take, drop, length-append, length-drop}
use lib.Seq.{take_at, drop_at, drop-drop, length-take-le, paste-zero}
use Rattle.lines.specs.Text.{spaced, line}
use Rattle.lines.specs.Writing.{Wrote}

-- of an equal text
pub wrote_same : {t u : List ℕ} {at : ℕ} {was out : List ℕ} {r : ℕ} → t ≡ u → Wrote t at was out r → Wrote u at was out r
wrote_same {at = at} {was = was} {out = out} {r = r} e w = subst (λ (s : List ℕ). Wrote s at was out r) e w

pub wrote_nothing : {at : ℕ} {was : List ℕ} → at ≤ length was → Wrote [] at was was at
wrote_nothing {at} {was} h = record { room = record { fits = omega arith }; ends = omega arith; is = paste-zero was at [] }

pub wrote_length : {text : List ℕ} {at : ℕ} {was out : List ℕ} {r : ℕ} → Wrote text at was out r → length out ≡ length was
wrote_length {text} {at} {was} w =
    let f = w.room in
    omega (
      arith,
      ap length w.is,
      length-append (take at was ++ text) (drop (at + length text) was),
      length-append (take at was) text,
      length-take-le at was (omega arith),
      length-drop (at + length text) was,
    )

-- what stands at the front
pub wrote_front : {text was out : List ℕ} {r : ℕ} → Wrote text 0 was out r → take r out ≡ text
wrote_front {text} {was} {out} {r} w = ap (take r) w.is ∙ take_at text (drop (0 + length text) was) r (omega (arith, w.ends))

-- a text after another is both
module _ {t u : List ℕ} {at : ℕ} {was mid out : List ℕ} {m r : ℕ} (v : Wrote t at was mid m) (w : Wrote u m mid out r) where
  head : length (take at was ++ t) ≡ m
  head = let f = v.room in omega (arith, v.ends, length-append (take at was) t, length-take-le at was (omega arith))

  before : take m mid ≡ take at was ++ t
  before = ap (take m) v.is ∙ take_at (take at was ++ t) (drop (at + length t) was) m head

  after : drop (m + length u) mid ≡ drop (at + length (t ++ u)) was
  after =
      let e : at + length t + length u ≡ at + length (t ++ u) = omega (arith, length-append t u) in
      sym (drop-drop (length u) m mid)
      ∙ ap (λ (l : List ℕ). drop (length u) (drop m l)) v.is
      ∙ ap (drop (length u)) (drop_at (take at was ++ t) (drop (at + length t) was) m head)
      ∙ drop-drop (length u) (at + length t) was
      ∙ ap (λ (n : ℕ). drop n was) e

  pub wrote_then : Wrote (t ++ u) at was out r
  wrote_then = record {
    room = record { fits = omega (arith, v.ends, w.room, wrote_length v, length-append t u) };
    ends = omega (arith, v.ends, w.ends, length-append t u);
    is =
        w.is
        ∙ ap (λ (l : List ℕ). l ++ u ++ drop (m + length u) mid) before
        ∙ ap (λ (l : List ℕ). take at was ++ t ++ u ++ l) after
        ∙ ap (λ (l : List ℕ). l ++ drop (at + length (t ++ u)) was) (append_assoc (take at was) t u);
  }

-- how long a line is: each part has a space before it, and there is a newline
abbrev pub sizes : List (List ℕ) → ℕ
sizes [] = 1
sizes (part ∷ parts) = suc (length part) + sizes parts

pub spaced_size : (parts : List (List ℕ)) → length (spaced parts) ≡ sizes parts
unfolding spaced
spaced_size [] = refl
spaced_size (part ∷ parts) = ap suc (length-append part (spaced parts)) ∙ ap (λ (n : ℕ). suc (length part + n)) (spaced_size parts) ∙ omega arith

pub line_size : (name : List ℕ) (parts : List (List ℕ)) → length (line name parts) ≡ length name + sizes parts
unfolding line
line_size name parts = length-append name (spaced parts) ∙ ap (λ (n : ℕ). length name + n) (spaced_size parts)
