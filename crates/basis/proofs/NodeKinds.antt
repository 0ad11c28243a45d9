-- The byte of the kind that an arm of a match names.
use Prim.Native.Nat.{ℕ}
use mathlib.Core.Path.{◌≡◌, sym, ap, ◌∙◌}
use Rattle.basis.specs.NodeKinds.{number_of}
use Rattle.basis.specs.declared.node_kinds.NodeKind.{NodeKind}

pub named_is : {byte : ℕ} {found : NodeKind} (k : NodeKind) → found ≡ k → number_of found ≡ byte → byte ≡ number_of k
named_is k e h = sym h ∙ ap number_of e
