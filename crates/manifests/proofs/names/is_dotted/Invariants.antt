use Rattle.std.proofs.Common.{◌≡◌, drop}
use Rattle.manifests.specs.Names.{is_dotted_name}
use Rattle.manifests.specs.inner.Parts.{rest_is}
use Rattle.manifests.proofs.names.is_dotted.Given as goal

-- the text is a dotted name where what is left of it makes it one
abbrev pub invariant-loop-c : goal.invariant-loop-c
invariant-loop-c l = rest_is l.part (drop l.c-index l.text) ≡ is_dotted_name l.text
