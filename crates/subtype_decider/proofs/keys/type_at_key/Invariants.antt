use Rattle.std.proofs.Common.{◌≡◌, drop}
use Rattle.type_model.specs.Places.{key_type}
use Rattle.subtype_decider.proofs.keys.type_at_key.Given as goal

abbrev pub invariant-loop-f : goal.invariant-loop-f
invariant-loop-f l = key_type l.fields l.rest l.key ≡ key_type (drop l.f-index l.fields) l.rest l.key
