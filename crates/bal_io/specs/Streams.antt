-- What the calls on a stream of the system say of its bytes, where a stream tells them.
use Rattle.std.specs.Prelude.{⊤, ℕ, List, Option, Some, None, Bool, true, false}
use Rattle.bal_io.specs.declared.std_sink.Stream.{Stream}
use Rattle.bal_io.specs.declared.std_sink.Stream.TheVariants.{Output, Diagnostics}

-- where the bytes are known before a call, they are known after it, and the relation holds of the two
abbrev pub IfKnown : (List ℕ → List ℕ → Type 0) → Option (List ℕ) → Option (List ℕ) → Type 0
IfKnown R None new = ⊤
IfKnown R (Some old) None = ⊥
IfKnown R (Some old) (Some new) = R old new

-- what was written to the stream, as far as it tells
abbrev pub stream_contents : {O D : Type 0} → (O → Option (List ℕ)) → (D → Option (List ℕ)) → Stream O D → Option (List ℕ)
stream_contents output diagnostics (Output stream) = output stream
stream_contents output diagnostics (Diagnostics stream) = diagnostics stream

-- the stream is the one for diagnostics
abbrev pub is_diagnostics : {O D : Type 0} → Stream O D → Bool
is_diagnostics (Output _) = false
is_diagnostics (Diagnostics _) = true
