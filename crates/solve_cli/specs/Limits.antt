-- The limits on the bytes that are taken of an input. That of a model text is `most_bytes` of the crate `mps_fields`.
use Rattle.std.specs.Prelude.{ℕ, ◌+◌, List, take, drop}

-- a proof text has at most 2^28 bytes
abbrev pub most_proof_bytes : ℕ
most_proof_bytes = 268435456

-- what is taken of an input under a limit: all of it, or one byte more than the limit, to see that there are too many
unfoldable pub taken : ℕ → List ℕ → List ℕ
taken limit input = take (limit + 1) input

-- what is left of it then
unfoldable pub untaken : ℕ → List ℕ → List ℕ
untaken limit input = drop (limit + 1) input
