-- Places of nodes that are split by single columns.
use Rattle.std.specs.Prelude.{◌≡◌, ℕ}
use Rattle.exact_nodes.specs.declared.excuse.Excuse.{Excuse}
use Rattle.slice_branch.specs.declared.place.Place.{Place}
use Rattle.slice_branch.specs.declared.place.Place.TheVariants.{Settled, Framed, Plain}

-- such a place, which keeps this excuse; so many slices lead to the first such node
abbrev pub IsPlainPlace : Excuse → ℕ → Place → Type 0
IsPlainPlace excuse depth (Settled move) = ⊥
IsPlainPlace excuse depth (Framed node) = ⊥
IsPlainPlace excuse depth (Plain node) = (node.excuse.value ≡ excuse) × (node.depth ≡ depth)
