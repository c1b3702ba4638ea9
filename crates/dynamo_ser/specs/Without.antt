-- The pairs of a map without one of them.
use Rattle.std.specs.Prelude.{◌≡◌, ◌⊎◌}
use Rattle.dynamo_ser.specs.Datum.{Datum, Pairs, no_pairs, pair}

-- the pairs are the others with this one somewhere among them
abbrev pub Without : Pairs → Datum → Datum → Pairs → Type 0
Without no_pairs l e others = ⊥
Without (pair k d ps) l e others = ((k ≡ l) × (d ≡ e) × (others ≡ ps)) ⊎ ((rest : Pairs) × (others ≡ pair k d rest) × Without ps l e rest)
